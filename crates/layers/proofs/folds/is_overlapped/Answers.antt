use Rattle.std.proofs.Common.{rules, tests}
use Rattle.view.specs.Orders.{overlaps}
use Rattle.tables.specs.Folds.{fold_mark}
use Rattle.tables.specs.Tables.{records_of}
use Rattle.layers.proofs.Searching.{any_marks}
use Rattle.layers.proofs.folds.is_overlapped.Goals as goal

pub returns : goal.returns
returns c =
    any_marks fold_mark (overlaps c.args.a c.args.b) (records_of c.args.table.now) _ c.iter.result _ _ c.any.result
    (cc) (λ x b f' k. search (rules, tests)) c.any.ensures.ran

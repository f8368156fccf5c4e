use Rattle.std.proofs.Common.{take, ◌∙◌}
use Rattle.tables.specs.Folds.{fold_mark}
use Rattle.tables.proofs.Marking.{taken_sum}
use Rattle.tables.proofs.fold.FoldRecord.taken_before.Goals as goal

pub returns : goal.returns
returns c = c.running_sum.ensures.value ∙ taken_sum fold_mark (take c.args.n c.args.records.now)

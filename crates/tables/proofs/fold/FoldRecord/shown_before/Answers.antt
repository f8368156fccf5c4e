use Rattle.std.proofs.Common.{sym, ◌∙◌}
use Rattle.tables.proofs.Marking.{first_folds_show}
use Rattle.tables.proofs.fold.FoldRecord.shown_before.Goals as goal

pub returns : goal.returns
returns c = c.min.ensures ∙ sym (first_folds_show c.args.n c.args.records.now)

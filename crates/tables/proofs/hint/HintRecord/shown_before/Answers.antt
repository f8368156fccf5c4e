use Rattle.std.proofs.Common.{take, ◌∙◌}
use Rattle.tables.specs.Hints.{hint_mark}
use Rattle.tables.proofs.Marking.{shown_sum}
use Rattle.tables.proofs.hint.HintRecord.shown_before.Goals as goal

pub returns : goal.returns
returns c = c.running_sum.ensures.value ∙ shown_sum hint_mark (take c.args.n c.args.records.now)

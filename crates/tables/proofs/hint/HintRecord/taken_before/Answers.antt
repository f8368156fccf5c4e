use Rattle.std.proofs.Common.{take, sym}
use Rattle.tables.proofs.Marking.{hints-take}
use Rattle.tables.proofs.hint.HintRecord.taken_before.Goals as goal

pub returns : goal.returns
returns c = sym (hints-take (take c.args.n c.args.records.now))

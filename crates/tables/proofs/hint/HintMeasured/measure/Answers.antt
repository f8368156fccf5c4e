use Rattle.std.proofs.Common.{arith, length-take}
use Rattle.tables.proofs.hint.HintMeasured.measure.Goals as goal

pub returns : goal.returns
returns c = omega (arith, length-take c.args.self.now.len c.args.self.now.codes)

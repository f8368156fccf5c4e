use Rattle.std.proofs.Common.{arith}
use Rattle.codes.proofs.Running.{running_front}
use Rattle.codes.proofs.sums.running_sum.Goals as goal

pub loop-record-preserved : goal.loop-record-preserved
loop-record-preserved g c = grind (arith, running_front, c.in-Some.ensures.steps)

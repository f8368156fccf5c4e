use Rattle.std.proofs.Common.{◌≡◌, ◌+◌}
use Rattle.codes.specs.Sums.{running_sum}
use Rattle.codes.proofs.sums.first_passing.Given as goal

abbrev pub invariant-loop-index : goal.invariant-loop-index
invariant-loop-index g l = l.left + running_sum g.R.Measured.size l.records l.index ≡ l.limit

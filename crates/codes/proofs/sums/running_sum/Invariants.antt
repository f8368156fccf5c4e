use Rattle.std.proofs.Common.{◌≡◌, ◌+◌, ◌*◌, ◌≤◌, length}
use Rattle.codes.specs.Sums.{running_sum}
use Rattle.codes.proofs.sums.running_sum.Given as goal

-- what is left adds up to the rest of the sum
abbrev pub invariant-loop-record : goal.invariant-loop-record
invariant-loop-record g l =
    (l.sum + running_sum g.R.Measured.size l.record-iterator.iter.rest.now l.record-iterator.n ≡ running_sum g.R.Measured.size l.records l.n) ×
    (l.sum + 4294967295 * length l.record-iterator.iter.rest.now ≤ 4294967295 * length l.records)

use Rattle.std.proofs.Common.{◌≡◌, ◌-◌, ◌≤◌, max, take, drop, vec_items}
use Rattle.document.proofs.stretch.stretch.Given as goal

-- the codes so far are those from the start up to here
abbrev pub invariant-loop-i : goal.invariant-loop-i
invariant-loop-i g l = (l.i ≤ max l.from l.to) × (vec_items l.codes ≡ take (l.i - l.from) (drop l.from (g.B.Buffer.doc l.buffer)))

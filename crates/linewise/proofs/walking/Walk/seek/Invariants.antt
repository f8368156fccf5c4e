use Rattle.std.proofs.Common.{◌≤◌}
use Rattle.view.specs.Seen.{text_at}
use Rattle.linewise.proofs.Walks.{Walked}
use Rattle.linewise.proofs.walking.Walk.seek.Given as goal

-- the place has not been passed yet
abbrev pub invariant-loop-i : goal.invariant-loop-i
invariant-loop-i g l = record { walked : Walked (g.S.Scan.transducer l.self.scan) (text_at g.V.Meaning l.self.below.now) l.i l.reach l.state; low : l.reach ≤ l.u }

use Rattle.view.specs.Seen.{text_at}
use Rattle.linewise.proofs.Walks.{Walked}
use Rattle.linewise.proofs.walking.Walk.reach.Given as goal

abbrev pub invariant-loop-i : goal.invariant-loop-i
invariant-loop-i g l = Walked (g.S.Scan.transducer l.self.scan) (text_at g.V.Meaning l.self.below.now) l.i l.reach l.state

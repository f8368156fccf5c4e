use Rattle.std.proofs.Common.{arith}
use Rattle.linewise.proofs.Walks.{walked_more}
use Rattle.linewise.proofs.walking.Walk.reach.Goals as goal

pub loop-i-preserved : goal.loop-i-preserved
loop-i-preserved g c =
    walked_more _ _ c.loop-i.i c.loop-i.reach c.loop-i.state c.code_at-code.result c.size-reach.result c.loop-i.invariant (omega (arith, c.requires.within)) c.code_at-code.ensures c.size-reach.ensures
    _ (g.met.S.Scan.bounded c.args.self.now.scan) c.next-state.ensures

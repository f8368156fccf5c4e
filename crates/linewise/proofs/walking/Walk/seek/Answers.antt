use Rattle.std.proofs.Common.{arith}
use Rattle.linewise.proofs.Walks.{walked_more, spot_here, spot_past}
use Rattle.linewise.proofs.walking.Walk.seek.Goals as goal

pub returns-then-u-reach : goal.returns-then-u-reach
returns-then-u-reach g c =
    let spot =
    spot_here _ _ c.loop-i.i c.loop-i.reach c.loop-i.state c.code_at-code.result c.size-size.result c.loop-i.invariant.walked (omega arith) c.code_at-code.ensures c.size-size.ensures
    c.args.u (g.met.S.Scan.steady c.args.self.now.scan) c.loop-i.invariant.low (omega arith) _ c.shown.ensures in
    record { under = spot.0; code = spot.1 }

pub loop-i-preserved : goal.loop-i-preserved
loop-i-preserved g c = record {
  walked =
      walked_more _ _ c.loop-i.i c.loop-i.reach c.loop-i.state c.code_at-code.result c.size-size.result c.loop-i.invariant.walked (omega arith) c.code_at-code.ensures c.size-size.ensures
      _ (g.met.S.Scan.bounded c.args.self.now.scan) c.next-state.ensures;
  low = omega (arith, c.loop-i.invariant.low);
}

pub returns : goal.returns
returns g c =
    let spot = spot_past _ _ c.loop-i.i c.loop-i.reach c.loop-i.state c.args.u c.loop-i.invariant.walked (omega arith) (g.met.S.Scan.steady c.args.self.now.scan) c.loop-i.invariant.low c.requires.within _ c.len-len.ensures in
    record { under = spot.0; code = spot.1 }

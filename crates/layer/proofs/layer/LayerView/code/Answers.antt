use Rattle.std.proofs.Common.{length, sym, ap, ◌∙◌, arith}
use Rattle.layer.specs.Stacking.{text_awake}
use Rattle.layer.specs.Carrying.{Lawful, sound_over}
use Rattle.layer.proofs.layer.LayerView.code.Goals as goal

pub code-requires-2 : goal.code-requires-2
code-requires-2 g c =
    let v = c.args.self.now.below in
    let r = g.K.Kind.records c.args.self.now.kind in
    let s = c.requires in
    let law : (z : g.row.V.Denot) → g.V.Meaning.sound z → Lawful g.V.Meaning z = λ z s. record { sound = s; fits = g.met.V.View.fits z s; small = g.met.V.View.small z s } in
    let t = ap length (text_awake g.V.Meaning.most r (g.V.Meaning.stack v) (g.V.Meaning.doc v) (sym s.knows ∙ c.if-not-self.false)) in
    record { over = sound_over g.V.Meaning v (law v s.below) r _ _ _ s c.if-not-self.false; within = omega (arith, s.sized, c.if-u-self.false) }

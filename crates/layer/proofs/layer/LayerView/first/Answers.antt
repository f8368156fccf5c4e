use Rattle.std.proofs.Common.{sym, ap, ◌∙◌, arith}
use Rattle.view.specs.Layers.{first}
use Rattle.view.specs.Seen.{text_at}
use Rattle.layer.specs.Stacking.{stack_finds, first_awake}
use Rattle.layer.specs.Carrying.{Lawful, sound_over, sound_fits}
use Rattle.layer.proofs.layer.LayerView.first.Goals as goal

pub first-requires-2 : goal.first-requires-2
first-requires-2 g c =
    let v = c.args.self.now.below in
    let r = g.K.Kind.records c.args.self.now.kind in
    let e = g.V.Meaning in
    let s = c.requires in
    let law : (z : g.row.V.Denot) → g.V.Meaning.sound z → Lawful g.V.Meaning z = λ z s. record { sound = s; fits = g.met.V.View.fits z s; small = g.met.V.View.small z s } in
    let answer = c.in_ok-l.ensures in
    let inside = (stack_finds e.most (e.stack v) (e.doc v) (law v s.below).fits).first_in c.args.p answer.0 in
    record { over = sound_over e v (law v s.below) r _ _ _ s c.if-not-self.false; within = omega (arith, answer.1) }

pub returns : goal.returns
returns g c =
    let v = c.args.self.now.below in
    let r = g.K.Kind.records c.args.self.now.kind in
    let e = g.V.Meaning in
    let s = c.requires in
    let law : (z : g.row.V.Denot) → g.V.Meaning.sound z → Lawful g.V.Meaning z = λ z s. record { sound = s; fits = g.met.V.View.fits z s; small = g.met.V.View.small z s } in
    let answer = c.in_ok-l.ensures in (
      answer.0,
      c.first-2.ensures ∙ ap (first r (text_at e v)) answer.1
          ∙ first_awake e.most r (e.stack v) (e.doc v) (sound_fits e v (law v s.below) r _ _ _ s) c.args.p answer.0 (sym s.knows ∙ c.if-not-self.false),
    )

use Rattle.std.proofs.Common.{◌∷◌, length, sym, ap, ◌∙◌, arith}
use Rattle.places.proofs.Finding.{under_in}
use Rattle.view.specs.Layers.{under}
use Rattle.view.specs.Stacks.{text_of, under_of}
use Rattle.view.specs.Seen.{text_at}
use Rattle.view.proofs.Answering.{place_through}
use Rattle.layer.specs.Fitting.{fit_finds}
use Rattle.layer.specs.Stacking.{text_awake, under_awake}
use Rattle.layer.specs.Carrying.{Lawful, sound_over}
use Rattle.layer.proofs.layer.LayerView.under.Goals as goal

pub under-l-requires : goal.under-l-requires
under-l-requires g c =
    let v = c.args.self.now.below in
    let r = g.K.Kind.records c.args.self.now.kind in
    let s = c.requires in
    let law : (z : g.row.V.Denot) → g.V.Meaning.sound z → Lawful g.V.Meaning z = λ z s. record { sound = s; fits = g.met.V.View.fits z s; small = g.met.V.View.small z s } in
    let t = ap length (text_awake g.V.Meaning.most r (g.V.Meaning.stack v) (g.V.Meaning.doc v) (sym s.knows ∙ c.if-not-self.false)) in
    record { over = sound_over g.V.Meaning v (law v s.below) r _ _ _ s c.if-not-self.false; within = omega (arith, s.sized, c.if-u-self.false) }

pub returns : goal.returns
returns g c =
    let v = c.args.self.now.below in
    let r = g.K.Kind.records c.args.self.now.kind in
    let e = g.V.Meaning in
    let s = c.requires in
    let up = sym s.knows ∙ c.if-not-self.false in
    let law : (z : g.row.V.Denot) → g.V.Meaning.sound z → Lawful g.V.Meaning z = λ z s. record { sound = s; fits = g.met.V.View.fits z s; small = g.met.V.View.small z s } in
    let t = ap length (text_awake e.most r (e.stack v) (e.doc v) up) in
    let over = sound_over e v (law v s.below) r _ _ _ s c.if-not-self.false in
    let inside = under_in (fit_finds r (text_at e v) over.fit) c.args.u (omega (arith, s.sized, c.if-u-self.false)) in
    place_through (under r (text_at e v)) (under_of e.most (e.stack v) (e.doc v)) (under_of e.most (r ∷ e.stack v) (e.doc v)) (length (text_of e.most (r ∷ e.stack v) (e.doc v))) (length (text_at e v)) _ c.args.u _ (omega (arith, s.sized, c.if-u-self.false)) inside c.under-l.ensures
    (under_awake e.most r (e.stack v) (e.doc v) up c.args.u) c.under-2.ensures

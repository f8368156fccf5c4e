use Rattle.std.proofs.Common.{ℕ, leb, length, sym, ap, ◌∙◌, subst, arith}
use Rattle.view.specs.Layers.{Records, growth, Fit}
use Rattle.view.specs.Stacks.{ceiling_of}
use Rattle.view.specs.Seen.{text_at}
use Rattle.std.proofs.lemmas.Grind.{common_steps}
use Rattle.std.proofs.lemmas.Bool.Decides.{nat_tests}
use Rattle.layer.specs.Carrying.{Lawful, over}
use Rattle.layer.proofs.layer.LayerView.open.Goals as goal

pub len-len-requires : goal.len-len-requires
len-len-requires g c =
    let v = c.open-below.result in
    let e = g.V.Meaning in
    let k = c.new-kind.result in
    let law : (z : g.row.V.Denot) → g.V.Meaning.sound z → Lawful g.V.Meaning z = λ z s. record { sound = s; fits = g.met.V.View.fits z s; small = g.met.V.View.small z s } in
    let P : Records → Type 0 = λ r. Fit r (length (text_at e v)) in
    let low = c.ceiling-low.ensures in
    let grows = ap (λ (r : Records). growth r (ceiling_of e.most (e.stack v))) c.new-kind.ensures in
    let top = ap (λ (n : ℕ). leb (growth g.K.Kind.initial n) 1073741824) (sym low) in
    over e v (law v c.open-below.ensures.sound) (g.K.Kind.records k)
    (ap (λ (n : ℕ). leb n 1073741824) grows ∙ top ∙ grind (arith, common_steps, nat_tests))
    (subst P (sym c.new-kind.ensures) (g.met.K.Kind.begins (length (text_at e v))))

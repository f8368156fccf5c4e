use Rattle.std.proofs.Common.{◌≡◌, ℕ, List, length, sym, refl, ap, subst}
use Rattle.std.specs.Option.{option_map}
use Rattle.buffer.specs.Documents.{edited}
use Rattle.buffer.proofs.Refusing.{edit_inside}
use Rattle.places.specs.Changes.{Keeps}
use Rattle.view.specs.Refusals.{at_layer}
use Rattle.view.proofs.Editing.{edited_keeps}
use Rattle.view.proofs.bare.BareView.edit.Goals as goal

kept : (d e : List ℕ) (a r : ℕ) (w : List ℕ) → e ≡ edited d a r w → Keeps d (edited d a r w) a r (length w) → Keeps d e a r (length w)
kept d e a r w h k = let P : List ℕ → Type 0 = λ z. Keeps d z a r (length w) in subst P (sym h) k

pub returns : goal.returns
returns g c =
    let e = c.in_ok-edit.ensures.does in
    let d = g.B.Buffer.doc c.args.self.now.store in
    record {
      sound = tt;
      does = (ap (option_map (at_layer 1)) e.0, e.1, e.2, (refl, refl, kept d _ c.args.a c.args.r c.args.w.now e.1 (edited_keeps d c.args.a c.args.r c.args.w.now (edit_inside _ _ _ _ _ e.0))));
    }

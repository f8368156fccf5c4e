-- A sound layer that has carried out an order of its own. Assumes nothing.
use Rattle.std.proofs.Common.{◌≡◌, ℕ, ◌≤◌, Bool, true, List, ◌∷◌, length, None, sym, refl, ap, ◌∙◌, subst}
use Rattle.std.proofs.lemmas.Bool.Decides.{when_true}
use Rattle.places.specs.declared.change.Change.{Change}
use Rattle.places.specs.Changes.{Kept}
use Rattle.places.proofs.Finding.{first_le}
use Rattle.view.specs.declared.order.Order.{Order}
use Rattle.view.specs.Layers.{Records, shown, growth, Fit}
use Rattle.view.specs.Orders.{own_refusal, obeyed, obeyed_change}
use Rattle.view.specs.Stacks.{awake, text_of, under_of}
use Rattle.view.specs.declared.view.Meaning.{Ghosts as Eyes}
use Rattle.view.specs.Seen.{text_at, first_at}
use Rattle.view.specs.Kinds.{Over}
use Rattle.layer.specs.Sound.{Sound}
use Rattle.layer.proofs.Obeying.{obeyed_kept, obeyed_fit}
use Rattle.layer.specs.Stacking.{text_awake, same_awake, same_ceiling, obeyed_growth}
use Rattle.layer.specs.Carrying.{Lawful, over, when_made}

module _ {V : Type 0} (e : Eyes V) (v : V) (lawful : Lawful e v) (r : Records) (len top : ℕ) (up : Bool) (s : Sound e v r len top up) (h : up ≡ true)
    (o : Order) (w : List ℕ) (q : Records)
    (taken : own_refusal r (length (e.doc v)) (first_at e v o.x) (first_at e v o.y) o w ≡ None)
    (is : q ≡ obeyed r (first_at e v o.x) (first_at e v o.y) o w) where
  place_le : (p : ℕ) → first_at e v p ≤ length (text_at e v)
  place_le p = first_le (under_of e.most (e.stack v) (e.doc v)) (length (text_at e v)) p

  fit : Fit q (length (text_at e v))
  fit =
      let P : Records → Type 0 = λ z. Fit z (length (text_at e v)) in
      subst P (sym is) (obeyed_fit r (text_at e v) (length (e.doc v)) (first_at e v o.x) (first_at e v o.y) o w (when_true _ _ h s.fits) taken (place_le o.x) (place_le o.y))

  same_kind : (n : ℕ) → growth q n ≡ growth r n
  same_kind n = ap (λ (z : Records). growth z n) is ∙ obeyed_growth r (first_at e v o.x) (first_at e v o.y) o w n

  still_awake : awake e.most q (e.stack v) ≡ awake e.most r (e.stack v)
  still_awake = same_awake e.most r q (e.stack v) (e.stack v) same_kind refl

  pub obeyed_over : Over e v q
  obeyed_over = over e v lawful q (still_awake ∙ sym s.knows ∙ h) fit

  text_then : text_of e.most (q ∷ e.stack v) (e.doc v) ≡ shown q (text_at e v)
  text_then = text_awake e.most q (e.stack v) (e.doc v) (still_awake ∙ sym s.knows ∙ h)

  pub obeyed_sound : (len' : ℕ) → len' ≡ length (shown q (text_at e v)) → Sound e v q len' top up
  obeyed_sound len' sized =
      record {
        below = s.below;
        knows = s.knows ∙ sym still_awake;
        sized = sized ∙ ap length (sym text_then);
        topped = s.topped ∙ sym (same_ceiling e.most r q (e.stack v) (e.stack v) same_kind refl);
        fits = when_made up _ _ (λ _. fit) (λ _. tt);
      }

  pub obeyed_text : (own : Change) → own ≡ obeyed_change r (text_at e v) (first_at e v o.x) (first_at e v o.y) o w
      → Kept (text_of e.most (r ∷ e.stack v) (e.doc v)) (text_of e.most (q ∷ e.stack v) (e.doc v)) own
  obeyed_text own change =
      let before = text_awake e.most r (e.stack v) (e.doc v) (sym s.knows ∙ h) in
      let kept = obeyed_kept r (text_at e v) (length (e.doc v)) (first_at e v o.x) (first_at e v o.y) o w (when_true _ _ h s.fits) taken (place_le o.x) (place_le o.y) in
      let P : List ℕ → Type 0 = λ z. Kept z (text_of e.most (q ∷ e.stack v) (e.doc v)) own in
      let Q : List ℕ → Type 0 = λ z. Kept (shown r (text_at e v)) z own in
      let R : Change → Type 0 = λ z. Kept (shown r (text_at e v)) (shown (obeyed r (first_at e v o.x) (first_at e v o.y) o w) (text_at e v)) z in
      subst P (sym before) (subst Q (sym (text_then ∙ ap (λ (z : Records). shown z (text_at e v)) is)) (subst R (sym change) kept))

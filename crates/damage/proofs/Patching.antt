-- Patching a list is keeping its front and its back, and two changes in a row are one. Assumes nothing.
use Rattle.std.proofs.Common.{◌≡◌, ℕ, ◌+◌, ◌-◌, ◌≤◌, min, max, List, ◌++◌, length, take, drop, sym, ap, ◌∙◌, append_assoc, arith, length-append, length-drop, take-append-drop, take-add}
use Rattle.std.proofs.lemmas.List.{length-take-le, take_at, drop_at, take-take, drop-drop}
use Rattle.places.specs.Changes.{Keeps}
use Rattle.places.proofs.Keeping.{keeps_length}
use Rattle.damage.specs.Damages.{patched}

module _ {X : Type 0} (old new : List X) (f p q : ℕ) where
  pub keeps_patched : Keeps old new f p q → patched old new f p q ≡ new
  keeps_patched k =
      let whole : (take f new ++ take q (drop f new)) ++ drop (f + q) new ≡ new = ap (λ z. z ++ drop (f + q) new) (sym (take-add f q new)) ∙ take-append-drop (f + q) new in
      cc (k.front, k.back, whole)

  pub patched_keeps : f + p ≤ length old → f + q ≤ length new → patched old new f p q ≡ new → Keeps old new f p q
  patched_keeps old_fits new_fits e =
      let front : length (take f old) ≡ f = length-take-le f old (omega arith) in
      let put : length (take q (drop f new)) ≡ q = length-take-le q (drop f new) (simp length-drop (omega arith)) in
      let both : length (take f old ++ take q (drop f new)) ≡ f + q = omega (arith, length-append (take f old) (take q (drop f new))) in
      record {
        front =
            ap (take f) (sym e ∙ append_assoc (take f old) (take q (drop f new)) (drop (f + p) old))
            ∙ take_at (take f old) (take q (drop f new) ++ drop (f + p) old) f front;
        back = ap (drop (f + q)) (sym e) ∙ drop_at (take f old ++ take q (drop f new)) (drop (f + p) old) (f + q) both;
        old_fits = old_fits;
        new_fits = new_fits;
      }

  -- a shorter front is kept too
  keeps_front : (j : ℕ) → Keeps old new f p q → j ≤ f → take j new ≡ take j old
  keeps_front j k h = sym (take-take j f new h) ∙ ap (take j) k.front ∙ take-take j f old h

  -- and a shorter back
  keeps_back : (i j : ℕ) → Keeps old new f p q → f + q ≤ j → i + q ≡ j + p → drop j new ≡ drop i old
  keeps_back i j k h e =
      let more : ℕ = j - (f + q) in
      let new_end : (f + q) + more ≡ j = omega arith in
      let old_end : (f + p) + more ≡ i = omega arith in
      ap (λ z. drop z new) (sym new_end) ∙ sym (drop-drop more (f + q) new) ∙ ap (drop more) k.back
      ∙ drop-drop more (f + p) old ∙ ap (λ z. drop z old) old_end

-- two changes in a row are one, from the least start f to the greatest end e
pub keeps_twice : {X : Type 0} (xs ys zs : List X) (f₁ p₁ q₁ f₂ p₂ q₂ f e : ℕ) → f ≡ min f₁ f₂ → e ≡ max (f₁ + q₁) (f₂ + p₂)
    → Keeps xs ys f₁ p₁ q₁ → Keeps ys zs f₂ p₂ q₂ → Keeps xs zs f (e - q₁ + p₁ - f) (e - p₂ + q₂ - f)
keeps_twice xs ys zs f₁ p₁ q₁ f₂ p₂ q₂ f e starts ends k l =
    let p : ℕ = e - q₁ + p₁ - f in
    let q : ℕ = e - p₂ + q₂ - f in
    let long₁ = keeps_length xs ys f₁ p₁ q₁ k in
    let long₂ = keeps_length ys zs f₂ p₂ q₂ l in
    let old_end : f + p + q₁ ≡ e + p₁ = omega arith in
    let new_end : f + q + p₂ ≡ e + q₂ = omega arith in
    record {
      front = keeps_front ys zs f₂ p₂ q₂ f l (omega arith) ∙ keeps_front xs ys f₁ p₁ q₁ f k (omega arith);
      back =
          keeps_back ys zs f₂ p₂ q₂ e (f + q) l (omega arith) (omega arith)
          ∙ keeps_back xs ys f₁ p₁ q₁ (f + p) e k (omega arith) (omega arith);
      old_fits = omega (arith, k.new_fits, l.old_fits);
      new_fits = omega (arith, k.new_fits, l.old_fits);
    }

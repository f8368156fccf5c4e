-- What a change keeps: its lengths, no change at all, and a change said more widely. Assumes nothing.
use Rattle.std.proofs.Common.{◌≡◌, ℕ, ◌+◌, ◌-◌, ◌≤◌, List, ◌++◌, length, take, drop, sym, refl, ap, ◌∙◌, append_assoc, arith, length-append, length-drop, take_at, drop_at}
use Rattle.std.proofs.lemmas.List.{drop-drop, take-take}
use Rattle.places.specs.Changes.{Keeps}

-- how the length changes
pub keeps_length : {X : Type 0} (before after : List X) (s o n : ℕ) → Keeps before after s o n → length after + o ≡ length before + n
keeps_length before after s o n k =
    omega (arith, ap length k.back, length-drop (s + n) after, length-drop (s + o) before, k.old_fits, k.new_fits)

-- what stays may be said to change
pub keeps_none : {X : Type 0} (xs : List X) (s o : ℕ) → s + o ≤ length xs → Keeps xs xs s o o
keeps_none xs s o h = record { front = refl; back = refl; old_fits = h; new_fits = h }

-- a change may be said to begin earlier and to end later
pub keeps_wider : {X : Type 0} (before after : List X) (s o n p q r : ℕ) → Keeps before after s o n
    → p ≤ s → s + o ≤ p + q → p + q ≤ length before → r + o ≡ q + n → Keeps before after p q r
keeps_wider before after s o n p q r k l h f e =
    let more : ℕ = p + q - (s + o) in
    let new_end : p + r ≡ (s + n) + more = omega arith in
    let old_end : (s + o) + more ≡ p + q = omega arith in
    record {
      front = sym (take-take p s after l) ∙ ap (take p) k.front ∙ take-take p s before l;
      back =
          ap (λ z. drop z after) new_end ∙ sym (drop-drop more (s + n) after) ∙ ap (drop more) k.back
          ∙ drop-drop more (s + o) before ∙ ap (λ z. drop z before) old_end;
      old_fits = f;
      new_fits = omega (arith, keeps_length before after s o n k);
    }

-- a middle part replaced by another
pub parts_keep : {X : Type 0} (a old new b : List X) → Keeps (a ++ (old ++ b)) (a ++ (new ++ b)) (length a) (length old) (length new)
parts_keep a old new b = record {
  front = take_at a (new ++ b) _ refl ∙ sym (take_at a (old ++ b) _ refl);
  back = behind new ∙ sym (behind old);
  old_fits = omega (arith, length-append a (old ++ b), length-append old b);
  new_fits = omega (arith, length-append a (new ++ b), length-append new b);
}
  where
    behind : (z : List _) → drop (length a + length z) (a ++ (z ++ b)) ≡ b
    behind z = ap (drop (length a + length z)) (sym (append_assoc a z b)) ∙ drop_at (a ++ z) b _ (length-append a z)

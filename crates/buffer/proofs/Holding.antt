-- What cells with a gap hold, before an edit and after it. Assumes nothing.
use Rattle.std.proofs.Common.{◌≡◌, ℕ, ◌+◌, ◌-◌, ◌≤◌, List, ◌++◌, length, take, drop, sym, ap, ◌∙◌, arith}
use Rattle.std.proofs.lemmas.List.{drop-drop, append_assoc, length-append, length-take, length-drop}
use Rattle.buffer.specs.declared.gap.Gap.{Gap}
use Rattle.buffer.specs.Documents.{edited}
use Rattle.buffer.specs.Gaps.{ends, usable, front_of, back_of, held, free, Lies}

pub length-ends : (d : List ℕ) (f b : ℕ) → f + b ≤ length d → length (ends d f b) ≡ f + b
length-ends d f b h = simp (length-append, length-take, length-drop) (omega arith)

-- numbers that are read as they are kept give the document
module _ (most : ℕ) (d : List ℕ) (gap : Gap most) (f b : ℕ) (front : f ≡ front_of most d gap) (back : b ≡ back_of most d gap) where
  pub held_by : held most d gap ≡ ends d f b
  held_by = ap (λ (k : ℕ). ends d k (back_of most d gap)) (sym front) ∙ ap (λ (k : ℕ). ends d f k) (sym back)

  pub counted : f + b ≡ length (held most d gap)
  counted = sym (ap length held_by ∙ length-ends d f b (omega arith))

  pub whole : (z : ℕ) → z ≡ free most d gap → f + b + z ≡ usable most d
  whole z e = omega arith

pub held_is : (most : ℕ) (d : List ℕ) (f b : ℕ) → f + b ≤ usable most d → held most d (record { front = f; back = b }) ≡ ends d f b
held_is most d f b h = held_by most d (record { front = f; back = b }) f b (omega arith) (omega arith)

pub free_is : (most : ℕ) (d : List ℕ) (f b z : ℕ) → f + b + z ≡ usable most d → free most d (record { front = f; back = b }) ≡ z
free_is most d f b z h =
    let p : front_of most d (record { front = f; back = b }) ≡ f = omega arith in
    let q : back_of most d (record { front = f; back = b }) ≡ b = omega arith in
    omega arith

-- what lies past a place stays when all past an earlier place stays
drop_past : (x y : List ℕ) (i k : ℕ) → i ≤ k → drop i y ≡ drop i x → drop k y ≡ drop k x
drop_past x y i k h e =
    let on : i + (k - i) ≡ k = omega arith in
    ap (λ (m : ℕ). drop m y) (sym on) ∙ sym (drop-drop (k - i) i y) ∙ ap (drop (k - i)) e ∙ drop-drop (k - i) i x ∙ ap (λ (m : ℕ). drop m x) on

-- x holds the document d up to a in front, and from a + r on at the end; w written behind a makes y of it
module _ (x y d w : List ℕ) (a r z : ℕ) (inside : a + r ≤ length d) (spare : length d + z ≤ length x) (short : length w ≤ z) (same : length y ≡ length x)
    (front : take a x ≡ take a d) (back : drop (length x - (length d - (a + r))) x ≡ drop (a + r) d)
    (before : take (a + length w) y ≡ take a x ++ w) (behind : drop (a + length w) y ≡ drop (a + length w) x) where
  pub lies : Lies y d a r w
  lies =
      let k : length y - (length d - a - r) ≡ length x - (length d - (a + r)) = omega arith in (
        before ∙ ap (λ (v : List ℕ). v ++ w) front,
        ap (λ (m : ℕ). drop m y) k ∙ drop_past x y (a + length w) (length x - (length d - (a + r))) (omega arith) behind ∙ back,
      )

  pub holds_edited : ends y (a + length w) (length d - (a + r)) ≡ edited d a r w
  holds_edited =
      let k : length y - (length d - (a + r)) ≡ length y - (length d - a - r) = omega arith in
      ap (λ (v : List ℕ). v ++ drop (length y - (length d - (a + r))) y) lies.0
      ∙ ap (λ (m : ℕ). (take a d ++ w) ++ drop m y) k
      ∙ ap (λ (v : List ℕ). (take a d ++ w) ++ v) lies.1
      ∙ append_assoc (take a d) w (drop (a + r) d)

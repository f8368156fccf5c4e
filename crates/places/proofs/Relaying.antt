-- What a change of the text below and of the marks over it does to the text above: the one law from which all notices
-- of marks come. Assumes nothing.
use Rattle.std.proofs.Common.{◌≡◌, ℕ, ◌+◌, List, ◌++◌, map, length, take, drop, refl, ap, ◌∙◌, arith, length-drop, length-take}
use Rattle.std.proofs.lemmas.List.{drop-drop}
use Rattle.places.specs.Changes.{Keeps}
use Rattle.places.specs.Pieces.{shown_text}
use Rattle.places.specs.Marks.{Mark, laid, Placed, taken_in, shown_in, moved}
use Rattle.places.proofs.Rewriting.{shown-append}
use Rattle.places.proofs.Placing.{placed_le, placed-append}
use Rattle.places.proofs.Laying.{laid_cut, laid_moved, length-laid}
use Rattle.places.proofs.Keeping.{parts_keep}

-- marks up to s, from there up to s + o, and behind that: the text above in three parts
module _ (a d b : List Mark) (xs : List ℕ) (s o : ℕ) (ha : Placed 0 a s) (hd : Placed s d (s + o)) (hb : Placed (s + o) b (length xs)) where
  text_cut : shown_text (laid 0 (a ++ (d ++ b)) xs)
      ≡ shown_text (laid 0 a (take s xs)) ++ (shown_text (laid s d (take o (drop s xs))) ++ shown_text (laid (s + o) b (drop (s + o) xs)))
  text_cut =
      let N : ℕ = length xs in
      let le = placed_le b (s + o) N hb in
      let long : N ≡ s + length (drop s xs) = omega (arith, length-drop s xs) in
      let one = laid_cut a (d ++ b) 0 s s N xs (omega arith) ha (placed-append d b s (s + o) N hd hb) (omega arith) in
      let two = laid_cut d b s (s + o) o N (drop s xs) refl hd hb long in
      ap shown_text one ∙ shown-append (laid 0 a (take s xs)) (laid s (d ++ b) (drop s xs))
      ∙ ap (λ z. shown_text (laid 0 a (take s xs)) ++ z)
      (ap shown_text two ∙ shown-append (laid s d (take o (drop s xs))) (laid (s + o) b (drop o (drop s xs)))
      ∙ ap (λ z. shown_text (laid s d (take o (drop s xs))) ++ shown_text (laid (s + o) b z)) (drop-drop o s xs))

  front_length : (i : ℕ) → i + taken_in a ≡ s + shown_in a → length (shown_text (laid 0 a (take s xs))) ≡ i
  front_length i e =
      let le = placed_le b (s + o) (length xs) hb in
      let long : s ≡ 0 + length (take s xs) = omega (arith, length-take s xs) in
      omega (arith, length-laid a 0 s (take s xs) ha long)

  middle_length : (i : ℕ) → i + taken_in d ≡ o + shown_in d → length (shown_text (laid s d (take o (drop s xs)))) ≡ i
  middle_length i e =
      let le = placed_le b (s + o) (length xs) hb in
      let long : s + o ≡ s + length (take o (drop s xs)) = omega (arith, length-take o (drop s xs), length-drop s xs) in
      omega (arith, length-laid d s (s + o) (take o (drop s xs)) hd long)

-- the text below changes from s to s + o, the marks d there become e, and those behind move
pub relaid_keeps : (a d e b : List Mark) (xs ys : List ℕ) (s o n : ℕ)
    → Placed 0 a s → Placed s d (s + o) → Placed s e (s + n) → Placed (s + o) b (length xs) → Placed (s + n) (map (moved o n) b) (length ys)
    → Keeps xs ys s o n
    → (i j k : ℕ) → i + taken_in a ≡ s + shown_in a → j + taken_in d ≡ o + shown_in d → k + taken_in e ≡ n + shown_in e
    → Keeps (shown_text (laid 0 (a ++ (d ++ b)) xs)) (shown_text (laid 0 (a ++ (e ++ map (moved o n) b)) ys)) i j k
relaid_keeps a d e b xs ys s o n ha hd he hb hm kept i j k ei ej ek =
    let c : List Mark = map (moved o n) b in
    let front : List ℕ = shown_text (laid 0 a (take s xs)) in
    let old : List ℕ = shown_text (laid s d (take o (drop s xs))) in
    let new : List ℕ = shown_text (laid s e (take n (drop s ys))) in
    let back : List ℕ = shown_text (laid (s + o) b (drop (s + o) xs)) in
    let before : shown_text (laid 0 (a ++ (d ++ b)) xs) ≡ front ++ (old ++ back) = text_cut a d b xs s o ha hd hb in
    let same : shown_text (laid (s + n) c (drop (s + n) ys)) ≡ back =
    ap (λ z. shown_text (laid (s + n) c z)) kept.back
    ∙ ap shown_text (laid_moved b (s + o) (s + n) o n (length xs) (drop (s + o) xs) (omega arith) (omega arith) hb) in
    let after : shown_text (laid 0 (a ++ (e ++ c)) ys) ≡ front ++ (new ++ back) =
    text_cut a e c ys s n ha he hm
    ∙ ap (λ z. shown_text (laid 0 a z) ++ (new ++ shown_text (laid (s + n) c (drop (s + n) ys)))) kept.front
    ∙ ap (λ z. front ++ (new ++ z)) same in
    let li : length front ≡ i = front_length a d b xs s o ha hd hb i ei in
    let lj : length old ≡ j = middle_length a d b xs s o ha hd hb j ej in
    let lk : length new ≡ k = middle_length a e c ys s n ha he hm k ek in
    rw (before, after, ← li, ← lj, ← lk) (parts_keep front old new back)

-- The two searches over marks as sums from the front, and their values where marks are in parts. Assumes nothing.
use Rattle.std.proofs.Common.{◌≡◌, ℕ, ◌+◌, ◌-◌, ◌<◌, ◌≤◌, cond, ltb, List, [], ◌∷◌, ◌++◌, length, take, drop, sym, refl, ap, ◌∙◌, arith}
use native.Mathlib.Nat.{sub-zero}
use Rattle.std.specs.List.{AllByRecursion}
use Rattle.std.proofs.lemmas.Bool.Decides.{nat_tests}
use Rattle.places.specs.Maps.{first_of, last_of}
use Rattle.places.specs.Pieces.{Piece, shown_text, spans_of, under_by}
use Rattle.places.specs.Marks.{Mark, past, plain, laid, Placed, taken_in, shown_in}
use Rattle.places.proofs.Walking.{walk_first, walk_last, walk_first_is, walk_last_is}
use Rattle.places.proofs.Placing.{placed_le}
use Rattle.places.proofs.Laying.{onward, length-behind, length-ahead, laid_rewrites}

-- the first and the last place over the place d, counted from the place over p
abbrev pub first_by : ℕ → List Mark → ℕ → ℕ
first_by p [] d = d - p
first_by p (m ∷ ms) d = cond (ltb m.at d) ((m.at - p) + (length m.shows + first_by (past m) ms d)) (d - p)

abbrev pub last_by : ℕ → List Mark → ℕ → ℕ
last_by p [] d = d - p
last_by p (m ∷ ms) d =
    cond (ltb d m.at) (d - p)
    (cond (ltb d (past m)) ((m.at - p) + (length m.shows - 1)) ((m.at - p) + (length m.shows + last_by (past m) ms d)))

all_first : (xs : List ℕ) (d : ℕ) → d ≤ length xs → walk_first (spans_of (plain xs)) d ≡ d
all_first [] d h = omega arith
all_first (x ∷ xs) d h = let rest = all_first xs (d - 1) (omega arith) in grind (arith, nat_tests)

all_last : (xs : List ℕ) (d : ℕ) → d ≤ length xs → walk_last (spans_of (plain xs)) d ≡ d
all_last [] d h = omega arith
all_last (x ∷ xs) d h = let rest = all_last xs (d - 1) in grind (arith, nat_tests)

first_start : (ps : List Piece) → walk_first (spans_of ps) 0 ≡ 0
first_start [] = refl
first_start (p ∷ ps) = refl

module _ (ps : List Piece) where
  plain_first : (xs : List ℕ) (d : ℕ) → walk_first (spans_of (plain xs ++ ps)) d ≡ cond (ltb (length xs) d) (length xs + walk_first (spans_of ps) (d - length xs)) d
  plain_first [] d = let none = first_start ps in grind (arith, nat_tests, ap (walk_first (spans_of ps)) (sub-zero d))
  plain_first (x ∷ xs) d = let rest = plain_first xs (d - 1) in grind (arith, nat_tests)

  plain_last : (xs : List ℕ) (d : ℕ) → walk_last (spans_of (plain xs ++ ps)) d ≡ cond (ltb d (length xs)) d (length xs + walk_last (spans_of ps) (d - length xs))
  plain_last [] d = grind (arith, nat_tests)
  plain_last (x ∷ xs) d = let rest = plain_last xs (d - 1) in grind (arith, nat_tests)

laid_first : (ms : List Mark) (p n : ℕ) (xs : List ℕ) → Placed p ms n → n ≡ p + length xs → (d : ℕ) → d ≤ n → walk_first (spans_of (laid p ms xs)) (d - p) ≡ first_by p ms d
laid_first [] p n xs h e d l = all_first xs (d - p) (omega arith)
laid_first (m ∷ ms) p n xs h e d l =
    let behind = length-behind m ms p n xs h.0 h.2 e in
    let ahead = length-ahead m ms p n xs h.0 h.2 e in
    let left : List ℕ = drop m.takes (drop (m.at - p) xs) in
    let rest = laid_first ms (past m) n left h.2 behind d l in
    let here = plain_first (onward m ms p xs) (take (m.at - p) xs) (d - p) in
    let at : d - p - (m.at - p) - m.takes ≡ d - past m = omega arith in
    let same = ap (walk_first (spans_of (laid (past m) ms left))) at in
    grind (arith, nat_tests)

laid_last : (ms : List Mark) (p n : ℕ) (xs : List ℕ) → Placed p ms n → n ≡ p + length xs → (d : ℕ) → d ≤ n → p ≤ d → walk_last (spans_of (laid p ms xs)) (d - p) ≡ last_by p ms d
laid_last [] p n xs h e d l b = all_last xs (d - p) (omega arith)
laid_last (m ∷ ms) p n xs h e d l b =
    let behind = length-behind m ms p n xs h.0 h.2 e in
    let ahead = length-ahead m ms p n xs h.0 h.2 e in
    let left : List ℕ = drop m.takes (drop (m.at - p) xs) in
    let rest = laid_last ms (past m) n left h.2 behind d l in
    let here = plain_last (onward m ms p xs) (take (m.at - p) xs) (d - p) in
    let at : d - p - (m.at - p) - m.takes ≡ d - past m = omega arith in
    let same = ap (walk_last (spans_of (laid (past m) ms left))) at in
    grind (arith, nat_tests)

-- the sums are the searches
module _ (ms : List Mark) (xs : List ℕ) (h : Placed 0 ms (length xs)) (d : ℕ) (l : d ≤ length xs) where
  pub first_is : first_by 0 ms d ≡ first_of (under_by (spans_of (laid 0 ms xs))) (length (shown_text (laid 0 ms xs))) d
  first_is =
      sym (laid_first ms 0 (length xs) xs h (omega arith) d l) ∙ ap (walk_first (spans_of (laid 0 ms xs))) (sub-zero d)
      ∙ walk_first_is (spans_of (laid 0 ms xs)) (length (shown_text (laid 0 ms xs))) (length xs) (laid_rewrites ms xs h) d l

  pub last_is : last_by 0 ms d ≡ last_of (under_by (spans_of (laid 0 ms xs))) (length (shown_text (laid 0 ms xs))) d
  last_is =
      sym (laid_last ms 0 (length xs) xs h (omega arith) d l (omega arith)) ∙ ap (walk_last (spans_of (laid 0 ms xs))) (sub-zero d)
      ∙ walk_last_is (spans_of (laid 0 ms xs)) (length (shown_text (laid 0 ms xs))) (length xs) (laid_rewrites ms xs h) d l

-- the first place over c, where some marks begin before c and end by there, and the others begin at c or behind it
pub first_cut : (a b : List Mark) (p c n : ℕ) → Placed p a c → AllByRecursion (λ m. m.at < c) a → Placed c b n → first_by p (a ++ b) c + taken_in a ≡ (c - p) + shown_in a
first_cut [] [] p c n ha l hb = omega arith
first_cut [] (m ∷ b) p c n ha l hb = grind (arith, nat_tests)
first_cut (m ∷ a) b p c n ha l hb =
    let rest = first_cut a b (past m) c n ha.2 l.1 hb in
    let le = placed_le a (past m) c ha.2 in
    let here = l.0 in
    grind (arith, nat_tests)

-- the next mark begins behind c
abbrev pub Beyond : ℕ → List Mark → Type 0
Beyond c [] = Unit {0}
Beyond c (m ∷ ms) = c < m.at

-- the last place over c, where some marks end by there, and the others begin behind it
pub last_cut : (a b : List Mark) (p c : ℕ) → Placed p a c → Beyond c b → last_by p (a ++ b) c + taken_in a ≡ (c - p) + shown_in a
last_cut [] [] p c ha hb = omega arith
last_cut [] (m ∷ b) p c ha hb = grind (arith, nat_tests)
last_cut (m ∷ a) b p c ha hb =
    let rest = last_cut a b (past m) c ha.2 hb in
    let le = placed_le a (past m) c ha.2 in
    grind (arith, nat_tests)

-- Marks laid over a text give pieces that rewrite it, in parts where the marks are in parts. Assumes nothing.
use Rattle.std.proofs.Common.{◌≡◌, ℕ, ◌+◌, ◌-◌, ◌≤◌, true, cond, ltb, List, [], ◌∷◌, ◌++◌, map, length, take, drop, sym, refl, ap, ◌∙◌, append_assoc, arith, length-drop, take-append-drop, length-take, take-add}
use Rattle.std.proofs.lemmas.Bool.Decides.{nat_tests}
use Rattle.std.proofs.lemmas.List.{append-nil, drop-drop, drop-take, take-take}
use Rattle.places.specs.Maps.{first_of, last_of, Finds}
use Rattle.places.specs.Pieces.{Piece, shown_text, spans_of, taken_by, shown_by, all_show, under_by, Rewrites}
use Rattle.places.specs.Marks.{Mark, past, plain, laid, Placed, taken_in, shown_in, moved}
use Rattle.places.proofs.Rewriting.{length-shown, pieces_rewrite, pieces_find}
use Rattle.places.proofs.Placing.{placed_le}

-- codes shown as they are, in front of other pieces
module _ (ps : List Piece) where
  plain_shows : (xs : List ℕ) → all_show (spans_of (plain xs ++ ps)) ≡ all_show (spans_of ps)
  plain_shows [] = refl
  plain_shows (x ∷ xs) = plain_shows xs

  plain_taken : (xs : List ℕ) → taken_by (spans_of (plain xs ++ ps)) ≡ length xs + taken_by (spans_of ps)
  plain_taken [] = omega arith
  plain_taken (x ∷ xs) = let rest = plain_taken xs in omega arith

  plain_shown : (xs : List ℕ) → shown_by (spans_of (plain xs ++ ps)) ≡ length xs + shown_by (spans_of ps)
  plain_shown [] = omega arith
  plain_shown (x ∷ xs) = let rest = plain_shown xs in omega arith

  pub plain_text : (xs : List ℕ) → shown_text (plain xs ++ ps) ≡ xs ++ shown_text ps
  plain_text [] = refl
  plain_text (x ∷ xs) = ap (λ z. x ∷ z) (plain_text xs)

  pub plain_under : (xs : List ℕ) (u : ℕ) → under_by (spans_of (plain xs ++ ps)) u ≡ cond (ltb u (length xs)) u (length xs + under_by (spans_of ps) (u - length xs))
  plain_under [] u = grind (arith, nat_tests)
  plain_under (x ∷ xs) u = let rest = plain_under xs (u - 1) in grind (arith, nat_tests)

plain-append : (a b : List ℕ) → plain (a ++ b) ≡ plain a ++ plain b
plain-append [] b = refl
plain-append (x ∷ a) b = ap (λ z. record { taken = 1; shown = x ∷ [] } ∷ z) (plain-append a b)

plain_cut : (k : ℕ) (xs : List ℕ) → plain xs ≡ plain (take k xs) ++ plain (drop k xs)
plain_cut k xs = ap plain (sym (take-append-drop k xs)) ∙ plain-append (take k xs) (drop k xs)

plain_alone : (xs : List ℕ) → plain xs ++ [] ≡ plain xs
plain_alone xs = append-nil (plain xs)

-- a mark in front of others, over the text from p on: what lies before it and behind it
module _ (m : Mark) (ms : List Mark) (p n : ℕ) (xs : List ℕ) (l : p ≤ m.at) (h : Placed (past m) ms n) (e : n ≡ p + length xs) where
  pub length-behind : n ≡ past m + length (drop m.takes (drop (m.at - p) xs))
  length-behind = omega (arith, placed_le ms (past m) n h, length-drop m.takes (drop (m.at - p) xs), length-drop (m.at - p) xs)

  pub length-ahead : length (take (m.at - p) xs) ≡ m.at - p
  length-ahead = omega (arith, placed_le ms (past m) n h, length-take (m.at - p) xs)

-- a mark's piece, and with it those behind it
abbrev pub piece_of : Mark → Piece
piece_of m = record { taken = m.takes; shown = m.shows }

abbrev pub onward : Mark → List Mark → ℕ → List ℕ → List Piece
onward m ms p xs = piece_of m ∷ laid (past m) ms (drop m.takes (drop (m.at - p) xs))

laid_shows : (ms : List Mark) (p n : ℕ) (xs : List ℕ) → Placed p ms n → all_show (spans_of (laid p ms xs)) ≡ true
laid_shows [] p n xs h = ap (λ z. all_show (spans_of z)) (sym (plain_alone xs)) ∙ plain_shows [] xs
laid_shows (m ∷ ms) p n xs h =
    let rest = laid_shows ms (past m) n (drop m.takes (drop (m.at - p) xs)) h.2 in
    let here = plain_shows (onward m ms p xs) (take (m.at - p) xs) in
    let some = h.1 in
    grind (arith, nat_tests)

pub laid_taken : (ms : List Mark) (p n : ℕ) (xs : List ℕ) → Placed p ms n → n ≡ p + length xs → taken_by (spans_of (laid p ms xs)) ≡ length xs
laid_taken [] p n xs h e = omega (arith, ap (λ z. taken_by (spans_of z)) (plain_alone xs), plain_taken [] xs)
laid_taken (m ∷ ms) p n xs h e =
    let behind = length-behind m ms p n xs h.0 h.2 e in
    let ahead = length-ahead m ms p n xs h.0 h.2 e in
    let rest = laid_taken ms (past m) n (drop m.takes (drop (m.at - p) xs)) h.2 behind in
    omega (arith, plain_taken (onward m ms p xs) (take (m.at - p) xs))

laid_shown : (ms : List Mark) (p n : ℕ) (xs : List ℕ) → Placed p ms n → n ≡ p + length xs → shown_by (spans_of (laid p ms xs)) + taken_in ms ≡ length xs + shown_in ms
laid_shown [] p n xs h e = omega (arith, ap (λ z. shown_by (spans_of z)) (plain_alone xs), plain_shown [] xs)
laid_shown (m ∷ ms) p n xs h e =
    let behind = length-behind m ms p n xs h.0 h.2 e in
    let ahead = length-ahead m ms p n xs h.0 h.2 e in
    let rest = laid_shown ms (past m) n (drop m.takes (drop (m.at - p) xs)) h.2 behind in
    omega (arith, plain_shown (onward m ms p xs) (take (m.at - p) xs))

-- how long the text above a part of a text is
pub length-laid : (ms : List Mark) (p n : ℕ) (xs : List ℕ) → Placed p ms n → n ≡ p + length xs → length (shown_text (laid p ms xs)) + taken_in ms ≡ length xs + shown_in ms
length-laid ms p n xs h e = omega (arith, length-shown (laid p ms xs), laid_shown ms p n xs h e)

module _ (ms : List Mark) (xs : List ℕ) (h : Placed 0 ms (length xs)) where
  -- marks in order over a text rewrite it
  pub laid_rewrites : Rewrites (spans_of (laid 0 ms xs)) (length (shown_text (laid 0 ms xs))) (length xs)
  laid_rewrites = pieces_rewrite (laid 0 ms xs) (length xs) (laid_shows ms 0 (length xs) xs h) (laid_taken ms 0 (length xs) xs h (omega arith))

  -- and the searches in the map meet their rules
  pub laid_finds : Finds (under_by (spans_of (laid 0 ms xs)))
      (first_of (under_by (spans_of (laid 0 ms xs))) (length (shown_text (laid 0 ms xs))))
      (last_of (under_by (spans_of (laid 0 ms xs))) (length (shown_text (laid 0 ms xs))))
      (length (shown_text (laid 0 ms xs))) (length xs)
  laid_finds = pieces_find (laid 0 ms xs) (length xs) (laid_shows ms 0 (length xs) xs h) (laid_taken ms 0 (length xs) xs h (omega arith))

  -- the text above is longer by what the marks show and shorter by what they take
  pub laid_length : length (shown_text (laid 0 ms xs)) + taken_in ms ≡ length xs + shown_in ms
  laid_length = length-laid ms 0 (length xs) xs h (omega arith)

-- with no marks the text above is the text below
pub laid_none : (xs : List ℕ) → shown_text (laid 0 [] xs) ≡ xs
laid_none xs = ap shown_text (sym (plain_alone xs)) ∙ plain_text [] xs ∙ append-nil xs

-- and each place lies over itself
pub under_none : (xs : List ℕ) (u : ℕ) → u ≤ length xs → under_by (spans_of (laid 0 [] xs)) u ≡ u
under_none xs u h =
    let alone = ap (λ z. under_by (spans_of z) u) (plain_alone xs) in
    let here = plain_under [] xs u in
    grind (arith, nat_tests)

-- codes before the first mark may be laid apart
laid_ahead : (ms : List Mark) (p c k n : ℕ) (xs : List ℕ) → p + k ≡ c → Placed c ms n → laid p ms xs ≡ plain (take k xs) ++ laid c ms (drop k xs)
laid_ahead [] p c k n xs e h = plain_cut k xs
laid_ahead (m ∷ ms) p c k n xs e h =
    let j : ℕ = m.at - c in
    let sum : m.at - p ≡ k + j = omega arith in
    let fore : plain (take (m.at - p) xs) ≡ plain (take k xs) ++ plain (take j (drop k xs)) =
    ap (λ z. plain (take z xs)) sum ∙ ap plain (take-add k j xs) ∙ plain-append (take k xs) (take j (drop k xs)) in
    let hind : drop (m.at - p) xs ≡ drop j (drop k xs) = ap (λ z. drop z xs) sum ∙ sym (drop-drop j k xs) in
    ap (λ z. z ++ onward m ms p xs) fore
    ∙ append_assoc (plain (take k xs)) (plain (take j (drop k xs))) (onward m ms p xs)
    ∙ ap (λ z. plain (take k xs) ++ (plain (take j (drop k xs)) ++ (piece_of m ∷ laid (past m) ms (drop m.takes z)))) hind

-- marks up to the place c and marks from there on give pieces in two parts
pub laid_cut : (a b : List Mark) (p c k n : ℕ) (xs : List ℕ) → p + k ≡ c → Placed p a c → Placed c b n → n ≡ p + length xs
    → laid p (a ++ b) xs ≡ laid p a (take k xs) ++ laid c b (drop k xs)
laid_cut [] b p c k n xs e ha hb en = laid_ahead b p c k n xs e hb
laid_cut (m ∷ a) b p c k n xs e ha hb en =
    let le₁ = placed_le a (past m) c ha.2 in
    let le₂ = placed_le b c n hb in
    let j : ℕ = m.at - p in
    let q : ℕ = c - past m in
    let behind : n ≡ past m + length (drop m.takes (drop j xs)) = omega (arith, length-drop m.takes (drop j xs), length-drop j xs) in
    let rest = laid_cut a b (past m) c q n (drop m.takes (drop j xs)) (omega arith) ha.2 hb behind in
    let k_is : k ≡ j + (m.takes + q) = omega arith in
    let k_was : (j + m.takes) + q ≡ k = omega arith in
    let e₁ : take j xs ≡ take j (take k xs) = sym (take-take j k xs (omega arith)) in
    let e₂ : take q (drop m.takes (drop j xs)) ≡ drop m.takes (drop j (take k xs)) =
    sym (ap (λ z. drop m.takes (drop j (take z xs))) k_is
    ∙ ap (drop m.takes) (drop-take j (m.takes + q) xs) ∙ drop-take m.takes q (drop j xs)) in
    let e₃ : drop q (drop m.takes (drop j xs)) ≡ drop k xs =
    ap (drop q) (drop-drop m.takes j xs) ∙ drop-drop q (j + m.takes) xs ∙ ap (λ z. drop z xs) k_was in
    ap (λ z. plain (take j xs) ++ (piece_of m ∷ z)) rest
    ∙ ap (λ z. plain z ++ (piece_of m ∷ (laid (past m) a (take q (drop m.takes (drop j xs))) ++ laid c b (drop q (drop m.takes (drop j xs)))))) e₁
    ∙ ap (λ z. plain (take j (take k xs)) ++ (piece_of m ∷ (laid (past m) a z ++ laid c b (drop q (drop m.takes (drop j xs)))))) e₂
    ∙ ap (λ z. plain (take j (take k xs)) ++ (piece_of m ∷ (laid (past m) a (drop m.takes (drop j (take k xs))) ++ laid c b z))) e₃
    ∙ sym (append_assoc (plain (take j (take k xs))) (onward m a p (take k xs)) (laid c b (drop k xs)))

-- marks that all move are laid as before
pub laid_moved : (ms : List Mark) (p q o n N : ℕ) (xs : List ℕ) → q + o ≡ p + n → o ≤ p → Placed p ms N → laid q (map (moved o n) ms) xs ≡ laid p ms xs
laid_moved [] p q o n N xs e l h = refl
laid_moved (m ∷ ms) p q o n N xs e l h =
    let gap : m.at + n - o - q ≡ m.at - p = omega arith in
    let rest = laid_moved ms (past m) (past (moved o n m)) o n N (drop m.takes (drop (m.at - p) xs)) (omega arith) (omega arith) h.2 in
    ap (λ z. plain (take z xs) ++ (piece_of m ∷ laid (past (moved o n m)) (map (moved o n) ms) (drop m.takes (drop z xs)))) gap
    ∙ ap (λ z. plain (take (m.at - p) xs) ++ (piece_of m ∷ z)) rest

-- What lies under and what stands at a place above, where marks are cut in two. Assumes nothing.
use Rattle.std.proofs.Common.{◌≡◌, ℕ, ◌+◌, ◌-◌, ◌<◌, ◌≤◌, List, [], ◌∷◌, ◌++◌, length, get_or, take, drop, sym, ap, ◌∙◌, arith, length-append, length-drop, length-take}
use Rattle.std.proofs.lemmas.Bool.Decides.{nat_tests}
use Rattle.std.proofs.lemmas.List.{map-append, get_or_append_left, get_or-append_right, get_or-drop, get_or-take}
use Rattle.places.specs.Pieces.{Piece, shown_text, spans_of, taken_by, shown_by, under_by}
use Rattle.places.specs.Marks.{Mark, past, plain, laid, Placed, taken_in, shown_in}
use Rattle.places.proofs.Rewriting.{length-shown, under-append, shown-append}
use Rattle.places.proofs.Placing.{placed_le}
use Rattle.places.proofs.Laying.{piece_of, onward, plain_text, plain_under, laid_cut, laid_taken, laid_none, under_none, length-laid}
use Rattle.places.proofs.Reaching.{Beyond}

-- pieces in two parts, at a place behind what the first part shows
pieces_behind : (a b : List Piece) (u start : ℕ) → length (shown_text a) ≡ start → start ≤ u
    → (under_by (spans_of (a ++ b)) u ≡ taken_by (spans_of a) + under_by (spans_of b) (u - start)) × (get_or (shown_text (a ++ b)) u 0 ≡ get_or (shown_text b) (u - start) 0)
pieces_behind a b u start e l =
    let shown : shown_by (spans_of a) ≡ start = sym (length-shown a) ∙ e in
    let parts = ap (λ z. under_by z u) (map-append (λ p. record { takes = p.taken; shows = length p.shown }) a b) in
    let here = under-append (spans_of a) (spans_of b) u in
    let at = ap (λ z. under_by (spans_of b) (u - z)) shown in
    (grind (arith, nat_tests), ap (λ z. get_or z u 0) (shown-append a b) ∙ get_or-append_right (shown_text a) (shown_text b) start u 0 e l)

-- before the next mark each code is shown as it is
module _ (c N : ℕ) (xs : List ℕ) (long : N ≡ c + length xs) (v : ℕ) where
  ahead_under : (ms : List Mark) → Placed c ms N → Beyond (c + v) ms → v ≤ length (shown_text (laid c ms xs)) → under_by (spans_of (laid c ms xs)) v ≡ v
  ahead_under [] h b l = under_none xs v (omega (arith, ap length (laid_none xs)))
  ahead_under (m ∷ ms) h b l =
      let le = placed_le ms (past m) N h.2 in
      let ahead : length (take (m.at - c) xs) ≡ m.at - c = omega (arith, length-take (m.at - c) xs) in
      let here = plain_under (onward m ms c xs) (take (m.at - c) xs) v in
      grind (arith, nat_tests)

  ahead_text : (ms : List Mark) → Placed c ms N → Beyond (c + v) ms → get_or (shown_text (laid c ms xs)) v 0 ≡ get_or xs v 0
  ahead_text [] h b = ap (λ z. get_or z v 0) (laid_none xs)
  ahead_text (m ∷ ms) h b =
      let le = placed_le ms (past m) N h.2 in
      let ahead : v < length (take (m.at - c) xs) = omega (arith, length-take (m.at - c) xs) in
      ap (λ z. get_or z v 0) (plain_text (onward m ms c xs) (take (m.at - c) xs))
      ∙ get_or_append_left (take (m.at - c) xs) (shown_text (onward m ms c xs)) 0 v ahead
      ∙ get_or-take (m.at - c) xs v 0 (omega arith)

-- marks up to the place c and marks from there on
module _ (a b : List Mark) (c : ℕ) (xs : List ℕ) (ha : Placed 0 a c) (hb : Placed c b (length xs)) where
  le : c ≤ length xs
  le = placed_le b c (length xs) hb

  halves : laid 0 (a ++ b) xs ≡ laid 0 a (take c xs) ++ laid c b (drop c xs)
  halves = laid_cut a b 0 c c (length xs) xs (omega arith) ha hb (omega arith)

  half : c ≡ 0 + length (take c xs)
  half = omega (arith, le, length-take c xs)

  module _ (u start : ℕ) (e : start + taken_in a ≡ c + shown_in a) (l : start ≤ u) where
    starts : length (shown_text (laid 0 a (take c xs))) ≡ start
    starts = omega (arith, length-laid a 0 c (take c xs) ha half, half)

    both : (under_by (spans_of (laid 0 a (take c xs) ++ laid c b (drop c xs))) u ≡ taken_by (spans_of (laid 0 a (take c xs))) + under_by (spans_of (laid c b (drop c xs))) (u - start))
        × (get_or (shown_text (laid 0 a (take c xs) ++ laid c b (drop c xs))) u 0 ≡ get_or (shown_text (laid c b (drop c xs))) (u - start) 0)
    both = pieces_behind (laid 0 a (take c xs)) (laid c b (drop c xs)) u start starts l

    under_behind : under_by (spans_of (laid 0 (a ++ b) xs)) u ≡ c + under_by (spans_of (laid c b (drop c xs))) (u - start)
    under_behind = omega (arith, ap (λ z. under_by (spans_of z) u) halves, both.0, laid_taken a 0 c (take c xs) ha half, half)

    text_behind : get_or (shown_text (laid 0 (a ++ b) xs)) u 0 ≡ get_or (shown_text (laid c b (drop c xs))) (u - start) 0
    text_behind = ap (λ z. get_or (shown_text z) u 0) halves ∙ both.1

    -- between the marks a and b
    module _ (next : Beyond (c + (u - start)) b) where
      long : length xs ≡ c + length (drop c xs)
      long = omega (arith, le, length-drop c xs)

      pub under_between : u ≤ length (shown_text (laid 0 (a ++ b) xs)) → under_by (spans_of (laid 0 (a ++ b) xs)) u ≡ c + (u - start)
      under_between f =
          let whole : length (shown_text (laid 0 (a ++ b) xs)) ≡ start + length (shown_text (laid c b (drop c xs))) =
          ap (λ z. length (shown_text z)) halves ∙ ap length (shown-append (laid 0 a (take c xs)) (laid c b (drop c xs)))
          ∙ length-append (shown_text (laid 0 a (take c xs))) (shown_text (laid c b (drop c xs))) ∙ ap (λ z. z + length (shown_text (laid c b (drop c xs)))) starts in
          under_behind ∙ ap (λ z. c + z) (ahead_under c (length xs) (drop c xs) long (u - start) b hb next (omega arith))

      pub text_between : get_or (shown_text (laid 0 (a ++ b) xs)) u 0 ≡ get_or xs (c + (u - start)) 0
      text_between = text_behind ∙ ahead_text c (length xs) (drop c xs) long (u - start) b hb next ∙ get_or-drop c xs (u - start) 0

-- in what the mark m shows
module _ (a b : List Mark) (m : Mark) (xs : List ℕ) (ha : Placed 0 a m.at) (hb : Placed m.at (m ∷ b) (length xs))
    (u start : ℕ) (e : start + taken_in a ≡ m.at + shown_in a) (l : start ≤ u) (f : u < start + length m.shows) where
  -- nothing lies between the cut and the mark
  at_once : laid m.at (m ∷ b) (drop m.at xs) ≡ piece_of m ∷ laid (past m) b (drop m.takes (drop m.at xs))
  at_once =
      let none : m.at - m.at ≡ 0 = omega arith in
      ap (λ z. plain (take z (drop m.at xs)) ++ (piece_of m ∷ laid (past m) b (drop m.takes (drop z (drop m.at xs))))) none

  pub under_inside : under_by (spans_of (laid 0 (a ++ (m ∷ b)) xs)) u ≡ m.at
  under_inside =
      let behind = under_behind a (m ∷ b) m.at xs ha hb u start e l in
      let once = ap (λ z. under_by (spans_of z) (u - start)) at_once in
      let in_shows : u - start < length m.shows = omega arith in
      grind (arith, nat_tests)

  pub text_inside : get_or (shown_text (laid 0 (a ++ (m ∷ b)) xs)) u 0 ≡ get_or m.shows (u - start) 0
  text_inside =
      text_behind a (m ∷ b) m.at xs ha hb u start e l ∙ ap (λ z. get_or (shown_text z) (u - start) 0) at_once
      ∙ get_or_append_left m.shows (shown_text (laid (past m) b (drop m.takes (drop m.at xs)))) 0 (u - start) (omega arith)

-- Places over marks, as a table of records answers them. Assumes nothing.
use Rattle.std.specs.Prelude.{◌≡◌, ℕ, ◌+◌, ◌^◌, ◌<◌, ◌≤◌, List, [], ◌∷◌, length, take, slice_index, slice_index_or}
use Rattle.places.specs.Maps.{first_of, last_of}
use Rattle.places.specs.Pieces.{shown_text, spans_of, under_by}
use Rattle.places.specs.Marks.{Mark, past, laid, Placed, shown_in, taken_in}
use Rattle.tables.specs.declared.placing.Held.{Held}
use Rattle.tables.specs.declared.placing.Held.TheVariants.{Shown, Below}

abbrev pub text_over : List Mark → List ℕ → List ℕ
text_over ms xs = shown_text (laid 0 ms xs)

abbrev pub under_over : List Mark → List ℕ → ℕ → ℕ
under_over ms xs u = under_by (spans_of (laid 0 ms xs)) u

abbrev pub first_over : List Mark → List ℕ → ℕ → ℕ
first_over ms xs l = first_of (under_over ms xs) (length (text_over ms xs)) l

abbrev pub last_over : List Mark → List ℕ → ℕ → ℕ
last_over ms xs l = last_of (under_over ms xs) (length (text_over ms xs)) l

-- the place behind what the last of some marks takes, or p where there are none
abbrev pub end_of : ℕ → List Mark → ℕ
end_of p [] = p
end_of p (m ∷ ms) = end_of (past m) ms

-- marks over a text, both texts short enough to count in 32 bits
abbrev pub Counted : List Mark → List ℕ → Type 0
Counted ms xs = Placed 0 ms (length xs) × (length xs < 2 ^ 32) × (length (text_over ms xs) < 2 ^ 32)

-- of the first n marks the last one shows its codes from the place u above on or before it, and the next one does not
pub record Begun (ms : List Mark) (u n : ℕ) : Type 0 where
  pub before : (k : ℕ) (e : Mark) → k + 1 ≡ n → (slice_index_or ms k e).at + shown_in (take k ms) ≤ u + taken_in (take k ms)
  pub behind : (e : Mark) → n < length ms → u + taken_in (take n ms) < (slice_index_or ms n e).at + shown_in (take n ms)

-- what holds a place of the text above: a mark, and which of its codes; or a place of the text below
abbrev pub Holds : List Mark → List ℕ → ℕ → Held → Type 0
Holds ms xs u (Shown index offset) =
    (index < length ms) × ((d : Mark) → (under_over ms xs u ≡ (slice_index_or ms index d).at) × (offset < length (slice_index_or ms index d).shows) × (slice_index (text_over ms xs) u ≡ slice_index (slice_index_or ms index d).shows offset))
Holds ms xs u (Below place) = (under_over ms xs u ≡ place) × (slice_index (text_over ms xs) u ≡ slice_index xs place)

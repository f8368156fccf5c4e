-- A layer that goes code by code: what it shows of a code depends on a state and on the rest of the code's line. Each
-- code is one piece, so that the place under all that is shown of a code is the place before it. Assumes nothing.
use Rattle.std.specs.Prelude.{◌≡◌, ℕ, ◌<◌, true, List, [], ◌∷◌, length, take}
use Rattle.codes.specs.Codes.{is_row_end}
use Rattle.places.specs.Maps.{first_of, last_of}
use Rattle.places.specs.Pieces.{Piece, shown_text, spans_of, under_by}
use Rattle.lines.specs.Lines.{line_rest}

pub record Transducer : Type 0 where
  -- the state before a text
  pub start : List ℕ → ℕ
  -- what is shown of a code at a state
  pub show : ℕ → ℕ → List ℕ
  -- the state behind that code, with the codes that follow it
  pub next : ℕ → ℕ → List ℕ → ℕ

abbrev pub pieces_from : Transducer → ℕ → List ℕ → List Piece
pieces_from m k [] = []
pieces_from m k (x ∷ xs) = record { taken = 1; shown = m.show k x } ∷ pieces_from m (m.next k x xs) xs

abbrev pub pieces_by : Transducer → List ℕ → List Piece
pieces_by m xs = pieces_from m (m.start xs) xs

-- the text above, its place map and the two searches in it
abbrev pub text_by : Transducer → List ℕ → List ℕ
text_by m xs = shown_text (pieces_by m xs)

abbrev pub place_by : Transducer → List ℕ → ℕ → ℕ
place_by m xs u = under_by (spans_of (pieces_by m xs)) u

abbrev pub first_by : Transducer → List ℕ → ℕ → ℕ
first_by m xs l = first_of (place_by m xs) (length (text_by m xs)) l

abbrev pub last_by : Transducer → List ℕ → ℕ → ℕ
last_by m xs l = last_of (place_by m xs) (length (text_by m xs)) l

-- how many codes are shown of the first l codes below
abbrev pub reach_by : Transducer → List ℕ → ℕ → ℕ
reach_by m xs l = length (shown_text (take l (pieces_by m xs)))

-- each code is shown by something; a row end is shown alike at every state, and behind it all begins anew; nothing
-- behind the next row end is seen
pub record Steady (m : Transducer) : Type 0 where
  pub shows : (k x : ℕ) → 0 < length (m.show k x)
  pub plain : (j k x : ℕ) → is_row_end x ≡ true → m.show j x ≡ m.show k x
  pub anew : (k x : ℕ) (xs : List ℕ) → is_row_end x ≡ true → m.next k x xs ≡ m.start xs
  pub start_sees : (xs ys : List ℕ) → line_rest xs ≡ line_rest ys → m.start xs ≡ m.start ys
  pub next_sees : (k x : ℕ) (xs ys : List ℕ) → line_rest xs ≡ line_rest ys → m.next k x xs ≡ m.next k x ys

-- nothing ahead is seen at all
pub record Blind (m : Transducer) : Type 0 where
  pub start_same : (xs ys : List ℕ) → m.start xs ≡ m.start ys
  pub next_same : (k x : ℕ) (xs ys : List ℕ) → m.next k x xs ≡ m.next k x ys

-- Marks over a text: each stands at a place, takes some codes behind it and shows others. A hint is a mark that takes
-- none, a fold is one that shows a placeholder. Assumes nothing.
use Rattle.std.specs.Prelude.{◌≡◌, ℕ, ◌+◌, ◌-◌, ◌<◌, ◌≤◌, min, max, Bool, cond, ◌&&◌, List, [], ◌∷◌, ◌++◌, length, take, drop, nat_le, nat_lt}
use Rattle.places.specs.Pieces.{Piece}

pub record Mark : Type 0 where
  pub at : ℕ
  pub takes : ℕ
  pub shows : List ℕ

-- the place behind what a mark takes
abbrev pub past : Mark → ℕ
past m = m.at + m.takes

-- codes that are shown as they are
abbrev pub plain : List ℕ → List Piece
plain [] = []
plain (x ∷ xs) = record { taken = 1; shown = x ∷ [] } ∷ plain xs

-- the pieces of xs, the text from the place p on, under these marks
abbrev pub laid : ℕ → List Mark → List ℕ → List Piece
laid p [] xs = plain xs
laid p (m ∷ ms) xs =
    plain (take (m.at - p) xs)
    ++ (record { taken = m.takes; shown = m.shows } ∷ laid (past m) ms (drop m.takes (drop (m.at - p) xs)))

-- marks in order from the place p on, none past the place n, each showing something
abbrev pub Placed : ℕ → List Mark → ℕ → Type 0
Placed p [] n = p ≤ n
Placed p (m ∷ ms) n = (p ≤ m.at) × (0 < length m.shows) × Placed (past m) ms n

-- how many codes marks take, and how many they show
abbrev pub taken_in : List Mark → ℕ
taken_in [] = 0
taken_in (m ∷ ms) = m.takes + taken_in ms

abbrev pub shown_in : List Mark → ℕ
shown_in [] = 0
shown_in (m ∷ ms) = length m.shows + shown_in ms

-- a mark when behind its first s codes the text below has n codes in the place of o: it stays where it ends at or before
-- s, moves where it begins at or behind s + o, and is dropped else
abbrev pub moved : ℕ → ℕ → Mark → Mark
moved o n m = record { at = m.at + n - o; takes = m.takes; shows = m.shows }

abbrev pub followed : ℕ → ℕ → ℕ → List Mark → List Mark
followed s o n [] = []
followed s o n (m ∷ ms) =
    cond (nat_le (past m) s) (m ∷ followed s o n ms)
    (cond (nat_le (s + o) m.at) (moved o n m ∷ followed s o n ms) (followed s o n ms))

abbrev pub dropped : ℕ → ℕ → Mark → Bool
dropped s o m = nat_lt s (past m) && nat_lt m.at (s + o)

-- the least of s and the starts of the dropped marks, and the greatest of s + o and their ends
abbrev pub lowest : ℕ → ℕ → List Mark → ℕ
lowest s o [] = s
lowest s o (m ∷ ms) = cond (dropped s o m) (min m.at (lowest s o ms)) (lowest s o ms)

abbrev pub highest : ℕ → ℕ → List Mark → ℕ
highest s o [] = s + o
highest s o (m ∷ ms) = cond (dropped s o m) (max (past m) (highest s o ms)) (highest s o ms)

-- the marks that end at or before s, which come first, and the others
abbrev pub ended : ℕ → List Mark → List Mark
ended s [] = []
ended s (m ∷ ms) = cond (nat_le (past m) s) (m ∷ ended s ms) []

abbrev pub unended : ℕ → List Mark → List Mark
unended s [] = []
unended s (m ∷ ms) = cond (nat_le (past m) s) (unended s ms) (m ∷ ms)

-- m behind all marks that end at or before it
abbrev pub put : Mark → List Mark → List Mark
put m ms = ended m.at ms ++ (m ∷ unended m.at ms)

-- marks that take nothing, as hints, and marks that take something, as folds
abbrev pub Light : List Mark → Type 0
Light [] = Unit {0}
Light (m ∷ ms) = (m.takes ≡ 0) × Light ms

abbrev pub Solid : List Mark → Type 0
Solid [] = Unit {0}
Solid (m ∷ ms) = (0 < m.takes) × Solid ms

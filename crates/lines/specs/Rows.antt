-- The rows of a text. Assumes nothing.
use Rattle.std.specs.Prelude.{ℕ, cond, List, [], ◌∷◌, ◌++◌}
use Rattle.codes.specs.Codes.{is_row_end, is_soft_break}

-- a code in front of the first row
abbrev pub before : ℕ → List (List ℕ) → List (List ℕ)
before x [] = (x ∷ []) ∷ []
before x (r ∷ rs) = (x ∷ r) ∷ rs

-- a text cut at its row ends, which belong to no row: one row more than it has row ends
abbrev pub rows : List ℕ → List (List ℕ)
rows [] = [] ∷ []
rows (x ∷ xs) = cond (is_row_end x) ([] ∷ rows xs) (before x (rows xs))

-- the rows that a soft break closes, where the codes r stand in front of the first row
abbrev pub broken_rows : List ℕ → List ℕ → List (List ℕ)
broken_rows r [] = []
broken_rows r (x ∷ xs) = cond (is_soft_break x) (r ∷ broken_rows [] xs) (cond (is_row_end x) (broken_rows [] xs) (broken_rows (r ++ (x ∷ [])) xs))

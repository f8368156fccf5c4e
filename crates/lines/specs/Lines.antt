-- The lines of a text: its stretches between row ends. Assumes nothing.
use Rattle.std.specs.Prelude.{ℕ, suc, ◌+◌, Bool, cond, List, [], ◌∷◌, take, drop, nat_lt}
use Rattle.codes.specs.Codes.{is_row_end}

-- what is left of a line: the codes before the first row end, and how many there are
abbrev pub line_rest : List ℕ → List ℕ
line_rest [] = []
line_rest (x ∷ xs) = cond (is_row_end x) [] (x ∷ line_rest xs)

abbrev pub rest_length : List ℕ → ℕ
rest_length [] = 0
rest_length (x ∷ xs) = cond (is_row_end x) 0 (suc (rest_length xs))

-- the place behind the last code that passes, or 0 where none does
abbrev pub behind_last : (ℕ → Bool) → List ℕ → ℕ
behind_last p [] = 0
behind_last p (x ∷ xs) = cond (nat_lt 0 (behind_last p xs)) (suc (behind_last p xs)) (cond (p x) 1 0)

-- where the line that holds the place p begins, and where it ends
abbrev pub line_start : List ℕ → ℕ → ℕ
line_start xs p = behind_last is_row_end (take p xs)

abbrev pub line_end : List ℕ → ℕ → ℕ
line_end xs p = p + rest_length (drop p xs)

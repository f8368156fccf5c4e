-- The bytes of a code in four cells, and zeros behind them. Assumes nothing.
use Rattle.std.specs.Prelude.{◌≡◌, ℕ, List, [], ◌∷◌, ◌++◌, length, take}

-- the bytes of the code: the first n of the cells
abbrev pub front : List ℕ → ℕ → List ℕ
front cells n = take n cells

-- bytes with zeros behind them, four in all
abbrev pub padded : List ℕ → List ℕ
padded bs = take 4 (bs ++ 0 ∷ 0 ∷ 0 ∷ 0 ∷ [])

-- there are n cells or more: the first n hold the bytes of the code, the others zeros
abbrev pub IsPadded : List ℕ → ℕ → Type 0
IsPadded cells n = (length (front cells n) ≡ n) × (padded (front cells n) ≡ cells)

-- the cells that hold the bytes of a code, and how many bytes it has
abbrev pub cells_of : List ℕ → List ℕ × ℕ
cells_of bs = (padded bs, length bs)

-- the cells and the number are known by the bytes
pub cells_of-front : (cells : List ℕ) (n : ℕ) → IsPadded cells n → cells_of (front cells n) ≡ (cells, n)
cells_of-front cells n is = rw (is.1, is.0)

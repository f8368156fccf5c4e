-- What tab stops and soft wrap do, in terms of the texts alone. Assumes nothing.
use Rattle.std.specs.Prelude.{◌≡◌, ℕ, suc, ◌+◌, ◌-◌, ◌%◌, ◌<◌, ◌≤◌, Bool, true, cond, not, ◌&&◌, ◌⊎◌, List, [], ◌∷◌, ◌++◌, length, take, drop, slice_index}
use Rattle.std.specs.List.{AllByRecursion}
use Rattle.codes.specs.Codes.{soft_break, is_soft_break, is_row_end}
use Rattle.lines.specs.Lines.{line_rest, rest_length, line_start}
use Rattle.lines.specs.Rows.{rows, broken_rows}
use Rattle.lines.specs.Transducers.{text_by, reach_by}
use Rattle.lines.specs.Tabs.{tab, tab_stops}
use Rattle.lines.specs.Wraps.{is_space, row_length, soft_wrap}

-- a tab takes some space and at most the width, and what follows it stands at a stop: the column behind it in the line
-- that is shown is a multiple of the width
abbrev pub TabsEndAtStops : Type 0
TabsEndAtStops =
    (w : ℕ) (xs : List ℕ) (i : ℕ) → 1 ≤ w → i < length xs → slice_index xs i ≡ tab
    → (reach_by (tab_stops w) xs i < reach_by (tab_stops w) xs (suc i))
    × (reach_by (tab_stops w) xs (suc i) ≤ reach_by (tab_stops w) xs i + w)
    × ((reach_by (tab_stops w) xs (suc i) - line_start (text_by (tab_stops w) xs) (reach_by (tab_stops w) xs (suc i))) % w ≡ 0)

abbrev pub wrapped : ℕ → List ℕ → List ℕ
wrapped w xs = text_by (soft_wrap (row_length w)) xs

-- no row of the wrapped text is longer than the width
abbrev pub RowsFit : Type 0
RowsFit = (w : ℕ) (xs : List ℕ) → 1 ≤ w → AllByRecursion (λ r. length r ≤ w) (rows (wrapped w xs))

abbrev pub without_breaks : List ℕ → List ℕ
without_breaks [] = []
without_breaks (x ∷ xs) = cond (is_soft_break x) (without_breaks xs) (x ∷ without_breaks xs)

abbrev pub unbroken : List ℕ → Bool
unbroken [] = true
unbroken (x ∷ xs) = not (is_soft_break x) && unbroken xs

abbrev pub spaceless : List ℕ → Bool
spaceless [] = true
spaceless (x ∷ xs) = not (is_space x) && spaceless xs

-- a row closed by a soft break ends with a space, or holds no space and is exactly full
abbrev pub WellBroken : ℕ → List ℕ → Type 0
WellBroken w r = ((0 < length r) × (is_space (slice_index r (length r - 1)) ≡ true)) ⊎ ((length r ≡ w) × (spaceless r ≡ true))

abbrev pub RowsWellBroken : Type 0
RowsWellBroken = (w : ℕ) (xs : List ℕ) → 1 ≤ w → unbroken xs ≡ true → AllByRecursion (WellBroken w) (broken_rows [] (wrapped w xs))

-- without soft breaks the text is the one below, which has soft breaks of its own only where it is wrapped already
abbrev pub BreaksTakenOut : Type 0
BreaksTakenOut = (w : ℕ) (xs : List ℕ) → (without_breaks (wrapped w xs) ≡ without_breaks xs) × (unbroken xs ≡ true → without_breaks (wrapped w xs) ≡ xs)

-- the rest of a line of at most the width is shown as it is, up to its row end or the end of the text
abbrev pub ShortLinesStay : Type 0
ShortLinesStay = (w : ℕ) (xs : List ℕ) → length (line_rest xs) ≤ w → wrapped w xs ≡ line_rest xs ++ wrapped w (drop (rest_length xs) xs)

-- of a longer one a first row is shown, then a soft break, and what is left is wrapped in turn
abbrev pub LongLinesBreak : Type 0
LongLinesBreak =
    (w : ℕ) (xs : List ℕ) → 1 ≤ w → w < length (line_rest xs)
    → wrapped w xs ≡ take (row_length w (line_rest xs)) xs ++ (soft_break ∷ wrapped w (drop (row_length w (line_rest xs)) xs))

-- a row end is shown as it is, and what follows it is wrapped by itself
abbrev pub LinesWrapAlone : Type 0
LinesWrapAlone = (w x : ℕ) (xs : List ℕ) → is_row_end x ≡ true → wrapped w (x ∷ xs) ≡ x ∷ wrapped w xs

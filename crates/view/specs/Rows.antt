-- A row of a text, from a place on. Assumes nothing.
use Rattle.std.specs.Prelude.{◌≡◌, ℕ, ◌<◌, ◌≤◌, Bool, not, List, length, take, drop, Ok, Err, vec_items, Result, Vec}
use Rattle.std.specs.declared.alloc.Global.{Global}
use Rattle.std.specs.List.{prefix_len}
use Rattle.codes.specs.Codes.{is_row_end}
use Rattle.buffer.specs.Refusals.{told}
use Rattle.view.specs.declared.rows.RowFault.{RowFault}
use Rattle.view.specs.declared.rows.RowFault.TheVariants.{View, NoMemory}
use Rattle.view.specs.Refusals.{view_refusal}

abbrev pub is_in_row : ℕ → Bool
is_in_row c = not (is_row_end c)

-- the codes from the place u on, up to the next row end
abbrev pub row_from : List ℕ → ℕ → List ℕ
row_from t u = take (prefix_len is_in_row (drop u t)) (drop u t)

abbrev pub Withheld : List ℕ → ℕ → RowFault → Type 0
Withheld t u (View f) = (length t < u) × (view_refusal f ≡ told 1 u)
Withheld t u NoMemory = Unit {0}

-- the answer when the row from u on is asked for
abbrev pub HandsRow : List ℕ → ℕ → Result (Vec ℕ Global) RowFault → Type 0
HandsRow t u (Ok v) = (u ≤ length t) × (vec_items v ≡ row_from t u)
HandsRow t u (Err f) = Withheld t u f

-- The rows of a text from a row's start on, and the calls at them.
use Rattle.std.proofs.Common.{Ok, Result, String, Global, string_bytes, ◌≡◌, ℕ, ◌+◌, ◌≤◌, cond, List, [], ◌∷◌, length, take, drop, nat_le, ap, refl, ◌∙◌, arith}
use Rattle.std.proofs.lemmas.Bool.Decides.{nat_tests}
use Rattle.std.proofs.lemmas.List.{drop-drop, length-drop}
use Rattle.std.proofs.lemmas.List.Folds.{length-prefix_len}
use Rattle.std.proofs.lemmas.List.Sums.{prefix_len-le-length}
use Rattle.std.proofs.Math.Utf8.{encodes}
use Rattle.std.specs.List.{FoldsTo, prefix_len}
use Rattle.anyhow.specs.declared.error.Error.{Error}
use Rattle.lines.specs.Rows.{rows}
use Rattle.view.specs.Rows.{is_in_row, row_from}
use Rattle.printing.specs.Visits.{Visits, placed}

-- the rows from the place u on, none past the end
abbrev pub rows_from : List ℕ → ℕ → List (List ℕ)
rows_from t u = cond (nat_le u (length t)) (rows (drop u t)) []

-- the first row, and those behind its row end
first_row : (xs : List ℕ) → rows xs ≡ take (prefix_len is_in_row xs) xs ∷ rows_from xs (prefix_len is_in_row xs + 1)
first_row [] = refl
first_row (x ∷ xs) = let rest = first_row xs in grind (arith, nat_tests)

-- a row is handed out at the place u, and the next one begins behind its row end
pub next_row : (t : List ℕ) (u : ℕ) → u ≤ length t → rows_from t u ≡ row_from t u ∷ rows_from t (u + length (row_from t u) + 1)
next_row t u h =
    let k = prefix_len is_in_row (drop u t) in
    let first = first_row (drop u t) in
    let left = length-drop u t in
    let long = length-prefix_len is_in_row (drop u t) in
    let behind = drop-drop (k + 1) u t in
    grind (arith, nat_tests)

module _ (t : List ℕ) (u n : ℕ) (h : u ≤ length t) (e : n ≡ length (row_from t u)) where
  same_next : rows_from t u ≡ row_from t u ∷ rows_from t (u + (n + 1))
  same_next =
      let on : u + length (row_from t u) + 1 ≡ u + (n + 1) = omega (arith, e) in
      next_row t u h ∙ ap (λ (v : ℕ). row_from t u ∷ rows_from t v) on

  -- the row ends within the text, and there is one row more than behind it
  pub row_fits : u + (n + 1) ≤ length t + 1
  row_fits =
      let left = length-drop u t in
      let long = length-prefix_len is_in_row (drop u t) in
      let most = prefix_len-le-length is_in_row (drop u t) in
      omega (arith, e, h)

  pub one_more : length (rows_from t u) ≡ length (rows_from t (u + (n + 1))) + 1
  one_more = let next = ap length same_next in omega arith

  module _ {F : Type 0} (step : F → ℕ → String Global → Result (Unit {0}) Error → F → Type 0) (text : String Global) where
    -- a call at the row from u on, and then those at the rows behind it
    pub visit_more : (f f' last : F) → string_bytes text ≡ encodes (row_from t u) → step f u text (Ok tt) f' → FoldsTo (Visits step) f' (placed (u + (n + 1)) (rows_from t (u + (n + 1)))) last → FoldsTo (Visits step) f (placed u (rows_from t u)) last
    visit_more f f' last b met rest =
        let on : u + length (row_from t u) + 1 ≡ u + (n + 1) = omega (arith, e) in
        rw same_next (f', (text, b, met), rw on rest)

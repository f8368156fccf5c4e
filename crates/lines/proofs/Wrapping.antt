-- What soft wrap does to a text, row by row. Assumes nothing.
use Rattle.std.proofs.Common.{◌≡◌, ℕ, zero, suc, ◌+◌, ◌-◌, ◌<◌, ◌≤◌, true, false, cond, ltb, List, [], ◌∷◌, ◌++◌, length, get_or, take, drop, sym, refl, ap, ◌∙◌, subst, inl, inr, ⊎_elim, append_assoc, arith, length-append, length-take, take_at}
use Rattle.std.specs.List.{AllByRecursion}
use Rattle.std.proofs.lemmas.Bool.Decides.{nat_tests}
use Rattle.std.proofs.lemmas.List.{get_or-take}
use Rattle.std.proofs.lemmas.Bool.{cases_eq, cond_both, both_ways}
use Rattle.codes.specs.Codes.{soft_break, is_soft_break, is_row_end}
use Rattle.places.specs.Pieces.{shown_text}
use Rattle.lines.proofs.Lining.{behind_last_le}
use Rattle.lines.specs.Lines.{line_rest, rest_length, behind_last}
use Rattle.lines.specs.Rows.{before, rows, broken_rows}
use Rattle.lines.specs.Transducers.{pieces_from, text_by}
use Rattle.lines.specs.Wraps.{is_space, row_length, soft_wrap}
use Rattle.lines.specs.Laws.{without_breaks, unbroken, spaceless, WellBroken, RowsFit, RowsWellBroken, BreaksTakenOut, ShortLinesStay, LongLinesBreak}

-- the wrapped text by one recursion, where the row still takes k codes
abbrev wrapped_from : (List ℕ → ℕ) → ℕ → List ℕ → List ℕ
wrapped_from rule k [] = []
wrapped_from rule k (x ∷ xs) =
    cond (is_row_end x) (x ∷ wrapped_from rule (rule (line_rest xs)) xs)
    (cond (ltb 0 k) (x ∷ wrapped_from rule (k - 1) xs)
    (soft_break ∷ x ∷ wrapped_from rule (rule (x ∷ line_rest xs) - 1) xs))

shown_wrapped : (rule : List ℕ → ℕ) (k : ℕ) (xs : List ℕ) → shown_text (pieces_from (soft_wrap rule) k xs) ≡ wrapped_from rule k xs
shown_wrapped rule k [] = refl
shown_wrapped rule k (x ∷ xs) =
    let at_end = shown_wrapped rule (rule (line_rest xs)) xs in
    let in_row = shown_wrapped rule (k - 1) xs in
    let broken = shown_wrapped rule (rule (x ∷ line_rest xs) - 1) xs in
    grind (arith, nat_tests)

text_wrapped : (rule : List ℕ → ℕ) (xs : List ℕ) → text_by (soft_wrap rule) xs ≡ wrapped_from rule (rule (line_rest xs)) xs
text_wrapped rule xs = shown_wrapped rule (rule (line_rest xs)) xs

-- how much a row takes
pub row_most : (w : ℕ) (l : List ℕ) → row_length w l ≤ w
row_most w l =
    let inside = behind_last_le is_space (take w l) in
    let size = length-take w l in
    grind (arith, nat_tests)

pub row_le : (w : ℕ) (l : List ℕ) → row_length w l ≤ length l
row_le w l =
    let inside = behind_last_le is_space (take w l) in
    let size = length-take w l in
    grind (arith, nat_tests)

pub row_some : (w : ℕ) → 1 ≤ w → (x : ℕ) (l : List ℕ) → 1 ≤ row_length w (x ∷ l)
row_some w h x l = grind (arith, nat_tests)

pub row_short : (w : ℕ) (l : List ℕ) → length l ≤ w → row_length w l ≡ length l
row_short w l h = grind (arith, nat_tests)

-- taking the soft breaks out
without_wrapped : (rule : List ℕ → ℕ) (k : ℕ) (xs : List ℕ) → without_breaks (wrapped_from rule k xs) ≡ without_breaks xs
without_wrapped rule k [] = refl
without_wrapped rule k (x ∷ xs) =
    let at_end = without_wrapped rule (rule (line_rest xs)) xs in
    let in_row = without_wrapped rule (k - 1) xs in
    let broken = without_wrapped rule (rule (x ∷ line_rest xs) - 1) xs in
    grind (arith, nat_tests)

without_none : (xs : List ℕ) → unbroken xs ≡ true → without_breaks xs ≡ xs
without_none [] h = refl
without_none (x ∷ xs) h = let rest = without_none xs in grind (arith, nat_tests)

pub breaks_taken_out : BreaksTakenOut
breaks_taken_out w xs =
    let same : without_breaks (text_by (soft_wrap (row_length w)) xs) ≡ without_breaks xs =
    ap without_breaks (text_wrapped (row_length w) xs) ∙ without_wrapped (row_length w) (row_length w (line_rest xs)) xs in
    (same, λ h. same ∙ without_none xs h)

-- the rows and their lengths
abbrev first_length : List (List ℕ) → ℕ
first_length [] = 0
first_length (r ∷ rs) = length r

first_before : (x : ℕ) (rs : List (List ℕ)) → first_length (before x rs) ≡ suc (first_length rs)
first_before x [] = refl
first_before x (r ∷ rs) = refl

all_before : (w x : ℕ) (rs : List (List ℕ)) → suc (first_length rs) ≤ w → AllByRecursion (λ r. length r ≤ w) rs → AllByRecursion (λ r. length r ≤ w) (before x rs)
all_before w x [] h a = (h, tt)
all_before w x (r ∷ rs) h a = (h, a.1)

-- the first row has at most k codes, and every row at most w
Fit : ℕ → ℕ → List (List ℕ) → Type 0
Fit w k rs = (first_length rs ≤ k) × AllByRecursion (λ r. length r ≤ w) rs

fit_end : (w k j x : ℕ) (t : List ℕ) → is_row_end x ≡ true → Fit w j (rows t) → Fit w k (rows (x ∷ t))
unfolding Fit
fit_end w k j x t e f = cond_both (is_row_end x) ([] ∷ rows t) (before x (rows t)) (Fit w k) (λ _. (omega arith, (omega arith, f.1))) (λ d. absurd (both_ways (is_row_end x) d e))

fit_code : (w k j x : ℕ) (t : List ℕ) → is_row_end x ≡ false → Fit w j (rows t) → j < k → k ≤ w → Fit w k (rows (x ∷ t))
unfolding Fit
fit_code w k j x t e f l h =
    cond_both (is_row_end x) ([] ∷ rows t) (before x (rows t)) (Fit w k)
    (λ d. absurd (both_ways (is_row_end x) e d))
    (λ _. (omega (arith, first_before x (rows t)), all_before w x (rows t) (omega arith) f.1))

module _ (rule : List ℕ → ℕ) (w : ℕ) (one : 1 ≤ w) (most : (l : List ℕ) → rule l ≤ w) where
  fit_wrapped : (k : ℕ) (xs : List ℕ) → k ≤ w → Fit w k (rows (wrapped_from rule k xs))
  unfolding Fit
  fit_wrapped k [] h = (omega arith, (omega arith, tt))
  fit_wrapped k (x ∷ xs) h =
      let most_left = most (line_rest xs) in
      let most_here = most (x ∷ line_rest xs) in
      let P : List ℕ → Type 0 = λ t. Fit w k (rows t) in
      let ended : List ℕ = wrapped_from rule (rule (line_rest xs)) xs in
      let going : List ℕ = wrapped_from rule (k - 1) xs in
      let anew : List ℕ = wrapped_from rule (rule (x ∷ line_rest xs) - 1) xs in
      cond_both (is_row_end x) (x ∷ ended) (cond (ltb 0 k) (x ∷ going) (soft_break ∷ x ∷ anew)) P
      (λ e. fit_end w k (rule (line_rest xs)) x ended e (fit_wrapped (rule (line_rest xs)) xs most_left))
      (λ e. cond_both (ltb 0 k) (x ∷ going) (soft_break ∷ x ∷ anew) P
      (λ l. let room : 0 < k = grind (arith, nat_tests) in fit_code w k (k - 1) x going e (fit_wrapped (k - 1) xs (omega arith)) (omega arith) h)
      (λ l. fit_end w k w soft_break (x ∷ anew) refl
      (fit_code w w (rule (x ∷ line_rest xs) - 1) x anew e (fit_wrapped (rule (x ∷ line_rest xs) - 1) xs (omega arith)) (omega arith) (omega arith))))

  all_fit : (xs : List ℕ) → AllByRecursion (λ r. length r ≤ w) (rows (text_by (soft_wrap rule) xs))
  unfolding Fit
  all_fit xs =
      let P : List ℕ → Type 0 = λ t. AllByRecursion (λ r. length r ≤ w) (rows t) in
      subst P (sym (text_wrapped rule xs)) (fit_wrapped (rule (line_rest xs)) xs (most (line_rest xs))).1

pub rows_fit : RowsFit
rows_fit w xs h = all_fit (row_length w) w h (row_most w) xs

-- what holds of every front that a rule takes of a longer rest of a line holds of every row that a soft break closes
module _ (rule : List ℕ → ℕ) (some : (x : ℕ) (l : List ℕ) → 1 ≤ rule (x ∷ l)) (Q : List ℕ → Type 0) (fronts : (l : List ℕ) → rule l < length l → Q (take (rule l) l)) where
  broken_wrapped : (r : List ℕ) (k : ℕ) (xs : List ℕ) → unbroken xs ≡ true → rule (r ++ line_rest xs) ≡ length r + k → AllByRecursion Q (broken_rows r (wrapped_from rule k xs))
  broken_wrapped r k [] s h = tt
  broken_wrapped r k (x ∷ xs) s h =
      let P : List ℕ → Type 0 = λ t. AllByRecursion Q (broken_rows r t) in
      let ended : List ℕ = wrapped_from rule (rule (line_rest xs)) xs in
      let going : List ℕ = wrapped_from rule (k - 1) xs in
      let anew : List ℕ = wrapped_from rule (rule (x ∷ line_rest xs) - 1) xs in
      let left : unbroken xs ≡ true = grind (arith, nat_tests) in
      let hard : is_soft_break x ≡ false = grind (arith, nat_tests) in
      cond_both (is_row_end x) (x ∷ ended) (cond (ltb 0 k) (x ∷ going) (soft_break ∷ x ∷ anew)) P
      (λ e. let same : broken_rows r (x ∷ ended) ≡ broken_rows [] ended = grind (arith, nat_tests) in
      subst (AllByRecursion Q) (sym same) (broken_wrapped [] (rule (line_rest xs)) xs left (omega arith)))
      (λ e. let whole : line_rest (x ∷ xs) ≡ x ∷ line_rest xs = grind (arith, nat_tests) in
      let taken : rule (r ++ x ∷ line_rest xs) ≡ length r + k = ap (λ l. rule (r ++ l)) (sym whole) ∙ h in
      cond_both (ltb 0 k) (x ∷ going) (soft_break ∷ x ∷ anew) P
      (λ l. let room : 0 < k = grind (arith, nat_tests) in
      let same : broken_rows r (x ∷ going) ≡ broken_rows (r ++ x ∷ []) going = grind (arith, nat_tests) in
      subst (AllByRecursion Q) (sym same) (broken_wrapped (r ++ x ∷ []) (k - 1) xs left
      (ap rule (append_assoc r (x ∷ []) (line_rest xs)) ∙ taken ∙ omega (arith, length-append r (x ∷ [])))))
      (λ l. let none : k ≡ 0 = grind (arith, nat_tests) in
      let same : broken_rows [] (x ∷ anew) ≡ broken_rows (x ∷ []) anew = grind (arith, nat_tests) in
      let exact : rule (r ++ x ∷ line_rest xs) ≡ length r = omega arith in
      let here : take (rule (r ++ x ∷ line_rest xs)) (r ++ x ∷ line_rest xs) ≡ r = ap (λ z. take z (r ++ x ∷ line_rest xs)) exact ∙ take_at r (x ∷ line_rest xs) (length r) refl in (
        subst Q here (fronts (r ++ x ∷ line_rest xs) (omega (arith, length-append r (x ∷ line_rest xs)))),
        subst (AllByRecursion Q) (sym same) (broken_wrapped (x ∷ []) (rule (x ∷ line_rest xs) - 1) xs left (omega (arith, some x (line_rest xs)))),
      )))

  all_broken : (xs : List ℕ) → unbroken xs ≡ true → AllByRecursion Q (broken_rows [] (text_by (soft_wrap rule) xs))
  all_broken xs s =
      let P : List ℕ → Type 0 = λ t. AllByRecursion Q (broken_rows [] t) in
      subst P (sym (text_wrapped rule xs)) (broken_wrapped [] (rule (line_rest xs)) xs s (omega arith))

-- the last code before that place is a space
behind_space : (xs : List ℕ) (j : ℕ) → behind_last is_space xs ≡ suc j → is_space (get_or xs j 0) ≡ true
behind_space [] j h = absurd (omega arith)
behind_space (x ∷ xs) zero h = grind (arith, nat_tests)
behind_space (x ∷ xs) (suc j) h = let rest = behind_space xs j in grind (arith, nat_tests)

behind_none : (xs : List ℕ) → behind_last is_space xs ≡ 0 → spaceless xs ≡ true
behind_none [] h = refl
behind_none (x ∷ xs) h = let rest = behind_none xs in grind (arith, nat_tests)

row_well_broken : (w : ℕ) (l : List ℕ) → row_length w l < length l → WellBroken w (take (row_length w l) l)
row_well_broken w l h =
    let a : ℕ = behind_last is_space (take w l) in
    let long : w < length l = grind (arith, nat_tests) in
    let inside : a ≤ w = omega (arith, behind_last_le is_space (take w l), length-take w l) in
    ⊎_elim
    (λ none. let is : row_length w l ≡ w = grind (arith, nat_tests) in
    inr (omega (arith, is, length-take (row_length w l) l), ap (λ z. spaceless (take z l)) is ∙ behind_none (take w l) none))
    (λ more. let is : row_length w l ≡ a = grind (arith, nat_tests) in
    let size : length (take (row_length w l) l) ≡ a = omega (arith, is, length-take (row_length w l) l) in
    let last : get_or (take (row_length w l) l) (length (take (row_length w l) l) - 1) 0 ≡ get_or (take w l) (a - 1) 0 =
    ap (λ z. get_or (take (row_length w l) l) (z - 1) 0) size
    ∙ get_or-take (row_length w l) l (a - 1) 0 (omega arith) ∙ sym (get_or-take w l (a - 1) 0 (omega arith)) in
    inl (omega arith, ap is_space last ∙ behind_space (take w l) (a - 1) (omega arith)))
    (cases_eq a 0)

pub rows_well_broken : RowsWellBroken
rows_well_broken w xs h = all_broken (row_length w) (row_some w h) (WellBroken w) (row_well_broken w) xs

-- a row that is shorter than the rest of its line is shown, then a soft break, and all begins anew
module _ (rule : List ℕ → ℕ) (some : (x : ℕ) (l : List ℕ) → 1 ≤ rule (x ∷ l)) where
  row_broken : (k : ℕ) (xs : List ℕ) → k < length (line_rest xs)
      → wrapped_from rule k xs ≡ take k xs ++ (soft_break ∷ wrapped_from rule (rule (line_rest (drop k xs))) (drop k xs))
  row_broken k [] h = absurd (omega arith)
  row_broken zero (x ∷ xs) h = let one = some x (line_rest xs) in grind (arith, nat_tests)
  row_broken (suc k) (x ∷ xs) h =
      let code : is_row_end x ≡ false = grind (arith, nat_tests) in
      let less : k < length (line_rest xs) = grind (arith, nat_tests) in
      let back : suc k - 1 ≡ k = omega arith in
      let rest = row_broken k xs less in
      grind (arith, nat_tests)

-- the rest of a line that fits is shown whole, and what the row then still takes does not matter
row_whole : (rule : List ℕ → ℕ) (k j : ℕ) (xs : List ℕ) → length (line_rest xs) ≤ k → wrapped_from rule k xs ≡ line_rest xs ++ wrapped_from rule j (drop (rest_length xs) xs)
row_whole rule k j [] h = refl
row_whole rule k j (x ∷ xs) h = let rest = row_whole rule (k - 1) j xs in grind (arith, nat_tests)

pub short_lines_stay : ShortLinesStay
short_lines_stay w xs h =
    let left = drop (rest_length xs) xs in
    text_wrapped (row_length w) xs
    ∙ row_whole (row_length w) (row_length w (line_rest xs)) (row_length w (line_rest left)) xs (omega (arith, row_short w (line_rest xs) h))
    ∙ ap (λ z. line_rest xs ++ z) (sym (text_wrapped (row_length w) left))

pub long_lines_break : LongLinesBreak
long_lines_break w xs one h =
    let k = row_length w (line_rest xs) in
    text_wrapped (row_length w) xs
    ∙ row_broken (row_length w) (row_some w one) k xs (omega (arith, row_most w (line_rest xs)))
    ∙ ap (λ z. take k xs ++ (soft_break ∷ z)) (sym (text_wrapped (row_length w) (drop k xs)))

-- a row end is shown as it is, and what follows is wrapped anew
pub wrapped_anew : (w x : ℕ) (xs : List ℕ) → is_row_end x ≡ true → text_by (soft_wrap (row_length w)) (x ∷ xs) ≡ x ∷ text_by (soft_wrap (row_length w)) xs
wrapped_anew w x xs e =
    let here : wrapped_from (row_length w) (row_length w (line_rest (x ∷ xs))) (x ∷ xs) ≡ x ∷ wrapped_from (row_length w) (row_length w (line_rest xs)) xs = grind (arith, nat_tests) in
    text_wrapped (row_length w) (x ∷ xs) ∙ here ∙ ap (λ z. x ∷ z) (sym (text_wrapped (row_length w) xs))

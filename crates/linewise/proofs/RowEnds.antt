-- A row that is broken: what a walk from its start knows, and where it ends. Assumes nothing.
use Rattle.std.proofs.Common.{◌≡◌, ℕ, ◌+◌, ◌-◌, ◌<◌, ◌≤◌, false, cond, eqb, List, [], ◌∷◌, ◌++◌, length, get_or, take, drop, sym, refl, ap, None, Some, Option, ◌∙◌, subst, append_assoc, arith, length-append, length-drop}
use Rattle.std.specs.Option.{unwrap_or}
use Rattle.std.proofs.lemmas.List.{take_more, get_or-drop, length-take, append-nil, take_at}
use Rattle.std.proofs.lemmas.Bool.Decides.{nat_tests}
use Rattle.codes.specs.Codes.{is_row_end}
use Rattle.lines.specs.Lines.{line_rest, behind_last}
use Rattle.lines.specs.Wraps.{is_space, row_end}
use Rattle.lines.proofs.Stepping.{behind_here, behind_same, rest_more, rest_all}

-- the first j codes from the place p on are in one row, and s is the place behind the last space among them, if there is one
pub record InRow (w : ℕ) (xs : List ℕ) (p j : ℕ) (s : Option ℕ) : Type 0 where
  pub fits : j ≤ w
  pub inside : p + j ≤ length xs
  pub line : line_rest (drop p xs) ≡ take j (drop p xs) ++ line_rest (drop (p + j) xs)
  pub spaced : s ≡ cond (eqb (behind_last is_space (take j (drop p xs))) 0) None (Some (p + behind_last is_space (take j (drop p xs))))

pub in_row_none : (w : ℕ) (xs : List ℕ) (p : ℕ) → p ≤ length xs → InRow w xs p 0 None
in_row_none w xs p h =
    let here : p ≡ p + 0 = omega arith in
    record { fits = omega arith; inside = omega arith; line = ap (λ (n : ℕ). line_rest (drop n xs)) here; spaced = refl }

module _ (w : ℕ) (xs : List ℕ) (p j : ℕ) (s : Option ℕ) (h : InRow w xs p j s) where
  length-row : length (take j (drop p xs)) ≡ j
  length-row = omega (arith, length-take j (drop p xs), length-drop p xs, h.inside)

  -- where the line ends, or the text, the row does
  pub row_closed : line_rest (drop (p + j) xs) ≡ [] → row_end w xs p ≡ p + j
  row_closed e =
      let whole : line_rest (drop p xs) ≡ take j (drop p xs) = h.line ∙ ap (λ z. take j (drop p xs) ++ z) e ∙ append-nil (take j (drop p xs)) in
      let long : length (line_rest (drop p xs)) ≡ j = ap length whole ∙ length-row in
      let fits = h.fits in
      grind (arith, nat_tests)

  code_here : p + j < length xs → get_or (drop p xs) j 0 ≡ get_or xs (p + j) 0
  code_here k = get_or-drop p xs j 0

  module _ (k : p + j < length xs) (goes : is_row_end (get_or xs (p + j) 0) ≡ false) where
    -- a full row ends behind its last space, or here where it has none
    pub row_full : j ≡ w → row_end w xs p ≡ unwrap_or s (p + j)
    row_full full =
        let l : List ℕ = line_rest (drop p xs) in
        let more : l ≡ take j (drop p xs) ++ (get_or xs (p + j) 0 ∷ line_rest (drop (p + j + 1) xs)) =
        h.line ∙ ap (λ z. take j (drop p xs) ++ z) (rest_more xs (p + j) k goes) in
        let long : w < length l = omega (arith, ap length more, length-append (take j (drop p xs)) (get_or xs (p + j) 0 ∷ line_rest (drop (p + j + 1) xs)), length-row) in
        let front : take w l ≡ take j (drop p xs) =
        ap (take w) more ∙ take_at (take j (drop p xs)) (get_or xs (p + j) 0 ∷ line_rest (drop (p + j + 1) xs)) w (length-row ∙ full) in
        let last : behind_last is_space (take w l) ≡ behind_last is_space (take j (drop p xs)) = ap (behind_last is_space) front in
        let spaced = h.spaced in
        grind (arith, nat_tests)

    line_on : line_rest (drop p xs) ≡ take (j + 1) (drop p xs) ++ line_rest (drop (p + (j + 1)) xs)
    line_on =
        let inside : j < length (drop p xs) = omega (arith, length-drop p xs) in
        let next : p + j + 1 ≡ p + (j + 1) = omega arith in
        let one : take (j + 1) (drop p xs) ≡ take j (drop p xs) ++ (get_or xs (p + j) 0 ∷ []) =
        take_more (drop p xs) j 0 inside ∙ ap (λ (x : ℕ). take j (drop p xs) ++ (x ∷ [])) (code_here k) in
        h.line ∙ ap (λ z. take j (drop p xs) ++ z) (rest_more xs (p + j) k goes)
        ∙ ap (λ (n : ℕ). take j (drop p xs) ++ (get_or xs (p + j) 0 ∷ line_rest (drop n xs))) next
        ∙ sym (append_assoc (take j (drop p xs)) (get_or xs (p + j) 0 ∷ []) (line_rest (drop (p + (j + 1)) xs)))
        ∙ ap (λ z. z ++ line_rest (drop (p + (j + 1)) xs)) (sym one)

    -- one code further on
    pub in_row_more : j < w → (t : Option ℕ) → t ≡ cond (is_space (get_or xs (p + j) 0)) (Some (p + j + 1)) s → InRow w xs p (j + 1) t
    in_row_more less t is =
        let inside : j < length (drop p xs) = omega (arith, length-drop p xs) in
        let same = ap is_space (code_here k) in
        let here = behind_here is_space (drop p xs) j inside in
        let still = behind_same is_space (drop p xs) j inside in
        let spaced = h.spaced in
        record { fits = omega arith; inside = omega arith; line = line_on; spaced = grind (arith, nat_tests) }

-- the same by the place i that a walk has come to
module _ (w : ℕ) (xs : List ℕ) (p i : ℕ) (s : Option ℕ) (le : p ≤ i) (h : InRow w xs p (i - p) s) where
  there : p + (i - p) ≡ i
  there = omega arith

  pub row_closed_at : line_rest (drop i xs) ≡ [] → row_end w xs p ≡ i
  row_closed_at e = row_closed w xs p (i - p) s h (ap (λ (n : ℕ). line_rest (drop n xs)) there ∙ e) ∙ there

  module _ (k : i < length xs) (goes : is_row_end (get_or xs i 0) ≡ false) where
    on : is_row_end (get_or xs (p + (i - p)) 0) ≡ false
    on = ap (λ (n : ℕ). is_row_end (get_or xs n 0)) there ∙ goes

    pub row_full_at : i - p ≡ w → row_end w xs p ≡ unwrap_or s i
    row_full_at full = row_full w xs p (i - p) s h (omega arith) on full ∙ ap (unwrap_or s) there

    pub in_row_more_at : i - p < w → (t : Option ℕ) → t ≡ cond (is_space (get_or xs i 0)) (Some (i + 1)) s → InRow w xs p (i + 1 - p) t
    in_row_more_at less t is =
        let next : i - p + 1 ≡ i + 1 - p = omega arith in
        let same : t ≡ cond (is_space (get_or xs (p + (i - p)) 0)) (Some (p + (i - p) + 1)) s = is ∙ ap (λ (n : ℕ). cond (is_space (get_or xs n 0)) (Some (n + 1)) s) (sym there) in
        let P : ℕ → Type 0 = λ j. InRow w xs p j t in
        subst P next (in_row_more w xs p (i - p) s h (omega arith) on less t same)

-- a row that begins at the end of the text, or past it, has no codes
pub row_past : (w : ℕ) (xs : List ℕ) (p : ℕ) → length xs ≤ p → p ≡ row_end w xs p
row_past w xs p h = let e = rest_all xs p h in let l = ap length e in grind (arith, nat_tests)

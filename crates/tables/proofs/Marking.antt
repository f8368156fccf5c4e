-- What records show and take together. Assumes nothing.
use Rattle.std.proofs.Common.{◌≡◌, ℕ, ◌+◌, min, List, [], ◌∷◌, ◌++◌, map, length, take, sum_by, refl, ap, ◌∙◌, arith}
use Rattle.std.proofs.lemmas.List.{length-take, take_at}
use Rattle.std.proofs.lemmas.List.Sums.{sum_by-cons}
use Rattle.places.specs.Marks.{Mark, shown_in, taken_in}
use Rattle.tables.specs.declared.hint.Hint.{Hint}
use Rattle.tables.specs.declared.fold.Fold.{Fold}
use Rattle.tables.specs.Hints.{hint_mark}
use Rattle.tables.specs.Folds.{fold_mark}

pub shown_sum : {R : Type 0} (mark : R → Mark) (xs : List R) → sum_by (λ x. length (mark x).shows) xs ≡ shown_in (map mark xs)
shown_sum mark [] = refl
shown_sum mark (x ∷ xs) = sum_by-cons (λ y. length (mark y).shows) x xs ∙ ap (λ (n : ℕ). length (mark x).shows + n) (shown_sum mark xs)

pub taken_sum : {R : Type 0} (mark : R → Mark) (xs : List R) → sum_by (λ x. (mark x).takes) xs ≡ taken_in (map mark xs)
taken_sum mark [] = refl
taken_sum mark (x ∷ xs) = sum_by-cons (λ y. (mark y).takes) x xs ∙ ap (λ (n : ℕ). (mark x).takes + n) (taken_sum mark xs)

pub hints-take : (xs : List Hint) → taken_in (map hint_mark xs) ≡ 0
hints-take [] = refl
hints-take (x ∷ xs) = omega (arith, hints-take xs)

folds_show : (xs : List Fold) → shown_in (map fold_mark xs) ≡ length xs
folds_show [] = refl
folds_show (x ∷ xs) = omega (arith, folds_show xs)

pub first_folds_show : (n : ℕ) (xs : List Fold) → shown_in (map fold_mark (take n xs)) ≡ min n (length xs)
first_folds_show n xs = folds_show (take n xs) ∙ length-take n xs

-- a hint whose cells begin with w and whose length is that of w
pub hint_shows : (at : ℕ) (w cells rest : List ℕ) → cells ≡ w → hint_mark record { at = at; len = length w; codes = cells ++ rest } ≡ record { at = at; takes = 0; shows = w }
hint_shows at w cells rest e =
    let front : take (length w) (cells ++ rest) ≡ w = ap (λ (z : List ℕ). take (length w) (z ++ rest)) e ∙ take_at w rest (length w) refl in
    ap {B = Mark} (λ (s : List ℕ). record { at = at; takes = 0; shows = s }) front

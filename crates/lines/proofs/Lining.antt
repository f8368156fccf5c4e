-- Where lines begin and end, and what a change keeps of that. Assumes nothing.
use Rattle.std.proofs.Common.{◌≡◌, ℕ, ◌+◌, ◌-◌, ◌<◌, ◌≤◌, Bool, List, [], ◌∷◌, ◌++◌, length, take, drop, sym, ap, arith, length-drop, length-take}
use Rattle.std.proofs.lemmas.Bool.Decides.{nat_tests}
use Rattle.codes.specs.Codes.{is_row_end}
use Rattle.places.specs.Changes.{Keeps}
use Rattle.lines.specs.Lines.{line_rest, rest_length, behind_last, line_start, line_end}

pub rest_length_le : (xs : List ℕ) → rest_length xs ≤ length xs
rest_length_le [] = omega arith
rest_length_le (x ∷ xs) = let rest = rest_length_le xs in grind (arith, nat_tests)

pub behind_last_le : (p : ℕ → Bool) (xs : List ℕ) → behind_last p xs ≤ length xs
behind_last_le p [] = omega arith
behind_last_le p (x ∷ xs) = let rest = behind_last_le p xs in grind (arith, nat_tests)

pub line_end_fits : (xs : List ℕ) (p : ℕ) → p ≤ length xs → line_end xs p ≤ length xs
line_end_fits xs p h = omega (arith, rest_length_le (drop p xs), length-drop p xs)

pub line_start_le : (xs : List ℕ) (p : ℕ) → line_start xs p ≤ p
line_start_le xs p = omega (arith, behind_last_le is_row_end (take p xs), length-take p xs)

-- a line that ends within a is that of a alone
pub line_within : (a x y : List ℕ) → 0 < behind_last is_row_end a → line_rest (a ++ x) ≡ line_rest (a ++ y)
line_within [] x y h = absurd (omega arith)
line_within (c ∷ a) x y h = let rest = line_within a x y in grind (arith, nat_tests)

-- the line behind a change ends as far behind it as before, and the one before it begins where it did
pub line_end_new : (xs ys : List ℕ) (s o n : ℕ) → Keeps xs ys s o n → line_end xs (s + o) + n - o ≡ line_end ys (s + n)
line_end_new xs ys s o n k = omega (arith, ap rest_length k.back)

pub line_start_new : (xs ys : List ℕ) (s o n : ℕ) → Keeps xs ys s o n → line_start xs s ≡ line_start ys s
line_start_new xs ys s o n k = ap (behind_last is_row_end) (sym k.front)

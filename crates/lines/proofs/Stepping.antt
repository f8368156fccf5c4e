-- Lines and last codes, one code further on. Assumes nothing.
use Rattle.std.proofs.Common.{◌≡◌, ℕ, ◌+◌, ◌-◌, ◌<◌, ◌≤◌, Bool, true, false, cond, List, [], ◌∷◌, ◌++◌, length, get_or, take, drop, sym, ap, ◌∙◌, arith}
use Rattle.std.proofs.lemmas.List.{take_more, drop_more, drop_all, length-take}
use Rattle.std.proofs.lemmas.Bool.Decides.{nat_tests}
use Rattle.codes.specs.Codes.{is_row_end}
use Rattle.lines.specs.Lines.{line_rest, rest_length, behind_last, line_start, line_end}

-- the last code that passes, with one more code at the end
behind_push : (p : ℕ → Bool) (xs : List ℕ) (x : ℕ) → behind_last p (xs ++ (x ∷ [])) ≡ cond (p x) (length xs + 1) (behind_last p xs)
behind_push p [] x = grind (arith, nat_tests)
behind_push p (y ∷ xs) x = let rest = behind_push p xs x in grind (arith, nat_tests)

module _ (p : ℕ → Bool) (xs : List ℕ) (i : ℕ) (inside : i < length xs) where
  step : behind_last p (take (i + 1) xs) ≡ cond (p (get_or xs i 0)) (i + 1) (behind_last p (take i xs))
  step =
      let long : length (take i xs) ≡ i = omega (arith, length-take i xs) in
      ap (behind_last p) (take_more xs i 0 inside)
      ∙ behind_push p (take i xs) (get_or xs i 0)
      ∙ ap (λ (n : ℕ). cond (p (get_or xs i 0)) (n + 1) (behind_last p (take i xs))) long

  pub behind_here : p (get_or xs i 0) ≡ true → behind_last p (take (i + 1) xs) ≡ i + 1
  behind_here e = let s = step in grind (arith, nat_tests)

  pub behind_same : p (get_or xs i 0) ≡ false → behind_last p (take (i + 1) xs) ≡ behind_last p (take i xs)
  behind_same e = let s = step in grind (arith, nat_tests)

-- where the line that holds the place i begins, by the code in front of it
module _ (xs : List ℕ) (i : ℕ) (some : 0 < i) (inside : i ≤ length xs) where
  up : i - 1 + 1 ≡ i
  up = omega arith

  pub start_here : is_row_end (get_or xs (i - 1) 0) ≡ true → i - 1 + 1 ≡ line_start xs i
  start_here e = sym (behind_here is_row_end xs (i - 1) (omega arith) e) ∙ ap (line_start xs) up

  pub start_same : is_row_end (get_or xs (i - 1) 0) ≡ false → line_start xs (i - 1) ≡ line_start xs i
  start_same e = sym (behind_same is_row_end xs (i - 1) (omega arith) e) ∙ ap (line_start xs) up

-- where a line ends
pub end_all : (xs : List ℕ) (i : ℕ) → length xs ≤ i → line_end xs i ≡ i
end_all xs i h = let e = ap rest_length (drop_all i xs h) in omega arith

module _ (xs : List ℕ) (i : ℕ) (inside : i < length xs) where
  pub end_here : is_row_end (get_or xs i 0) ≡ true → line_end xs i ≡ i
  end_here e = let d = ap rest_length (drop_more xs i 0 inside) in grind (arith, nat_tests)

  pub end_more : is_row_end (get_or xs i 0) ≡ false → line_end xs (i + 1) ≡ line_end xs i
  end_more e = let d = ap rest_length (drop_more xs i 0 inside) in grind (arith, nat_tests)

  -- what is left of a line
  pub rest_here : is_row_end (get_or xs i 0) ≡ true → line_rest (drop i xs) ≡ []
  rest_here e = let d = ap line_rest (drop_more xs i 0 inside) in grind (arith, nat_tests)

  pub rest_more : is_row_end (get_or xs i 0) ≡ false → line_rest (drop i xs) ≡ get_or xs i 0 ∷ line_rest (drop (i + 1) xs)
  rest_more e = let d = ap line_rest (drop_more xs i 0 inside) in grind (arith, nat_tests)

pub rest_all : (xs : List ℕ) (i : ℕ) → length xs ≤ i → line_rest (drop i xs) ≡ []
rest_all xs i h = ap line_rest (drop_all i xs h)

-- Running sums, step by step, and where they pass a limit. Assumes nothing.
use Rattle.std.proofs.Common.{◌≡◌, ℕ, suc, ◌+◌, ◌<◌, ◌≤◌, false, ltb, List, ◌∷◌, length, get_or, take, add-one, arith}
use Rattle.std.proofs.lemmas.List.{take-take}
use Rattle.std.proofs.lemmas.List.Sums.{sum_by-cons, sum_by_more, sum_by-take-le}
use Rattle.std.proofs.lemmas.Bool.{lt-ltb, le-ltb}
use Rattle.codes.specs.Sums.{running_sum, passing_index}
use Rattle.codes.proofs.Least.{least_is}

module _ {R : Type 0} (measure : R → ℕ) where
  -- the first record and those behind it, as a loop takes them
  pub running_front : (x : R) (xs ys : List R) (m n : ℕ) → ys ≡ x ∷ xs → m + 1 ≡ n → running_sum measure ys n ≡ measure x + running_sum measure xs m
  running_front x xs ys m n e f = rw (e, ← f, add-one) (sum_by-cons measure x (take m xs))

module _ {R : Type 0} (measure : R → ℕ) (xs : List R) where
  running_rises : (i j : ℕ) → i ≤ j → running_sum measure xs i ≤ running_sum measure xs j
  running_rises i j h = rw (take-take i j xs h) at (sum_by-take-le measure (take j xs) i)

  -- while the sum has not passed the limit, no record before has passed it
  within_before : (limit i : ℕ) → running_sum measure xs i ≤ limit → (j : ℕ) → j < i → ltb limit (running_sum measure xs (suc j)) ≡ false
  within_before limit i h j l = le-ltb limit (running_sum measure xs (suc j)) (omega (arith, running_rises (suc j) i l))

  -- the record x at i is the first past the limit
  pub passing_here : (limit i : ℕ) (x : R) → i < length xs → x ≡ get_or xs i x → running_sum measure xs i ≤ limit → limit < running_sum measure xs i + measure x → passing_index measure xs limit ≡ i
  passing_here limit i x l e h past =
      let more : running_sum measure xs (suc i) ≡ running_sum measure xs i + measure x = rw (← e, add-one) at (sum_by_more measure xs i x l) in
      least_is (λ k. ltb limit (running_sum measure xs (suc k))) (length xs) i (omega arith) (within_before limit i h) (λ _. lt-ltb limit (running_sum measure xs (suc i)) (omega arith))

  pub passing_none : (limit : ℕ) → running_sum measure xs (length xs) ≤ limit → passing_index measure xs limit ≡ length xs
  passing_none limit h =
      least_is (λ k. ltb limit (running_sum measure xs (suc k))) (length xs) (length xs) (omega arith) (within_before limit (length xs) h) (λ l. absurd (omega arith))

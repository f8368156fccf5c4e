-- What `least` gives. Assumes nothing.
use Rattle.std.proofs.Common.{◌≡◌, ℕ, zero, suc, ◌<◌, ◌≤◌, Bool, true, false, ap, ◌∙◌, arith}
use Rattle.std.proofs.lemmas.Bool.{cond-true, cond-false}
use Rattle.codes.specs.Search.{least}

-- a number at most n is the least that passes, where all below it fail and it passes or is n
pub least_is : (p : ℕ → Bool) (n k : ℕ) → k ≤ n → ((j : ℕ) → j < k → p j ≡ false) → (k < n → p k ≡ true) → least p n ≡ k
least_is p zero k h before here = omega arith
least_is p (suc n) zero h before here = cond-true (p 0) 0 (suc (least (λ j. p (suc j)) n)) (here (omega arith))
least_is p (suc n) (suc k) h before here =
    cond-false (p 0) 0 (suc (least (λ j. p (suc j)) n)) (before 0 (omega arith))
    ∙ ap suc (least_is (λ j. p (suc j)) n k (omega arith) (λ j l. before (suc j) (omega arith)) (λ l. here (omega arith)))

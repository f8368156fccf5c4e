-- The least number that passes a test. Assumes nothing.
use Rattle.std.specs.Prelude.{ℕ, zero, suc, Bool, cond}

-- the least k below n that passes, or n where none does
abbrev pub least : (ℕ → Bool) → ℕ → ℕ
least p zero = 0
least p (suc n) = cond (p 0) 0 (suc (least (λ k. p (suc k)) n))

-- Running sums over records that have a measure. Assumes nothing.
use Rattle.std.specs.Prelude.{ℕ, suc, List, length, take, sum_by, nat_lt}
use Rattle.codes.specs.Search.{least}

-- the sum of the measures of the first n records
abbrev pub running_sum : {R : Type 0} → (R → ℕ) → List R → ℕ → ℕ
running_sum measure records n = sum_by measure (take n records)

-- the first record at which the running sum, that record included, passes m, or their number where it never does
abbrev pub passing_index : {R : Type 0} → (R → ℕ) → List R → ℕ → ℕ
passing_index measure records m = least (λ k. nat_lt m (running_sum measure records (suc k))) (length records)

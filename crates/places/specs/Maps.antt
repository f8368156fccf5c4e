-- A place map goes from the places 0..t of an upper text to the places 0..n of a lower one. Assumes nothing.
use Rattle.std.specs.Prelude.{◌≡◌, ℕ, zero, suc, ◌≤◌, Bool, cond, ◌↔◌, nat_le}
use Rattle.codes.specs.Search.{least}

-- the greatest k of 0..n that passes, or 0 where none does
abbrev pub greatest : (ℕ → Bool) → ℕ → ℕ
greatest p zero = 0
greatest p (suc n) = cond (p (suc n)) (suc n) (greatest p n)

-- the least upper place that lies at or behind the lower place d
abbrev pub first_of : (ℕ → ℕ) → ℕ → ℕ → ℕ
first_of under t d = least (λ u. nat_le d (under u)) t

-- the greatest upper place that lies at or before the lower place d
abbrev pub last_of : (ℕ → ℕ) → ℕ → ℕ → ℕ
last_of under t d = greatest (λ u. nat_le (under u) d) t

-- the map never falls, and goes from start to start and from end to end
pub record Rises (under : ℕ → ℕ) (t n : ℕ) : Type 0 where
  pub rises : (u v : ℕ) → u ≤ v → v ≤ t → under u ≤ under v
  pub starts : under 0 ≡ 0
  pub ends : under t ≡ n

-- what first and last are to a rising map: the two order rules, at all places
pub record Finds (under first last : ℕ → ℕ) (t n : ℕ) : Type 0 where
  pub map : Rises under t n
  pub first_in : (d : ℕ) → d ≤ n → first d ≤ t
  pub last_in : (d : ℕ) → d ≤ n → last d ≤ t
  pub first_rule : (u d : ℕ) → u ≤ t → d ≤ n → (first d ≤ u) ↔ (d ≤ under u)
  pub last_rule : (u d : ℕ) → u ≤ t → d ≤ n → (u ≤ last d) ↔ (under u ≤ d)

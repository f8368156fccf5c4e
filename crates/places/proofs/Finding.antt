-- The two searches in a rising map meet their rules, and the rules leave no choice. Assumes nothing.
use Rattle.std.proofs.Common.{◌≡◌, ℕ, zero, suc, ◌<◌, ◌≤◌, Bool, true, false, leb, ◌↔◌, ap, ◌∙◌, ⊎_elim, arith}
use Rattle.std.proofs.lemmas.Bool.{leb-true, leb-false, le-leb, cases_lt, cases_eq}
use Rattle.codes.specs.Search.{least}
use Rattle.places.specs.Maps.{greatest, first_of, last_of, Rises, Finds}

least_le : (p : ℕ → Bool) (n : ℕ) → least p n ≤ n
least_le p zero = omega arith
least_le p (suc n) = let rest = least_le (λ k. p (suc k)) n in grind arith

least_passes : (p : ℕ → Bool) (n : ℕ) → p n ≡ true → p (least p n) ≡ true
least_passes p zero e = e
least_passes p (suc n) e = let rest = least_passes (λ k. p (suc k)) n e in grind arith

least_before : (p : ℕ → Bool) (n k : ℕ) → k < least p n → p k ≡ false
least_before p zero k h = absurd (omega arith)
least_before p (suc n) zero h = grind arith
least_before p (suc n) (suc k) h = let rest = least_before (λ k. p (suc k)) n k in grind arith

greatest_le : (p : ℕ → Bool) (n : ℕ) → greatest p n ≤ n
greatest_le p zero = omega arith
greatest_le p (suc n) = let rest = greatest_le p n in grind arith

greatest_passes : (p : ℕ → Bool) (n : ℕ) → p 0 ≡ true → p (greatest p n) ≡ true
greatest_passes p zero e = e
greatest_passes p (suc n) e = let rest = greatest_passes p n e in grind arith

greatest_behind : (p : ℕ → Bool) (n k : ℕ) → greatest p n < k → k ≤ n → p k ≡ false
greatest_behind p zero k h l = absurd (omega arith)
greatest_behind p (suc n) k h l = let rest = greatest_behind p n k in grind (arith, cases_eq k (suc n))

module _ (under : ℕ → ℕ) (t n : ℕ) (map : Rises under t n) where
  first_meets : (u d : ℕ) → u ≤ t → d ≤ n → (first_of under t d ≤ u) ↔ (d ≤ under u)
  first_meets u d hu hd =
      let passes : ℕ → Bool = λ v. leb d (under v) in
      let found : ℕ = first_of under t d in
      let reached = leb-true d (under found) (least_passes passes t (le-leb d (under t) (omega (arith, map.ends)))) in (
        λ h. omega (arith, map.rises found u h hu),
        λ h. ⊎_elim (λ early. absurd (omega (arith, leb-false d (under u) (least_before passes t u early)))) (λ fine. fine) (cases_lt u found),
      )

  last_meets : (u d : ℕ) → u ≤ t → d ≤ n → (u ≤ last_of under t d) ↔ (under u ≤ d)
  last_meets u d hu hd =
      let passes : ℕ → Bool = λ v. leb (under v) d in
      let found : ℕ = last_of under t d in
      let reached = leb-true (under found) d (greatest_passes passes t (le-leb (under 0) d (omega (arith, map.starts)))) in (
        λ h. omega (arith, map.rises u found h (greatest_le passes t)),
        λ h. ⊎_elim (λ late. absurd (omega (arith, leb-false (under u) d (greatest_behind passes t u late hu)))) (λ fine. fine) (cases_lt found u),
      )

  -- in any rising map the two searches meet the rules
  pub searches_find : Finds under (first_of under t) (last_of under t) t n
  searches_find = record {
    map = map;
    first_in = λ d _. least_le (λ u. leb d (under u)) t;
    last_in = λ d _. greatest_le (λ u. leb (under u) d) t;
    first_rule = first_meets;
    last_rule = last_meets;
  }

both_ways : {A B C : Type 0} → A ↔ B → B ↔ C → A ↔ C
both_ways p q = (λ a. q.0 (p.0 a), λ c. p.1 (q.1 c))

-- one map over another: the upper goes from 0..t to 0..n, and the lower from 0..n to 0..m
pub composed : {under₁ first₁ last₁ under₂ first₂ last₂ : ℕ → ℕ} {t n m : ℕ} → Finds under₁ first₁ last₁ t n → Finds under₂ first₂ last₂ n m
    → Finds (λ u. under₂ (under₁ u)) (λ d. first₁ (first₂ d)) (λ d. last₁ (last₂ d)) t m
composed {under₁} {first₁} {last₁} {under₂} {first₂} {last₂} {t} {n} {m} a b =
    let inside : (u : ℕ) → u ≤ t → under₁ u ≤ n = λ u h. omega (arith, a.map.rises u t h (omega arith), a.map.ends) in
    record {
      map = record {
        rises = λ u v h k. b.map.rises (under₁ u) (under₁ v) (a.map.rises u v h k) (inside v k);
        starts = ap under₂ a.map.starts ∙ b.map.starts;
        ends = ap under₂ a.map.ends ∙ b.map.ends;
      };
      first_in = λ d h. a.first_in (first₂ d) (b.first_in d h);
      last_in = λ d h. a.last_in (last₂ d) (b.last_in d h);
      first_rule = λ u d hu hd. both_ways (a.first_rule u (first₂ d) hu (b.first_in d hd)) (b.first_rule (under₁ u) d (inside u hu) hd);
      last_rule = λ u d hu hd. both_ways (a.last_rule u (last₂ d) hu (b.last_in d hd)) (b.last_rule (under₁ u) d (inside u hu) hd);
    }

-- two pairs that meet the rules of one map agree
module _ {under first₁ last₁ first₂ last₂ : ℕ → ℕ} {t n : ℕ} (a : Finds under first₁ last₁ t n) (b : Finds under first₂ last₂ t n) (d : ℕ) (h : d ≤ n) where
  pub same_first : first₁ d ≡ first₂ d
  same_first =
      let e₁ = a.first_rule (first₂ d) d (b.first_in d h) h in
      let e₂ = b.first_rule (first₂ d) d (b.first_in d h) h in
      let e₃ = a.first_rule (first₁ d) d (a.first_in d h) h in
      let e₄ = b.first_rule (first₁ d) d (a.first_in d h) h in
      omega arith

  pub same_last : last₁ d ≡ last₂ d
  same_last =
      let e₁ = a.last_rule (last₂ d) d (b.last_in d h) h in
      let e₂ = b.last_rule (last₂ d) d (b.last_in d h) h in
      let e₃ = a.last_rule (last₁ d) d (a.last_in d h) h in
      let e₄ = b.last_rule (last₁ d) d (a.last_in d h) h in
      omega arith

module _ {under first last : ℕ → ℕ} {t n : ℕ} (finds : Finds under first last t n) where
  -- so what meets the rules is the two searches
  pub first_found : (d : ℕ) → d ≤ n → first d ≡ first_of under t d
  first_found d h = same_first finds (searches_find under t n finds.map) d h

  pub last_found : (d : ℕ) → d ≤ n → last d ≡ last_of under t d
  last_found d h = same_last finds (searches_find under t n finds.map) d h

  -- the place first d lies at or behind d, and no earlier one does
  pub first_reaches : (d : ℕ) → d ≤ n → d ≤ under (first d)
  first_reaches d h = (finds.first_rule (first d) d (finds.first_in d h) h).0 (omega arith)

  pub first_earliest : (d u : ℕ) → d ≤ n → u ≤ t → u < first d → under u < d
  first_earliest d u h hu l = let e = finds.first_rule u d hu h in grind arith

  -- the place last d lies at or before d, and no later one does
  pub last_within : (d : ℕ) → d ≤ n → under (last d) ≤ d
  last_within d h = (finds.last_rule (last d) d (finds.last_in d h) h).0 (omega arith)

  pub last_latest : (d u : ℕ) → d ≤ n → u ≤ t → last d < u → d < under u
  last_latest d u h hu l = let e = finds.last_rule u d hu h in grind arith

  pub under_in : (u : ℕ) → u ≤ t → under u ≤ n
  under_in u h = omega (arith, finds.map.rises u t h (omega arith), finds.map.ends)

  -- each place stands between the first and the last of what lies under it
  pub place_between : (u : ℕ) → u ≤ t → (first (under u) ≤ u) × (u ≤ last (under u))
  place_between u h =
      let k = under_in u h in
      ((finds.first_rule u (under u) h k).1 (omega arith), (finds.last_rule u (under u) h k).1 (omega arith))

-- a first place is a place, of any map and for any number
pub first_le : (under : ℕ → ℕ) (t d : ℕ) → first_of under t d ≤ t
first_le under t d = least_le (λ u. leb d (under u)) t

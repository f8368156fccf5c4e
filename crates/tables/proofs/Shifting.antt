-- Records of a table moved up or down by one item, for one more and for one less. Assumes nothing.
use Rattle.std.proofs.Common.{◌≡◌, ℕ, ◌+◌, ◌-◌, ◌<◌, ◌≤◌, List, length, get_or, take, set, ap, ◌∙◌, arith, rules}
use Rattle.std.proofs.lemmas.Bool.{cases_eq}
use Rattle.std.proofs.lemmas.List.{same_lists, places, get_or-set_same}
use Rattle.std.specs.List.{CopiedTo, SameBelow, insert, remove}
use Rattle.tables.proofs.Tables.{records_cut}

module _ {X : Type 0} (old new : List X) (long : length new ≡ length old) where
  more : (n k : ℕ) (x : X) → CopiedTo old new k (k + 1) (n - k) → SameBelow old new (k + 1) → k ≤ n → n < length old → take (n + 1) (set new k x) ≡ insert (take n old) k x
  more n k x up low h l =
      same_lists (take (n + 1) (set new k x)) (insert (take n old) k x)
      (search (rules, places))
      (λ m d hm.
      let above : k < m → m ≤ n → get_or new m d ≡ get_or old (m - 1) d = λ p q. up m d (omega arith) (omega arith) ∙ ap (λ (z : ℕ). get_or old z d) (omega arith) in
      let below = low m d in
      let here = get_or-set_same new k x d in
      grind (arith, places, cases_eq m k))

  less : (n k : ℕ) → CopiedTo old new (k + 1) k (n - (k + 1)) → SameBelow old new k → k < n → n ≤ length old → take (n - 1) new ≡ remove (take n old) k
  less n k down low h l =
      same_lists (take (n - 1) new) (remove (take n old) k)
      (search (rules, places))
      (λ m d hm.
      let above : k ≤ m → m + 1 < n → get_or new m d ≡ get_or old (m + 1) d = λ p q. down m d (omega arith) (omega arith) ∙ ap (λ (z : ℕ). get_or old z d) (omega arith) in
      let below = low m d in
      grind (arith, places))

  -- of a table of n records, as `count` says: with x before the one at k, and without the one at k
  pub inserted : (count n k : ℕ) (x : X) → n ≡ length (take count old) → CopiedTo old new k (k + 1) (n - k) → SameBelow old new (k + 1) → k ≤ n → n < length old
      → take (n + 1) (set new k x) ≡ insert (take count old) k x
  inserted count n k x e up low h l = more n k x up low h l ∙ ap (λ (z : List X). insert z k x) (records_cut old count n e)

  pub removed : (count n k : ℕ) → n ≡ length (take count old) → CopiedTo old new (k + 1) k (n - (k + 1)) → SameBelow old new k → k < n → n ≤ length old → take (n - 1) new ≡ remove (take count old) k
  removed count n k e down low h l = less n k down low h l ∙ ap (λ (z : List X). remove z k) (records_cut old count n e)

-- A word stands at a place exactly where each of its codes does. Assumes nothing.
use Rattle.std.proofs.Common.{◌≡◌, ℕ, zero, suc, ◌+◌, ◌<◌, ◌≤◌, Bool, true, false, List, ◌∷◌, length, get_or, take, drop, Some, None, Option, MatchOption, Decides, sym, refl, ap, ◌∙◌, add-zero, arith}
use Rattle.std.proofs.lemmas.List.{ext_get_or, length-take, length-drop, get_or-take, get_or-drop}
use Rattle.std.specs.Bool.{MatchBool}
use Rattle.std.specs.List.{zip, range_with_len, AllWithin, HoldsAt}
use Rattle.std.proofs.lemmas.List.FromFn.{length-range_with_len, get_or-range_with_len}
use Rattle.std.proofs.lemmas.Slice.Zip.{length-zip, get_or-zip}
use Rattle.document.specs.Words.{StandsAt, FirstAt}

pub decides_no : {P : Type 0} → (P → ⊥) → Decides false P
decides_no never = (λ e. let z : ◌≡◌ {A = ℕ} 0 1 = cc in absurd (omega arith), λ p. absurd (never p))

pub decides_yes : {P : Type 0} → P → Decides true P
decides_yes p = (λ _. p, λ _. refl)

module _ (d w : List ℕ) (u : ℕ) where
  pub stands_code : StandsAt d w u → (k : ℕ) → k < length w → get_or d (u + k) 0 ≡ get_or w k 0
  stands_code s k h =
      sym (get_or-drop u d k 0) ∙ sym (get_or-take (length w) (drop u d) k 0 h) ∙ ap (λ (v : List ℕ). get_or v k 0) s.1

  pub stands_from : u + length w ≤ length d → ((k : ℕ) → k < length w → get_or d (u + k) 0 ≡ get_or w k 0) → StandsAt d w u
  stands_from l each =
      let n = length-take (length w) (drop u d) in
      let m = length-drop u d in
      (omega arith, ext_get_or 0 (take (length w) (drop u d)) w (omega arith) (λ k h. let h' : k < length w = omega arith in get_or-take (length w) (drop u d) k 0 h' ∙ get_or-drop u d k 0 ∙ each k h'))

  -- the first place below one past the end of the document is the first of all
  pub first_of : (n : ℕ) (x : Option ℕ) → length d + 1 ≤ n
      → MatchOption x ((v : ℕ) → u ≤ v → v < n → StandsAt d w v → ⊥) (λ i. (u ≤ i) × (i < n) × StandsAt d w i × ((v : ℕ) → u ≤ v → v < i → StandsAt d w v → ⊥))
      → FirstAt d w u x
  first_of n None l none = λ v h s. none v h (omega arith) s
  first_of n (Some i) l h = (h.0, h.2, h.3)

-- the codes of the word and the places that they should stand at, side by side
module _ (d w : List ℕ) (u n : ℕ) (inside : u + length w ≤ length d) (short : length w ≤ n) where
  length-pairs : length (zip w (range_with_len u n)) ≡ length w
  length-pairs = let a = length-zip w (range_with_len u n) in let b = length-range_with_len u n in omega arith

  pair : (k : ℕ) → k < length w → get_or (zip w (range_with_len u n)) k (0, 0) ≡ (get_or w k 0, u + k)
  pair k h =
      let b = length-range_with_len u n in
      get_or-zip w (range_with_len u n) k (0, 0) h (omega arith) ∙ ap (λ (i : ℕ). (get_or w k 0, i)) (get_or-range_with_len u n k 0 (omega arith))

  -- every pair or one of them decides
  pub decided : (x : Bool)
      → MatchBool x (AllWithin (λ p. (p.1 < length d) × (get_or d p.1 0 ≡ p.0)) (zip w (range_with_len u n)) 0 (length (zip w (range_with_len u n)))) ((k : ℕ) × (k < length (zip w (range_with_len u n))) × HoldsAt (λ p. p.1 < length d → get_or d p.1 0 ≡ p.0 → ⊥) (zip w (range_with_len u n)) k)
      → Decides x (StandsAt d w u)
  decided true all =
      let l = length-pairs in
      decides_yes (stands_from d w u inside (λ k h. (rw (pair k h) at (all k (0, 0) (omega arith) (omega arith))).1))
  decided false off =
      let l = length-pairs in
      let h : off.0 < length w = omega (arith, off.1) in
      decides_no (λ s. (rw (pair off.0 h) at (off.2 (0, 0))) (omega arith) (stands_code d w u s off.0 h))

-- a word stands where its first code does and the others stand behind it
module _ (d rest : List ℕ) (f u : ℕ) (inside : u + length (f ∷ rest) ≤ length d) (here : get_or d u 0 ≡ f) where
  each : StandsAt d rest (u + 1) → (k : ℕ) → k < length (f ∷ rest) → get_or d (u + k) 0 ≡ get_or (f ∷ rest) k 0
  each s zero h = ap (λ (i : ℕ). get_or d i 0) (add-zero u) ∙ here
  each s (suc k) h = let on : u + suc k ≡ u + 1 + k = omega arith in ap (λ (i : ℕ). get_or d i 0) on ∙ stands_code d rest (u + 1) s k (omega arith)

  behind : StandsAt d (f ∷ rest) u → StandsAt d rest (u + 1)
  behind s =
      stands_from d rest (u + 1) (omega arith) (λ k h.
      let on : u + 1 + k ≡ u + suc k = omega arith in
      ap (λ (i : ℕ). get_or d i 0) on ∙ stands_code d (f ∷ rest) u s (suc k) (omega arith))

  pub decided_behind : (x : Bool) → Decides x (StandsAt d rest (u + 1)) → Decides x (StandsAt d (f ∷ rest) u)
  decided_behind x by = (λ e. stands_from d (f ∷ rest) u inside (each (by.0 e)), λ s. by.1 (behind s))

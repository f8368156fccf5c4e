-- A walk through the text below, and what it knows at the end. Assumes nothing.
use Rattle.std.proofs.Common.{◌≡◌, ℕ, suc, ◌+◌, ◌-◌, ◌<◌, ◌≤◌, List, length, get_or, drop, sym, ap, ◌∙◌, subst, ⊎_elim, arith}
use Rattle.std.proofs.lemmas.List.{get_or_past}
use Rattle.lines.specs.Transducers.{Transducer, text_by, place_by, last_by, reach_by, Steady}
use Rattle.std.proofs.lemmas.Bool.{cases_eq}
use Rattle.places.proofs.Finding.{first_reaches}
use Rattle.lines.proofs.Scanning.{scan_finds, first_reach, last_reach, last_end, Stands, stands_none, stands_more, reach_more, reach_none, reach_le, reach_all, place_held, place_end}
use Rattle.linewise.specs.Scans.{Bounded}

-- behind i codes, of which r are shown, a walk is in the state k, which can be counted
pub record Walked (m : Transducer) (xs : List ℕ) (i r k : ℕ) : Type 0 where
  pub reached : r ≡ reach_by m xs i
  pub stands : Stands m xs i k
  pub small : k ≤ r + 1024

pub walked_none : (m : Transducer) (xs : List ℕ) (k : ℕ) → Bounded m → k ≡ m.start xs → Walked m xs 0 0 k
walked_none m xs k b e =
    let P : ℕ → Type 0 = λ z. Stands m xs 0 z in
    record { reached = sym (reach_none m xs); stands = subst P (sym e) (stands_none m xs); small = omega (arith, b.start_small xs) }

module _ (m : Transducer) (xs : List ℕ) (i r k x n : ℕ) (h : Walked m xs i r k) (inside : i < length xs) (here : x ≡ get_or xs i 0) (size : n ≡ length (m.show k x)) where
  size_here : n ≡ length (m.show k (get_or xs i 0))
  size_here = size ∙ ap (λ (z : ℕ). length (m.show k z)) here

  pub reached_more : r + n ≡ reach_by m xs (i + 1)
  reached_more =
      let next : suc i ≡ i + 1 = omega arith in
      let e : reach_by m xs (i + 1) ≡ reach_by m xs i + length (m.show k (get_or xs i 0)) = ap (reach_by m xs) (sym next) ∙ reach_more m xs i k inside h.stands in
      let f = h.reached in
      let s = size_here in
      omega arith

  -- what is shown so far can be counted where the text above can
  pub reached_le : r + n ≤ length (text_by m xs)
  reached_le = omega (arith, reached_more, reach_le m xs (i + 1))

  pub walked_more : (j : ℕ) → Bounded m → j ≡ m.next k x (drop (i + 1) xs) → Walked m xs (i + 1) (r + n) j
  walked_more j b e =
      let next : suc i ≡ i + 1 = omega arith in
      let on : m.next k (get_or xs i 0) (drop (suc i) xs) ≡ j = ap (λ (z : ℕ). m.next k z (drop (suc i) xs)) (sym here) ∙ ap (λ (z : ℕ). m.next k x (drop z xs)) next ∙ sym e in
      let P : ℕ → Type 0 = λ z. Stands m xs z j in
      let Q : ℕ → Type 0 = λ z. Stands m xs (suc i) z in
      record {
        reached = reached_more;
        stands = subst P next (subst Q on (stands_more m xs i k inside h.stands));
        small = omega (arith, h.small, b.next_small k x (drop (i + 1) xs));
      }

  -- a place among the codes that are shown of this one
  module _ (u : ℕ) (steady : Steady m) (from : r ≤ u) (to : u < r + n) where
    held : (place_by m xs u ≡ i) × (get_or (text_by m xs) u 0 ≡ get_or (m.show k (get_or xs i 0)) (u - reach_by m xs i) 0)
    held = place_held m xs i k steady inside h.stands u (omega (arith, h.reached)) (omega (arith, h.reached, size_here))

    -- it lies over this one, and v is the code there
    pub spot_here : (v : ℕ) → v ≡ get_or (m.show k x) (u - r) 0 → (i ≡ place_by m xs u) × (v ≡ get_or (text_by m xs) u 0)
    spot_here v e = (
      sym held.0,
      e ∙ ap (λ (z : ℕ). get_or (m.show k z) (u - r) 0) here ∙ ap (λ (z : ℕ). get_or (m.show k (get_or xs i 0)) (u - z) 0) h.reached ∙ sym held.1,
    )

-- at the end of the text below all is shown
module _ (m : Transducer) (xs : List ℕ) (i r k u : ℕ) (h : Walked m xs i r k) (all : length xs ≤ i) (steady : Steady m) (from : r ≤ u) (to : u ≤ length (text_by m xs)) where
  whole : u ≡ length (text_by m xs)
  whole = omega (arith, h.reached, reach_all m xs i all)

  pub spot_past : (n : ℕ) → n ≡ length xs → (n ≡ place_by m xs u) × (0 ≡ get_or (text_by m xs) u 0)
  spot_past n e = (e ∙ sym (ap (place_by m xs) whole ∙ place_end m steady xs), sym (get_or_past (text_by m xs) u 0 (omega (arith, whole))))

-- of one code or more something is shown
pub reach_some : (m : Transducer) → Steady m → (xs : List ℕ) (l : ℕ) → l < length xs → 1 ≤ reach_by m xs (l + 1)
reach_some m law xs l h =
    let first = first_reach m law xs (l + 1) (omega arith) in
    let found = first_reaches (scan_finds m law xs) (l + 1) (omega arith) in
    let start = (scan_finds m law xs).map.starts in
    ⊎_elim (λ none. absurd (omega (arith, ap (place_by m xs) (first ∙ none)))) (λ some. omega arith) (cases_eq (reach_by m xs (l + 1)) 0)

-- the last place over a code is the one before all that is shown up to behind it, and over the end it is the end
pub last_within : (m : Transducer) → Steady m → (xs : List ℕ) (l : ℕ) → l < length xs → last_by m xs l ≡ reach_by m xs (l + 1) - 1
last_within m law xs l h = let next : suc l ≡ l + 1 = omega arith in last_reach m law xs l h ∙ ap (λ (z : ℕ). reach_by m xs z - 1) next

pub last_past : (m : Transducer) → Steady m → (xs : List ℕ) (l : ℕ) → l ≤ length xs → length xs ≤ l → last_by m xs l ≡ reach_by m xs l
last_past m law xs l h k =
    let all : l ≡ length xs = omega arith in
    ap (last_by m xs) all ∙ last_end m law xs ∙ sym (reach_all m xs l k)

-- what the check is told of a step and of the ends of a walk
pub ruleset steps = (walked_none, reached_le, first_reach)

pub ruleset ends = (reach_some, last_within, last_past)

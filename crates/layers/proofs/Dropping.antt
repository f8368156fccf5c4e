-- How far a change reaches, found by going through the records. Assumes nothing.
use Rattle.std.proofs.Common.{◌≡◌, ℕ, ◌+◌, ◌<◌, ◌≤◌, min, max, true, false, List, [], ◌∷◌, map, length, get_or, drop, sym, ap, ◌∙◌, subst, arith}
use Rattle.std.proofs.lemmas.List.{drop_more}
use Rattle.std.proofs.lemmas.Bool.{cond-true, cond-false}
use Rattle.places.specs.Marks.{Mark, past, dropped, lowest, highest}
use Rattle.places.proofs.Following.{lowest_le, highest_ge}

-- where a search for the reach of a change stands: `rest` of the marks ms lie ahead
pub record Reached (s o : ℕ) (ms rest : List Mark) (low high : ℕ) : Type 0 where
  pub low_le : low ≤ s
  pub high_ge : s + o ≤ high
  pub lows : min low (lowest s o rest) ≡ lowest s o ms
  pub highs : max high (highest s o rest) ≡ highest s o ms

pub reached_none : (s o : ℕ) (ms : List Mark) → Reached s o ms ms s (s + o)
reached_none s o ms = record {
  low_le = omega arith;
  high_ge = omega arith;
  lows = omega (arith, lowest_le s o ms);
  highs = omega (arith, highest_ge s o ms);
}

pub reached_all : (s o : ℕ) (ms : List Mark) (low high : ℕ) → Reached s o ms [] low high → (low ≡ lowest s o ms) × (high ≡ highest s o ms)
reached_all s o ms low high h = (omega (arith, h.low_le, h.lows), omega (arith, h.high_ge, h.highs))

module _ (s o : ℕ) (ms rest : List Mark) (m : Mark) (low high : ℕ) (h : Reached s o ms (m ∷ rest) low high) where
  reached_gone : dropped s o m ≡ true → Reached s o ms rest (min low m.at) (max high (past m))
  reached_gone e =
      let l = cond-true (dropped s o m) (min m.at (lowest s o rest)) (lowest s o rest) e in
      let u = cond-true (dropped s o m) (max (past m) (highest s o rest)) (highest s o rest) e in
      record {
        low_le = omega (arith, h.low_le);
        high_ge = omega (arith, h.high_ge);
        lows = omega (arith, h.lows);
        highs = omega (arith, h.highs);
      }

  reached_kept : dropped s o m ≡ false → Reached s o ms rest low high
  reached_kept e =
      let l = cond-false (dropped s o m) (min m.at (lowest s o rest)) (lowest s o rest) e in
      let u = cond-false (dropped s o m) (max (past m) (highest s o rest)) (highest s o rest) e in
      record {
        low_le = h.low_le;
        high_ge = h.high_ge;
        lows = omega (arith, h.lows);
        highs = omega (arith, h.highs);
      }

-- the record x at i is done
module _ {R : Type 0} (mark : R → Mark) (s o : ℕ) (ms : List Mark) (records : List R) (i : ℕ) (x : R) (low high : ℕ)
    (inside : i < length records) (read : x ≡ get_or records i x) (h : Reached s o ms (map mark (drop i records)) low high) where
  ahead : Reached s o ms (mark x ∷ map mark (drop (i + 1) records)) low high
  ahead =
      let P : List Mark → Type 0 = λ z. Reached s o ms z low high in
      subst P (ap (map mark) (drop_more records i x inside ∙ ap (λ (y : R). y ∷ drop (i + 1) records) (sym read))) h

  pub next_gone : (low' high' : ℕ) → dropped s o (mark x) ≡ true → low' ≡ min low (mark x).at → high' ≡ max high (past (mark x)) → Reached s o ms (map mark (drop (i + 1) records)) low' high'
  next_gone low' high' e el eh =
      let done = reached_gone s o ms (map mark (drop (i + 1) records)) (mark x) low high ahead e in
      record {
        low_le = omega (arith, done.low_le);
        high_ge = omega (arith, done.high_ge);
        lows = omega (arith, done.lows);
        highs = omega (arith, done.highs);
      }

  pub next_kept : (low' high' : ℕ) → dropped s o (mark x) ≡ false → low' ≡ low → high' ≡ high → Reached s o ms (map mark (drop (i + 1) records)) low' high'
  next_kept low' high' e el eh =
      let done = reached_kept s o ms (map mark (drop (i + 1) records)) (mark x) low high ahead e in
      record {
        low_le = omega (arith, done.low_le);
        high_ge = omega (arith, done.high_ge);
        lows = omega (arith, done.lows);
        highs = omega (arith, done.highs);
      }

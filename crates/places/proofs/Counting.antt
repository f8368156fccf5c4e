-- Sums over the marks before an index, and where those marks end. Assumes nothing.
use Rattle.std.proofs.Common.{◌≡◌, ℕ, zero, suc, ◌+◌, ◌<◌, ◌≤◌, List, [], ◌∷◌, ◌++◌, length, get_or, take, drop, sym, refl, ap, ◌∙◌, arith, take-append-drop}
use Rattle.std.proofs.lemmas.List.{take_more}
use Rattle.places.specs.Marks.{Mark, past, Placed, taken_in, shown_in}
use Rattle.places.proofs.Placing.{placed_le, taken_in-append, shown_in-append}

-- the place behind the last mark, or p where there is none
abbrev pub end_by : ℕ → List Mark → ℕ
end_by p [] = p
end_by p (m ∷ ms) = end_by (past m) ms

end_push : (ms : List Mark) (m : Mark) (p : ℕ) → end_by p (ms ++ (m ∷ [])) ≡ past m
end_push [] m p = refl
end_push (x ∷ ms) m p = end_push ms m (past x)

-- one mark more in each sum
module _ (ms : List Mark) (j : ℕ) (m : Mark) (l : j < length ms) (e : m ≡ get_or ms j m) where
  front_more : take (j + 1) ms ≡ take j ms ++ (m ∷ [])
  front_more = take_more ms j m l ∙ ap (λ z. take j ms ++ (z ∷ [])) (sym e)

  pub taken_more : taken_in (take (j + 1) ms) ≡ taken_in (take j ms) + m.takes
  taken_more = omega (arith, ap taken_in front_more, taken_in-append (take j ms) (m ∷ []))

  pub shown_more : shown_in (take (j + 1) ms) ≡ shown_in (take j ms) + length m.shows
  shown_more = omega (arith, ap shown_in front_more, shown_in-append (take j ms) (m ∷ []))

  pub end_more : end_by 0 (take (j + 1) ms) ≡ past m
  end_more = ap (end_by 0) front_more ∙ end_push (take j ms) m 0

-- no sum of the first marks is larger than that of all
pub taken_front : (ms : List Mark) (j : ℕ) → taken_in (take j ms) ≤ taken_in ms
taken_front ms j = omega (arith, ap taken_in (take-append-drop j ms), taken_in-append (take j ms) (drop j ms))

pub shown_front : (ms : List Mark) (j : ℕ) → shown_in (take j ms) ≤ shown_in ms
shown_front ms j = omega (arith, ap shown_in (take-append-drop j ms), shown_in-append (take j ms) (drop j ms))

-- the marks before an index and those from there on
pub placed_halves : (ms : List Mark) (j p n : ℕ) → Placed p ms n → Placed p (take j ms) (end_by p (take j ms)) × Placed (end_by p (take j ms)) (drop j ms) n
placed_halves ms zero p n h = (omega arith, h)
placed_halves [] (suc j) p n h = (omega arith, h)
placed_halves (m ∷ ms) (suc j) p n h = let rest = placed_halves ms j (past m) n h.2 in ((h.0, h.1, rest.0), rest.1)

pub placed_end : (ms : List Mark) (j p n : ℕ) → Placed p ms n → p ≤ end_by p (take j ms)
placed_end ms j p n h = placed_le (take j ms) p (end_by p (take j ms)) (placed_halves ms j p n h).0

pub placed_at : (ms : List Mark) (j p n : ℕ) (e : Mark) → Placed p ms n → j < length ms → p ≤ (get_or ms j e).at
placed_at [] j p n e h l = absurd (omega arith)
placed_at (m ∷ ms) zero p n e h l = h.0
placed_at (m ∷ ms) (suc j) p n e h l = let rest = placed_at ms j (past m) n e h.2 (omega arith) in omega arith

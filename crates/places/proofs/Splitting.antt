-- Marks split at a place, by where they end or by where they begin. Assumes nothing.
use Rattle.std.proofs.Common.{◌≡◌, ℕ, ◌<◌, ◌≤◌, cond, ltb, List, [], ◌∷◌, ◌++◌, refl, ap, ◌∙◌, ⊎_elim, arith}
use Rattle.std.specs.List.{AllByRecursion}
use Rattle.std.proofs.lemmas.Bool.Decides.{nat_tests}
use Rattle.std.proofs.lemmas.Bool.{cases_lt}
use Rattle.places.specs.Marks.{Mark, past, Placed, ended, unended, Light}
use Rattle.places.proofs.Reaching.{Beyond}

-- the marks that begin before c, which come first, and the others
abbrev pub begun : ℕ → List Mark → List Mark
begun c [] = []
begun c (m ∷ ms) = cond (ltb m.at c) (m ∷ begun c ms) []

abbrev pub unbegun : ℕ → List Mark → List Mark
unbegun c [] = []
unbegun c (m ∷ ms) = cond (ltb m.at c) (unbegun c ms) (m ∷ ms)

pub ended_split : (s : ℕ) (ms : List Mark) → ended s ms ++ unended s ms ≡ ms
ended_split s [] = refl
ended_split s (m ∷ ms) = let rest = ended_split s ms in grind (arith, nat_tests)

begun_split : (c : ℕ) (ms : List Mark) → begun c ms ++ unbegun c ms ≡ ms
begun_split c [] = refl
begun_split c (m ∷ ms) = let rest = begun_split c ms in grind (arith, nat_tests)

pub split_both : (s c : ℕ) (ms : List Mark) → ended s ms ++ (begun c (unended s ms) ++ unbegun c (unended s ms)) ≡ ms
split_both s c ms = ap (λ z. ended s ms ++ z) (begun_split c (unended s ms)) ∙ ended_split s ms

-- one mark more
module _ (m : Mark) (ms : List Mark) (s : ℕ) where
  pub ended_in : past m ≤ s → ended s (m ∷ ms) ≡ m ∷ ended s ms
  ended_in h = grind (arith, nat_tests)

  pub ended_out : s < past m → ended s (m ∷ ms) ≡ []
  ended_out h = grind (arith, nat_tests)

  pub unended_in : past m ≤ s → unended s (m ∷ ms) ≡ unended s ms
  unended_in h = grind (arith, nat_tests)

  pub unended_out : s < past m → unended s (m ∷ ms) ≡ m ∷ ms
  unended_out h = grind (arith, nat_tests)

  pub begun_in : m.at < s → begun s (m ∷ ms) ≡ m ∷ begun s ms
  begun_in h = grind (arith, nat_tests)

  pub begun_out : s ≤ m.at → begun s (m ∷ ms) ≡ []
  begun_out h = grind (arith, nat_tests)

  pub unbegun_in : m.at < s → unbegun s (m ∷ ms) ≡ unbegun s ms
  unbegun_in h = grind (arith, nat_tests)

  pub unbegun_out : s ≤ m.at → unbegun s (m ∷ ms) ≡ m ∷ ms
  unbegun_out h = grind (arith, nat_tests)

pub ended_placed : (s p N : ℕ) (ms : List Mark) → Placed p ms N → p ≤ s → Placed p (ended s ms) s
ended_placed s p N [] h l = l
ended_placed s p N (m ∷ ms) h l = ⊎_elim
    (λ (over : s < past m). rw ended_out l)
    (λ (within : past m ≤ s). rw ended_in (h.0, h.1, ended_placed s (past m) N ms h.2 within))
    (cases_lt s (past m))

pub begun_before : (c : ℕ) (ms : List Mark) → AllByRecursion (λ m. m.at < c) (begun c ms)
begun_before c [] = tt
begun_before c (m ∷ ms) = ⊎_elim
    (λ (l : m.at < c). rw begun_in (l, begun_before c ms))
    (λ (l : c ≤ m.at). rw begun_out tt)
    (cases_lt m.at c)

pub beyond_none : (s : ℕ) (ms : List Mark) → Beyond s ms → begun s ms ≡ []
beyond_none s [] h = refl
beyond_none s (m ∷ ms) h = let b : s ≤ m.at = omega arith in rw begun_out

-- hints that do not end by s begin behind it
pub light_beyond : (s : ℕ) (ms : List Mark) → Light ms → Beyond s (unended s ms)
light_beyond s [] g = tt
light_beyond s (m ∷ ms) g = ⊎_elim
    (λ (over : s < past m). rw unended_out (omega (arith, g.0)))
    (λ (within : past m ≤ s). rw unended_in (light_beyond s ms g.1))
    (cases_lt s (past m))

pub light_unended : (s p N : ℕ) (ms : List Mark) → Light ms → Placed p ms N → s ≤ N → Placed s (unended s ms) N
light_unended s p N [] g h l = l
light_unended s p N (m ∷ ms) g h l = ⊎_elim
    (λ (over : s < past m). rw unended_out (omega (arith, g.0), h.1, h.2))
    (λ (within : past m ≤ s). rw unended_in (light_unended s (past m) N ms g.1 h.2 l))
    (cases_lt s (past m))

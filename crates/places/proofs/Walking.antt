-- The two searches over spans as walks from the front. Assumes nothing.
use Rattle.std.proofs.Common.{◌≡◌, ℕ, ◌+◌, ◌-◌, ◌≤◌, true, cond, ltb, List, [], ◌∷◌, arith}
use Rattle.std.proofs.lemmas.Bool.Decides.{nat_tests}
use Rattle.places.specs.Maps.{first_of, last_of, Finds}
use Rattle.places.specs.Pieces.{Span, taken_by, shown_by, all_show, under_by, Rewrites}
use Rattle.places.proofs.Finding.{first_found, last_found}
use Rattle.places.proofs.Rewriting.{under_start, rewrites_rises}

abbrev pub walk_first : List Span → ℕ → ℕ
walk_first [] d = 0
walk_first (p ∷ ps) d = cond (ltb 0 d) (p.shows + walk_first ps (d - p.takes)) 0

abbrev pub walk_last : List Span → ℕ → ℕ
walk_last [] d = 0
walk_last (p ∷ ps) d = cond (ltb d p.takes) (p.shows - 1) (p.shows + walk_last ps (d - p.takes))

first_in : (ps : List Span) (d : ℕ) → walk_first ps d ≤ shown_by ps
first_in [] d = omega arith
first_in (p ∷ ps) d = let rest = first_in ps (d - p.takes) in grind (arith, nat_tests)

last_in : (ps : List Span) (d : ℕ) → walk_last ps d ≤ shown_by ps
last_in [] d = omega arith
last_in (p ∷ ps) d = let rest = last_in ps (d - p.takes) in grind (arith, nat_tests)

first_to : (ps : List Span) (u d : ℕ) → d ≤ taken_by ps → walk_first ps d ≤ u → d ≤ under_by ps u
first_to [] u d h l = h
first_to (p ∷ ps) u d h l = let rest = first_to ps (u - p.shows) (d - p.takes) (omega arith) in grind (arith, nat_tests)

first_from : (ps : List Span) (u d : ℕ) → d ≤ under_by ps u → walk_first ps d ≤ u
first_from [] u d l = omega arith
first_from (p ∷ ps) u d l = let rest = first_from ps (u - p.shows) (d - p.takes) in grind (arith, nat_tests)

last_to : (ps : List Span) → all_show ps ≡ true → (u d : ℕ) → u ≤ walk_last ps d → under_by ps u ≤ d
last_to [] s u d l = omega arith
last_to (p ∷ ps) s u d l =
    let others : all_show ps ≡ true = grind (arith, nat_tests) in
    let rest = last_to ps others (u - p.shows) (d - p.takes) in
    let start = under_start ps others in
    grind (arith, nat_tests)

last_from : (ps : List Span) (u d : ℕ) → u ≤ shown_by ps → under_by ps u ≤ d → u ≤ walk_last ps d
last_from [] u d h l = h
last_from (p ∷ ps) u d h l = let rest = last_from ps (u - p.shows) (d - p.takes) (omega arith) in grind (arith, nat_tests)

module _ (ps : List Span) (t n : ℕ) (r : Rewrites ps t n) where
  walks_find : Finds (under_by ps) (walk_first ps) (walk_last ps) t n
  walks_find = record {
    map = rewrites_rises ps t n r;
    first_in = λ d _. omega (arith, first_in ps d);
    last_in = λ d _. omega (arith, last_in ps d);
    first_rule = λ u d hu hd. (first_to ps u d (omega arith), first_from ps u d);
    last_rule = λ u d hu hd. (last_to ps r.0 u d, last_from ps u d (omega arith));
  }

  pub walk_first_is : (d : ℕ) → d ≤ n → walk_first ps d ≡ first_of (under_by ps) t d
  walk_first_is d h = first_found walks_find d h

  pub walk_last_is : (d : ℕ) → d ≤ n → walk_last ps d ≡ last_of (under_by ps) t d
  walk_last_is d h = last_found walks_find d h

-- Marks parted by a change below: those that stay, those that are dropped and those that move. Assumes nothing.
use Rattle.std.proofs.Common.{◌≡◌, ℕ, ◌+◌, ◌<◌, ◌≤◌, min, max, ◌⊎◌, List, [], ◌∷◌, ◌++◌, map, refl, ap, ◌∙◌, inl, inr, ⊎_elim, arith}
use Rattle.std.proofs.lemmas.Bool.Decides.{nat_tests}
use Rattle.std.proofs.lemmas.Bool.{cases_lt}
use Rattle.places.specs.Marks.{Mark, past, Placed, moved, followed, lowest, highest, ended, unended, Light}
use Rattle.places.proofs.Splitting.{begun, unbegun, ended_in, ended_out, unended_in, unended_out, begun_in, begun_out, unbegun_in, unbegun_out}

-- behind the change every mark moves
all_move : (s o n p N : ℕ) (ms : List Mark) → Placed p ms N → s + o ≤ p → s < p → followed s o n ms ≡ map (moved o n) ms
all_move s o n p N [] h l b = refl
all_move s o n p N (m ∷ ms) h l b = let rest = all_move s o n (past m) N ms h.2 (omega arith) (omega arith) in grind (arith, nat_tests)

-- behind its start the marks that begin in it are dropped
behind_move : (s o n p N : ℕ) (ms : List Mark) → Placed p ms N → s < p → followed s o n ms ≡ map (moved o n) (unbegun (s + o) ms)
behind_move s o n p N [] h b = refl
behind_move s o n p N (m ∷ ms) h b =
    let rest = behind_move s o n (past m) N ms h.2 (omega arith) in
    ⊎_elim
    (λ (l : m.at < s + o). rw unbegun_in (grind (arith, nat_tests)))
    (λ (l : s + o ≤ m.at). let e = all_move s o n (past m) N ms h.2 (omega arith) (omega arith) in rw unbegun_out (grind (arith, nat_tests)))
    (cases_lt m.at (s + o))

pub followed_is : (s o n p N : ℕ) (ms : List Mark) → Placed p ms N → followed s o n ms ≡ ended s ms ++ map (moved o n) (unbegun (s + o) (unended s ms))
followed_is s o n p N [] h = refl
followed_is s o n p N (m ∷ ms) h = ⊎_elim
    (λ (over : s < past m). rw (ended_out, unended_out) (⊎_elim
    (λ (l : m.at < s + o). let e = behind_move s o n (past m) N ms h.2 over in rw unbegun_in (grind (arith, nat_tests)))
    (λ (l : s + o ≤ m.at). let e = all_move s o n (past m) N ms h.2 (omega arith) over in rw unbegun_out (grind (arith, nat_tests)))
    (cases_lt m.at (s + o))))
    (λ (within : past m ≤ s). let rest = followed_is s o n (past m) N ms h.2 in rw (ended_in, unended_in) (grind (arith, nat_tests)))
    (cases_lt s (past m))

-- behind the change nothing is dropped
none_lower : (s o p N : ℕ) (ms : List Mark) → Placed p ms N → s ≤ p → lowest s o ms ≡ s
none_lower s o p N [] h l = refl
none_lower s o p N (m ∷ ms) h l = let rest = none_lower s o (past m) N ms h.2 (omega arith) in grind (arith, nat_tests)

none_higher : (s o p N : ℕ) (ms : List Mark) → Placed p ms N → s + o ≤ p → highest s o ms ≡ s + o
none_higher s o p N [] h l = refl
none_higher s o p N (m ∷ ms) h l = let rest = none_higher s o (past m) N ms h.2 (omega arith) in grind (arith, nat_tests)

-- one mark more, which is dropped or not
module _ (s o : ℕ) (m : Mark) (ms : List Mark) where
  lowest_in : s < past m → m.at < s + o → lowest s o (m ∷ ms) ≡ min m.at (lowest s o ms)
  lowest_in h l = grind (arith, nat_tests)

  lowest_out : (past m ≤ s) ⊎ (s + o ≤ m.at) → lowest s o (m ∷ ms) ≡ lowest s o ms
  lowest_out h = grind (arith, nat_tests)

  highest_in : s < past m → m.at < s + o → highest s o (m ∷ ms) ≡ max (past m) (highest s o ms)
  highest_in h l = grind (arith, nat_tests)

  highest_out : (past m ≤ s) ⊎ (s + o ≤ m.at) → highest s o (m ∷ ms) ≡ highest s o ms
  highest_out h = grind (arith, nat_tests)

behind_parts : (s o q N : ℕ) (ms : List Mark) → Placed q ms N → s < q → s + o ≤ N
    → Placed q (begun (s + o) ms) (max q (highest s o ms)) × Placed (max q (highest s o ms)) (unbegun (s + o) ms) N
behind_parts s o q N [] h l f = (omega arith, omega arith)
behind_parts s o q N (m ∷ ms) h l f = ⊎_elim
    (λ (b : m.at < s + o).
    let rest = behind_parts s o (past m) N ms h.2 (omega arith) f in
    let over : s < past m = omega arith in
    let e : max q (highest s o (m ∷ ms)) ≡ max (past m) (highest s o ms) = omega (arith, highest_in s o m ms over b) in
    rw (begun_in, unbegun_in, e) ((h.0, h.1, rest.0), rest.1))
    (λ (b : s + o ≤ m.at).
    let e : highest s o (m ∷ ms) ≡ s + o = none_higher s o (s + o) N (m ∷ ms) (b, h.1, h.2) (omega arith) in
    rw (begun_out, unbegun_out, e) (omega arith, (omega arith, h.1, h.2)))
    (cases_lt m.at (s + o))

-- the three parts, and the places where they meet
pub record Parts (p s o N : ℕ) (ms : List Mark) : Type 0 where
  pub stay : Placed p (ended s ms) (lowest s o ms)
  pub drop : Placed (lowest s o ms) (begun (s + o) (unended s ms)) (highest s o ms)
  pub move : Placed (highest s o ms) (unbegun (s + o) (unended s ms)) N

pub parts : (s o p N : ℕ) (ms : List Mark) → Placed p ms N → p ≤ s → s + o ≤ N → Parts p s o N ms
parts s o p N [] h l f = record { stay = l; drop = omega arith; move = f }
parts s o p N (m ∷ ms) h l f = ⊎_elim
    (λ (over : s < past m). ⊎_elim
    (λ (b : m.at < s + o).
    let rest = behind_parts s o (past m) N ms h.2 over f in
    let e₁ : lowest s o (m ∷ ms) ≡ min m.at s = lowest_in s o m ms over b ∙ ap (min m.at) (none_lower s o (past m) N ms h.2 (omega arith)) in
    let e₂ : highest s o (m ∷ ms) ≡ max (past m) (highest s o ms) = highest_in s o m ms over b in
    record {
      stay = rw (ended_out, e₁) (omega arith);
      drop = rw (unended_out, begun_in, e₁, e₂) (omega arith, h.1, rest.0);
      move = rw (unended_out, unbegun_in, e₂) rest.1;
    })
    (λ (b : s + o ≤ m.at).
    let e₁ : lowest s o (m ∷ ms) ≡ s = lowest_out s o m ms (inr b) ∙ none_lower s o (past m) N ms h.2 (omega arith) in
    let e₂ : highest s o (m ∷ ms) ≡ s + o = highest_out s o m ms (inr b) ∙ none_higher s o (past m) N ms h.2 (omega arith) in
    record {
      stay = rw (ended_out, e₁) l;
      drop = rw (unended_out, begun_out, e₁, e₂) (omega arith);
      move = rw (unended_out, unbegun_out, e₂) (b, h.1, h.2);
    })
    (cases_lt m.at (s + o)))
    (λ (within : past m ≤ s).
    let rest = parts s o (past m) N ms h.2 within f in
    let e₁ = lowest_out s o m ms (inl within) in
    let e₂ = highest_out s o m ms (inl within) in
    record {
      stay = rw (ended_in, e₁) (h.0, h.1, rest.stay);
      drop = rw (unended_in, e₁, e₂) rest.drop;
      move = rw (unended_in, e₂) rest.move;
    })
    (cases_lt s (past m))

pub light_lowest : (s o : ℕ) (ms : List Mark) → Light ms → lowest s o ms ≡ s
light_lowest s o [] g = refl
light_lowest s o (m ∷ ms) g = let rest = light_lowest s o ms g.1 in let e = g.0 in grind (arith, nat_tests)

pub light_highest : (s o : ℕ) (ms : List Mark) → Light ms → highest s o ms ≡ s + o
light_highest s o [] g = refl
light_highest s o (m ∷ ms) g = let rest = light_highest s o ms g.1 in let e = g.0 in grind (arith, nat_tests)

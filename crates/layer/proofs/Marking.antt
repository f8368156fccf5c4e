-- Marks about the first that passes a test, marks with one put and marks with one taken out. Assumes nothing.
use Rattle.std.proofs.Common.{◌≡◌, ℕ, ◌+◌, ◌<◌, ◌≤◌, Bool, true, false, eqb, leb, List, [], ◌∷◌, ◌++◌, length, sym, refl, ap, ◌∙◌, ⊎_elim, arith, length-append}
use mathlib.Core.Bool.{false≢true}
use Rattle.std.specs.List.{AllByRecursion}
use Rattle.std.proofs.lemmas.Bool.Decides.{nat_tests}
use Rattle.std.proofs.lemmas.Bool.{cases_Bool, cond-true, cond-false, cond_both}
use Rattle.std.proofs.ByRecursion.{All-append}
use Rattle.places.specs.Marks.{Mark, past, Placed, ended, unended, put}
use Rattle.places.proofs.Placing.{placed_le}
use Rattle.view.specs.Orders.{overlaps, some, first_mark, without}

-- where none of the marks passes, each one fails
pub none_passes : (p : Mark → Bool) (ms : List Mark) → some p ms ≡ false → AllByRecursion (λ m. p m ≡ false) ms
none_passes p [] e = tt
none_passes p (m ∷ ms) e =
    let here : p m ≡ false = ⊎_elim (λ (y : p m ≡ true). grind (arith, nat_tests)) (λ f. f) (cases_Bool (p m)) in
    (here, none_passes p ms (grind (arith, nat_tests)))

-- marks about the first one that passes
pub record Around (p : Mark → Bool) (ms : List Mark) : Type 0 where
  pub before : List Mark
  pub after : List Mark
  pub whole : before ++ (first_mark p ms ∷ after) ≡ ms
  pub others : before ++ after ≡ without p ms
  pub passes : p (first_mark p ms) ≡ true
  pub fail : AllByRecursion (λ m. p m ≡ false) before

-- where some mark passes, there is a first one
pub around : (p : Mark → Bool) (ms : List Mark) → some p ms ≡ true → Around p ms
around p [] e = absurd (false≢true e)
around p (m ∷ ms) e = ⊎_elim
    (λ (y : p m ≡ true).
    let first : first_mark p (m ∷ ms) ≡ m = cond-true (p m) m (first_mark p ms) y in
    record {
      before = [];
      after = ms;
      whole = ap (λ z. z ∷ ms) first;
      others = sym (cond-true (p m) ms (m ∷ without p ms) y);
      passes = ap p first ∙ y;
      fail = tt;
    })
    (λ (f : p m ≡ false).
    let rest : Around p ms = around p ms (grind (arith, nat_tests)) in
    let first : first_mark p (m ∷ ms) ≡ first_mark p ms = cond-false (p m) m (first_mark p ms) f in
    record {
      before = m ∷ rest.before;
      after = rest.after;
      whole = ap (λ z. m ∷ (rest.before ++ (z ∷ rest.after))) first ∙ ap (λ z. m ∷ z) rest.whole;
      others = ap (λ z. m ∷ z) rest.others ∙ sym (cond-false (p m) ms (m ∷ without p ms) f);
      passes = ap p first ∙ rest.passes;
      fail = (f, rest.fail);
    })
    (cases_Bool (p m))

-- marks up to a place, none of them at it, are before it
pub before_place : (ms : List Mark) (p c : ℕ) → Placed p ms c → AllByRecursion (λ m. eqb m.at c ≡ false) ms → AllByRecursion (λ m. m.at < c) ms
before_place [] p c h f = tt
before_place (m ∷ ms) p c h f =
    let le = placed_le ms (past m) c h.2 in
    let here = f.0 in
    (grind (arith, nat_tests), before_place ms (past m) c h.2 f.1)

-- a mark that overlaps none leaves room for those that do not end by its place
pub fold_room : (m : Mark) (b : ℕ) (ms : List Mark) (p n : ℕ) → past m ≡ b → m.at < b → b ≤ n → Placed p ms n → AllByRecursion (λ x. overlaps m.at b x ≡ false) ms
    → Placed (past m) (unended m.at ms) n
fold_room m b [] p n e l k h f = omega arith
fold_room m b (x ∷ ms) p n e l k h f =
    let here = f.0 in
    cond_both (leb (past x) m.at) (unended m.at ms) (x ∷ ms) (λ z. Placed (past m) z n)
    (λ _. fold_room m b ms (past x) n e l k h.2 f.1)
    (λ (over : leb (past x) m.at ≡ false). (grind (arith, nat_tests), h.1, h.2))

-- the marks that end by a place and the others are as many as all
split_length : (s : ℕ) (ms : List Mark) → length (ended s ms) + length (unended s ms) ≡ length ms
split_length s [] = refl
split_length s (m ∷ ms) = let rest = split_length s ms in grind (arith, nat_tests)

-- one mark put is one mark more
pub put_length : (m : Mark) (ms : List Mark) → length (put m ms) ≡ length ms + 1
put_length m ms = omega (arith, split_length m.at ms, length-append (ended m.at ms) (m ∷ unended m.at ms))

module _ (P : Mark → Type 0) where
  -- what holds of all marks holds of those that end by a place and of the others
  split_all : (s : ℕ) (ms : List Mark) → AllByRecursion P ms → AllByRecursion P (ended s ms) × AllByRecursion P (unended s ms)
  split_all s [] h = (tt, tt)
  split_all s (m ∷ ms) h =
      let rest = split_all s ms h.1 in (
        cond_both (leb (past m) s) (m ∷ ended s ms) [] (AllByRecursion P) (λ _. (h.0, rest.0)) (λ _. tt),
        cond_both (leb (past m) s) (unended s ms) (m ∷ ms) (AllByRecursion P) (λ _. rest.1) (λ _. h),
      )

  -- what holds of all marks and of the one put holds of all after
  pub put_all : (m : Mark) (ms : List Mark) → P m → AllByRecursion P ms → AllByRecursion P (put m ms)
  put_all m ms here h =
      let parts = split_all m.at ms h in
      All-append P (ended m.at ms) (m ∷ unended m.at ms) parts.0 (here, parts.1)

  -- what holds of all marks holds of all but one
  pub out_all : (a b : List Mark) (m : Mark) → AllByRecursion P (a ++ (m ∷ b)) → AllByRecursion P (a ++ b)
  out_all [] b m h = h.1
  out_all (x ∷ a) b m h = (h.0, out_all a b m h.1)

-- without one mark there are no more
pub out_length : (a b : List Mark) (m : Mark) → length (a ++ b) ≤ length (a ++ (m ∷ b))
out_length a b m = omega (arith, length-append a b, length-append a (m ∷ b))

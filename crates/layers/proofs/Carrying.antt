-- Orders that a kind with a table of records carries out or refuses. Assumes nothing.
use Rattle.std.proofs.Common.{◌≡◌, ℕ, ◌-◌, ◌≤◌, Bool, true, false, cond, ◌||◌, eqb, ltb, List, [], ◌∷◌, length, Some, None, Ok, Err, Result, sym, refl, ap, ◌∙◌, subst, arith}
use Rattle.std.specs.List.{AllByRecursion}
use Rattle.std.proofs.lemmas.Bool.Decides.{nat_tests}
use Rattle.std.proofs.lemmas.Bool.{cond-true, cond-false, le-ltb}
use Rattle.buffer.specs.declared.fault.Refusal.{Refusal}
use Rattle.places.specs.declared.change.Change.{Change}
use Rattle.places.specs.Marks.{Mark, past, put, Placed}
use Rattle.places.proofs.Placing.{placed_le, placed_parts}
use Rattle.view.specs.declared.fault.Cause.{Cause}
use Rattle.view.specs.declared.order.Order.{Order}
use Rattle.view.specs.Refusals.{first_cause}
use Rattle.view.specs.Layers.{Records, hints, folds, tabs, wrap, marks_in}
use Rattle.view.specs.Orders.{adds, meets, some, first_mark, without, new_mark, with_marks, obeyed, add_start, add_causes, obeyed_change}
use Rattle.view.specs.Kinds.{Carries}
use Rattle.layer.proofs.Marking.{Around, around}
use Rattle.layer.proofs.Obeying.{KeepsMarks}
use Rattle.tables.specs.Placing.{first_over, Counted}
use Rattle.layers.specs.Marked.{KeptAsMarks, Verbs}
use Rattle.layers.specs.Ordering.{gone_change, Adds, Removes}
use Rattle.layers.proofs.Fitting.{same_change}

-- where no cause holds, none is found
pub no_cause : (cs : List (Bool × Refusal)) → AllByRecursion (λ c. c.0 ≡ false) cs → first_cause cs ≡ None
no_cause [] h = refl
no_cause (c ∷ cs) h = cond-false c.0 (Some c.1) (first_cause cs) h.0 ∙ no_cause cs h.1

-- the first mark that passes stands in the text
first_in : (p : Mark → Bool) (ms : List Mark) (n : ℕ) → Placed 0 ms n → some p ms ≡ true → (first_mark p ms).at ≤ n
first_in p ms n h e =
    let found : Around p ms = around p ms e in
    let m : Mark = first_mark p ms in
    let P : List Mark → Type 0 = λ z. Placed 0 z n in
    let parts = placed_parts found.before found.after m 0 n (subst P (sym found.whole) h) in
    omega (arith, placed_le found.after (past m) n parts.2)

-- the change that taking out m, the first mark that passes, makes
pub gone_change_lem : (p : Mark → Bool) (ms : List Mark) (m : Mark) (place at start shown end : ℕ) → some p ms ≡ true → m ≡ first_mark p ms → place ≡ m.at → at ≡ m.at → shown ≡ length m.shows → end ≡ past m
    → ((xs : List ℕ) → place ≤ length xs → Counted ms xs → start ≡ first_over ms xs place)
    → (xs : List ℕ) → 0 ≤ length xs → Counted ms xs → record { start = start; old = shown; new = end - at } ≡ gone_change ms (first_mark p ms) xs
gone_change_lem p ms m place at start shown end e is place_is at_is shown-is end_is found xs _ ok =
    let here : place ≡ (first_mark p ms).at = place_is ∙ ap (λ (z : Mark). z.at) is in
    let inside = first_in p ms (length xs) ok.0 e in
    same_change _ _ _ _ _ _
    (found xs (omega arith) ok ∙ ap (first_over ms xs) here)
    (shown-is ∙ ap (λ (z : Mark). length z.shows) is)
    (omega (arith, ap (λ (z : Mark). z.takes) is))

-- of two verbs it is the other one
pub other_verb : (v a b : ℕ) → (eqb v a || eqb v b) ≡ true → (v ≡ b → ⊥) → v ≡ a
other_verb v a b h f = grind (arith, nat_tests)

-- what is said of a table is said of the kind that holds it
pub removes_in : {T K : Type 0} (f : T → K) (p : Mark → Bool) (ms ms' : List Mark) (t t' : T) (place : ℕ) (x : Result Change Cause) → Removes p ms ms' t t' place x → Removes p ms ms' (f t) (f t') place x
removes_in f p ms ms' t t' place (Ok c) h = h
removes_in f p ms ms' t t' place (Err c) h = (h.0, ap f h.1)

-- what an order makes of marks, and how it changes the text
obeyed_marks : (r : Records) → KeepsMarks r → (a b : ℕ) (o : Order) (w : List ℕ)
    → obeyed r a b o w ≡ with_marks r (cond (adds r o.verb) (put (new_mark r a b w) (marks_in r)) (without (meets r a) (marks_in r)))
obeyed_marks (hints ms) m a b o w = refl
obeyed_marks (folds ms) m a b o w = refl
obeyed_marks (tabs v) m a b o w = absurd m
obeyed_marks (wrap v) m a b o w = absurd m

abbrev marks_change : Records → List ℕ → ℕ → ℕ → Order → List ℕ → Change
marks_change r xs a b o w =
    record {
      start = cond (adds r o.verb) (add_start r xs a) (first_over (marks_in r) xs (first_mark (meets r a) (marks_in r)).at);
      old = cond (adds r o.verb) (new_mark r a b w).takes (length (first_mark (meets r a) (marks_in r)).shows);
      new = cond (adds r o.verb) (length (new_mark r a b w).shows) (first_mark (meets r a) (marks_in r)).takes;
    }

changed_marks : (r : Records) → KeepsMarks r → (xs : List ℕ) (a b : ℕ) (o : Order) (w : List ℕ) → obeyed_change r xs a b o w ≡ marks_change r xs a b o w
changed_marks (hints ms) m xs a b o w = refl
changed_marks (folds ms) m xs a b o w = refl
changed_marks (tabs v) m xs a b o w = absurd m
changed_marks (wrap v) m xs a b o w = absurd m

-- an order to marks whose place x lies in the document, at a of the text below
module _ {K : Type 0} (r : Records) (m : KeepsMarks r) (ms' : List Mark) (k k' : K) (xs : List ℕ) (n a b : ℕ) (o : Order) (w : List ℕ) where
  -- with the verb that removes
  pub removes : adds r o.verb ≡ false → o.x ≤ n → Counted (marks_in r) xs
      → (x : Result Change Cause) → Removes (meets r a) (marks_in r) ms' k k' o.x x → Carries r (with_marks r ms') k k' xs n a b o w x
  removes less inside ok (Ok c) h = (
    cond-false (adds r o.verb) _ _ less ∙ cond-false (ltb n o.x) _ _ (le-ltb n o.x inside) ∙ h.0,
    ap (with_marks r) (h.1 ∙ sym (cond-false (adds r o.verb) _ _ less)) ∙ sym (obeyed_marks r m a b o w),
    (let e : c ≡ marks_change r xs a b o w =
        h.2 xs (omega arith) ok
        ∙ same_change _ _ _ _ _ _ (sym (cond-false (adds r o.verb) _ _ less)) (sym (cond-false (adds r o.verb) _ _ less)) (sym (cond-false (adds r o.verb) _ _ less)) in
        e ∙ sym (changed_marks r m xs a b o w)),
  )
  removes less inside ok (Err f) h = (cond-false (adds r o.verb) _ _ less ∙ cond-false (ltb n o.x) _ _ (le-ltb n o.x inside) ∙ h.0, h.1)

  -- with the verb that adds
  added_at : (s : ℕ) → s ≡ add_start r xs (new_mark r a b w).at → s ≡ add_start r xs a
  added_at s e = e ∙ ap (add_start r xs) (at_is r)
    where
      at_is : (q : Records) → (new_mark q a b w).at ≡ a
      at_is (hints _) = refl
      at_is (folds _) = refl
      at_is (tabs _) = refl
      at_is (wrap _) = refl

  pub adding : (causes : List (Bool × Refusal)) → adds r o.verb ≡ true → first_cause (add_causes r n a b o w) ≡ first_cause causes → a ≤ length xs → Counted (marks_in r) xs
      → (x : Result Change Cause) → Adds r causes ms' k k' a b w x → Carries r (with_marks r ms') k k' xs n a b o w x
  adding causes more same le ok (Ok c) h = (
    cond-true (adds r o.verb) _ _ more ∙ same ∙ h.0,
    ap (with_marks r) (h.1 ∙ sym (cond-true (adds r o.verb) _ _ more)) ∙ sym (obeyed_marks r m a b o w),
    (let e : c ≡ marks_change r xs a b o w =
        h.2 xs le ok
        ∙ same_change _ _ _ _ _ _ (added_at _ refl ∙ sym (cond-true (adds r o.verb) _ _ more)) (sym (cond-true (adds r o.verb) _ _ more)) (sym (cond-true (adds r o.verb) _ _ more)) in
        e ∙ sym (changed_marks r m xs a b o w)),
  )
  adding causes more same le ok (Err f) h = (cond-true (adds r o.verb) _ _ more ∙ same ∙ h.0, h.1)

-- an order to a layer of marks that removes one
pub taking_out : {T K : Type 0} (r : List Mark → Records) → KeptAsMarks r → (add remove : ℕ) → Verbs r add remove → (f : T → K) (ms ms' : List Mark) (t t' : T) (xs : List ℕ) (n a b : ℕ) (o : Order) (w : List ℕ)
    → o.verb ≡ remove → o.x ≤ n → Counted ms xs → (x : Result Change Cause) → Removes (meets (r []) a) ms ms' t t' o.x x → Carries (r ms) (r ms') (f t) (f t') xs n a b o w x
taking_out r kept add remove verbs f ms ms' t t' xs n a b o w is inside ok x h =
    let less : adds (r ms) o.verb ≡ false = verbs.adding ms o.verb ∙ ap (λ (v : ℕ). eqb v add) is ∙ verbs.apart in
    let P : (Mark → Bool) → Type 0 = λ p. Removes p ms ms' (f t) (f t') o.x x in
    let Q : List Mark → Type 0 = λ z. Removes (meets (r ms) a) z ms' (f t) (f t') o.x x in
    let C : List Mark → Type 0 = λ z. Counted z xs in
    let R : Records → Type 0 = λ z. Carries (r ms) z (f t) (f t') xs n a b o w x in
    let own = subst Q (sym (kept.holds ms)) (subst P (sym (kept.meant ms a)) (removes_in f (meets (r []) a) ms ms' t t' o.x x h)) in
    subst R (kept.replaced ms ms') (removes (r ms) (kept.marks ms) ms' (f t) (f t') xs n a b o w less inside (subst C (sym (kept.holds ms)) ok) x own)

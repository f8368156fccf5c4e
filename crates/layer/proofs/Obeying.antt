-- An order that a layer obeys: its records stay fit, and its text keeps all but what the change names. Assumes nothing.
use Rattle.std.proofs.Common.{◌≡◌, ℕ, ◌+◌, ◌<◌, ◌≤◌, Bool, true, false, cond, eqb, List, [], ◌∷◌, ◌++◌, length, Some, None, sym, refl, ◌∙◌, subst, ⊎_elim, arith}
use Rattle.std.specs.List.{AllByRecursion}
use Rattle.std.proofs.lemmas.List.{drop_all}
use Rattle.std.proofs.lemmas.Bool.Decides.{nat_tests}
use Rattle.std.proofs.lemmas.Bool.{cases_Bool, cond-true, cond-false, eqb-true}
use Rattle.codes.specs.Codes.{placeholder}
use Rattle.buffer.specs.declared.fault.Refusal.{Refusal}
use Rattle.places.specs.Changes.{Keeps, Kept}
use Rattle.places.specs.Marks.{Mark, put}
use Rattle.places.proofs.Placing.{placed_parts, out_placed}
use Rattle.places.proofs.Weighing.{put_light, put_solid, out_light, out_solid}
use Rattle.places.proofs.Putting.{put_placed, hint_room, hint_put, fold_put, mark_out, fold_out}
use Rattle.view.specs.declared.order.Order.{Order}
use Rattle.view.specs.Refusals.{first_cause}
use Rattle.view.specs.Layers.{Records, hints, folds, tabs, wrap, marks_in, shown, first, Fit, most_records, longest_hint, widest_tab, narrowest_wrap, widest_wrap}
use Rattle.view.specs.Orders.{adds, meets, overlaps, some, first_mark, without, width_causes, add_causes, remove_causes, own_refusal, new_mark, with_marks, obeyed, add_start, obeyed_change}
use Rattle.layer.proofs.Marking.{Around, around, none_passes, before_place, fold_room, put_length, put_all, out_length, out_all}

-- where no cause is found, none holds
no_cause : (cs : List (Bool × Refusal)) → first_cause cs ≡ None → AllByRecursion (λ c. c.0 ≡ false) cs
no_cause [] e = tt
no_cause (c ∷ cs) e = ⊎_elim
    (λ (y : c.0 ≡ true). let z : ◌≡◌ {A = ℕ} 0 1 = cc (cond-true c.0 (Some c.1) (first_cause cs) y) in absurd (omega arith))
    (λ (f : c.0 ≡ false). (f, no_cause cs (sym (cond-false c.0 (Some c.1) (first_cause cs) f) ∙ e)))
    (cases_Bool c.0)

-- what an order is to leave: with the marks ms the text over xs keeps all but this change, and the records are fit
abbrev Done : Records → List ℕ → List Mark → ℕ → ℕ → ℕ → Type 0
Done r xs ms start old new = Keeps (shown r xs) (shown (with_marks r ms) xs) start old new × Fit (with_marks r ms) (length xs)

-- an order that adds leaves it with the new mark
abbrev Added : Records → List ℕ → ℕ → ℕ → List ℕ → Type 0
Added r xs a b w =
    Done r xs (put (new_mark r a b w) (marks_in r)) (add_start r xs a) (new_mark r a b w).takes (length (new_mark r a b w).shows)

-- an order that removes leaves it without the first mark that it meets
abbrev Removed : Records → List ℕ → ℕ → Type 0
Removed r xs a =
    Done r xs (without (meets r a) (marks_in r)) (first r xs (first_mark (meets r a) (marks_in r)).at) (length (first_mark (meets r a) (marks_in r)).shows) (first_mark (meets r a) (marks_in r)).takes

-- a hint that no cause refuses is put
hint_added : (ms : List Mark) (xs : List ℕ) (n a b : ℕ) (o : Order) (w : List ℕ) → Fit (hints ms) (length xs) → a ≤ length xs
    → AllByRecursion (λ c. c.0 ≡ false) (add_causes (hints ms) n a b o w) → Added (hints ms) xs a b w
hint_added ms xs n a b o w fit l causes =
    let m : Mark = new_mark (hints ms) a b w in
    let size = causes.1.0 in
    let room = causes.1.1.1.0 in
    let shows : 0 < length w = grind (arith, nat_tests) in
    let short : length w ≤ longest_hint = grind (arith, nat_tests) in
    let few : length ms < most_records = grind (arith, nat_tests) in (
      hint_put m ms xs fit.1 fit.0 refl shows l,
      (
        put_placed m ms (length xs) fit.0 shows (hint_room m ms (length xs) refl fit.1 fit.0 l),
        put_light m ms refl fit.1,
        omega (arith, put_length m ms),
        put_all (λ x. length x.shows ≤ longest_hint) m ms short fit.3,
      ),
    )

-- a fold that no cause refuses is put
fold_added : (ms : List Mark) (xs : List ℕ) (n a b : ℕ) (o : Order) (w : List ℕ) → Fit (folds ms) (length xs) → b ≤ length xs
    → AllByRecursion (λ c. c.0 ≡ false) (add_causes (folds ms) n a b o w) → Added (folds ms) xs a b w
fold_added ms xs n a b o w fit l causes =
    let m : Mark = new_mark (folds ms) a b w in
    let bad = causes.1.1.1.0 in
    let room = causes.1.1.1.1.0 in
    let up : a < b = grind (arith, nat_tests) in
    let apart : some (overlaps a b) ms ≡ false = grind (arith, nat_tests) in
    let few : length ms < most_records = grind (arith, nat_tests) in
    let behind = fold_room m b ms 0 (length xs) (omega arith) up l fit.0 (none_passes (overlaps a b) ms apart) in (
      fold_put m ms xs fit.1 fit.0 (omega arith) behind,
      (
        put_placed m ms (length xs) fit.0 (omega arith) behind,
        put_solid m ms (omega arith) fit.1,
        omega (arith, put_length m ms),
        put_all (λ x. x.shows ≡ placeholder ∷ []) m ms refl fit.3,
      ),
    )

-- one hint less, the first at its place
hint_less : (x y : List Mark) (m : Mark) (xs : List ℕ) → Fit (hints (x ++ (m ∷ y))) (length xs) → AllByRecursion (λ z. z.at < m.at) x
    → Done (hints (x ++ (m ∷ y))) xs (x ++ y) (first (hints (x ++ (m ∷ y))) xs m.at) (length m.shows) m.takes
hint_less x y m xs fit before = (
  mark_out x y m xs fit.0 before,
  (
    out_placed x y m (length xs) fit.0,
    out_light x y m fit.1,
    omega (arith, out_length x y m),
    out_all (λ z. length z.shows ≤ longest_hint) x y m fit.3,
  ),
)

-- one fold less
fold_less : (x y : List Mark) (m : Mark) (xs : List ℕ) → Fit (folds (x ++ (m ∷ y))) (length xs)
    → Done (folds (x ++ (m ∷ y))) xs (x ++ y) (first (folds (x ++ (m ∷ y))) xs m.at) (length m.shows) m.takes
fold_less x y m xs fit = (
  fold_out x y m xs fit.1 fit.0,
  (
    out_placed x y m (length xs) fit.0,
    out_solid x y m fit.1,
    omega (arith, out_length x y m),
    out_all (λ z. z.shows ≡ placeholder ∷ []) x y m fit.3,
  ),
)

-- the first hint at a place is taken out
hint_removed : (ms : List Mark) (xs : List ℕ) (a : ℕ) → Fit (hints ms) (length xs) → Around (meets (hints ms) a) ms → Removed (hints ms) xs a
hint_removed ms xs a fit found =
    let m : Mark = first_mark (meets (hints ms) a) ms in
    let x : List Mark = found.before in
    let y : List Mark = found.after in
    let fits : Fit (hints (x ++ (m ∷ y))) (length xs) = subst (λ z. Fit (hints z) (length xs)) (sym found.whole) fit in
    let here : m.at ≡ a = eqb-true m.at a found.passes in
    let before = before_place x 0 m.at (placed_parts x y m 0 (length xs) fits.0).0 (subst (λ z. AllByRecursion (λ v. eqb v.at z ≡ false) x) (sym here) found.fail) in
    subst (λ z. Done (hints ms) xs z (first (hints ms) xs m.at) (length m.shows) m.takes) found.others
    (subst (λ z. Done (hints z) xs (x ++ y) (first (hints z) xs m.at) (length m.shows) m.takes) found.whole (hint_less x y m xs fits before))

-- the fold around a code is taken out
fold_removed : (ms : List Mark) (xs : List ℕ) (a : ℕ) → Fit (folds ms) (length xs) → Around (meets (folds ms) a) ms → Removed (folds ms) xs a
fold_removed ms xs a fit found =
    let m : Mark = first_mark (meets (folds ms) a) ms in
    let x : List Mark = found.before in
    let y : List Mark = found.after in
    let fits : Fit (folds (x ++ (m ∷ y))) (length xs) = subst (λ z. Fit (folds z) (length xs)) (sym found.whole) fit in
    subst (λ z. Done (folds ms) xs z (first (folds ms) xs m.at) (length m.shows) m.takes) found.others
    (subst (λ z. Done (folds z) xs (x ++ y) (first (folds z) xs m.at) (length m.shows) m.takes) found.whole (fold_less x y m xs fits))

-- hints and folds are marks, and a width is none
abbrev pub KeepsMarks : Records → Type 0
KeepsMarks (hints _) = Unit {0}
KeepsMarks (folds _) = Unit {0}
KeepsMarks (tabs _) = ⊥
KeepsMarks (wrap _) = ⊥

-- a mark of either kind that no cause refuses is put
added : (r : Records) (xs : List ℕ) (n a b : ℕ) (o : Order) (w : List ℕ) → KeepsMarks r → Fit r (length xs) → a ≤ length xs → b ≤ length xs
    → AllByRecursion (λ c. c.0 ≡ false) (add_causes r n a b o w) → Added r xs a b w
added (hints ms) xs n a b o w m fit la lb causes = hint_added ms xs n a b o w fit la causes
added (folds ms) xs n a b o w m fit la lb causes = fold_added ms xs n a b o w fit lb causes
added (tabs v) xs n a b o w m fit la lb causes = absurd m
added (wrap v) xs n a b o w m fit la lb causes = absurd m

-- the first mark of either kind that an order meets is taken out
removed : (r : Records) (xs : List ℕ) (a : ℕ) → KeepsMarks r → Fit r (length xs) → Around (meets r a) (marks_in r) → Removed r xs a
removed (hints ms) xs a m fit found = hint_removed ms xs a fit found
removed (folds ms) xs a m fit found = fold_removed ms xs a fit found
removed (tabs v) xs a m fit found = absurd m
removed (wrap v) xs a m fit found = absurd m

-- an order to marks does one or the other
either : (r : Records) (xs : List ℕ) (a b : ℕ) (w : List ℕ) (c : Bool) → (c ≡ true → Added r xs a b w) → (c ≡ false → Removed r xs a)
    → Done r xs (cond c (put (new_mark r a b w) (marks_in r)) (without (meets r a) (marks_in r)))
    (cond c (add_start r xs a) (first r xs (first_mark (meets r a) (marks_in r)).at))
    (cond c (new_mark r a b w).takes (length (first_mark (meets r a) (marks_in r)).shows))
    (cond c (length (new_mark r a b w).shows) (first_mark (meets r a) (marks_in r)).takes)
either r xs a b w true add remove = add refl
either r xs a b w false add remove = remove refl

obey_marks : (r : Records) (xs : List ℕ) (n a b : ℕ) (o : Order) (w : List ℕ) → KeepsMarks r → Fit r (length xs) → own_refusal r n a b o w ≡ None → a ≤ length xs → b ≤ length xs
    → Done r xs (cond (adds r o.verb) (put (new_mark r a b w) (marks_in r)) (without (meets r a) (marks_in r)))
    (cond (adds r o.verb) (add_start r xs a) (first r xs (first_mark (meets r a) (marks_in r)).at))
    (cond (adds r o.verb) (new_mark r a b w).takes (length (first_mark (meets r a) (marks_in r)).shows))
    (cond (adds r o.verb) (length (new_mark r a b w).shows) (first_mark (meets r a) (marks_in r)).takes)
obey_marks r xs n a b o w m fit none la lb =
    let add = first_cause (add_causes r n a b o w) in
    let remove = first_cause (remove_causes r n a o) in
    either r xs a b w (adds r o.verb)
    (λ y. added r xs n a b o w m fit la lb (no_cause (add_causes r n a b o w) (sym (cond-true (adds r o.verb) add remove y) ∙ none)))
    (λ f.
    let causes = no_cause (remove_causes r n a o) (sym (cond-false (adds r o.verb) add remove f) ∙ none) in
    let missing = causes.1.0 in
    removed r xs a m fit (around (meets r a) (marks_in r) (grind arith)))

-- a change that names all of a text and all of another keeps nothing, so it may be said of any two
all_changes : (before after : List ℕ) → Keeps before after 0 (length before) (length after)
all_changes before after = record {
  front = refl;
  back = drop_all (0 + length after) after (omega arith) ∙ sym (drop_all (0 + length before) before (omega arith));
  old_fits = omega arith;
  new_fits = omega arith;
}

-- a width that no cause refuses lies in its range
width_within : (low high : ℕ) (o : Order) → first_cause (width_causes low high o) ≡ None → (low ≤ o.x) × (o.x ≤ high)
width_within low high o none =
    let out = (no_cause (width_causes low high o) none).0 in
    (grind (arith, nat_tests), grind (arith, nat_tests))

-- an order that is not refused does what it is to do
done : (r : Records) (xs : List ℕ) (n a b : ℕ) (o : Order) (w : List ℕ) → Fit r (length xs) → own_refusal r n a b o w ≡ None → a ≤ length xs → b ≤ length xs
    → Kept (shown r xs) (shown (obeyed r a b o w) xs) (obeyed_change r xs a b o w) × Fit (obeyed r a b o w) (length xs)
done (hints ms) xs n a b o w fit none la lb = obey_marks (hints ms) xs n a b o w tt fit none la lb
done (folds ms) xs n a b o w fit none la lb = obey_marks (folds ms) xs n a b o w tt fit none la lb
done (tabs v) xs n a b o w fit none la lb = (all_changes (shown (tabs v) xs) (shown (tabs o.x) xs), width_within 1 widest_tab o none)
done (wrap v) xs n a b o w fit none la lb = (all_changes (shown (wrap v) xs) (shown (wrap o.x) xs), width_within narrowest_wrap widest_wrap o none)

-- of the layer's text an obeyed order keeps all but the change that it answers
pub obeyed_kept : (r : Records) (xs : List ℕ) (n a b : ℕ) (o : Order) (w : List ℕ) → Fit r (length xs) → own_refusal r n a b o w ≡ None
    → a ≤ length xs → b ≤ length xs → Kept (shown r xs) (shown (obeyed r a b o w) xs) (obeyed_change r xs a b o w)
obeyed_kept r xs n a b o w fit none la lb = (done r xs n a b o w fit none la lb).0

-- an obeyed order leaves records that the layer can keep
pub obeyed_fit : (r : Records) (xs : List ℕ) (n a b : ℕ) (o : Order) (w : List ℕ) → Fit r (length xs) → own_refusal r n a b o w ≡ None
    → a ≤ length xs → b ≤ length xs → Fit (obeyed r a b o w) (length xs)
obeyed_fit r xs n a b o w fit none la lb = (done r xs n a b o w fit none la lb).1

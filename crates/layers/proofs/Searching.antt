-- `any` and `position` over records, where the closure tests their marks. Assumes nothing.
use Rattle.std.proofs.Common.{◌≡◌, ℕ, suc, ◌+◌, ◌<◌, Some, None, Option, Bool, true, false, cond, not, ◌||◌, ltb, List, [], ◌∷◌, map, length, refl, sym, ap, ◌∙◌, true≢false, arith}
use Rattle.std.proofs.iter.Yields.{fronts}
use Rattle.std.proofs.lemmas.Bool.Decides.{nat_tests}
use Rattle.std.proofs.lemmas.Iterator.{YieldsList-from_slice}
use Rattle.std.proofs.lemmas.Iterator.Search.{any_from_yields_List, position_from_yields_List}
use Rattle.std.specs.declared.slice.Iter.{Iter}
use Rattle.std.specs.Fn.{Called}
use Rattle.std.specs.Iterator.{ChecksAny, FindsPosition}
use Rattle.std.specs.List.{list_any, prefix_len}
use Rattle.std.specs.Option.{is_some}
use Rattle.std.proofs.lemmas.List.{length-map}
use Rattle.std.specs.Slice.Iter.{iter_rest}
use Rattle.places.specs.Marks.{Mark}
use Rattle.tables.proofs.Tables.{prefix_len-map}
use Rattle.view.specs.Orders.{some}
use denote.Param.Members.{Mut}
use denote.Ref.{Bor}

some_step : (b r : Bool) (n l : ℕ) → r ≡ ltb n l → (b || r) ≡ ltb (cond (not b) (1 + n) 0) (suc l)
some_step true r n l e = grind (arith, nat_tests)
some_step false r n l e = e ∙ grind (arith, nat_tests)

some_any : {R : Type 0} (mark : R → Mark) (p : Mark → Bool) (rs : List R) → list_any (λ r. p (mark r)) rs ≡ some p (map mark rs)
some_any mark p [] = refl
some_any mark p (r ∷ rs) = some_step (p (mark r)) (list_any (λ x. p (mark x)) rs) (prefix_len (λ m. not (p m)) (map mark rs)) (length (map mark rs)) (some_any mark p rs)

pub any_marks : {R F : Type 0} (mark : R → Mark) (p : Mark → Bool) (rs : List R) (g : Mut F (Bor R × Unit {0}) Bool) (s u : Iter R) (f : F) (r : Bool)
    → iter_rest s ≡ rs
    → ((x : Bor R) (b : Bool) (f' : F) → Called g f (x, tt) b f' → (f' ≡ f) × (b ≡ p (mark x.now)))
    → ChecksAny fronts g s f r u
    → r ≡ some p (map mark rs)
any_marks mark p rs g s u f r source one ran =
    any_from_yields_List (λ x. p (mark x)) u f r ran (YieldsList-from_slice rs source) one ∙ some_any mark p rs

when_none : (b : Bool) (n : ℕ) → None ≡ cond b (Some n) None → b ≡ false
when_none true n e = absurd (true≢false (ap is_some (sym e)))
when_none false n e = refl

when_some : (b : Bool) (n k : ℕ) → Some k ≡ cond b (Some n) None → (b ≡ true) × (k ≡ n)
when_some true n k e = (refl, ap (λ (o : Option ℕ). elim o [ None ↦ k | Some z ↦ z ]) e)
when_some false n k e = absurd (true≢false (ap is_some e))

-- `position` finds the first mark that passes, and nothing where none does
module _ {R F : Type 0} (mark : R → Mark) (p : Mark → Bool) (rs : List R) (g : Mut F (Bor R × Unit {0}) Bool) (s u : Iter R) (f : F) (r : Option ℕ)
    (source : iter_rest s ≡ rs)
    (one : (x : Bor R) (b : Bool) (f' : F) → Called g f (x, tt) b f' → (f' ≡ f) × (b ≡ p (mark x.now)))
    (ran : FindsPosition fronts g s f r u) where
  found_at : r ≡ cond (ltb (prefix_len (λ x. not (p (mark x))) rs) (length rs)) (Some (prefix_len (λ x. not (p (mark x))) rs)) None
  found_at = position_from_yields_List (λ x. p (mark x)) u f r ran (YieldsList-from_slice rs source) one

  same_index : prefix_len (λ x. not (p (mark x))) rs ≡ prefix_len (λ m. not (p m)) (map mark rs)
  same_index = sym (prefix_len-map (λ m. not (p m)) mark rs)

  pub none_found : r ≡ None → some p (map mark rs) ≡ false
  none_found e =
      let long = length-map rs mark in
      let no = when_none (ltb (prefix_len (λ x. not (p (mark x))) rs) (length rs)) _ (sym e ∙ found_at) in
      ap (λ (i : ℕ). ltb i (length (map mark rs))) (sym same_index) ∙ ap (ltb (prefix_len (λ x. not (p (mark x))) rs)) long ∙ no

  pub first_found : (k : ℕ) → r ≡ Some k → (k ≡ prefix_len (λ m. not (p m)) (map mark rs)) × (k < length rs)
  first_found k e =
      let yes = when_some (ltb (prefix_len (λ x. not (p (mark x))) rs) (length rs)) _ k (sym e ∙ found_at) in
      (yes.1 ∙ same_index, grind (arith, nat_tests, yes.0, yes.1))

-- The records of a table, and its searches, which ask their marks. Assumes nothing.
use Rattle.std.proofs.Common.{◌≡◌, ℕ, ◌+◌, Bool, false, cond, List, [], ◌∷◌, map, length, take, sym, refl, ap, ◌∙◌, arith, rules}
use Rattle.std.proofs.iter.Yields.{fronts}
use Rattle.std.proofs.lemmas.Iterator.{YieldsList-from_slice}
use Rattle.std.proofs.lemmas.Iterator.Consumers.{count_from_yields_List}
use Rattle.std.proofs.lemmas.Iterator.Search.{YieldsList-from_take_while}
use Rattle.std.proofs.lemmas.List.{same_lists, places}
use Rattle.std.proofs.lemmas.List.Folds.{length-prefix_len}
use Rattle.std.specs.declared.iter.TakeWhile.{TakeWhile}
use Rattle.std.specs.declared.slice.Iter.{Iter}
use Rattle.std.specs.Fn.{CalledAt}
use Rattle.std.specs.Iterator.{Drains}
use Rattle.std.specs.Iterator.Adapters.{take_while_source, take_while_done, take_while_callee, take_while_steps}
use Rattle.std.specs.List.{prefix_len}
use Rattle.std.specs.Slice.Iter.{iter_rest}
use Rattle.places.specs.Marks.{Mark}
use denote.Param.Members.{Mut}
use denote.Ref.{Bor}

-- the first n, where n is how many the first `count` are
pub records_cut : {X : Type 0} (xs : List X) (count n : ℕ) → n ≡ length (take count xs) → take n xs ≡ take count xs
records_cut xs count n e =
    same_lists (take n xs) (take count xs)
    (search (rules, places))
    (λ k d h. grind (arith, places))

pub prefix_len-map : {X Y : Type 0} (p : Y → Bool) (f : X → Y) (xs : List X) → prefix_len p (map f xs) ≡ prefix_len (λ x. p (f x)) xs
prefix_len-map p f [] = refl
prefix_len-map p f (x ∷ xs) = ap (λ (n : ℕ). cond (p (f x)) (1 + n) 0) (prefix_len-map p f xs)

-- `take_while` over records and then `count`, where the closure tests their marks
pub count_marks : {R F : Type 0} (mark : R → Mark) (p : Mark → Bool) (rs : List R) (g : Mut F (Bor (Bor R) × Unit {0}) Bool) (s : TakeWhile (Iter R) F) (n : ℕ) {f : F}
    → iter_rest (take_while_source s) ≡ rs → take_while_callee s ≡ f → take_while_done s ≡ false
    → ((x : Bor R) (b : Bool) (f' : F) → CalledAt g f x b f' → (f' ≡ f) × (b ≡ p (mark x.now)))
    → ((xs : List (Bor R)) × Drains (take_while_steps fronts g) s xs × (n ≡ length xs))
    → n ≡ prefix_len p (map mark rs)
count_marks mark p rs g s n source callee going one ran =
    count_from_yields_List s n ran (YieldsList-from_take_while g (λ r. p (mark r)) (YieldsList-from_slice rs source) callee going one)
    ∙ length-prefix_len (λ r. p (mark r)) rs
    ∙ sym (prefix_len-map p mark rs)

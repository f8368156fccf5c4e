-- Refusals of the view below, as a layer hands them on. Assumes nothing.
use Rattle.std.proofs.Common.{◌≡◌, ℕ, zero, suc, ◌+◌, min, Bool, true, false, ltb, List, [], ◌∷◌, length, Some, None, Ok, Err, Option, Result, sym, refl, ap, ◌∙◌, ⊎_elim, arith}
use Rattle.std.specs.Option.{option_map}
use Rattle.std.specs.Result.{MatchResult, IsErrAnd}
use Rattle.std.specs.List.{AllByRecursion}
use Rattle.std.proofs.lemmas.Bool.{cond-true, cond-false, cond_both, cases_Bool, lt-ltb, le-ltb, ltb-true, ltb-false}
use Rattle.buffer.specs.declared.fault.BufferFault.{BufferFault}
use Rattle.buffer.specs.declared.fault.BufferFault.TheVariants.{PastEnd as BufferPastEnd, EmptyEdit, BadCode as BufferBadCode, NoSpare, TooManyCells}
use Rattle.buffer.specs.declared.fault.Refusal.{Refusal}
use Rattle.buffer.specs.Refusals.{refusal_of}
use Rattle.view.specs.declared.fault.Cause.{Cause}
use Rattle.view.specs.declared.fault.Cause.TheVariants.{Buffer, PastEnd, NoLayer, OtherVerb, OutOfRange, BadCode, BadFold, NoRecord, TableFull, Asleep}
use Rattle.view.specs.declared.fault.ViewFault.{ViewFault}
use Rattle.view.specs.declared.order.Order.{Order}
use Rattle.view.specs.Refusals.{cause_refusal, view_refusal, at_layer, deeper, with_steps, meant_for, first_cause}
use Rattle.view.specs.Layers.{Records, hints, folds, tabs, wrap, widest_tab, narrowest_wrap, widest_wrap}
use Rattle.view.specs.Orders.{adds, add_causes, remove_causes, width_causes, own_refusal, has_verb}
use Rattle.view.specs.Stacks.{awake, first_place, meant_refusal, order_refusal_of}

-- equal numbers tell one refusal
same_told : (n m l k s t : ℕ) → n ≡ m → l ≡ k → s ≡ t → ◌≡◌ {A = Option Refusal} (Some (record { number = n; layer = l; spot = s })) (Some (record { number = m; layer = k; spot = t }))
same_told n m l k s t e f g = cc

some_same : (x y : Refusal) → Some x ≡ Some y → x ≡ y
some_same x y e = cc

none_some : (x : Refusal) → None ≡ Some x → ⊥
none_some x e = let z : ◌≡◌ {A = ℕ} 0 1 = cc in omega arith

-- one layer deeper
pub deeper_refusal : (n : ℕ) (x : Option Refusal) (f : ViewFault) → option_map (at_layer n) x ≡ Some (view_refusal f) → option_map (at_layer (suc n)) x ≡ Some (view_refusal (deeper f))
deeper_refusal n None f h = absurd (none_some (view_refusal f) h)
deeper_refusal n (Some x) f h =
    let e = some_same (at_layer n x) (view_refusal f) h in
    let l = ap (λ (z : Refusal). z.layer) e in
    same_told _ _ _ _ _ _ (ap (λ (z : Refusal). z.number) e) (omega arith) (ap (λ (z : Refusal). z.spot) e)

buffer_six : (f : BufferFault) → (refusal_of f).number ≡ 6 → ⊥
buffer_six (BufferPastEnd p) h = omega arith
buffer_six (EmptyEdit p) h = omega arith
buffer_six (BufferBadCode i) h = omega arith
buffer_six (NoSpare s) h = omega arith
buffer_six (TooManyCells c) h = omega arith

-- only an order for a layer that is not there has the number 6
six_steps : (k : ℕ) (c : Cause) → (cause_refusal c).number ≡ 6 → with_steps k c ≡ NoLayer k
six_steps k (Buffer f) h = absurd (buffer_six f h)
six_steps k (PastEnd p) h = absurd (omega arith)
six_steps k (NoLayer s) h = refl
six_steps k (OtherVerb v) h = absurd (omega arith)
six_steps k (OutOfRange v) h = absurd (omega arith)
six_steps k (BadCode i) h = absurd (omega arith)
six_steps k (BadFold p) h = absurd (omega arith)
six_steps k (NoRecord p) h = absurd (omega arith)
six_steps k (TableFull n) h = absurd (omega arith)
six_steps k Asleep h = absurd (omega arith)

other_steps : (k : ℕ) (c : Cause) → ((cause_refusal c).number ≡ 6 → ⊥) → with_steps k c ≡ c
other_steps k (Buffer f) h = refl
other_steps k (PastEnd p) h = refl
other_steps k (NoLayer s) h = absurd (h refl)
other_steps k (OtherVerb v) h = refl
other_steps k (OutOfRange v) h = refl
other_steps k (BadCode i) h = refl
other_steps k (BadFold p) h = refl
other_steps k (NoRecord p) h = refl
other_steps k (TableFull n) h = refl
other_steps k Asleep h = refl

-- a layer that an order is meant for never refuses it with 6
abbrev NotSix : Refusal → Type 0
NotSix r = r.number ≡ 6 → ⊥

abbrev Apart : Option Refusal → Type 0
Apart None = Unit {0}
Apart (Some r) = NotSix r

first_apart : (cs : List (Bool × Refusal)) → AllByRecursion (λ c. NotSix c.1) cs → Apart (first_cause cs)
first_apart [] h = tt
first_apart (c ∷ cs) h = cond_both c.0 (Some c.1) (first_cause cs) Apart (λ _. h.0) (λ _. first_apart cs h.1)

own_apart : (r : Records) (n a b : ℕ) (o : Order) (w : List ℕ) → Apart (own_refusal r n a b o w)
own_apart (hints ms) n a b o w =
    cond_both (adds (hints ms) o.verb) _ _ Apart
    (λ _. first_apart (add_causes (hints ms) n a b o w) (λ h. omega arith, (λ h. omega arith, (λ h. omega arith, (λ h. omega arith, tt)))))
    (λ _. first_apart (remove_causes (hints ms) n a o) (λ h. omega arith, (λ h. omega arith, tt)))
own_apart (folds ms) n a b o w =
    cond_both (adds (folds ms) o.verb) _ _ Apart
    (λ _. first_apart (add_causes (folds ms) n a b o w) (λ h. omega arith, (λ h. omega arith, (λ h. omega arith, (λ h. omega arith, (λ h. omega arith, tt))))))
    (λ _. first_apart (remove_causes (folds ms) n a o) (λ h. omega arith, (λ h. omega arith, tt)))
own_apart (tabs _) n a b o w = first_apart (width_causes 1 widest_tab o) (λ h. omega arith, tt)
own_apart (wrap _) n a b o w = first_apart (width_causes narrowest_wrap widest_wrap o) (λ h. omega arith, tt)

meant_apart : (most : ℕ) (rs : List Records) (d : List ℕ) (k : ℕ) (o : Order) (w : List ℕ) → Apart (meant_refusal most rs d k o w)
meant_apart most [] d k o w = tt
meant_apart most (r ∷ rs) d zero o w =
    cond_both (has_verb r o.verb) _ _ Apart
    (λ _. cond_both (awake most r rs) _ _ Apart (λ _. own_apart r (length d) (first_place most rs d o.x) (first_place most rs d o.y) o w) (λ _. λ h. omega arith))
    (λ _. λ h. omega arith)
meant_apart most (r ∷ rs) d (suc k) o w = meant_apart most rs d k o w

apart_number : (n : ℕ) (x : Option Refusal) (f : ViewFault) → Apart x → option_map (at_layer n) x ≡ Some (view_refusal f) → (cause_refusal f.cause).number ≡ 6 → ⊥
apart_number n None f a h e = none_some (view_refusal f) h
apart_number n (Some x) f a h e = a (ap (λ (z : Refusal). z.number) (some_same (at_layer n x) (view_refusal f) h) ∙ e)

-- an order that is refused below is refused above, one layer deeper and with the steps from above
pub deeper_order : (most : ℕ) (r : Records) (rs : List Records) (d : List ℕ) (k : ℕ) (o : Order) (w : List ℕ) (f : ViewFault)
    → order_refusal_of most rs d k o w ≡ Some (view_refusal f) → order_refusal_of most (r ∷ rs) d (suc k) o w ≡ Some (view_refusal (meant_for (suc k) (deeper f)))
deeper_order most r rs d k o w f h =
    ⊎_elim
    (λ in-k.
    let here = sym (cond-true (ltb k (length rs)) _ _ in-k) ∙ h in
    let same = other_steps (suc k) f.cause (apart_number k (meant_refusal most rs d k o w) f (meant_apart most rs d k o w) here) in
    cond-true (ltb (suc k) (suc (length rs))) _ _ (lt-ltb (suc k) (suc (length rs)) (omega (arith, ltb-true k (length rs) in-k)))
    ∙ deeper_refusal k (meant_refusal most rs d k o w) f here
    ∙ ap (λ (c : Cause). Some (view_refusal (record { cause = c; layer = min (f.layer + 1) 254 }))) (sym same))
    (λ out-k.
    let there = sym (cond-false (ltb k (length rs)) _ _ out-k) ∙ h in
    let e = some_same _ (view_refusal f) there in
    let same = six_steps (suc k) f.cause (sym (ap (λ (z : Refusal). z.number) e)) in
    let l = ap (λ (z : Refusal). z.layer) e in
    cond-false (ltb (suc k) (suc (length rs))) _ _ (le-ltb (suc k) (suc (length rs)) (omega (arith, ltb-false k (length rs) out-k)))
    ∙ same_told 6 6 (min (suc (length rs)) 254) (min (f.layer + 1) 254) (suc k) (suc k) refl (omega arith) refl
    ∙ ap (λ (c : Cause). Some (view_refusal (record { cause = c; layer = min (f.layer + 1) 254 }))) (sym same))
    (cases_Bool (ltb k (length rs)))

pub mapped_none : (n m : ℕ) (x : Option Refusal) → option_map (at_layer n) x ≡ None → option_map (at_layer m) x ≡ None
mapped_none n m None h = refl
mapped_none n m (Some x) h = absurd (none_some (at_layer n x) (sym h))

-- and one that is carried out below is carried out above
pub deeper_none : (most : ℕ) (r : Records) (rs : List Records) (d : List ℕ) (k : ℕ) (o : Order) (w : List ℕ)
    → order_refusal_of most rs d k o w ≡ None → order_refusal_of most (r ∷ rs) d (suc k) o w ≡ None
deeper_none most r rs d k o w h =
    ⊎_elim
    (λ in-k.
    cond-true (ltb (suc k) (suc (length rs))) _ _ (lt-ltb (suc k) (suc (length rs)) (omega (arith, ltb-true k (length rs) in-k)))
    ∙ mapped_none k (suc k) (meant_refusal most rs d k o w) (sym (cond-true (ltb k (length rs)) _ _ in-k) ∙ h))
    (λ out-k. absurd (none_some _ (sym (sym (cond-false (ltb k (length rs)) _ _ out-k) ∙ h))))
    (cases_Bool (ltb k (length rs)))

-- the top layer's own answer
pub order_here : (most : ℕ) (r : Records) (rs : List Records) (d : List ℕ) (o : Order) (w : List ℕ)
    → order_refusal_of most (r ∷ rs) d zero o w ≡ option_map (at_layer 0) (meant_refusal most (r ∷ rs) d zero o w)
order_here most r rs d o w = cond-true (ltb 0 (suc (length rs))) _ _ (lt-ltb 0 (suc (length rs)) (omega arith))

-- what an answer was before its errors, and nothing else, were mapped by f
module _ {T E F : Type 0} (f : E → F) (P : E → F → Type 0) (maps : (e : E) (z : F) → P e z → z ≡ f e) where
  pub mapped_ok : (x : Result T E) (r : Result T F) (y : T) → MatchResult x (λ v. r ≡ Ok v) (λ e. IsErrAnd r (P e)) → r ≡ Ok y → x ≡ Ok y
  mapped_ok (Ok v) r y m e = let i : v ≡ y = cc in ap Ok i
  mapped_ok (Err g) (Ok w) y m e = absurd m
  mapped_ok (Err g) (Err w) y m e = let z : ◌≡◌ {A = ℕ} 0 1 = cc in absurd (omega arith)

  pub mapped_err : (x : Result T E) (r : Result T F) (z : F) → MatchResult x (λ v. r ≡ Ok v) (λ e. IsErrAnd r (P e)) → r ≡ Err z → (g : E) × ((x ≡ Err g) × (z ≡ f g))
  mapped_err (Ok v) r z m e = let z : ◌≡◌ {A = ℕ} 0 1 = cc in absurd (omega arith)
  mapped_err (Err g) (Ok w) z m e = absurd m
  mapped_err (Err g) (Err w) z m e = (g, (refl, (let i : z ≡ w = cc in i ∙ maps g w m)))

-- the top layer's refusals: no such verb, asleep, its own causes
module _ (most : ℕ) (r : Records) (rs : List Records) (d : List ℕ) (o : Order) (w : List ℕ) where
  pub refused_verb : has_verb r o.verb ≡ false → order_refusal_of most (r ∷ rs) d zero o w ≡ Some (view_refusal (record { cause = OtherVerb o.verb; layer = 0 }))
  refused_verb h = order_here most r rs d o w ∙ ap (option_map (at_layer 0)) (cond-false (has_verb r o.verb) _ _ h)

  pub refused_asleep : has_verb r o.verb ≡ true → awake most r rs ≡ false → order_refusal_of most (r ∷ rs) d zero o w ≡ Some (view_refusal (record { cause = Asleep; layer = 0 }))
  refused_asleep h down = order_here most r rs d o w ∙ ap (option_map (at_layer 0)) (cond-true (has_verb r o.verb) _ _ h ∙ cond-false (awake most r rs) _ _ down)

  own_answer : has_verb r o.verb ≡ true → awake most r rs ≡ true
      → meant_refusal most (r ∷ rs) d zero o w ≡ own_refusal r (length d) (first_place most rs d o.x) (first_place most rs d o.y) o w
  own_answer h up = cond-true (has_verb r o.verb) _ _ h ∙ cond-true (awake most r rs) _ _ up

  pub refused_own : has_verb r o.verb ≡ true → awake most r rs ≡ true → (f : Cause)
      → own_refusal r (length d) (first_place most rs d o.x) (first_place most rs d o.y) o w ≡ Some (cause_refusal f)
      → order_refusal_of most (r ∷ rs) d zero o w ≡ Some (view_refusal (record { cause = f; layer = 0 }))
  refused_own h up f e = order_here most r rs d o w ∙ ap (option_map (at_layer 0)) (own_answer h up ∙ e)

  pub taken_own : has_verb r o.verb ≡ true → awake most r rs ≡ true
      → own_refusal r (length d) (first_place most rs d o.x) (first_place most rs d o.y) o w ≡ None
      → order_refusal_of most (r ∷ rs) d zero o w ≡ None
  taken_own h up e = order_here most r rs d o w ∙ ap (option_map (at_layer 0)) (own_answer h up ∙ e)

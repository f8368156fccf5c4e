-- A stack whose records fit: its map, its length and its ceiling, layer over layer. Assumes nothing.
use Rattle.std.specs.Prelude.{◌≡◌, ℕ, zero, suc, ◌≤◌, Bool, true, false, cond, leb, List, [], ◌∷◌, length, nat_le, refl}
use Rattle.std.proofs.Common.{ap, ◌∙◌, ⊎_elim, arith}
use Rattle.std.proofs.lemmas.Bool.Decides.{when_true, nat_tests}
use Rattle.std.proofs.lemmas.Bool.{cond-true, cond-false, cases_Bool}
use Rattle.places.specs.declared.change.Change.{Change}
use Rattle.places.specs.Maps.{Finds}
use Rattle.places.proofs.Finding.{searches_find, composed, first_found, last_found}
use Rattle.view.specs.declared.order.Order.{Order}
use Rattle.view.specs.Layers.{Records, hints, folds, tabs, wrap, shown, under, first, last, growth, Fit, follow}
use Rattle.view.specs.Orders.{obeyed}
use Rattle.view.specs.Stacks.{ceiling_of, awake, text_of, under_of, first_place, last_place, AllFit, Means, after_edit, after_order}
use Rattle.layer.specs.Fitting.{fit_finds, grown_length, follow_growth}
use Rattle.view.specs.Identity.{identity_finds}

-- the layer r over the stack rs, awake or asleep
module _ (most : ℕ) (r : Records) (rs : List Records) (d : List ℕ) where
  pub text_awake : awake most r rs ≡ true → text_of most (r ∷ rs) d ≡ shown r (text_of most rs d)
  text_awake up = cond-true (awake most r rs) _ _ up

  pub text_asleep : awake most r rs ≡ false → text_of most (r ∷ rs) d ≡ text_of most rs d
  text_asleep down = cond-false (awake most r rs) _ _ down

  pub under_awake : awake most r rs ≡ true → (u : ℕ) → under_of most (r ∷ rs) d u ≡ under_of most rs d (under r (text_of most rs d) u)
  under_awake up u = ap (under_of most rs d) (cond-true (awake most r rs) _ _ up)

  pub under_asleep : awake most r rs ≡ false → (u : ℕ) → under_of most (r ∷ rs) d u ≡ under_of most rs d u
  under_asleep down u = ap (under_of most rs d) (cond-false (awake most r rs) _ _ down)

-- two maps that agree everywhere are found alike
finds_same : (U V F L : ℕ → ℕ) (t s n : ℕ) → ((u : ℕ) → V u ≡ U u) → s ≡ t → Finds U F L t n → Finds V F L s n
finds_same U V F L t s n e q f =
    record {
      map = record {
        rises = λ u v h k. omega (arith, e u, e v, f.map.rises u v h (omega arith));
        starts = e 0 ∙ f.map.starts;
        ends = e s ∙ ap U q ∙ f.map.ends;
      };
      first_in = λ d h. omega (arith, f.first_in d h);
      last_in = λ d h. omega (arith, f.last_in d h);
      first_rule = λ u d hu hd.
          let i = f.first_rule u d (omega arith) hd in
          (λ h. omega (arith, e u, i.0 h), λ h. i.1 (omega (arith, e u)));
      last_rule = λ u d hu hd.
          let i = f.last_rule u d (omega arith) hd in
          (λ h. omega (arith, e u, i.0 h), λ h. i.1 (omega (arith, e u)));
    }

-- the layer r over a stack that is found, by its own searches after those below
module _ (most : ℕ) (r : Records) (rs : List Records) (d : List ℕ) where
  through_awake : awake most r rs ≡ true → Fit r (length (text_of most rs d))
      → Finds (under_of most rs d) (first_place most rs d) (last_place most rs d) (length (text_of most rs d)) (length d)
      → Finds (under_of most (r ∷ rs) d) (λ p. first r (text_of most rs d) (first_place most rs d p)) (λ p. last r (text_of most rs d) (last_place most rs d p)) (length (text_of most (r ∷ rs) d)) (length d)
  through_awake up fit below =
      finds_same _ (under_of most (r ∷ rs) d) _ _ _ _ _ (under_awake most r rs d up) (ap length (text_awake most r rs d up))
      (composed (fit_finds r (text_of most rs d) fit) below)

  through_asleep : awake most r rs ≡ false
      → Finds (under_of most rs d) (first_place most rs d) (last_place most rs d) (length (text_of most rs d)) (length d)
      → Finds (under_of most (r ∷ rs) d) (first_place most rs d) (last_place most rs d) (length (text_of most (r ∷ rs) d)) (length d)
  through_asleep down below =
      finds_same _ (under_of most (r ∷ rs) d) _ _ _ _ _ (under_asleep most r rs d down) (ap length (text_asleep most r rs d down)) below

-- the map of a stack rises, and first and last find by the order rules: layer over layer, by one argument
pub stack_finds : (most : ℕ) (rs : List Records) (d : List ℕ) → AllFit most rs d
    → Finds (under_of most rs d) (first_place most rs d) (last_place most rs d) (length (text_of most rs d)) (length d)
stack_finds most [] d h = searches_find (λ u. u) (length d) (length d) (identity_finds (length d)).map
stack_finds most (r ∷ rs) d h =
    let below = stack_finds most rs d h.0 in
    searches_find (under_of most (r ∷ rs) d) (length (text_of most (r ∷ rs) d)) (length d)
    (⊎_elim
    (λ up. (through_awake most r rs d up (when_true _ _ up h.1) below).map)
    (λ down. (through_asleep most r rs d down below).map)
    (cases_Bool (awake most r rs)))

-- first and last through the top layer
module _ (most : ℕ) (r : Records) (rs : List Records) (d : List ℕ) (h : AllFit most (r ∷ rs) d) (p : ℕ) (l : p ≤ length d) where
  pub first_awake : awake most r rs ≡ true → first r (text_of most rs d) (first_place most rs d p) ≡ first_place most (r ∷ rs) d p
  first_awake up = first_found (through_awake most r rs d up (when_true _ _ up h.1) (stack_finds most rs d h.0)) p l

  pub last_awake : awake most r rs ≡ true → last r (text_of most rs d) (last_place most rs d p) ≡ last_place most (r ∷ rs) d p
  last_awake up = last_found (through_awake most r rs d up (when_true _ _ up h.1) (stack_finds most rs d h.0)) p l

  pub first_asleep : awake most r rs ≡ false → first_place most rs d p ≡ first_place most (r ∷ rs) d p
  first_asleep down = first_found (through_asleep most r rs d down (stack_finds most rs d h.0)) p l

  pub last_asleep : awake most r rs ≡ false → last_place most rs d p ≡ last_place most (r ∷ rs) d p
  last_asleep down = last_found (through_asleep most r rs d down (stack_finds most rs d h.0)) p l

-- no ceiling passes the highest, and no text its ceiling
pub ceiling_le : (most : ℕ) (rs : List Records) → most ≤ 1073741824 → ceiling_of most rs ≤ 1073741824
ceiling_le most [] h = h
ceiling_le most (r ∷ rs) h = let rest = ceiling_le most rs h in grind (arith, nat_tests)

pub text_le : (most : ℕ) (rs : List Records) (d : List ℕ) → AllFit most rs d → length d ≤ most → length (text_of most rs d) ≤ ceiling_of most rs
text_le most [] d f h = h
text_le most (r ∷ rs) d f h =
    let rest = text_le most rs d f.0 h in
    ⊎_elim
    (λ up. let t = ap length (text_awake most r rs d up) in let g = grown_length r (text_of most rs d) (ceiling_of most rs) (when_true _ _ up f.1) rest in let c : ceiling_of most (r ∷ rs) ≡ growth r (ceiling_of most rs) = cond-true (awake most r rs) _ _ up in omega arith)
    (λ down. let t = ap length (text_asleep most r rs d down) in let c : ceiling_of most (r ∷ rs) ≡ ceiling_of most rs = cond-false (awake most r rs) _ _ down in omega arith)
    (cases_Bool (awake most r rs))

-- a layer of the same kind over a stack of the same ceiling has the same ceiling, and is awake alike
module _ (most : ℕ) (r q : Records) (rs qs : List Records) (grow : (c : ℕ) → growth q c ≡ growth r c) (low : ceiling_of most qs ≡ ceiling_of most rs) where
  pub same_growth : growth q (ceiling_of most qs) ≡ growth r (ceiling_of most rs)
  same_growth = grow (ceiling_of most qs) ∙ ap (growth r) low

  pub same_awake : awake most q qs ≡ awake most r rs
  same_awake = ap (λ (c : ℕ). leb c 1073741824) same_growth

  pub same_ceiling : ceiling_of most (q ∷ qs) ≡ ceiling_of most (r ∷ rs)
  same_ceiling =
      ap (λ (c : ℕ). cond (nat_le c 1073741824) c (ceiling_of most qs)) same_growth
      ∙ ap (λ (c : ℕ). cond (awake most r rs) (growth r (ceiling_of most rs)) c) low

carried_growth : (b : Bool) (r : Records) (c : Change) (n : ℕ) → growth (cond b (follow r c) r) n ≡ growth r n
carried_growth true r c n = follow_growth r c n
carried_growth false r c n = refl

pub obeyed_growth : (r : Records) (a b : ℕ) (o : Order) (w : List ℕ) (n : ℕ) → growth (obeyed r a b o w) n ≡ growth r n
obeyed_growth (hints ms) a b o w n = refl
obeyed_growth (folds ms) a b o w n = refl
obeyed_growth (tabs v) a b o w n = refl
obeyed_growth (wrap v) a b o w n = refl

-- neither an edit nor an order changes a ceiling
pub edit_ceiling : (most : ℕ) (rs : List Records) (d e : List ℕ) (c : Change) → ceiling_of most (after_edit most rs d e c).stack ≡ ceiling_of most rs
edit_ceiling most [] d e c = refl
edit_ceiling most (r ∷ rs) d e c =
    same_ceiling most r (cond (awake most r rs) (follow r (after_edit most rs d e c).change) r) rs (after_edit most rs d e c).stack (carried_growth (awake most r rs) r (after_edit most rs d e c).change) (edit_ceiling most rs d e c)

pub order_ceiling : (most : ℕ) (rs : List Records) (d : List ℕ) (k : ℕ) (o : Order) (w : List ℕ) → ceiling_of most (after_order most rs d k o w).stack ≡ ceiling_of most rs
order_ceiling most [] d k o w = refl
order_ceiling most (r ∷ rs) d zero o w =
    same_ceiling most r (obeyed r (first_place most rs d o.x) (first_place most rs d o.y) o w) rs rs (obeyed_growth r (first_place most rs d o.x) (first_place most rs d o.y) o w) refl
order_ceiling most (r ∷ rs) d (suc k) o w =
    same_ceiling most r (cond (awake most r rs) (follow r (after_order most rs d k o w).change) r) rs (after_order most rs d k o w).stack (carried_growth (awake most r rs) r (after_order most rs d k o w).change) (order_ceiling most rs d k o w)

-- what a view asks of its stack
pub stack_means : (most : ℕ) (rs : List Records) (d : List ℕ) → AllFit most rs d → length d ≤ most → most ≤ 1073741824 → Means most rs d
stack_means most rs d f h i = record { finds = stack_finds most rs d f; text_fits = text_le most rs d f h; ceiling_fits = ceiling_le most rs i }

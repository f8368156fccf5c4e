-- A sound layer, and what it is after a change of the view below. Assumes nothing.
use Rattle.std.specs.Prelude.{◌≡◌, ℕ, ◌+◌, ◌-◌, ◌≤◌, Bool, true, false, cond, List, ◌∷◌, length, MatchBool, refl}
use Rattle.std.proofs.Common.{sym, ap, subst, ◌∙◌, ⊎_elim, arith}
use Rattle.std.proofs.lemmas.Bool.Decides.{when_true, when_false, nat_tests}
use Rattle.std.proofs.lemmas.Bool.{cond-true, cond-false, cases_Bool}
use Rattle.places.specs.declared.change.Change.{Change}
use Rattle.places.specs.Changes.{Kept}
use Rattle.places.proofs.Keeping.{keeps_length}
use Rattle.view.specs.Layers.{Records, hints, folds, tabs, wrap, shown, growth, Fit, follow, raised}
use Rattle.view.specs.Stacks.{ceiling_of, awake, text_of, AllFit, Means, Changed, carried}
use Rattle.view.specs.declared.view.Meaning.{Ghosts as Eyes}
use Rattle.view.specs.Seen.{text_at}
use Rattle.view.specs.Kinds.{Countable, Over, Behind, Raises}
use Rattle.layer.specs.Sound.{Sound}
use Rattle.layer.specs.Fitting.{follow_fit, follow_kept, follow_growth, growth_rises, grown_length}
use Rattle.layer.specs.Stacking.{stack_means, text_awake, text_asleep, text_le, ceiling_le, same_awake, same_ceiling}

-- what is told of a view by its laws
pub record Lawful {V : Type 0} (e : Eyes V) (v : V) : Type 0 where
  pub sound : e.sound v
  pub fits : AllFit e.most (e.stack v) (e.doc v)
  pub small : (length (e.doc v) + e.spare_of v ≤ e.most) × (e.most ≤ 1073741824)

-- a layer that had the records r over v, and has q over b: it is sound, and went as the stack below it, now `lower`, asks
pub record Carried {V : Type 0} (e : Eyes V) (v : V) (r : Records) (b : V) (q : Records) (len top : ℕ) (up : Bool) (lower : Changed) (own : Change) : Type 0 where
  pub sound : Sound e b q len top up
  pub stack : q ∷ e.stack b ≡ (carried e.most r (e.stack v) (e.doc v) (e.doc b) lower).stack
  pub change : own ≡ (carried e.most r (e.stack v) (e.doc v) (e.doc b) lower).change
  pub kept : Kept (text_of e.most (r ∷ e.stack v) (e.doc v)) (text_of e.most (q ∷ e.stack b) (e.doc b)) own

pub when_made : (b : Bool) (P Q : Type 0) → (b ≡ true → P) → (b ≡ false → Q) → MatchBool b P Q
when_made true P Q p q = p refl
when_made false P Q p q = q refl

grown_countable : (r : Records) (n : ℕ) → growth r n ≤ 1073741824 → Countable r n
grown_countable (hints ms) n h = tt
grown_countable (folds ms) n h = tt
grown_countable (tabs w) n h = h
grown_countable (wrap w) n h = h

still_countable : (r : Records) (c : Change) (n : ℕ) → Countable (follow r c) n → Countable r n
still_countable (hints ms) c n h = tt
still_countable (folds ms) c n h = tt
still_countable (tabs w) c n h = h
still_countable (wrap w) c n h = h

module _ {V : Type 0} (e : Eyes V) (v : V) (lawful : Lawful e v) where
  pub text_small : length (text_at e v) ≤ 1073741824
  text_small =
      let t = text_le e.most (e.stack v) (e.doc v) lawful.fits (omega (arith, lawful.small.0)) in
      let c = ceiling_le e.most (e.stack v) lawful.small.1 in
      omega arith

  -- a layer that is awake over it, with records that fit
  pub over : (r : Records) → awake e.most r (e.stack v) ≡ true → Fit r (length (text_at e v)) → Over e v r
  over r up fit =
      let t = text_le e.most (e.stack v) (e.doc v) lawful.fits (omega (arith, lawful.small.0)) in
      let g = grown_length r (text_at e v) (ceiling_of e.most (e.stack v)) fit t in
      let h : growth r (ceiling_of e.most (e.stack v)) ≤ 1073741824 = grind (arith, nat_tests) in
      record { sound = lawful.sound; fit = fit; low = text_small; high = omega arith; room = grown_countable r _ (omega (arith, growth_rises r _ _ t)) }

  -- the records of a sound layer over it fit with those below
  pub sound_fits : (r : Records) (len top : ℕ) (up : Bool) → Sound e v r len top up → AllFit e.most (r ∷ e.stack v) (e.doc v)
  sound_fits r len top up s =
      let P : Bool → Type 0 = λ b. MatchBool b (Fit r (length (text_at e v))) (Unit {0}) in
      (lawful.fits, subst P s.knows s.fits)

  -- so a sound layer over it means what its records and those below say
  pub sound_means : (r : Records) (len top : ℕ) (up : Bool) → Sound e v r len top up → Means e.most (r ∷ e.stack v) (e.doc v)
  sound_means r len top up s =
      stack_means e.most (r ∷ e.stack v) (e.doc v) (sound_fits r len top up s) (omega (arith, lawful.small.0)) lawful.small.1

  pub sound_over : (r : Records) (len top : ℕ) (up : Bool) → Sound e v r len top up → up ≡ true → Over e v r
  sound_over r len top up s h = over r (sym s.knows ∙ h) (when_true _ _ h s.fits)

-- the view below went from v to v' by the change c, which a sound layer with the records r follows
module _ {V : Type 0} (e : Eyes V) (v v' : V) (lawful : Lawful e v) (lawful' : Lawful e v') (r : Records) (len top : ℕ) (up : Bool)
    (s : Sound e v r len top up) (c : Change) (kept : Kept (text_at e v) (text_at e v') c) (low : ceiling_of e.most (e.stack v') ≡ ceiling_of e.most (e.stack v)) where
  before_is : length (text_at e v') + c.old - c.new ≡ length (text_at e v)
  before_is = let h = keeps_length (text_at e v) (text_at e v') c.start c.old c.new kept in omega arith

  follow_awake : up ≡ true → awake e.most (follow r c) (e.stack v') ≡ true
  follow_awake h = same_awake e.most r (follow r c) (e.stack v) (e.stack v') (follow_growth r c) low ∙ sym s.knows ∙ h

  carry_fit : up ≡ true → Fit (follow r c) (length (text_at e v'))
  carry_fit h = follow_fit r (text_at e v) (text_at e v') c (when_true _ _ h s.fits) kept

  carry_behind : up ≡ true → Behind e v' r c
  carry_behind h =
      let P : ℕ → Type 0 = λ n. Fit r n in
      let b = before_is in
      record {
        sound = lawful'.sound;
        new_fits = kept.new_fits;
        old_fits = omega (arith, kept.old_fits);
        fit = subst P (sym before_is) (when_true _ _ h s.fits);
        low = text_small e v' lawful';
        was = omega (arith, text_small e v lawful);
        room = still_countable r c _ (over e v' lawful' (follow r c) (follow_awake h) (carry_fit h)).room;
      }

  pub behind_when : MatchBool up (Behind e v' r c) (Unit {0})
  behind_when = when_made up _ _ carry_behind (λ _. tt)

  pub over_when : MatchBool up (Over e v' (follow r c)) (Unit {0})
  over_when = when_made up _ _ (λ h. over e v' lawful' (follow r c) (follow_awake h) (carry_fit h)) (λ _. tt)

  -- what the layer then keeps, and the change that it answers
  module _ (q : Records) (len' : ℕ) (own : Change)
      (does : MatchBool up ((q ≡ follow r c) × (len' ≡ length (shown (follow r c) (text_at e v'))) × Raises r (text_at e v') c len own) ((q ≡ r) × (len' ≡ length (text_at e v')) × (own ≡ c))) where
    did : up ≡ true → (q ≡ follow r c) × (len' ≡ length (shown (follow r c) (text_at e v'))) × Raises r (text_at e v') c len own
    did h = when_true _ _ h does

    slept : up ≡ false → (q ≡ r) × (len' ≡ length (text_at e v')) × (own ≡ c)
    slept h = when_false _ _ h does

    asleep_then : up ≡ false → awake e.most r (e.stack v') ≡ false
    asleep_then h = same_awake e.most r r (e.stack v) (e.stack v') (λ _. refl) low ∙ sym s.knows ∙ h

    pub carried_records : q ≡ cond (awake e.most r (e.stack v)) (follow r c) r
    carried_records =
        ⊎_elim
        (λ h. (did h).0 ∙ sym (cond-true (awake e.most r (e.stack v)) _ _ (sym s.knows ∙ h)))
        (λ h. (slept h).0 ∙ sym (cond-false (awake e.most r (e.stack v)) _ _ (sym s.knows ∙ h)))
        (cases_Bool up)

    len_then : up ≡ true → len ≡ length (shown r (text_at e v))
    len_then h = s.sized ∙ ap length (text_awake e.most r (e.stack v) (e.doc v) (sym s.knows ∙ h))

    own_awake : up ≡ true → own ≡ raised r (text_at e v) (text_at e v') c
    own_awake h = (did h).2 (text_at e v) (when_true _ _ h s.fits) kept (len_then h)

    pub carried_change : own ≡ cond (awake e.most r (e.stack v)) (raised r (text_at e v) (text_at e v') c) c
    carried_change =
        ⊎_elim
        (λ h. own_awake h ∙ sym (cond-true (awake e.most r (e.stack v)) _ _ (sym s.knows ∙ h)))
        (λ h. (slept h).2 ∙ sym (cond-false (awake e.most r (e.stack v)) _ _ (sym s.knows ∙ h)))
        (cases_Bool up)

    text_then_awake : up ≡ true → text_of e.most (q ∷ e.stack v') (e.doc v') ≡ shown (follow r c) (text_at e v')
    text_then_awake h =
        ap (λ (z : Records). text_of e.most (z ∷ e.stack v') (e.doc v')) (did h).0
        ∙ text_awake e.most (follow r c) (e.stack v') (e.doc v') (follow_awake h)

    text_then_asleep : up ≡ false → text_of e.most (q ∷ e.stack v') (e.doc v') ≡ text_at e v'
    text_then_asleep h =
        ap (λ (z : Records). text_of e.most (z ∷ e.stack v') (e.doc v')) (slept h).0
        ∙ text_asleep e.most r (e.stack v') (e.doc v') (asleep_then h)

    moved_kept : (t t' x x' : List ℕ) (a b : Change) → t ≡ x → t' ≡ x' → a ≡ b → Kept x x' b → Kept t t' a
    moved_kept t t' x x' a b p p' i k =
        let P : List ℕ → Type 0 = λ z. Kept z t' a in
        let Q : List ℕ → Type 0 = λ z. Kept x z a in
        let R : Change → Type 0 = λ z. Kept x x' z in
        subst P (sym p) (subst Q (sym p') (subst R (sym i) k))

    pub carried_kept : Kept (text_of e.most (r ∷ e.stack v) (e.doc v)) (text_of e.most (q ∷ e.stack v') (e.doc v')) own
    carried_kept =
        ⊎_elim
        (λ h. moved_kept _ _ _ _ _ _ (text_awake e.most r (e.stack v) (e.doc v) (sym s.knows ∙ h)) (text_then_awake h) (own_awake h)
        (follow_kept r (text_at e v) (text_at e v') c (when_true _ _ h s.fits) kept))
        (λ h. moved_kept _ _ _ _ _ _ (text_asleep e.most r (e.stack v) (e.doc v) (sym s.knows ∙ h)) (text_then_asleep h) (slept h).2 kept)
        (cases_Bool up)

    same_kind : (n : ℕ) → growth q n ≡ growth r n
    same_kind n =
        ⊎_elim
        (λ h. ap (λ (z : Records). growth z n) (did h).0 ∙ follow_growth r c n)
        (λ h. ap (λ (z : Records). growth z n) (slept h).0)
        (cases_Bool up)

    pub carried_sound : Sound e v' q len' top up
    carried_sound =
        let P : Records → Type 0 = λ z. Fit z (length (text_at e v')) in
        record {
          below = lawful'.sound;
          knows = s.knows ∙ sym (same_awake e.most r q (e.stack v) (e.stack v') same_kind low);
          sized =
              ⊎_elim
              (λ h. (did h).1 ∙ ap length (sym (text_then_awake h)))
              (λ h. (slept h).1 ∙ ap length (sym (text_then_asleep h)))
              (cases_Bool up);
          topped = s.topped ∙ sym (same_ceiling e.most r q (e.stack v) (e.stack v') same_kind low);
          fits = when_made up _ _ (λ h. subst P (sym (did h).0) (carry_fit h)) (λ _. tt);
        }

    -- the same where the stack below went as `lower` says
    same_records : (lower : Changed) → c ≡ lower.change → e.stack v' ≡ lower.stack
        → q ∷ e.stack v' ≡ (carried e.most r (e.stack v) (e.doc v) (e.doc v') lower).stack
    same_records lower p i =
        ap (λ (z : Records). z ∷ e.stack v') (carried_records ∙ ap (λ (z : Change). cond (awake e.most r (e.stack v)) (follow r z) r) p)
        ∙ ap (λ (z : List Records). cond (awake e.most r (e.stack v)) (follow r lower.change) r ∷ z) i

    same_change : (lower : Changed) → c ≡ lower.change → e.stack v' ≡ lower.stack
        → own ≡ (carried e.most r (e.stack v) (e.doc v) (e.doc v') lower).change
    same_change lower p i =
        carried_change
        ∙ ap (λ (z : Change). cond (awake e.most r (e.stack v)) (raised r (text_at e v) (text_at e v') z) z) p
        ∙ ap (λ (z : List Records). cond (awake e.most r (e.stack v)) (raised r (text_at e v) (text_of e.most z (e.doc v')) lower.change) lower.change) i

    -- of the layer as it was left, over the view b that is v'
    pub carried_whole : (lower : Changed) → c ≡ lower.change → e.stack v' ≡ lower.stack → (b : V) (top' : ℕ) (up' : Bool) → b ≡ v' → top' ≡ top → up' ≡ up → Carried e v r b q len' top' up' lower own
    carried_whole lower p i b top' up' x y z =
        let P : V → Type 0 = λ k. Carried e v r k q len' top' up' lower own in
        let Q : ℕ → Type 0 = λ k. Carried e v r v' q len' k up' lower own in
        let R : Bool → Type 0 = λ k. Carried e v r v' q len' top k lower own in
        let here : Carried e v r v' q len' top up lower own = record { sound = carried_sound; stack = same_records lower p i; change = same_change lower p i; kept = carried_kept } in
        subst P (sym x) (subst Q (sym y) (subst R (sym z) here))

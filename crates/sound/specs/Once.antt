-- That a layer is sound has one proof at most, where that of the view below has. Assumes nothing.
use Rattle.std.specs.Prelude.{◌≡◌, ℕ, ◌≤◌, Bool, List, [], ◌∷◌, length, MatchBool}
use Rattle.std.specs.Bool.{MatchBool-prop}
use Rattle.std.specs.List.{AllByRecursion, AllByRecursion-prop}
use Rattle.std.specs.Coded.{Coded-set, coded_ℕ, coded_list, Unit-prop, le_prop}
use Rattle.std.proofs.Math.Nat.{ℕ_set}
use Rattle.std.proofs.Math.Bool.{Bool-set}
use Rattle.std.proofs.Math.Logic.{∥∥₁_elim}
use Rattle.codes.specs.Codes.{placeholder}
use Rattle.places.specs.Marks.{Mark, past, Placed, Light, Solid}
use Rattle.view.specs.Layers.{Records, hints, folds, tabs, wrap, Fit}
use Rattle.view.specs.declared.view.Meaning.{Ghosts as Eyes}
use Rattle.view.specs.Seen.{text_at}
use Rattle.layer.specs.Sound.{Sound}

-- a fact with one proof at most is there where some proof is
pub kept : {P : Type 0} → IsProp P → ∥ P ∥₁ → P
kept once some = ∥∥₁_elim some once (λ p. p)

placed_once : (p : ℕ) (ms : List Mark) (n : ℕ) → IsProp (Placed p ms n)
placed_once p [] n = le_prop
placed_once p (m ∷ ms) n = Prim.hlevel (le_prop, placed_once (past m) ms n)

light_once : (ms : List Mark) → IsProp (Light ms)
light_once [] = Unit-prop
light_once (m ∷ ms) = Prim.hlevel (ℕ_set, light_once ms)

solid_once : (ms : List Mark) → IsProp (Solid ms)
solid_once [] = Unit-prop
solid_once (m ∷ ms) = Prim.hlevel (le_prop, solid_once ms)

few_once : (low : Mark → List ℕ) (n : ℕ) (ms : List Mark) → IsProp (AllByRecursion (λ m. length (low m) ≤ n) ms)
few_once low n ms = AllByRecursion-prop _ (λ m. le_prop) ms

fold_once : (ms : List Mark) → IsProp (AllByRecursion (λ m. m.shows ≡ placeholder ∷ []) ms)
fold_once ms = AllByRecursion-prop _ (λ m. Coded-set (coded_list coded_ℕ) _ _) ms

fit_once : (r : Records) (n : ℕ) → IsProp (Fit r n)
fit_once (hints ms) n = Prim.hlevel (le_prop, placed_once, light_once, few_once)
fit_once (folds ms) n = Prim.hlevel (le_prop, placed_once, solid_once, fold_once)
fit_once (tabs w) n = Prim.hlevel le_prop
fit_once (wrap w) n = Prim.hlevel le_prop

fits_once : (up : Bool) (r : Records) (n : ℕ) → IsProp (MatchBool up (Fit r n) (Unit {0}))
fits_once up r n = MatchBool-prop up (Fit r n) (Unit {0}) (fit_once r n) Unit-prop

pub sound_once : {V : Type 0} (e : Eyes V) (v : V) → IsProp (e.sound v) → (r : Records) (len top : ℕ) (up : Bool) → IsProp (Sound e v r len top up)
sound_once e v below r len top up = Prim.hlevel (below, ℕ_set, Bool-set, fits_once up r (length (text_at e v)))

-- What a layer keeps true beside its records. Assumes nothing.
use Rattle.std.specs.Prelude.{◌≡◌, ℕ, Bool, ◌∷◌, length, MatchBool}
use Rattle.view.specs.Layers.{Records, Fit}
use Rattle.view.specs.Stacks.{text_of, ceiling_of, awake}
use Rattle.view.specs.declared.view.Meaning.{Ghosts as Eyes}
use Rattle.view.specs.Seen.{text_at}

-- a layer with the records r over the view v, a sound one: its length and its ceiling are those of its text, it knows
-- whether it is awake, and its records fit if it is
pub record Sound {V : Type 0} (e : Eyes V) (v : V) (r : Records) (len top : ℕ) (up : Bool) : Type 0 where
  pub below : e.sound v
  pub knows : up ≡ awake e.most r (e.stack v)
  pub sized : len ≡ length (text_of e.most (r ∷ e.stack v) (e.doc v))
  pub topped : top ≡ ceiling_of e.most (r ∷ e.stack v)
  pub fits : MatchBool up (Fit r (length (text_at e v))) (Unit {0})

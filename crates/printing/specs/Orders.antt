-- Orders that a view obeyed, whatever its answers were. Assumes nothing.
use Rattle.std.specs.Prelude.{ℕ, List, [], ◌∷◌, codes, Result}
use Rattle.codes.specs.Texts.{ReadAs}
use Rattle.places.specs.declared.change.Change.{Change}
use Rattle.view.specs.declared.fault.ViewFault.{ViewFault}
use Rattle.view.specs.declared.order.Order.{Order}
use Rattle.view.specs.declared.view.Meaning.{Ghosts as Eyes}
use Rattle.view.specs.Views.{Obeys}
use Rattle.printing.specs.Words.{PlaceOf}

module _ {V : Type 0} (e : Eyes V) where
  -- some answer by which the order was obeyed, from v to v'
  abbrev pub Obeyed : V → V → ℕ → Order → List ℕ → Type 0
  Obeyed v v' k o w = (x : Result Change ViewFault) × Obeys e.most e.doc e.spare_of e.stack v v' k o w x

  -- an order to add a hint at p, one to fold from q to r, and the latter once more
  abbrev pub Folded : V → V → ℕ → ℕ → List ℕ → ℕ → ℕ → ℕ → Type 0
  Folded v v' hints folds w p q r =
      (a : V) × (b : V) × Obeyed v a hints (record { verb = 105; x = p; y = 0 }) w
      × Obeyed a b folds (record { verb = 102; x = q; y = r }) []
      × Obeyed b v' folds (record { verb = 102; x = q; y = r }) []

  -- these orders at the words of the part program d: the hint at the depth, the fold over the tool change
  abbrev pub Arranged : V → V → List ℕ → ℕ → ℕ → Type 0
  Arranged v v' d hints folds =
      (w : List ℕ) × (p : ℕ) × (q : ℕ) × (r : ℕ) × ReadAs (codes " (depth)") w
      × PlaceOf d (codes " R2.") p × PlaceOf d (codes "N20") q × PlaceOf d (10 ∷ codes "N40") r
      × Folded v v' hints folds w p q r

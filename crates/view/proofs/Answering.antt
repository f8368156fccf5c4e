-- Answers to questions, from one text or map to another. Assumes nothing.
use Rattle.std.proofs.Common.{◌≡◌, ℕ, ◌≤◌, List, Ok, Err, Result, sym, ap, ◌∙◌, subst, arith}
use Rattle.view.specs.declared.fault.ViewFault.{ViewFault}
use Rattle.view.specs.Views.{CodeAt, PlaceAt}

pub place_same : (f g : ℕ → ℕ) (n p : ℕ) (x : Result ℕ ViewFault) → ((q : ℕ) → q ≤ n → f q ≡ g q) → PlaceAt f n p x → PlaceAt g n p x
place_same f g n p (Ok q) e h = (h.0, h.1 ∙ e p h.0)
place_same f g n p (Err fault) e h = h

pub code_same : (s t : List ℕ) (u : ℕ) (x : Result ℕ ViewFault) → s ≡ t → CodeAt s u x → CodeAt t u x
code_same s t u x e h = let P : List ℕ → Type 0 = λ z. CodeAt z u x in subst P e h

-- an answer below at the place that a rising map gives is one above
pub place_through : (U V W : ℕ → ℕ) (t n l u : ℕ) (x : Result ℕ ViewFault) → u ≤ t → U u ≤ n → l ≡ U u → W u ≡ V (U u) → PlaceAt V n l x → PlaceAt W t u x
place_through U V W t n l u (Ok q) h i e f k = (h, k.1 ∙ ap V e ∙ sym f)
place_through U V W t n l u (Err fault) h i e f k = absurd (omega (arith, k.0))

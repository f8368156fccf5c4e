-- What a view's answers say. Assumes nothing.
use Rattle.std.specs.Prelude.{◌≡◌, ℕ, ◌<◌, ◌≤◌, List, length, Some, None, Result, MatchResult, slice_index}
use Rattle.buffer.specs.Documents.{edited}
use Rattle.buffer.specs.Refusals.{told}
use Rattle.places.specs.declared.change.Change.{Change}
use Rattle.places.specs.Changes.{Kept}
use Rattle.view.specs.declared.fault.ViewFault.{ViewFault}
use Rattle.view.specs.declared.order.Order.{Order}
use Rattle.view.specs.Refusals.{view_refusal}
use Rattle.view.specs.Layers.{Records}
use Rattle.view.specs.Stacks.{Changed, text_of, after_edit, after_order, edit_refusal_of, order_refusal_of}

-- the answer to a question for the code behind the place u of the text t
abbrev pub CodeAt : List ℕ → ℕ → Result ℕ ViewFault → Type 0
CodeAt t u x = MatchResult x (λ c. (u < length t) × (c ≡ slice_index t u)) (λ f. (length t ≤ u) × (view_refusal f ≡ told 1 u))

-- the answer to a question for where the map goes from the place p, of which n is the last
abbrev pub PlaceAt : (ℕ → ℕ) → ℕ → ℕ → Result ℕ ViewFault → Type 0
PlaceAt map n p x = MatchResult x (λ q. (p ≤ n) × (q ≡ map p)) (λ f. (n < p) × (view_refusal f ≡ told 1 p))

module _ {S : Type 0} (most : ℕ) (doc : S → List ℕ) (spare : S → ℕ) (stack : S → List Records) (v v' : S) where
  abbrev pub text : S → List ℕ
  text s = text_of most (stack s) (doc s)

  -- the stack went as it should, and the codes that the change keeps are where it says
  abbrev pub Goes : Changed → Change → Type 0
  Goes next c = (stack v' ≡ next.stack) × (c ≡ next.change) × Kept (text v) (text v') c

  -- the answer to an edit: carried out, document, spare and records go by the rules; refused, nothing changes
  abbrev pub Edits : (ℕ → ℕ → ℕ → ℕ → ℕ) → ℕ → ℕ → List ℕ → Result Change ViewFault → Type 0
  Edits spare_after a r w x =
      MatchResult x
      (λ c. (edit_refusal_of (stack v) (doc v) (spare v) a r w ≡ None)
      × (doc v' ≡ edited (doc v) a r w)
      × (spare v' ≡ spare_after (length (doc v)) (spare v) r (length w))
      × Goes (after_edit most (stack v) (doc v) (doc v') (record { start = a; old = r; new = length w })) c)
      (λ f. (edit_refusal_of (stack v) (doc v) (spare v) a r w ≡ Some (view_refusal f)) × (v' ≡ v))

  -- the answer to an order, which alters no document
  abbrev pub Obeys : ℕ → Order → List ℕ → Result Change ViewFault → Type 0
  Obeys k o w x =
      MatchResult x
      (λ c. (order_refusal_of most (stack v) (doc v) k o w ≡ None)
      × (doc v' ≡ doc v)
      × (spare v' ≡ spare v)
      × Goes (after_order most (stack v) (doc v) k o w) c)
      (λ f. (order_refusal_of most (stack v) (doc v) k o w ≡ Some (view_refusal f)) × (v' ≡ v))

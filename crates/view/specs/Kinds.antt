-- What a kind of layer is asked, over the view below it. Assumes nothing.
use Rattle.std.specs.Prelude.{◌≡◌, ℕ, ◌+◌, ◌-◌, ◌≤◌, List, length, Some, None, Result, MatchResult}
use Rattle.places.specs.declared.change.Change.{Change}
use Rattle.places.specs.Changes.{Kept}
use Rattle.view.specs.declared.fault.Cause.{Cause}
use Rattle.view.specs.declared.order.Order.{Order}
use Rattle.view.specs.Refusals.{cause_refusal}
use Rattle.view.specs.Layers.{Records, hints, folds, tabs, wrap, shown, growth, Fit, raised}
use Rattle.view.specs.Orders.{own_refusal, obeyed, obeyed_change}
use Rattle.view.specs.Seen.{Eyes, text_at}

-- a text of n codes can be rewritten afresh with any width and still be counted; marks ask nothing of it
abbrev pub Countable : Records → ℕ → Type 0
Countable (hints _) n = Unit {0}
Countable (folds _) n = Unit {0}
Countable (tabs w) n = growth (tabs w) n ≤ 1073741824
Countable (wrap w) n = growth (wrap w) n ≤ 1073741824

-- records that fit over a sound view, where neither text is too long to count
pub record Over {V : Type 0} (e : Eyes V) (v : V) (r : Records) : Type 0 where
  pub sound : e.sound v
  pub fit : Fit r (length (text_at e v))
  pub low : length (text_at e v) ≤ 1073741824
  pub high : length (shown r (text_at e v)) ≤ 1073741824
  pub room : Countable r (length (text_at e v))

-- records that fitted before the change c of the text below, which is now that of the sound view v
pub record Behind {V : Type 0} (e : Eyes V) (v : V) (r : Records) (c : Change) : Type 0 where
  pub sound : e.sound v
  pub new_fits : c.start + c.new ≤ length (text_at e v)
  pub old_fits : c.start + c.old ≤ length (text_at e v) + c.old - c.new
  pub fit : Fit r (length (text_at e v) + c.old - c.new)
  pub low : length (text_at e v) ≤ 1073741824
  pub was : length (text_at e v) + c.old - c.new ≤ 1073741824
  pub room : Countable r (length (text_at e v))

-- own is the change of the layer's text, which had t codes, when the text below became ys by c
abbrev pub Raises : Records → List ℕ → Change → ℕ → Change → Type 0
Raises r ys c t own = (xs : List ℕ) → Fit r (length xs) → Kept xs ys c → t ≡ length (shown r xs) → own ≡ raised r xs ys c

-- the answer of a layer with the records r, now r', to an order in a document of n codes whose places lie at a and b
abbrev pub Carries : {K : Type 0} → Records → Records → K → K → List ℕ → ℕ → ℕ → ℕ → Order → List ℕ → Result Change Cause → Type 0
Carries r r' k k' xs n a b o w x =
    MatchResult x
    (λ c. (own_refusal r n a b o w ≡ None) × (r' ≡ obeyed r a b o w) × (c ≡ obeyed_change r xs a b o w))
    (λ f. (own_refusal r n a b o w ≡ Some (cause_refusal f)) × (k' ≡ k))

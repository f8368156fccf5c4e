-- What a kind with a table of records answers to an order, once its places are known. Assumes nothing.
use Rattle.std.specs.Prelude.{◌≡◌, ℕ, ◌≤◌, Bool, not, ◌||◌, List, [], ◌∷◌, length, Some, None, Result, MatchResult, nat_le, nat_lt}
use Rattle.std.specs.List.{prefix_len}
use Rattle.codes.specs.Codes.{within}
use Rattle.buffer.specs.declared.fault.Refusal.{Refusal}
use Rattle.buffer.specs.Refusals.{told}
use Rattle.places.specs.declared.change.Change.{Change}
use Rattle.places.specs.Marks.{Mark, put}
use Rattle.view.specs.declared.fault.Cause.{Cause}
use Rattle.view.specs.Refusals.{cause_refusal, first_cause}
use Rattle.view.specs.Layers.{Records, marks_in, most_records, longest_hint}
use Rattle.view.specs.Orders.{is_hint_code, overlaps, some, first_mark, without, full, new_mark, add_change}
use Rattle.tables.specs.Placing.{first_over, Counted}

-- the causes that are left once the places x and y are known to lie in the document, at a and b of the text below
abbrev pub hint_causes : List Mark → List ℕ → List (Bool × Refusal)
hint_causes ms w =
    (not (within 1 longest_hint (length w)), told 8 (length w))
    ∷ (nat_lt (prefix_len is_hint_code w) (length w), told 3 (prefix_len is_hint_code w))
    ∷ (full ms, told 9 most_records)
    ∷ []

abbrev pub fold_causes : List Mark → ℕ → ℕ → ℕ → List (Bool × Refusal)
fold_causes ms a b x =
    (nat_le b a || some (overlaps a b) ms, told 10 x)
    ∷ (full ms, told 9 most_records)
    ∷ []

abbrev pub gone_causes : (Mark → Bool) → List Mark → ℕ → List (Bool × Refusal)
gone_causes p ms x = (not (some p ms), told 11 x) ∷ []

-- the answer of a kind k, now k', whose marks were ms and now are ms', to an order for the place l of the text below:
-- refused for one of these causes, or else with the marks `next` and this change of the text over any text
abbrev pub Meets : {K : Type 0} → List (Bool × Refusal) → List Mark → List Mark → List Mark → K → K → ℕ → (List ℕ → Change) → Result Change Cause → Type 0
Meets causes ms ms' next k k' l change x =
    MatchResult x
    (λ c. (first_cause causes ≡ None) × (ms' ≡ next) × ((xs : List ℕ) → l ≤ length xs → Counted ms xs → c ≡ change xs))
    (λ f. (first_cause causes ≡ Some (cause_refusal f)) × (k' ≡ k))

-- an order with one of these causes that adds a record, at a, to the records r
abbrev pub Adds : {K : Type 0} → Records → List (Bool × Refusal) → List Mark → K → K → ℕ → ℕ → List ℕ → Result Change Cause → Type 0
Adds r causes ms' k k' a b w x = Meets causes (marks_in r) ms' (put (new_mark r a b w) (marks_in r)) k k' a (λ xs. add_change r xs (new_mark r a b w)) x

-- an order for the document place x that removes the first mark that passes
abbrev pub gone_change : List Mark → Mark → List ℕ → Change
gone_change ms m xs = record { start = first_over ms xs m.at; old = length m.shows; new = m.takes }

abbrev pub Removes : {K : Type 0} → (Mark → Bool) → List Mark → List Mark → K → K → ℕ → Result Change Cause → Type 0
Removes p ms ms' k k' x c = Meets (gone_causes p ms x) ms ms' (without p ms) k k' 0 (gone_change ms (first_mark p ms)) c

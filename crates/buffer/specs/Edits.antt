-- What a buffer's answers say. Assumes nothing.
use Rattle.std.specs.Prelude.{◌≡◌, ℕ, ◌<◌, ◌≤◌, List, length, Some, None, Result, MatchResult, slice_index}
use Rattle.buffer.specs.declared.fault.BufferFault.{BufferFault}
use Rattle.buffer.specs.Documents.{edited}
use Rattle.buffer.specs.Refusals.{refusal_of, told, edit_refusal}

-- the answer to a question for the code at i of the document d
abbrev pub CodeAt : List ℕ → ℕ → Result ℕ BufferFault → Type 0
CodeAt d i x = MatchResult x (λ c. (i < length d) × (c ≡ slice_index d i)) (λ f. (length d ≤ i) × (refusal_of f ≡ told 1 i))

-- the answer to an edit that takes the buffer b to b': carried out, document and spare go by the rules; refused, nothing changes
abbrev pub Edits : {S : Type 0} → (S → List ℕ) → (S → ℕ) → (ℕ → ℕ → ℕ → ℕ → ℕ) → S → S → ℕ → ℕ → List ℕ → Result (Unit {0}) BufferFault → Type 0
Edits doc spare spare_after b b' a r w x =
    MatchResult x
    (λ _. (edit_refusal (length (doc b)) (spare b) a r w ≡ None) × (doc b' ≡ edited (doc b) a r w) × (spare b' ≡ spare_after (length (doc b)) (spare b) r (length w)))
    (λ f. (edit_refusal (length (doc b)) (spare b) a r w ≡ Some (refusal_of f)) × (b' ≡ b))

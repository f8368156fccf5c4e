-- The document of a gap buffer, and what opening one gives. Assumes nothing.
use Rattle.std.specs.Prelude.{◌≡◌, ℕ, List, [], take, Some, None, Result, MatchOption, MatchResult}
use Rattle.std.specs.Option.{option_map}
use Rattle.std.specs.Borrow.{MutBor}
use Rattle.buffer.specs.declared.fault.BufferFault.{BufferFault}
use Rattle.buffer.specs.declared.gap_buffer.GapBuffer.{GapBuffer}
use Rattle.buffer.specs.declared.gap_buffer.Opened.{Opened}
use Rattle.buffer.specs.Refusals.{refusal_of, open_refusal}
use Rattle.buffer.specs.Gaps.{held, free}

abbrev pub document_of : GapBuffer → List ℕ
document_of b = held 1048576 b.cells.now b.gap

abbrev pub spare_in : GapBuffer → ℕ
spare_in b = free 1048576 b.cells.now b.gap

-- opening the first n of these cells: over these very cells as they are, or refused by the rule; in any case a buffer, over
-- no cells where it was refused
abbrev pub Opens : MutBor (List ℕ) → ℕ → Opened → Type 0
Opens cells n o =
    (option_map refusal_of o.refused ≡ open_refusal 1048576 cells.now n)
    × MatchOption o.refused
    ((document_of o.buffer ≡ take n cells.now) × (o.buffer.cells.now ≡ cells.now) × (o.buffer.cells.ghost_name ≡ cells.ghost_name))
    (λ _. o.buffer.cells.now ≡ [])

-- the same with a buffer only where it was not refused
abbrev pub TriesToOpen : MutBor (List ℕ) → ℕ → Result GapBuffer BufferFault → Type 0
TriesToOpen cells n x =
    MatchResult x
    (λ b. (open_refusal 1048576 cells.now n ≡ None) × (document_of b ≡ take n cells.now) × (b.cells.now ≡ cells.now) × (b.cells.ghost_name ≡ cells.ghost_name))
    (λ f. open_refusal 1048576 cells.now n ≡ Some (refusal_of f))

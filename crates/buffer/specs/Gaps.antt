-- A document in cells with a gap in it. Assumes nothing.
use Rattle.std.specs.Prelude.{◌≡◌, ℕ, ◌+◌, ◌-◌, ◌≤◌, min, List, ◌++◌, length, take, drop, Some, None, Result, MatchResult}
use Rattle.std.proofs.Common.{arith, length-append, length-take, length-drop}
use Rattle.buffer.specs.declared.fault.BufferFault.{BufferFault}
use Rattle.buffer.specs.declared.gap.Gap.{Gap}
use Rattle.buffer.specs.Documents.{edited}
use Rattle.buffer.specs.Refusals.{refusal_of, edit_refusal}

-- the first f cells, then the last b
abbrev pub ends : List ℕ → ℕ → ℕ → List ℕ
ends cells f b = take f cells ++ drop (length cells - b) cells

-- how many of the cells a document may fill, where it may fill at most `most`
abbrev pub usable : ℕ → List ℕ → ℕ
usable most cells = min (length cells) most

-- how many cells in front of the gap hold codes, and how many behind it: of the two numbers kept only what fits counts,
-- so that every pair of numbers stands for a document
abbrev pub front_of : (most : ℕ) → List ℕ → Gap most → ℕ
front_of most cells gap = min gap.front (usable most cells)

abbrev pub back_of : (most : ℕ) → List ℕ → Gap most → ℕ
back_of most cells gap = min gap.back (usable most cells - front_of most cells gap)

-- the document, and how many codes more the cells take
abbrev pub held : (most : ℕ) → List ℕ → Gap most → List ℕ
held most cells gap = ends cells (front_of most cells gap) (back_of most cells gap)

abbrev pub free : (most : ℕ) → List ℕ → Gap most → ℕ
free most cells gap = usable most cells - front_of most cells gap - back_of most cells gap

-- they fill no more of the cells than they may
pub held_fits : (most : ℕ) (cells : List ℕ) (gap : Gap most) → length (held most cells gap) + free most cells gap ≤ most
held_fits most cells gap = simp (length-append, length-take, length-drop) (omega arith)

-- how spare moves where cells hold the document: each code put in takes a cell, each taken out gives one back
abbrev pub cells_left : ℕ → ℕ → ℕ → ℕ → ℕ
cells_left n spare r k = spare + r - k

-- what the cells hold once w stands in the place of the r codes at a of the document d: all up to the end of w in
-- front of the gap, all past the r codes at the end of the cells
abbrev pub Lies : List ℕ → List ℕ → ℕ → ℕ → List ℕ → Type 0
Lies cells d a r w = (take (a + length w) cells ≡ take a d ++ w) × (drop (length cells - (length d - a - r)) cells ≡ drop (a + r) d)

-- the answer to an edit in cells, the gap after it: carried out, document and spare go by the rules and the cells hold
-- what they should; refused, no cell changes
abbrev pub EditsCells : (most : ℕ) → List ℕ → List ℕ → Gap most → ℕ → ℕ → List ℕ → Result (Gap most) BufferFault → Type 0
EditsCells most cells cells' gap a r w x =
    MatchResult x
    (λ gap'. (edit_refusal (length (held most cells gap)) (free most cells gap) a r w ≡ None)
    × (held most cells' gap' ≡ edited (held most cells gap) a r w)
    × (free most cells' gap' ≡ cells_left (length (held most cells gap)) (free most cells gap) r (length w))
    × Lies cells' (held most cells gap) a r w)
    (λ f. (edit_refusal (length (held most cells gap)) (free most cells gap) a r w ≡ Some (refusal_of f)) × (cells' ≡ cells))

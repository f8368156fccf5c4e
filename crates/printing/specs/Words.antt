-- Where a document has a word that is written in bytes. Assumes nothing.
use Rattle.std.specs.Prelude.{ℕ, List, Some}
use Rattle.codes.specs.Texts.{ReadAs}
use Rattle.document.specs.Words.{FirstAt}

-- p is the first place of the document d at which the word stands whose bytes are bs
abbrev pub PlaceOf : List ℕ → List ℕ → ℕ → Type 0
PlaceOf d bs p = (w : List ℕ) × ReadAs bs w × FirstAt d w 0 (Some p)

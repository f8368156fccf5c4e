-- Which numbers are codes of a document, and which codes end a row. Assumes nothing.
use Rattle.std.specs.Prelude.{ℕ, Bool, ◌&&◌, ◌||◌, ◌==◌, nat_le}

abbrev pub newline : ℕ
newline = 10

-- what a fold shows in the place of the codes it hides
abbrev pub placeholder : ℕ
placeholder = 8943

-- the row end that only soft wrap makes, one past the last code of Unicode
abbrev pub soft_break : ℕ
soft_break = 1114112

abbrev pub within : ℕ → ℕ → ℕ → Bool
within low high c = nat_le low c && nat_le c high

-- the codes that a document may hold: tab and newline, and of Unicode all but the controls and the surrogates
abbrev pub is_document_code : ℕ → Bool
is_document_code c = within 9 10 c || (within 32 126 c || (within 160 55295 c || within 57344 1114111 c))

abbrev pub is_soft_break : ℕ → Bool
is_soft_break c = c == soft_break

abbrev pub is_placeholder : ℕ → Bool
is_placeholder c = c == placeholder

abbrev pub is_row_end : ℕ → Bool
is_row_end c = c == newline || c == soft_break

-- The lines of a document: its stretches between newlines. Assumes nothing.
use Rattle.std.specs.Prelude.{ℕ, ◌+◌, ◌-◌, Bool, not, List, take, drop, count_by, ◌==◌}
use Rattle.std.specs.List.{prefix_len, suffix_len}
use Rattle.codes.specs.Codes.{newline}
use Rattle.document.specs.declared.lines.Line.{Line}

abbrev pub is_newline : ℕ → Bool
is_newline c = c == newline

-- codes that stand inside a line
abbrev pub is_inner : ℕ → Bool
is_inner c = not (is_newline c)

-- the line that holds the place p of the document d: its number, counted from 1
abbrev pub line_number : List ℕ → ℕ → ℕ
line_number d p = count_by is_newline (take p d) + 1

-- its start, behind the last newline before p
abbrev pub line_start : List ℕ → ℕ → ℕ
line_start d p = p - suffix_len is_inner (take p d)

-- its end, in front of the first newline from p on
abbrev pub line_end : List ℕ → ℕ → ℕ
line_end d p = p + prefix_len is_inner (drop p d)

abbrev pub line_of : List ℕ → ℕ → Line
line_of d p = record { number = line_number d p; start = line_start d p; end = line_end d p }

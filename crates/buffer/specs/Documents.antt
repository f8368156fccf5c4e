-- A document is a list of codes; what an edit makes of it. Assumes nothing.
use Rattle.std.specs.Prelude.{ℕ, ◌+◌, List, ◌++◌, take, drop}

-- the document with w in the place of the r codes at a
abbrev pub edited : List ℕ → ℕ → ℕ → List ℕ → List ℕ
edited d a r w = take a d ++ (w ++ drop (a + r) d)

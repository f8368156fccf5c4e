-- What an inlay hint means. Assumes nothing.
use Rattle.std.specs.Prelude.{ℕ, Bool, ◌&&◌, List, length, take, nat_le}
use Rattle.places.specs.Marks.{Mark}
use Rattle.tables.specs.declared.hint.Hint.{Hint}

-- it takes nothing, and shows its codes: the first ones of its cells, all 16 where its length is more
abbrev pub hint_mark : Hint → Mark
hint_mark h = record { at = h.at; takes = 0; shows = take h.len h.codes }

-- the codes that a hint can show
abbrev pub hintable : List ℕ → Bool
hintable w = nat_le 1 (length w) && nat_le (length w) 16

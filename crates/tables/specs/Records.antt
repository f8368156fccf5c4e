-- How one record follows a change below, and what a table of records means. Assumes nothing.
use Rattle.std.specs.Prelude.{◌+◌, ◌^◌, ◌<◌, Bool, cond, ◌||◌, nat_le}
use Rattle.places.specs.declared.change.Change.{Change}
use Rattle.places.specs.Marks.{Mark, past, moved}

-- a mark stays where it ends at or before the change, moves where it begins behind it, and is dropped else
abbrev pub stays : Change → Mark → Bool
stays c m = nat_le (past m) c.start

abbrev pub moves : Change → Mark → Bool
moves c m = nat_le (c.start + c.old) m.at

abbrev pub lives : Change → Mark → Bool
lives c m = stays c m || moves c m

abbrev pub sent : Change → Mark → Mark
sent c m = cond (stays c m) m (cond (moves c m) (moved c.old c.new m) m)

-- no number of the change or of the moved mark passes 32 bits
abbrev pub Room : Change → Mark → Type 0
Room c m = (c.start + c.old < 2 ^ 32) × (past m + c.new < 2 ^ 32)

-- What a table of records holds. Assumes nothing.
use Rattle.std.specs.Prelude.{List, map, take}
use Rattle.places.specs.Marks.{Mark}
use Rattle.tables.specs.declared.table.Table.{Table}

abbrev pub records_of : {R : Type 0} → Table R → List R
records_of t = take t.count t.items

abbrev pub marks_of : {R : Type 0} → (R → Mark) → Table R → List Mark
marks_of mark t = map mark (records_of t)

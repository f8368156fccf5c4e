-- What a fold means. Assumes nothing.
use Rattle.std.specs.Prelude.{◌-◌, [], ◌∷◌}
use Rattle.codes.specs.Codes.{placeholder}
use Rattle.places.specs.Marks.{Mark}
use Rattle.tables.specs.declared.fold.Fold.{Fold}

-- it takes the codes from its start to its end, none where the end comes first, and shows a placeholder for them
abbrev pub fold_mark : Fold → Mark
fold_mark f = record { at = f.start; takes = f.end - f.start; shows = placeholder ∷ [] }

use Rattle.std.proofs.Common.{arith}
use Rattle.std.proofs.lemmas.Bool.Decides.{nat_tests}
use Rattle.tables.proofs.Marking.{hint_shows}
use Rattle.tables.proofs.hint.Hint.new.Goals as goal

pub returns : goal.returns
returns c =
    let some = c.if-is_empty.ensures in
    (grind (arith, nat_tests), hint_shows c.args.at c.args.w.now c.copy_from_slice.new.self _ c.copy_from_slice.ensures.after)

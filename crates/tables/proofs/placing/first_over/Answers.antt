use Rattle.std.proofs.Common.{◌≡◌, ℕ, ◌≤◌, List, Bool, map, length, ltb, subst}
use Rattle.places.specs.Marks.{Mark}
use Rattle.tables.specs.Placing.{first_over, Counted}
use Rattle.tables.specs.Tables.{records_of}
use Rattle.tables.proofs.Overs.{first_by, found_in, end_in, shown_first, taken_first}
use Rattle.tables.proofs.placing.first_over.Goals as goal

pub returns : goal.returns
returns g c =
    let mark = g.R.Record.mark in
    let rs = c.records-records.result.now in
    let same = c.records-records.ensures.value in
    let n = c.min-n.result in
    let p : Mark → Bool = λ m. ltb m.at c.args.l in
    let P : List g.row.R.Denot → Type 0 = λ z. (xs : List ℕ) → c.args.l ≤ length xs → Counted (map mark z) xs → c.balance.result ≡ first_over (map mark z) xs c.args.l in
    subst P same (λ xs e h.
    first_by (map mark rs) xs h c.args.l e n c.end_of-past.result c.max.result c.new-passed.result.shown c.new-passed.result.taken c.balance.result
    (found_in mark p rs (records_of c.args.table.now) c.begun.result n same c.begun.ensures c.min-n.ensures)
    (end_in mark rs n c.end_of-past.result c.end_of-past.ensures) c.max.ensures (shown_first mark rs n c.new-passed.result.shown c.new-passed.ensures.shown) (taken_first mark rs n c.new-passed.result.taken c.new-passed.ensures.taken) c.balance.ensures)

use Rattle.std.proofs.Common.{◌≡◌, ℕ, ◌≤◌, List, Bool, map, length, leb, subst, arith}
use Rattle.places.specs.Marks.{Mark}
use Rattle.tables.specs.Placing.{last_over, Counted}
use Rattle.tables.specs.Tables.{records_of}
use Rattle.tables.proofs.Overs.{last_by, last_by_inside, found_in, end_in, shown_first, taken_first}
use Rattle.tables.proofs.placing.last_over.Goals as goal

pub returns-then-l-past : goal.returns-then-l-past
returns-then-l-past g c =
    let mark = g.R.Record.mark in
    let rs = c.records-records.result.now in
    let same = c.records-records.ensures.value in
    let n = c.min-n.result in
    let p : Mark → Bool = λ m. leb m.at c.args.l in
    let P : List g.row.R.Denot → Type 0 = λ z. (xs : List ℕ) → c.args.l ≤ length xs → Counted (map mark z) xs → c.balance.result ≡ last_over (map mark z) xs c.args.l in
    subst P same (λ xs e h.
    last_by_inside (map mark rs) xs h c.args.l e n c.end_of-past.result c.new-passed.result.shown c.new-passed.result.taken
    (found_in mark p rs (records_of c.args.table.now) c.reached.result n same c.reached.ensures c.min-n.ensures)
    (end_in mark rs n c.end_of-past.result c.end_of-past.ensures) (shown_first mark rs n c.new-passed.result.shown c.new-passed.ensures.shown) (taken_first mark rs n c.new-passed.result.taken c.new-passed.ensures.taken)
    c.saturating_add.result c.balance.result c.if-l-past.true (λ few. omega arith) c.balance.ensures)

pub returns-else-l-past : goal.returns-else-l-past
returns-else-l-past g c =
    let mark = g.R.Record.mark in
    let rs = c.records-records.result.now in
    let same = c.records-records.ensures.value in
    let n = c.min-n.result in
    let p : Mark → Bool = λ m. leb m.at c.args.l in
    let P : List g.row.R.Denot → Type 0 = λ z. (xs : List ℕ) → c.args.l ≤ length xs → Counted (map mark z) xs → c.balance-else-l-past.result ≡ last_over (map mark z) xs c.args.l in
    subst P same (λ xs e h.
    last_by (map mark rs) xs h c.args.l e n c.end_of-past.result c.new-passed.result.shown c.new-passed.result.taken
    (found_in mark p rs (records_of c.args.table.now) c.reached.result n same c.reached.ensures c.min-n.ensures)
    (end_in mark rs n c.end_of-past.result c.end_of-past.ensures) (shown_first mark rs n c.new-passed.result.shown c.new-passed.ensures.shown) (taken_first mark rs n c.new-passed.result.taken c.new-passed.ensures.taken)
    c.balance-else-l-past.result c.if-l-past.false c.balance-else-l-past.ensures)

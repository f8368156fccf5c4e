use Rattle.std.proofs.Common.{◌≡◌, length, arith, rules}
use Rattle.tables.proofs.Shifting.{inserted}
use Rattle.tables.proofs.table.Table.insert.Goals as goal

pub returns-clause-ok : goal.returns-clause-ok
returns-clause-ok g c =
    let cells : length c.args.self.now.items ≡ 64 = search rules in
    let moved = c.copy_within.ensures.by_index in
    inserted c.args.self.now.items c.copy_within.new.self c.copy_within.ensures.len c.args.self.now.count c.len-count.result c.args.k c.args.record c.len-count.ensures.value moved.0 moved.1 (omega arith) (omega arith)

use Rattle.std.proofs.Common.{◌≤◌, ◌<◌, length, arith, length-take, rules}
use Rattle.tables.proofs.Shifting.{removed}
use Rattle.tables.proofs.table.Table.remove.Goals as goal

pub returns-clause-records : goal.returns-clause-records
returns-clause-records g c =
    let cells : c.len-count.result ≤ length c.args.self.now.items = omega (arith, length-take c.args.self.now.count c.args.self.now.items, c.len-count.ensures.value) in
    let moved = c.copy_within.ensures.by_index in
    let there : c.args.k < c.len-count.result = search rules in
    removed c.args.self.now.items c.copy_within.new.self c.copy_within.ensures.len c.args.self.now.count c.len-count.result c.args.k c.len-count.ensures.value moved.0 moved.1 there cells

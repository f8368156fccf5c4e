use Rattle.std.proofs.Common.{◌≡◌, length, arith, length-take, rules}
use Rattle.tables.proofs.Tables.{records_cut}
use Rattle.tables.proofs.table.Table.records.Goals as goal

pub returns : goal.returns
returns g c = record {
  value = records_cut c.args.self.now.items c.args.self.now.count c.min.result (omega (arith, length-take c.args.self.now.count c.args.self.now.items));
  few = let cells : length c.args.self.now.items ≡ 64 = search rules in omega (arith, length-take c.min.result c.args.self.now.items);
}

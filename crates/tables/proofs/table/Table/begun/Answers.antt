use Rattle.std.proofs.Common.{ltb, rules, tests}
use Rattle.tables.specs.Tables.{records_of}
use Rattle.tables.proofs.Tables.{count_marks}
use Rattle.tables.proofs.table.Table.begun.Goals as goal

pub returns : goal.returns
returns g c =
    count_marks g.R.Record.mark (λ m. ltb m.at c.args.place) (records_of c.args.self.now) _ c.take_while.result c.count.result
    (cc) c.take_while.ensures.closure c.take_while.ensures.done (λ x b f' k. search (rules, tests)) c.count.ensures.ran

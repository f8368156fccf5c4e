use Rattle.std.proofs.Common.{rules, tests}
use Rattle.tables.proofs.Overs.{end_of_last}
use Rattle.tables.proofs.placing.end_of.Goals as goal

pub returns : goal.returns
returns g c = end_of_last g.R.Record.mark c.args.records.now c.last.result c.map_or.result c.last.ensures.value (search (rules, tests))

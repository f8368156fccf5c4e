use Rattle.tables.proofs.Sweeping.{Swept}
use Rattle.tables.proofs.table.Table.follow.Given as goal

abbrev pub invariant-loop-i : goal.invariant-loop-i
invariant-loop-i g l = Swept g.R.Record.mark l.change l.initial.self.items l.self.items l.count l.kept l.i

use Rattle.std.proofs.Common.{map, drop}
use Rattle.layers.proofs.Dropping.{Reached}
use Rattle.layers.proofs.folds.reach.Given as goal

abbrev pub invariant-loop-record : goal.invariant-loop-record
invariant-loop-record g l = Reached l.change.start l.change.old (map g.R.Record.mark l.records) (map g.R.Record.mark (drop l.record-index l.records)) l.low l.high

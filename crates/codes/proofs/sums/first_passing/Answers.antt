use Rattle.std.proofs.Common.{sym, arith}
use Rattle.codes.proofs.Running.{passing_here, passing_none}
use Rattle.codes.proofs.sums.first_passing.Goals as goal

pub returns-then-measure-left-clause-index : goal.returns-then-measure-left-clause-index
returns-then-measure-left-clause-index g c =
    let at = c.index-records-index in
    sym (passing_here g.R.Measured.size c.args.records.now c.args.limit c.loop-index.index at.result (omega arith) at.is (omega arith) (omega arith))

pub returns-clause-index : goal.returns-clause-index
returns-clause-index g c = grind (arith, passing_none)

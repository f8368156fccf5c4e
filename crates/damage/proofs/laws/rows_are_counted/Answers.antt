use Rattle.damage.proofs.Counting.{rows_counted}
use Rattle.damage.proofs.laws.rows_are_counted.Goals as goal

pub returns : goal.returns
returns c = rows_counted

use Rattle.std.proofs.Common.{refl}
use Rattle.damage.proofs.laws.example_holds.Goals as goal

pub returns : goal.returns
returns c = refl

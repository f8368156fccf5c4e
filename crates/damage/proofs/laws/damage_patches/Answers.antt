use Rattle.damage.proofs.Damaging.{damage_patches}
use Rattle.damage.proofs.laws.damage_patches.Goals as goal

pub returns : goal.returns
returns c = damage_patches

use Rattle.damage.proofs.Damaging.{damages_compose, damages_stay_below}
use Rattle.damage.proofs.laws.damages_compose.Goals as goal

pub returns : goal.returns
returns c = record { patch = damages_compose; below = damages_stay_below }

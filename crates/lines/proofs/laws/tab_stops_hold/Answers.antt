use Rattle.lines.proofs.Stopping.{tabs_end_at_stops}
use Rattle.lines.proofs.laws.tab_stops_hold.Goals as goal

pub returns : goal.returns
returns c = tabs_end_at_stops

use Rattle.std.proofs.Common.{◌≡◌, ◌+◌, ◌-◌, ◌≤◌, length}
use Rattle.std.specs.List.{FoldsTo}
use Rattle.lines.specs.Rows.{rows}
use Rattle.view.specs.Seen.{text_at}
use Rattle.printing.specs.Visits.{Visits, placed}
use Rattle.printing.proofs.Rowing.{rows_from}
use Rattle.printing.proofs.rows.each_row.Given as goal

-- the rows from the start on are still to come, and the calls at them end as those at all rows do
abbrev pub invariant-loop-start : goal.invariant-loop-start
invariant-loop-start g l =
    let t = text_at g.V.Meaning l.view in
    goal.F-IsAlwaysCallable g l.visit
    × (l.count ≤ l.start)
    × (l.start ≤ length t + 1)
    × (l.count + length (rows_from t l.start) ≡ length (rows t))
    × ((last : _) → FoldsTo (Visits (goal.F-step g)) l.visit (placed l.start (rows_from t l.start)) last → FoldsTo (Visits (goal.F-step g)) l.fn.visit (placed 0 (rows t)) last)

abbrev pub decreases-loop-start : goal.decreases-loop-start
decreases-loop-start g l = l.len + 1 - l.start

use Rattle.std.proofs.Common.{◌≡◌, ℕ, ◌+◌, ◌≤◌, map, get_or, take}
use Rattle.places.specs.Marks.{Mark, shown_in, taken_in}
use Rattle.tables.proofs.placing.begun_above.Given as goal

abbrev pub invariant-loop-i : goal.invariant-loop-i
invariant-loop-i g l =
    (k : ℕ) (e : Mark) → k + 1 ≡ l.i → (get_or (map g.R.Record.mark l.records) k e).at + shown_in (take k (map g.R.Record.mark l.records)) ≤ l.u + taken_in (take k (map g.R.Record.mark l.records))

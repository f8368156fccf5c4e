use Rattle.std.proofs.Common.{◌≡◌, ◌+◌, ◌-◌, take, drop, vec_items}
use Rattle.std.specs.List.{prefix_len}
use Rattle.view.specs.Rows.{is_in_row}
use Rattle.view.specs.Seen.{text_at}
use Rattle.view.proofs.rows.row_from.Given as goal

-- the codes so far are in the row, and handed out
abbrev pub invariant-loop-i : goal.invariant-loop-i
invariant-loop-i g l =
    (vec_items l.row ≡ take (l.i - l.u) (drop l.u (text_at g.V.Meaning l.view)))
    × ((l.i - l.u) + prefix_len is_in_row (drop l.i (text_at g.V.Meaning l.view)) ≡ prefix_len is_in_row (drop l.u (text_at g.V.Meaning l.view)))

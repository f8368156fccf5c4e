use Rattle.std.proofs.Common.{◌-◌}
use Rattle.view.specs.Seen.{text_at}
use Rattle.linewise.proofs.RowEnds.{InRow}
use Rattle.linewise.proofs.breaking.row_end.Given as goal

abbrev pub invariant-loop-i : goal.invariant-loop-i
invariant-loop-i g l = InRow l.width (text_at g.V.Meaning l.below) l.start (l.i - l.start) l.behind_space

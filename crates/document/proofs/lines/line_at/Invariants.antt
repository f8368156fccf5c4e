use Rattle.std.proofs.Common.{◌≡◌}
use Rattle.document.specs.Lines.{line_number, line_start}
use Rattle.document.proofs.lines.line_at.Given as goal

-- number and start are those of the line that holds the place reached
abbrev pub invariant-loop-i : goal.invariant-loop-i
invariant-loop-i g l = (l.number ≡ line_number (g.B.Buffer.doc l.buffer) l.i) × (l.start ≡ line_start (g.B.Buffer.doc l.buffer) l.i)

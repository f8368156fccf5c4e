use Rattle.std.proofs.Common.{◌≡◌, get_or, sym, ◌∙◌, arith}
use Rattle.document.proofs.Lining.{number_le, number_next, number_same, start_next, start_same}
use Rattle.document.proofs.lines.line_at.Goals as goal
use Rattle.document.proofs.lines.line_at.Goals.{then-branch-eq-NEWLINE, else-branch-eq-NEWLINE}

pub overflow_add-number : goal.overflow_add-number
overflow_add-number g c =
    let h = number_le (g.B.Buffer.doc c.args.buffer.now) c.loop-i.i in
    omega (arith, g.B.Buffer.fits c.args.buffer.now, g.B.Buffer.bounded)

pub loop-i-preserved : goal.loop-i-preserved
loop-i-preserved g c =
    let e = c.in_ok-code.ensures in
    let d = g.B.Buffer.doc c.args.buffer.now in
    elim c.if-branch-eq-NEWLINE.branch [
      | then-branch-eq-NEWLINE w ↦ (
          let at = sym e.1 ∙ w.if-branch-eq-NEWLINE.true in
          (omega (arith, w.number-is, number_next d c.loop-i.i e.0 at), w.start-is ∙ sym (start_next d c.loop-i.i e.0 at))
          )
      | else-branch-eq-NEWLINE w ↦ (
          let off : get_or d c.loop-i.i 0 ≡ 10 → ⊥ = λ h. w.if-branch-eq-NEWLINE.false (e.1 ∙ h) in
          (omega (arith, w.number-is, number_same d c.loop-i.i e.0 off), w.start-is ∙ c.loop-i.invariant.1 ∙ sym (start_same d c.loop-i.i e.0 off))
          )
    ]

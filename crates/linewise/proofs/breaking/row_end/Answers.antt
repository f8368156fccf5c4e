use Rattle.std.proofs.Common.{◌≡◌, false, get_or, sym, ap, ◌∙◌, arith}
use Rattle.std.proofs.lemmas.Bool.Decides.{nat_tests}
use Rattle.codes.specs.Codes.{is_row_end}
use Rattle.view.specs.Seen.{text_at}
use Rattle.linewise.proofs.RowEnds.{in_row_more_at}
use Rattle.linewise.proofs.breaking.row_end.Goals as goal
use Rattle.linewise.proofs.breaking.row_end.Goals.{then-code-eq-SPACE, else-code-eq-SPACE}

pub loop-i-preserved : goal.loop-i-preserved
loop-i-preserved g c =
    let t = text_at g.V.Meaning c.args.below.now in
    let goes : is_row_end (get_or t c.loop-i.i 0) ≡ false = ap is_row_end (sym c.code_at-code.ensures) ∙ sym c.if-is_row_end.ensures in
    let same = c.code_at-code.ensures in
    let less = c.loop-i.invariant.fits in
    in_row_more_at c.args.width t c.args.start c.loop-i.i c.loop-i.behind_space (omega arith) c.loop-i.invariant (omega arith) goes (omega arith) c.if-code-eq-SPACE.behind_space
    (elim c.if-code-eq-SPACE.branch [ then-code-eq-SPACE w ↦ (let e = w.behind_space-is in let y = w.if-code-eq-SPACE.true in grind (arith, nat_tests)) | else-code-eq-SPACE w ↦ (let e = w.behind_space-is in let y = w.if-code-eq-SPACE.false in grind (arith, nat_tests)) ])

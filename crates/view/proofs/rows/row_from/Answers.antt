use Rattle.std.proofs.Common.{◌≡◌, ℕ, ◌-◌, true, false, not, get_or, take, drop, sym, ap, ◌∙◌, arith}
use Rattle.std.specs.List.{prefix_len}
use Rattle.std.proofs.lemmas.List.Sums.{prefix_len-drop_yes, prefix_len-drop_no, prefix_len-drop_all}
use Rattle.codes.specs.Codes.{is_row_end}
use Rattle.codes.proofs.Stretches.{stretch_more}
use Rattle.view.specs.Rows.{is_in_row}
use Rattle.view.specs.Seen.{text_at}
use Rattle.view.proofs.rows.row_from.Goals as goal

pub returns-then-is_row_end : goal.returns-then-is_row_end
returns-then-is_row_end g c =
    let t = text_at g.V.Meaning c.args.view.now in
    let i = c.loop-i.i in
    let at = c.in_ok-code.ensures in
    let ends : is_in_row (get_or t i 0) ≡ false = ap not (ap is_row_end (sym at.1) ∙ sym c.is_row_end.ensures ∙ c.if-is_row_end.true) in
    let e = prefix_len-drop_no is_in_row t i 0 at.0 ends in
    let n : i - c.args.u ≡ prefix_len is_in_row (drop c.args.u t) = omega (arith, c.loop-i.invariant.1) in
    (omega arith, c.loop-i.invariant.0 ∙ ap (λ (k : ℕ). take k (drop c.args.u t)) n)

pub loop-i-preserved : goal.loop-i-preserved
loop-i-preserved g c =
    let t = text_at g.V.Meaning c.args.view.now in
    let i = c.loop-i.i in
    let at = c.in_ok-code.ensures in
    let goes : is_in_row (get_or t i 0) ≡ true = ap not (ap is_row_end (sym at.1) ∙ sym c.is_row_end.ensures ∙ c.if-is_row_end.false) in
    let e = prefix_len-drop_yes is_in_row t i 0 at.0 goes in (
      stretch_more t _ _ c.args.u i c.in_ok-code.code (omega arith) at.0 at.1 c.loop-i.invariant.0 c.in_ok-push.ensures.items,
      omega (arith, c.loop-i.invariant.1),
    )

pub returns : goal.returns
returns g c =
    let t = text_at g.V.Meaning c.args.view.now in
    let e = prefix_len-drop_all is_in_row t c.loop-i.i (omega arith) in
    let n : c.loop-i.i - c.args.u ≡ prefix_len is_in_row (drop c.args.u t) = omega (arith, c.loop-i.invariant.1) in
    (omega arith, c.loop-i.invariant.0 ∙ ap (λ (k : ℕ). take k (drop c.args.u t)) n)

use Rattle.std.proofs.Common.{arith, of_calls, rules, Ok, ◌≡◌, sym, string_bytes, length}
use Rattle.std.proofs.Math.Utf8.{encodes}
use Rattle.view.specs.Rows.{row_from}
use Rattle.view.specs.Seen.{text_at}
use Rattle.printing.proofs.Rowing.{row_fits, one_more, visit_more}
use Rattle.printing.proofs.rows.each_row.Goals as goal

pub loop-start-preserved : goal.loop-start-preserved
loop-start-preserved g c =
    let t = text_at g.V.Meaning c.args.view.now in
    let u = c.loop-start.start in
    let row = c.in_ok-row.ensures in
    let long : c.len.result ≡ length (row_from t u) = search (rules, row) in
    let text : string_bytes c.in_ok-text_of.field-0 ≡ encodes (row_from t u) = search (rules, row) in
    let met : goal.F-step g c.loop-start.visit u c.in_ok-text_of.field-0 (Ok tt) c.call_mut.new.self = rw (sym c.in_ok-call_mut.was) c.call_mut.ensures in
    let kept = c.loop-start.invariant in
    let more = one_more t u c.len.result row.0 long in (
      search (rules, of_calls),
      omega arith,
      row_fits t u c.len.result row.0 long,
      omega (arith, kept.3),
      λ last rest. kept.4 last (visit_more t u c.len.result row.0 long (goal.F-step g) c.in_ok-text_of.field-0 c.loop-start.visit c.call_mut.new.self last text met rest),
    )

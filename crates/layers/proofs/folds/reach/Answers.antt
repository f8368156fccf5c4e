use Rattle.std.proofs.Common.{◌≡◌, ℕ, min, max, List, [], map, drop, sym, ap, ◌∙◌, subst}
use Rattle.std.proofs.lemmas.List.{at_drop_all}
use Rattle.places.specs.Marks.{Mark, lowest, highest}
use Rattle.layers.proofs.Dropping.{Reached, reached_none, reached_all, next_gone, next_kept}
use Rattle.layers.proofs.folds.reach.Goals as goal
use Rattle.layers.proofs.folds.reach.Goals.{then-is_dropped, else-is_dropped}

pub loop-record-init : goal.loop-record-init
loop-record-init g c = reached_none c.args.change.start c.args.change.old (map g.R.Record.mark c.records-records.result.now)

pub loop-record-preserved : goal.loop-record-preserved
loop-record-preserved g c =
    elim c.if-is_dropped.branch [
      | then-is_dropped w ↦
          next_gone g.R.Record.mark c.args.change.start c.args.change.old (map g.R.Record.mark c.records-records.result.now) c.records-records.result.now c.loop-record.record-index c.record-item.result c.loop-record.low c.loop-record.high c.loop-record-test.true c.record-item.is c.loop-record.invariant c.if-is_dropped.low c.if-is_dropped.high
          (sym w.if-is_dropped.ensures) (w.low-is ∙ w.min-low.ensures ∙ ap (min c.loop-record.low) w.place.ensures) (w.high-is ∙ w.max-high.ensures ∙ ap (max c.loop-record.high) w.past.ensures)
      | else-is_dropped w ↦
          next_kept g.R.Record.mark c.args.change.start c.args.change.old (map g.R.Record.mark c.records-records.result.now) c.records-records.result.now c.loop-record.record-index c.record-item.result c.loop-record.low c.loop-record.high c.loop-record-test.true c.record-item.is c.loop-record.invariant c.if-is_dropped.low c.if-is_dropped.high
          (sym w.if-is_dropped.ensures) w.low-is w.high-is
    ]

pub returns : goal.returns
returns g c =
    let s : ℕ = c.args.change.start in
    let o : ℕ = c.args.change.old in
    let records : List g.row.R.Denot = c.records-records.result.now in
    let P : List Mark → Type 0 = λ z. Reached s o (map g.R.Record.mark records) z c.loop-record.low c.loop-record.high in
    let none : map g.R.Record.mark (drop c.loop-record.record-index records) ≡ [] = at_drop_all (map g.R.Record.mark) records c.loop-record.record-index c.loop-record-test.false in
    let all = reached_all s o (map g.R.Record.mark records) c.loop-record.low c.loop-record.high (subst P none c.loop-record.invariant) in
    record {
      low = all.0 ∙ ap (λ (z : List g.row.R.Denot). lowest s o (map g.R.Record.mark z)) c.records-records.ensures.value;
      high = all.1 ∙ ap (λ (z : List g.row.R.Denot). highest s o (map g.R.Record.mark z)) c.records-records.ensures.value;
    }

use Rattle.std.proofs.Common.{ℕ, ◌-◌, List, ap, ◌∙◌, arith}
use Rattle.places.specs.Marks.{Mark}
use Rattle.view.specs.Layers.{hints}
use Rattle.view.specs.Seen.{text_at}
use Rattle.tables.specs.Hints.{hint_mark}
use Rattle.tables.specs.Tables.{marks_of}
use Rattle.layers.proofs.Fitting.{behind_rooms, behind_counted, hints_raised}
use Rattle.layers.proofs.hints.HintMarked.follow_all.Goals as goal
use Rattle.layers.proofs.hints.HintMarked.follow_all.Goals.{then-change-eq0, else-change-eq0}

pub follow-requires : goal.follow-requires
follow-requires g c = (omega arith, behind_rooms g.V.Meaning c.args.below.now (hints (marks_of hint_mark c.args.table.now)) c.args.change c.requires)

pub returns : goal.returns
returns g c = record {
  marks = c.follow.ensures.followed;
  raises = λ xs fit kept long.
      let ms : List Mark = marks_of hint_mark c.args.table.now in
      let ok = behind_counted g.V.Meaning c.args.below.now (hints ms) c.args.change c.requires xs fit kept in
      hints_raised ms xs (text_at g.V.Meaning c.args.below.now) c.args.change c.last_over-start.result c.if-change-eq0.old
      (c.last_over-start.ensures xs (omega (arith, kept.old_fits)) ok)
      (λ none. elim c.if-change-eq0.branch [ then-change-eq0 w ↦ w.old-is | else-change-eq0 w ↦ absurd (w.if-change-eq0.false none) ])
      (λ some.
      elim c.if-change-eq0.branch [
        | then-change-eq0 w ↦ absurd (some w.if-change-eq0.true)
        | else-change-eq0 w ↦ w.old-is ∙ w.saturating_sub-old.ensures ∙ ap (λ (z : ℕ). z - c.last_over-start.result) (w.first_over.ensures xs kept.old_fits ok)
      ]);
}

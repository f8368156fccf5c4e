use Rattle.std.proofs.Common.{List, length, arith}
use Rattle.places.specs.Marks.{Mark}
use Rattle.places.proofs.Following.{lowest_le, highest_ge, highest_le}
use Rattle.view.specs.Layers.{folds}
use Rattle.view.specs.Seen.{text_at}
use Rattle.tables.specs.Folds.{fold_mark}
use Rattle.tables.specs.Tables.{marks_of}
use Rattle.layers.proofs.Fitting.{behind_rooms, behind_reach, behind_counted, folds_raised}
use Rattle.layers.proofs.folds.FoldMarked.follow_all.Goals as goal

pub follow-requires : goal.follow-requires
follow-requires g c = (omega arith, behind_rooms g.V.Meaning c.args.below.now (folds (marks_of fold_mark c.args.table.now)) c.args.change c.requires)

pub overflow_add-result : goal.overflow_add-result
overflow_add-result g c =
    let reach = behind_reach g.V.Meaning c.args.below.now (folds (marks_of fold_mark c.args.table.now)) c.args.change c.requires in
    omega (arith, c.reach-low.ensures.high, c.requires.was, c.requires.new_fits, c.requires.low)

pub overflow_sub-result : goal.overflow_sub-result
overflow_sub-result g c = omega (arith, c.reach-low.ensures.high, highest_ge c.args.change.start c.args.change.old (marks_of fold_mark c.args.table.now))

pub overflow_sub-result-2 : goal.overflow_sub-result-2
overflow_sub-result-2 g c =
    let ms : List Mark = marks_of fold_mark c.args.table.now in
    omega (arith, c.reach-low.ensures.low, c.reach-low.ensures.high, highest_ge c.args.change.start c.args.change.old ms, lowest_le c.args.change.start c.args.change.old ms)

pub returns : goal.returns
returns g c = record {
  marks = c.follow.ensures.followed;
  raises = λ xs fit kept long.
      let ms : List Mark = marks_of fold_mark c.args.table.now in
      let ok = behind_counted g.V.Meaning c.args.below.now (folds ms) c.args.change c.requires xs fit kept in
      let high_in = highest_le c.args.change.start c.args.change.old (length xs) ms fit.0 kept.old_fits in
      let low_in = lowest_le c.args.change.start c.args.change.old ms in
      let fits = kept.old_fits in
      let low-is = c.reach-low.ensures.low in
      let high_is = c.reach-low.ensures.high in
      folds_raised ms xs (text_at g.V.Meaning c.args.below.now) c.args.change c.reach-low.result.0 c.reach-low.result.1 c.first_over-start.result c.first_over-end.result c.saturating_sub.result
      low-is high_is
      (c.first_over-start.ensures xs (omega arith) ok)
      (c.first_over-end.ensures xs (omega arith) ok)
      c.saturating_sub.ensures;
}

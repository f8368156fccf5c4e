use Rattle.std.proofs.Common.{◌≡◌, Bool, not, List, [], get_or, refl, ap, ◌∙◌, rules, tests}
use Rattle.std.proofs.lemmas.Bool.{cond-true}
use Rattle.places.specs.Marks.{Mark}
use Rattle.view.specs.Orders.{meets}
use Rattle.tables.specs.Tables.{records_of, marks_of}
use Rattle.layers.specs.Ordering.{gone_causes}
use Rattle.layers.proofs.Searching.{none_found, first_found}
use Rattle.layers.proofs.Ordering.{taken_out}
use Rattle.layers.proofs.Carrying.{no_cause, gone_change_lem}
use Rattle.layers.proofs.finding.take_out.Goals as goal

pub returns-in_default : goal.returns-in_default
returns-in_default g c =
    let p : Mark → Bool = meets (g.R.Marked.records []) c.args.l in
    let none = none_found g.R.Record.mark p (records_of c.args.table.now) _ c.iter.result _ _ c.position.result
    (cc) (λ x b f' k. search (rules, tests)) c.position.ensures.ran c.in_default.is in
    (cond-true _ _ _ (ap not none), refl)

pub returns : goal.returns
returns g c =
    let ms : List Mark = marks_of g.R.Record.mark c.args.table.now in
    let p : Mark → Bool = meets (g.R.Marked.records []) c.args.l in
    let found = first_found g.R.Record.mark p (records_of c.args.table.now) _ c.iter.result _ _ c.position.result
    (cc) (λ x b f' k. search (rules, tests)) c.position.ensures.ran c.in-Some.k c.in-Some.is in
    let same = c.records-records.ensures.value in
    let at = c.index-records-k in
    let read : at.result ≡ get_or (records_of c.args.table.now) c.in-Some.k at.result = at.is ∙ ap (λ (z : List g.row.R.Denot). get_or z c.in-Some.k at.result) same in
    let gone = taken_out p g.R.Record.mark (records_of c.args.table.now) (records_of c.remove.new.self) at.result c.in-Some.k found.0 found.1 read c.remove.ensures.records in (
      no_cause (gone_causes p ms c.args.x) (ap not gone.0, tt),
      gone.2,
      gone_change_lem p ms (g.R.Record.mark at.result) c.place.result c.place-2.result c.first_over.result c.shown.result c.past.result
          gone.0 gone.1 c.place.ensures c.place-2.ensures c.shown.ensures c.past.ensures c.first_over.ensures,
    )

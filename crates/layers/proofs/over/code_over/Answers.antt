use Rattle.std.proofs.Common.{◌<◌, length, get_or, sym, ap, ◌∙◌, subst, arith}
use Rattle.places.specs.Marks.{Mark}
use Rattle.view.specs.Seen.{text_at}
use Rattle.tables.specs.Tables.{records_of}
use Rattle.layers.proofs.Indexing.{held_index, held_mark}
use Rattle.layers.proofs.over.code_over.Goals as goal

pub bounds-records-index : goal.bounds-records-index
bounds-records-index g c =
    held_index g.R.Record.mark c.records.result.now (records_of c.args.table.now) c.records.ensures.value c.in-Shown.index
    (c.in-Shown.ensures (text_at g.V.Meaning c.args.below.now) c.requires.within c.requires.counted).0

pub offset_bounds-records-index : goal.offset_bounds-records-index
offset_bounds-records-index g c = let h : c.in-Shown.index < length c.records.result.now = bounds-records-index g c in omega arith

pub code-requires : goal.code-requires
code-requires g c =
    let held = c.in-Shown.ensures (text_at g.V.Meaning c.args.below.now) c.requires.within c.requires.counted in
    let here = held_mark g.R.Record.mark c.records.result.now (records_of c.args.table.now) c.records.ensures.value c.in-Shown.index held.0 c.index-records-index.result c.index-records-index.is in
    subst (λ (m : Mark). c.in-Shown.offset < length m.shows) here (held.1 (g.R.Record.mark c.index-records-index.result)).1

pub returns-in-Shown : goal.returns-in-Shown
returns-in-Shown g c =
    let held = c.in-Shown.ensures (text_at g.V.Meaning c.args.below.now) c.requires.within c.requires.counted in
    let here = held_mark g.R.Record.mark c.records.result.now (records_of c.args.table.now) c.records.ensures.value c.in-Shown.index held.0 c.index-records-index.result c.index-records-index.is in
    c.code.ensures
    ∙ ap (λ (m : Mark). get_or m.shows c.in-Shown.offset 0) (sym here)
    ∙ sym (held.1 (g.R.Record.mark c.index-records-index.result)).2

use Rattle.std.proofs.Common.{◌∙◌, sym, refl}
use Rattle.tables.proofs.Overs.{begun_on, begun_here, shown_first, taken_first}
use Rattle.tables.proofs.placing.begun_above.Goals as goal

pub returns-then-not-begins_by-clause-begun : goal.returns-then-not-begins_by-clause-begun
returns-then-not-begins_by-clause-begun g c =
    let mark = g.R.Record.mark in
    let rs = c.args.records.now in
    let i = c.loop-i.i in
    record {
      before = c.loop-i.invariant;
      behind = λ e l.
          begun_here mark rs rs c.args.u i c.place.result c.new.result.shown c.new.result.taken c.index-records-i.result
          refl c.loop-i-test.true c.index-records-i.is c.place.ensures
          (shown_first mark rs i c.new.result.shown c.new.ensures.shown) (taken_first mark rs i c.new.result.taken c.new.ensures.taken)
          (sym c.if-not-begins_by.true ∙ c.begins_by.ensures) e;
    }

pub loop-i-preserved : goal.loop-i-preserved
loop-i-preserved g c =
    let mark = g.R.Record.mark in
    let rs = c.args.records.now in
    let i = c.loop-i.i in
    begun_on mark rs rs c.args.u i c.place.result c.new.result.shown c.new.result.taken c.index-records-i.result
    refl c.loop-i-test.true c.index-records-i.is c.place.ensures
    (shown_first mark rs i c.new.result.shown c.new.ensures.shown) (taken_first mark rs i c.new.result.taken c.new.ensures.taken)
    (sym c.if-not-begins_by.false ∙ c.begins_by.ensures)

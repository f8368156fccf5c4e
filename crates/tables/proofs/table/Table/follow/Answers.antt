use Rattle.std.proofs.Common.{◌≤◌, List, map, length, ap, ◌∙◌, arith, length-take}
use Rattle.places.specs.Marks.{followed}
use Rattle.tables.specs.declared.table.Table.{Table}
use Rattle.tables.proofs.Tables.{records_cut}
use Rattle.tables.proofs.Sweeping.{swept_kept, swept_gone, swept_all, room_ahead}
use Rattle.tables.proofs.table.Table.follow.Goals as goal
use Rattle.tables.proofs.table.Table.follow.Goals.{then-follow, else-follow}

pub loop-i-preserved : goal.loop-i-preserved
loop-i-preserved g c =
    let few : c.len-count.result ≤ length c.args.self.now.items = omega (arith, length-take c.args.self.now.count c.args.self.now.items) in
    let room = room_ahead g.R.Record.mark c.args.change c.args.self.now.items c.loop-i.self.items c.args.self.now.count c.loop-i.i c.index-self-i.result c.loop-i.invariant.ahead (omega arith) c.requires in
    elim c.if-follow.branch [
      | then-follow w ↦
          swept_kept g.R.Record.mark c.args.change c.args.self.now.items c.loop-i.self.items c.len-count.result c.loop-i.kept c.loop-i.i c.loop-i.invariant c.loop-i-test.true few c.index-self-i.result
          c.follow.new.self w.index-self-i-then-follow.result c.if-follow.self.items c.if-follow.kept c.follow.result (ap (λ (t : Table g.row.R.Denot). t.items) w.self-is) w.kept-is
          (c.follow.ensures.lives room) w.if-follow.true (c.follow.ensures.sent room)
      | else-follow w ↦
          swept_gone g.R.Record.mark c.args.change c.args.self.now.items c.loop-i.self.items c.len-count.result c.loop-i.kept c.loop-i.i c.loop-i.invariant c.loop-i-test.true few c.index-self-i.result
          c.follow.new.self c.if-follow.self.items c.if-follow.kept c.follow.result (ap (λ (t : Table g.row.R.Denot). t.items) w.self-is) w.kept-is
          (c.follow.ensures.lives room) w.if-follow.false
    ]

pub returns : goal.returns
returns g c = record {
  followed =
      swept_all g.R.Record.mark c.args.change c.args.self.now.items c.loop-i.self.items c.len-count.result c.loop-i.kept c.loop-i.i c.loop-i.invariant c.loop-i-test.false
      ∙ ap (λ (z : List g.row.R.Denot). followed c.args.change.start c.args.change.old c.args.change.new (map g.R.Record.mark z))
      (records_cut c.args.self.now.items c.args.self.now.count c.len-count.result c.len-count.ensures.value);
  fewer = omega (arith, length-take c.loop-i.kept c.loop-i.self.items);
}

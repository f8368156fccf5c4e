use Rattle.std.proofs.Common.{refl, arith}
use Rattle.view.specs.Seen.{text_at}
use Rattle.damage.proofs.Counting.{codes_few, ends_few}
use Rattle.damage.proofs.Damaging.{damage_counted}
use Rattle.damage.proofs.rows.damage_of.Goals as goal

pub overflow_add-first : goal.overflow_add-first
overflow_add-first g c =
    let e = g.V.Meaning in
    let v = c.args.view.now in
    let few = ends_few e.most (e.stack v) (e.doc v) (g.met.V.View.means v c.requires) in
    omega (arith, few c.args.change.start, few c.len.result, c.ends_before-first.ensures, c.ends_between-behind.ensures)

pub overflow_add-result : goal.overflow_add-result
overflow_add-result g c =
    let e = g.V.Meaning in
    let v = c.args.view.now in
    let few = ends_few e.most (e.stack v) (e.doc v) (g.met.V.View.means v c.requires) in
    omega (arith, few c.saturating_add-past.result, c.ends_between-inside.ensures)

pub returns : goal.returns
returns g c =
    let e = g.V.Meaning in
    let v = c.args.view.now in
    let few = codes_few e.most (e.stack v) (e.doc v) (g.met.V.View.means v c.requires) in
    damage_counted (text_at e v) c.args.rows_before c.args.change c.saturating_add-past.result c.len.result
    c.ends_between-inside.result c.ends_between-behind.result _ (omega (arith, few))
    c.saturating_add-past.ensures c.len.ensures c.ends_between-inside.ensures c.ends_between-behind.ensures
    c.ends_before-first.ensures c.saturating_sub.ensures refl

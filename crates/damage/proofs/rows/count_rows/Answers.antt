use Rattle.std.proofs.Common.{arith}
use Rattle.view.specs.Seen.{text_at}
use Rattle.damage.proofs.Counting.{rows_counted, ends_all, ends_few}
use Rattle.damage.proofs.rows.count_rows.Goals as goal

pub overflow_add-result : goal.overflow_add-result
overflow_add-result g c =
    let e = g.V.Meaning in
    let v = c.args.view.now in
    let few = ends_few e.most (e.stack v) (e.doc v) (g.met.V.View.means v c.requires) in
    omega (arith, few c.len.result, c.ends_before.ensures)

pub returns : goal.returns
returns g c =
    let t = text_at g.V.Meaning c.args.view.now in
    let all = ends_all t c.len.result (omega (arith, c.len.ensures)) in
    omega (arith, all, c.ends_before.ensures, rows_counted t)

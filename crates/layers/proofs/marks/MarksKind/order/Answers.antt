use Rattle.std.proofs.Common.{◌≡◌, ℕ, List, [], length, sym, ◌∙◌, subst, rules}
use Rattle.places.specs.Marks.{Mark}
use Rattle.view.specs.Orders.{meets}
use Rattle.view.specs.Seen.{text_at, first_at}
use Rattle.tables.specs.Placing.{Counted}
use Rattle.tables.specs.Tables.{marks_of}
use Rattle.layers.specs.Ordering.{Removes}
use Rattle.layers.proofs.Fitting.{over_counted}
use Rattle.layers.proofs.Carrying.{other_verb, taking_out}
use Rattle.layers.proofs.marks.MarksKind.order.Goals as goal

pub returns-then-order-REMOVES : goal.returns-then-order-REMOVES
returns-then-order-REMOVES g c =
    let e = g.V.Meaning in
    let v = c.args.below.now in
    let kept = g.met.R.Marked.kept in
    let ms : List Mark = marks_of g.R.Record.mark c.args.self.now.table in
    let ms' : List Mark = marks_of g.R.Record.mark c.take_out.new.table in
    let o = c.args.order in
    let P : ℕ → Type 0 = λ l. Removes (meets (g.R.Marked.records []) l) ms ms' c.args.self.now.table c.take_out.new.table o.x c.take_out.result in
    let Q : List Mark → Type 0 = λ z. Counted z (text_at e v) in
    taking_out g.R.Marked.records kept g.R.Marked.ADDS g.R.Marked.REMOVES g.met.R.Marked.verbs (λ t. record { table = t }) ms ms' c.args.self.now.table c.take_out.new.table
    (text_at e v) (length (e.doc v)) (first_at e v o.x) (first_at e v o.y) o c.args.w.now
    (c.if-order-REMOVES.true ∙ c.REMOVES.ensures) c.in_ok-l.ensures.0
    (subst Q (kept.holds ms) (over_counted e v (g.R.Marked.records ms) c.requires.over))
    c.take_out.result
    (subst P c.in_ok-l.ensures.1 c.take_out.ensures)

pub add-requires : goal.add-requires
add-requires g c =
    let other : c.args.order.verb ≡ g.R.Marked.REMOVES → ⊥ = λ is. c.if-order-REMOVES.false (is ∙ sym c.REMOVES.ensures) in (
      search rules,
      (c.requires.over, other_verb c.args.order.verb g.R.Marked.ADDS g.R.Marked.REMOVES (sym (g.met.R.Marked.verbs.has c.args.order.verb) ∙ c.requires.own) other),
    )

use Rattle.std.proofs.Common.{ℕ, ◌-◌, eqb, ltb, leb, List, [], length, Ok, refl, ap, ◌∙◌, subst, rules}
use Rattle.std.proofs.lemmas.Bool.{cond-false, le-ltb, lt-leb}
use Rattle.places.specs.declared.change.Change.{Change}
use Rattle.places.specs.Marks.{Mark, put}
use Rattle.places.proofs.Finding.{first_le}
use Rattle.view.specs.Layers.{folds}
use Rattle.view.specs.Stacks.{under_of}
use Rattle.view.specs.Seen.{text_at, first_at}
use Rattle.tables.specs.Folds.{fold_mark}
use Rattle.tables.specs.Tables.{marks_of}
use Rattle.layers.specs.Ordering.{fold_causes, Adds}
use Rattle.layers.proofs.Fitting.{over_counted, same_change}
use Rattle.layers.proofs.Carrying.{no_cause, adding}
use Rattle.layers.proofs.folds.FoldMarked.add.Goals as goal

pub returns : goal.returns
returns g c =
    let e = g.V.Meaning in
    let v = c.args.below.now in
    let ms : List Mark = marks_of fold_mark c.args.table.now in
    let ms' : List Mark = marks_of fold_mark c.put_in.new.table in
    let n : ℕ = length (e.doc v) in
    let o = c.args.order in
    let x : ℕ = o.x in
    let y : ℕ = o.y in
    let a : ℕ = first_at e v x in
    let b : ℕ = first_at e v y in
    let own : Change = record { start = c.first_over-start.result; old = c.in_ok-b.b - c.in_ok-a.a; new = 1 } in
    let room = c.in_ok-put_in.ensures in
    let P : ℕ → Type 0 = λ l. Adds (folds ms) (fold_causes ms l c.in_ok-b.b x) ms' c.args.table.now c.put_in.new.table l c.in_ok-b.b [] (Ok own) in
    let Q : ℕ → Type 0 = λ l. Adds (folds ms) (fold_causes ms a l x) ms' c.args.table.now c.put_in.new.table a l [] (Ok own) in
    adding (folds ms) tt ms' c.args.table.now c.put_in.new.table (text_at e v) n a b o c.args.w.now
    (fold_causes ms a b x)
    (ap (λ (z : ℕ). eqb z 102) c.requires.adds)
    (cond-false (ltb n x) _ _ (le-ltb n x c.in_ok-a.ensures.0) ∙ cond-false (ltb n y) _ _ (le-ltb n y c.in_ok-b.ensures.0) ∙ cond-false (leb y x) _ _ (lt-leb y x c.if-order.false))
    (first_le (under_of e.most (e.stack v) (e.doc v)) (length (text_at e v)) x)
    (over_counted e v (folds ms) c.requires.over)
    (Ok own)
    (subst Q c.in_ok-b.ensures.1 (subst P c.in_ok-a.ensures.1 (
      no_cause (fold_causes ms c.in_ok-a.a c.in_ok-b.b x) (search rules, (room.0, tt)),
      room.1 ∙ ap (λ (m : Mark). put m ms) c.new.ensures,
      λ xs h ok. same_change _ _ _ _ _ _ (c.first_over-start.ensures xs h ok) refl refl,
    )))

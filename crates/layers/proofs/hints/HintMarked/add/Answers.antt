use Rattle.std.proofs.Common.{◌≤◌, ℕ, eqb, ltb, not, List, length, Ok, refl, ap, ◌∙◌, subst, arith}
use Rattle.std.specs.List.{prefix_len}
use Rattle.std.proofs.lemmas.Bool.{cond-false, le-ltb}
use Rattle.places.specs.declared.change.Change.{Change}
use Rattle.places.specs.Marks.{Mark, put}
use Rattle.places.proofs.Finding.{first_le}
use Rattle.view.specs.Layers.{hints}
use Rattle.view.specs.Orders.{is_hint_code}
use Rattle.view.specs.Stacks.{under_of}
use Rattle.view.specs.Seen.{text_at, first_at}
use Rattle.tables.specs.Hints.{hint_mark}
use Rattle.tables.specs.Tables.{marks_of}
use Rattle.layers.specs.Ordering.{hint_causes, Adds}
use Rattle.layers.proofs.Fitting.{over_counted, same_change}
use Rattle.layers.proofs.Carrying.{no_cause, adding}
use Rattle.layers.proofs.hints.HintMarked.add.Goals as goal

pub returns : goal.returns
returns g c =
    let e = g.V.Meaning in
    let v = c.args.below.now in
    let ms : List Mark = marks_of hint_mark c.args.table.now in
    let ms' : List Mark = marks_of hint_mark c.put_in.new.table in
    let n : ℕ = length (e.doc v) in
    let o = c.args.order in
    let w : List ℕ = c.args.w.now in
    let own : Change = record { start = c.last_over-start.result; old = 0; new = length w } in
    let good : length w ≤ prefix_len is_hint_code w = omega (arith, c.if-good-w.false, c.hint_front-good.ensures) in
    let made = c.in-Some.ensures in
    let room = c.in_ok-put_in.ensures in
    let P : ℕ → Type 0 = λ l. Adds (hints ms) (hint_causes ms w) ms' c.args.table.now c.put_in.new.table l l w (Ok own) in
    adding (hints ms) tt ms' c.args.table.now c.put_in.new.table (text_at e v) n (first_at e v o.x) (first_at e v o.y) o w
    (hint_causes ms w)
    (ap (λ (z : ℕ). eqb z 105) c.requires.adds)
    (cond-false (ltb n o.x) _ _ (le-ltb n o.x c.in_ok-l.ensures.0))
    (first_le (under_of e.most (e.stack v) (e.doc v)) (length (text_at e v)) o.x)
    (over_counted e v (hints ms) c.requires.over)
    (Ok own)
    (subst P c.in_ok-l.ensures.1 (
      no_cause (hint_causes ms w) (ap not made.0, (le-ltb (prefix_len is_hint_code w) (length w) good, (room.0, tt))),
      room.1 ∙ ap (λ (m : Mark). put m ms) made.1,
      λ xs h ok. same_change _ _ _ _ _ _ (c.last_over-start.ensures xs h ok) refl refl,
    ))

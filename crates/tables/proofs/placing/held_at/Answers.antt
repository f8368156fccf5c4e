use Rattle.std.proofs.Common.{◌≡◌, ℕ, ◌+◌, ◌<◌, ◌≤◌, List, map, length, subst, refl, arith}
use Rattle.std.proofs.lemmas.List.{length-map}
use Rattle.tables.specs.Placing.{text_over, Counted, Holds}
use Rattle.tables.specs.declared.placing.Held.TheVariants.{Shown, Below}
use Rattle.tables.proofs.Overs.{mark_read, shown_by, ends_by, below_by, ends_none, shown_first, taken_first}
use Rattle.tables.proofs.placing.held_at.Goals as goal
use Rattle.tables.proofs.placing.held_at.Goals.{in-Some+else-offset-shown, in_default}

pub returns-then-offset-shown : goal.returns-then-offset-shown
returns-then-offset-shown g c =
    let mark = g.R.Record.mark in
    let rs = c.records-records.result.now in
    let ms = map mark rs in
    let i = c.in-Some.index in
    let few : c.begun_above-n.result ≤ length ms = omega (arith, length-map rs mark, c.begun_above-n.ensures.few) in
    let last : i + 1 ≡ c.begun_above-n.result = omega arith in
    let within : i < length rs = omega (arith, c.begun_above-n.ensures.few) in
    let P : List g.row.R.Denot → Type 0 = λ z. (xs : List ℕ) → c.args.u ≤ length (text_over (map mark z) xs) → Counted (map mark z) xs → Holds (map mark z) xs c.args.u (Shown i c.saturating_sub-offset.result) in
    subst P c.records-records.ensures.value (λ xs inside counted.
    shown_by ms xs counted c.args.u c.begun_above-n.result (omega arith) inside few c.begun_above-n.ensures.begun
    i (mark c.index-records-index.result) c.place.result c.new-before.result.shown c.new-before.result.taken c.balance.result
    last (mark_read mark rs rs i c.index-records-index.result refl within c.index-records-index.is)
    c.place.ensures (shown_first mark rs i c.new-before.result.shown c.new-before.ensures.shown) (taken_first mark rs i c.new-before.result.taken c.new-before.ensures.taken) c.balance.ensures
    c.saturating_sub-offset.result c.saturating_sub-offset.ensures (omega arith))

pub returns : goal.returns
returns g c =
    let mark = g.R.Record.mark in
    let rs = c.records-records.result.now in
    let ms = map mark rs in
    let few : c.begun_above-n.result ≤ length ms = omega (arith, length-map rs mark, c.begun_above-n.ensures.few) in
    let P : List g.row.R.Denot → Type 0 = λ z. (xs : List ℕ) → c.args.u ≤ length (text_over (map mark z) xs) → Counted (map mark z) xs → Holds (map mark z) xs c.args.u (Below c.balance-2.result) in
    subst P c.records-records.ensures.value (λ xs inside counted.
    below_by ms xs counted c.args.u c.begun_above-n.result (omega arith) inside few c.begun_above-n.ensures.begun
    c.new-passed.result.shown c.new-passed.result.taken c.balance-2.result (shown_first mark rs c.begun_above-n.result c.new-passed.result.shown c.new-passed.ensures.shown) (taken_first mark rs c.begun_above-n.result c.new-passed.result.taken c.new-passed.ensures.taken) c.balance-2.ensures
    (elim c.match-checked_sub.branch [
      | in-Some+else-offset-shown w ↦
          let i = w.in-Some.index in
          let last : i + 1 ≡ c.begun_above-n.result = omega arith in
          let within : i < length rs = omega (arith, c.begun_above-n.ensures.few) in
          ends_by ms xs counted c.args.u c.begun_above-n.result (omega arith) inside few c.begun_above-n.ensures.begun
          i (mark w.index-records-index.result) w.place.result w.new-before.result.shown w.new-before.result.taken w.balance.result
          last (mark_read mark rs rs i w.index-records-index.result refl within w.index-records-index.is)
          w.place.ensures (shown_first mark rs i w.new-before.result.shown w.new-before.ensures.shown) (taken_first mark rs i w.new-before.result.taken w.new-before.ensures.taken) w.balance.ensures
          (omega arith)
      | in_default w ↦ ends_none ms c.args.u c.begun_above-n.result (omega arith)
    ]))

use Rattle.std.proofs.Common.{◌≡◌, ℕ, ◌≤◌, List, map, length, sym, ap, ◌∙◌, subst, arith}
use Rattle.std.proofs.lemmas.List.{length-map, take_all}
use Rattle.places.specs.Marks.{shown_in, taken_in}
use Rattle.tables.specs.Placing.{text_over, Counted}
use Rattle.tables.proofs.Overs.{length_by}
use Rattle.tables.proofs.placing.length_over.Goals as goal

pub returns : goal.returns
returns g c =
    let mark = g.R.Record.mark in
    let rs = c.records-records.result.now in
    let ms = map mark rs in
    let few : length ms ≤ length rs = omega (arith, length-map rs mark) in
    let all = take_all (length rs) ms few in
    let P : List g.row.R.Denot → Type 0 = λ z. (xs : List ℕ) → length xs ≡ c.args.below → Counted (map mark z) xs → c.balance.result ≡ length (text_over (map mark z) xs) in
    subst P c.records-records.ensures.value (λ xs e h.
    length_by ms xs h c.args.below (length rs) c.new-all.result.shown c.new-all.result.taken c.balance.result
    e few (c.new-all.ensures.shown ∙ ap shown_in (sym all)) (c.new-all.ensures.taken ∙ ap taken_in (sym all)) c.balance.ensures)

use Rattle.std.proofs.Common.{◌≡◌, ◌<◌, length, get_or, rules, tests}
use Rattle.std.proofs.lemmas.Iterator.{first_from_Range}
use Rattle.document.proofs.Lining.{ends_first}
use Rattle.document.proofs.lines.line_end.Goals as goal

pub returns : goal.returns
returns g c =
    let d = g.B.Buffer.doc c.args.buffer.now in
    ends_first d c.args.place c.len-len.result c.find.result _ c.requires c.len-len.ensures c.unwrap_or.ensures
    (first_from_Range _ _ _ _ (λ i. get_or d i 0 ≡ 10) (λ i. i < length d → get_or d i 0 ≡ 10 → ⊥) c.find.ensures.ran (λ x q k. search (rules, tests)) (λ x q k. (search (rules, tests), λ l e. search (rules, tests))))

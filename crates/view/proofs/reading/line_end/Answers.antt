use Rattle.std.proofs.Common.{◌≡◌, true, false, get_or, rules, tests}
use Rattle.std.proofs.lemmas.Iterator.{first_from_Range}
use Rattle.codes.specs.Codes.{is_row_end}
use Rattle.view.specs.Seen.{text_at}
use Rattle.view.proofs.Ending.{ends_first}
use Rattle.view.proofs.reading.line_end.Goals as goal

pub returns : goal.returns
returns g c =
    let t = text_at g.V.Meaning c.args.below.now in
    ends_first t c.args.place c.len-len.result c.find.result _ c.requires.within c.len-len.ensures c.unwrap_or.ensures
    (first_from_Range _ _ _ _ (λ i. is_row_end (get_or t i 0) ≡ true) (λ i. is_row_end (get_or t i 0) ≡ false) c.find.ensures.ran (λ x q k. search (rules, tests)) (λ x q k. search (rules, tests)))

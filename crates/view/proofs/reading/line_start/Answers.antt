use Rattle.std.proofs.Common.{◌≡◌, true, false, get_or, rules, tests}
use Rattle.codes.specs.Codes.{is_row_end}
use Rattle.view.specs.Seen.{text_at}
use Rattle.view.proofs.Ending.{starts_last, last_found}
use Rattle.view.proofs.reading.line_start.Goals as goal

pub returns : goal.returns
returns g c =
    let t = text_at g.V.Meaning c.args.below.now in
    let run = c.find.ensures.runs in
    starts_last t c.args.place c.find.result c.map_or.result c.requires.within (search (rules, tests))
    (last_found _ c.args.place _ c.find.result (λ i. is_row_end (get_or t i 0) ≡ true) (λ i. is_row_end (get_or t i 0) ≡ false) c.rev.ensures.runs
    (λ a r q k. search (rules, tests)) (λ x q k. search (rules, tests)) (λ x q k. search (rules, tests)) run.0 run.1 run.2)

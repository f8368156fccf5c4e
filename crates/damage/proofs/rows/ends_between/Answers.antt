use Rattle.std.proofs.Common.{◌≡◌, ℕ, ◌+◌, ◌-◌, min, length, get_or, refl, ap, ◌∙◌, rules, tests, arith}
use Rattle.std.proofs.lemmas.Iterator.{YieldsList-from_range}
use Rattle.std.proofs.lemmas.Iterator.Consumers.{count_from_yields_List, YieldsList-from_filter}
use Rattle.codes.specs.Codes.{is_row_end}
use Rattle.view.specs.Seen.{text_at}
use Rattle.damage.specs.Damages.{ends_before}
use Rattle.damage.proofs.Counting.{ends_counted, ends_filtered}
use Rattle.damage.proofs.rows.ends_between.Goals as goal

pub returns : goal.returns
returns g c =
    let t = text_at g.V.Meaning c.args.view.now in
    let from = c.args.from in
    let end = c.min.result in
    let stop : end ≡ min c.args.to (length t) = omega (arith, c.min.ensures, c.len.ensures) in
    let count = count_from_yields_List _ c.count.result c.count.ensures.ran
    (YieldsList-from_filter _ (λ i. is_row_end (get_or t i 0)) (YieldsList-from_range from end (end - from) c.filter.ensures.source refl) c.filter.ensures.closure (λ x b q k. search (rules, tests))) in
    ends_counted t from c.args.to end (from + (end - from)) c.count.result stop (omega arith) (omega arith) (omega arith)
    (ap (λ (n : ℕ). n + ends_before t from) count ∙ ends_filtered t (end - from) from (omega (arith, stop)))

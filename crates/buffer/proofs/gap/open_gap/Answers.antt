use Rattle.std.proofs.Common.{arith, rules}
use Rattle.std.proofs.lemmas.List.{places, same_lists}
use Rattle.buffer.proofs.gap.open_gap.Goals as goal

pub returns-then-gap-start-clause-back : goal.returns-then-gap-start-clause-back
returns-then-gap-start-clause-back g c = same_lists _ _ (search (rules, places)) (λ k z in-k. grind (arith, places))

pub returns-then-past-gap-clause-back : goal.returns-then-past-gap-clause-back
returns-then-past-gap-clause-back g c = same_lists _ _ (search (rules, places)) (λ k z in-k. grind (arith, places))

pub returns-else-past-gap-clause-back : goal.returns-else-past-gap-clause-back
returns-else-past-gap-clause-back g c = same_lists _ _ (search (rules, places)) (λ k z in-k. grind (arith, places))

use Rattle.std.proofs.Common.{arith, rules, tests}
use Rattle.std.proofs.lemmas.Iterator.{first_from_Range}
use Rattle.document.specs.Words.{StandsAt}
use Rattle.document.proofs.Standing.{first_of}
use Rattle.document.proofs.find.find.Goals as goal

pub returns : goal.returns
returns g c =
    let d = g.B.Buffer.doc c.args.buffer.now in
    let w = c.args.word.now in
    first_of d w c.args.from _ c.find.result (omega arith)
    (first_from_Range _ _ _ _ (StandsAt d w) (λ v. StandsAt d w v → ⊥) c.find.ensures.ran (λ x q k. search (rules, tests)) (λ x q k. search (rules, tests)))

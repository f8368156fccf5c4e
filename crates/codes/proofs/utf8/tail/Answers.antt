-- Each turn reads a byte as `tail_of` does.
use Rattle.std.proofs.Common.{◌≡◌, ◌≤◌, true, false, rules, arith}
use Rattle.codes.specs.Codes.{within}
use Rattle.codes.proofs.Decoding.{tail_more}
use Rattle.codes.proofs.utf8.tail.Goals as goal

pub returns-then-not-contains : goal.returns-then-not-contains
returns-then-not-contains c =
    let no : within c.loop-i.allowed.start c.loop-i.allowed.end c.in-Some.byte.now ≡ false = search rules in
    grind (arith, c.in-Some.ensures.steps)

pub loop-i-preserved : goal.loop-i-preserved
loop-i-preserved c =
    let yes : within c.loop-i.allowed.start c.loop-i.allowed.end c.in-Some.byte.now ≡ true = search rules in
    let below : c.in-Some.byte.now ≤ c.loop-i.allowed.end = search rules in
    grind (arith, tail_more, c.in-Some.ensures.steps)

pub returns-then-bytes-lead : goal.returns-then-bytes-lead
returns-then-bytes-lead c = grind (arith, c.in-None.ensures.steps.0)

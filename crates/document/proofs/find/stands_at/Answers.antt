use Rattle.std.proofs.Common.{◌≡◌, ℕ, ◌+◌, ◌-◌, ◌<◌, ◌≤◌, List, ◌∷◌, length, get_or, Decides, sym, refl, ap, subst, arith, rules, tests}
use Rattle.std.proofs.lemmas.Iterator.{YieldsList-from_slice, YieldsList-from_range, YieldsList-from_zip, cases_from_all}
use Rattle.document.specs.Words.{StandsAt}
use Rattle.document.proofs.Standing.{decided, decided_behind}
use Rattle.document.proofs.find.stands_at.Goals as goal

pub returns-then-has_code : goal.returns-then-has_code
returns-then-has_code g c =
    let d = g.B.Buffer.doc c.args.buffer.now in
    let f = c.in-Some.first.now in
    let rest = c.in-Some.rest.now in
    let u = c.args.place in
    let n = c.len-len.result - (u + 1) in
    let is : c.args.word.now ≡ f ∷ rest = search rules in
    let here : get_or d u 0 ≡ f = search (rules, tests) in
    let inside : u + length (f ∷ rest) ≤ length d = omega (arith, ap length is) in
    subst (λ (w : List ℕ). Decides c.all.result (StandsAt d w u)) (sym is)
    (decided_behind d rest f u inside here c.all.result
    (decided d rest (u + 1) n (omega arith) (omega arith) c.all.result
    (cases_from_all c.all.new.self _ _ (λ (p : ℕ × ℕ). (p.1 < length d) × (get_or d p.1 0 ≡ p.0)) (λ (p : ℕ × ℕ). p.1 < length d → get_or d p.1 0 ≡ p.0 → ⊥) c.all.ensures.ran
    (YieldsList-from_zip (YieldsList-from_slice rest (cc)) (YieldsList-from_range (u + 1) c.len-len.result n (cc) refl)) (λ x q k. search (rules, tests)) (λ x q k l e. search (rules, tests)))))

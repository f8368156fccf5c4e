use Rattle.std.proofs.Common.{◌≡◌, ℕ, ◌+◌, ◌-◌, ◌≤◌, min, length, take, drop, sym, ap, ◌∙◌, arith}
use Rattle.buffer.specs.Gaps.{ends, held, usable}
use Rattle.buffer.proofs.Holding.{held_by, counted, whole, held_is, free_is, lies, holds_edited}
use Rattle.buffer.proofs.Refusing.{edit_inside, edit_fits}
use Rattle.buffer.proofs.gap.Gap.edit.Goals as goal

pub returns-clause-does : goal.returns-clause-does
returns-clause-does g c =
    let m = g.row.MOST in
    let d = c.args.cells.now in
    let f = c.within.result.front in
    let b = c.within.result.back in
    let n = c.len-len.result in
    let z = c.spare.result in
    let a = c.args.a in
    let r = c.args.r in
    let w = c.args.w.now in
    let x = c.open_gap.new.cells in
    let y = c.put.new.cells in
    let e = c.within.ensures in
    let p = c.put.ensures in
    let o = c.open_gap.ensures in
    let t = edit_inside n z a r w c.in_ok-check_edit.ensures in
    let j = edit_fits n z a r w c.in_ok-check_edit.ensures in
    let q = counted m d c.args.self f b e.front e.back in
    let v = whole m d c.args.self f b e.front e.back z c.spare.ensures in
    let h = held_by m d c.args.self f b e.front e.back in
    let D = held m d c.args.self in
    let nl : n ≡ length D = c.len-len.ensures in
    let u : usable m y ≡ usable m d = ap (λ (k : ℕ). min k m) (p.len ∙ o.len) in
    let k : length x - (length D - (a + r)) ≡ length d - (f + b - (a + r)) = omega (arith, o.len) in
    let inside : a + r ≤ length D = omega arith in
    let spare : length D + z ≤ length x = omega (arith, o.len) in
    let front : take a x ≡ take a D = o.front ∙ ap (take a) (sym h) in
    let back : drop (length x - (length D - (a + r))) x ≡ drop (a + r) D = ap (λ (i : ℕ). drop i x) k ∙ o.back ∙ ap (drop (a + r)) (sym h) in
    let fits : a + length w + (n - (a + r)) ≤ usable m y = omega arith in
    let sum : a + length w + (n - (a + r)) + (z + r - length w) ≡ usable m y = omega arith in (
      cc (c.in_ok-check_edit.ensures, nl, c.spare.ensures),
      held_is m y (a + length w) (n - (a + r)) fits
          ∙ ap (λ (i : ℕ). ends y (a + length w) (i - (a + r))) nl
          ∙ holds_edited x y D w a r z inside spare j p.len front back p.before p.behind,
      free_is m y (a + length w) (n - (a + r)) (z + r - length w) sum ∙ ap (λ (i : ℕ). i + r - length w) c.spare.ensures,
      lies x y D w a r z inside spare j p.len front back p.before p.behind,
    )

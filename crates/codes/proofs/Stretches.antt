-- A stretch of a text, handed out code by code. Assumes nothing.
use Rattle.std.proofs.Common.{◌≡◌, ℕ, ◌+◌, ◌-◌, ◌<◌, ◌≤◌, List, [], ◌∷◌, ◌++◌, length, get_or, take, drop, sym, ap, ◌∙◌, arith}
use Rattle.std.proofs.lemmas.List.{take_more, get_or-drop, length-drop}

-- xs are the codes of d from `from` up to i, and one more
pub stretch_more : (d xs ys : List ℕ) (from i x : ℕ) → from ≤ i → i < length d → x ≡ get_or d i 0 → xs ≡ take (i - from) (drop from d) → ys ≡ xs ++ x ∷ [] → ys ≡ take (i + 1 - from) (drop from d)
stretch_more d xs ys from i x h l e p q =
    let on : i + 1 - from ≡ (i - from) + 1 = omega arith in
    let back : from + (i - from) ≡ i = omega arith in
    let n = length-drop from d in
    let at : get_or (drop from d) (i - from) 0 ≡ x = get_or-drop from d (i - from) 0 ∙ ap (λ (k : ℕ). get_or d k 0) back ∙ sym e in
    q ∙ ap (λ (v : List ℕ). v ++ x ∷ []) p ∙ ap (λ (v : ℕ). take (i - from) (drop from d) ++ v ∷ []) (sym at)
    ∙ sym (take_more (drop from d) (i - from) 0 (omega arith)) ∙ ap (λ (k : ℕ). take k (drop from d)) (sym on)

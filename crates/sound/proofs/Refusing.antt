-- A refused call that left the view inside as it was left the whole value so. Assumes nothing.
use Rattle.std.proofs.Common.{◌≡◌, Result, Ok, Err, sym, ap, subst}
use Rattle.std.specs.Result.{MatchResult}

-- two values of a struct that keeps a fact of one proof are one where they are one but for it
pub same_but : {V L : Type 0} (P : V → Type 0) → ((z : V) → IsProp (P z)) → (make : (z : V) → P z → L) → (v w : V) (p : P v) (q : P w) → v ≡ w → make v p ≡ make w q
same_but P once make v w p q e =
    let Q : _ → Type 0 = λ z. (p : P z) → make z p ≡ make w q in
    subst Q (sym e) (λ p. ap (make w) (once w p q)) p

-- an answer whose errors say that the view v inside is as it was, w, says so of the whole
pub refused_whole : {T E V L : Type 0} (Did : T → Type 0) (Told : E → Type 0) (P : V → Type 0) → ((z : V) → IsProp (P z)) → (make : (z : V) → P z → L) → (v w : V) (p : P v) (q : P w) (x : Result T E)
    → MatchResult x Did (λ f. Told f × (v ≡ w)) → MatchResult x Did (λ f. Told f × (make v p ≡ make w q))
refused_whole Did Told P once make v w p q (Ok y) said = said
refused_whole Did Told P once make v w p q (Err f) said = (said.0, same_but P once make v w p q said.1)

-- One code more is read of a text. Assumes nothing.
use Rattle.std.proofs.Common.{◌≡◌, ℕ, true, List, [], ◌∷◌, ◌++◌, arith}
use lib.Utf8.{scalar, scalars}
use Rattle.std.proofs.lemmas.Grind.{common_steps}

pub scalars_push : (cs : List ℕ) (c : ℕ) → scalars cs ≡ true → scalar c ≡ true → scalars (cs ++ c ∷ []) ≡ true
scalars_push [] c all last = grind (arith, common_steps)
scalars_push (d ∷ cs) c all last = grind (arith, common_steps, scalars_push cs c)

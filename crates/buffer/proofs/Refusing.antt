-- What an edit that is not refused meets. Assumes nothing.
use Rattle.std.proofs.Common.{◌≡◌, ℕ, ◌+◌, ◌-◌, ◌≤◌, List, length, None, arith}
use Rattle.std.proofs.lemmas.Bool.Decides.{nat_tests}
use Rattle.buffer.specs.Refusals.{edit_refusal}

module _ (n spare a r : ℕ) (w : List ℕ) (taken : edit_refusal n spare a r w ≡ None) where
  pub edit_inside : a + r ≤ n
  edit_inside =
      let h : a ≤ n = grind (arith, nat_tests) in
      let k : r ≤ n - a = grind (arith, nat_tests) in
      omega arith

  pub edit_fits : length w ≤ spare
  edit_fits = grind (arith, nat_tests)

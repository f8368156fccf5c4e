use Rattle.std.proofs.Common.{◌≡◌, ℕ, ◌<◌, List, length, Bool, Ok, Err, Result, Decides, rules, arith, tests}
use Rattle.std.specs.Prelude.{slice_index}
use Rattle.std.specs.Result.{result_eq}
use lib.Dec.{eqb}
use Rattle.buffer.specs.declared.fault.BufferFault.{BufferFault}
use Rattle.buffer.specs.Edits.{CodeAt}
use Rattle.document.proofs.Standing.{decides_no}
use Rattle.document.proofs.find.has_code.Goals as goal

answered : (d : List ℕ) (i code : ℕ) (same : BufferFault → BufferFault → Bool) (x : Result ℕ BufferFault) → CodeAt d i x → Decides (result_eq eqb same x (Ok code)) ((i < length d) × (slice_index d i ≡ code))
answered d i code same (Ok found) h = search (rules, tests)
answered d i code same (Err fault) h = decides_no (λ p. omega arith)

pub returns : goal.returns
returns g c = rw c.eq.ensures (answered _ c.args.at c.args.code _ c.code.result c.code.ensures)

use Rattle.std.proofs.Common.{arith}
use Rattle.std.proofs.lemmas.Grind.{common_steps}
use Rattle.codes.proofs.Decoding.{tells_of}
use Rattle.codes.proofs.utf8.decode.Goals as goal

pub returns-clause-tells : goal.returns-clause-tells
returns-clause-tells c = tells_of c.args.bytes.now c.tail.result (grind (arith, common_steps))

pub returns-in_err-lead-clause-tells : goal.returns-in_err-lead-clause-tells
returns-in_err-lead-clause-tells c = tells_of c.args.bytes.now c.from_residual.result (grind (arith, common_steps))

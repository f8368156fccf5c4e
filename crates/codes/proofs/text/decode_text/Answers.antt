use Rattle.std.proofs.Common.{rules, arith}
use Rattle.std.proofs.lemmas.Grind.{common_steps}
use Rattle.std.proofs.lemmas.Str.{encodes-append, encodes_same}
use Rattle.codes.proofs.Reading.{scalars_push}
use Rattle.codes.proofs.text.decode_text.Goals as goal

pub loop-code-preserved : goal.loop-code-preserved
loop-code-preserved c = grind (arith, common_steps, scalars_push, encodes-append)

pub returns-in-Err-End : goal.returns-in-Err-End
returns-in-Err-End c = search (rules, encodes_same)

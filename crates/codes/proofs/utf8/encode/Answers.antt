-- The bytes of each range are those of `bytes_of` (proofs.Encoding).
use Rattle.std.proofs.Common.{arith}
use Rattle.std.proofs.lemmas.Bool.Decides.{nat_tests}
use Rattle.codes.proofs.Encoding.{encode_2, encode_3, encode_4}
use Rattle.codes.proofs.utf8.encode.Goals as goal

pub returns-in-128-to-2047-clause-value : goal.returns-in-128-to-2047-clause-value
returns-in-128-to-2047-clause-value c = grind (arith, nat_tests, encode_2)

pub returns-in-2048-to-65535-clause-value : goal.returns-in-2048-to-65535-clause-value
returns-in-2048-to-65535-clause-value c = grind (arith, nat_tests, encode_3)

pub returns-in-65536-to-1114111-clause-value : goal.returns-in-65536-to-1114111-clause-value
returns-in-65536-to-1114111-clause-value c = grind (arith, nat_tests, encode_4)

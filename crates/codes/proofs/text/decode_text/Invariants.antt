use Rattle.std.proofs.Common.{◌≡◌, true, ◌++◌, length, vec_items}
use lib.Utf8.{scalars, encodes}
use Rattle.codes.proofs.text.decode_text.Given as goal

-- the codes so far are written as the bytes in front of what is left
abbrev pub invariant-loop-code : goal.invariant-loop-code
invariant-loop-code l = (scalars (vec_items l.codes) ≡ true) × (encodes (vec_items l.codes) ++ l.rest ≡ l.bytes)

abbrev pub decreases-loop-code : goal.decreases-loop-code
decreases-loop-code l = length l.rest

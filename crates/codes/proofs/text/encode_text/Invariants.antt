use Rattle.std.proofs.Common.{◌≡◌, ◌+◌, ◌++◌, drop, string_bytes}
use lib.Utf8.{scalar, scalars, encodes}
use Rattle.std.specs.List.{prefix_len}
use Rattle.codes.proofs.text.encode_text.Given as goal

-- what is left says all that is not known yet
abbrev pub invariant-loop-at : goal.invariant-loop-at
invariant-loop-at l =
    let rest = drop l.at l.codes in
    (scalars l.codes ≡ scalars rest) ×
    (encodes l.codes ≡ string_bytes l.text ++ encodes rest) ×
    (prefix_len scalar l.codes ≡ l.at + prefix_len scalar rest)

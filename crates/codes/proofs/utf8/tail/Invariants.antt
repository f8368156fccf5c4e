use Rattle.std.proofs.Common.{◌≡◌, ◌+◌, ◌≤◌, false, length}
use Rattle.codes.specs.Utf8.{tail_of}
use Rattle.codes.proofs.utf8.tail.Given as goal

-- what is left of the bytes gives the answer, and each byte adds six bits to the code
abbrev pub invariant-loop-i : goal.invariant-loop-i
invariant-loop-i l =
    let left = l.i-iterator.iter in
    let i = l.i-iterator.count in
    (tail_of left.n l.allowed.start l.allowed.end l.code (i + 1) left.iter.rest.now ≡ tail_of l.lead.count l.lead.low l.lead.high l.lead.bits 1 l.bytes) ×
    (i + left.n ≡ l.lead.count) ×
    (i + length left.iter.rest.now ≡ length l.bytes) ×
    (l.allowed.exhausted ≡ false) ×
    (128 ≤ l.allowed.start) ×
    (l.allowed.end ≤ 191) ×
    (i ≤ 0 → l.code ≤ 127) ×
    (i ≤ 1 → l.code ≤ 8191) ×
    (i ≤ 2 → l.code ≤ 524287)

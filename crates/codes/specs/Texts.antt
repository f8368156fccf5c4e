-- What is said of a text that is read into codes, and of codes that are written as a text. Assumes nothing.
use Rattle.std.specs.Prelude.{◌≡◌, ℕ, ◌+◌, ◌<◌, true, List, ◌++◌, length, Result, Ok, Err}
use Rattle.std.proofs.Math.Utf8.{scalar, scalars, encodes}
use Rattle.std.specs.List.{prefix_len}
use Rattle.codes.specs.Utf8.{decoded}
use Rattle.codes.specs.declared.utf8.Decoded.{Decoded}
use Rattle.codes.specs.declared.utf8.DecodeFault.{DecodeFault}
use Rattle.codes.specs.declared.utf8.DecodeFault.TheVariants.{Bad, Cut, End}
use Rattle.codes.specs.declared.text.TextFault.{TextFault}
use Rattle.codes.specs.declared.text.TextFault.TheVariants as fault

-- cs are the codes of the bytes bs, and no other list is
abbrev pub ReadAs : List ℕ → List ℕ → Type 0
ReadAs bs cs = (scalars cs ≡ true) × (encodes cs ≡ bs) × ((other : List ℕ) → encodes other ≡ bs → other ≡ cs)

-- where reading stops in n bytes, when it comes to `start` and finds no code there
abbrev pub StopsAt : ℕ → ℕ → Result Decoded DecodeFault → ℕ → Type 0
StopsAt start n (Ok d) at = ⊥
StopsAt start n (Err (Bad k)) at = at ≡ start + k
StopsAt start n (Err Cut) at = at ≡ n
StopsAt start n (Err End) at = ⊥

-- a front of the bytes is a text, and what follows it begins with no code: `at` is the first byte that no text has
-- there, or the number of the bytes where they end inside a code
abbrev pub UnreadAt : List ℕ → ℕ → Type 0
UnreadAt bs at = (cs rest : List ℕ) × ((scalars cs ≡ true) × (encodes cs ++ rest ≡ bs) × StopsAt (length (encodes cs)) (length bs) (decoded rest) at)

-- why bytes are not read
abbrev pub Unread : List ℕ → TextFault → Type 0
Unread bs (fault.Bad at) = UnreadAt bs at
Unread bs fault.NoMemory = Unit {0}

-- why codes are not written
abbrev pub Unwritten : List ℕ → TextFault → Type 0
Unwritten cs (fault.Bad at) = (at ≡ prefix_len scalar cs) × (at < length cs)
Unwritten cs fault.NoMemory = Unit {0}

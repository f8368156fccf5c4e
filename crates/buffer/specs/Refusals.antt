-- What each fault of a buffer stands for, and which calls are refused with which. Assumes nothing.
use Rattle.std.specs.Prelude.{◌≡◌, ℕ, ◌-◌, cond, ◌&&◌, List, length, take, Some, None, Option, Result, MatchResult, ◌==◌, nat_le, nat_lt}
use Rattle.std.specs.List.{prefix_len}
use Rattle.codes.specs.Codes.{is_document_code}
use Rattle.buffer.specs.declared.fault.BufferFault.{BufferFault}
use Rattle.buffer.specs.declared.fault.BufferFault.TheVariants.{PastEnd, EmptyEdit, BadCode, NoSpare, TooManyCells}
use Rattle.buffer.specs.declared.fault.Refusal.{Refusal}

-- a cause and its spot, as told to a host that called the buffer itself
abbrev pub told : ℕ → ℕ → Refusal
told cause at = record { number = cause; layer = 0; spot = at }

abbrev pub refusal_of : BufferFault → Refusal
refusal_of (PastEnd place) = told 1 place
refusal_of (EmptyEdit place) = told 2 place
refusal_of (BadCode index) = told 3 index
refusal_of (NoSpare spare) = told 4 spare
refusal_of (TooManyCells cells) = told 13 cells

-- the first of these codes that no document holds
abbrev pub codes_refusal : List ℕ → Option Refusal → Option Refusal
codes_refusal w otherwise = cond (nat_lt (prefix_len is_document_code w) (length w)) (Some (told 3 (prefix_len is_document_code w))) otherwise

-- why a document of n codes that takes `spare` more refuses w in the place of the r codes at a
abbrev pub edit_refusal : ℕ → ℕ → ℕ → ℕ → List ℕ → Option Refusal
edit_refusal n spare a r w =
    cond (nat_le a n && nat_le r (n - a))
    (cond (r == 0 && length w == 0)
    (Some (told 2 a))
    (codes_refusal w
    (cond (nat_le (length w) spare) None (Some (told 4 spare)))))
    (Some (told 1 a))

-- why the first n of these cells are not opened as a document, in a buffer that works in at most `most` cells
abbrev pub open_refusal : ℕ → List ℕ → ℕ → Option Refusal
open_refusal most cells n =
    cond (nat_le (length cells) most)
    (cond (nat_le n (length cells))
    (codes_refusal (take n cells) None)
    (Some (told 1 n)))
    (Some (told 13 (length cells)))

-- the answer of a check: passed where nothing is refused, else a fault that stands for the refusal
abbrev pub Checks : Option Refusal → Result (Unit {0}) BufferFault → Type 0
Checks refusal x = MatchResult x (λ _. refusal ≡ None) (λ f. refusal ≡ Some (refusal_of f))

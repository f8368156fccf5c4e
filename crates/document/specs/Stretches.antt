-- What handing out a stretch answers. Assumes nothing.
use Rattle.std.specs.Prelude.{◌≡◌, ℕ, ◌-◌, ◌<◌, ◌≤◌, List, length, take, drop, Ok, Err, vec_items, Result, Vec}
use Rattle.std.specs.declared.alloc.Global.{Global}
use Rattle.buffer.specs.Refusals.{refusal_of, told}
use Rattle.document.specs.declared.stretch.StretchFault.{StretchFault}
use Rattle.document.specs.declared.stretch.StretchFault.TheVariants.{Buffer, NoMemory}

-- why the stretch up to `to` of the document d is not handed out: d ends before it, or memory is short
abbrev pub Withheld : List ℕ → ℕ → StretchFault → Type 0
Withheld d to (Buffer f) = (length d < to) × (refusal_of f ≡ told 1 to)
Withheld d to NoMemory = Unit {0}

abbrev pub Hands : List ℕ → ℕ → ℕ → Result (Vec ℕ Global) StretchFault → Type 0
Hands d from to (Ok v) = (to ≤ length d) × (vec_items v ≡ take (to - from) (drop from d))
Hands d from to (Err f) = Withheld d to f

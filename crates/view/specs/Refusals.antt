-- What each fault of a view stands for. Assumes nothing.
use Rattle.std.specs.Prelude.{ℕ, ◌+◌, min, Bool, cond, List, [], ◌∷◌, Some, None, Option}
use Rattle.buffer.specs.declared.fault.Refusal.{Refusal}
use Rattle.buffer.specs.Refusals.{refusal_of, told}
use Rattle.view.specs.declared.fault.Cause.{Cause}
use Rattle.view.specs.declared.fault.Cause.TheVariants.{Buffer, PastEnd, NoLayer, OtherVerb, OutOfRange, BadCode, BadFold, NoRecord, TableFull, Asleep}
use Rattle.view.specs.declared.fault.ViewFault.{ViewFault}

-- the number and spot of a cause
abbrev pub cause_refusal : Cause → Refusal
cause_refusal (Buffer f) = refusal_of f
cause_refusal (PastEnd place) = told 1 place
cause_refusal (NoLayer steps) = told 6 steps
cause_refusal (OtherVerb verb) = told 7 verb
cause_refusal (OutOfRange value) = told 8 value
cause_refusal (BadCode index) = told 3 index
cause_refusal (BadFold place) = told 10 place
cause_refusal (NoRecord place) = told 11 place
cause_refusal (TableFull kept) = told 9 kept
cause_refusal Asleep = told 12 0

-- a refusal as one that arose so many layers below; what lies deeper than 254 is told as 254
abbrev pub at_layer : ℕ → Refusal → Refusal
at_layer n r = record { number = r.number; layer = min n 254; spot = r.spot }

abbrev pub view_refusal : ViewFault → Refusal
view_refusal f = record { number = (cause_refusal f.cause).number; layer = f.layer; spot = (cause_refusal f.cause).spot }

-- a fault of the view below, as it rises
abbrev pub deeper : ViewFault → ViewFault
deeper f = record { cause = f.cause; layer = min (f.layer + 1) 254 }

-- a fault with the steps of the order that it refuses, where it refuses one for a layer that is not there
abbrev pub with_steps : ℕ → Cause → Cause
with_steps k (Buffer f) = Buffer f
with_steps k (PastEnd place) = PastEnd place
with_steps k (NoLayer steps) = NoLayer k
with_steps k (OtherVerb verb) = OtherVerb verb
with_steps k (OutOfRange value) = OutOfRange value
with_steps k (BadCode index) = BadCode index
with_steps k (BadFold place) = BadFold place
with_steps k (NoRecord place) = NoRecord place
with_steps k (TableFull kept) = TableFull kept
with_steps k Asleep = Asleep

abbrev pub meant_for : ℕ → ViewFault → ViewFault
meant_for k f = record { cause = with_steps k f.cause; layer = f.layer }

-- the first cause of a list that holds
abbrev pub first_cause : List (Bool × Refusal) → Option Refusal
first_cause [] = None
first_cause (c ∷ cs) = cond c.0 (Some c.1) (first_cause cs)

-- The answer to putting a record into a table. Assumes nothing.
use Rattle.std.specs.Prelude.{◌≡◌, List, false, true, Result, MatchResult}
use Rattle.places.specs.Marks.{Mark, put}
use Rattle.buffer.specs.Refusals.{told}
use Rattle.view.specs.declared.fault.Cause.{Cause}
use Rattle.view.specs.Refusals.{cause_refusal}
use Rattle.view.specs.Layers.{most_records}
use Rattle.view.specs.Orders.{full}

-- m is put into the table t, now t', whose marks were ms and now are ms': not where it is full
abbrev pub Puts : {T : Type 0} → Mark → List Mark → List Mark → T → T → Result (Unit {0}) Cause → Type 0
Puts m ms ms' t t' r =
    MatchResult r
    (λ _. (full ms ≡ false) × (ms' ≡ put m ms))
    (λ f. (full ms ≡ true) × (cause_refusal f ≡ told 9 most_records) × (t' ≡ t))

-- What a damage does, in terms of the rows alone. Assumes nothing.
use Rattle.std.specs.Prelude.{◌≡◌, ℕ, ◌+◌, ◌^◌, ◌<◌, ◌≤◌, List, length}
use Rattle.places.specs.declared.change.Change.{Change}
use Rattle.places.specs.Changes.{Kept}
use Rattle.lines.specs.Rows.{rows}
use Rattle.damage.specs.declared.damage.Damage.{Damage}
use Rattle.damage.specs.Damages.{ends_in, patched, damage_of, followed_by, capped}

abbrev pub RowsAreCounted : Type 0
RowsAreCounted = (t : List ℕ) → length (rows t) ≡ ends_in t + 1

-- a damage fits the rows before and after, and the rows before patched by it are the rows after
pub record Patches {X : Type 0} (before after : List X) (d : Damage) : Type 0 where
  pub old_fits : d.first + d.old ≤ length before
  pub new_fits : d.first + d.new ≤ length after
  pub gives : patched before after d.first d.old d.new ≡ after

-- a change of a text patches its rows
abbrev pub DamagePatches : Type 0
DamagePatches = (xs ys : List ℕ) (c : Change) → Kept xs ys c → Patches (rows xs) (rows ys) (damage_of ys (length (rows xs)) c)

-- two damages in a row patch as one
abbrev pub DamagesCompose : Type 0
DamagesCompose = (xs ys zs : List (List ℕ)) (d e : Damage) → Patches xs ys d → Patches ys zs e → Patches xs zs (followed_by d e)

-- and the one is never cut where the rows are fewer than 2^32
abbrev pub DamagesStayBelow : Type 0
DamagesStayBelow =
    (xs ys zs : List (List ℕ)) (d e : Damage) → Patches xs ys d → Patches ys zs e
    → length xs < 2 ^ 32 → length zs < 2 ^ 32 → capped (followed_by d e) ≡ followed_by d e

abbrev pub damage : ℕ → ℕ → ℕ → Damage
damage f p q = record { first = f; old = p; new = q }

abbrev pub WorkedExample : Type 0
WorkedExample = followed_by (damage 2 1 3) (damage 4 2 1) ≡ damage 2 2 3

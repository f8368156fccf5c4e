-- What a change of a text keeps. Assumes nothing.
use Rattle.std.specs.Prelude.{◌≡◌, ℕ, ◌+◌, ◌≤◌, List, length, take, drop}
use Rattle.places.specs.declared.change.Change.{Change}

-- after is before with the o elements behind the first s replaced by n others
pub record Keeps {X : Type 0} (before after : List X) (s o n : ℕ) : Type 0 where
  pub front : take s after ≡ take s before
  pub back : drop (s + n) after ≡ drop (s + o) before
  pub old_fits : s + o ≤ length before
  pub new_fits : s + n ≤ length after

-- the same of the change that a call answers
abbrev pub Kept : {X : Type 0} → List X → List X → Change → Type 0
Kept before after c = Keeps before after c.start c.old c.new

-- The rows of a text counted by their ends, and the rows that a change of the text damages. Assumes nothing.
use Rattle.std.specs.Prelude.{ℕ, suc, ◌+◌, ◌-◌, ◌^◌, min, max, cond, List, [], ◌∷◌, ◌++◌, length, take, drop}
use Rattle.codes.specs.Codes.{is_row_end}
use Rattle.places.specs.declared.change.Change.{Change}
use Rattle.lines.specs.Rows.{rows}
use Rattle.damage.specs.declared.damage.Damage.{Damage}

abbrev pub ends_in : List ℕ → ℕ
ends_in [] = 0
ends_in (x ∷ xs) = cond (is_row_end x) (suc (ends_in xs)) (ends_in xs)

-- the row ends among the first v codes: the number of the row that holds the place v
abbrev pub ends_before : List ℕ → ℕ → ℕ
ends_before t v = ends_in (take v t)

-- old with the p elements behind its first f replaced by the q elements of new that stand there
abbrev pub patched : {X : Type 0} → List X → List X → ℕ → ℕ → ℕ → List X
patched old new f p q = (take f old ++ take q (drop f new)) ++ drop (f + p) old

-- the rows of the text t that the change c put in, from the row where it begins to the row where it ends
abbrev pub new_rows : List ℕ → Change → ℕ
new_rows t c = ends_before t (c.start + c.new) - ends_before t c.start + 1

-- the damage that the change c did, where t is the text after it and the text before it had so many rows
abbrev pub damage_of : List ℕ → ℕ → Change → Damage
damage_of t rows_before c = record { first = ends_before t c.start; old = new_rows t c + rows_before - length (rows t); new = new_rows t c }

-- where two damages in a row begin, and where they end in the rows between the two
abbrev pub joint_first : Damage → Damage → ℕ
joint_first d e = min d.first e.first

abbrev pub joint_end : Damage → Damage → ℕ
joint_end d e = max (d.first + d.new) (e.first + e.old)

-- the damage d and then the damage e, as one
abbrev pub followed_by : Damage → Damage → Damage
followed_by d e =
    record {
      first = joint_first d e;
      old = joint_end d e - d.new + d.old - joint_first d e;
      new = joint_end d e - e.old + e.new - joint_first d e;
    }

-- numbers past the largest of 32 bits cut to that
abbrev pub capped : Damage → Damage
capped d = record { first = d.first; old = min d.old (2 ^ 32 - 1); new = min d.new (2 ^ 32 - 1) }

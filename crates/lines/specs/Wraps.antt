-- Soft wrap: a long line is cut into rows by soft breaks. Assumes nothing.
use Rattle.std.specs.Prelude.{ℕ, ◌+◌, ◌-◌, Bool, cond, ◌||◌, List, [], ◌∷◌, length, take, drop, ◌==◌, nat_le, nat_lt}
use Rattle.codes.specs.Codes.{is_row_end, soft_break}
use Rattle.lines.specs.Lines.{line_rest, behind_last}
use Rattle.lines.specs.Tabs.{space}
use Rattle.lines.specs.Transducers.{Transducer}

abbrev pub is_space : ℕ → Bool
is_space x = x == space

-- how many codes the next row takes of l, the rest of a line: all if they fit the width w; else those up to and with the
-- last space among the next w, or w where there is none
abbrev pub row_length : ℕ → List ℕ → ℕ
row_length w l = cond (nat_le (length l) w) (length l) (cond (behind_last is_space (take w l) == 0) w (behind_last is_space (take w l)))

-- where a row that begins at the place p of a text ends
abbrev pub row_end : ℕ → List ℕ → ℕ → ℕ
row_end w xs p = p + row_length w (line_rest (drop p xs))

-- the state is how many codes the row still takes, which a rule says at its start of the rest of the line; a soft break
-- goes in front of the code that the row has no more room for
abbrev pub soft_wrap : (List ℕ → ℕ) → Transducer
soft_wrap rule = record {
  start = λ xs. rule (line_rest xs);
  show = λ k x. cond (is_row_end x || nat_lt 0 k) (x ∷ []) (soft_break ∷ x ∷ []);
  next = λ k x xs. cond (is_row_end x) (rule (line_rest xs)) (cond (nat_lt 0 k) (k - 1) (rule (x ∷ line_rest xs) - 1));
}

-- Tab stops: a tab is shown as spaces up to the next stop of its line. Assumes nothing.
use Rattle.std.specs.Prelude.{ℕ, ◌+◌, ◌-◌, ◌%◌, cond, List, [], ◌∷◌, length, replicate, ◌==◌}
use Rattle.codes.specs.Codes.{is_row_end}
use Rattle.lines.specs.Transducers.{Transducer}

abbrev pub tab : ℕ
tab = 9

abbrev pub space : ℕ
space = 32

-- what a code in column c shows, where a stop stands at every w-th column: of a tab never nothing
abbrev pub tab_shown : ℕ → ℕ → ℕ → List ℕ
tab_shown w c x = cond (x == tab) (replicate (w - c % w) space) (x ∷ [])

-- the state is the column in the line that is shown
abbrev pub tab_stops : ℕ → Transducer
tab_stops w = record {
  start = λ _. 0;
  show = λ c x. tab_shown w c x;
  next = λ c x _. cond (is_row_end x) 0 (c + length (tab_shown w c x));
}

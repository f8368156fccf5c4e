-- What a walk over the text below needs. Assumes nothing.
use Rattle.std.specs.Prelude.{◌≡◌, ℕ, ◌+◌, ◌-◌, ◌≤◌, max, List, length}
use Rattle.places.specs.declared.change.Change.{Change}
use Rattle.lines.specs.Lines.{line_end}
use Rattle.lines.specs.Transducers.{Transducer, text_by, reach_by}
use Rattle.view.specs.declared.view.Meaning.{Ghosts as Eyes}
use Rattle.view.specs.Seen.{text_at}

-- the view below is sound, and neither its text nor what is shown of it is too long to count
pub record Walkable {V : Type 0} (e : Eyes V) (v : V) (m : Transducer) : Type 0 where
  pub sound : e.sound v
  pub low : length (text_at e v) ≤ 1073741824
  pub high : length (text_by m (text_at e v)) ≤ 1073741824

-- a state is a width at most, or grows with what is shown, so that it can be counted where that can
pub record Bounded (m : Transducer) : Type 0 where
  pub start_small : (xs : List ℕ) → m.start xs ≤ 1024
  pub next_small : (k x : ℕ) (xs : List ℕ) → m.next k x xs ≤ max 1024 (k + length (m.show k x))

-- own is the change of a text that had len codes, where it is shown anew from the place s of it on
pub record ByNew (m : Transducer) (ys : List ℕ) (c : Change) (len s : ℕ) (own : Change) : Type 0 where
  pub start : own.start ≡ s
  pub old : own.old ≡ len - (length (text_by m ys) - reach_by m ys (line_end ys (c.start + c.new))) - own.start
  pub new : own.new ≡ reach_by m ys (line_end ys (c.start + c.new)) - own.start

-- With a width that a layer takes the states of its scan can be counted, and so can what it shows. Assumes nothing.
use Rattle.std.specs.Prelude.{◌≡◌, ℕ, ◌*◌, ◌≤◌, ◌∷◌, length, None}
use Rattle.std.proofs.Common.{arith}
use Rattle.std.proofs.lemmas.Bool.Decides.{nat_tests}
use Rattle.places.specs.declared.change.Change.{Change}
use Rattle.lines.specs.Lines.{line_rest}
use Rattle.lines.specs.Tabs.{tab_stops}
use Rattle.lines.specs.Transducers.{Transducer, text_by}
use Rattle.lines.specs.Wraps.{row_length, soft_wrap}
use Rattle.lines.proofs.Scanning.{text_grows}
use Rattle.lines.proofs.Steadiness.{tabs_shown_le, wrap_shown_le}
use Rattle.lines.proofs.Wrapping.{row_most}
use Rattle.view.specs.declared.view.Meaning.{Ghosts as Eyes}
use Rattle.view.specs.Seen.{text_at}
use Rattle.view.specs.Layers.{tabs, wrap}
use Rattle.view.specs.Kinds.{Over, Behind}
use Rattle.view.specs.declared.order.Order.{Order}
use Rattle.view.specs.Orders.{width_causes}
use Rattle.view.specs.Refusals.{first_cause}
use Rattle.linewise.specs.Scans.{Bounded, Walkable}

pub tabs_bounded : (w : ℕ) → Bounded (tab_stops w)
tabs_bounded w = record { start_small = λ xs. omega arith; next_small = λ k x xs. grind (arith, nat_tests) }

pub wrap_bounded : (w : ℕ) → w ≤ 1024 → Bounded (soft_wrap (row_length w))
wrap_bounded w h = record {
  start_small = λ xs. omega (arith, row_most w (line_rest xs));
  next_small = λ k x xs. let a = row_most w (line_rest xs) in let b = row_most w (x ∷ line_rest xs) in grind (arith, nat_tests);
}

-- a text can be counted, and so can what is shown of it, when each of its codes becomes f at most
pub short : {V : Type 0} (e : Eyes V) (v : V) (m : Transducer) (f : ℕ) → ((k x : ℕ) → length (m.show k x) ≤ f)
    → length (text_at e v) ≤ 1073741824 → f * length (text_at e v) ≤ 1073741824
    → (length (text_at e v) ≤ 1073741824) × (length (text_by m (text_at e v)) ≤ 1073741824)
short e v m f few low room = (low, omega (arith, text_grows m f few (text_at e v)))

-- a sound view can be gone through whose text can still be counted when each of its codes becomes f
pub walkable : {V : Type 0} (e : Eyes V) (v : V) (m : Transducer) (f : ℕ) → ((k x : ℕ) → length (m.show k x) ≤ f)
    → e.sound v → length (text_at e v) ≤ 1073741824 → f * length (text_at e v) ≤ 1073741824 → Walkable e v m
walkable e v m f few sound low room = let s = short e v m f few low room in record { sound = sound; low = s.0; high = s.1 }

-- a width within the range is not refused
pub width_taken : (low high : ℕ) (o : Order) → low ≤ o.x → o.x ≤ high → first_cause (width_causes low high o) ≡ None
width_taken low high o a b = grind (arith, nat_tests)

module _ {V : Type 0} (e : Eyes V) (v : V) where
  -- with any width that the kind takes
  tabs_walk : (w : ℕ) → 1 ≤ w → w ≤ 16 → e.sound v → length (text_at e v) ≤ 1073741824 → 16 * length (text_at e v) ≤ 1073741824 → Walkable e v (tab_stops w)
  tabs_walk w a b = walkable e v (tab_stops w) 16 (λ k x. tabs_shown_le w k x b a)

  wrap_walk : (w : ℕ) → e.sound v → length (text_at e v) ≤ 1073741824 → 2 * length (text_at e v) ≤ 1073741824 → Walkable e v (soft_wrap (row_length w))
  wrap_walk w = walkable e v (soft_wrap (row_length w)) 2 (wrap_shown_le (row_length w))

  pub tabs_over : (w x : ℕ) → 1 ≤ x → x ≤ 16 → Over e v (tabs w) → Walkable e v (tab_stops x)
  tabs_over w x a b o = tabs_walk x a b o.sound o.low o.room

  pub wrap_over : (w x : ℕ) → Over e v (wrap w) → Walkable e v (soft_wrap (row_length x))
  wrap_over w x o = wrap_walk x o.sound o.low o.room

  pub tabs_behind : (w : ℕ) (c : Change) → Behind e v (tabs w) c → Walkable e v (tab_stops w)
  tabs_behind w c b = tabs_walk w b.fit.0 b.fit.1 b.sound b.low b.room

  pub wrap_behind : (w : ℕ) (c : Change) → Behind e v (wrap w) c → Walkable e v (soft_wrap (row_length w))
  wrap_behind w c b = wrap_walk w b.sound b.low b.room

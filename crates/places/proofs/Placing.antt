-- Marks in order: their parts, how they stand when they move, and the sums of what they take and show. Assumes nothing.
use Rattle.std.proofs.Common.{◌≡◌, ℕ, ◌+◌, ◌-◌, ◌<◌, ◌≤◌, List, [], ◌∷◌, ◌++◌, map, length, refl, ap, ◌∙◌, arith}
use Rattle.std.specs.List.{AllByRecursion}
use Rattle.places.specs.Marks.{Mark, past, Placed, taken_in, shown_in, moved, Light, Solid}

-- marks leave room for themselves
pub placed_room : (ms : List Mark) (p n : ℕ) → Placed p ms n → p + taken_in ms ≤ n
placed_room [] p n h = omega arith
placed_room (m ∷ ms) p n h = let rest = placed_room ms (past m) n h.2 in omega arith

pub placed_le : (ms : List Mark) (p n : ℕ) → Placed p ms n → p ≤ n
placed_le ms p n h = omega (arith, placed_room ms p n h)

pub placed_from : (ms : List Mark) (p q n : ℕ) → Placed q ms n → p ≤ q → Placed p ms n
placed_from [] p q n h l = omega arith
placed_from (m ∷ ms) p q n h l = (omega arith, h.1, h.2)

-- marks up to the place c and marks from there on
pub placed-append : (a b : List Mark) (p c n : ℕ) → Placed p a c → Placed c b n → Placed p (a ++ b) n
placed-append [] b p c n ha hb = placed_from b p c n hb ha
placed-append (m ∷ a) b p c n ha hb = (ha.0, ha.1, placed-append a b (past m) c n ha.2 hb)

-- the marks about one of them
pub placed_parts : (a b : List Mark) (m : Mark) (p n : ℕ) → Placed p (a ++ (m ∷ b)) n → Placed p a m.at × (0 < length m.shows) × Placed (past m) b n
placed_parts [] b m p n h = (h.0, h.1, h.2)
placed_parts (x ∷ a) b m p n h = let rest = placed_parts a b m (past x) n h.2 in ((h.0, h.1, rest.0), rest.1, rest.2)

-- without one of them the others are in order
pub out_placed : (a b : List Mark) (m : Mark) (n : ℕ) → Placed 0 (a ++ (m ∷ b)) n → Placed 0 (a ++ b) n
out_placed a b m n h =
    let parts = placed_parts a b m 0 n h in
    placed-append a b 0 m.at n parts.0 (placed_from b m.at (past m) n parts.2 (omega arith))

-- marks that all move by as much as the text does
pub placed_moved : (ms : List Mark) (p q o n N M : ℕ) → q + o ≡ p + n → o ≤ p → M + o ≡ N + n → Placed p ms N → Placed q (map (moved o n) ms) M
placed_moved [] p q o n N M e l f h = omega arith
placed_moved (m ∷ ms) p q o n N M e l f h =
    (omega arith, h.1, placed_moved ms (past m) (past (moved o n m)) o n N M (omega arith) (omega arith) f h.2)

-- a move says by how much, not from where to where
pub moved_same : (ms : List Mark) (p N o n q r : ℕ) → Placed p ms N → o ≤ p → q ≤ p → r + o ≡ q + n → map (moved o n) ms ≡ map (moved q r) ms
moved_same [] p N o n q r h l k e = refl
moved_same (m ∷ ms) p N o n q r h l k e =
    let at : m.at + n - o ≡ m.at + r - q = omega arith in
    ap (λ z. record { at = z; takes = m.takes; shows = m.shows } ∷ map (moved o n) ms) at
    ∙ ap (λ z. moved q r m ∷ z) (moved_same ms (past m) N o n q r h.2 (omega arith) (omega arith) e)

pub moved_none : (ms : List Mark) (o : ℕ) → map (moved o o) ms ≡ ms
moved_none [] o = refl
moved_none (m ∷ ms) o =
    let at : m.at + o - o ≡ m.at = omega arith in
    ap (λ z. record { at = z; takes = m.takes; shows = m.shows } ∷ map (moved o o) ms) at
    ∙ ap (λ z. m ∷ z) (moved_none ms o)

-- the sums of marks in two parts
pub taken_in-append : (a b : List Mark) → taken_in (a ++ b) ≡ taken_in a + taken_in b
taken_in-append [] b = omega arith
taken_in-append (m ∷ a) b = let rest = taken_in-append a b in omega arith

pub shown_in-append : (a b : List Mark) → shown_in (a ++ b) ≡ shown_in a + shown_in b
shown_in-append [] b = omega arith
shown_in-append (m ∷ a) b = let rest = shown_in-append a b in omega arith

-- marks before a place begin before any place behind it, and marks that take something before the place itself
pub placed_before : (ms : List Mark) (p c d : ℕ) → Placed p ms c → c < d → AllByRecursion (λ m. m.at < d) ms
placed_before [] p c d h l = tt
placed_before (m ∷ ms) p c d h l = (omega (arith, placed_le ms (past m) c h.2), placed_before ms (past m) c d h.2 l)

pub solid_before : (ms : List Mark) (p c : ℕ) → Placed p ms c → Solid ms → AllByRecursion (λ m. m.at < c) ms
solid_before [] p c h g = tt
solid_before (m ∷ ms) p c h g = (omega (arith, placed_le ms (past m) c h.2, g.0), solid_before ms (past m) c h.2 g.1)

pub light_taken : (ms : List Mark) → Light ms → taken_in ms ≡ 0
light_taken [] g = refl
light_taken (m ∷ ms) g = let rest = light_taken ms g.1 in omega arith

-- One mark more or one less: the marks stay in order, and what the text above keeps. Assumes nothing.
use Rattle.std.proofs.Common.{◌≡◌, ℕ, ◌+◌, ◌<◌, ◌≤◌, List, [], ◌∷◌, ◌++◌, map, length, sym, refl, ap, subst, arith}
use Rattle.std.specs.List.{AllByRecursion}
use Rattle.places.specs.Changes.{Keeps}
use Rattle.places.specs.Maps.{first_of, last_of}
use Rattle.places.specs.Pieces.{shown_text, spans_of, under_by}
use Rattle.places.specs.Marks.{Mark, past, laid, Placed, taken_in, shown_in, moved, ended, unended, put, Light, Solid}
use Rattle.places.proofs.Placing.{placed_le, placed_from, placed-append, placed_parts, moved_none, solid_before}
use Rattle.places.proofs.Reaching.{first_by, last_by, first_is, last_is, first_cut, last_cut}
use Rattle.places.proofs.Keeping.{keeps_none}
use Rattle.places.proofs.Relaying.{relaid_keeps}
use Rattle.places.proofs.Splitting.{ended_split, ended_placed, light_beyond, light_unended}
use Rattle.places.proofs.Weighing.{solid_parts}

-- a mark put where the next one leaves room keeps the order
pub put_placed : (m : Mark) (ms : List Mark) (N : ℕ) → Placed 0 ms N → 0 < length m.shows → Placed (past m) (unended m.at ms) N → Placed 0 (put m ms) N
put_placed m ms N h s b =
    placed-append (ended m.at ms) (m ∷ unended m.at ms) 0 m.at N (ended_placed m.at 0 N ms h (omega arith)) (omega arith, s, b)

-- a hint among hints always has room
pub hint_room : (m : Mark) (ms : List Mark) (N : ℕ) → m.takes ≡ 0 → Light ms → Placed 0 ms N → m.at ≤ N → Placed (past m) (unended m.at ms) N
hint_room m ms N t g h l =
    let e : m.at ≡ past m = omega arith in
    subst (λ z. Placed z (unended m.at ms) N) e (light_unended m.at 0 N ms g h l)

put_keeps : (m : Mark) (ms : List Mark) (xs : List ℕ) → Placed 0 ms (length xs) → 0 < length m.shows → Placed (past m) (unended m.at ms) (length xs)
    → (i : ℕ) → i + taken_in (ended m.at ms) ≡ m.at + shown_in (ended m.at ms)
    → Keeps (shown_text (laid 0 ms xs)) (shown_text (laid 0 (put m ms) xs)) i m.takes (length m.shows)
put_keeps m ms xs h s hb i ei =
    let N : ℕ = length xs in
    let a : List Mark = ended m.at ms in
    let b : List Mark = unended m.at ms in
    let t : ℕ = m.takes in
    let le = placed_le b (past m) N hb in
    let same : map (moved t t) b ≡ b = moved_none b t in
    let base = relaid_keeps a [] (m ∷ []) b xs xs m.at t t (ended_placed m.at 0 N ms h (omega arith)) (omega arith) (omega arith, s, omega arith) hb
    (subst (λ z. Placed (past m) z N) (sym same) hb) (keeps_none xs m.at t le) i t (length m.shows) ei refl (omega arith) in
    subst (λ z. Keeps (shown_text (laid 0 z xs)) (shown_text (laid 0 (put m ms) xs)) i t (length m.shows)) (ended_split m.at ms)
    (subst (λ z. Keeps (shown_text (laid 0 (a ++ b) xs)) (shown_text (laid 0 (a ++ (m ∷ z)) xs)) i t (length m.shows)) same base)

-- a hint put: the text above grows by what it shows, at the last place over it
pub hint_put : (m : Mark) (ms : List Mark) (xs : List ℕ) → Light ms → Placed 0 ms (length xs) → m.takes ≡ 0 → 0 < length m.shows → m.at ≤ length xs
    → Keeps (shown_text (laid 0 ms xs)) (shown_text (laid 0 (put m ms) xs))
    (last_of (under_by (spans_of (laid 0 ms xs))) (length (shown_text (laid 0 ms xs))) m.at) 0 (length m.shows)
hint_put m ms xs g h t s l =
    let N : ℕ = length xs in
    let a : List Mark = ended m.at ms in
    let b : List Mark = unended m.at ms in
    let at : ℕ = last_of (under_by (spans_of (laid 0 ms xs))) (length (shown_text (laid 0 ms xs))) m.at in
    let at_is : last_by 0 ms m.at ≡ at = last_is ms xs h m.at l in
    let cut = last_cut a b 0 m.at (ended_placed m.at 0 N ms h (omega arith)) (light_beyond m.at ms g) in
    let e : last_by 0 (a ++ b) m.at ≡ last_by 0 ms m.at = ap (λ z. last_by 0 z m.at) (ended_split m.at ms) in
    subst (λ z. Keeps (shown_text (laid 0 ms xs)) (shown_text (laid 0 (put m ms) xs)) at z (length m.shows)) t
    (put_keeps m ms xs h s (hint_room m ms N t g h l) at (omega arith))

-- a fold put: what it takes gives way to what it shows, at the first place over it
pub fold_put : (m : Mark) (ms : List Mark) (xs : List ℕ) → Solid ms → Placed 0 ms (length xs) → 0 < length m.shows → Placed (past m) (unended m.at ms) (length xs)
    → Keeps (shown_text (laid 0 ms xs)) (shown_text (laid 0 (put m ms) xs))
    (first_of (under_by (spans_of (laid 0 ms xs))) (length (shown_text (laid 0 ms xs))) m.at) m.takes (length m.shows)
fold_put m ms xs g h s hb =
    let N : ℕ = length xs in
    let a : List Mark = ended m.at ms in
    let b : List Mark = unended m.at ms in
    let at : ℕ = first_of (under_by (spans_of (laid 0 ms xs))) (length (shown_text (laid 0 ms xs))) m.at in
    let le = placed_le b (past m) N hb in
    let at_is : first_by 0 ms m.at ≡ at = first_is ms xs h m.at (omega arith) in
    let solid = solid_parts a b (subst Solid (sym (ended_split m.at ms)) g) in
    let ha = ended_placed m.at 0 N ms h (omega arith) in
    let cut = first_cut a b 0 m.at N ha (solid_before a 0 m.at ha solid.0) (placed_from b m.at (past m) N hb (omega arith)) in
    let e : first_by 0 (a ++ b) m.at ≡ first_by 0 ms m.at = ap (λ z. first_by 0 z m.at) (ended_split m.at ms) in
    put_keeps m ms xs h s hb at (omega arith)

out_keeps : (a b : List Mark) (m : Mark) (xs : List ℕ) → Placed 0 a m.at → 0 < length m.shows → Placed (past m) b (length xs)
    → (i : ℕ) → i + taken_in a ≡ m.at + shown_in a
    → Keeps (shown_text (laid 0 (a ++ (m ∷ b)) xs)) (shown_text (laid 0 (a ++ b) xs)) i (length m.shows) m.takes
out_keeps a b m xs ha s hb i ei =
    let N : ℕ = length xs in
    let t : ℕ = m.takes in
    let le = placed_le b (past m) N hb in
    let same : map (moved t t) b ≡ b = moved_none b t in
    let base = relaid_keeps a (m ∷ []) [] b xs xs m.at t t ha (omega arith, s, omega arith) (omega arith) hb
    (subst (λ z. Placed (past m) z N) (sym same) hb) (keeps_none xs m.at t le) i (length m.shows) t ei (omega arith) refl in
    subst (λ z. Keeps (shown_text (laid 0 (a ++ (m ∷ b)) xs)) (shown_text (laid 0 (a ++ z) xs)) i (length m.shows) t) same base

-- a mark taken out, the first one at its place: what it shows gives way to what it takes, at the first place over it
pub mark_out : (a b : List Mark) (m : Mark) (xs : List ℕ) → Placed 0 (a ++ (m ∷ b)) (length xs) → AllByRecursion (λ x. x.at < m.at) a
    → Keeps (shown_text (laid 0 (a ++ (m ∷ b)) xs)) (shown_text (laid 0 (a ++ b) xs))
    (first_of (under_by (spans_of (laid 0 (a ++ (m ∷ b)) xs))) (length (shown_text (laid 0 (a ++ (m ∷ b)) xs))) m.at) (length m.shows) m.takes
mark_out a b m xs h before =
    let N : ℕ = length xs in
    let parts = placed_parts a b m 0 N h in
    let at : ℕ = first_of (under_by (spans_of (laid 0 (a ++ (m ∷ b)) xs))) (length (shown_text (laid 0 (a ++ (m ∷ b)) xs))) m.at in
    let le = placed_le b (past m) N parts.2 in
    let at_is : first_by 0 (a ++ (m ∷ b)) m.at ≡ at = first_is (a ++ (m ∷ b)) xs h m.at (omega arith) in
    let cut = first_cut a (m ∷ b) 0 m.at N parts.0 before (omega arith, parts.1, parts.2) in
    out_keeps a b m xs parts.0 parts.1 parts.2 at (omega arith)

-- among folds each is the first at its place
pub fold_out : (a b : List Mark) (m : Mark) (xs : List ℕ) → Solid (a ++ (m ∷ b)) → Placed 0 (a ++ (m ∷ b)) (length xs)
    → Keeps (shown_text (laid 0 (a ++ (m ∷ b)) xs)) (shown_text (laid 0 (a ++ b) xs))
    (first_of (under_by (spans_of (laid 0 (a ++ (m ∷ b)) xs))) (length (shown_text (laid 0 (a ++ (m ∷ b)) xs))) m.at) (length m.shows) m.takes
fold_out a b m xs g h =
    mark_out a b m xs h (solid_before a 0 m.at (placed_parts a b m 0 (length xs) h).0 (solid_parts a (m ∷ b) g).0)

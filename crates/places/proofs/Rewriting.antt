-- Pieces that each show something give a rising map, and the length of what they show. Assumes nothing.
use Rattle.std.proofs.Common.{◌≡◌, ℕ, ◌+◌, ◌-◌, ◌≤◌, true, cond, ltb, List, [], ◌∷◌, ◌++◌, length, sym, refl, ap, ◌∙◌, append_assoc, arith, length-append}
use Rattle.std.specs.List.{flat_map}
use Rattle.std.proofs.lemmas.Bool.Decides.{nat_tests}
use Rattle.places.specs.Maps.{first_of, last_of, Rises, Finds}
use Rattle.places.specs.Pieces.{Piece, Span, shown_text, spans_of, taken_by, shown_by, all_show, under_by, Rewrites}
use Rattle.places.proofs.Finding.{searches_find}

pub under_rises : (ps : List Span) (u v : ℕ) → u ≤ v → under_by ps u ≤ under_by ps v
under_rises [] u v h = omega arith
under_rises (p ∷ ps) u v h = let rest = under_rises ps (u - p.shows) (v - p.shows) (omega arith) in grind (arith, nat_tests)

pub under_start : (ps : List Span) → all_show ps ≡ true → under_by ps 0 ≡ 0
under_start [] s = refl
under_start (p ∷ ps) s = grind (arith, nat_tests)

pub under_end : (ps : List Span) → under_by ps (shown_by ps) ≡ taken_by ps
under_end [] = refl
under_end (p ∷ ps) = let rest = under_end ps in grind (arith, nat_tests)

-- spans in two parts: behind the first part the map goes on from what that part takes
pub under-append : (a b : List Span) (u : ℕ) → under_by (a ++ b) u ≡ cond (ltb u (shown_by a)) (under_by a u) (taken_by a + under_by b (u - shown_by a))
under-append [] b u = grind (arith, nat_tests)
under-append (p ∷ a) b u = let rest = under-append a b (u - p.shows) in grind (arith, nat_tests)

-- spans that rewrite n codes as t codes are a rising map
pub rewrites_rises : (ps : List Span) (t n : ℕ) → Rewrites ps t n → Rises (under_by ps) t n
rewrites_rises ps t n r = record {
  rises = λ u v h _. under_rises ps u v h;
  starts = under_start ps r.0;
  ends = ap (under_by ps) (sym r.1) ∙ under_end ps ∙ r.2;
}

-- the text above is as long as the spans say
pub length-shown : (ps : List Piece) → length (shown_text ps) ≡ shown_by (spans_of ps)
length-shown [] = refl
length-shown (p ∷ ps) = let rest = length-shown ps in grind (arith, length-append)

pub pieces_rewrite : (ps : List Piece) (n : ℕ) → all_show (spans_of ps) ≡ true → taken_by (spans_of ps) ≡ n → Rewrites (spans_of ps) (length (shown_text ps)) n
pieces_rewrite ps n s e = (s, sym (length-shown ps), e)

-- pieces that each show something, over n codes, have a map in which the searches meet their rules
pub pieces_find : (ps : List Piece) (n : ℕ) → all_show (spans_of ps) ≡ true → taken_by (spans_of ps) ≡ n
    → Finds (under_by (spans_of ps)) (first_of (under_by (spans_of ps)) (length (shown_text ps))) (last_of (under_by (spans_of ps)) (length (shown_text ps))) (length (shown_text ps)) n
pieces_find ps n s e =
    let t : ℕ = length (shown_text ps) in
    searches_find (under_by (spans_of ps)) t n (rewrites_rises (spans_of ps) t n (pieces_rewrite ps n s e))

pub joined-append : {X A : Type 0} (f : X → List A) (xs ys : List X) → flat_map f (xs ++ ys) ≡ flat_map f xs ++ flat_map f ys
joined-append f [] ys = refl
joined-append f (x ∷ xs) ys = ap (λ z. f x ++ z) (joined-append f xs ys) ∙ sym (append_assoc (f x) (flat_map f xs) (flat_map f ys))

-- pieces in two parts show two texts, one behind the other
pub shown-append : (a b : List Piece) → shown_text (a ++ b) ≡ shown_text a ++ shown_text b
shown-append a b = joined-append (λ p. p.shown) a b

-- The place map of a transducer and its two searches by how much is shown of the first codes, and one step of a walk
-- over the codes. Assumes nothing.
use Rattle.std.proofs.Common.{◌≡◌, ℕ, zero, suc, ◌+◌, ◌-◌, ◌*◌, ◌<◌, ◌≤◌, true, ◌↔◌, List, [], ◌∷◌, ◌++◌, length, get_or, take, drop, sym, refl, ap, ◌∙◌, arith, length-append, take-append-drop, take_all, drop-cons, drop-drop, take-add}
use Rattle.std.proofs.lemmas.List.{get_or_append_left, get_or-append_right}
use Rattle.std.proofs.lemmas.Bool.Decides.{nat_tests}
use Rattle.places.specs.Maps.{Finds}
use Rattle.places.specs.Pieces.{Piece, shown_text, spans_of, taken_by, all_show, under_by}
use Rattle.places.proofs.Rewriting.{pieces_find, shown-append}
use Rattle.lines.specs.Transducers.{Transducer, pieces_from, pieces_by, text_by, place_by, first_by, last_by, reach_by, Steady}

-- what is shown of two runs of pieces, one behind the other
shown_long : (ps qs : List Piece) → length (shown_text (ps ++ qs)) ≡ length (shown_text ps) + length (shown_text qs)
shown_long ps qs = ap length (shown-append ps qs) ∙ length-append (shown_text ps) (shown_text qs)

-- what is shown of the pieces before an index, of those behind it, and of some more
pub shown_rest : (ps : List Piece) (i : ℕ) → length (shown_text ps) ≡ length (shown_text (take i ps)) + length (shown_text (drop i ps))
shown_rest ps i = ap (λ z. length (shown_text z)) (sym (take-append-drop i ps)) ∙ shown_long (take i ps) (drop i ps)

pub shown_add : (ps : List Piece) (i a : ℕ) → length (shown_text (take (i + a) ps)) ≡ length (shown_text (take i ps)) + length (shown_text (take a (drop i ps)))
shown_add ps i a = ap (λ z. length (shown_text z)) (take-add i a ps) ∙ shown_long (take i ps) (take a (drop i ps))

module _ (m : Transducer) where
  -- each code is one piece
  pub length-pieces : (k : ℕ) (xs : List ℕ) → length (pieces_from m k xs) ≡ length xs
  length-pieces k [] = refl
  length-pieces k (x ∷ xs) = ap suc (length-pieces (m.next k x xs) xs)

  pub reach_none : (xs : List ℕ) → reach_by m xs 0 ≡ 0
  reach_none xs = refl

  pub reach_all : (xs : List ℕ) (l : ℕ) → length xs ≤ l → reach_by m xs l ≡ length (text_by m xs)
  reach_all xs l h = ap (λ z. length (shown_text z)) (take_all l (pieces_by m xs) (omega (arith, length-pieces (m.start xs) xs)))

  pub reach_le : (xs : List ℕ) (l : ℕ) → reach_by m xs l ≤ length (text_by m xs)
  reach_le xs l = omega (arith, shown_rest (pieces_by m xs) l)

  pub reach_rises : (xs : List ℕ) (i j : ℕ) → i ≤ j → reach_by m xs i ≤ reach_by m xs j
  reach_rises xs i j h =
      let sum : i + (j - i) ≡ j = omega arith in
      omega (arith, shown_add (pieces_by m xs) i (j - i), ap (reach_by m xs) sum)

  grows_from : (g : ℕ) → ((k x : ℕ) → length (m.show k x) ≤ g) → (k : ℕ) (xs : List ℕ) → length (shown_text (pieces_from m k xs)) ≤ g * length xs
  grows_from g h k [] = omega arith
  grows_from g h k (x ∷ xs) =
      let rest = grows_from g h (m.next k x xs) xs in
      let one = h k x in
      let both = length-append (m.show k x) (shown_text (pieces_from m (m.next k x xs) xs)) in
      omega arith

  -- if no code shows more than g, the text grows by at most that factor
  pub text_grows : (g : ℕ) → ((k x : ℕ) → length (m.show k x) ≤ g) → (xs : List ℕ) → length (text_by m xs) ≤ g * length xs
  text_grows g h xs = grows_from g h (m.start xs) xs

  taken_pieces : (k : ℕ) (xs : List ℕ) → taken_by (spans_of (pieces_from m k xs)) ≡ length xs
  taken_pieces k [] = refl
  taken_pieces k (x ∷ xs) = let rest = taken_pieces (m.next k x xs) xs in omega arith

  -- the places over the first l codes are those before what they show
  under_before : (k : ℕ) (xs : List ℕ) (l u : ℕ) → l ≤ length xs
      → (under_by (spans_of (pieces_from m k xs)) u < l) ↔ (u < length (shown_text (take l (pieces_from m k xs))))
  under_before k [] zero u h = (λ e. absurd (omega arith), λ e. absurd (omega arith))
  under_before k [] (suc l) u h = absurd (omega arith)
  under_before k (x ∷ xs) zero u h = (λ e. absurd (omega arith), λ e. absurd (omega arith))
  under_before k (x ∷ xs) (suc l) u h =
      let rest = under_before (m.next k x xs) xs l (u - length (m.show k x)) (omega arith) in
      let both = length-append (m.show k x) (shown_text (take l (pieces_from m (m.next k x xs) xs))) in
      (λ e. grind (arith, nat_tests), λ e. grind (arith, nat_tests))

module _ (m : Transducer) (law : Steady m) where
  all_show_lem : (k : ℕ) (xs : List ℕ) → all_show (spans_of (pieces_from m k xs)) ≡ true
  all_show_lem k [] = refl
  all_show_lem k (x ∷ xs) =
      let rest = all_show_lem (m.next k x xs) xs in
      let some = law.shows k x in
      grind (arith, nat_tests)

  pub scan_finds : (xs : List ℕ) → Finds (place_by m xs) (first_by m xs) (last_by m xs) (length (text_by m xs)) (length xs)
  scan_finds xs = pieces_find (pieces_by m xs) (length xs) (all_show_lem (m.start xs) xs) (taken_pieces m (m.start xs) xs)

  pub place_end : (xs : List ℕ) → place_by m xs (length (text_by m xs)) ≡ length xs
  place_end xs = (scan_finds xs).map.ends

  -- the first place over a code is behind all that is shown of the codes before it
  pub first_reach : (xs : List ℕ) (l : ℕ) → l ≤ length xs → first_by m xs l ≡ reach_by m xs l
  first_reach xs l h =
      let finds = scan_finds xs in
      let found = under_before m (m.start xs) xs l (first_by m xs l) h in
      let reached = under_before m (m.start xs) xs l (reach_by m xs l) h in
      let e₁ = finds.first_rule (first_by m xs l) l (finds.first_in l h) h in
      let e₂ = finds.first_rule (reach_by m xs l) l (reach_le m xs l) h in
      grind arith

  -- and the last one before the end of what is shown of it
  pub last_reach : (xs : List ℕ) (l : ℕ) → l < length xs → last_by m xs l ≡ reach_by m xs (suc l) - 1
  last_reach xs l h =
      let finds = scan_finds xs in
      let fits : l ≤ length xs = omega arith in
      let start = finds.map.starts in
      let up = reach_le m xs (suc l) in
      let u : ℕ = reach_by m xs (suc l) - 1 in
      let in_text : u ≤ length (text_by m xs) = omega arith in
      let found = under_before m (m.start xs) xs (suc l) (last_by m xs l) h in
      let none = under_before m (m.start xs) xs (suc l) 0 h in
      let reached = under_before m (m.start xs) xs (suc l) u h in
      let e₁ = finds.last_rule (last_by m xs l) l (finds.last_in l fits) fits in
      let e₂ = finds.last_rule u l in_text fits in
      grind arith

  pub last_end : (xs : List ℕ) → last_by m xs (length xs) ≡ length (text_by m xs)
  last_end xs =
      let finds = scan_finds xs in
      let fits : length xs ≤ length xs = omega arith in
      omega (arith, finds.last_in (length xs) fits, (finds.last_rule (length (text_by m xs)) (length xs) (omega arith) fits).1 (omega (arith, place_end xs)))

-- a walk over the codes of xs stands before the code i at the state k
abbrev pub Stands : Transducer → List ℕ → ℕ → ℕ → Type 0
Stands m xs i k = drop i (pieces_by m xs) ≡ pieces_from m k (drop i xs)

pub stands_none : (m : Transducer) (xs : List ℕ) → Stands m xs 0 (m.start xs)
stands_none m xs = refl

module _ (m : Transducer) (xs : List ℕ) (i k : ℕ) (l : i < length xs) (stands : Stands m xs i k) where
  -- the pieces from the code i on
  onward : drop i (pieces_by m xs) ≡ pieces_from m k (get_or xs i 0 ∷ drop (suc i) xs)
  onward = stands ∙ ap (pieces_from m k) (drop-cons xs i 0 l)

  pub stands_more : Stands m xs (suc i) (m.next k (get_or xs i 0) (drop (suc i) xs))
  stands_more =
      let sum : i + 1 ≡ suc i = omega arith in
      ap (λ z. drop z (pieces_by m xs)) (sym sum) ∙ sym (drop-drop 1 i (pieces_by m xs)) ∙ ap (drop 1) onward

  pub reach_more : reach_by m xs (suc i) ≡ reach_by m xs i + length (m.show k (get_or xs i 0))
  reach_more =
      let sum : i + 1 ≡ suc i = omega arith in
      omega (arith, ap (reach_by m xs) sum, shown_add (pieces_by m xs) i 1, ap (λ z. length (shown_text (take 1 z))) onward, length-append (m.show k (get_or xs i 0)) [])

module _ (m : Transducer) (xs : List ℕ) (i k : ℕ) (law : Steady m) (l : i < length xs) (stands : Stands m xs i k) where
  -- the places above in what is shown of the code i lie over it
  pub place_held : (u : ℕ) → reach_by m xs i ≤ u → u < reach_by m xs i + length (m.show k (get_or xs i 0))
      → (place_by m xs u ≡ i) × (get_or (text_by m xs) u 0 ≡ get_or (m.show k (get_or xs i 0)) (u - reach_by m xs i) 0)
  place_held u from to =
      let more = reach_more m xs i k l stands in
      let here = under_before m (m.start xs) xs i u (omega arith) in
      let past = under_before m (m.start xs) xs (suc i) u l in
      let ps : List Piece = pieces_by m xs in
      let halves : text_by m xs ≡ shown_text (take i ps) ++ shown_text (drop i ps) =
      ap shown_text (sym (take-append-drop i ps)) ∙ shown-append (take i ps) (drop i ps) in
      let later : List ℕ = shown_text (pieces_from m (m.next k (get_or xs i 0) (drop (suc i) xs)) (drop (suc i) xs)) in (
        grind arith,
        ap (λ z. get_or z u 0) halves ∙ get_or-append_right (shown_text (take i ps)) (shown_text (drop i ps)) (reach_by m xs i) u 0 refl from
            ∙ ap (λ z. get_or (shown_text z) (u - reach_by m xs i) 0) (onward m xs i k l stands)
            ∙ get_or_append_left (m.show k (get_or xs i 0)) later 0 (u - reach_by m xs i) (omega arith),
      )

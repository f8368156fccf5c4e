-- What a change of the text below makes of the text above: all stays but what is shown of the lines that it touches.
-- Assumes nothing.
use Rattle.std.proofs.Common.{◌≡◌, ℕ, zero, suc, ◌+◌, ◌-◌, ◌≤◌, List, [], ◌∷◌, ◌++◌, length, take, drop, sym, refl, ap, ◌∙◌, subst, ⊎_elim, arith, take-append-drop, length-take, drop-drop, take_at, drop_at}
use Rattle.std.proofs.lemmas.Bool.{cases_lt}
use Rattle.std.proofs.lemmas.Bool.Decides.{nat_tests}
use Rattle.codes.specs.Codes.{is_row_end}
use Rattle.places.specs.Changes.{Keeps}
use Rattle.places.specs.Pieces.{Piece, shown_text}
use Rattle.places.proofs.Rewriting.{shown-append}
use Rattle.lines.specs.Lines.{rest_length, behind_last, line_start, line_end}
use Rattle.lines.specs.Transducers.{Transducer, pieces_from, pieces_by, text_by, first_by, reach_by, Steady, Blind}
use Rattle.lines.proofs.Scanning.{shown_rest, shown_add, length-pieces, reach_le, reach_rises, first_reach}
use Rattle.lines.proofs.Lining.{line_end_fits, line_start_le, line_within, line_end_new, line_start_new}

-- the text that pieces show, at the start of one of them
shown_halves : (ps : List Piece) (i : ℕ) → shown_text ps ≡ shown_text (take i ps) ++ shown_text (drop i ps)
shown_halves ps i = ap shown_text (sym (take-append-drop i ps)) ∙ shown-append (take i ps) (drop i ps)

shown_front : (ps : List Piece) (i f : ℕ) → f ≡ length (shown_text (take i ps)) → take f (shown_text ps) ≡ shown_text (take i ps)
shown_front ps i f e = ap (take f) (shown_halves ps i) ∙ take_at (shown_text (take i ps)) (shown_text (drop i ps)) f (sym e)

shown_back : (ps : List Piece) (i f : ℕ) → f ≡ length (shown_text (take i ps)) → drop f (shown_text ps) ≡ shown_text (drop i ps)
shown_back ps i f e = ap (drop f) (shown_halves ps i) ∙ drop_at (shown_text (take i ps)) (shown_text (drop i ps)) f (sym e)

-- a change of pieces is one of the text that they show, from the place f up to the places e before and d after
shown_keeps : (ps qs : List Piece) (i a b f e d : ℕ) → Keeps ps qs i a b
    → f ≡ length (shown_text (take i ps)) → e ≡ length (shown_text (take (i + a) ps)) → d ≡ length (shown_text (take (i + b) qs))
    → Keeps (shown_text ps) (shown_text qs) f (e - f) (d - f)
shown_keeps ps qs i a b f e d k hf he hd =
    let same : f ≡ length (shown_text (take i qs)) = hf ∙ ap (λ z. length (shown_text z)) (sym k.front) in
    let old_end : f + (e - f) ≡ e = omega (arith, shown_add ps i a) in
    let new_end : f + (d - f) ≡ d = omega (arith, shown_add qs i b) in
    record {
      front = shown_front qs i f same ∙ ap shown_text k.front ∙ sym (shown_front ps i f hf);
      back =
          ap (λ z. drop z (shown_text qs)) new_end ∙ shown_back qs (i + b) d hd ∙ ap shown_text k.back
          ∙ sym (shown_back ps (i + a) e he) ∙ ap (λ z. drop z (shown_text ps)) (sym old_end);
      old_fits = omega (arith, shown_rest ps (i + a));
      new_fits = omega (arith, shown_rest qs (i + b));
    }

-- a text whose first s codes are those of another
front_of : (xs ys : List ℕ) (s : ℕ) → take s ys ≡ take s xs → take s xs ++ drop s ys ≡ ys
front_of xs ys s e = ap (λ z. z ++ drop s ys) (sym e) ∙ take-append-drop s ys

-- what a program subtracts when it tells a change above from the place f up to the place d after it, where the text
-- above was old codes long and is new codes long
pub record InOrder (old new f d : ℕ) : Type 0 where
  pub rises : f ≤ d
  pub within : d ≤ new
  pub room : new - d ≤ old
  pub covers : f ≤ old - (new - d)

module _ (m : Transducer) (law : Steady m) where
  -- from the next row end on, the state does not matter
  back_meets : (j k : ℕ) (xs : List ℕ) → drop (rest_length xs) (pieces_from m j xs) ≡ drop (rest_length xs) (pieces_from m k xs)
  back_meets j k [] = refl
  back_meets j k (x ∷ xs) =
      let rest = back_meets (m.next j x xs) (m.next k x xs) xs in
      let e₁ = law.plain j k x in
      let e₂ = law.anew j x xs in
      let e₃ = law.anew k x xs in
      grind (arith, nat_tests)

  -- up to the last row end of what stays, the rest does not matter
  front_meets : (k : ℕ) (a x y : List ℕ) → take (behind_last is_row_end a) (pieces_from m k (a ++ x)) ≡ take (behind_last is_row_end a) (pieces_from m k (a ++ y))
  front_meets k [] x y = refl
  front_meets k (c ∷ a) x y =
      let rest = front_meets (m.next k c (a ++ x)) a x y in
      let same = line_within a x y in
      let e = law.next_sees k c (a ++ x) (a ++ y) in
      grind (arith, nat_tests)

  front_start : (a x y : List ℕ) → take (behind_last is_row_end a) (pieces_by m (a ++ x)) ≡ take (behind_last is_row_end a) (pieces_by m (a ++ y))
  front_start a x y =
      ⊎_elim
      (λ some.
      front_meets (m.start (a ++ x)) a x y
      ∙ ap (λ z. take (behind_last is_row_end a) (pieces_from m z (a ++ y))) (law.start_sees (a ++ x) (a ++ y) (line_within a x y some)))
      (λ none. let z : behind_last is_row_end a ≡ 0 = omega arith in simp z)
      (cases_lt 0 (behind_last is_row_end a))

  -- the codes from i on are gone through from some state
  drop_pieces : (k : ℕ) (xs : List ℕ) (i : ℕ) → (j : ℕ) × (drop i (pieces_from m k xs) ≡ pieces_from m j (drop i xs))
  drop_pieces k xs zero = (k, refl)
  drop_pieces k [] (suc i) = (k, refl)
  drop_pieces k (x ∷ xs) (suc i) = drop_pieces (m.next k x xs) xs i

  -- two texts that are the same from p and from q on have the same pieces behind the line there
  back_same : (xs ys : List ℕ) (p q : ℕ) → drop p xs ≡ drop q ys → drop (line_end xs p) (pieces_by m xs) ≡ drop (line_end ys q) (pieces_by m ys)
  back_same xs ys p q e =
      let a = drop_pieces (m.start xs) xs p in
      let b = drop_pieces (m.start ys) ys q in
      sym (drop-drop (rest_length (drop p xs)) p (pieces_by m xs)) ∙ ap (drop (rest_length (drop p xs))) a.1 ∙ back_meets a.0 b.0 (drop p xs)
      ∙ ap (λ z. drop (rest_length z) (pieces_from m b.0 z)) e ∙ ap (drop (rest_length (drop q ys))) (sym b.1)
      ∙ drop-drop (rest_length (drop q ys)) q (pieces_by m ys)

  -- a change from a place i up to which the pieces are the same
  module _ (xs ys : List ℕ) (s o n : ℕ) (k : Keeps xs ys s o n) where
    old_end : line_end xs (s + o) ≤ length xs
    old_end = line_end_fits xs (s + o) k.old_fits

    new_end : line_end ys (s + n) ≤ length ys
    new_end = line_end_fits ys (s + n) k.new_fits

    -- as much is shown behind the line as before
    same_back : drop (line_end ys (s + n)) (pieces_by m ys) ≡ drop (line_end xs (s + o)) (pieces_by m xs)
    same_back = back_same ys xs (s + n) (s + o) k.back

    same_rest : length (text_by m xs) + reach_by m ys (line_end ys (s + n)) ≡ length (text_by m ys) + reach_by m xs (line_end xs (s + o))
    same_rest =
        omega (
          arith,
          shown_rest (pieces_by m xs) (line_end xs (s + o)),
          shown_rest (pieces_by m ys) (line_end ys (s + n)),
          ap (λ z. length (shown_text z)) same_back,
        )

    -- the end of the change above before it, by the text after it and the length before it
    pub end_by_new : first_by m xs (line_end xs (s + o)) ≡ length (text_by m xs) - (length (text_by m ys) - reach_by m ys (line_end ys (s + n)))
    end_by_new =
        omega (
          arith,
          first_reach m law xs (line_end xs (s + o)) old_end,
          same_rest,
          reach_le m xs (line_end xs (s + o)),
          reach_le m ys (line_end ys (s + n)),
        )

    module _ (i : ℕ) (l : i ≤ s) (same : take i (pieces_by m ys) ≡ take i (pieces_by m xs)) where
      pieces_keep : Keeps (pieces_by m xs) (pieces_by m ys) i (line_end xs (s + o) - i) (line_end ys (s + n) - i)
      pieces_keep =
          let ho : i + (line_end xs (s + o) - i) ≡ line_end xs (s + o) = omega arith in
          let hn : i + (line_end ys (s + n) - i) ≡ line_end ys (s + n) = omega arith in
          record {
            front = same;
            back = ap (λ z. drop z (pieces_by m ys)) hn ∙ same_back ∙ ap (λ z. drop z (pieces_by m xs)) (sym ho);
            old_fits = omega (arith, old_end, length-pieces m (m.start xs) xs);
            new_fits = omega (arith, new_end, length-pieces m (m.start ys) ys);
          }

      change_from : Keeps (text_by m xs) (text_by m ys) (first_by m xs i) (first_by m xs (line_end xs (s + o)) - first_by m xs i) (first_by m ys (line_end xs (s + o) + n - o) - first_by m xs i)
      change_from =
          let e : ℕ = line_end xs (s + o) in
          let d : ℕ = line_end xs (s + o) + n - o in
          let moved : d ≡ line_end ys (s + n) = line_end_new xs ys s o n k in
          let fits_d : d ≤ length ys = omega (arith, new_end) in
          let fits_i : i ≤ length xs = omega (arith, k.old_fits) in
          let sum_e : e ≡ i + (e - i) = omega arith in
          let sum_d : d ≡ i + (line_end ys (s + n) - i) = omega arith in
          shown_keeps (pieces_by m xs) (pieces_by m ys) i (e - i) (line_end ys (s + n) - i) (first_by m xs i) (first_by m xs e) (first_by m ys d) pieces_keep
          (first_reach m law xs i fits_i)
          (first_reach m law xs e old_end ∙ ap (reach_by m xs) sum_e)
          (first_reach m law ys d fits_d ∙ ap (reach_by m ys) sum_d)

      start_from : first_by m xs i ≡ reach_by m ys i
      start_from = first_reach m law xs i (omega (arith, k.old_fits)) ∙ ap (λ z. length (shown_text z)) (sym same)

      order_from : InOrder (length (text_by m xs)) (length (text_by m ys)) (reach_by m ys i) (reach_by m ys (line_end ys (s + n)))
      order_from =
          let rest = same_rest in
          let new_le = reach_le m ys (line_end ys (s + n)) in
          let old_le = reach_le m xs (line_end xs (s + o)) in
          let up = reach_rises m xs i (line_end xs (s + o)) (omega arith) in
          let begins = ap (λ z. length (shown_text z)) same in
          record {
            rises = reach_rises m ys i (line_end ys (s + n)) (omega arith);
            within = new_le;
            room = omega arith;
            covers = omega arith;
          }

    -- from the start of the line, whatever is seen ahead
    same_line : take (line_start xs s) (pieces_by m ys) ≡ take (line_start xs s) (pieces_by m xs)
    same_line =
        let up_to : List ℕ → List Piece = λ z. take (line_start xs s) (pieces_by m z) in
        ap up_to (sym (front_of xs ys s k.front)) ∙ front_start (take s xs) (drop s ys) (drop s xs) ∙ ap up_to (take-append-drop s xs)

    pub line_change : Keeps (text_by m xs) (text_by m ys) (first_by m xs (line_start xs s))
        (first_by m xs (line_end xs (s + o)) - first_by m xs (line_start xs s))
        (first_by m ys (line_end xs (s + o) + n - o) - first_by m xs (line_start xs s))
    line_change = change_from (line_start xs s) (line_start_le xs s) same_line

    pub line_start_same : first_by m xs (line_start xs s) ≡ reach_by m ys (line_start ys s)
    line_start_same = start_from (line_start xs s) (line_start_le xs s) same_line ∙ ap (reach_by m ys) (line_start_new xs ys s o n k)

    pub line_order : InOrder (length (text_by m xs)) (length (text_by m ys)) (reach_by m ys (line_start ys s)) (reach_by m ys (line_end ys (s + n)))
    line_order =
        subst (λ z. InOrder (length (text_by m xs)) (length (text_by m ys)) (reach_by m ys z) (reach_by m ys (line_end ys (s + n))))
        (line_start_new xs ys s o n k) (order_from (line_start xs s) (line_start_le xs s) same_line)

module _ (m : Transducer) (law : Steady m) (blind : Blind m) where
  front_blind : (k : ℕ) (a x y : List ℕ) → take (length a) (pieces_from m k (a ++ x)) ≡ take (length a) (pieces_from m k (a ++ y))
  front_blind k [] x y = refl
  front_blind k (c ∷ a) x y =
      let rest = front_blind (m.next k c (a ++ x)) a x y in
      let e = blind.next_same k c (a ++ x) (a ++ y) in
      cc

  -- from the change itself, where nothing ahead is seen
  module _ (xs ys : List ℕ) (s o n : ℕ) (k : Keeps xs ys s o n) where
    same_front : take s (pieces_by m ys) ≡ take s (pieces_by m xs)
    same_front =
        let a : List ℕ = take s xs in
        let up_to : List ℕ → List Piece = λ z. take s (pieces_by m z) in
        let long : length a ≡ s = omega (arith, length-take s xs, k.old_fits) in
        let both : take s (pieces_by m (a ++ drop s ys)) ≡ take s (pieces_by m (a ++ drop s xs)) =
        ap (λ z. take s (pieces_from m z (a ++ drop s ys))) (blind.start_same (a ++ drop s ys) (a ++ drop s xs))
        ∙ ap (λ z. take z (pieces_from m (m.start (a ++ drop s xs)) (a ++ drop s ys))) (sym long)
        ∙ front_blind (m.start (a ++ drop s xs)) a (drop s ys) (drop s xs)
        ∙ ap (λ z. take z (pieces_from m (m.start (a ++ drop s xs)) (a ++ drop s xs))) long in
        ap up_to (sym (front_of xs ys s k.front)) ∙ both ∙ ap up_to (take-append-drop s xs)

    pub near_change : Keeps (text_by m xs) (text_by m ys) (first_by m xs s)
        (first_by m xs (line_end xs (s + o)) - first_by m xs s)
        (first_by m ys (line_end xs (s + o) + n - o) - first_by m xs s)
    near_change = change_from m law xs ys s o n k s (omega arith) same_front

    pub near_start : first_by m xs s ≡ reach_by m ys s
    near_start = start_from m law xs ys s o n k s (omega arith) same_front

    pub near_order : InOrder (length (text_by m xs)) (length (text_by m ys)) (reach_by m ys s) (reach_by m ys (line_end ys (s + n)))
    near_order = order_from m law xs ys s o n k s (omega arith) same_front

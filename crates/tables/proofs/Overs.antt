-- Places over marks from the sums that code has of the records. Assumes nothing.
use Rattle.std.proofs.Common.{◌≡◌, ℕ, zero, suc, ◌+◌, ◌-◌, ◌<◌, ◌≤◌, max, min, Bool, true, false, ltb, leb, List, [], ◌∷◌, map, length, get_or, take, sym, refl, ap, ◌∙◌, subst, true≢false, arith, Option, Some, None, slice_get}
use Rattle.std.specs.List.{prefix_len}
use Rattle.std.specs.Option.{MatchOption, is_some, option_copied}
use Rattle.std.proofs.lemmas.Bool.Decides.{nat_tests}
use Rattle.std.proofs.lemmas.List.{get_or_default, get_or-map, length-map, take_all, take-map}
use Rattle.std.proofs.lemmas.List.Sums.{prefix_len-le-length, prefix_len_passes, prefix_len_stops}
use Rattle.places.specs.Maps.{Finds}
use Rattle.places.specs.Marks.{Mark, past, Placed, taken_in, shown_in}
use Rattle.places.proofs.Placing.{placed_room}
use Rattle.places.proofs.Laying.{laid_length, laid_finds}
use Rattle.places.proofs.Counting.{end_by, taken_more, shown_more, end_more, taken_front}
use Rattle.places.proofs.Summing.{first_sum, last_sum, last_sum_inside, under_sum, shown_below, under_mark, shown_mark}
use Rattle.tables.specs.Placing.{text_over, under_over, first_over, last_over, end_of, Counted, Begun, Holds}
use Rattle.tables.specs.declared.placing.Held.TheVariants.{Shown, Below}
use denote.Ref.{Bor}

-- where the first marks end, by the last of them
end_is : (p : ℕ) (ms : List Mark) → end_of p ms ≡ end_by p ms
end_is p [] = refl
end_is p (m ∷ ms) = end_is (past m) ms

-- and by the last of the records that they are of
pub end_last : {R : Type 0} (mark : R → Mark) (p : ℕ) (rs : List R) (x : R) → Some x ≡ slice_get rs (length rs - 1) → past (mark x) ≡ end_of p (map mark rs)
end_last mark p [] x e = cc
end_last mark p (r ∷ []) x e = cc
end_last mark p (r ∷ s ∷ rs) x e =
    let next : length (r ∷ s ∷ rs) - 1 ≡ suc (length (s ∷ rs) - 1) = omega arith in
    end_last mark (past (mark r)) (s ∷ rs) x (subst (λ (k : ℕ). Some x ≡ slice_get (r ∷ s ∷ rs) k) next e)

-- the same of what `last` gives
last_there : {R : Type 0} (x : R) (xs : List R) → is_some (slice_get (x ∷ xs) (length (x ∷ xs) - 1)) ≡ true
last_there x [] = cc
last_there x (y ∷ ys) =
    let next : length (x ∷ y ∷ ys) - 1 ≡ suc (length (y ∷ ys) - 1) = omega arith in
    ap (λ (k : ℕ). is_some (slice_get (x ∷ y ∷ ys) k)) next ∙ last_there y ys

pub end_of_last : {R : Type 0} (mark : R → Mark) (rs : List R) (o : Option (Bor R)) (r : ℕ) → option_copied o ≡ slice_get rs (length rs - 1)
    → MatchOption o (r ≡ 0) (λ x. r ≡ past (mark x.now)) → r ≡ end_of 0 (map mark rs)
end_of_last mark [] None r same by = by
end_of_last mark (x ∷ xs) None r same by = absurd (true≢false (sym (ap is_some same ∙ last_there x xs)))
end_of_last mark rs (Some x) r same by = by ∙ end_last mark 0 rs x.now same

-- what a search counts of the records of a table it counts of the records that were lent, and no more than there are
pub found_in : {R : Type 0} (mark : R → Mark) (p : Mark → Bool) (rs qs : List R) (k n : ℕ) → rs ≡ qs → k ≡ prefix_len p (map mark qs) → n ≡ min k (length rs) → n ≡ prefix_len p (map mark rs)
found_in mark p rs qs k n same found cut =
    let all : k ≡ prefix_len p (map mark rs) = found ∙ ap (λ z. prefix_len p (map mark z)) (sym same) in
    omega (arith, prefix_len-le-length p (map mark rs), length-map rs mark)

pub end_in : {R : Type 0} (mark : R → Mark) (rs : List R) (n r : ℕ) → r ≡ end_of 0 (map mark (take n rs)) → r ≡ end_of 0 (take n (map mark rs))
end_in mark rs n r e = e ∙ ap (end_of 0) (sym (take-map mark n rs))

-- the sums of the first records are those of their marks
pub shown_first : {R : Type 0} (mark : R → Mark) (rs : List R) (n s : ℕ) → s ≡ shown_in (map mark (take n rs)) → s ≡ shown_in (take n (map mark rs))
shown_first mark rs n s e = e ∙ ap shown_in (sym (take-map mark n rs))

pub taken_first : {R : Type 0} (mark : R → Mark) (rs : List R) (n t : ℕ) → t ≡ taken_in (map mark (take n rs)) → t ≡ taken_in (take n (map mark rs))
taken_first mark rs n t e = e ∙ ap taken_in (sym (take-map mark n rs))

-- a record that was read, and its mark
pub mark_read : {R : Type 0} (mark : R → Mark) (rs qs : List R) (i : ℕ) (x : R) → rs ≡ qs → i < length rs → x ≡ get_or rs i x → mark x ≡ get_or (map mark qs) i (mark x)
mark_read mark rs qs i x same l read = ap mark read ∙ sym (get_or-map mark rs i x (mark x) l) ∙ ap (λ z. get_or (map mark z) i (mark x)) same

module _ (ms : List Mark) (xs : List ℕ) (h : Counted ms xs) where
  pub length_by : (below n shown taken r : ℕ) → length xs ≡ below → length ms ≤ n → shown ≡ shown_in (take n ms) → taken ≡ taken_in (take n ms)
      → ((z : ℕ) → z < 4294967296 → z + taken ≡ below + shown → r ≡ z) → r ≡ length (text_over ms xs)
  length_by below n shown taken r b l s t counts =
      let all : take n ms ≡ ms = take_all n ms l in
      counts (length (text_over ms xs)) (omega (arith, h.2)) (omega (arith, laid_length ms xs h.0, ap shown_in all, ap taken_in all))

  module _ (l : ℕ) (inside : l ≤ length xs) where
    finds : Finds (under_over ms xs) (first_over ms xs) (last_over ms xs) (length (text_over ms xs)) (length xs)
    finds = laid_finds ms xs h.0

    -- the first mark that a search does not count does not pass
    stopped : (p : Mark → Bool) (n : ℕ) (e : Mark) → n ≡ prefix_len p ms → n < length ms → p (get_or ms n e) ≡ false
    stopped p n e found q = subst (λ (k : ℕ). k < length ms → p (get_or ms k e) ≡ false) (sym found) (prefix_len_stops p ms e) q

    first_small : first_over ms xs l < 4294967296
    first_small = omega (arith, finds.first_in l inside, h.2)

    last_small : last_over ms xs l < 4294967296
    last_small = omega (arith, finds.last_in l inside, h.2)

    pub first_by : (n end base shown taken r : ℕ) → n ≡ prefix_len (λ m. ltb m.at l) ms → end ≡ end_of 0 (take n ms) → base ≡ max end l
        → shown ≡ shown_in (take n ms) → taken ≡ taken_in (take n ms)
        → ((m : ℕ) → m < 4294967296 → m + taken ≡ base + shown → r ≡ m) → r ≡ first_over ms xs l
    first_by n end base shown taken r found e b s t counts =
        let sum = first_sum ms xs h.0 n (omega (arith, prefix_len-le-length (λ (m : Mark). ltb m.at l) ms)) l inside
        (λ k e q. let yes = prefix_len_passes (λ (m : Mark). ltb m.at l) ms k e (omega arith) in grind (arith, nat_tests))
        (λ e q. let no = stopped (λ (m : Mark). ltb m.at l) n e found q in grind (arith, nat_tests)) in
        counts (first_over ms xs l) first_small (omega (arith, end_is 0 (take n ms)))

    module _ (n end shown taken : ℕ) (found : n ≡ prefix_len (λ m. leb m.at l) ms) (e : end ≡ end_of 0 (take n ms))
        (s : shown ≡ shown_in (take n ms)) (t : taken ≡ taken_in (take n ms)) where
      begun : n ≤ length ms
      begun = omega (arith, prefix_len-le-length (λ (m : Mark). leb m.at l) ms)

      pub last_by : (r : ℕ) → end ≤ l → ((m : ℕ) → m < 4294967296 → m + taken ≡ l + shown → r ≡ m) → r ≡ last_over ms xs l
      last_by r b counts =
          let sum = last_sum ms xs h.0 n begun l inside
          (λ m q. let no = stopped (λ (m : Mark). leb m.at l) n m found q in grind (arith, nat_tests))
          (omega (arith, end_is 0 (take n ms))) in
          counts (last_over ms xs l) last_small (omega (arith, end_is 0 (take n ms)))

      pub last_by_inside : (less r : ℕ) → l < end → (taken < 4294967296 → less ≡ taken + 1)
          → ((m : ℕ) → m < 4294967296 → m + less ≡ end + shown → r ≡ m) → r ≡ last_over ms xs l
      last_by_inside less r b one counts =
          let sum = last_sum_inside ms xs h.0 n begun l inside
          (λ k m q. let yes = prefix_len_passes (λ (m : Mark). leb m.at l) ms k m (omega arith) in grind (arith, nat_tests))
          (omega (arith, end_is 0 (take n ms))) in
          let few : taken < 4294967296 = omega (arith, taken_front ms n, placed_room ms 0 (length xs) h.0, h.1) in
          counts (last_over ms xs l) last_small (omega (arith, end_is 0 (take n ms), one few))

-- a record read at i, and the test whether it begins by u
module _ {R : Type 0} (mark : R → Mark) (rs qs : List R) (u i place shown taken : ℕ) (x : R) (same : rs ≡ qs) (l : i < length rs) (read : x ≡ get_or rs i x) (p : place ≡ (mark x).at)
    (s : shown ≡ shown_in (take i (map mark qs))) (t : taken ≡ taken_in (take i (map mark qs))) where
  place_at : (e : Mark) → (get_or (map mark qs) i e).at ≡ place
  place_at e =
      let inside : i < length (map mark qs) = omega (arith, length-map qs mark, ap length same) in
      ap (λ (m : Mark). m.at) (sym (mark_read mark rs qs i x same l read ∙ get_or_default (map mark qs) i (mark x) e inside)) ∙ sym p

  pub begun_on : true ≡ leb (place + shown) (u + taken) → (k : ℕ) (e : Mark) → k + 1 ≡ i + 1 → (get_or (map mark qs) k e).at + shown_in (take k (map mark qs)) ≤ u + taken_in (take k (map mark qs))
  begun_on fits k e q =
      let at = place_at e in
      let here : (get_or (map mark qs) i e).at + shown_in (take i (map mark qs)) ≤ u + taken_in (take i (map mark qs)) = grind (arith, nat_tests) in
      let same_place : i ≡ k = omega arith in
      subst (λ (z : ℕ). (get_or (map mark qs) z e).at + shown_in (take z (map mark qs)) ≤ u + taken_in (take z (map mark qs))) same_place here

  pub begun_here : false ≡ leb (place + shown) (u + taken) → (e : Mark) → u + taken_in (take i (map mark qs)) < (get_or (map mark qs) i e).at + shown_in (take i (map mark qs))
  begun_here late e = let at = place_at e in grind (arith, nat_tests)

taken_at : (ms : List Mark) (i p n : ℕ) (e : Mark) → Placed p ms n → i < length ms → p + taken_in (take i ms) ≤ (get_or ms i e).at
taken_at [] i p n e h l = absurd (omega arith)
taken_at (m ∷ ms) zero p n e h l = omega arith
taken_at (m ∷ ms) (suc i) p n e h l = let rest = taken_at ms i (past m) n e h.2 (omega arith) in omega arith

-- the place u of the text above, of whose marks n begin by it
module _ (ms : List Mark) (xs : List ℕ) (h : Counted ms xs) (u n : ℕ) (small : u < 4294967296) (inside : u ≤ length (text_over ms xs)) (few : n ≤ length ms) (cut : Begun ms u n) where
  pub below_by : (shown taken r : ℕ) → shown ≡ shown_in (take n ms) → taken ≡ taken_in (take n ms)
      → ((z : ℕ) → z < 4294967296 → z + shown ≡ u + taken → r ≡ z)
      → end_by 0 (take n ms) + shown_in (take n ms) ≤ u + taken_in (take n ms) → Holds ms xs u (Below r)
  below_by shown taken r s t counts ends =
      let sum = under_sum ms xs h.0 n u ends cut.behind inside in
      let rising = (laid_finds ms xs h.0).map in
      let low : under_over ms xs u < 4294967296 = omega (arith, rising.rises u (length (text_over ms xs)) inside (omega arith), rising.ends, h.1) in
      let is : r ≡ under_over ms xs u = counts (under_over ms xs u) low (omega arith) in
      (sym is, shown_below ms xs h.0 n u ends cut.behind inside ∙ ap (λ (z : ℕ). get_or xs z 0) (sym is))

  -- the last of them
  module _ (i : ℕ) (m : Mark) (place shown taken start : ℕ) (last : i + 1 ≡ n) (read : m ≡ get_or ms i m) (p : place ≡ m.at)
      (s : shown ≡ shown_in (take i ms)) (t : taken ≡ taken_in (take i ms))
      (counts : (z : ℕ) → z < 4294967296 → z + taken ≡ place + shown → start ≡ z) where
    within : i < length ms
    within = omega arith

    begins : m.at + shown_in (take i ms) ≤ u + taken_in (take i ms)
    begins = subst (λ (z : Mark). z.at + shown_in (take i ms) ≤ u + taken_in (take i ms)) (sym read) (cut.before i m last)

    room : taken_in (take i ms) ≤ m.at
    room = subst (λ (z : Mark). taken_in (take i ms) ≤ z.at) (sym read) (omega (arith, taken_at ms i 0 (length xs) m h.0 within))

    starts : start ≡ m.at + shown_in (take i ms) - taken_in (take i ms)
    starts = counts (m.at + shown_in (take i ms) - taken_in (take i ms)) (omega (arith, begins, room)) (omega (arith, begins, room))

    pub ends_by : length m.shows ≤ u - start → end_by 0 (take n ms) + shown_in (take n ms) ≤ u + taken_in (take n ms)
    ends_by l =
        subst (λ (z : ℕ). end_by 0 (take z ms) + shown_in (take z ms) ≤ u + taken_in (take z ms)) last
        (omega (arith, starts, begins, room, end_more ms i m within read, shown_more ms i m within read, taken_more ms i m within read))

    pub shown_by : (offset : ℕ) → offset ≡ u - start → offset < length m.shows → Holds ms xs u (Shown i offset)
    shown_by offset o l =
        let sum : start + taken_in (take i ms) ≡ m.at + shown_in (take i ms) = omega (arith, starts, begins, room) in
        let from : start ≤ u = omega (arith, starts, begins, room) in
        let to : u < start + length m.shows = omega arith in
        let here : (under_over ms xs u ≡ m.at) × (offset < length m.shows) × (get_or (text_over ms xs) u 0 ≡ get_or m.shows offset 0) =
        (under_mark ms xs h.0 i m within read u start sum from to, l, shown_mark ms xs h.0 i m within read u start sum from to ∙ ap (λ (z : ℕ). get_or m.shows z 0) (sym o)) in
        (within, λ d. subst (λ (z : Mark). (under_over ms xs u ≡ z.at) × (offset < length z.shows) × (get_or (text_over ms xs) u 0 ≡ get_or z.shows offset 0)) (read ∙ get_or_default ms i m d within) here)

-- no mark shows or takes anything before the first one
pub ends_none : (ms : List Mark) (u n : ℕ) → n ≡ 0 → end_by 0 (take n ms) + shown_in (take n ms) ≤ u + taken_in (take n ms)
ends_none ms u zero e = omega arith
ends_none ms u (suc n) e = absurd (omega arith)

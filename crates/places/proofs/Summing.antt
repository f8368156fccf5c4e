-- The searches and the map by sums over the marks before an index, as a loop over the marks has them. Assumes nothing.
use Rattle.std.proofs.Common.{◌≡◌, ℕ, zero, suc, ◌+◌, ◌-◌, ◌<◌, ◌≤◌, max, List, [], ◌∷◌, ◌++◌, length, get_or, take, drop, sym, ap, ◌∙◌, subst, arith, take-append-drop}
use native.Mathlib.Nat.{sub-zero}
use Rattle.std.proofs.lemmas.Bool.Decides.{nat_tests}
use Rattle.std.proofs.lemmas.List.{drop_more}
use Rattle.places.specs.Maps.{first_of, last_of}
use Rattle.places.specs.Pieces.{shown_text, spans_of, under_by}
use Rattle.places.specs.Marks.{Mark, past, laid, Placed, taken_in, shown_in}
use Rattle.places.proofs.Placing.{placed_room, placed_parts}
use Rattle.places.proofs.Reaching.{first_by, last_by, Beyond, first_is, last_is}
use Rattle.places.proofs.Counting.{end_by, placed_halves, placed_end, placed_at}
use Rattle.places.proofs.Cutting.{under_between, text_between, under_inside, text_inside}

-- marks in order: the first of some begins where the last does, or before
head_at : (m : Mark) (ms : List Mark) (j p n : ℕ) → Placed p (m ∷ ms) n → j ≤ length ms → m.at ≤ (get_or (m ∷ ms) j m).at
head_at m ms zero p n h l = omega arith
head_at m ms (suc j) p n h l = omega (arith, placed_at ms j (past m) n m h.2 l)

first_by_sum : (ms : List Mark) (j p n d : ℕ) → Placed p ms n → j ≤ length ms
    → ((k : ℕ) (e : Mark) → k + 1 ≡ j → (get_or ms k e).at < d) → ((e : Mark) → j < length ms → d ≤ (get_or ms j e).at)
    → first_by p ms d + (p + taken_in (take j ms)) ≡ max d (end_by p (take j ms)) + shown_in (take j ms)
first_by_sum [] zero p n d h l before behind = omega arith
first_by_sum [] (suc j) p n d h l before behind = absurd (omega arith)
first_by_sum (m ∷ ms) zero p n d h l before behind = let next = behind m (omega arith) in grind (arith, nat_tests)
first_by_sum (m ∷ ms) (suc j) p n d h l before behind =
    let rest = first_by_sum ms j (past m) n d h.2 (omega arith) (λ k e q. before (suc k) e (omega arith)) (λ e q. behind e (omega arith)) in
    let here : m.at < d = omega (arith, head_at m ms j p n h (omega arith), before j m (omega arith)) in
    grind (arith, nat_tests)

last_by_sum : (ms : List Mark) (j p n d : ℕ) → Placed p ms n → j ≤ length ms → ((e : Mark) → j < length ms → d < (get_or ms j e).at)
    → p ≤ d → end_by p (take j ms) ≤ d → last_by p ms d + (p + taken_in (take j ms)) ≡ d + shown_in (take j ms)
last_by_sum [] zero p n d h l behind b f = omega arith
last_by_sum [] (suc j) p n d h l behind b f = absurd (omega arith)
last_by_sum (m ∷ ms) zero p n d h l behind b f = let next = behind m (omega arith) in grind (arith, nat_tests)
last_by_sum (m ∷ ms) (suc j) p n d h l behind b f =
    let here : past m ≤ d = omega (arith, placed_end ms j (past m) n h.2) in
    let rest = last_by_sum ms j (past m) n d h.2 (omega arith) (λ e q. behind e (omega arith)) here f in
    grind (arith, nat_tests)

-- in the last of the first marks
last_by_inside : (ms : List Mark) (j p n d : ℕ) → Placed p ms n → j ≤ length ms → ((k : ℕ) (e : Mark) → k + 1 ≡ j → (get_or ms k e).at ≤ d)
    → p ≤ d → d < end_by p (take j ms) → last_by p ms d + (p + taken_in (take j ms)) + 1 ≡ end_by p (take j ms) + shown_in (take j ms)
last_by_inside ms zero p n d h l before b f = absurd (omega arith)
last_by_inside [] (suc j) p n d h l before b f = absurd (omega arith)
last_by_inside (m ∷ ms) (suc zero) p n d h l before b f =
    let here = before 0 m (omega arith) in
    let some = h.1 in
    grind (arith, nat_tests)
last_by_inside (m ∷ ms) (suc (suc j)) p n d h l before b f =
    let here : past m ≤ d = omega (arith, placed_at ms j (past m) n m h.2 (omega arith), before (suc j) m (omega arith)) in
    let rest = last_by_inside ms (suc j) (past m) n d h.2 (omega arith) (λ k e q. before (suc k) e (omega arith)) here f in
    grind (arith, nat_tests)

module _ (ms : List Mark) (xs : List ℕ) (h : Placed 0 ms (length xs)) (j : ℕ) (l : j ≤ length ms) where
  -- the first place over d, where the first j marks begin before d and the others do not
  pub first_sum : (d : ℕ) → d ≤ length xs
      → ((k : ℕ) (e : Mark) → k + 1 ≡ j → (get_or ms k e).at < d) → ((e : Mark) → j < length ms → d ≤ (get_or ms j e).at)
      → first_of (under_by (spans_of (laid 0 ms xs))) (length (shown_text (laid 0 ms xs))) d + taken_in (take j ms) ≡ max d (end_by 0 (take j ms)) + shown_in (take j ms)
  first_sum d f before behind = omega (arith, first_is ms xs h d f, first_by_sum ms j 0 (length xs) d h l before behind)

  -- the last place over d, where the first j marks end by d and the others begin behind it
  pub last_sum : (d : ℕ) → d ≤ length xs → ((e : Mark) → j < length ms → d < (get_or ms j e).at) → end_by 0 (take j ms) ≤ d
      → last_of (under_by (spans_of (laid 0 ms xs))) (length (shown_text (laid 0 ms xs))) d + taken_in (take j ms) ≡ d + shown_in (take j ms)
  last_sum d f behind b = omega (arith, last_is ms xs h d f, last_by_sum ms j 0 (length xs) d h l behind (omega arith) b)

  -- and where the last of the first j marks begins by d and ends behind it
  pub last_sum_inside : (d : ℕ) → d ≤ length xs → ((k : ℕ) (e : Mark) → k + 1 ≡ j → (get_or ms k e).at ≤ d) → d < end_by 0 (take j ms)
      → last_of (under_by (spans_of (laid 0 ms xs))) (length (shown_text (laid 0 ms xs))) d + taken_in (take j ms) + 1 ≡ end_by 0 (take j ms) + shown_in (take j ms)
  last_sum_inside d f before b = omega (arith, last_is ms xs h d f, last_by_inside ms j 0 (length xs) d h l before (omega arith) b)

beyond-drop : (ms : List Mark) (j d : ℕ) → ((e : Mark) → j < length ms → d < (get_or ms j e).at) → Beyond d (drop j ms)
beyond-drop [] zero d next = tt
beyond-drop [] (suc j) d next = tt
beyond-drop (m ∷ ms) zero d next = next m (omega arith)
beyond-drop (m ∷ ms) (suc j) d next = beyond-drop ms j d (λ e q. next e (omega arith))

-- a place above behind what the first j marks show and before what the next one shows: it lies over a code that is shown
-- as it is
module _ (ms : List Mark) (xs : List ℕ) (h : Placed 0 ms (length xs)) (j u : ℕ)
    (behind : end_by 0 (take j ms) + shown_in (take j ms) ≤ u + taken_in (take j ms))
    (ahead : (e : Mark) → j < length ms → u + taken_in (take j ms) < (get_or ms j e).at + shown_in (take j ms))
    (within : u ≤ length (shown_text (laid 0 ms xs))) where
  between : (d : ℕ) → d + shown_in (take j ms) ≡ u + taken_in (take j ms)
      → (under_by (spans_of (laid 0 ms xs)) u ≡ d) × (get_or (shown_text (laid 0 ms xs)) u 0 ≡ get_or xs d 0)
  between d sum =
      let a : List Mark = take j ms in
      let b : List Mark = drop j ms in
      let c : ℕ = end_by 0 a in
      let halves = placed_halves ms j 0 (length xs) h in
      let room = placed_room a 0 c halves.0 in
      let start : ℕ = c + shown_in a - taken_in a in
      let e : start + taken_in a ≡ c + shown_in a = omega arith in
      let l : start ≤ u = omega arith in
      let at : c + (u - start) ≡ d = omega arith in
      let next : Beyond (c + (u - start)) b = beyond-drop ms j (c + (u - start)) (λ m q. omega (arith, ahead m q)) in
      subst
      (λ z. u ≤ length (shown_text (laid 0 z xs)) → (under_by (spans_of (laid 0 z xs)) u ≡ d) × (get_or (shown_text (laid 0 z xs)) u 0 ≡ get_or xs d 0))
      (take-append-drop j ms)
      (λ f. (
        under_between a b c xs halves.0 halves.1 u start e l next f ∙ at,
        text_between a b c xs halves.0 halves.1 u start e l next ∙ ap (λ z. get_or xs z 0) at,
      ))
      within

  found : (under_by (spans_of (laid 0 ms xs)) u + shown_in (take j ms) ≡ u + taken_in (take j ms)) × (get_or (shown_text (laid 0 ms xs)) u 0 ≡ get_or xs (under_by (spans_of (laid 0 ms xs)) u) 0)
  found =
      let d : ℕ = u + taken_in (take j ms) - shown_in (take j ms) in
      let both = between d (omega arith) in
      (omega (arith, both.0), both.1 ∙ ap (λ z. get_or xs z 0) (sym both.0))

  pub under_sum : under_by (spans_of (laid 0 ms xs)) u + shown_in (take j ms) ≡ u + taken_in (take j ms)
  under_sum = found.0

  pub shown_below : get_or (shown_text (laid 0 ms xs)) u 0 ≡ get_or xs (under_by (spans_of (laid 0 ms xs)) u) 0
  shown_below = found.1

-- a place above in what the mark i shows, which begins at the place start: it lies over the mark's place
module _ (ms : List Mark) (xs : List ℕ) (h : Placed 0 ms (length xs)) (i : ℕ) (m : Mark) (l : i < length ms) (e : m ≡ get_or ms i m)
    (u start : ℕ) (sum : start + taken_in (take i ms) ≡ m.at + shown_in (take i ms)) (from : start ≤ u) (to : u < start + length m.shows) where
  inside : (under_by (spans_of (laid 0 ms xs)) u ≡ m.at) × (get_or (shown_text (laid 0 ms xs)) u 0 ≡ get_or m.shows (u - start) 0)
  inside =
      let a : List Mark = take i ms in
      let b : List Mark = drop (i + 1) ms in
      let whole : a ++ (m ∷ b) ≡ ms =
      ap (λ z. a ++ (z ∷ b)) e ∙ ap (λ z. a ++ z) (sym (drop_more ms i m l)) ∙ take-append-drop i ms in
      let parts = placed_parts a b m 0 (length xs) (subst (λ z. Placed 0 z (length xs)) (sym whole) h) in
      let hb : Placed m.at (m ∷ b) (length xs) = (omega arith, parts.1, parts.2) in
      subst
      (λ z. (under_by (spans_of (laid 0 z xs)) u ≡ m.at) × (get_or (shown_text (laid 0 z xs)) u 0 ≡ get_or m.shows (u - start) 0))
      whole
      (under_inside a b m xs parts.0 hb u start sum from to, text_inside a b m xs parts.0 hb u start sum from to)

  pub under_mark : under_by (spans_of (laid 0 ms xs)) u ≡ m.at
  under_mark = inside.0

  pub shown_mark : get_or (shown_text (laid 0 ms xs)) u 0 ≡ get_or m.shows (u - start) 0
  shown_mark = inside.1

-- with no marks each place is the first and the last over itself
module _ (xs : List ℕ) (d : ℕ) (l : d ≤ length xs) where
  pub first_none : first_of (under_by (spans_of (laid 0 [] xs))) (length (shown_text (laid 0 [] xs))) d ≡ d
  first_none = sym (first_is [] xs (omega arith) d l) ∙ sub-zero d

  pub last_none : last_of (under_by (spans_of (laid 0 [] xs))) (length (shown_text (laid 0 [] xs))) d ≡ d
  last_none = sym (last_is [] xs (omega arith) d l) ∙ sub-zero d

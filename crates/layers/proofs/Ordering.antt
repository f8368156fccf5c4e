-- Marks put behind those that end by their place, and the first mark that passes taken out, by its index. Assumes nothing.
use Rattle.std.proofs.Common.{◌≡◌, ℕ, suc, ◌+◌, ◌<◌, Ok, Err, Result, Bool, true, false, cond, not, ◌&&◌, ltb, leb, List, [], ◌∷◌, ◌++◌, map, length, get_or, take, drop, sym, refl, ap, ◌∙◌, subst, arith}
use Rattle.std.specs.List.{prefix_len, insert, remove}
use Rattle.std.specs.Result.{MatchResult, OnOk, OnErr, IsErrAnd, is_ok}
use Rattle.buffer.specs.Refusals.{told}
use Rattle.view.specs.declared.fault.Cause.{Cause}
use Rattle.view.specs.Refusals.{cause_refusal}
use Rattle.view.specs.Layers.{most_records}
use Rattle.std.proofs.lemmas.List.{length-map, get_or-map, map-append, take-map, drop-map}
use Rattle.std.proofs.lemmas.List.Sums.{prefix_len-le-length}
use Rattle.std.proofs.lemmas.Bool.Decides.{nat_tests}
use Rattle.places.specs.Marks.{Mark, past, ended, unended, put}
use Rattle.view.specs.Orders.{some, first_mark, without}
use Rattle.layers.specs.Finding.{Puts}

map-insert : {X Y : Type 0} (f : X → Y) (xs : List X) (k : ℕ) (x : X) → map f (insert xs k x) ≡ insert (map f xs) k (f x)
map-insert f xs k x =
    map-append f (take k xs) (x ∷ drop k xs)
    ∙ ap (λ z. z ++ (f x ∷ map f (drop k xs))) (sym (take-map f k xs))
    ∙ ap (λ z. take k (map f xs) ++ (f x ∷ z)) (sym (drop-map f k xs))

map-remove : {X Y : Type 0} (f : X → Y) (xs : List X) (k : ℕ) → map f (remove xs k) ≡ remove (map f xs) k
map-remove f xs k =
    map-append f (take k xs) (drop (suc k) xs)
    ∙ ap (λ z. z ++ map f (drop (suc k) xs)) (sym (take-map f k xs))
    ∙ ap (λ z. take k (map f xs) ++ z) (sym (drop-map f (suc k) xs))

one_more : (n : ℕ) → 1 + n ≡ suc n
one_more n = omega arith

-- the marks that end by a place are the first ones, as many as pass from the front on
module _ (x : Mark) (xs ys : List Mark) (n : ℕ) where
  take_step : (b : Bool) → ys ≡ take n xs → cond b (x ∷ ys) [] ≡ take (cond b (1 + n) 0) (x ∷ xs)
  take_step true e = ap (λ z. x ∷ z) e ∙ ap (λ (k : ℕ). take k (x ∷ xs)) (sym (one_more n))
  take_step false e = refl

  drop_step : (b : Bool) → ys ≡ drop n xs → cond b ys (x ∷ xs) ≡ drop (cond b (1 + n) 0) (x ∷ xs)
  drop_step true e = e ∙ ap (λ (k : ℕ). drop k (x ∷ xs)) (sym (one_more n))
  drop_step false e = refl

ended-take : (s : ℕ) (ms : List Mark) → ended s ms ≡ take (prefix_len (λ m. leb (past m) s) ms) ms
ended-take s [] = refl
ended-take s (m ∷ ms) = take_step m ms (ended s ms) (prefix_len (λ x. leb (past x) s) ms) (leb (past m) s) (ended-take s ms)

unended-drop : (s : ℕ) (ms : List Mark) → unended s ms ≡ drop (prefix_len (λ m. leb (past m) s) ms) ms
unended-drop s [] = refl
unended-drop s (m ∷ ms) = drop_step m ms (unended s ms) (prefix_len (λ x. leb (past x) s) ms) (leb (past m) s) (unended-drop s ms)

put_is : (m : Mark) (ms : List Mark) → put m ms ≡ insert ms (prefix_len (λ x. leb (past x) m.at) ms) m
put_is m ms =
    ap (λ z. z ++ (m ∷ unended m.at ms)) (ended-take m.at ms)
    ∙ ap (λ z. take (prefix_len (λ x. leb (past x) m.at) ms) ms ++ (m ∷ z)) (unended-drop m.at ms)

-- the first mark that passes is the one behind all those that fail from the front on
module _ (x : Mark) (xs : List Mark) (n : ℕ) where
  found_step : (b : Bool) (d f : Mark) → (n < length xs → get_or xs n d ≡ f) → cond (not b) (1 + n) 0 < length (x ∷ xs) → get_or (x ∷ xs) (cond (not b) (1 + n) 0) d ≡ cond b x f
  found_step true d f e h = refl
  found_step false d f e h = ap (λ (k : ℕ). get_or (x ∷ xs) k d) (one_more n) ∙ e (omega arith)

  without_step : (b : Bool) (ys : List Mark) → (n < length xs → ys ≡ remove xs n) → cond (not b) (1 + n) 0 < length (x ∷ xs) → cond b xs (x ∷ ys) ≡ remove (x ∷ xs) (cond (not b) (1 + n) 0)
  without_step true ys e h = refl
  without_step false ys e h = ap (λ z. x ∷ z) (e (omega arith)) ∙ ap (remove (x ∷ xs)) (sym (one_more n))

found_is : (p : Mark → Bool) (ms : List Mark) (d : Mark) → prefix_len (λ m. not (p m)) ms < length ms → get_or ms (prefix_len (λ m. not (p m)) ms) d ≡ first_mark p ms
found_is p [] d h = absurd (omega arith)
found_is p (m ∷ ms) d h = found_step m ms (prefix_len (λ x. not (p x)) ms) (p m) d (first_mark p ms) (found_is p ms d) h

without_is : (p : Mark → Bool) (ms : List Mark) → prefix_len (λ m. not (p m)) ms < length ms → without p ms ≡ remove ms (prefix_len (λ m. not (p m)) ms)
without_is p [] h = absurd (omega arith)
without_is p (m ∷ ms) h = without_step m ms (prefix_len (λ x. not (p x)) ms) (p m) (without p ms) (without_is p ms) h

-- a table whose records were xs and now are ys has the record x put in behind those that end by its place, or is full
module _ {R T : Type 0} (mark : R → Mark) (xs ys : List R) (x : R) (k : ℕ) (t t' : T) (P : R → Cause → Type 0)
    (index : k ≡ prefix_len (λ m. leb (past m) (mark x).at) (map mark xs)) (full_told : (e : R) (f : Cause) → P e f → cause_refusal f ≡ told 9 most_records) where
  put_next : ys ≡ insert xs k x → map mark ys ≡ put (mark x) (map mark xs)
  put_next now_is =
      ap (map mark) now_is
      ∙ map-insert mark xs k x
      ∙ ap (λ (i : ℕ). insert (map mark xs) i (mark x)) index
      ∙ sym (put_is (mark x) (map mark xs))

  pub put_made : (a : Result (Unit {0}) R) (r : Result (Unit {0}) Cause) → is_ok a ≡ (ltb (length xs) 64 && leb k (length xs))
      → OnOk a (ys ≡ insert xs k x) → OnErr a (t' ≡ t) → MatchResult a (λ v. r ≡ Ok v) (λ e. IsErrAnd r (P e))
      → Puts (mark x) (map mark xs) (map mark ys) t t' r
  put_made (Ok v) r made ok err m =
      let long = length-map xs mark in
      let Q : Result (Unit {0}) Cause → Type 0 = λ z. Puts (mark x) (map mark xs) (map mark ys) t t' z in
      subst Q (sym m) (grind (arith, nat_tests), put_next ok)
  put_made (Err z) (Ok w) made ok err m = absurd m
  put_made (Err z) (Err f) made ok err m =
      let long = length-map xs mark in
      let most = prefix_len-le-length (λ m. leb (past m) (mark x).at) (map mark xs) in
      (grind (arith, nat_tests), full_told z f m, err)

-- the record at k, which is the first that passes, is taken out
pub taken_out : {R : Type 0} (p : Mark → Bool) (mark : R → Mark) (xs ys : List R) (found : R) (k : ℕ) → k ≡ prefix_len (λ m. not (p m)) (map mark xs) → k < length xs → found ≡ get_or xs k found
    → ys ≡ remove xs k
    → (some p (map mark xs) ≡ true) × (mark found ≡ first_mark p (map mark xs)) × (map mark ys ≡ without p (map mark xs))
taken_out p mark xs ys found k k_is inside read now_is =
    let long = length-map xs mark in
    let within : prefix_len (λ m. not (p m)) (map mark xs) < length (map mark xs) = omega arith in (
      grind (arith, nat_tests),
      ap mark read
          ∙ sym (get_or-map mark xs k found (mark found) inside)
          ∙ ap (λ (i : ℕ). get_or (map mark xs) i (mark found)) k_is
          ∙ found_is p (map mark xs) (mark found) within,
      ap (map mark) now_is
          ∙ map-remove mark xs k
          ∙ ap (remove (map mark xs)) k_is
          ∙ sym (without_is p (map mark xs) within),
    )

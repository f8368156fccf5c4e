-- A sweep that lets the records of a table follow a change, one by one. Assumes nothing.
use Rattle.std.proofs.Common.{◌≡◌, ℕ, ◌+◌, ◌<◌, ◌≤◌, Bool, true, false, cond, ◌||◌, List, [], ◌∷◌, ◌++◌, map, length, get_or, take, drop, set, sym, refl, ap, ◌∙◌, subst, add-zero, arith}
use Rattle.std.specs.List.{AllByRecursion}
use Rattle.std.proofs.lemmas.List.{append-nil, append_assoc, length-set, length-take, length-map, drop-drop, get_or-drop, get_or-take, get_or-map, drop-set-lt, take-set-le, take_more_set, get_or-set_same, drop_more, at_drop_all, map-append}
use Rattle.std.proofs.ByRecursion.{All-get_or}
use Rattle.std.proofs.lemmas.Bool.{true≢false, false≢true}
use Rattle.places.specs.declared.change.Change.{Change}
use Rattle.places.specs.Marks.{Mark, followed, moved}
use Rattle.tables.specs.Records.{stays, moves, lives, sent, Room}

abbrev after_of : Change → List Mark → List Mark
after_of c ms = followed c.start c.old c.new ms

-- a mark in front of others lives on as `sent` says, or is dropped
either : {X : Type 0} (b d : Bool) (x y : X) (xs : List X) → (b || d) ≡ true → cond b (x ∷ xs) (cond d (y ∷ xs) xs) ≡ cond b x (cond d y x) ∷ xs
either true d x y xs e = refl
either false true x y xs e = refl
either false false x y xs e = absurd (false≢true e)

neither : {X : Type 0} (b d : Bool) (x y z : X) → (b || d) ≡ false → cond b x (cond d y z) ≡ z
neither false false x y z e = refl
neither false true x y z e = absurd (true≢false e)
neither true d x y z e = absurd (true≢false e)

kept_first : (c : Change) (m : Mark) (ms : List Mark) → lives c m ≡ true → after_of c (m ∷ ms) ≡ sent c m ∷ after_of c ms
kept_first c m ms e = either (stays c m) (moves c m) m (moved c.old c.new m) (after_of c ms) e

gone_first : (c : Change) (m : Mark) (ms : List Mark) → lives c m ≡ false → after_of c (m ∷ ms) ≡ after_of c ms
gone_first c m ms e = neither (stays c m) (moves c m) (m ∷ after_of c ms) (moved c.old c.new m ∷ after_of c ms) (after_of c ms) e

-- where a sweep stands: the first i of the first `count` records are done, and the first `kept` items live on
pub record Swept {R : Type 0} (mark : R → Mark) (c : Change) (old new : List R) (count kept i : ℕ) : Type 0 where
  pub within : kept ≤ i
  pub long : length new ≡ length old
  pub ahead : drop i new ≡ drop i old
  pub done : map mark (take kept new) ++ after_of c (map mark (drop i (take count old))) ≡ after_of c (map mark (take count old))

-- what lies ahead of a sweep is as it was
module _ {X : Type 0} (old new : List X) (i : ℕ) (same : drop i new ≡ drop i old) where
  next_ahead : drop (i + 1) new ≡ drop (i + 1) old
  next_ahead = sym (drop-drop 1 i new) ∙ ap (drop 1) same ∙ drop-drop 1 i old

  read_ahead : (d : X) → get_or new i d ≡ get_or old i d
  read_ahead d =
      ap (λ (z : ℕ). get_or new z d) (sym (add-zero i))
      ∙ sym (get_or-drop i new 0 d)
      ∙ ap (λ (z : List X). get_or z 0 d) same
      ∙ get_or-drop i old 0 d
      ∙ ap (λ (z : ℕ). get_or old z d) (add-zero i)

-- the record at i is done: y is what became of it
module _ {R : Type 0} (mark : R → Mark) (c : Change) (old new : List R) (count kept i : ℕ) (s : Swept mark c old new count kept i) (in_count : i < count) (in-old : count ≤ length old) (d : R) where
  step : after_of c (map mark (drop i (take count old))) ≡ after_of c (mark (get_or new i d) ∷ map mark (drop (i + 1) (take count old)))
  step =
      let inside : i < length (take count old) = omega (arith, length-take count old) in
      ap (λ (z : List R). after_of c (map mark z)) (drop_more (take count old) i d inside)
      ∙ ap (λ (z : R). after_of c (mark z ∷ map mark (drop (i + 1) (take count old)))) (get_or-take count old i d in_count ∙ sym (read_ahead old new i s.ahead d))

  ahead_set : (y : R) → drop (i + 1) (set new i y) ≡ drop (i + 1) old
  ahead_set y = drop-set-lt (i + 1) new i y (omega arith) ∙ next_ahead old new i s.ahead

  lost : (y : R) → lives c (mark (get_or new i d)) ≡ false → Swept mark c old (set new i y) count kept (i + 1)
  lost y e = record {
    within = omega (arith, s.within);
    long = length-set new i y ∙ s.long;
    ahead = ahead_set y;
    done =
        ap (λ (z : List R). map mark z ++ after_of c (map mark (drop (i + 1) (take count old)))) (take-set-le kept new i y s.within)
        ∙ ap (λ (z : List Mark). map mark (take kept new) ++ z) (sym (step ∙ gone_first c (mark (get_or new i d)) (map mark (drop (i + 1) (take count old))) e))
        ∙ s.done;
  }

  saved : (y : R) → lives c (mark (get_or new i d)) ≡ true → mark y ≡ sent c (mark (get_or new i d)) → Swept mark c old (set (set new i y) kept y) count (kept + 1) (i + 1)
  saved y e sends =
      let room : kept < length (set new i y) = omega (arith, length-set new i y, s.long, s.within) in
      let more : List Mark = after_of c (map mark (drop (i + 1) (take count old))) in
      record {
        within = omega (arith, s.within);
        long = length-set (set new i y) kept y ∙ length-set new i y ∙ s.long;
        ahead = drop-set-lt (i + 1) (set new i y) kept y (omega (arith, s.within)) ∙ ahead_set y;
        done =
            ap (λ (z : List R). map mark z ++ more) (take_more_set (set new i y) kept y room ∙ ap (λ (z : List R). z ++ (y ∷ [])) (take-set-le kept new i y s.within))
            ∙ ap (λ (z : List Mark). z ++ more) (map-append mark (take kept new) (y ∷ []))
            ∙ append_assoc (map mark (take kept new)) (mark y ∷ []) more
            ∙ ap (λ (m : Mark). map mark (take kept new) ++ (m ∷ more)) sends
            ∙ ap (λ (z : List Mark). map mark (take kept new) ++ z) (sym (step ∙ kept_first c (mark (get_or new i d)) (map mark (drop (i + 1) (take count old))) e))
            ∙ s.done;
      }

  pub swept_gone : (y : R) (items : List R) (next : ℕ) (r : Bool) → items ≡ set new i y → next ≡ kept → r ≡ lives c (mark (get_or new i d)) → r ≡ false → Swept mark c old items count next (i + 1)
  swept_gone y items next r e-items e-next told e =
      subst (λ (v : List R). Swept mark c old v count next (i + 1)) (sym e-items)
      (subst (λ (v : ℕ). Swept mark c old (set new i y) count v (i + 1)) (sym e-next) (lost y (sym told ∙ e)))

  -- z is any value: the survivor is read where it was just written
  pub swept_kept : (y z : R) (items : List R) (next : ℕ) (r : Bool) → items ≡ set (set new i y) kept (get_or (set new i y) i z) → next ≡ kept + 1 → r ≡ lives c (mark (get_or new i d)) → r ≡ true
      → mark y ≡ sent c (mark (get_or new i d)) → Swept mark c old items count next (i + 1)
  swept_kept y z items next r e-items e-next told e sends =
      let written : get_or (set new i y) i z ≡ y = get_or-set_same new i y z (omega (arith, s.long)) in
      subst (λ (v : List R). Swept mark c old v count next (i + 1)) (sym (e-items ∙ ap (set (set new i y) kept) written))
      (subst (λ (v : ℕ). Swept mark c old (set (set new i y) kept y) count v (i + 1)) (sym e-next) (saved y (sym told ∙ e) sends))

pub swept_all : {R : Type 0} (mark : R → Mark) (c : Change) (old new : List R) (count kept i : ℕ) → Swept mark c old new count kept i → count ≤ i → map mark (take kept new) ≡ after_of c (map mark (take count old))
swept_all mark c old new count kept i s h =
    let out : length (take count old) ≤ i = omega (arith, length-take count old) in
    let none : after_of c (map mark (drop i (take count old))) ≡ [] = at_drop_all (λ z. after_of c (map mark z)) (take count old) i out in
    sym (append-nil (map mark (take kept new))) ∙ ap (λ (z : List Mark). map mark (take kept new) ++ z) (sym none) ∙ s.done

-- the next record has room, since it is one of the first records as they were
pub room_ahead : {R : Type 0} (mark : R → Mark) (c : Change) (old new : List R) (count i : ℕ) (d : R) → drop i new ≡ drop i old → i < length (take count old) → AllByRecursion (Room c) (map mark (take count old))
    → Room c (mark (get_or new i d))
room_ahead {R} mark c old new count i d same inside all =
    let in_marks : i < length (map mark (take count old)) = omega (arith, length-map (take count old) mark) in
    let in_count : i < count = omega (arith, length-take count old) in
    let at : get_or (map mark (take count old)) i (mark d) ≡ mark (get_or new i d) = get_or-map mark (take count old) i d (mark d) inside ∙ ap mark (get_or-take count old i d in_count ∙ sym (read_ahead old new i same d)) in
    subst (Room c) at (All-get_or (Room c) (map mark (take count old)) i (mark d) in_marks all)

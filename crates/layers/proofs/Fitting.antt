-- What the kinds with tables of records are asked, over texts that their records fit. Assumes nothing.
use Rattle.std.proofs.Common.{◌≡◌, ℕ, ◌+◌, ◌-◌, ◌≤◌, List, [], ◌∷◌, length, refl, ap, ◌∙◌, arith}
use Rattle.std.specs.List.{AllByRecursion}
use Rattle.std.proofs.lemmas.Bool.Decides.{nat_tests}
use Rattle.places.specs.declared.change.Change.{Change}
use Rattle.places.specs.Changes.{Kept}
use Rattle.places.specs.Marks.{Mark, past, Placed, lowest, highest}
use Rattle.places.proofs.Following.{highest_le}
use Rattle.places.proofs.Keeping.{keeps_length}
use Rattle.places.proofs.Placing.{placed_le}
use Rattle.places.proofs.Laying.{laid_length}
use Rattle.view.specs.Layers.{Records, hints, folds, tabs, wrap, marks_in, Fit, raised}
use Rattle.view.specs.declared.view.Meaning.{Ghosts as Eyes}
use Rattle.view.specs.Seen.{text_at}
use Rattle.view.specs.Kinds.{Over, Behind}
use Rattle.layer.specs.Fitting.{fit_placed, grown_length}
use Rattle.tables.specs.Records.{Room}
use Rattle.tables.specs.Placing.{first_over, last_over, Counted}

pub same_change : (s o n s' o' n' : ℕ) → s ≡ s' → o ≡ o' → n ≡ n' → ◌≡◌ {A = Change} (record { start = s; old = o; new = n }) (record { start = s'; old = o'; new = n' })
same_change s o n s' o' n' e f g = cc

-- a change in a text short enough leaves room for every mark over it
rooms : (c : Change) (ms : List Mark) (p n : ℕ) → Placed p ms n → n ≤ 1073741824 → c.start + c.old ≤ 1073741824 → c.new ≤ 1073741824 → AllByRecursion (Room c) ms
rooms c [] p n h a b d = tt
rooms c (m ∷ ms) p n h a b d = let le = placed_le ms (past m) n h.2 in ((omega arith, omega arith), rooms c ms (past m) n h.2 a b d)

-- both texts can be counted where the one below is short enough
counted_none : (xs : List ℕ) → length xs ≤ 1073741824 → Counted [] xs
counted_none xs h = let e = laid_length [] xs (omega arith) in (omega arith, omega arith, omega arith)

counted : (r : Records) (xs : List ℕ) → Fit r (length xs) → length xs ≤ 1073741824 → Counted (marks_in r) xs
counted (hints ms) xs f h = let g = grown_length (hints ms) xs (length xs) f (omega arith) in (f.0, omega arith, omega arith)
counted (folds ms) xs f h = let g = grown_length (folds ms) xs (length xs) f (omega arith) in (f.0, omega arith, omega arith)
counted (tabs w) xs f h = counted_none xs h
counted (wrap w) xs f h = counted_none xs h

module _ {V : Type 0} (e : Eyes V) (v : V) (r : Records) where
  pub over_counted : Over e v r → Counted (marks_in r) (text_at e v)
  over_counted o = counted r (text_at e v) o.fit o.low

  module _ (c : Change) (b : Behind e v r c) where
    pub behind_rooms : AllByRecursion (Room c) (marks_in r)
    behind_rooms =
        let new = b.new_fits in
        let old = b.old_fits in
        let low = b.low in
        let was = b.was in
        rooms c (marks_in r) 0 (length (text_at e v) + c.old - c.new) (fit_placed r _ b.fit) was (omega arith) (omega arith)

    pub behind_reach : highest c.start c.old (marks_in r) ≤ length (text_at e v) + c.old - c.new
    behind_reach = highest_le c.start c.old (length (text_at e v) + c.old - c.new) (marks_in r) (fit_placed r _ b.fit) b.old_fits

    pub behind_counted : (xs : List ℕ) → Fit r (length xs) → Kept xs (text_at e v) c → Counted (marks_in r) xs
    behind_counted xs fit kept =
        let long = keeps_length xs (text_at e v) c.start c.old c.new kept in
        let was = b.was in
        counted r xs fit (omega arith)

-- the change that hints answer
pub hints_raised : (ms : List Mark) (xs ys : List ℕ) (c : Change) (start old : ℕ) → start ≡ last_over ms xs c.start → (c.old ≡ 0 → old ≡ 0)
    → ((c.old ≡ 0 → ⊥) → old ≡ first_over ms xs (c.start + c.old) - start) → record { start = start; old = old; new = c.new } ≡ raised (hints ms) xs ys c
hints_raised ms xs ys c start old e none some = same_change _ _ _ _ _ _ e (grind (arith, nat_tests)) refl

-- the change that folds answer
pub folds_raised : (ms : List Mark) (xs ys : List ℕ) (c : Change) (low high start end old : ℕ) → low ≡ lowest c.start c.old ms → high ≡ highest c.start c.old ms
    → start ≡ first_over ms xs low → end ≡ first_over ms xs high → old ≡ end - start → record { start = start; old = old; new = high + c.new - c.old - low } ≡ raised (folds ms) xs ys c
folds_raised ms xs ys c low high start end old low-is high_is start_is end_is old-is =
    let s : start ≡ first_over ms xs (lowest c.start c.old ms) = start_is ∙ ap (first_over ms xs) low-is in
    let t : end ≡ first_over ms xs (highest c.start c.old ms) = end_is ∙ ap (first_over ms xs) high_is in
    same_change _ _ _ _ _ _ s (omega arith) (omega arith)

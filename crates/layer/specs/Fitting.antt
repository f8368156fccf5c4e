-- One layer whose records fit: its map, its length, and how it follows a change of the text below. Assumes nothing.
use Rattle.std.specs.Prelude.{◌≡◌, ℕ, ◌+◌, ◌*◌, ◌≤◌, cond, List, [], ◌∷◌, length, nat_le, refl}
use Rattle.std.proofs.Common.{ap, arith}
use Rattle.std.specs.List.{AllByRecursion}
use Rattle.std.proofs.lemmas.Bool.Decides.{nat_tests}
use Rattle.std.proofs.lemmas.Bool.{cond_both}
use Rattle.codes.specs.Codes.{placeholder}
use Rattle.places.specs.declared.change.Change.{Change}
use Rattle.places.specs.Changes.{Kept}
use Rattle.places.specs.Maps.{Finds}
use Rattle.places.specs.Marks.{Mark, past, moved, followed, shown_in, taken_in, Placed, Solid}
use Rattle.places.proofs.Keeping.{keeps_length}
use Rattle.places.proofs.Laying.{laid_finds, laid_length}
use Rattle.places.proofs.Following.{followed_placed, hints_follow, folds_follow}
use Rattle.places.proofs.Weighing.{followed_light, followed_solid}
use Rattle.lines.specs.Tabs.{tab_stops}
use Rattle.lines.specs.Wraps.{row_length, soft_wrap}
use Rattle.lines.proofs.Scanning.{scan_finds, text_grows}
use Rattle.lines.proofs.Changing.{near_change, line_change}
use Rattle.lines.proofs.Steadiness.{tabs_steady, tabs_blind, tabs_shown_le, wrap_steady, wrap_shown_le}
use Rattle.view.specs.Layers.{Records, hints, folds, tabs, wrap, marks_in, shown, under, first, last, growth, Fit, follow, raised}

pub fit_placed : (r : Records) (n : ℕ) → Fit r n → Placed 0 (marks_in r) n
fit_placed (hints ms) n f = f.0
fit_placed (folds ms) n f = f.0
fit_placed (tabs w) n f = omega arith
fit_placed (wrap w) n f = omega arith

-- the layer's map rises, and its two searches find by the order rules
pub fit_finds : (r : Records) (xs : List ℕ) → Fit r (length xs) → Finds (under r xs) (first r xs) (last r xs) (length (shown r xs)) (length xs)
fit_finds (hints ms) xs f = laid_finds ms xs f.0
fit_finds (folds ms) xs f = laid_finds ms xs f.0
fit_finds (tabs w) xs f = scan_finds (tab_stops w) (tabs_steady w f.0) xs
fit_finds (wrap w) xs f = scan_finds (soft_wrap (row_length w)) (wrap_steady (row_length w)) xs

-- what is true of each mark, and of a mark that moves, is true of each that follows
followed_all : (P : Mark → Type 0) → ((o n : ℕ) (m : Mark) → P m → P (moved o n m)) → (s o n : ℕ) (ms : List Mark) → AllByRecursion P ms → AllByRecursion P (followed s o n ms)
followed_all P move s o n [] h = h
followed_all P move s o n (m ∷ ms) h =
    let rest = followed_all P move s o n ms h.1 in
    cond_both (nat_le (past m) s) (m ∷ followed s o n ms) (cond (nat_le (s + o) m.at) (moved o n m ∷ followed s o n ms) (followed s o n ms)) (AllByRecursion P)
    (λ _. (h.0, rest))
    (λ _. cond_both (nat_le (s + o) m.at) (moved o n m ∷ followed s o n ms) (followed s o n ms) (AllByRecursion P) (λ _. (move o n m h.0, rest)) (λ _. rest))

followed_few : (s o n : ℕ) (ms : List Mark) → length (followed s o n ms) ≤ length ms
followed_few s o n [] = omega arith
followed_few s o n (m ∷ ms) = let rest = followed_few s o n ms in grind (arith, nat_tests)

-- the records fit over the new text
pub follow_fit : (r : Records) (xs ys : List ℕ) (c : Change) → Fit r (length xs) → Kept xs ys c → Fit (follow r c) (length ys)
follow_fit (hints ms) xs ys c f k =
    let few = followed_few c.start c.old c.new ms in (
      followed_placed ms c.start c.old c.new (length xs) (length ys) f.0 k.old_fits (keeps_length xs ys c.start c.old c.new k),
      followed_light c.start c.old c.new ms f.1,
      omega arith,
      followed_all _ (λ o n m h. h) c.start c.old c.new ms f.3,
    )
follow_fit (folds ms) xs ys c f k =
    let few = followed_few c.start c.old c.new ms in (
      followed_placed ms c.start c.old c.new (length xs) (length ys) f.0 k.old_fits (keeps_length xs ys c.start c.old c.new k),
      followed_solid c.start c.old c.new ms f.1,
      omega arith,
      followed_all _ (λ o n m h. h) c.start c.old c.new ms f.3,
    )
follow_fit (tabs w) xs ys c f k = f
follow_fit (wrap w) xs ys c f k = f

-- the layer's own change keeps its text where it says
pub follow_kept : (r : Records) (xs ys : List ℕ) (c : Change) → Fit r (length xs) → Kept xs ys c → Kept (shown r xs) (shown (follow r c) ys) (raised r xs ys c)
follow_kept (hints ms) xs ys c f k = hints_follow ms xs ys c.start c.old c.new f.1 f.0 k
follow_kept (folds ms) xs ys c f k = folds_follow ms xs ys c.start c.old c.new f.1 f.0 k
follow_kept (tabs w) xs ys c f k = near_change (tab_stops w) (tabs_steady w f.0) (tabs_blind w) xs ys c.start c.old c.new k
follow_kept (wrap w) xs ys c f k = line_change (soft_wrap (row_length w)) (wrap_steady (row_length w)) xs ys c.start c.old c.new k

-- following keeps the kind of a layer
pub follow_growth : (r : Records) (c : Change) (n : ℕ) → growth (follow r c) n ≡ growth r n
follow_growth (hints ms) c n = refl
follow_growth (folds ms) c n = refl
follow_growth (tabs w) c n = refl
follow_growth (wrap w) c n = refl

short_shown : (ms : List Mark) → AllByRecursion (λ m. length m.shows ≤ 16) ms → shown_in ms ≤ 16 * length ms
short_shown [] h = omega arith
short_shown (m ∷ ms) h = let rest = short_shown ms h.1 in let here = h.0 in omega arith

one_shown : (ms : List Mark) → Solid ms → AllByRecursion (λ m. m.shows ≡ placeholder ∷ []) ms → shown_in ms ≤ taken_in ms
one_shown [] s h = omega arith
one_shown (m ∷ ms) s h = let rest = one_shown ms s.1 h.1 in let here = ap length h.0 in let some = s.0 in omega arith

-- over more codes the ceiling is no lower
pub growth_rises : (r : Records) (a b : ℕ) → a ≤ b → growth r a ≤ growth r b
growth_rises (hints ms) a b h = omega arith
growth_rises (folds ms) a b h = h
growth_rises (tabs w) a b h = omega arith
growth_rises (wrap w) a b h = omega arith

-- the text above is no longer than the ceiling over one of the text below
pub grown_length : (r : Records) (xs : List ℕ) (c : ℕ) → Fit r (length xs) → length xs ≤ c → length (shown r xs) ≤ growth r c
grown_length (hints ms) xs c f h = let e = laid_length ms xs f.0 in let s = short_shown ms f.3 in omega arith
grown_length (folds ms) xs c f h = let e = laid_length ms xs f.0 in let s = one_shown ms f.1 f.3 in omega arith
grown_length (tabs w) xs c f h = let g = text_grows (tab_stops w) 16 (λ k x. tabs_shown_le w k x f.1 f.0) xs in omega arith
grown_length (wrap w) xs c f h = let g = text_grows (soft_wrap (row_length w)) 2 (wrap_shown_le (row_length w)) xs in omega arith

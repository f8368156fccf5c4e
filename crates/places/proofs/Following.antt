-- Marks that follow a change below: they stay in order, and what the text above keeps. Assumes nothing.
use Rattle.std.proofs.Common.{◌≡◌, ℕ, ◌+◌, ◌-◌, ◌<◌, ◌≤◌, cond, eqb, List, [], ◌∷◌, ◌++◌, map, length, sym, refl, ap, ◌∙◌, subst, ⊎_elim, append_assoc, arith}
use Rattle.std.specs.List.{AllByRecursion}
use Rattle.std.proofs.lemmas.Bool.Decides.{nat_tests}
use Rattle.std.proofs.lemmas.Bool.{cases_eq}
use Rattle.std.proofs.ByRecursion.{All-append}
use Rattle.places.specs.Changes.{Keeps}
use Rattle.places.specs.Maps.{first_of, last_of}
use Rattle.places.specs.Pieces.{shown_text, spans_of, under_by}
use Rattle.places.specs.Marks.{Mark, laid, Placed, taken_in, shown_in, moved, followed, lowest, highest, ended, unended, Light, Solid}
use Rattle.places.proofs.Placing.{placed_room, placed_le, placed_from, placed-append, placed_moved, placed_before, moved_same, solid_before, light_taken, taken_in-append, shown_in-append}
use Rattle.places.proofs.Reaching.{first_by, last_by, first_is, last_is, first_cut, last_cut}
use Rattle.places.proofs.Keeping.{keeps_length, keeps_wider}
use Rattle.places.proofs.Relaying.{relaid_keeps}
use Rattle.places.proofs.Splitting.{begun, unbegun, ended_split, split_both, ended_placed, begun_before, beyond_none, light_beyond}
use Rattle.places.proofs.Weighing.{light_parts, solid_parts, solid-append}
use Rattle.places.proofs.Parting.{parts, followed_is, light_lowest, light_highest}

-- what a change reaches lies about it and in the text
pub lowest_le : (s o : ℕ) (ms : List Mark) → lowest s o ms ≤ s
lowest_le s o [] = omega arith
lowest_le s o (m ∷ ms) = let rest = lowest_le s o ms in grind (arith, nat_tests)

pub highest_ge : (s o : ℕ) (ms : List Mark) → s + o ≤ highest s o ms
highest_ge s o [] = omega arith
highest_ge s o (m ∷ ms) = let rest = highest_ge s o ms in grind (arith, nat_tests)

pub highest_le : (s o N : ℕ) (ms : List Mark) → Placed 0 ms N → s + o ≤ N → highest s o ms ≤ N
highest_le s o N ms h f = placed_le (unbegun (s + o) (unended s ms)) (highest s o ms) N (parts s o 0 N ms h (omega arith) f).move

-- marks that follow stay in order
pub followed_placed : (ms : List Mark) (s o n N M : ℕ) → Placed 0 ms N → s + o ≤ N → M + o ≡ N + n → Placed 0 (followed s o n ms) M
followed_placed ms s o n N M h f e =
    let all = parts s o 0 N ms h (omega arith) f in
    let l₁ = lowest_le s o ms in
    let l₂ = highest_ge s o ms in
    let end : ℕ = highest s o ms + n - o in
    let b : List Mark = unbegun (s + o) (unended s ms) in
    let to : Placed end (map (moved o n) b) M = placed_moved b (highest s o ms) end o n N M (omega arith) (omega arith) e all.move in
    rw (followed_is s o n 0 N ms h)
    (placed-append (ended s ms) (map (moved o n) b) 0 (lowest s o ms) M all.stay (placed_from (map (moved o n) b) (lowest s o ms) end M to (omega arith)))

-- for both kinds: from where the reach of the change begins to where it ends
module _ (ms : List Mark) (xs ys : List ℕ) (s o n : ℕ) (h : Placed 0 ms (length xs)) (kept : Keeps xs ys s o n) where
  follow_keeps : (i j k : ℕ) → i + taken_in (ended s ms) ≡ lowest s o ms + shown_in (ended s ms)
      → j + taken_in (begun (s + o) (unended s ms)) ≡ (highest s o ms - lowest s o ms) + shown_in (begun (s + o) (unended s ms))
      → k ≡ highest s o ms + n - o - lowest s o ms
      → Keeps (shown_text (laid 0 ms xs)) (shown_text (laid 0 (followed s o n ms) ys)) i j k
  follow_keeps i j k ei ej ek =
      let N : ℕ = length xs in
      let all = parts s o 0 N ms h (omega arith) kept.old_fits in
      let a : List Mark = ended s ms in
      let d : List Mark = begun (s + o) (unended s ms) in
      let b : List Mark = unbegun (s + o) (unended s ms) in
      let p : ℕ = lowest s o ms in
      let c : ℕ = highest s o ms in
      let l₁ = lowest_le s o ms in
      let l₂ = highest_ge s o ms in
      let l₃ : c ≤ N = placed_le b c N all.move in
      let q : ℕ = c - p in
      let c_is : c ≡ p + q = omega arith in
      let wide : Keeps xs ys p q k = keeps_wider xs ys s o n p q k kept l₁ (omega arith) (omega arith) (omega arith) in
      let hd : Placed p d (p + q) = subst (λ z. Placed p d z) c_is all.drop in
      let hb : Placed (p + q) b N = subst (λ z. Placed z b N) c_is all.move in
      let long = keeps_length xs ys p q k wide in
      let hm : Placed (p + k) (map (moved q k) b) (length ys) = placed_moved b (p + q) (p + k) q k N (length ys) (omega arith) (omega arith) long hb in
      let base = relaid_keeps a d [] b xs ys p q k all.stay hd (omega arith) hb hm wide i j k ei ej refl in
      let same : map (moved q k) b ≡ map (moved o n) b = sym (moved_same b c N o n q k all.move (omega arith) (omega arith) (omega arith)) in
      let new : a ++ map (moved q k) b ≡ followed s o n ms = ap (λ z. a ++ z) same ∙ sym (followed_is s o n 0 N ms h) in
      subst (λ z. Keeps (shown_text (laid 0 z xs)) (shown_text (laid 0 (followed s o n ms) ys)) i j k) (split_both s (s + o) ms)
      (subst (λ z. Keeps (shown_text (laid 0 (a ++ (d ++ b)) xs)) (shown_text (laid 0 z ys)) i j k) new base)

-- when hints follow, the text above changes from the last place over the start to the first over the end, and where
-- nothing went it only grows at the last place over the start
pub hints_follow : (ms : List Mark) (xs ys : List ℕ) (s o n : ℕ) → Light ms → Placed 0 ms (length xs) → Keeps xs ys s o n
    → Keeps (shown_text (laid 0 ms xs)) (shown_text (laid 0 (followed s o n ms) ys))
    (last_of (under_by (spans_of (laid 0 ms xs))) (length (shown_text (laid 0 ms xs))) s)
    (cond (eqb o 0) 0 (first_of (under_by (spans_of (laid 0 ms xs))) (length (shown_text (laid 0 ms xs))) (s + o) - last_of (under_by (spans_of (laid 0 ms xs))) (length (shown_text (laid 0 ms xs))) s))
    n
hints_follow ms xs ys s o n g h kept =
    let N : ℕ = length xs in
    let fits = kept.old_fits in
    let all = parts s o 0 N ms h (omega arith) fits in
    let F : ℕ = first_of (under_by (spans_of (laid 0 ms xs))) (length (shown_text (laid 0 ms xs))) (s + o) in
    let L : ℕ = last_of (under_by (spans_of (laid 0 ms xs))) (length (shown_text (laid 0 ms xs))) s in
    let F-is : first_by 0 ms (s + o) ≡ F = first_is ms xs h (s + o) (omega arith) in
    let L-is : last_by 0 ms s ≡ L = last_is ms xs h s (omega arith) in
    let a : List Mark = ended s ms in
    let r : List Mark = unended s ms in
    let d : List Mark = begun (s + o) r in
    let b : List Mark = unbegun (s + o) r in
    let p : ℕ = lowest s o ms in
    let c : ℕ = highest s o ms in
    let p_is : p ≡ s = light_lowest s o ms g in
    let c_is : c ≡ s + o = light_highest s o ms g in
    let ha : Placed 0 a s = ended_placed s 0 N ms h (omega arith) in
    let hb : Placed (s + o) b N = subst (λ z. Placed z b N) c_is all.move in
    let had : Placed 0 (a ++ d) (s + o) = subst (λ z. Placed 0 (a ++ d) z) c_is (placed-append a d 0 p c all.stay all.drop) in
    let whole : a ++ (d ++ b) ≡ ms = split_both s (s + o) ms in
    let g₁ = light_parts a (d ++ b) (subst Light (sym whole) g) in
    let g₂ = light_parts d b g₁.1 in
    let z₁ = light_taken a g₁.0 in
    let z₂ = light_taken d g₂.0 in
    let over = light_beyond s ms g in
    let f₁ = last_cut a r 0 s ha over in
    let e₁ : last_by 0 (a ++ r) s ≡ last_by 0 ms s = ap (λ z. last_by 0 z s) (ended_split s ms) in
    let r₂ = taken_in-append a d in
    let r₃ = shown_in-append a d in
    let old : cond (eqb o 0) 0 (F - L) + taken_in d ≡ (c - p) + shown_in d = ⊎_elim
    (λ (z : o ≡ 0).
    let same_s : s + o ≡ s = omega arith in
    let none : d ≡ [] = ap (λ v. begun v r) same_s ∙ beyond_none s r over in
    let none_shown : shown_in d ≡ 0 = ap shown_in none in
    grind (arith, nat_tests))
    (λ (z : o ≡ 0 → ⊥).
    let before : AllByRecursion (λ m. m.at < s + o) (a ++ d) =
    All-append (λ m. m.at < s + o) a d (placed_before a 0 s (s + o) ha (omega arith)) (begun_before (s + o) r) in
    let f₂ = first_cut (a ++ d) b 0 (s + o) N had before hb in
    let e₂ : first_by 0 ((a ++ d) ++ b) (s + o) ≡ first_by 0 ms (s + o) = ap (λ z. first_by 0 z (s + o)) (append_assoc a d b ∙ whole) in
    grind (arith, nat_tests))
    (cases_eq o 0) in
    follow_keeps ms xs ys s o n h kept L (cond (eqb o 0) 0 (F - L)) n (omega arith) old (omega arith)

-- when folds follow, the text above changes from the first place over the lowest place reached to the first over the
-- highest
pub folds_follow : (ms : List Mark) (xs ys : List ℕ) (s o n : ℕ) → Solid ms → Placed 0 ms (length xs) → Keeps xs ys s o n
    → Keeps (shown_text (laid 0 ms xs)) (shown_text (laid 0 (followed s o n ms) ys))
    (first_of (under_by (spans_of (laid 0 ms xs))) (length (shown_text (laid 0 ms xs))) (lowest s o ms))
    (first_of (under_by (spans_of (laid 0 ms xs))) (length (shown_text (laid 0 ms xs))) (highest s o ms) - first_of (under_by (spans_of (laid 0 ms xs))) (length (shown_text (laid 0 ms xs))) (lowest s o ms))
    (highest s o ms + n - o - lowest s o ms)
folds_follow ms xs ys s o n g h kept =
    let N : ℕ = length xs in
    let all = parts s o 0 N ms h (omega arith) kept.old_fits in
    let a : List Mark = ended s ms in
    let d : List Mark = begun (s + o) (unended s ms) in
    let b : List Mark = unbegun (s + o) (unended s ms) in
    let p : ℕ = lowest s o ms in
    let c : ℕ = highest s o ms in
    let le₁ : c ≤ N = placed_le b c N all.move in
    let le₂ : p ≤ c = placed_le d p c all.drop in
    let low-is = first_is ms xs h p (omega arith) in
    let high_is = first_is ms xs h c le₁ in
    let whole : a ++ (d ++ b) ≡ ms = split_both s (s + o) ms in
    let g₁ = solid_parts a (d ++ b) (subst Solid (sym whole) g) in
    let g₂ = solid_parts d b g₁.1 in
    let had : Placed 0 (a ++ d) c = placed-append a d 0 p c all.stay all.drop in
    let f₁ = first_cut a (d ++ b) 0 p N all.stay (solid_before a 0 p all.stay g₁.0) (placed-append d b p c N all.drop all.move) in
    let f₂ = first_cut (a ++ d) b 0 c N had (solid_before (a ++ d) 0 c had (solid-append a d g₁.0 g₂.0)) all.move in
    let e₁ : first_by 0 (a ++ (d ++ b)) p ≡ first_by 0 ms p = ap (λ z. first_by 0 z p) whole in
    let e₂ : first_by 0 ((a ++ d) ++ b) c ≡ first_by 0 ms c = ap (λ z. first_by 0 z c) (append_assoc a d b ∙ whole) in
    let r₁ = placed_room d p c all.drop in
    let r₂ = taken_in-append a d in
    let r₃ = shown_in-append a d in
    follow_keeps ms xs ys s o n h kept _ _ _ (omega arith) (omega arith) refl

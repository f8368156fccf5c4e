-- Row ends counted over the parts of a text, and one code further on. Assumes nothing.
use Rattle.std.proofs.Common.{◌≡◌, ℕ, zero, suc, ◌+◌, ◌-◌, ◌<◌, ◌≤◌, min, max, Bool, true, false, cond, List, [], ◌∷◌, ◌++◌, length, get_or, take, drop, sym, refl, ap, ◌∙◌, inl, inr, arith, take-append-drop, take-add}
use Rattle.std.specs.List.{filter, range_with_len}
use Rattle.std.proofs.lemmas.List.{take_more, take_all}
use Rattle.std.proofs.lemmas.Bool.{cases_lt}
use Rattle.std.proofs.lemmas.Bool.Decides.{nat_tests}
use Rattle.codes.specs.Codes.{is_row_end}
use Rattle.lines.specs.Rows.{before, rows}
use Rattle.view.specs.Layers.{Records}
use Rattle.view.specs.Stacks.{highest_ceiling, Means, text_of}
use Rattle.damage.specs.Damages.{ends_in, ends_before}

pub ends_parts : (xs ys : List ℕ) → ends_in (xs ++ ys) ≡ ends_in xs + ends_in ys
ends_parts [] ys = omega arith
ends_parts (x ∷ xs) ys = let rest = ends_parts xs ys in grind (arith, nat_tests)

-- a text has at most as many row ends as codes
pub ends_le : (xs : List ℕ) → ends_in xs ≤ length xs
ends_le [] = omega arith
ends_le (x ∷ xs) = let rest = ends_le xs in grind (arith, nat_tests)

length_before : (x : ℕ) (rs : List (List ℕ)) → 0 < length rs → length (before x rs) ≡ length rs
length_before x [] h = omega arith
length_before x (r ∷ rs) h = refl

-- a text has one row more than row ends
pub rows_counted : (t : List ℕ) → length (rows t) ≡ ends_in t + 1
rows_counted [] = refl
rows_counted (x ∷ xs) =
    let rest = rows_counted xs in
    let same = length_before x (rows xs) (omega arith) in
    grind (arith, nat_tests)

module _ (t : List ℕ) where
  pub ends_split : (v : ℕ) → ends_in t ≡ ends_before t v + ends_in (drop v t)
  ends_split v = ap ends_in (sym (take-append-drop v t)) ∙ ends_parts (take v t) (drop v t)

  pub ends_rise : (v w : ℕ) → v ≤ w → ends_before t v ≤ ends_before t w
  ends_rise v w h =
      let more : ℕ = w - v in
      let up : v + more ≡ w = omega arith in
      omega (arith, ap (ends_before t) up, ap ends_in (take-add v more t), ends_parts (take v t) (take more (drop v t)))

  pub ends_all : (v : ℕ) → length t ≤ v → ends_before t v ≡ ends_in t
  ends_all v h = ap ends_in (take_all v t h)

  pub ends_within : (v : ℕ) → ends_before t v ≤ ends_in t
  ends_within v = omega (arith, ends_split v)

module _ (t : List ℕ) (i : ℕ) (inside : i < length t) where
  step : ends_before t (i + 1) ≡ ends_before t i + cond (is_row_end (get_or t i 0)) 1 0
  step = ap ends_in (take_more t i 0 inside) ∙ ends_parts (take i t) (get_or t i 0 ∷ [])

-- counting stops at the end of the text
pub ends_capped : (t : List ℕ) (v m w : ℕ) → length t ≤ m → w ≡ min v m → ends_before t w ≡ ends_before t v
ends_capped t v m w h e =
    elim (cases_lt v m) [
      | inl below ↦ ap (ends_before t) (let same : w ≡ v = omega arith in same)
      | inr over ↦ ends_all t w (omega arith) ∙ sym (ends_all t v (omega arith))
    ]

-- what a count from one place on has come to when it stops, at the other place or at the end of the text
pub ends_counted : (t : List ℕ) (from to end i n : ℕ) → end ≡ min to (length t) → end ≤ i → from ≤ i → i ≤ max from end
    → n + ends_before t from ≡ ends_before t i → n ≡ ends_before t to - ends_before t from
ends_counted t from to end i n stop over begun within count =
    let same = ends_capped t to (length t) end (omega arith) stop in
    elim (cases_lt end from) [
      | inl none ↦
          let here : i ≡ from = omega arith in
          omega (arith, ap (ends_before t) here, ends_rise t end from (omega arith))
      | inr some ↦
          let here : i ≡ end = omega arith in
          omega (arith, ap (ends_before t) here)
    ]

-- no view shows more codes than its highest ceiling, nor more row ends
module _ (most : ℕ) (rs : List Records) (d : List ℕ) (m : Means most rs d) where
  pub codes_few : length (text_of most rs d) ≤ highest_ceiling
  codes_few = omega (arith, m.text_fits, m.ceiling_fits)

  pub ends_few : (v : ℕ) → ends_before (text_of most rs d) v ≤ highest_ceiling
  ends_few v = omega (arith, codes_few, ends_le (text_of most rs d), ends_within (text_of most rs d) v)

-- the row ends among n places from one on
module _ (t : List ℕ) where
  filter_step : (b : Bool) (x n : ℕ) (xs : List ℕ) → length xs ≡ n → length (cond b (x ∷ xs) xs) ≡ cond b 1 0 + n
  filter_step true x n xs e = omega (arith, e)
  filter_step false x n xs e = omega (arith, e)

  pub ends_filtered : (n from : ℕ) → n ≤ length t - from → length (filter (λ i. is_row_end (get_or t i 0)) (range_with_len from n)) + ends_before t from ≡ ends_before t (from + n)
  ends_filtered zero from l =
      let none : 0 + ends_before t from ≡ ends_before t from = omega arith in
      let here : from ≡ from + 0 = omega arith in
      none ∙ ap (ends_before t) here
  ends_filtered (suc n) from l =
      let inside : from < length t = omega arith in
      let rest = ends_filtered n (from + 1) (omega arith) in
      let on : from + suc n ≡ from + 1 + n = omega arith in
      let next = step t from inside in
      let first = filter_step (is_row_end (get_or t from 0)) from _ (filter (λ i. is_row_end (get_or t i 0)) (range_with_len (from + 1) n)) refl in
      omega (arith, rest, first, next, ap (ends_before t) on)

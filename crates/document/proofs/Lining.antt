-- The line that holds a place, one place further on, and where it ends. Assumes nothing.
use Rattle.std.proofs.Common.{◌≡◌, ℕ, ◌+◌, ◌-◌, ◌<◌, ◌≤◌, true, false, List, length, get_or, take, drop, None, Some, Option, MatchOption, unwrap_or, ap, ◌∙◌, arith}
use Rattle.std.specs.List.{prefix_len, suffix_len}
use Rattle.std.proofs.lemmas.List.{length-take, length-drop, get_or-drop}
use Rattle.std.proofs.lemmas.List.Sums.{prefix_len_is, suffix_len-take_yes, suffix_len-take_no, count_by_more_yes, count_by_more_no, count_by-le-length}
use Rattle.std.proofs.lemmas.Bool.Decides.{nat_tests}
use Rattle.document.specs.Lines.{is_newline, is_inner, line_number, line_start, line_end}

newline_yes : (c : ℕ) → c ≡ 10 → (is_newline c ≡ true) × (is_inner c ≡ false)
newline_yes c e = (grind (arith, nat_tests), grind (arith, nat_tests))

newline_no : (c : ℕ) → (c ≡ 10 → ⊥) → (is_newline c ≡ false) × (is_inner c ≡ true)
newline_no c e = (grind (arith, nat_tests), grind (arith, nat_tests))

-- there are no more lines than places
pub number_le : (d : List ℕ) (p : ℕ) → line_number d p ≤ p + 1
number_le d p = let h = count_by-le-length is_newline (take p d) in let l = length-take p d in omega arith

-- the line ends at the first newline from the place on, or with the document
pub ends_first : (d : List ℕ) (p n : ℕ) (x : Option ℕ) (e : ℕ) → p ≤ length d → n ≡ length d → e ≡ unwrap_or x n
    → MatchOption x ((k : ℕ) → p ≤ k → k < n → k < length d → get_or d k 0 ≡ 10 → ⊥) (λ i. (p ≤ i) × (i < n) × (get_or d i 0 ≡ 10) × ((k : ℕ) → p ≤ k → k < i → k < length d → get_or d k 0 ≡ 10 → ⊥))
    → e ≡ line_end d p
ends_first d p n None e l q is none =
    let m = length-drop p d in
    let f : prefix_len is_inner (drop p d) ≡ length d - p =
    prefix_len_is is_inner (drop p d) (length d - p) 0 (omega arith) (λ k h. ap is_inner (get_or-drop p d k 0) ∙ (newline_no _ (none (p + k) (omega arith) (omega arith) (omega arith))).1) (λ h. absurd (omega arith)) in
    omega arith
ends_first d p n (Some i) e l q is first =
    let m = length-drop p d in
    let on : p + (i - p) ≡ i = omega (arith, first.0) in
    let f : prefix_len is_inner (drop p d) ≡ i - p =
    prefix_len_is is_inner (drop p d) (i - p) 0 (omega (arith, first.1)) (λ k h. ap is_inner (get_or-drop p d k 0) ∙ (newline_no _ (first.3 (p + k) (omega arith) (omega (arith, first.0)) (omega (arith, first.1)))).1)
    (λ h. ap is_inner (get_or-drop p d (i - p) 0 ∙ ap (λ (k : ℕ). get_or d k 0) on) ∙ (newline_yes _ first.2).1) in
    omega arith

module _ (d : List ℕ) (i : ℕ) (inside : i < length d) where
  pub number_next : get_or d i 0 ≡ 10 → line_number d (i + 1) ≡ line_number d i + 1
  number_next e = let h = count_by_more_yes is_newline d i 0 inside (newline_yes _ e).0 in omega arith

  pub number_same : (get_or d i 0 ≡ 10 → ⊥) → line_number d (i + 1) ≡ line_number d i
  number_same e = let h = count_by_more_no is_newline d i 0 inside (newline_no _ e).0 in omega arith

  before : i + 1 - 1 ≡ i
  before = omega arith

  pub start_next : get_or d i 0 ≡ 10 → line_start d (i + 1) ≡ i + 1
  start_next e =
      let h = suffix_len-take_no is_inner d (i + 1) 0 (omega arith) (omega arith) (ap (λ (k : ℕ). is_inner (get_or d k 0)) before ∙ (newline_yes _ e).1) in
      omega arith

  pub start_same : (get_or d i 0 ≡ 10 → ⊥) → line_start d (i + 1) ≡ line_start d i
  start_same e =
      let h = suffix_len-take_yes is_inner d (i + 1) 0 (omega arith) (omega arith) (ap (λ (k : ℕ). is_inner (get_or d k 0)) before ∙ (newline_no _ e).1) in
      let k = ap (λ (k : ℕ). suffix_len is_inner (take k d)) before in
      omega arith

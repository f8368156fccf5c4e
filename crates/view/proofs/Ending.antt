-- A line goes from behind the last row end in front of a place, or the start of the text, to the first one from the place
-- on, or the end of the text. Assumes nothing.
use Rattle.std.proofs.Common.{◌≡◌, ℕ, zero, suc, ◌+◌, ◌-◌, ◌<◌, ◌≤◌, Bool, true, false, List, length, get_or, Some, None, Option, sym, ap, ◌∙◌, subst, arith}
use Rattle.std.proofs.iter.runs.Sources.{nat_range_steps_back, range_runs_back}
use Rattle.std.specs.declared.ops.Range.{Range}
use Rattle.std.specs.Fn.{CalledAt}
use Rattle.std.specs.Iterator.Runs.{Run, SomeRun, EachRunFrom, IsIdenticalRun, NoItemPasses, EndsAtFirstPassing, CallKeepsClosure, ItemsCountDown}
use Rattle.std.specs.Option.{MatchOption, IfSome, IsSomeAnd, unwrap_or, option_map}
use Rattle.codes.specs.Codes.{is_row_end}
use Rattle.lines.specs.Lines.{line_start, line_end}
use Rattle.lines.proofs.Stepping.{behind_here, behind_same, end_all, end_here, end_more}
use denote.Param.Members.{Mut}
use denote.Ref.{Bor}

module _ (t : List ℕ) (p : ℕ) where
  passed : (d : ℕ) → p + d ≤ length t → ((k : ℕ) → p ≤ k → k < p + d → is_row_end (get_or t k 0) ≡ false) → line_end t (p + d) ≡ line_end t p
  passed zero l goes = ap (line_end t) (omega arith)
  passed (suc d) l goes =
      let up : p + suc d ≡ p + d + 1 = omega arith in
      ap (line_end t) up ∙ end_more t (p + d) (omega arith) (goes (p + d) (omega arith) (omega arith)) ∙ passed d (omega arith) (λ k a b. goes k a (omega arith))

  passed_to : (i : ℕ) → p ≤ i → i ≤ length t → ((k : ℕ) → p ≤ k → k < i → is_row_end (get_or t k 0) ≡ false) → line_end t i ≡ line_end t p
  passed_to i a l goes =
      let on : i ≡ p + (i - p) = omega arith in
      ap (line_end t) on ∙ passed (i - p) (omega arith) (λ k b c. goes k b (omega arith))

  pub ends_first : (n : ℕ) (x : Option ℕ) (e : ℕ) → p ≤ length t → n ≡ length t → e ≡ unwrap_or x n
      → MatchOption x ((k : ℕ) → p ≤ k → k < n → is_row_end (get_or t k 0) ≡ false) (λ i. (p ≤ i) × (i < n) × (is_row_end (get_or t i 0) ≡ true) × ((k : ℕ) → p ≤ k → k < i → is_row_end (get_or t k 0) ≡ false))
      → e ≡ line_end t p
  ends_first n None e l q is none =
      is ∙ sym (end_all t n (omega arith)) ∙ passed_to n (omega arith) (omega arith) none
  ends_first n (Some i) e l q is first =
      let low : p ≤ i = first.0 in
      let high : i < length t = omega (arith, first.1) in
      is ∙ sym (end_here t i high first.2) ∙ passed_to i low (omega arith) first.3

  behind : (d : ℕ) → p + d ≤ length t → ((k : ℕ) → p ≤ k → k < p + d → is_row_end (get_or t k 0) ≡ false) → line_start t (p + d) ≡ line_start t p
  behind zero l goes = ap (line_start t) (omega arith)
  behind (suc d) l goes =
      let up : p + suc d ≡ p + d + 1 = omega arith in
      ap (line_start t) up ∙ behind_same is_row_end t (p + d) (omega arith) (goes (p + d) (omega arith) (omega arith)) ∙ behind d (omega arith) (λ k a b. goes k a (omega arith))

behind_to : (t : List ℕ) (p i : ℕ) → i ≤ p → p ≤ length t → ((k : ℕ) → i ≤ k → k < p → is_row_end (get_or t k 0) ≡ false) → line_start t p ≡ line_start t i
behind_to t p i a l goes =
    let on : p ≡ i + (p - i) = omega arith in
    ap (line_start t) on ∙ behind t i (p - i) (omega arith) (λ k b c. goes k b (omega arith))

pub starts_last : (t : List ℕ) (p : ℕ) (x : Option ℕ) (e : ℕ) → p ≤ length t → MatchOption x (e ≡ 0) (λ i. e ≡ i + 1)
    → MatchOption x ((k : ℕ) → k < p → is_row_end (get_or t k 0) ≡ false) (λ i. (i < p) × (is_row_end (get_or t i 0) ≡ true) × ((k : ℕ) → i < k → k < p → is_row_end (get_or t k 0) ≡ false))
    → e ≡ line_start t p
starts_last t p None e l is none =
    let begins : line_start t 0 ≡ 0 = cc in
    is ∙ sym begins ∙ sym (behind_to t p 0 (omega arith) l (λ k a b. none k b))
starts_last t p (Some i) e l is last =
    let inside : i < length t = omega (arith, last.0) in
    is ∙ sym (behind_here is_row_end t i inside last.1) ∙ sym (behind_to t p (i + 1) (omega (arith, last.0)) l (λ k a b. last.2 k (omega arith) b))

-- `find` over a range gone through from the back, said of the numbers in it
there : (o : Option ℕ) (v : ℕ) → option_map (λ y. y) o ≡ Some v → o ≡ Some v
there None v e = e
there (Some w) v e = e

module _ {S F : Type 0} {steps : S → Option ℕ → S → Type 0} {g : Mut F (Bor ℕ × Unit {0}) Bool} (s : S) (b : ℕ) (f : F) (r : Option ℕ) (Yes Not : ℕ → Type 0)
    (back : EachRunFrom steps s (λ p. SomeRun nat_range_steps_back (record { start = 0; end = b }) (λ q. IsIdenticalRun p q)))
    (keeps : CallKeepsClosure g f)
    (yes' : (x : ℕ) (q : F) → CalledAt g f x true q → Yes x) (not' : (x : ℕ) (q : F) → CalledAt g f x false q → Not x) where
  module _ (p : Run steps) (from : p.from ≡ s) where
    source : SomeRun nat_range_steps_back (record { start = 0; end = b }) (λ q. IsIdenticalRun p q)
    source = back p p.seen from

    same_start : source.0.from.start ≡ 0
    same_start = ap (λ (z : Range ℕ). z.start) source.1

    same_end : source.0.from.end ≡ b
    same_end = ap (λ (z : Range ℕ). z.end) source.1

    counts : ItemsCountDown source.0 source.0.from.start source.0.from.end
    counts = range_runs_back source.0 source.0.seen

    -- the item at place j is b - 1 - j
    item : (k : ℕ) → k < b → b - 1 - k < p.len → p.at (b - 1 - k) ≡ Some k
    item k l inside =
        let q_long : b - 1 - k < source.0.len = omega (arith, source.2.0.0) in
        let number : source.0.from.end - 1 - (b - 1 - k) ≡ k = omega (arith, same_end) in
        sym (source.2.0.2 (b - 1 - k)) ∙ there (source.0.at (b - 1 - k)) _ (counts.3 (b - 1 - k) q_long) ∙ ap (λ (n : ℕ). Some n) number

    all_long : p.whole ≡ true → p.len ≡ b
    all_long w = omega (arith, source.2.0.0, counts.1 (source.2.1 ∙ w), same_start, same_end)

    pub last_found : MatchOption r ((p.whole ≡ true) × NoItemPasses p g f) (EndsAtFirstPassing p g f)
        → MatchOption r ((k : ℕ) → k < b → Not k) (λ i. (i < b) × Yes i × ((k : ℕ) → i < k → k < b → Not k))
    last_found = by r
      where
        by : (o : Option ℕ) → MatchOption o ((p.whole ≡ true) × NoItemPasses p g f) (EndsAtFirstPassing p g f)
            → MatchOption o ((k : ℕ) → k < b → Not k) (λ i. (i < b) × Yes i × ((k : ℕ) → i < k → k < b → Not k))
        by None h = λ k l.
            let long = all_long h.0 in
            not' k f (subst (λ (o : Option ℕ). IfSome o (λ x. CalledAt g f x false f)) (item k l (omega arith)) (h.1 keeps (b - 1 - k)))
        by (Some x) h =
            let i : ℕ = h.0 in
            let calls = h.3 keeps in
            let placed : (x + i + 1 ≡ source.0.from.end) × (source.0.from.start ≤ x) =
            subst (λ (o : Option ℕ). IfSome o (λ y. (y + i + 1 ≡ source.0.from.end) × (source.0.from.start ≤ y))) (source.2.0.2 i ∙ h.2) (counts.2 i) in
            let low : x + i + 1 ≡ b = placed.0 ∙ same_end in (
              omega arith,
              yes' x f calls.0,
              λ k a l.
                  let inside : b - 1 - k < i = omega arith in
                  not' k f (subst (λ (o : Option ℕ). IsSomeAnd o (λ y. CalledAt g f y false f)) (item k l (omega (arith, h.1))) (calls.1 (b - 1 - k) inside)),
            )

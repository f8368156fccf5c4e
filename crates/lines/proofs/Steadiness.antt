-- Tab stops and soft wrap are steady, tab stops see nothing ahead, and neither shows much of one code. Assumes nothing.
use Rattle.std.proofs.Common.{◌≡◌, ℕ, ◌-◌, ◌%◌, ◌<◌, ◌≤◌, cond, ltb, List, ◌∷◌, length, replicate, refl, ap, arith}
use lib.ListN.{length-replicate}
use Rattle.std.proofs.lemmas.Bool.Decides.{nat_tests}
use Rattle.codes.specs.Codes.{is_row_end}
use Rattle.lines.specs.Transducers.{Steady, Blind}
use Rattle.lines.specs.Tabs.{space, tab_shown, tab_stops}
use Rattle.lines.specs.Wraps.{soft_wrap}

-- a tab is shown by as many spaces as there are columns up to the next stop
spaces_long : (w c : ℕ) → length (replicate {A = ℕ} (w - c % w) space) ≡ w - c % w
spaces_long w c = length-replicate (w - c % w) space

tabs_shown_some : (w c x : ℕ) → 1 ≤ w → 0 < length (tab_shown w c x)
tabs_shown_some w c x h = let long = spaces_long w c in grind (arith, nat_tests)

pub tabs_shown_le : (w c x : ℕ) → w ≤ 16 → 1 ≤ w → length (tab_shown w c x) ≤ 16
tabs_shown_le w c x l h = let long = spaces_long w c in grind (arith, nat_tests)

pub tabs_steady : (w : ℕ) → 1 ≤ w → Steady (tab_stops w)
tabs_steady w h = record {
  shows = λ c x. tabs_shown_some w c x h;
  plain = λ j k x e. grind (arith, nat_tests);
  anew = λ k x xs e. grind (arith, nat_tests);
  start_sees = λ xs ys e. refl;
  next_sees = λ k x xs ys e. refl;
}

pub tabs_blind : (w : ℕ) → Blind (tab_stops w)
tabs_blind w = record { start_same = λ xs ys. refl; next_same = λ k x xs ys. refl }

pub wrap_shown_le : (rule : List ℕ → ℕ) (k x : ℕ) → length ((soft_wrap rule).show k x) ≤ 2
wrap_shown_le rule k x = grind (arith, nat_tests)

pub wrap_steady : (rule : List ℕ → ℕ) → Steady (soft_wrap rule)
wrap_steady rule = record {
  shows = λ k x. grind (arith, nat_tests);
  plain = λ j k x e. grind (arith, nat_tests);
  anew = λ k x xs e. grind (arith, nat_tests);
  start_sees = λ xs ys e. ap rule e;
  next_sees = λ k x xs ys e. ap (λ l. cond (is_row_end x) (rule l) (cond (ltb 0 k) (k - 1) (rule (x ∷ l) - 1))) e;
}

-- Layers whose records are marks: hints and folds. Assumes nothing.
use Rattle.std.specs.Prelude.{◌≡◌, ℕ, false, ◌||◌, List, [], ◌==◌, refl}
use Rattle.std.proofs.Common.{arith}
use Rattle.places.specs.declared.change.Change.{Change}
use Rattle.places.specs.Marks.{Mark, followed}
use Rattle.view.specs.Layers.{Records, hints, folds, marks_in, growth, Fit, follow}
use Rattle.view.specs.Orders.{has_verb, adds, meets, with_marks}
use Rattle.layer.proofs.Obeying.{KeepsMarks}

-- records that are marks alone, and of one kind whatever the marks
pub record KeptAsMarks (r : List Mark → Records) : Type 0 where
  pub marks : (ms : List Mark) → KeepsMarks (r ms)
  pub holds : (ms : List Mark) → marks_in (r ms) ≡ ms
  pub replaced : (ms ns : List Mark) → with_marks (r ms) ns ≡ r ns
  pub follows : (ms : List Mark) (c : Change) → follow (r ms) c ≡ r (followed c.start c.old c.new ms)
  pub grows : (ms : List Mark) (c : ℕ) → growth (r ms) c ≡ growth (r []) c
  pub speaks : (ms : List Mark) (v : ℕ) → has_verb (r ms) v ≡ has_verb (r []) v
  pub meant : (ms : List Mark) (l : ℕ) → meets (r ms) l ≡ meets (r []) l
  pub fits : (n : ℕ) → Fit (r []) n

-- of the two verbs one adds and the other removes
pub record Verbs (r : List Mark → Records) (add remove : ℕ) : Type 0 where
  pub has : (v : ℕ) → has_verb (r []) v ≡ (v == add || v == remove)
  pub adding : (ms : List Mark) (v : ℕ) → adds (r ms) v ≡ (v == add)
  pub apart : (remove == add) ≡ false

pub hints_kept : KeptAsMarks hints
hints_kept =
    record {
      marks = λ ms. tt;
      holds = λ ms. refl;
      replaced = λ ms ns. refl;
      follows = λ ms c. refl;
      grows = λ ms c. refl;
      speaks = λ ms v. refl;
      meant = λ ms l. refl;
      fits = λ n. (omega arith, tt, omega arith, tt);
    }

pub folds_kept : KeptAsMarks folds
folds_kept =
    record {
      marks = λ ms. tt;
      holds = λ ms. refl;
      replaced = λ ms ns. refl;
      follows = λ ms c. refl;
      grows = λ ms c. refl;
      speaks = λ ms v. refl;
      meant = λ ms l. refl;
      fits = λ n. (omega arith, tt, omega arith, tt);
    }

pub hint_verbs : Verbs hints 105 114
hint_verbs = record { has = λ v. refl; adding = λ ms v. refl; apart = refl }

pub fold_verbs : Verbs folds 102 117
fold_verbs = record { has = λ v. refl; adding = λ ms v. refl; apart = refl }

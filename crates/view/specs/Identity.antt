-- The map of a bare view: every place lies under itself. Assumes nothing.
use Rattle.std.specs.Prelude.{◌≡◌, ℕ, ◌≤◌, List, [], length, refl}
use Rattle.places.specs.Maps.{first_of, last_of, Finds}
use Rattle.places.proofs.Finding.{searches_find, first_found, last_found}
use Rattle.view.specs.Stacks.{Means}

pub identity_finds : (n : ℕ) → Finds (λ u. u) (λ u. u) (λ u. u) n n
identity_finds n =
    record {
      map = record { rises = λ u v h _. h; starts = refl; ends = refl };
      first_in = λ d h. h;
      last_in = λ d h. h;
      first_rule = λ u d _ _. (λ h. h, λ h. h);
      last_rule = λ u d _ _. (λ h. h, λ h. h);
    }

pub identity_first : (n d : ℕ) → d ≤ n → d ≡ first_of (λ u. u) n d
identity_first n d h = first_found (identity_finds n) d h

pub identity_last : (n d : ℕ) → d ≤ n → d ≡ last_of (λ u. u) n d
identity_last n d h = last_found (identity_finds n) d h

-- what a view asks of a stack without layers
pub bare_means : (most : ℕ) (d : List ℕ) → length d ≤ most → most ≤ 1073741824 → Means most [] d
bare_means most d h i =
    record { finds = searches_find (λ u. u) (length d) (length d) (identity_finds (length d)).map; text_fits = h; ceiling_fits = i }

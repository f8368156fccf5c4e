-- A closure that is called at each row of a text. Assumes nothing.
use Rattle.std.specs.Prelude.{◌≡◌, ℕ, ◌+◌, List, [], ◌∷◌, length, string_bytes, Ok, Result, String}
use Rattle.std.specs.declared.alloc.Global.{Global}
use Rattle.std.specs.List.{FoldsTo}
use Rattle.std.proofs.Math.Utf8.{encodes}
use Rattle.anyhow.specs.declared.error.Error.{Error}

-- each row with the place where it begins, the first one at u
abbrev pub placed : ℕ → List (List ℕ) → List (ℕ × List ℕ)
placed u [] = []
placed u (r ∷ rs) = (u, r) ∷ placed (u + length r + 1) rs

module _ {F : Type 0} (step : F → ℕ → String Global → Result (Unit {0}) Error → F → Type 0) where
  -- a call at a row's start and text led from the state f to the state g
  abbrev pub Visits : F → (ℕ × List ℕ) → F → Type 0
  Visits f row g = (text : String Global) × (string_bytes text ≡ encodes row.1) × step f row.0 text (Ok tt) g

  -- calls from the state f on, one at each row, in order
  abbrev pub VisitsRows : F → List (List ℕ) → Type 0
  VisitsRows f rows = (last : F) × FoldsTo Visits f (placed 0 rows) last

-- Where a word stands in a document. Assumes nothing.
use Rattle.std.specs.Prelude.{◌≡◌, ℕ, ◌<◌, ◌≤◌, List, length, take, drop, Option, MatchOption}

-- the codes of the document d from u on begin with the word w
abbrev pub StandsAt : List ℕ → List ℕ → ℕ → Type 0
StandsAt d w u = (u ≤ length d) × (take (length w) (drop u d) ≡ w)

-- the first place from `from` on at which w stands in d; none only where there is none
abbrev pub FirstAt : List ℕ → List ℕ → ℕ → Option ℕ → Type 0
FirstAt d w from x =
    MatchOption x
    ((v : ℕ) → from ≤ v → StandsAt d w v → ⊥)
    (λ u. (from ≤ u) × StandsAt d w u × ((v : ℕ) → from ≤ v → v < u → StandsAt d w v → ⊥))

-- A text rewritten piece by piece: each piece takes some codes of the text below, and shows at least one. Assumes nothing.
use Rattle.std.specs.Prelude.{◌≡◌, ℕ, ◌+◌, ◌-◌, Bool, true, cond, ◌&&◌, List, [], ◌∷◌, map, length, nat_lt}
use Rattle.std.specs.List.{flat_map}

pub record Piece : Type 0 where
  pub taken : ℕ
  pub shown : List ℕ

-- the text above: what the pieces show, one after the other
abbrev pub shown_text : List Piece → List ℕ
shown_text ps = flat_map (λ p. p.shown) ps

-- a piece by its numbers alone
pub record Span : Type 0 where
  pub takes : ℕ
  pub shows : ℕ

abbrev pub spans_of : List Piece → List Span
spans_of ps = map (λ p. record { takes = p.taken; shows = length p.shown }) ps

abbrev pub taken_by : List Span → ℕ
taken_by [] = 0
taken_by (p ∷ ps) = p.takes + taken_by ps

abbrev pub shown_by : List Span → ℕ
shown_by [] = 0
shown_by (p ∷ ps) = p.shows + shown_by ps

abbrev pub all_show : List Span → Bool
all_show [] = true
all_show (p ∷ ps) = nat_lt 0 p.shows && all_show ps

-- the lower place of the upper place u: a place before each shown code lies where its piece begins, and the place
-- behind the last one where the piece ends
abbrev pub under_by : List Span → ℕ → ℕ
under_by [] u = 0
under_by (p ∷ ps) u = cond (nat_lt u p.shows) 0 (p.takes + under_by ps (u - p.shows))

-- the pieces rewrite a text of n codes as one of t codes
abbrev pub Rewrites : List Span → ℕ → ℕ → Type 0
Rewrites ps t n = (all_show ps ≡ true) × (shown_by ps ≡ t) × (taken_by ps ≡ n)

-- A stack: the records of its layers, top first, over a buffer whose most is `most`. Assumes nothing.
use Rattle.std.specs.Prelude.{ℕ, zero, suc, ◌≤◌, Bool, cond, List, [], ◌∷◌, length, Some, None, MatchBool, Option, nat_le, nat_lt}
use Rattle.std.specs.Option.{option_map}
use Rattle.buffer.specs.declared.fault.Refusal.{Refusal}
use Rattle.buffer.specs.Refusals.{told, edit_refusal}
use Rattle.places.specs.declared.change.Change.{Change}
use Rattle.places.specs.Maps.{first_of, last_of, Finds}
use Rattle.view.specs.declared.order.Order.{Order}
use Rattle.view.specs.Refusals.{at_layer}
use Rattle.view.specs.Layers.{Records, shown, under, growth, Fit, follow, raised}
use Rattle.view.specs.Orders.{has_verb, own_refusal, obeyed, obeyed_change}

-- no text is longer than this
abbrev pub highest_ceiling : ℕ
highest_ceiling = 1073741824

-- the most codes that a stack's text can have; a layer that could pass the highest ceiling is asleep and rewrites nothing
abbrev pub ceiling_of : ℕ → List Records → ℕ
ceiling_of most [] = most
ceiling_of most (r ∷ rs) = cond (nat_le (growth r (ceiling_of most rs)) highest_ceiling) (growth r (ceiling_of most rs)) (ceiling_of most rs)

abbrev pub awake : ℕ → Records → List Records → Bool
awake most r rs = nat_le (growth r (ceiling_of most rs)) highest_ceiling

-- what the stack shows of the document d
abbrev pub text_of : ℕ → List Records → List ℕ → List ℕ
text_of most [] d = d
text_of most (r ∷ rs) d = cond (awake most r rs) (shown r (text_of most rs d)) (text_of most rs d)

-- the document place under a place of the text
abbrev pub under_of : ℕ → List Records → List ℕ → ℕ → ℕ
under_of most [] d u = u
under_of most (r ∷ rs) d u = under_of most rs d (cond (awake most r rs) (under r (text_of most rs d) u) u)

-- the least and the greatest place of the text over a document place
abbrev pub first_place : ℕ → List Records → List ℕ → ℕ → ℕ
first_place most rs d p = first_of (under_of most rs d) (length (text_of most rs d)) p

abbrev pub last_place : ℕ → List Records → List ℕ → ℕ → ℕ
last_place most rs d p = last_of (under_of most rs d) (length (text_of most rs d)) p

-- every layer's records can be kept over the text below it
abbrev pub AllFit : ℕ → List Records → List ℕ → Type 0
AllFit most [] d = Unit {0}
AllFit most (r ∷ rs) d = AllFit most rs d × MatchBool (awake most r rs) (Fit r (length (text_of most rs d))) (Unit {0})

-- what makes a view of it: under never falls and goes from start to start and from end to end, first and last are found by
-- the two order rules at all places, and the text stays below a ceiling that is never too high
pub record Means (most : ℕ) (rs : List Records) (d : List ℕ) : Type 0 where
  pub finds : Finds (under_of most rs d) (first_place most rs d) (last_place most rs d) (length (text_of most rs d)) (length d)
  pub text_fits : length (text_of most rs d) ≤ ceiling_of most rs
  pub ceiling_fits : ceiling_of most rs ≤ highest_ceiling

-- a stack and the change of its text
pub record Changed : Type 0 where
  pub stack : List Records
  pub change : Change

-- the layer r on top of a changed stack follows: the stack below was rs over the document d, and is now over e
abbrev pub carried : ℕ → Records → List Records → List ℕ → List ℕ → Changed → Changed
carried most r rs d e below =
    record {
      stack = cond (awake most r rs) (follow r below.change) r ∷ below.stack;
      change = cond (awake most r rs) (raised r (text_of most rs d) (text_of most below.stack e) below.change) below.change;
    }

-- the stack after a change c of the document from d to e
abbrev pub after_edit : ℕ → List Records → List ℕ → List ℕ → Change → Changed
after_edit most [] d e c = record { stack = []; change = c }
after_edit most (r ∷ rs) d e c = carried most r rs d e (after_edit most rs d e c)

-- an edit is refused as the buffer refuses it, one layer below the bare view
abbrev pub edit_refusal_of : List Records → List ℕ → ℕ → ℕ → ℕ → List ℕ → Option Refusal
edit_refusal_of rs d spare a r w = option_map (at_layer (suc (length rs))) (edit_refusal (length d) spare a r w)

-- the layer that is k steps below the top, if there is one, refuses an order: it has no such verb, it is asleep, or its
-- own causes in their order
abbrev pub meant_refusal : ℕ → List Records → List ℕ → ℕ → Order → List ℕ → Option Refusal
meant_refusal most [] d k o w = None
meant_refusal most (r ∷ rs) d zero o w =
    cond (has_verb r o.verb)
    (cond (awake most r rs)
    (own_refusal r (length d) (first_place most rs d o.x) (first_place most rs d o.y) o w)
    (Some (told 12 0)))
    (Some (told 7 o.verb))
meant_refusal most (r ∷ rs) d (suc k) o w = meant_refusal most rs d k o w

-- an order to a layer that is not there is refused by the bare view
abbrev pub order_refusal_of : ℕ → List Records → List ℕ → ℕ → Order → List ℕ → Option Refusal
order_refusal_of most rs d k o w =
    cond (nat_lt k (length rs))
    (option_map (at_layer k) (meant_refusal most rs d k o w))
    (Some (at_layer (length rs) (told 6 k)))

-- the stack after an order to the layer k steps below the top
abbrev pub after_order : ℕ → List Records → List ℕ → ℕ → Order → List ℕ → Changed
after_order most [] d k o w = record { stack = []; change = record { start = 0; old = 0; new = 0 } }
after_order most (r ∷ rs) d zero o w =
    record {
      stack = obeyed r (first_place most rs d o.x) (first_place most rs d o.y) o w ∷ rs;
      change = obeyed_change r (text_of most rs d) (first_place most rs d o.x) (first_place most rs d o.y) o w;
    }
after_order most (r ∷ rs) d (suc k) o w = carried most r rs d d (after_order most rs d k o w)

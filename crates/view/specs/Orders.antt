-- What a layer does on an order that is meant for it, and why it refuses one. Assumes nothing.
use Rattle.std.specs.Prelude.{ℕ, ◌-◌, Bool, true, false, cond, not, ◌&&◌, ◌||◌, List, [], ◌∷◌, length, Option, ◌==◌, nat_le, nat_lt}
use Rattle.std.specs.List.{prefix_len}
use Rattle.codes.specs.Codes.{is_document_code, newline, placeholder, within}
use Rattle.buffer.specs.declared.fault.Refusal.{Refusal}
use Rattle.buffer.specs.Refusals.{told}
use Rattle.places.specs.declared.change.Change.{Change}
use Rattle.places.specs.Marks.{Mark, past, put}
use Rattle.view.specs.declared.order.Order.{Order}
use Rattle.view.specs.Refusals.{first_cause}
use Rattle.view.specs.Layers.{Records, hints, folds, tabs, wrap, marks_in, shown, first, last, most_records, longest_hint, widest_tab, narrowest_wrap, widest_wrap}

-- the verbs: i adds a hint, r removes one, f folds, u opens a fold, t and w set the width of tab stops and of soft wrap
abbrev pub verb_i : ℕ
verb_i = 105

abbrev pub verb_r : ℕ
verb_r = 114

abbrev pub verb_f : ℕ
verb_f = 102

abbrev pub verb_u : ℕ
verb_u = 117

abbrev pub verb_t : ℕ
verb_t = 116

abbrev pub verb_w : ℕ
verb_w = 119

abbrev pub has_verb : Records → ℕ → Bool
has_verb (hints _) v = v == verb_i || v == verb_r
has_verb (folds _) v = v == verb_f || v == verb_u
has_verb (tabs _) v = v == verb_t
has_verb (wrap _) v = v == verb_w

-- the verb that adds a record; the other one removes one. A width has one verb, which sets it
abbrev pub adds : Records → ℕ → Bool
adds (hints _) v = v == verb_i
adds (folds _) v = v == verb_f
adds (tabs _) v = true
adds (wrap _) v = true

-- codes that a hint may have
abbrev pub is_hint_code : ℕ → Bool
is_hint_code c = is_document_code c && not (c == newline)

-- the record that removing at the lower place l means: the hint that stands there, the fold around the code behind it; none
-- of a width. What `new_mark`, `with_marks` and `add_start` say of a width is never asked
abbrev pub meets : Records → ℕ → Mark → Bool
meets (hints _) l m = m.at == l
meets (folds _) l m = nat_le m.at l && nat_lt l (past m)
meets _ l m = false

abbrev pub overlaps : ℕ → ℕ → Mark → Bool
overlaps a b m = nat_lt a (past m) && nat_lt m.at b

abbrev pub some : (Mark → Bool) → List Mark → Bool
some p ms = nat_lt (prefix_len (λ m. not (p m)) ms) (length ms)

-- the first mark that passes, and the marks without it
abbrev pub first_mark : (Mark → Bool) → List Mark → Mark
first_mark p [] = record { at = 0; takes = 0; shows = [] }
first_mark p (m ∷ ms) = cond (p m) m (first_mark p ms)

abbrev pub without : (Mark → Bool) → List Mark → List Mark
without p [] = []
without p (m ∷ ms) = cond (p m) ms (m ∷ without p ms)

abbrev pub full : List Mark → Bool
full ms = nat_le most_records (length ms)

-- a width outside its range
abbrev pub width_causes : ℕ → ℕ → Order → List (Bool × Refusal)
width_causes low high o = (not (within low high o.x), told 8 o.x) ∷ []

-- why an order is refused in a document of n codes, where its places x and y lie at a and b of the text below
abbrev pub add_causes : Records → ℕ → ℕ → ℕ → Order → List ℕ → List (Bool × Refusal)
add_causes (hints ms) n a b o w =
    (nat_lt n o.x, told 1 o.x)
    ∷ (not (within 1 longest_hint (length w)), told 8 (length w))
    ∷ (nat_lt (prefix_len is_hint_code w) (length w), told 3 (prefix_len is_hint_code w))
    ∷ (full ms, told 9 most_records)
    ∷ []
add_causes (folds ms) n a b o w =
    (nat_lt n o.x, told 1 o.x)
    ∷ (nat_lt n o.y, told 1 o.y)
    ∷ (nat_le o.y o.x, told 8 o.x)
    ∷ (nat_le b a || some (overlaps a b) ms, told 10 o.x)
    ∷ (full ms, told 9 most_records)
    ∷ []
add_causes (tabs _) n a b o w = width_causes 1 widest_tab o
add_causes (wrap _) n a b o w = width_causes narrowest_wrap widest_wrap o

abbrev pub remove_causes : Records → ℕ → ℕ → Order → List (Bool × Refusal)
remove_causes r n a o =
    (nat_lt n o.x, told 1 o.x)
    ∷ (not (some (meets r a) (marks_in r)), told 11 o.x)
    ∷ []

abbrev pub own_refusal : Records → ℕ → ℕ → ℕ → Order → List ℕ → Option Refusal
own_refusal r n a b o w = cond (adds r o.verb) (first_cause (add_causes r n a b o w)) (first_cause (remove_causes r n a o))

-- the mark that an order adds
abbrev pub new_mark : Records → ℕ → ℕ → List ℕ → Mark
new_mark (hints _) a b w = record { at = a; takes = 0; shows = w }
new_mark (folds _) a b w = record { at = a; takes = b - a; shows = placeholder ∷ [] }
new_mark _ a b w = record { at = a; takes = 0; shows = [] }

abbrev pub with_marks : Records → List Mark → Records
with_marks (hints _) ms = hints ms
with_marks (folds _) ms = folds ms
with_marks r ms = r

-- the records after an order
abbrev pub obeyed : Records → ℕ → ℕ → Order → List ℕ → Records
obeyed (tabs _) a b o w = tabs o.x
obeyed (wrap _) a b o w = wrap o.x
obeyed r a b o w = with_marks r (cond (adds r o.verb) (put (new_mark r a b w) (marks_in r)) (without (meets r a) (marks_in r)))

-- the change of the layer's text over the text xs: a new hint goes behind those at its place
abbrev pub add_start : Records → List ℕ → ℕ → ℕ
add_start (hints ms) xs a = last (hints ms) xs a
add_start (folds ms) xs a = first (folds ms) xs a
add_start _ xs a = 0

abbrev pub add_change : Records → List ℕ → Mark → Change
add_change r xs m = record { start = add_start r xs m.at; old = m.takes; new = length m.shows }

abbrev pub remove_change : Records → List ℕ → Mark → Change
remove_change r xs m = record { start = first r xs m.at; old = length m.shows; new = m.takes }

-- with another width, all of the text changes
abbrev pub width_change : Records → Records → List ℕ → Change
width_change r q xs = record { start = 0; old = length (shown r xs); new = length (shown q xs) }

abbrev pub obeyed_change : Records → List ℕ → ℕ → ℕ → Order → List ℕ → Change
obeyed_change (tabs v) xs a b o w = width_change (tabs v) (tabs o.x) xs
obeyed_change (wrap v) xs a b o w = width_change (wrap v) (wrap o.x) xs
obeyed_change r xs a b o w =
    record {
      start = cond (adds r o.verb) (add_start r xs a) (first r xs (first_mark (meets r a) (marks_in r)).at);
      old = cond (adds r o.verb) (new_mark r a b w).takes (length (first_mark (meets r a) (marks_in r)).shows);
      new = cond (adds r o.verb) (length (new_mark r a b w).shows) (first_mark (meets r a) (marks_in r)).takes;
    }

-- One layer: what its records show of the text below, and how they follow a change of it. Assumes nothing.
use Rattle.std.specs.Prelude.{◌≡◌, ℕ, ◌+◌, ◌-◌, ◌*◌, ◌≤◌, cond, List, [], ◌∷◌, length, ◌==◌}
use Rattle.std.specs.List.{AllByRecursion}
use Rattle.codes.specs.Codes.{placeholder}
use Rattle.places.specs.declared.change.Change.{Change}
use Rattle.places.specs.Maps.{first_of, last_of}
use Rattle.places.specs.Pieces.{Piece, shown_text, spans_of, under_by}
use Rattle.places.specs.Marks.{Mark, laid, followed, lowest, highest, Placed, Light, Solid}
use Rattle.lines.specs.Lines.{line_start, line_end}
use Rattle.lines.specs.Transducers.{pieces_by}
use Rattle.lines.specs.Tabs.{tab_stops}
use Rattle.lines.specs.Wraps.{row_length, soft_wrap}

-- what a layer keeps: hints or folds, as marks in the order of their places, or the width of tab stops or of soft wrap
pub data Records : Type 0 where
  hints : List Mark → Records
  folds : List Mark → Records
  tabs : ℕ → Records
  wrap : ℕ → Records

-- a width is no mark
abbrev pub marks_in : Records → List Mark
marks_in (hints ms) = ms
marks_in (folds ms) = ms
marks_in (tabs _) = []
marks_in (wrap _) = []

-- the pieces of the text below, the text that they show, and the layer's own place map with its two searches
abbrev pub pieces : Records → List ℕ → List Piece
pieces (tabs w) xs = pieces_by (tab_stops w) xs
pieces (wrap w) xs = pieces_by (soft_wrap (row_length w)) xs
pieces r xs = laid 0 (marks_in r) xs

abbrev pub shown : Records → List ℕ → List ℕ
shown r xs = shown_text (pieces r xs)

abbrev pub under : Records → List ℕ → ℕ → ℕ
under r xs u = under_by (spans_of (pieces r xs)) u

abbrev pub first : Records → List ℕ → ℕ → ℕ
first r xs l = first_of (under r xs) (length (shown r xs)) l

abbrev pub last : Records → List ℕ → ℕ → ℕ
last r xs l = last_of (under r xs) (length (shown r xs)) l

-- how many records a layer keeps, how many codes a hint has, and between what the widths lie
abbrev pub most_records : ℕ
most_records = 64

abbrev pub longest_hint : ℕ
longest_hint = 16

abbrev pub widest_tab : ℕ
widest_tab = 16

abbrev pub narrowest_wrap : ℕ
narrowest_wrap = 2

abbrev pub widest_wrap : ℕ
widest_wrap = 1024

-- the ceiling of the layer's text over one of c
abbrev pub growth : Records → ℕ → ℕ
growth (hints _) c = c + 1024
growth (folds _) c = c
growth (tabs _) c = 16 * c
growth (wrap _) c = 2 * c

-- records that a layer can keep over a text of n codes: marks in order, within it, few, and each of its kind; a width
-- that the kind takes
abbrev pub Fit : Records → ℕ → Type 0
Fit (hints ms) n = Placed 0 ms n × Light ms × (length ms ≤ most_records) × AllByRecursion (λ m. length m.shows ≤ longest_hint) ms
Fit (folds ms) n = Placed 0 ms n × Solid ms × (length ms ≤ most_records) × AllByRecursion (λ m. m.shows ≡ placeholder ∷ []) ms
Fit (tabs w) n = (1 ≤ w) × (w ≤ widest_tab)
Fit (wrap w) n = (narrowest_wrap ≤ w) × (w ≤ widest_wrap)

-- the records after a change of the text below
abbrev pub follow : Records → Change → Records
follow (hints ms) c = hints (followed c.start c.old c.new ms)
follow (folds ms) c = folds (followed c.start c.old c.new ms)
follow (tabs w) c = tabs w
follow (wrap w) c = wrap w

-- the change of a text whose lines are shown anew from the place p below to the end of the old line that the change c
-- ends in
abbrev pub lines_raised : Records → List ℕ → List ℕ → Change → ℕ → Change
lines_raised r xs ys c p =
    record {
      start = first r xs p;
      old = first r xs (line_end xs (c.start + c.old)) - first r xs p;
      new = first r ys (line_end xs (c.start + c.old) + c.new - c.old) - first r xs p;
    }

-- the change of the layer's own text when the text below goes from xs to ys by c
abbrev pub raised : Records → List ℕ → List ℕ → Change → Change
raised (hints ms) xs ys c =
    record {
      start = last (hints ms) xs c.start;
      old = cond (c.old == 0) 0 (first (hints ms) xs (c.start + c.old) - last (hints ms) xs c.start);
      new = c.new;
    }
raised (folds ms) xs ys c =
    record {
      start = first (folds ms) xs (lowest c.start c.old ms);
      old = first (folds ms) xs (highest c.start c.old ms) - first (folds ms) xs (lowest c.start c.old ms);
      new = highest c.start c.old ms + c.new - c.old - lowest c.start c.old ms;
    }
raised (tabs w) xs ys c = lines_raised (tabs w) xs ys c c.start
raised (wrap w) xs ys c = lines_raised (wrap w) xs ys c (line_start xs c.start)

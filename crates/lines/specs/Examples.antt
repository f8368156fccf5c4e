-- Worked examples of tab stops and soft wrap. Assumes nothing.
use Rattle.std.specs.Prelude.{◌≡◌, ℕ, List, ◌∷◌, ◌++◌, codes}
use Rattle.codes.specs.Codes.{soft_break}
use Rattle.lines.specs.Transducers.{Transducer, text_by, place_by, first_by, last_by}
use Rattle.lines.specs.Tabs.{tab, tab_stops}
use Rattle.lines.specs.Wraps.{row_length, soft_wrap}

abbrev pub tabbed : List ℕ
tabbed = codes "ab" ++ (tab ∷ codes "c")

abbrev pub by_ten : Transducer
by_ten = soft_wrap (row_length 10)

-- the tab in column 2 is shown by two spaces, with a stop at every fourth column; ten letters fit a width of ten, of
-- eleven the last one goes into the next row, and words go there whole
abbrev pub WorkedExamples : Type 0
WorkedExamples =
    (text_by (tab_stops 4) tabbed ≡ codes "ab  c")
    × (place_by (tab_stops 4) tabbed 3 ≡ 2)
    × (first_by (tab_stops 4) tabbed 3 ≡ 4)
    × (last_by (tab_stops 4) tabbed 2 ≡ 3)
    × (text_by by_ten (codes "abcdefghij") ≡ codes "abcdefghij")
    × (text_by by_ten (codes "abcdefghijk") ≡ codes "abcdefghij" ++ (soft_break ∷ codes "k"))
    × (first_by by_ten (codes "abcdefghijk") 10 ≡ 10)
    × (last_by by_ten (codes "abcdefghijk") 10 ≡ 11)
    × (text_by by_ten (codes "the quick brown fox") ≡ codes "the quick " ++ (soft_break ∷ codes "brown fox"))

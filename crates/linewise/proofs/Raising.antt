-- The change that tab stops and soft wrap answer, from the new text below and the old length alone. Assumes nothing.
use Rattle.std.proofs.Common.{◌≡◌, ℕ, ◌+◌, ◌-◌, List, length, sym, ap, ◌∙◌}
use Rattle.places.specs.declared.change.Change.{Change}
use Rattle.places.specs.Changes.{Kept}
use Rattle.places.specs.Maps.{first_of}
use Rattle.places.specs.Pieces.{Piece, shown_text, spans_of, under_by}
use Rattle.lines.specs.Lines.{line_end}
use Rattle.lines.specs.Transducers.{Transducer, pieces_by, text_by, first_by, reach_by, Steady}
use Rattle.lines.proofs.Changing.{end_by_new}
use Rattle.lines.proofs.Lining.{line_end_new, line_end_fits}
use Rattle.lines.proofs.Scanning.{first_reach}
use Rattle.view.specs.Layers.{Records, pieces, shown, first, lines_raised}
use Rattle.linewise.specs.Scans.{ByNew}

pub same_numbers : (s o n s' o' n' : ℕ) → s ≡ s' → o ≡ o' → n ≡ n' → ◌≡◌ {A = Change} (record { start = s; old = o; new = n }) (record { start = s'; old = o'; new = n' })
same_numbers s o n s' o' n' e f g = cc

same_change : (c : Change) (s o n : ℕ) → c.start ≡ s → c.old ≡ o → c.new ≡ n → c ≡ record { start = s; old = o; new = n }
same_change c s o n e f g = same_numbers c.start c.old c.new s o n e f g

-- a transducer over a change that leads from xs to ys, where the text above, of len codes before, is shown anew from the
-- place p on
module _ (m : Transducer) (law : Steady m) (xs ys : List ℕ) (c : Change) (k : Kept xs ys c) (len : ℕ) (sized : len ≡ length (text_by m xs)) (p s : ℕ) (from : first_by m xs p ≡ s) (own : Change) (by : ByNew m ys c len s own) where
  pub lines_raised_lem : own ≡ record {
    start = first_by m xs p;
    old = first_by m xs (line_end xs (c.start + c.old)) - first_by m xs p;
    new = first_by m ys (line_end xs (c.start + c.old) + c.new - c.old) - first_by m xs p;
  }
  lines_raised_lem =
      let end = end_by_new m law xs ys c.start c.old c.new k in
      let now : first_by m ys (line_end xs (c.start + c.old) + c.new - c.old) ≡ reach_by m ys (line_end ys (c.start + c.new)) =
      ap (first_by m ys) (line_end_new xs ys c.start c.old c.new k)
      ∙ first_reach m law ys (line_end ys (c.start + c.new)) (line_end_fits ys (c.start + c.new) k.new_fits) in
      let start : own.start ≡ first_by m xs p = by.start ∙ sym from in
      let old : own.old ≡ first_by m xs (line_end xs (c.start + c.old)) - first_by m xs p =
      by.old ∙ ap (λ (z : ℕ). z - (length (text_by m ys) - reach_by m ys (line_end ys (c.start + c.new))) - own.start) sized
      ∙ ap (λ (z : ℕ). z - own.start) (sym end) ∙ ap (λ (z : ℕ). first_by m xs (line_end xs (c.start + c.old)) - z) start in
      let new : own.new ≡ first_by m ys (line_end xs (c.start + c.old) + c.new - c.old) - first_by m xs p =
      by.new ∙ ap (λ (z : ℕ). z - own.start) (sym now) ∙ ap (λ (z : ℕ). first_by m ys (line_end xs (c.start + c.old) + c.new - c.old) - z) start in
      same_change own _ _ _ start old new

-- the same in the words of records that make of each text what the transducer does
module _ (m : Transducer) (law : Steady m) (r : Records) (shows : (zs : List ℕ) → pieces r zs ≡ pieces_by m zs) where
  first_same : (zs : List ℕ) (l : ℕ) → first_by m zs l ≡ first r zs l
  first_same zs l = ap (λ (ps : List Piece). first_of (under_by (spans_of ps)) (length (shown_text ps)) l) (sym (shows zs))

  pub raised_lines : (xs ys : List ℕ) (c : Change) → Kept xs ys c → (len : ℕ) → len ≡ length (shown r xs)
      → (p s : ℕ) → first_by m xs p ≡ s → (own : Change) → ByNew m ys c len s own → own ≡ lines_raised r xs ys c p
  raised_lines xs ys c k len sized p s from own by =
      let by_scan = lines_raised_lem m law xs ys c k len (sized ∙ ap (λ (ps : List Piece). length (shown_text ps)) (shows xs)) p s from own by in
      let end = line_end xs (c.start + c.old) in
      let start = first_same xs p in
      by_scan ∙ same_numbers _ _ _ _ _ _ start
      (ap (λ (z : ℕ). z - first_by m xs p) (first_same xs end) ∙ ap (λ (z : ℕ). first r xs end - z) start)
      (ap (λ (z : ℕ). z - first_by m xs p) (first_same ys (end + c.new - c.old)) ∙ ap (λ (z : ℕ). first r ys (end + c.new - c.old) - z) start)

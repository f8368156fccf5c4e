-- What is shown of a tab ends at a tab stop of its line. Assumes nothing.
use Rattle.std.proofs.Common.{◌≡◌, ℕ, zero, suc, ◌+◌, ◌-◌, ◌%◌, ◌<◌, ◌≤◌, Bool, true, false, cond, ltb, List, [], ◌∷◌, ◌++◌, length, get_or, take, drop, replicate, sym, refl, ap, ◌∙◌, append_assoc, append-nil, mod-lt, arith, length-append, take-append-drop}
use native.Mathlib.Nat.{mod-add-mod, mod_self}
use lib.ListN.{length-replicate}
use lib.Seq.{take-append_seam}
use Rattle.std.proofs.lemmas.Bool.Decides.{nat_tests}
use Rattle.std.proofs.lemmas.Bool.{cond_both}
use Rattle.codes.specs.Codes.{is_row_end}
use Rattle.places.specs.Pieces.{Piece, shown_text}
use Rattle.places.proofs.Rewriting.{shown-append}
use Rattle.lines.specs.Lines.{behind_last}
use Rattle.lines.specs.Transducers.{pieces_from, pieces_by, reach_by}
use Rattle.lines.specs.Tabs.{tab, space, tab_shown, tab_stops}
use Rattle.lines.specs.Laws.{TabsEndAtStops}
use Rattle.lines.proofs.Lining.{behind_last_le}

-- the column behind a text in its last line
abbrev column : List ℕ → ℕ
column t = length t - behind_last is_row_end t

behind-append : (p : ℕ → Bool) (a b : List ℕ) → behind_last p (a ++ b) ≡ cond (ltb 0 (behind_last p b)) (length a + behind_last p b) (behind_last p a)
behind-append p [] b = grind (arith, nat_tests)
behind-append p (x ∷ a) b = let rest = behind-append p a b in grind (arith, nat_tests)

-- codes that end no row move the column on by as many, and a row end takes it back to the start
column_on : (a b : List ℕ) → behind_last is_row_end b ≡ 0 → column (a ++ b) ≡ column a + length b
column_on a b h =
    let whole = behind-append is_row_end a b in
    let inside = behind_last_le is_row_end a in
    let size = length-append a b in
    grind (arith, nat_tests)

column_back : (a : List ℕ) (x : ℕ) → is_row_end x ≡ true → column (a ++ (x ∷ [])) ≡ 0
column_back a x e =
    let whole = behind-append is_row_end a (x ∷ []) in
    let size = length-append a (x ∷ []) in
    grind (arith, nat_tests)

spaces_end_no_row : (n : ℕ) → behind_last is_row_end (replicate n space) ≡ 0
spaces_end_no_row zero = refl
spaces_end_no_row (suc n) = let rest = spaces_end_no_row n in grind (arith, nat_tests)

shown_ends_no_row : (w c x : ℕ) → is_row_end x ≡ false → behind_last is_row_end (tab_shown w c x) ≡ 0
shown_ends_no_row w c x e = let spaces = spaces_end_no_row (w - c % w) in grind (arith, nat_tests)

shown_row_end : (w c x : ℕ) → is_row_end x ≡ true → tab_shown w c x ≡ x ∷ []
shown_row_end w c x e = grind (arith, nat_tests)

-- the state behind a code is again the column
column_next : (w c : ℕ) (a : List ℕ) (x : ℕ) → c ≡ column a → cond (is_row_end x) 0 (c + length (tab_shown w c x)) ≡ column (a ++ tab_shown w c x)
column_next w c a x h =
    let s : List ℕ = tab_shown w c x in
    cond_both (is_row_end x) 0 (c + length s) (λ z. z ≡ column (a ++ s))
    (λ e. sym (ap (λ z. column (a ++ z)) (shown_row_end w c x e) ∙ column_back a x e))
    (λ e. ap (λ z. z + length s) h ∙ sym (column_on a s (shown_ends_no_row w c x e)))

-- from any column c on, the spaces shown of a tab reach a stop
reaches_stop : (w c : ℕ) → 1 ≤ w → (c + (w - c % w)) % w ≡ 0
reaches_stop w c h =
    let below : c % w < w = mod-lt c h in
    let full : c % w + (w - c % w) ≡ w = omega arith in
    sym (mod-add-mod c w (w - c % w)) ∙ ap (λ z. z % w) full ∙ mod_self w

tab_stops_lem : (w c : ℕ) (a : List ℕ) → 1 ≤ w → c ≡ column a → column (a ++ tab_shown w c tab) % w ≡ 0
tab_stops_lem w c a one h =
    let size : length (replicate {A = ℕ} (w - c % w) space) ≡ w - c % w = length-replicate (w - c % w) space in
    ap (λ z. z % w) (sym (column_next w c a tab h) ∙ ap (λ z. c + z) size) ∙ reaches_stop w c one

-- what is shown up to and with a tab, behind a text with the column c
module _ (w : ℕ) (one : 1 ≤ w) where
  stops_from : (a : List ℕ) (c : ℕ) (xs : List ℕ) (i : ℕ) → c ≡ column a → i < length xs → get_or xs i 0 ≡ tab
      → column (a ++ shown_text (take (suc i) (pieces_from (tab_stops w) c xs))) % w ≡ 0
  stops_from a c [] i h l e = absurd (omega arith)
  stops_from a c (x ∷ xs) zero h l e =
      ap (λ z. column (a ++ z) % w) (append-nil (tab_shown w c x) ∙ ap (tab_shown w c) e) ∙ tab_stops_lem w c a one h
  stops_from a c (x ∷ xs) (suc i) h l e =
      let s : List ℕ = tab_shown w c x in
      let next : ℕ = cond (is_row_end x) 0 (c + length s) in
      ap (λ z. column z % w) (sym (append_assoc a s (shown_text (take (suc i) (pieces_from (tab_stops w) next xs)))))
      ∙ stops_from (a ++ s) next xs i (column_next w c a x h) (omega arith) e

  shown_some : (c x : ℕ) → 0 < length (tab_shown w c x)
  shown_some c x =
      let size : length (replicate {A = ℕ} (w - c % w) space) ≡ w - c % w = length-replicate (w - c % w) space in
      let below : c % w < w = mod-lt c one in
      grind (arith, nat_tests)

  -- each code shows something
  more_from : (c : ℕ) (xs : List ℕ) (i : ℕ) → i < length xs
      → length (shown_text (take i (pieces_from (tab_stops w) c xs))) < length (shown_text (take (suc i) (pieces_from (tab_stops w) c xs)))
  more_from c [] i l = absurd (omega arith)
  more_from c (x ∷ xs) zero l = omega (arith, shown_some c x, length-append (tab_shown w c x) [])
  more_from c (x ∷ xs) (suc i) l =
      let s : List ℕ = tab_shown w c x in
      let next : ℕ = cond (is_row_end x) 0 (c + length s) in
      let rest = more_from next xs i (omega arith) in
      omega (arith, length-append s (shown_text (take i (pieces_from (tab_stops w) next xs))), length-append s (shown_text (take (suc i) (pieces_from (tab_stops w) next xs))))

-- the front of the text that the first n pieces show
front_shown : (ps : List Piece) (n : ℕ) → take (length (shown_text (take n ps))) (shown_text ps) ≡ shown_text (take n ps)
front_shown ps n =
    let front : List ℕ = shown_text (take n ps) in
    ap (λ z. take (length front) z) (ap shown_text (sym (take-append-drop n ps)) ∙ shown-append (take n ps) (drop n ps))
    ∙ take-append_seam front (shown_text (drop n ps))

-- a tab goes no further than the next stop: it shows at most as many codes as the width
tab_most_from : (w c : ℕ) (xs : List ℕ) (i : ℕ) → i < length xs → get_or xs i 0 ≡ tab
    → length (shown_text (take (suc i) (pieces_from (tab_stops w) c xs))) ≤ length (shown_text (take i (pieces_from (tab_stops w) c xs))) + w
tab_most_from w c [] i l e = absurd (omega arith)
tab_most_from w c (x ∷ xs) zero l e =
    let size : length (replicate {A = ℕ} (w - c % w) space) ≡ w - c % w = length-replicate (w - c % w) space in
    omega (arith, length-append (tab_shown w c x) [], ap (λ z. length (tab_shown w c z)) e)
tab_most_from w c (x ∷ xs) (suc i) l e =
    let s : List ℕ = tab_shown w c x in
    let next : ℕ = cond (is_row_end x) 0 (c + length s) in
    let rest = tab_most_from w next xs i (omega arith) e in
    omega (arith, length-append s (shown_text (take i (pieces_from (tab_stops w) next xs))), length-append s (shown_text (take (suc i) (pieces_from (tab_stops w) next xs))))

pub tabs_end_at_stops : TabsEndAtStops
tabs_end_at_stops w xs i one l e =
    let ps : List Piece = pieces_by (tab_stops w) xs in (
      more_from w one 0 xs i l,
      tab_most_from w 0 xs i l e,
      ap (λ z. (reach_by (tab_stops w) xs (suc i) - behind_last is_row_end z) % w) (front_shown ps (suc i)) ∙ stops_from w one [] 0 xs i refl l e,
    )

-- The rows that a change of a text keeps, and the laws of damages. Assumes nothing.
use Rattle.std.proofs.Common.{◌≡◌, ℕ, zero, suc, ◌+◌, ◌-◌, ◌^◌, ◌<◌, min, List, [], ◌∷◌, ◌++◌, length, take, drop, sym, refl, ap, ◌∙◌, arith, take-append-drop}
use lib.Seq.{drop-nil}
use Rattle.places.specs.declared.change.Change.{Change}
use Rattle.places.specs.Changes.{Keeps, Kept}
use Rattle.lines.specs.Rows.{before, rows}
use Rattle.damage.specs.declared.damage.Damage.{Damage}
use Rattle.damage.specs.Damages.{ends_in, ends_before, damage_of, joint_first, joint_end, followed_by, capped}
use Rattle.damage.specs.Laws.{Patches}
use Rattle.damage.proofs.Counting.{rows_counted, ends_split, ends_rise, ends_all, ends_within, ends_capped}
use Rattle.damage.proofs.Patching.{keeps_patched, patched_keeps, keeps_twice}

take-before : (x k : ℕ) (rs ss : List (List ℕ)) → take k rs ≡ take k ss → take k (before x rs) ≡ take k (before x ss)
take-before x zero rs ss e = refl
take-before x (suc k) [] [] e = refl
take-before x (suc k) [] (s ∷ ss) e = cc
take-before x (suc k) (r ∷ rs) [] e = cc
take-before x (suc k) (r ∷ rs) (s ∷ ss) e = cc

-- the rows that end within a front are its own, whatever follows it
front_rows : (xs ys zs : List ℕ) → take (ends_in xs) (rows (xs ++ ys)) ≡ take (ends_in xs) (rows (xs ++ zs))
front_rows [] ys zs = refl
front_rows (x ∷ xs) ys zs =
    let rest = front_rows xs ys zs in
    let more = take-before x (ends_in xs) (rows (xs ++ ys)) (rows (xs ++ zs)) rest in
    grind arith

drop-before : (x k : ℕ) (rs : List (List ℕ)) → drop (suc k) (before x rs) ≡ drop (suc k) rs
drop-before x k [] = drop-nil k
drop-before x k (r ∷ rs) = refl

-- and the rows behind the one that a front ends in are those of what follows it
back_rows : (xs ys : List ℕ) → drop (suc (ends_in xs)) (rows (xs ++ ys)) ≡ drop 1 (rows ys)
back_rows [] ys = refl
back_rows (x ∷ xs) ys =
    let rest = back_rows xs ys in
    let more = drop-before x (ends_in xs) (rows (xs ++ ys)) in
    grind arith

rows_behind : (t : List ℕ) (v : ℕ) → drop (suc (ends_before t v)) (rows t) ≡ drop 1 (rows (drop v t))
rows_behind t v = ap (λ z. drop (suc (ends_before t v)) (rows z)) (sym (take-append-drop v t)) ∙ back_rows (take v t) (drop v t)

-- the rows that a change of the text keeps
rows_kept : (xs ys : List ℕ) (s o n f p q : ℕ) → Keeps xs ys s o n → f ≡ ends_before ys s → q ≡ ends_before ys (s + n) - f + 1
    → p ≡ q + length (rows xs) - length (rows ys) → Keeps (rows xs) (rows ys) f p q
rows_kept xs ys s o n f p q k hf hq hp =
    let old_front : ends_before xs s ≡ f = ap ends_in (sym k.front) ∙ sym hf in
    let new_rise = ends_rise ys s (s + n) (omega arith) in
    let old_rise = ends_rise xs s (s + o) (omega arith) in
    let all_new = ends_split ys (s + n) in
    let all_old = ends_split xs (s + o) in
    let rest : ends_in (drop (s + n) ys) ≡ ends_in (drop (s + o) xs) = ap ends_in k.back in
    let long_new = rows_counted ys in
    let long_old = rows_counted xs in
    let new_end : f + q ≡ suc (ends_before ys (s + n)) = omega arith in
    let old_end : f + p ≡ suc (ends_before xs (s + o)) = omega arith in
    record {
      front =
          ap (λ z. take f (rows z)) (sym (take-append-drop s ys))
          ∙ ap (λ z. take z (rows (take s ys ++ drop s ys))) hf
          ∙ front_rows (take s ys) (drop s ys) (drop s xs)
          ∙ ap (λ z. take z (rows (take s ys ++ drop s xs))) (sym hf)
          ∙ ap (λ z. take f (rows z)) (ap (λ z. z ++ drop s xs) k.front ∙ take-append-drop s xs);
      back =
          ap (λ z. drop z (rows ys)) new_end ∙ rows_behind ys (s + n) ∙ ap (λ z. drop 1 (rows z)) k.back
          ∙ sym (rows_behind xs (s + o)) ∙ ap (λ z. drop z (rows xs)) (sym old_end);
      old_fits = omega arith;
      new_fits = omega arith;
    }

-- a damage that keeps patches, and the other way round
patches : {X : Type 0} (xs ys : List X) (d : Damage) → Keeps xs ys d.first d.old d.new → Patches xs ys d
patches xs ys d k = record { old_fits = k.old_fits; new_fits = k.new_fits; gives = keeps_patched xs ys d.first d.old d.new k }

kept : {X : Type 0} (xs ys : List X) (d : Damage) → Patches xs ys d → Keeps xs ys d.first d.old d.new
kept xs ys d h = patched_keeps xs ys d.first d.old d.new h.old_fits h.new_fits h.gives

pub damage_patches : (xs ys : List ℕ) (c : Change) → Kept xs ys c → Patches (rows xs) (rows ys) (damage_of ys (length (rows xs)) c)
damage_patches xs ys c k =
    patches (rows xs) (rows ys) (damage_of ys (length (rows xs)) c)
    (rows_kept xs ys c.start c.old c.new _ _ _ k refl refl refl)

pub damages_compose : {X : Type 0} (xs ys zs : List X) (d e : Damage) → Patches xs ys d → Patches ys zs e → Patches xs zs (followed_by d e)
damages_compose xs ys zs d e h i =
    patches xs zs (followed_by d e)
    (keeps_twice xs ys zs d.first d.old d.new e.first e.old e.new (joint_first d e) (joint_end d e) refl refl (kept xs ys d h) (kept ys zs e i))

same_damage : (d e : Damage) → d.first ≡ e.first → d.old ≡ e.old → d.new ≡ e.new → d ≡ e
same_damage d e same_first same_old same_new =
    let made : ℕ → ℕ → ℕ → Damage = λ f p q. record { first = f; old = p; new = q } in
    ap (λ f. made f d.old d.new) same_first ∙ ap (λ p. made e.first p d.new) same_old ∙ ap (made e.first e.old) same_new

-- a damage of fewer than 2^32 rows is not cut
pub fitting_uncut : {X : Type 0} (xs zs : List X) (d : Damage) → Patches xs zs d → length xs < 2 ^ 32 → length zs < 2 ^ 32 → capped d ≡ d
fitting_uncut xs zs d h old-small new-small =
    let old_below : min d.old (2 ^ 32 - 1) ≡ d.old = omega (arith, h.old_fits) in
    let new_below : min d.new (2 ^ 32 - 1) ≡ d.new = omega (arith, h.new_fits) in
    same_damage (capped d) d refl old_below new_below

pub damages_stay_below : {X : Type 0} (xs ys zs : List X) (d e : Damage) → Patches xs ys d → Patches ys zs e
    → length xs < 2 ^ 32 → length zs < 2 ^ 32 → capped (followed_by d e) ≡ followed_by d e
damages_stay_below xs ys zs d e h i = fitting_uncut xs zs (followed_by d e) (damages_compose xs ys zs d e h i)

-- the damage by the row ends in front of the change, inside it and behind it, where past is the place behind it
pub damage_counted : (t : List ℕ) (rows_before : ℕ) (c : Change) (past len inside behind : ℕ) (d : Damage) → length t < 2 ^ 32
    → past ≡ min (c.start + c.new) (2 ^ 32 - 1) → len ≡ length t
    → inside ≡ ends_before t past - ends_before t c.start
    → behind ≡ ends_before t len - ends_before t past
    → d.first ≡ ends_before t c.start → d.old ≡ rows_before - (d.first + behind) → d.new ≡ inside + 1
    → d ≡ damage_of t rows_before c
damage_counted t rows_before c past len inside behind d short is-past is-len is-inside is-behind is-first is-old is-new =
    let same = ends_capped t (c.start + c.new) (2 ^ 32 - 1) past (omega arith) is-past in
    let rises = ends_rise t c.start (c.start + c.new) (omega arith) in
    let all = ends_all t len (omega arith) in
    let within = ends_within t past in
    let long = rows_counted t in
    same_damage d (damage_of t rows_before c) is-first (omega arith) (omega arith)

-- Records by their index, as what holds a place names them. Assumes nothing.
use Rattle.std.proofs.Common.{◌≡◌, ℕ, ◌<◌, List, map, length, get_or, sym, ap, ◌∙◌, arith}
use Rattle.std.proofs.lemmas.List.{length-map, get_or-map}
use Rattle.places.specs.Marks.{Mark}

module _ {R : Type 0} (mark : R → Mark) (records kept : List R) (same : records ≡ kept) (i : ℕ) (h : i < length (map mark kept)) where
  pub held_index : i < length records
  held_index = omega (arith, ap length same, length-map kept mark)

  pub held_mark : (x : R) → x ≡ get_or records i x → get_or (map mark kept) i (mark x) ≡ mark x
  held_mark x read =
      get_or-map mark kept i x (mark x) (omega (arith, length-map kept mark))
      ∙ ap mark (ap (λ (z : List R). get_or z i x) (sym same) ∙ sym read)

-- An edit keeps the codes before it and those behind it. Assumes nothing.
use Rattle.std.proofs.Common.{◌≡◌, ℕ, ◌+◌, ◌≤◌, List, ◌++◌, length, take, drop, sym, ap, ◌∙◌, arith}
use Rattle.std.proofs.lemmas.List.{take_at, drop_at, append_assoc, length-append, length-take-le}
use Rattle.buffer.specs.Documents.{edited}
use Rattle.places.specs.Changes.{Keeps}

pub edited_keeps : (d : List ℕ) (a r : ℕ) (w : List ℕ) → a + r ≤ length d → Keeps d (edited d a r w) a r (length w)
edited_keeps d a r w h =
    let front_long : length (take a d) ≡ a = length-take-le a d (omega arith) in
    let long : length (take a d ++ w) ≡ a + length w = length-append (take a d) w ∙ ap (λ (k : ℕ). k + length w) front_long in
    let parts : edited d a r w ≡ (take a d ++ w) ++ drop (a + r) d = sym (append_assoc (take a d) w (drop (a + r) d)) in
    record {
      front = take_at (take a d) (w ++ drop (a + r) d) a front_long;
      back = ap (drop (a + length w)) parts ∙ drop_at (take a d ++ w) (drop (a + r) d) (a + length w) long;
      old_fits = h;
      new_fits = omega (arith, ap length parts, length-append (take a d ++ w) (drop (a + r) d));
    }

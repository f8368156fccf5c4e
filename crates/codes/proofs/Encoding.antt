-- What is written is read again, and what the bytes of a code are. Assumes nothing.
use Rattle.std.proofs.Common.{◌≡◌, ℕ, zero, suc, ◌+◌, ◌-◌, ◌*◌, ◌/◌, ◌<◌, ◌≤◌, true, List, [], ◌∷◌, ◌++◌, length, refl, ⊎_elim, Result, Ok, arith}
use lib.Utf8.{scalar, encode, next}
use Rattle.std.proofs.lemmas.Bool.Decides.{nat_tests}
use Rattle.std.proofs.lemmas.Bool.{lt-ltb, le-ltb, cases_lt}
use Rattle.codes.specs.Utf8.{decoded, is_lead, tail_count, lead_bits, tail_low, tail_high}
use Rattle.codes.specs.declared.utf8.Decoded.{Decoded}
use Rattle.codes.specs.declared.utf8.DecodeFault.{DecodeFault}

-- the code c, read from n bytes
abbrev pub code_read : ℕ → ℕ → Result Decoded DecodeFault
code_read c n = Ok (record { code = c; len = n })

-- a number lies below x, from x to y, from y to z, or past z
ranges : (P : Type 0) (c x y z : ℕ) → (c < x → P) → (x ≤ c → c < y → P) → (y ≤ c → c < z → P) → (z ≤ c → P) → P
ranges P c x y z f g h k =
    ⊎_elim f (λ l. ⊎_elim (g l) (λ m. ⊎_elim (h m) k (cases_lt c z)) (cases_lt c y)) (cases_lt c x)

-- the bytes of a code, by its range
pub encode_1 : (c : ℕ) → c < 128 → encode c ≡ c ∷ []
unfolding encode
encode_1 c h = rw (lt-ltb c 128 h)

pub encode_2 : (c : ℕ) → 128 ≤ c → c < 2048 → encode c ≡ (192 + c / 64) ∷ next c ∷ []
unfolding encode
encode_2 c l h = rw (le-ltb c 128 l, lt-ltb c 2048 h)

pub encode_3 : (c : ℕ) → 2048 ≤ c → c < 65536 → encode c ≡ (224 + c / 4096) ∷ next (c / 64) ∷ next c ∷ []
unfolding encode
encode_3 c l h = let k : 128 ≤ c = omega arith in rw (le-ltb c 128 k, le-ltb c 2048 l, lt-ltb c 65536 h)

pub encode_4 : (c : ℕ) → 65536 ≤ c → encode c ≡ (240 + c / 262144) ∷ next (c / 4096) ∷ next (c / 64) ∷ next c ∷ []
unfolding encode
encode_4 c l =
    let k : 128 ≤ c = omega arith in
    let m : 2048 ≤ c = omega arith in
    rw (le-ltb c 128 k, le-ltb c 2048 m, le-ltb c 65536 l)

-- what is written is read again, whatever stands behind it
pub reads_written : (c : ℕ) (rest : List ℕ) → scalar c ≡ true → decoded (encode c ++ rest) ≡ code_read c (length (encode c))
reads_written c rest s =
    ranges (decoded (encode c ++ rest) ≡ code_read c (length (encode c))) c 128 2048 65536
    (λ h. rw (encode_1 c h) (grind (arith, nat_tests)))
    (λ l h. rw (encode_2 c l h) (grind (arith, nat_tests)))
    (λ l h. rw (encode_3 c l h) (grind (arith, nat_tests)))
    (λ l. rw (encode_4 c l) (grind (arith, nat_tests)))

-- any n more bytes, the first of them from low to high, behind the bytes `front` that gave `bits`, make a code with its
-- bytes
abbrev pub Spells : ℕ → ℕ → ℕ → ℕ → List ℕ → Type 0
Spells zero low high bits front = (scalar bits ≡ true) × (encode bits ≡ front)
Spells (suc n) low high bits front = (b : ℕ) → low ≤ b → b ≤ high → Spells n 128 191 (bits * 64 + (b - 128)) (front ++ b ∷ [])

-- the bytes that may follow a lead make codes, by the lead's range
spells_1 : (a : ℕ) → a < 128 → Spells 0 128 191 a (a ∷ [])
spells_1 a h = (grind (arith, nat_tests), encode_1 a h)

spells_2 : (a : ℕ) → 194 ≤ a → a < 224 → Spells 1 128 191 (a - 192) (a ∷ [])
spells_2 a la ha b lb hb = (grind (arith, nat_tests), rw (encode_2 ((a - 192) * 64 + (b - 128)) (omega arith) (omega arith)) (grind arith))

spells_3 : (a : ℕ) → 224 ≤ a → a < 240 → Spells 2 (tail_low a) (tail_high a) (a - 224) (a ∷ [])
spells_3 a la ha b lb hb d ld hd =
    (grind (arith, nat_tests), rw (encode_3 (((a - 224) * 64 + (b - 128)) * 64 + (d - 128)) (grind (arith, nat_tests)) (grind (arith, nat_tests))) (grind (arith, nat_tests)))

spells_4 : (a : ℕ) → 240 ≤ a → a ≤ 244 → Spells 3 (tail_low a) (tail_high a) (a - 240) (a ∷ [])
spells_4 a la ha b lb hb d ld hd f lf hf =
    (grind (arith, nat_tests), rw (encode_4 ((((a - 240) * 64 + (b - 128)) * 64 + (d - 128)) * 64 + (f - 128)) (grind (arith, nat_tests))) (grind (arith, nat_tests)))

-- the same at what the definitions say of the lead a
spells_at : (a n low high bits : ℕ) → tail_count a ≡ n → tail_low a ≡ low → tail_high a ≡ high → lead_bits a ≡ bits → Spells n low high bits (a ∷ []) → Spells (tail_count a) (tail_low a) (tail_high a) (lead_bits a) (a ∷ [])
spells_at a n low high bits e f g h s = rw (e, f, g, h) s

-- the bytes that may follow any lead make codes
pub lead_spells : (a : ℕ) → is_lead a ≡ true → Spells (tail_count a) (tail_low a) (tail_high a) (lead_bits a) (a ∷ [])
lead_spells a s =
    ranges (Spells (tail_count a) (tail_low a) (tail_high a) (lead_bits a) (a ∷ [])) a 128 224 240
    (λ h. spells_at a 0 128 191 a (grind (arith, nat_tests)) (grind (arith, nat_tests)) (grind (arith, nat_tests)) (grind (arith, nat_tests)) (spells_1 a h))
    (λ l h. spells_at a 1 128 191 (a - 192) (grind (arith, nat_tests)) (grind (arith, nat_tests)) (grind (arith, nat_tests)) (grind (arith, nat_tests)) (spells_2 a (grind (arith, nat_tests)) h))
    (λ l h. spells_at a 2 (tail_low a) (tail_high a) (a - 224) (grind (arith, nat_tests)) refl refl (grind (arith, nat_tests)) (spells_3 a l h))
    (λ l. spells_at a 3 (tail_low a) (tail_high a) (a - 240) (grind (arith, nat_tests)) refl refl (grind (arith, nat_tests)) (spells_4 a l (grind (arith, nat_tests))))

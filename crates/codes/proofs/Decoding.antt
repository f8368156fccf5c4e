-- How a code is read byte by byte, and what the answers of `decoded` tell. Assumes nothing.
use Rattle.std.proofs.Common.{◌≡◌, ℕ, zero, suc, ◌+◌, ◌-◌, ◌*◌, ◌<◌, ◌≤◌, true, List, [], ◌∷◌, ◌++◌, length, take, drop, sym, refl, ap, ◌∙◌, add-one, Result, Err, arith}
use lib.Utf8.{scalar, encode}
use Rattle.std.proofs.lemmas.Bool.Decides.{nat_tests}
use Rattle.std.proofs.lemmas.Bool.{cond_both, cond-true, cond-false}
use Rattle.std.proofs.lemmas.List.{append-nil, append_assoc, take_at, take-append-drop, length-append}
use Rattle.std.proofs.Math.Seq.{take-append-add}
use Rattle.codes.specs.Codes.{within}
use Rattle.codes.specs.Utf8.{decoded, is_lead, tail_count, lead_bits, tail_low, tail_high, tail_of, Begins, Tells}
use Rattle.codes.proofs.Encoding.{code_read, encode_1, reads_written, Spells, lead_spells}
use Rattle.codes.specs.declared.utf8.Decoded.{Decoded}
use Rattle.codes.specs.declared.utf8.DecodeFault.{DecodeFault}
use Rattle.codes.specs.declared.utf8.DecodeFault.TheVariants.{Bad}

-- a byte more adds to the code
pub tail_more : (m n low high bits i b : ℕ) (bs more : List ℕ) → (bs ≡ b ∷ more) × (m + 1 ≡ n) → within low high b ≡ true → tail_of n low high bits i bs ≡ tail_of m 128 191 (bits * 64 + (b - 128)) (i + 1) more
tail_more m n low high bits i b bs more taken w = rw (taken.0, ← taken.1, add-one m, add-one i, w)

-- where any allowed bytes complete `front`, the lowest ones do
completes : (n low high bits : ℕ) (front : List ℕ) → low ≤ high → Spells n low high bits front → (c : ℕ) × (more : List ℕ) × ((scalar c ≡ true) × (front ++ more ≡ encode c) × (length more ≡ n))
completes zero low high bits front h s = (bits, [], (s.0, append-nil front ∙ sym s.1, refl))
completes (suc n) low high bits front h s =
    let r = completes n 128 191 (bits * 64 + (low - 128)) (front ++ low ∷ []) (omega arith) (s low (omega arith) h) in
    (r.0, low ∷ r.1, (r.2.0, sym (append_assoc front (low ∷ []) r.1) ∙ r.2.1, ap suc r.2.2))

-- bytes that lack some of a code begin one
begins : (n low high bits : ℕ) (front : List ℕ) → low ≤ high → Spells (suc n) low high bits front → Begins front
begins n low high bits front h s =
    let r = completes (suc n) low high bits front h s in
    (r.0, r.1, (r.2.0, r.2.1, omega (arith, r.2.2)))

-- the first bytes with the one behind them
take_past : (i b : ℕ) (front bs : List ℕ) → length front ≡ i → take (suc i) (front ++ b ∷ bs) ≡ front ++ b ∷ []
take_past i b front bs h = rw (← h, ← add-one) (take-append-add front (b ∷ bs) 1)

-- where `front` and then b are read as bad, whatever follows, no code begins with them: it would be read
no_code : (i b : ℕ) (front bs : List ℕ) → length front ≡ i → ((more : List ℕ) → decoded (front ++ b ∷ more) ≡ Err (Bad i)) → (c : ℕ) (rest : List ℕ) → scalar c ≡ true → take (suc i) (encode c ++ rest) ≡ take (suc i) (front ++ b ∷ bs) → ⊥
no_code i b front bs h bad c rest s e =
    let text : List ℕ = encode c ++ rest in
    let more : List ℕ = drop (suc i) text in
    let parts : text ≡ front ++ b ∷ more =
    sym (take-append-drop (suc i) text) ∙ ap (λ x. x ++ more) (e ∙ take_past i b front bs h) ∙ append_assoc front (b ∷ []) more in
    let read : code_read c (length (encode c)) ≡ Err (Bad i) = sym (reads_written c rest s) ∙ ap decoded parts ∙ bad more in
    let z : ◌≡◌ {A = ℕ} 0 1 = cc in
    omega arith

-- a byte that is bad whatever follows, behind bytes that begin a code, is the first bad one
bad_tells : (i b : ℕ) (front bs : List ℕ) → length front ≡ i → Begins front → ((more : List ℕ) → decoded (front ++ b ∷ more) ≡ Err (Bad i)) → Tells (front ++ b ∷ bs) (Err (Bad i))
bad_tells i b front bs h s bad =
    (omega (arith, length-append front (b ∷ bs)), rw (take_at front (b ∷ bs) i h) s, no_code i b front bs h bad)

-- behind the i bytes `front`, which gave `bits`, the answer tells the truth of the whole
tail_tells : (n low high bits i : ℕ) (front bs : List ℕ) → length front ≡ i → 0 < i → low ≤ high → ((ds : List ℕ) → decoded (front ++ ds) ≡ tail_of n low high bits i ds) → Spells n low high bits front → Tells (front ++ bs) (tail_of n low high bits i bs)
tail_tells zero low high bits i front bs h p o d s =
    (s.0, take_at front bs i h ∙ sym s.1, sym h ∙ ap length (sym s.1))
tail_tells (suc n) low high bits i front [] h p o d s =
    rw append-nil (omega arith, begins n low high bits front o s)
tail_tells (suc n) low high bits i front (b ∷ bs) h p o d s =
    cond_both (within low high b) (tail_of n 128 191 (bits * 64 + (b - 128)) (suc i) bs) (Err (Bad i)) (Tells (front ++ b ∷ bs))
    (λ w.
    let l : low ≤ b = grind (arith, nat_tests) in
    let u : b ≤ high = grind (arith, nat_tests) in
    let long : length (front ++ b ∷ []) ≡ suc i = omega (arith, length-append front (b ∷ [])) in
    let on : (ds : List ℕ) → decoded ((front ++ b ∷ []) ++ ds) ≡ tail_of n 128 191 (bits * 64 + (b - 128)) (suc i) ds =
    λ ds. ap decoded (append_assoc front (b ∷ []) ds) ∙ d (b ∷ ds) ∙ cond-true (within low high b) _ _ w in
    let r = tail_tells n 128 191 (bits * 64 + (b - 128)) (suc i) (front ++ b ∷ []) bs long (omega arith) (omega arith) on (s b l u) in
    rw (append_assoc front (b ∷ []) bs) at r)
    (λ w. bad_tells i b front bs h (begins n low high bits front o s) (λ more. d (b ∷ more) ∙ cond-false (within low high b) _ _ w))

-- what is read tells the truth of the bytes
pub decoded_tells : (bs : List ℕ) → Tells bs (decoded bs)
decoded_tells [] = refl
decoded_tells (b ∷ bs) =
    cond_both (is_lead b) (tail_of (tail_count b) (tail_low b) (tail_high b) (lead_bits b) 1 bs) (Err (Bad 0)) (Tells (b ∷ bs))
    (λ l. tail_tells (tail_count b) (tail_low b) (tail_high b) (lead_bits b) 1 (b ∷ []) bs refl (omega arith) (grind (arith, nat_tests)) (λ ds. cond-true (is_lead b) _ _ l) (lead_spells b l))
    (λ l. bad_tells 0 b [] bs refl (0, 0 ∷ [], (refl, sym (encode_1 0 (omega arith)), omega arith)) (λ more. cond-false (is_lead b) _ _ l))

-- an answer that is what the bytes are read as tells the truth of them
pub tells_of : (bs : List ℕ) (r : Result Decoded DecodeFault) → r ≡ decoded bs → Tells bs r
tells_of bs r e = rw e (decoded_tells bs)

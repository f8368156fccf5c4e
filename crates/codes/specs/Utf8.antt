-- What the bytes of a text are read as, by the syntax of RFC 3629. Writing is the library's `encode_utf8`. Assumes nothing.
use Rattle.std.specs.Prelude.{◌≡◌, ℕ, zero, suc, ◌+◌, ◌-◌, ◌*◌, ◌<◌, Bool, true, cond, ◌||◌, List, [], ◌∷◌, ◌++◌, length, take, ◌==◌, ◌≢◌, nat_lt, Result, Ok, Err}
use lib.Utf8.{scalar}
use Rattle.std.specs.Char.{encode_utf8}
use Rattle.codes.specs.Codes.{within}
use Rattle.codes.specs.declared.utf8.Decoded.{Decoded}
use Rattle.codes.specs.declared.utf8.DecodeFault.{DecodeFault}
use Rattle.codes.specs.declared.utf8.DecodeFault.TheVariants.{Bad, Cut, End}

-- the bytes that a code can begin with
abbrev pub is_lead : ℕ → Bool
is_lead b = nat_lt b 128 || within 194 244 b

-- how many bytes follow the lead b
abbrev pub tail_count : ℕ → ℕ
tail_count b = cond (nat_lt b 128) 0 (cond (nat_lt b 224) 1 (cond (nat_lt b 240) 2 3))

-- the bits of the code that the lead b holds
abbrev pub lead_bits : ℕ → ℕ
lead_bits b = cond (nat_lt b 128) b (cond (nat_lt b 224) (b - 192) (cond (nat_lt b 240) (b - 224) (b - 240)))

-- the bytes that may follow the lead b: after E0 and F0 no smaller ones, which would write a code longer than
-- needed; after ED no larger ones, which would be surrogates; after F4 none past the last code
abbrev pub tail_low : ℕ → ℕ
tail_low b = cond (b == 224) 160 (cond (b == 240) 144 128)

abbrev pub tail_high : ℕ → ℕ
tail_high b = cond (b == 237) 159 (cond (b == 244) 143 191)

-- n more bytes of a code, the first of them from low to high, where i bytes came before and gave `bits`
abbrev pub tail_of : ℕ → ℕ → ℕ → ℕ → ℕ → List ℕ → Result Decoded DecodeFault
tail_of zero low high bits i bs = Ok (record { code = bits; len = i })
tail_of (suc n) low high bits i [] = Err Cut
tail_of (suc n) low high bits i (b ∷ bs) = cond (within low high b) (tail_of n 128 191 (bits * 64 + (b - 128)) (suc i) bs) (Err (Bad i))

-- the first code of a text with the number of its bytes
abbrev pub decoded : List ℕ → Result Decoded DecodeFault
decoded [] = Err End
decoded (b ∷ bs) = cond (is_lead b) (tail_of (tail_count b) (tail_low b) (tail_high b) (lead_bits b) 1 bs) (Err (Bad 0))

-- bs begin as the bytes of some code with something behind them do
abbrev pub Begins : List ℕ → Type 0
Begins bs = (c : ℕ) × (more : List ℕ) × ((scalar c ≡ true) × (bs ++ more ≡ encode_utf8 c) × (0 < length more))

-- what an answer says of the bytes: a code is the one whose bytes come first; a bad byte is the first that no text has
-- there, while all before it may begin a code; cut bytes may begin a code and hold none
abbrev pub Tells : List ℕ → Result Decoded DecodeFault → Type 0
Tells bs (Ok d) = (scalar d.code ≡ true) × (take d.len bs ≡ encode_utf8 d.code) × (d.len ≡ length (encode_utf8 d.code))
Tells bs (Err (Bad i)) = (i < length bs) × Begins (take i bs) × ((c : ℕ) (rest : List ℕ) → scalar c ≡ true → take (suc i) (encode_utf8 c ++ rest) ≢ take (suc i) bs)
Tells bs (Err Cut) = (0 < length bs) × Begins bs
Tells bs (Err End) = bs ≡ []

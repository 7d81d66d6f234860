-- The bits of a VAX float as one number, most significant first: the sign, an exponent of x bits, a mantissa of w bits; and the words that it is made of.
-- They serve the contracts; that they are the fields of the tables is proved (proofs/Words.antt). Assumes nothing.
use Rattle.std.specs.Prelude.{ℕ, ◌+◌, ◌*◌, ◌/◌, ◌%◌, ◌^◌, Bool, List, leb, get_or, Option}
use Rattle.vax.specs.Rounding.{vax_of}

abbrev pub sign_in : ℕ → ℕ → ℕ → Bool
sign_in w x raw = leb (2 ^ x) (raw / 2 ^ w)

abbrev pub exponent_in : ℕ → ℕ → ℕ → ℕ
exponent_in w x raw = raw / 2 ^ w % 2 ^ x

abbrev pub mantissa_in : ℕ → ℕ → ℕ
mantissa_in w raw = raw % 2 ^ w

unfoldable pub vax_in : ℕ → ℕ → ℕ → ℕ → Option ℕ
vax_in w x b raw = vax_of w b (sign_in w x raw) (exponent_in w x raw) (mantissa_in w raw)

-- a word of two bytes, the second the more significant; of two and of four words the first is the most significant
abbrev pub word_at : List ℕ → ℕ → ℕ
word_at f at = get_or f at 0 + get_or f (at + 1) 0 * 256

unfoldable pub pair_at : List ℕ → ℕ → ℕ
pair_at f at = word_at f at * 2 ^ 16 + word_at f (at + 2)

unfoldable pub four_at : List ℕ → ℕ → ℕ
four_at f at = pair_at f at * 2 ^ 32 + pair_at f (at + 4)

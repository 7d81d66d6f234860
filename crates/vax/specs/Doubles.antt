-- Doubles by their bits: which bits are those of a finite double, the number that they denote as a fraction of whole numbers, and "nearest, ties to
-- an even last bit" (15.5) over all finite doubles. The double of bits n is ±units_of n / 2 ^ 1074. Assumes nothing.
use Rattle.std.specs.Prelude.{ℕ, zero, suc, ◌+◌, ◌-◌, ◌*◌, ◌/◌, ◌%◌, ◌^◌, ◌≤◌, ◌<◌, ◌≡◌, Bool, cond, leb}
use Rattle.std.specs.Bool.{beq}

-- the fields of 64 bits: the sign, 11 bits of exponent, 52 digits
abbrev pub sign_of : ℕ → Bool
sign_of n = leb (2 ^ 63) n

abbrev pub field_of : ℕ → ℕ
field_of n = n % 2 ^ 63 / 2 ^ 52

abbrev pub digits_of : ℕ → ℕ
digits_of n = n % 2 ^ 52

-- the size that an exponent's field and p digits t denote, in units of the smallest positive value; a field of 0 has no leading digit
unfoldable pub units_by : ℕ → ℕ → ℕ → ℕ
units_by p zero t = t
units_by p (suc x) t = (2 ^ p + t) * 2 ^ x

unfoldable pub units_of : ℕ → ℕ
units_of n = units_by 52 (field_of n) (digits_of n)

-- the bits of a finite double: a zero, a subnormal or a normal number
pub record Finite (n : ℕ) : Type 0 where
  pub width : n < 2 ^ 64
  pub field : field_of n < 2047

-- the distance of a and b, and that of ±a and ±b, a sign being true where it is negative
abbrev pub apart : ℕ → ℕ → ℕ
apart a b = (a - b) + (b - a)

abbrev pub between : Bool → ℕ → Bool → ℕ → ℕ
between s a t b = cond (beq s t) (apart a b) (a + b)

-- the distance of ±num / den and the double of bits n, times 2 ^ 1074 * den
unfoldable pub distance : Bool → ℕ → ℕ → ℕ → ℕ
distance s num den n = between s (num * 2 ^ 1074) (sign_of n) (units_of n * den)

-- 15.5: "nearest, ties to an even last bit": r is the bits of a finite double, no finite double is nearer to ±num / den, and where another is as
-- near, r's last bit is even
pub record Nearest (s : Bool) (num den r : ℕ) : Type 0 where
  pub finite : Finite r
  pub closest : (n : ℕ) → Finite n → distance s num den r ≤ distance s num den n
  pub even : (n : ℕ) → Finite n → (n ≡ r → ⊥) → distance s num den n ≡ distance s num den r → r % 2 ≡ 0

-- 15.6: "exact": r is the bits of the finite double that is ±num / den itself
pub record Equal (s : Bool) (num den r : ℕ) : Type 0 where
  pub finite : Finite r
  pub sign : sign_of r ≡ s
  pub size : units_of r * den ≡ num * 2 ^ 1074

-- VAX floats: the number that one denotes, "The exact VAX value, a fraction of whole numbers" (15.3), and what an answer must say of it. Section 15
-- of docs/RULES.md. A kind has w mantissa bits below a leading digit that is not stored, and its exponent counts from an offset b. Assumes nothing.
use Rattle.std.specs.Prelude.{ℕ, zero, suc, ◌+◌, ◌*◌, ◌^◌, ◌≡◌, Bool, true, false, ◌&&◌, List, eqb, Option, Some, None}
use Rattle.vax.specs.Doubles.{Nearest, Equal}
use Rattle.vax.specs.Layouts.{Kind, parts}

-- ---- the value of a sign, an exponent e and a mantissa m: ±0.1m (binary) * 2 ^ (e - b), which is ±num_of w e m / den_of w b. 15.4: "An
-- exponent of zero with the sign clear is zero (+0) whatever its mantissa"
abbrev pub num_of : ℕ → ℕ → ℕ → ℕ
num_of w zero m = 0
num_of w (suc e) m = (2 ^ w + m) * 2 ^ suc e

abbrev pub den_of : ℕ → ℕ → ℕ
den_of w b = 2 ^ (w + 1 + b)

-- 15.4: "with the sign set it is the reserved operand"
abbrev pub is_reserved : Bool → ℕ → Bool
is_reserved s e = eqb e 0 && s

-- ---- what an answer says, P being "nearest" (15.5) or "exact" (15.6): the reserved operand where it is one, and else the bits of a double of which
-- P holds; zero is +0
abbrev pub Holds : (Bool → ℕ → ℕ → ℕ → Type 0) → ℕ → ℕ → Bool → ℕ → ℕ → Option ℕ → Type 0
Holds P w b s e m None = is_reserved s e ≡ true
Holds P w b s e m (Some r) = (is_reserved s e ≡ false) × (e ≡ 0 → r ≡ 0) × P s (num_of w e m) (den_of w b) r

-- ---- of the bytes at an offset, by the kind's table
unfoldable pub sign_at : Kind → List ℕ → ℕ → Bool
sign_at k f at = eqb (parts f at k.sign) 1

unfoldable pub exponent_at : Kind → List ℕ → ℕ → ℕ
exponent_at k f at = parts f at k.exponent

unfoldable pub mantissa_at : Kind → List ℕ → ℕ → ℕ
mantissa_at k f at = parts f at k.mantissa

unfoldable pub reserved_at : Kind → List ℕ → ℕ → Bool
reserved_at k f at = is_reserved (sign_at k f at) (exponent_at k f at)

abbrev pub HoldsAt : (Bool → ℕ → ℕ → ℕ → Type 0) → Kind → List ℕ → ℕ → Option ℕ → Type 0
HoldsAt P k f at v = Holds P k.width k.offset (sign_at k f at) (exponent_at k f at) (mantissa_at k f at) v

-- the answer is the nearest double; it is the VAX value itself
abbrev pub NearestAt : Kind → List ℕ → ℕ → Option ℕ → Type 0
NearestAt = HoldsAt Nearest

abbrev pub ExactAt : Kind → List ℕ → ℕ → Option ℕ → Type 0
ExactAt = HoldsAt Equal

-- where some double n is the VAX value, the answer is
abbrev pub ExactIf : Kind → List ℕ → ℕ → Option ℕ → Type 0
ExactIf k f at v =
    (n : ℕ) → Equal (sign_at k f at) (num_of k.width (exponent_at k f at) (mantissa_at k f at)) (den_of k.width k.offset) n → ExactAt k f at v

-- The double for a VAX float, computed: its first digits, rounded. That it is the nearest, ties to an even last bit, is proved (proofs/Answers.antt).
-- Assumes nothing.
use Rattle.std.specs.Prelude.{ℕ, ◌+◌, ◌-◌, ◌*◌, ◌/◌, ◌%◌, ◌^◌, Bool, true, false, cond, List, ltb, eqb, Option, Some, None}
use Rattle.vax.specs.Layouts.{Kind}
use Rattle.vax.specs.Vax.{sign_at, exponent_at, mantissa_at}

-- the whole number nearest to n / d, q being n / d cut, by whether q is nearer and whether q + 1 is; of two as near the even one
abbrev pub chosen : Bool → Bool → ℕ → ℕ
chosen true b q = q
chosen false true q = q + 1
chosen false false q = q + q % 2

unfoldable pub nearest_of : ℕ → ℕ → ℕ
nearest_of n d = chosen (ltb (n % d) (d - n % d)) (ltb (d - n % d) (n % d)) (n / d)

-- the first p of the w + 1 digits of a number, rounded; zeros behind it where it has fewer
unfoldable pub kept_of : ℕ → ℕ → ℕ → ℕ
kept_of w p n = cond (ltb w p) (n * 2 ^ (p - (w + 1))) (nearest_of n (2 ^ (w + 1 - p)))

-- The bits below the sign of the double for a number with p digits before the point, in units of the smallest double, 2 ^ -1074. A double keeps 53
-- digits. Its exponent's field is then p - 52, of which the leading digit makes one.
unfoldable pub size_of : ℕ → ℕ → ℕ → ℕ
size_of w p n = cond (ltb p 53) (kept_of w p n) ((p - 53) * 2 ^ 52 + kept_of w 53 n)

abbrev pub with_sign : Bool → ℕ → ℕ
with_sign s n = cond s (2 ^ 63) 0 + n

-- the mantissa behind its leading digit
abbrev pub leading : ℕ → ℕ → ℕ
leading w m = 2 ^ w + m

-- 15.4: "An exponent of zero with the sign clear is zero (+0) whatever its mantissa; with the sign set it is the reserved operand"
unfoldable pub vax_of : ℕ → ℕ → Bool → ℕ → ℕ → Option ℕ
vax_of w b s e m = cond (eqb e 0) (cond s None (Some 0)) (Some (with_sign s (size_of w (e + 1074 - b) (leading w m))))

-- the VAX float of a kind at an offset
unfoldable pub vax_at : Kind → List ℕ → ℕ → Option ℕ
vax_at k f at = vax_of k.width k.offset (sign_at k f at) (exponent_at k f at) (mantissa_at k f at)

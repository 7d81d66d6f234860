-- The float of the bits of a finite double: it has the number that `units_of` says. Assumes nothing.
use Prim.Native.Nat.{ℕ, zero, suc, ◌+◌, ◌*◌, ◌^◌, ◌<◌}
use mathlib.Core.Path.{◌≡◌, sym, subst}
use mathlib.Core.Bool.{Bool, false, cond}
use native.Mathlib.Nat.{mul-one, lt_irrefl}
use lib.Dec.{eqb}
use lib.Ieee.{nan, inf, binary64, odd, of_fields, of_bits}
use lib.Ieee.Exact.{HasValue, odd_sign}
use borrow.Author.Tests.{ne_eqb}
use Rattle.vax.specs.Doubles.{sign_of, field_of, digits_of, units_by, units_of}
use Rattle.vax.specs.Promises.{NumbersRight}

below_ones : (x : ℕ) → x < 2047 → eqb x 2047 ≡ false
below_ones x h = ne_eqb x 2047 (λ e. lt_irrefl 2047 (subst (λ (z : ℕ). z < 2047) e h))

fields_value : (s : Bool) (x t : ℕ) → x < 2047 → HasValue (of_fields binary64 s x t) s (units_by 52 x t) (2 ^ 1074)
unfolding of_fields units_by
fields_value s zero t h = subst (λ (z : ℕ). HasValue (odd 53 s t 0 1074) s z (2 ^ 1074)) (mul-one t) (odd_sign 53 s t 0 1074)
fields_value s (suc x) t h =
    subst (λ (b : Bool). HasValue (cond b (cond (eqb t 0) (inf s) nan) (odd 53 s (2 ^ 52 + t) x 1074)) s ((2 ^ 52 + t) * 2 ^ x) (2 ^ 1074)) (sym (below_ones (suc x) h))
    (odd_sign 53 s (2 ^ 52 + t) x 1074)

-- THE THEOREM of the bits of a finite double
pub numbers_right : NumbersRight
unfolding of_bits units_of
numbers_right n F = fields_value (sign_of n) (field_of n) (digits_of n) F.field

-- What is promised of VAX floats, of every sign, exponent and mantissa, and of any bytes at any offset. Section 15 of docs/RULES.md.
-- Assumes nothing.
use Rattle.std.specs.Prelude.{ℕ, ◌+◌, ◌^◌, ◌≤◌, ◌<◌, ◌≡◌, Bool, List, Option, Some}
use Rattle.std.specs.Float.{binary64}
use Rattle.std.specs.Float.Ieee.{of_bits}
use Rattle.std.specs.Float.Ieee.Exact.{HasValue}
use Rattle.vax.specs.Doubles.{sign_of, units_of, Finite, Nearest, Equal}
use Rattle.vax.specs.Layouts.{Kind, ffloat, dfloat, gfloat}
use Rattle.vax.specs.Vax.{Holds, exponent_at, NearestAt, ExactAt, ExactIf}
use Rattle.vax.specs.Rounding.{vax_of, vax_at}

-- 15.7: "once over mantissa width and exponent offset". e ≤ b + 1023: the value is below 2 ^ 1023, where a double does not overflow
pub record Rounds (w b : ℕ) : Type 0 where
  pub nearest : (e m : ℕ) (s : Bool) → m < 2 ^ w → e ≤ b + 1023 → Holds Nearest w b s e m (vax_of w b s e m)
  -- no other double is
  pub only : (e m : ℕ) (s : Bool) (r q : ℕ) → Holds Nearest w b s e m (Some r) → Holds Nearest w b s e m (Some q) → r ≡ q
  -- with 53 digits at most, none of them behind the point in units of the smallest double, it is exact
  pub exact : w ≤ 52 → (e m : ℕ) (s : Bool) → m < 2 ^ w → e ≤ b + 1023 → (0 < e → b + w < e + 1074) → Holds Equal w b s e m (vax_of w b s e m)

-- b ≤ 1074: no value but zero is below the smallest double
abbrev pub RoundsOnce : Type 0
RoundsOnce = (w b : ℕ) → b ≤ 1074 → Rounds w b

-- of the bytes at an offset
pub record BytesRead (f : List ℕ) (at : ℕ) : Type 0 where
  pub ffloat_nearest : NearestAt ffloat f at (vax_at ffloat f at)
  pub dfloat_nearest : NearestAt dfloat f at (vax_at dfloat f at)
  pub gfloat_nearest : NearestAt gfloat f at (vax_at gfloat f at)
  -- 15.6: "F_FLOAT comes out exact"; a G_FLOAT does but for exponents 1 and 2, whose doubles are subnormal
  pub ffloat_exact : ExactAt ffloat f at (vax_at ffloat f at)
  pub gfloat_exact : (exponent_at gfloat f at ≡ 1 → ⊥) → (exponent_at gfloat f at ≡ 2 → ⊥) → ExactAt gfloat f at (vax_at gfloat f at)
  -- each does where it can
  pub exact_if : (k : Kind) (v : Option ℕ) → NearestAt k f at v → ExactIf k f at v

abbrev pub BytesRight : Type 0
BytesRight = (f : List ℕ) (at : ℕ) → BytesRead f at

-- the float of the bits of a finite double has the number that the definition says
abbrev pub NumbersRight : Type 0
NumbersRight = (n : ℕ) → Finite n → HasValue (of_bits binary64 n) (sign_of n) (units_of n) (2 ^ 1074)

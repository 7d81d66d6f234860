-- What holds of every value that is given: its bits agree with it, and a VAX float is the nearest double. Assumes nothing.
use Rattle.std.specs.Prelude.{ℕ, ◌^◌, ◌≡◌, true, false, List, eqb, Float, Some}
use Rattle.std.specs.Float.{Format, binary32, binary64}
use Rattle.std.specs.Float.Ieee.{of_bits, to_bits, is_nan}
use Rattle.std.specs.Float.Ieee.Exact.{HasValue}
use Rattle.format.specs.Types.{single}
use Rattle.vax.specs.Doubles.{sign_of, units_of}
use Rattle.vax.specs.Layouts.{ffloat}
use Rattle.vax.specs.Vax.{NearestAt, ExactAt, ExactIf}
use Rattle.values.specs.Values.{extended_of, vax_kind}
use Rattle.values.specs.declared.value.Value.{Value}
use Rattle.values.specs.declared.value.Value.TheVariants.{Signed, Unsigned, Single, Double, Code}
use Rattle.values.specs.declared.value.Answer.{Answer}

-- the bits n of the float x: they denote it, and but for a NaN, one value of many bits, they are its own
pub record FloatBits (r : Format) (x : Float) (n : ℕ) : Type 0 where
  pub denote : x ≡ of_bits r n
  pub own : is_nan x ≡ false → to_bits r x ≡ n

-- the bits that come with a value
abbrev pub Agrees : Value → ℕ → Type 0
Agrees (Signed x) n = n ≡ extended_of x
Agrees (Unsigned x) n = n ≡ x
Agrees (Single x) n = FloatBits binary32 x n
Agrees (Double x) n = FloatBits binary64 x n
Agrees (Code x) n = n ≡ x

-- 15.5: the answer for the VAX float at an offset, of a kind of value and of float
pub record VaxGiven (f : List ℕ) (at kind float : ℕ) (a : Answer) : Type 0 where
  -- 15.5: "The answer is a double, of single-precision types too"
  pub double : a.value ≡ Double (of_bits binary64 a.bits)
  -- of the number that its bits say
  pub number : HasValue (of_bits binary64 a.bits) (sign_of a.bits) (units_of a.bits) (2 ^ 1074)
  -- 15.5: "nearest, ties to an even last bit"
  pub nearest : NearestAt (vax_kind kind float) f at (Some a.bits)
  -- 15.6: "F_FLOAT comes out exact"; any other does where a double is the value
  pub exact : eqb kind single ≡ true → ExactAt ffloat f at (Some a.bits)
  pub exact_if : ExactIf (vax_kind kind float) f at (Some a.bits)

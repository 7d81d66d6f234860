-- The three kinds: the fields of any bytes are within the bounds of their kind, so the theorem over width and offset holds of them. Assumes nothing.
use Prim.Native.Nat.{ℕ, ◌+◌, ◌^◌, ◌≤◌, ◌<◌}
use mathlib.Core.List.{List}
use native.Mathlib.Omega.{arith}
use Rattle.vax.specs.Layouts.{Kind, ffloat, dfloat, gfloat}
use Rattle.vax.specs.Vax.{sign_at, exponent_at, mantissa_at, NearestAt, ExactAt}
use Rattle.vax.specs.Rounding.{vax_at}
use Rattle.vax.specs.Promises.{RoundsOnce, BytesRight}
use Rattle.vax.proofs.Answers.{nearest_holds, exact_holds}
use Rattle.vax.proofs.Exactly.{exact_where}
use Rattle.vax.proofs.Unique.{one_answer}

-- ---- the fields of any bytes are within the bounds of their kind
record Within (k : Kind) (f : List ℕ) (at : ℕ) : Type 0 where
  pub mantissa : mantissa_at k f at < 2 ^ k.width
  pub offset : k.offset ≤ 1074
  pub exponent : exponent_at k f at ≤ k.offset + 1023

module _ (f : List ℕ) (at : ℕ) where
  f_within : Within ffloat f at
  unfolding exponent_at mantissa_at
  f_within = record { mantissa = omega arith; offset = omega arith; exponent = omega arith }

  d_within : Within dfloat f at
  unfolding exponent_at mantissa_at
  d_within = record { mantissa = omega arith; offset = omega arith; exponent = omega arith }

  g_within : Within gfloat f at
  unfolding exponent_at mantissa_at
  g_within = record { mantissa = omega arith; offset = omega arith; exponent = omega arith }

module _ (k : Kind) (f : List ℕ) (at : ℕ) (h : Within k f at) where
  nearest_at : NearestAt k f at (vax_at k f at)
  unfolding vax_at
  nearest_at = nearest_holds k.width k.offset (exponent_at k f at) (mantissa_at k f at) (sign_at k f at) h.mantissa h.offset h.exponent

  exact_at : k.width ≤ 52 → (0 < exponent_at k f at → k.offset + k.width < exponent_at k f at + 1074) → ExactAt k f at (vax_at k f at)
  unfolding vax_at
  exact_at = exact_holds k.width k.offset (exponent_at k f at) (mantissa_at k f at) (sign_at k f at) h.mantissa h.offset h.exponent

-- THE THEOREM of width and offset
pub rounds_once : RoundsOnce
rounds_once w b h = record {
  nearest = λ e m s i j. nearest_holds w b e m s i h j;
  only = λ e m s r q R Q. one_answer w b e m s r q h R Q;
  exact = λ short e m s i j room. exact_holds w b e m s i h j short room;
}

-- THE THEOREM of the three kinds
pub bytes_right : BytesRight
bytes_right f at = record {
  ffloat_nearest = nearest_at ffloat f at (f_within f at);
  dfloat_nearest = nearest_at dfloat f at (d_within f at);
  gfloat_nearest = nearest_at gfloat f at (g_within f at);
  ffloat_exact = exact_at ffloat f at (f_within f at) (omega arith) (λ h. omega arith);
  -- from exponent 3 on the double is normal
  gfloat_exact = λ one two. exact_at gfloat f at (g_within f at) (omega arith) (λ h. omega arith);
  exact_if = λ k v. exact_where k f at v;
}

-- A natural number, and one less than it, as code computes them with signs. Assumes nothing.
use mathlib.Core.Path.{◌≡◌, refl, ◌∙◌}
use Prim.Native.Nat.{ℕ, zero, suc, ◌<◌}
use native.Mathlib.Omega.{arith}
use lib.IntN.{ℤ, pos, ◌-ℤ◌}
use lib.Signed.{mag}
use mir.Syntax.{w64}
use mir.Val.{SFits, of_z, to_z}
use Rattle.std.proofs.Math.Facts.{to_z-of_z}
use Rattle.std.proofs.lemmas.Int.{ints}
use Rattle.format.specs.Fields.{before}

-- x was made of n
module _ (n : ℕ) (x : ℤ) (e : x ≡ pos n) (small : mag x < 9223372036854775808) where
  pub widened : to_z w64 (of_z w64 x) ≡ pos n
  widened = to_z-of_z {w = w64} (record { sfits = small }) ∙ e

  pub widened_before : to_z w64 (of_z w64 (to_z w64 (of_z w64 x) -ℤ pos 1)) ≡ before n
  widened_before = rw (widened, one_less n) (to_z-of_z {w = w64} (before_fits n (rw e at small)))
    where
      one_less : (n : ℕ) → pos n -ℤ pos 1 ≡ before n
      one_less zero = refl
      one_less (suc n) = omega (arith, ints)

      before_fits : (n : ℕ) → mag (pos n) < 9223372036854775808 → SFits w64 (before n)
      before_fits zero h = record { sfits = omega (arith, ints) }
      before_fits (suc n) h = record { sfits = omega (arith, ints) }

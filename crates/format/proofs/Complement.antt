-- Two's complement, once for every width: the signed number of n bits is `signed_of`. Assumes nothing.
use mathlib.Core.Path.{◌≡◌, refl}
use Prim.Native.Nat.{ℕ}
use mir.Syntax.{Width, w8, w16, w32, w64, w128}
use mir.Val.{to_z, hbits}
use Rattle.format.specs.Bytes.{signed_of}

pub signed_is : (w : Width) (n : ℕ) → to_z w n ≡ signed_of (hbits w) n
signed_is w8 n = refl
signed_is w16 n = refl
signed_is w32 n = refl
signed_is w64 n = refl
signed_is w128 n = refl

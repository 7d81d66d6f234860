-- An element by its number: that there is one, and where it begins. Assumes nothing.
use mathlib.Core.Path.{◌≡◌, refl}
use mathlib.Core.Bool.{true, ◌&&◌, ◌||◌}
use mathlib.Core.List.{List}
use Prim.Native.Nat.{ℕ, ◌+◌, ◌*◌, ◌≤◌, ◌<◌}
use native.Mathlib.Nat.{mul-le-mul}
use native.Mathlib.Omega.{arith}
use borrow.Author.Tests.{lt-ltb, le-ltb, le-leb}
use lib.Dec.{ltb, eqb}
use lib.ListN.{length}
use lib.IntN.{ℤ, pos, negsuc}
use lib.Signed.{le_z, lt_z}
use Rattle.std.specs.Prelude.{Bool, false, Err}
use Rattle.format.specs.Types.{type_of, size_in}
use Rattle.format.specs.Fields.{end_of, field_at, nat_at, nat_or}
use Rattle.format.specs.Encodings.{encoding_of, order_in}
use Rattle.format.proofs.FieldRanges.{end_is}
use Rattle.values.specs.Values.{is_nothing, decoded_of}
use Rattle.values.specs.declared.value.Undecoded.TheVariants.{Nothing}
use Rattle.answers.specs.Answers.{element_there}

-- an element is there if its number is 0 or more and below the count
pub there_by : (f : List ℕ) (p : ℕ) (x : ℤ) → element_there f p x ≡ (le_z (pos 0) x && ltb (nat_or 0 x) (nat_at f p))
unfolding element_there nat_at
there_by f p (pos n) = rw (le-leb 0 n (omega arith)) (below (field_at f p))
  where
    below : (y : ℤ) → lt_z (pos n) y ≡ ltb n (nat_or 0 y)
    below (pos m) = refl
    below (negsuc m) = rw (le-ltb n 0 (omega arith))
there_by f p (negsuc n) = refl

-- so many bytes an element that is there lies behind the first
pub element_bytes : (n size : ℕ) → n < 2147483648 → size ≤ 8 → n * size ≤ 17179869184
element_bytes n size h k = let l : n ≤ 2147483648 = omega arith in mul-le-mul {n₂ = 2147483648} {m₂ = 8} l k

-- an element that begins past the bytes
pub past_end : (f : List ℕ) (at t e : ℕ) → length f < at → decoded_of f at t e ≡ Err Nothing
unfolding decoded_of is_nothing
past_end f at t e h =
    let l : end_of f < at + size_in (type_of t) = omega (arith, end_is f) in
    rw (lt-ltb (end_of f) (at + size_in (type_of t)) l, either (eqb (size_in (type_of t)) 0) (eqb (order_in (encoding_of e)) 0))
  where
    either : (a b : Bool) → (a || (b || true)) ≡ true
    either true b = refl
    either false true = refl
    either false false = refl

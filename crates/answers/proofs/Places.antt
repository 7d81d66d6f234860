-- The value that indices give in a record. Assumes nothing.
use mathlib.Core.Path.{◌≡◌}
use mathlib.Core.Bool.{Bool, true, false, cond}
use mathlib.Core.List.{List}
use Prim.Native.Nat.{ℕ, ◌≤◌}
use native.Mathlib.Omega.{arith}
use lib.IntN.{ℤ}
use Rattle.variables.specs.Limit.{capped}
use Rattle.variables.specs.Place.{element_place, placed, place_of}
use Rattle.variables.specs.declared.vdr.Layout.{Layout}
use Rattle.std.specs.Prelude.{Some, None}

capped_small : (n : ℕ) → capped n ≤ 2147483648
unfolding capped
capped_small n = omega arith

-- a place is told up to 2,147,483,648
pub place_small : (f : List ℕ) (l : Layout) (row : Bool) (is : List ℤ) (n : ℕ) → Some n ≡ place_of f l row is → n ≤ 2147483648
unfolding place_of
place_small f l row is n e = go (placed f l is) e
  where
    m : ℕ
    m = element_place f l row is

    go : (b : Bool) → Some n ≡ cond b (Some (capped m)) None → n ≤ 2147483648
    go true e = let same : n ≡ capped m = cc in omega (arith, capped_small m)
    go false e = absurd (let z : ◌≡◌ {A = ℕ} 0 1 = cc in omega arith)

-- The place of an element, dimension by dimension. Assumes nothing.
use mathlib.Core.Path.{◌≡◌, refl, sym}
use mathlib.Core.Bool.{Bool, true, false}
use mathlib.Core.List.{List}
use Prim.Native.Nat.{ℕ, ◌+◌, ◌-◌, ◌*◌, ◌≤◌}
use native.Mathlib.Numerals.{add-one}
use native.Mathlib.Omega.{arith}
use lib.Dec.{leb}
use lib.ListN.{length}
use borrow.Author.Tests.{le-leb, lt-leb, leb-true, leb-false}
use Rattle.format.specs.Fields.{end_of}
use Rattle.format.proofs.FieldRanges.{end_is}
use Rattle.variables.specs.Limit.{capped}
use Rattle.variables.specs.Place.{slower, moved, place_after, row_fits}
use Rattle.variables.proofs.Capped.{capped_on}

-- a sum that lies in e, tested without making it
pub leb_left : (p m e : ℕ) → m ≤ e → leb p (e - m) ≡ leb (p + m) e
leb_left p m e h = go (leb p (e - m)) refl
  where
    go : (t : Bool) → leb p (e - m) ≡ t → t ≡ leb (p + m) e
    go true q = sym (le-leb (p + m) e (omega (arith, leb-true p (e - m) q)))
    go false q = sym (lt-leb (p + m) e (omega (arith, leb-false p (e - m) q)))

pub row_in : (f : List ℕ) (p n : ℕ) → row_fits f p n ≡ true → p + 4 * n ≤ length f
unfolding row_fits
row_in f p n e = omega (arith, leb-true (p + 4 * n) (end_of f) e, end_is f)

capped_moved : (varies : Bool) (size index place : ℕ) → capped (moved varies size index (capped place)) ≡ capped (moved varies size index place)
unfolding capped
capped_moved true size index place = capped_on place size index
capped_moved false size index place = omega arith

module _ (row : Bool) (n : ℕ) (size : ℕ → ℕ) (varies : ℕ → Bool) (index : ℕ → ℕ) (j d p : ℕ) where
  pub place_more : d ≡ slower row n j → p ≡ capped (place_after row n size varies index j) → capped (moved (varies d) (size d) (index d) p) ≡ capped (place_after row n size varies index (j + 1))
  unfolding place_after
  place_more e h = rw (e, h, add-one) (capped_moved (varies (slower row n j)) (size (slower row n j)) (index (slower row n j)) (place_after row n size varies index j))

-- The end of the bytes that are lent, and the ranges of fields. Assumes nothing.
use mathlib.Core.Path.{◌≡◌, refl, ap}
use mathlib.Core.Bool.{Bool, true, false, cond}
use mathlib.Core.List.{List}
use Prim.Native.Nat.{ℕ, ◌^◌, ◌≤◌, ◌<◌}
use native.Mathlib.Omega.{arith}
use lib.Dec.{ltb, leb}
use lib.ListN.{length}
use borrow.Author.Tests.{ltb-true}
use lib.IntN.{ℤ, pos, negsuc}
use lib.Signed.{le_z}
use Rattle.format.specs.Bytes.{big_at, signed_of}
use Rattle.format.specs.Fields.{end_of, field_at, is_at, at_least, nat_or, nat_at, after_at, link_at}
use Rattle.format.proofs.SignedTests.{eq_z_true}
use Rattle.format.proofs.Tests.{cond_keeps}

module _ (f : List ℕ) where
  -- the end is the length
  pub end_is : end_of f ≡ length f
  unfolding end_of
  end_is = refl

  pub end_within : end_of f ≤ length f
  unfolding end_of
  end_within = omega arith

  pub within_end : length f ≤ end_of f
  unfolding end_of
  within_end = omega arith

-- ---- fields are below 2 ^ 31
small_nat : (k n : ℕ) → k < 2147483648 → nat_or k (signed_of 31 n) < 2147483648
small_nat k n h = go (ltb n (2 ^ 31)) _ refl
  where
    go : (b : Bool) (m : ℕ) → ltb n (2 ^ 31) ≡ b → nat_or k (cond b (pos n) (negsuc m)) < 2147483648
    go true m e = ltb-true n (2 ^ 31) e
    go false m e = h

module _ (f : List ℕ) where
  pub nat_small : (p : ℕ) → nat_at f p < 2147483648
  unfolding nat_at field_at
  nat_small p = small_nat 0 (big_at f p 4) (omega arith)

  pub link_small : (p : ℕ) → link_at f p < 2147483648
  unfolding link_at field_at
  link_small p = small_nat 1 (big_at f p 4) (omega arith)

  pub after_small : (p : ℕ) → after_at f p ≤ 2147483648
  unfolding after_at
  after_small p = cond_keeps (λ (n : ℕ). n ≤ 2147483648) (at_least f p (pos 0)) (omega (arith, nat_small p)) (omega arith)

  -- a field is 1 or more exactly if it is so as a natural number
  pub some_is : (p : ℕ) → at_least f p (pos 1) ≡ leb 1 (nat_at f p)
  unfolding at_least nat_at
  some_is p = go (field_at f p)
    where
      go : (x : ℤ) → le_z (pos 1) x ≡ leb 1 (nat_or 0 x)
      go (pos n) = refl
      go (negsuc n) = refl

  -- a field that is n is below 2 ^ 31
  pub num_small : (p n : ℕ) → is_at f p (pos n) ≡ true → n ≤ 2147483647
  unfolding is_at nat_at
  num_small p n e =
      let z : nat_at f p ≡ n = ap (nat_or 0) (eq_z_true (field_at f p) (pos n) e) in
      omega (arith, nat_small p)

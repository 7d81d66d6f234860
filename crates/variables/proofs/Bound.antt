-- The place of right indices lies below the number of values that the varying dimensions make. Assumes nothing.
use mathlib.Core.Path.{◌≡◌, refl, sym}
use mathlib.Core.Bool.{Bool, true, false, cond, true≢false}
use mathlib.Core.List.{List}
use Prim.Native.Nat.{ℕ, zero, suc, ◌+◌, ◌*◌, ◌≤◌, ◌<◌}
use native.Mathlib.Nat.{mul-one, mul-zero, mul-le-mul_right, suc-mul, add-zero}
use native.Mathlib.Omega.{arith}
use borrow.Author.Count.{below_more}
use borrow.Author.Tests.{ltb-true}
use lib.ListN.{get_or}
use lib.IntN.{ℤ, pos, negsuc}
use lib.Signed.{le_z, lt_z}
use Rattle.format.specs.Fields.{nat_or}
use Rattle.format.proofs.Tests.{both}
use Rattle.variables.specs.declared.vdr.Layout.{Layout}
use Rattle.variables.specs.Limit.{capped}
use Rattle.variables.specs.Vdr.{factor_of, values_per_record}
use Rattle.variables.specs.Place.{slower, moved, place_after, size_of, varies_of, index_of, element_place, index_right, indices_right}
use Rattle.variables.proofs.Capped.{capped_small}
use Rattle.variables.proofs.Product.{product, product_same, product_first, product_back}

index_in : (i : ℤ) (size : ℕ) → index_right i size ≡ true → nat_or 0 i < size
index_in (pos a) size e = ltb-true a size (both (le_z (pos 0) (pos a)) (lt_z (pos a) (pos size)) e).1
index_in (negsuc a) size e = absurd (true≢false (sym e))

-- each of n right indices is below its dimension's size
pub index_below : (f : List ℕ) (p : ℕ) (is : List ℤ) (n : ℕ) → indices_right f p is n ≡ true → (d : ℕ) → d < n → index_of is d < size_of f p d
unfolding indices_right
index_below f p is zero e d h = absurd (omega arith)
index_below f p is (suc n) e d h =
    let here = index_in (get_or is n (pos 0)) (size_of f p n) (both (indices_right f p is n) (index_right (get_or is n (pos 0)) (size_of f p n)) e).1 in
    let rest = index_below f p is n (both (indices_right f p is n) (index_right (get_or is n (pos 0)) (size_of f p n)) e).0 in
    below_more (λ k. index_of is k < size_of f p k) n rest here d (omega arith)

moved_below : (varies : Bool) (size index place count : ℕ) → place < count → index < size → moved varies size index place < count * cond varies size 1
moved_below true size index place count h i =
    let x : suc place * size ≤ count * size = mul-le-mul_right size h in
    omega (arith, suc-mul place size)
moved_below false size index place count h i = rw (mul-one) h

pub slower_below : (row : Bool) (n j : ℕ) → j < n → slower row n j < n
slower_below true n j h = omega arith
slower_below false n j h = omega arith

module _ (row : Bool) (n : ℕ) (size : ℕ → ℕ) (varies : ℕ → Bool) (index : ℕ → ℕ) (right : (d : ℕ) → d < n → index d < size d) where
  after_below : (j : ℕ) → j ≤ n → place_after row n size varies index j < product (λ k. cond (varies (slower row n k)) (size (slower row n k)) 1) j
  unfolding place_after
  after_below zero h = omega arith
  after_below (suc j) h =
      let d = slower row n j in
      moved_below (varies d) (size d) (index d) _ _ (after_below j (omega arith)) (right d (slower_below row n j (omega arith)))

-- a row of dimensions multiplied from its slowest on, in either majority
pub either_way : (row : Bool) (n : ℕ) (g : ℕ → ℕ) → product (λ k. g (slower row n k)) n ≡ product g n
either_way true n g = refl
either_way false n g = product_back g n

pub values_product : (f : List ℕ) (n p q : ℕ) → product (λ d. factor_of f (p + 4 * d) (q + 4 * d)) n ≡ values_per_record f n p q
unfolding values_per_record
values_product f zero p q = refl
values_product f (suc n) p q =
    let next : (a d : ℕ) → a + 4 * suc d ≡ a + 4 + 4 * d = λ a d. omega arith in
    let rest : product (λ d. factor_of f (p + 4 * suc d) (q + 4 * suc d)) n ≡ product (λ d. factor_of f (p + 4 + 4 * d) (q + 4 + 4 * d)) n
    = product_same _ _ n (λ d l. rw (next p d, next q d)) in
    rw (product_first (λ d. factor_of f (p + 4 * d) (q + 4 * d)) n, rest, values_product f n (p + 4) (q + 4), mul-zero, add-zero, add-zero)

module _ (f : List ℕ) (l : Layout) (row : Bool) (is : List ℤ) (right : indices_right f l.sizes is l.count ≡ true) where
  pub place_below : element_place f l row is < values_per_record f l.count l.sizes l.variances
  unfolding element_place factor_of
  place_below =
      rw (← values_product f l.count l.sizes l.variances, ← either_way row l.count (λ d. factor_of f (l.sizes + 4 * d) (l.variances + 4 * d)))
      (after_below row l.count (size_of f l.sizes) (varies_of f l.variances) (index_of is) (index_below f l.sizes is l.count right) l.count (omega arith))

  -- where the record's values can be counted, the place is not capped
  pub place_exact : values_per_record f l.count l.sizes l.variances ≤ 2147483648 → capped (element_place f l row is) ≡ element_place f l row is
  place_exact h = capped_small (element_place f l row is) (omega (arith, place_below))

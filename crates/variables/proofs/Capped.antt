-- Sums and products up to the limit. Assumes nothing.
use mathlib.Core.Path.{◌≡◌, refl, sym, ◌∙◌}
use mathlib.Core.Bool.{Bool, true, false}
use mathlib.Core.List.{List}
use Prim.Native.Nat.{ℕ, zero, suc, ◌+◌, ◌-◌, ◌*◌, ◌≤◌, ◌<◌}
use native.Mathlib.Nat.{mul-le-mul, mul-zero, mul-one, mul_assoc, le_refl, add-zero, sub-zero}
use native.Mathlib.Omega.{arith}
use lib.Dec.{ltb, leb}
use borrow.Author.Tests.{leb-true, leb-false, lt-ltb, le-ltb}
use Rattle.variables.specs.Limit.{capped}
use Rattle.variables.specs.Vdr.{factor_of, values_per_record}

-- numbers up to the limit have a product that 64 bits hold
pub within : (a b : ℕ) → a ≤ 2147483648 → b ≤ 2147483648 → a * b ≤ 4611686018427387904
within a b h k = mul-le-mul {n₂ = 2147483648} {m₂ = 2147483648} h k

pub capped_small : (a : ℕ) → a ≤ 2147483648 → capped a ≡ a
unfolding capped
capped_small a h = omega arith

pub capped_large : (a : ℕ) → 2147483648 ≤ a → capped a ≡ 2147483648
unfolding capped
capped_large a h = omega arith

module _ (n r : ℕ) (e : r ≡ capped n) where
  -- "Above 2,147,483,647"
  pub capped_over : 2147483647 < r → ltb 2147483647 n ≡ true
  unfolding capped
  capped_over h = lt-ltb 2147483647 n (omega arith)

  pub capped_under : r ≤ 2147483647 → ltb 2147483647 n ≡ false
  unfolding capped
  capped_under h = le-ltb 2147483647 n (omega arith)

-- a number that was capped counts on as the number itself
pub capped_on : (a b c : ℕ) → capped (capped a * b + c) ≡ capped (a * b + c)
capped_on a zero c = simp mul-zero
capped_on a (suc b) c = go (leb a 2147483648) refl
  where
    large : (k : ℕ) → 2147483648 ≤ k → capped (k * suc b + c) ≡ 2147483648
    large k h =
        let x : k * 1 ≤ k * suc b = mul-le-mul (le_refl k) (omega arith) in
        capped_large (k * suc b + c) (omega arith)

    go : (t : Bool) → leb a 2147483648 ≡ t → capped (capped a * suc b + c) ≡ capped (a * suc b + c)
    go true e = rw (capped_small a (leb-true a 2147483648 e))
    go false e =
        let h : 2147483648 ≤ a = omega (arith, leb-false a 2147483648 e) in
        rw (capped_large a h) (large 2147483648 (le_refl 2147483648) ∙ sym (large a h))

pub capped_times : (a b : ℕ) → capped (capped a * b) ≡ capped (a * b)
capped_times a b = simp add-zero at (capped_on a b 0)

-- the values that n dimensions make, sizes from p and variances from q on, from dimension d on
abbrev pub values_from : List ℕ → ℕ → ℕ → ℕ → ℕ → ℕ
values_from f n p q d = values_per_record f (n - d) (p + 4 * d) (q + 4 * d)

module _ (f : List ℕ) (n p q : ℕ) where
  pub values_all : (a : ℕ) → capped (capped a * values_from f n p q 0) ≡ capped (a * values_per_record f n p q)
  values_all a = capped_times a _ ∙ rw (mul-zero, add-zero, add-zero, sub-zero)

  module _ (d a : ℕ) where
    -- dimension d, and the rest
    pub values_more : d < n → capped (capped (a * factor_of f (p + 4 * d) (q + 4 * d)) * values_from f n p q (d + 1)) ≡ capped (a * values_from f n p q d)
    unfolding values_per_record
    values_more h =
        let up : n - d ≡ suc (n - (d + 1)) = omega arith in
        let next : (k : ℕ) → k + 4 * (d + 1) ≡ k + 4 * d + 4 = λ k. omega arith in
        capped_times (a * factor_of f (p + 4 * d) (q + 4 * d)) _ ∙ rw (up, next p, next q, mul_assoc)

    pub values_none : a ≤ 2147483648 → n ≤ d → capped (a * values_from f n p q d) ≡ a
    unfolding values_per_record
    values_none h e = let z : n - d ≡ 0 = omega arith in rw (z, mul-one) (capped_small a h)

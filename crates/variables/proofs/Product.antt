-- Products of the first n of a row of numbers. Assumes nothing.
use mathlib.Core.Path.{◌≡◌, refl, ap}
use Prim.Native.Nat.{ℕ, zero, suc, ◌-◌, ◌*◌, ◌<◌}
use native.Mathlib.Nat.{mul_comm, mul_assoc, sub_self}
use native.Mathlib.Omega.{arith}

abbrev pub product : (ℕ → ℕ) → ℕ → ℕ
product g zero = 1
product g (suc n) = product g n * g n

pub product_same : (g h : ℕ → ℕ) (n : ℕ) → ((k : ℕ) → k < n → g k ≡ h k) → product g n ≡ product h n
product_same g h zero e = refl
product_same g h (suc n) e = rw (product_same g h n (λ k l. e k (omega arith)), e n (omega arith))

-- the first number, and the rest
pub product_first : (g : ℕ → ℕ) (n : ℕ) → product g (suc n) ≡ g 0 * product (λ k. g (suc k)) n
product_first g zero = mul_comm 1 (g 0)
product_first g (suc n) = rw (product_first g n) (mul_assoc (g 0) (product (λ k. g (suc k)) n) (g (suc n)))

-- a row read backwards
pub product_back : (g : ℕ → ℕ) (n : ℕ) → product (λ k. g (n - suc k)) n ≡ product g n
product_back g zero = refl
product_back g (suc n) =
    let up : (k : ℕ) → k < n → suc n - suc k ≡ suc (n - suc k) = λ k l. omega arith in
    let rest : product (λ k. g (suc n - suc k)) n ≡ product (λ k. g (suc (n - suc k))) n = product_same _ _ n (λ k l. ap g (up k l)) in
    rw (rest, product_back (λ k. g (suc k)) n, sub_self, product_first g n) (mul_comm _ (g 0))

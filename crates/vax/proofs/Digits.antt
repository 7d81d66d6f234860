-- The first digits of a number, rounded: how many there are, and that they are the nearest. Once for every width w and number p of digits kept. Assumes nothing.
use Prim.Native.Nat.{ℕ, suc, ◌+◌, ◌-◌, ◌*◌, ◌/◌, ◌^◌, ◌≤◌, ◌<◌}
use mathlib.Core.Path.{◌≡◌, refl, sym, ap, ◌∙◌}
use mathlib.Core.Bool.{Bool, true, false, cond}
use native.Mathlib.Nat.{le_trans, le_of_eq, lt_of_lt_of_le, le_of_lt, mul_assoc, mul_comm, mul-le-mul_right, div-lt_iff_lt-mul, le-div_iff_mul-le}
use native.Mathlib.Omega.{arith}
use lib.Dec.{ltb}
use lib.Pow.{pow-add, pow_pos}
use borrow.Author.Tests.{ltb-true, ltb-false}
use Rattle.vax.specs.Rounding.{nearest_of, kept_of}
use Rattle.vax.proofs.Whole.{Best, nearest_best, nearest_ge, nearest_le, exact_best, scale_best}

-- 2 ^ i * 2 ^ j is 2 ^ n, for n = i + j
pub joined : (i j n : ℕ) → n ≡ i + j → 2 ^ i * 2 ^ j ≡ 2 ^ n
joined i j n e = sym (ap (λ (z : ℕ). 2 ^ z) e ∙ pow-add 2 i j)

pub kept_le : (w p n : ℕ) → n < 2 ^ (w + 1) → kept_of w p n ≤ 2 ^ p
unfolding kept_of
kept_le w p n h = go (ltb w p) refl
  where
    go : (b : Bool) → ltb w p ≡ b → cond b (n * 2 ^ (p - (w + 1))) (nearest_of n (2 ^ (w + 1 - p))) ≤ 2 ^ p
    go true e =
        let l : w < p = ltb-true w p e in
        le_trans (mul-le-mul_right (2 ^ (p - (w + 1))) (le_of_lt h)) (le_of_eq (joined (w + 1) (p - (w + 1)) p (omega arith)))
    go false e =
        let l : p ≤ w = ltb-false w p e in
        let k : n < 2 ^ p * 2 ^ (w + 1 - p) = lt_of_lt_of_le h (le_of_eq (sym (joined p (w + 1 - p) (w + 1) (omega arith)))) in
        let m : n / 2 ^ (w + 1 - p) < 2 ^ p = (div-lt_iff_lt-mul (pow_pos (w + 1 - p))).1 k in
        le_trans (nearest_le n (2 ^ (w + 1 - p))) (omega arith)

pub kept_ge : (w p n : ℕ) → 2 ^ w ≤ n → 2 ^ p ≤ kept_of w (suc p) n
unfolding kept_of
kept_ge w p n h = go (ltb w (suc p)) refl
  where
    go : (b : Bool) → ltb w (suc p) ≡ b → 2 ^ p ≤ cond b (n * 2 ^ (suc p - (w + 1))) (nearest_of n (2 ^ (w + 1 - suc p)))
    go true e =
        let l : w < suc p = ltb-true w (suc p) e in
        le_trans (le_of_eq (sym (joined w (suc p - (w + 1)) p (omega arith)))) (mul-le-mul_right (2 ^ (suc p - (w + 1))) h)
    go false e =
        let l : suc p ≤ w = ltb-false w (suc p) e in
        le_trans
        ((le-div_iff_mul-le (pow_pos (w + 1 - suc p))).1 (le_trans (le_of_eq (joined p (w + 1 - suc p) w (omega arith))) h))
        (nearest_ge n (2 ^ (w + 1 - suc p)))

-- n * 2 ^ e * 2 ^ l, in steps of 2 ^ (w + 1 + b) * 2 ^ k: the p digits kept are the nearest, for e + l = p + k + b
pub kept_best : (w p k b e l n : ℕ) → e + l ≡ p + k + b → Best (n * 2 ^ e * 2 ^ l) (2 ^ (w + 1 + b) * 2 ^ k) (kept_of w p n)
unfolding kept_of
kept_best w p k b e l n h = go (ltb w p) refl
  where
    whole : n * 2 ^ e * 2 ^ l ≡ n * 2 ^ (p + k + b)
    whole = mul_assoc n (2 ^ e) (2 ^ l) ∙ ap (λ (z : ℕ). n * z) (joined e l (p + k + b) (sym h))

    unit : 2 ^ (w + 1 + b) * 2 ^ k ≡ 2 ^ (w + 1 + b + k)
    unit = joined (w + 1 + b) k (w + 1 + b + k) refl

    go : (c : Bool) → ltb w p ≡ c → Best (n * 2 ^ e * 2 ^ l) (2 ^ (w + 1 + b) * 2 ^ k) (cond c (n * 2 ^ (p - (w + 1))) (nearest_of n (2 ^ (w + 1 - p))))
    go true g =
        let i : w < p = ltb-true w p g in
        let q = n * 2 ^ (p - (w + 1)) in
        let same : q * 2 ^ (w + 1 + b + k) ≡ n * 2 ^ (p + k + b) =
        mul_assoc n (2 ^ (p - (w + 1))) (2 ^ (w + 1 + b + k)) ∙ ap (λ (z : ℕ). n * z) (joined (p - (w + 1)) (w + 1 + b + k) (p + k + b) (omega arith)) in
        rw (whole ∙ sym same, unit) (exact_best q (2 ^ (w + 1 + b + k)) (pow_pos (w + 1 + b + k)))
    go false g =
        let i : p ≤ w = ltb-false w p g in
        let c = 2 ^ (p + k + b) in
        let d : 2 ^ (w + 1 + b) * 2 ^ k ≡ c * 2 ^ (w + 1 - p) = unit ∙ sym (joined (p + k + b) (w + 1 - p) (w + 1 + b + k) (omega arith)) in
        rw (whole ∙ mul_comm n c, d) (scale_best n (2 ^ (w + 1 - p)) (nearest_of n (2 ^ (w + 1 - p))) c (pow_pos (p + k + b)) (nearest_best n (2 ^ (w + 1 - p)) (pow_pos (w + 1 - p))))

-- where all digits are kept nothing is lost
pub kept_all : (w p k b e l n : ℕ) → w < p → e + l ≡ p + k + b → kept_of w p n * 2 ^ k * 2 ^ (w + 1 + b) ≡ n * 2 ^ e * 2 ^ l
unfolding kept_of
kept_all w p k b e l n i h = go (ltb w p) refl
  where
    go : (c : Bool) → ltb w p ≡ c → cond c (n * 2 ^ (p - (w + 1))) (nearest_of n (2 ^ (w + 1 - p))) * 2 ^ k * 2 ^ (w + 1 + b) ≡ n * 2 ^ e * 2 ^ l
    go true g =
        mul_assoc (n * 2 ^ (p - (w + 1))) (2 ^ k) (2 ^ (w + 1 + b))
        ∙ mul_assoc n (2 ^ (p - (w + 1))) (2 ^ k * 2 ^ (w + 1 + b))
        ∙ ap (λ (z : ℕ). n * z)
        (ap (λ (z : ℕ). 2 ^ (p - (w + 1)) * z) (joined k (w + 1 + b) (k + (w + 1 + b)) refl)
        ∙ joined (p - (w + 1)) (k + (w + 1 + b)) (e + l) (omega arith)
        ∙ sym (joined e l (e + l) refl))
        ∙ sym (mul_assoc n (2 ^ e) (2 ^ l))
    go false g = absurd (omega (arith, ltb-false w p g))

-- What the functions need of machine numbers: they fit. Assumes nothing.
use Prim.Native.Nat.{ℕ, zero, suc, ◌+◌, ◌-◌, ◌*◌, ◌/◌, ◌%◌, ◌^◌, ◌≤◌, ◌<◌}
use mathlib.Core.Path.{◌≡◌, sym, ap, ◌∙◌, subst}
use native.Mathlib.Nat.{le_trans, le_of_lt, pow-suc, lt_irrefl, zero-add}
use native.Mathlib.Omega.{arith}
use lib.Pow.{pow_mono, shl_lt}
use mathlib.Core.Bool.{cond}
use lib.Dec.{leb, eqb}
use borrow.Author.Tests.{le-leb, lt-leb, eq-eqb, ne_eqb}
use Rattle.std.specs.Prelude.{Some, None}
use Rattle.vax.specs.Bounds.{DigitsFit}
use Rattle.vax.specs.Rounding.{kept_of, size_of, with_sign, vax_of}
use Rattle.vax.specs.Words.{vax_in}
use Rattle.vax.proofs.Digits.{kept_le}

-- a power of two and its half
pub halved : (k h : ℕ) → 0 < k → h ≡ 2 ^ (k - 1) → 2 ^ k ≡ h + h
halved zero h l e = absurd (lt_irrefl 0 l)
halved (suc k) h l e = pow-suc 2 k ∙ double (2 ^ k) h (e ∙ ap (λ (z : ℕ). 2 ^ z) (fit k))
  where
    fit : (k : ℕ) → suc k - 1 ≡ k
    fit k = omega arith

    double : (x y : ℕ) → y ≡ x → x * 2 ≡ y + y
    double x y e = omega arith

-- n of w + 1 digits, with zeros behind it up to p digits
pub shifted_fits : (w p n : ℕ) → w < p → n < 2 ^ (w + 1) → n * 2 ^ (p - (w + 1)) < 2 ^ p
shifted_fits w p n l h = subst (λ (z : ℕ). n * 2 ^ (p - (w + 1)) < 2 ^ z) (fit w p l) (shl_lt (w + 1) (p - (w + 1)) h)
  where
    fit : (w p : ℕ) → w < p → w + 1 + (p - (w + 1)) ≡ p
    fit w p l = omega arith

module _ {w n p : ℕ} (d : DigitsFit w n) (places : p ≤ 53) where
  pub kept_53 : kept_of w p n ≤ 2 ^ 53
  kept_53 = le_trans (kept_le w p n d.digits) (pow_mono places)

  pub product_fits : w < p → {r : ℕ} → r ≡ 2 ^ (p - (w + 1)) → n * r ≤ 2 ^ 53
  product_fits l e = subst (λ (z : ℕ). n * z ≤ 2 ^ 53) (sym e) (le_trans (le_of_lt (shifted_fits w p n l d.digits)) (pow_mono places))

-- ---- the fields of one number: an exponent of x bits, and a mantissa of w bits below the leading digit
module _ (raw u v w x b : ℕ) (e : u ≡ 2 ^ w) (f : v ≡ 2 ^ x) where
  vax_in_lem : vax_in w x b raw
      ≡ cond (eqb (raw / u % v) 0) (cond (leb v (raw / u)) None (Some 0))
      (Some (with_sign (leb v (raw / u)) (size_of w (raw / u % v + 1074 - b) (u + raw % u))))
  unfolding vax_in vax_of
  vax_in_lem = rw (e, f)

  pub reserved_in : raw / u % v ≡ 0 → v ≤ raw / u → None ≡ vax_in w x b raw
  reserved_in z l = sym (vax_in_lem ∙ rw (eq-eqb (raw / u % v) 0 z, le-leb v (raw / u) l))

  pub zero_in : raw / u % v ≡ 0 → raw / u < v → Some 0 ≡ vax_in w x b raw
  zero_in z l = sym (vax_in_lem ∙ rw (eq-eqb (raw / u % v) 0 z, lt-leb v (raw / u) l))

  -- p places and the number n, and the bits r for them
  module _ (p n r : ℕ) (z : raw / u % v ≡ 0 → ⊥) (places : p ≡ raw / u % v + 1074 - b) (number : n ≡ u + raw % u) (bits : r ≡ size_of w p n) where
    bits_are : size_of w (raw / u % v + 1074 - b) (u + raw % u) ≡ r
    bits_are = ap (λ (p : ℕ). size_of w p (u + raw % u)) (sym places) ∙ ap (λ (n : ℕ). size_of w p n) (sym number) ∙ sym bits

    pub negative_in : v ≤ raw / u → Some (2 ^ 63 + r) ≡ vax_in w x b raw
    negative_in l = sym (vax_in_lem ∙ rw (ne_eqb (raw / u % v) 0 z, le-leb v (raw / u) l, bits_are))

    pub positive_in : raw / u < v → Some r ≡ vax_in w x b raw
    positive_in l = sym (vax_in_lem ∙ rw (ne_eqb (raw / u % v) 0 z, lt-leb v (raw / u) l, bits_are, zero-add))

-- The definition of the double for a VAX float gives the nearest double, ties to an even last bit: once over the width w of the mantissa and the offset b of the
-- exponent; and it is the VAX value itself where the double keeps all its digits. Assumes nothing.
use Prim.Native.Nat.{ℕ, suc, ◌+◌, ◌*◌, ◌/◌, ◌%◌, ◌^◌, ◌≤◌, ◌<◌}
use mathlib.Core.Path.{◌≡◌, refl, sym, ap, ◌∙◌, subst}
use mathlib.Core.Logic.{inl, inr}
use mathlib.Core.Bool.{Bool, true, false}
use native.Mathlib.Nat.{le_trans, le_of_eq, le_antisymm, lt_irrefl, mul_assoc, mul-le-mul_right, mod-lt}
use native.Mathlib.Omega.{arith}
use lib.Dec.{ltb}
use lib.Pow.{pow_pos, pow_mono}
use borrow.Author.Tests.{ltb-true, ltb-false, leb-true, leb-false, le-leb, lt-leb}
use Rattle.vax.specs.Doubles.{sign_of, field_of, digits_of, units_by, units_of, Finite, between, distance, Nearest, Equal}
use Rattle.vax.specs.Rounding.{kept_of, with_sign}
use Rattle.vax.proofs.Grid.{made, units_lt, near, tie}
use Rattle.vax.proofs.Digits.{joined, kept_le, kept_ge, kept_best, kept_all}

-- ---- bits below 2047 * 2 ^ 52 with a sign are a finite double's
module _ (n : ℕ) (small : n < 2047 * 2 ^ 52) where
  plus_field : field_of (0 + n) ≡ n / 2 ^ 52
  plus_field = omega arith

  minus_field : field_of (2 ^ 63 + n) ≡ n / 2 ^ 52
  minus_field = omega arith

  pub sign_is : (s : Bool) → sign_of (with_sign s n) ≡ s
  sign_is true = le-leb (2 ^ 63) (2 ^ 63 + n) (omega arith)
  sign_is false = lt-leb (2 ^ 63) (0 + n) (omega arith)

  pub field_is : (s : Bool) → field_of (with_sign s n) ≡ n / 2 ^ 52
  field_is true = minus_field
  field_is false = plus_field

  pub digits_are : (s : Bool) → digits_of (with_sign s n) ≡ n % 2 ^ 52
  digits_are true = omega arith
  digits_are false = omega arith

  pub finite : (s : Bool) → Finite (with_sign s n)
  finite true = record { width = omega arith; field = omega (arith, minus_field) }
  finite false = record { width = omega arith; field = omega (arith, plus_field) }

  pub units_are : (s : Bool) → units_of (with_sign s n) ≡ units_by 52 (n / 2 ^ 52) (n % 2 ^ 52)
  unfolding units_of
  units_are s = ap (λ (z : ℕ). units_by 52 z (digits_of (with_sign s n))) (field_is s) ∙ ap (λ (z : ℕ). units_by 52 (n / 2 ^ 52) z) (digits_are s)

pub even_with : (s : Bool) (n : ℕ) → n % 2 ≡ 0 → with_sign s n % 2 ≡ 0
even_with true n h = omega arith
even_with false n h = omega arith

-- ---- doubles of one sign stand in the order of their bits
rest : (a : ℕ) → a % 2 ^ 63 ≡ field_of a * 2 ^ 52 + digits_of a
rest a = omega arith

above : (a : ℕ) → a < 2 ^ 64 → 2 ^ 63 ≤ a → a ≡ 2 ^ 63 + a % 2 ^ 63
above a h l = omega arith

under : (a : ℕ) → a < 2 ^ 63 → a ≡ a % 2 ^ 63
under a h = omega arith

-- the bits but for the sign, of two with one sign
pub low_lt : (a b : ℕ) → a < 2 ^ 64 → b < 2 ^ 64 → sign_of a ≡ sign_of b → a < b → a % 2 ^ 63 < b % 2 ^ 63
low_lt a b A B s l = go (sign_of a) refl (sym s)
  where
    go : (x : Bool) → sign_of a ≡ x → sign_of b ≡ x → a % 2 ^ 63 < b % 2 ^ 63
    go true p q = omega (arith, above a A (leb-true (2 ^ 63) a p), above b B (leb-true (2 ^ 63) b q))
    go false p q = omega (arith, under a (leb-false (2 ^ 63) a p), under b (leb-false (2 ^ 63) b q))

pub size_lt : (a b : ℕ) → Finite a → Finite b → sign_of a ≡ sign_of b → a < b → units_of a < units_of b
unfolding units_of
size_lt a b A B s l =
    units_lt 52 (field_of a) (field_of b) (digits_of a) (digits_of b) (mod-lt a (pow_pos 52)) (mod-lt b (pow_pos 52))
    (subst (λ (z : ℕ). z < field_of b * 2 ^ 52 + digits_of b) (rest a) (subst (λ (z : ℕ). a % 2 ^ 63 < z) (rest b) (low_lt a b A.width B.width s l)))

pub same_double : (a b : ℕ) → Finite a → Finite b → sign_of a ≡ sign_of b → units_of a ≡ units_of b → a ≡ b
same_double a b A B s u = go (ltb a b) refl (ltb b a) refl
  where
    go : (x : Bool) → ltb a b ≡ x → (y : Bool) → ltb b a ≡ y → a ≡ b
    go true p y q = absurd (lt_irrefl (units_of b) (subst (λ (z : ℕ). z < units_of b) u (size_lt a b A B s (ltb-true a b p))))
    go false p true q = absurd (lt_irrefl (units_of b) (subst (λ (z : ℕ). units_of b < z) u (size_lt b a B A (sym s) (ltb-true b a q))))
    go false p false q = le_antisymm (ltb-false b a q) (ltb-false a b p)

-- ---- where digits are dropped before the point, the number is 2 ^ p * 2 ^ k units at least
pub high_enough : (w b e l k p n : ℕ) → e + l ≡ suc p + k + b → 2 ^ w ≤ n → 2 ^ p * 2 ^ k * 2 ^ (w + 1 + b) ≤ n * 2 ^ e * 2 ^ l
high_enough w b e l k p n h g =
    le_trans
    (le_of_eq
    (ap (λ (z : ℕ). z * 2 ^ (w + 1 + b)) (joined p k (p + k) refl)
    ∙ joined (p + k) (w + 1 + b) (w + (e + l)) (omega arith)
    ∙ sym (joined w (e + l) (w + (e + l)) refl)))
    (le_trans (mul-le-mul_right (2 ^ (e + l)) g) (le_of_eq (ap (λ (z : ℕ). n * z) (sym (joined e l (e + l) refl)) ∙ sym (mul_assoc n (2 ^ e) (2 ^ l)))))

-- ---- n * 2 ^ e / 2 ^ (w + 1 + b), with p digits kept and k dropped before the point
module _ (w b e n p k : ℕ) (balance : e + 1074 ≡ p + k + b) (fits : n < 2 ^ (w + 1)) (lead : 2 ^ w ≤ n) (few : p ≤ 53) (all : 0 < k → p ≡ 53) (bound : k ≤ 2044) where
  q_le : kept_of w p n ≤ 2 ^ 52 + 2 ^ 52
  q_le = le_trans (kept_le w p n fits) (pow_mono few)

  q_ge : 0 < k → 2 ^ 52 ≤ kept_of w p n
  q_ge K = subst (λ (z : ℕ). 2 ^ 52 ≤ kept_of w z n) (sym (all K)) (kept_ge w 52 n lead)

  below_inf : (q : ℕ) → q ≤ 2 ^ 52 + 2 ^ 52 → k * 2 ^ 52 + q < 2047 * 2 ^ 52
  below_inf q h = omega arith

  pub small : k * 2 ^ 52 + kept_of w p n < 2047 * 2 ^ 52
  small = below_inf (kept_of w p n) q_le

  high : 0 < k → 2 ^ 52 * 2 ^ k * 2 ^ (w + 1 + b) ≤ n * 2 ^ e * 2 ^ 1074
  high K = high_enough w b e 1074 k 52 n (balance ∙ ap (λ (z : ℕ). z + k + b) (all K)) lead

  pub units : (s : Bool) → units_of (with_sign s (k * 2 ^ 52 + kept_of w p n)) ≡ kept_of w p n * 2 ^ k
  units s = units_are (k * 2 ^ 52 + kept_of w p n) small s ∙ made 52 k (kept_of w p n) q_le q_ge

  pub is_nearest : (s : Bool) → Nearest s (n * 2 ^ e) (2 ^ (w + 1 + b)) (with_sign s (k * 2 ^ 52 + kept_of w p n))
  unfolding distance units_of
  is_nearest s =
      let r = with_sign s (k * 2 ^ 52 + kept_of w p n) in
      let q = kept_of w p n in
      let a = n * 2 ^ e * 2 ^ 1074 in
      let d = 2 ^ (w + 1 + b) in
      let best = kept_best w p k b e 1074 n balance in
      let here : distance s (n * 2 ^ e) d r ≡ between s a s (q * 2 ^ k * d) =
      ap (λ (z : Bool). between s a z (units_of r * d)) (sign_is (k * 2 ^ 52 + q) small s) ∙ ap (λ (z : ℕ). between s a s (z * d)) (units s) in
      record {
        finite = finite (k * 2 ^ 52 + q) small s;
        closest = λ m F. subst (λ (z : ℕ). z ≤ distance s (n * 2 ^ e) d m) (sym here) (near 52 k a d q (pow_pos (w + 1 + b)) best high s (sign_of m) (field_of m) (digits_of m) (mod-lt m (pow_pos 52)));
        even = λ m F ne eq. elim (tie 52 k a d q (pow_pos (w + 1 + b)) best high s (sign_of m) (field_of m) (digits_of m) (mod-lt m (pow_pos 52)) (eq ∙ here)) [
          | inl z ↦ absurd (ne (same_double m r F (finite (k * 2 ^ 52 + q) small s) (sym (sign_is (k * 2 ^ 52 + q) small s ∙ z.0)) (z.1 ∙ sym (units s))))
          | inr z ↦ even_with s (k * 2 ^ 52 + q) (even_sum k q z)
        ];
      }
    where
      even_sum : (k q : ℕ) → q % 2 ≡ 0 → (k * 2 ^ 52 + q) % 2 ≡ 0
      even_sum k q h = omega arith

  pub is_equal : w < p → (s : Bool) → Equal s (n * 2 ^ e) (2 ^ (w + 1 + b)) (with_sign s (k * 2 ^ 52 + kept_of w p n))
  is_equal l s = record {
    finite = finite (k * 2 ^ 52 + kept_of w p n) small s;
    sign = sign_is (k * 2 ^ 52 + kept_of w p n) small s;
    size = ap (λ (z : ℕ). z * 2 ^ (w + 1 + b)) (units s) ∙ kept_all w p k b e 1074 n l balance;
  }

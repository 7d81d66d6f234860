-- Only one double is the nearest, with ties to an even last bit, to a value that is more than half of the smallest double. Assumes nothing.
use Prim.Native.Nat.{ℕ, zero, suc, ◌+◌, ◌*◌, ◌/◌, ◌%◌, ◌^◌, ◌≤◌, ◌<◌}
use mathlib.Core.Path.{◌≡◌, refl, sym, ap, ◌∙◌, subst}
use mathlib.Core.Bool.{Bool, true, false}
use native.Mathlib.Nat.{le_trans, le_of_eq, lt_of_lt_of_le, lt_of_le_of_lt, le_antisymm, lt_irrefl, one-mul, mul-le-mul_right, mul-lt-mul_of_pos_right}
use native.Mathlib.Omega.{arith}
use lib.Dec.{ltb}
use lib.Pow.{pow_pos, pow-lt}
use borrow.Author.Tests.{ltb-true, ltb-false, leb-true, leb-false, le-leb, lt-leb}
use Rattle.std.specs.Prelude.{Some}
use Rattle.vax.specs.Doubles.{sign_of, field_of, units_of, units_by, Finite, apart, between, distance, Nearest}
use Rattle.vax.specs.Vax.{num_of, den_of, Holds}
use Rattle.vax.specs.Rounding.{with_sign}
use Rattle.vax.proofs.Digits.{joined}
use Rattle.vax.proofs.Rounded.{finite, sign_is, units_are, low_lt, size_lt}

-- ---- distances to x < y that are equal: the value stands in the middle, and what stands between x and y is nearer
middle : (a x y z : ℕ) → x < z → z < y → apart a x ≡ apart a y → apart a z < apart a x
middle a x y z l m e = omega arith

-- ---- the smallest double of a sign
module _ (s : Bool) where
  abbrev least : ℕ
  least = with_sign s 1

  least_finite : Finite least
  least_finite = finite 1 (omega arith) s

  least_units : units_of least ≡ 1
  unfolding units_by
  least_units = units_are 1 (omega arith) s

module _ (s : Bool) (num den : ℕ) (some : 0 < den) (enough : den < num * 2 ^ 1074 * 2) where
  -- ---- the nearest has the value's sign
  least_near : distance s num den (least s) < num * 2 ^ 1074
  unfolding distance
  least_near = rw (sign_is 1 (omega arith) s, least_units s, one-mul den) (go s (num * 2 ^ 1074) enough)
    where
      go : (s : Bool) (a : ℕ) → den < a * 2 → between s a s den < a
      go true a e = omega arith
      go false a e = omega arith

  same_sign : (r : ℕ) → Nearest s num den r → sign_of r ≡ s
  unfolding distance
  same_sign r R = go s (sign_of r) (num * 2 ^ 1074) (units_of r * den) (lt_of_le_of_lt (R.closest (least s) (least_finite s)) least_near)
    where
      go : (s t : Bool) (a b : ℕ) → between s a t b < a → t ≡ s
      go true true a b l = refl
      go false false a b l = refl
      go true false a b l = absurd (omega arith)
      go false true a b l = absurd (omega arith)

  -- ---- the distance of a double of that sign
  apart_from : (n : ℕ) → sign_of n ≡ s → distance s num den n ≡ apart (num * 2 ^ 1074) (units_of n * den)
  unfolding distance
  apart_from n e = ap (λ (t : Bool). between s (num * 2 ^ 1074) t (units_of n * den)) e ∙ same s
    where
      same : (s : Bool) → between s (num * 2 ^ 1074) s (units_of n * den) ≡ apart (num * 2 ^ 1074) (units_of n * den)
      same true = refl
      same false = refl

  farther : (m n : ℕ) → Finite m → Finite n → sign_of m ≡ s → sign_of n ≡ s → m < n → units_of m * den < units_of n * den
  farther m n M N p q l = mul-lt-mul_of_pos_right (size_lt m n M N (p ∙ sym q) l) some

  -- ---- of two, neither is less
  module _ (r q : ℕ) (R : Nearest s num den r) (Q : Nearest s num den q) (less : r < q) where
    r_sign : sign_of r ≡ s
    r_sign = same_sign r R

    q_sign : sign_of q ≡ s
    q_sign = same_sign q Q

    equally : distance s num den r ≡ distance s num den q
    equally = le_antisymm (R.closest q Q.finite) (Q.closest r R.finite)

    -- the next double
    next_sign : sign_of (r + 1) ≡ s
    next_sign = go s r_sign q_sign
      where
        go : (t : Bool) → sign_of r ≡ t → sign_of q ≡ t → sign_of (r + 1) ≡ t
        go true e f = le-leb (2 ^ 63) (r + 1) (omega (arith, leb-true (2 ^ 63) r e))
        go false e f = lt-leb (2 ^ 63) (r + 1) (omega (arith, leb-false (2 ^ 63) q f))

    next_finite : Finite (r + 1)
    next_finite =
        let l = low_lt r q R.finite.width Q.finite.width (r_sign ∙ sym q_sign) less in
        record { width = omega (arith, Q.finite.width); field = below (r % 2 ^ 63) (q % 2 ^ 63) (next_low (sign_of r) refl) l Q.finite.field }
      where
        next_low : (t : Bool) → sign_of r ≡ t → (r + 1) % 2 ^ 63 ≡ r % 2 ^ 63 + 1
        next_low true e = omega (arith, leb-true (2 ^ 63) r e, Q.finite.width)
        next_low false e = omega (arith, leb-false (2 ^ 63) q (q_sign ∙ sym r_sign ∙ e))

        below : (x y : ℕ) → (r + 1) % 2 ^ 63 ≡ x + 1 → x < y → y / 2 ^ 52 < 2047 → field_of (r + 1) < 2047
        below x y e l h = omega arith

    pub not_both : ⊥
    not_both = go (ltb (r + 1) q) refl
      where
        differ : q ≡ r → ⊥
        differ e = lt_irrefl q (subst (λ (z : ℕ). z < q) (sym e) less)

        differ' : r ≡ q → ⊥
        differ' e = differ (sym e)

        nearer : r + 1 < q → distance s num den (r + 1) < distance s num den r
        nearer l =
            subst (λ (z : ℕ). z < distance s num den r) (sym (apart_from (r + 1) next_sign))
            (subst (λ (z : ℕ). apart (num * 2 ^ 1074) (units_of (r + 1) * den) < z) (sym (apart_from r r_sign))
            (middle (num * 2 ^ 1074) (units_of r * den) (units_of q * den) (units_of (r + 1) * den)
            (farther r (r + 1) R.finite next_finite r_sign next_sign (omega arith))
            (farther (r + 1) q next_finite Q.finite next_sign q_sign l)
            (sym (apart_from r r_sign) ∙ equally ∙ apart_from q q_sign)))

        go : (b : Bool) → ltb (r + 1) q ≡ b → ⊥
        go true e = lt_irrefl (distance s num den r) (lt_of_le_of_lt (R.closest (r + 1) next_finite) (nearer (ltb-true (r + 1) q e)))
        go false e =
            let f = R.even q Q.finite differ (sym equally) in
            let g = Q.even r R.finite differ' equally in
            let h : q ≡ r + 1 = omega (arith, ltb-false (r + 1) q e) in
            omega (arith, f, g, h)

  pub one_nearest : (r q : ℕ) → Nearest s num den r → Nearest s num den q → r ≡ q
  one_nearest r q R Q = go (ltb r q) refl (ltb q r) refl
    where
      go : (a : Bool) → ltb r q ≡ a → (b : Bool) → ltb q r ≡ b → r ≡ q
      go true e b f = absurd (not_both r q R Q (ltb-true r q e))
      go false e true f = absurd (not_both q r Q R (ltb-true q r f))
      go false e false f = le_antisymm (ltb-false q r f) (ltb-false r q e)

-- ---- a VAX value is at least 2 ^ -1074
vax_enough : (w b e m : ℕ) → b ≤ 1074 → den_of w b < num_of w (suc e) m * 2 ^ 1074 * 2
vax_enough w b e m h =
    lt_of_lt_of_le (pow-lt {i = w + 1 + b} {j = w + suc e + 1074 + 1} (omega arith))
    (le_trans (le_of_eq (sym (joined (w + suc e + 1074) 1 (w + suc e + 1074 + 1) refl)))
    (mul-le-mul_right 2
    (le_trans (le_of_eq (sym (joined (w + suc e) 1074 (w + suc e + 1074) refl)))
    (mul-le-mul_right (2 ^ 1074) (le_trans (le_of_eq (sym (joined w (suc e) (w + suc e) refl))) (mul-le-mul_right (2 ^ suc e) (more (2 ^ w))))))))
  where
    more : (x : ℕ) → x ≤ x + m
    more x = omega arith

-- THE THEOREM, once over width and offset
pub one_answer : (w b e m : ℕ) (s : Bool) (r q : ℕ) → b ≤ 1074 → Holds Nearest w b s e m (Some r) → Holds Nearest w b s e m (Some q) → r ≡ q
one_answer w b zero m s r q h R Q = R.1 refl ∙ sym (Q.1 refl)
one_answer w b (suc e) m s r q h R Q = one_nearest s (num_of w (suc e) m) (den_of w b) (pow_pos (w + 1 + b)) (vax_enough w b e m h) r q R.2 Q.2

-- The doubles among the whole numbers, in units of the smallest one, once for every number p of digits below the leading one: what bits that are made of a field
-- and rounded digits denote; that different fields denote different sizes; and that the nearest multiple of 2 ^ k is the nearest of all. Assumes nothing.
use Prim.Native.Nat.{ℕ, zero, suc, ◌+◌, ◌-◌, ◌*◌, ◌/◌, ◌%◌, ◌^◌, ◌≤◌, ◌<◌}
use mathlib.Core.Path.{◌≡◌, refl, sym, ap, ◌∙◌, subst}
use mathlib.Core.Logic.{◌⊎◌, inl, inr}
use mathlib.Core.Bool.{Bool, true, false}
use native.Mathlib.Nat.{le_trans, le_of_eq, le_antisymm, lt_of_lt_of_le, lt_irrefl, le_of_suc-le-suc, suc-mul, mul-one, zero-mul, mul_assoc, mul_comm, mul-le-mul_right, mul-le-mul_left, mul-lt-mul_of_pos_right, pow-suc, add-sub_of_le}
use native.Mathlib.Omega.{arith}
use lib.Dec.{ltb}
use lib.Pow.{pow-add, pow_pos, pow_mono}
use lib.Arith.{digits_div, digits_mod}
use borrow.Author.Tests.{ltb-true, ltb-false}
use Rattle.vax.specs.Doubles.{apart, between, units_by}
use Rattle.vax.proofs.Whole.{Best}

-- ---- what k * 2 ^ p + q denotes: q * 2 ^ k, also where q has come to 2 ^ (p + 1)
at_zero : (p t : ℕ) → units_by p 0 t ≡ t
unfolding units_by
at_zero p t = refl

at_suc : (p x t : ℕ) → units_by p (suc x) t ≡ (2 ^ p + t) * 2 ^ x
unfolding units_by
at_suc p x t = refl

-- the fields of x * h + t
fields : (p x t : ℕ) → t < 2 ^ p → units_by p ((x * 2 ^ p + t) / 2 ^ p) ((x * 2 ^ p + t) % 2 ^ p) ≡ units_by p x t
fields p x t h = rw (digits_div x h, digits_mod x h)

pub made : (p k q : ℕ) → q ≤ 2 ^ p + 2 ^ p → (0 < k → 2 ^ p ≤ q) → units_by p ((k * 2 ^ p + q) / 2 ^ p) ((k * 2 ^ p + q) % 2 ^ p) ≡ q * 2 ^ k
made p k q top low = go k low (ltb q (2 ^ p)) refl (ltb q (2 ^ p + 2 ^ p)) refl
  where
    go : (k : ℕ) → (0 < k → 2 ^ p ≤ q) → (a : Bool) → ltb q (2 ^ p) ≡ a → (b : Bool) → ltb q (2 ^ p + 2 ^ p) ≡ b
        → units_by p ((k * 2 ^ p + q) / 2 ^ p) ((k * 2 ^ p + q) % 2 ^ p) ≡ q * 2 ^ k
    go zero l true e b f = fields p 0 q (ltb-true q (2 ^ p) e) ∙ at_zero p q ∙ sym (mul-one q)
    go (suc k) l true e b f = absurd (lt_irrefl q (lt_of_lt_of_le (ltb-true q (2 ^ p) e) (l (omega arith))))
    go k l false e true f =
        let a : 2 ^ p ≤ q = ltb-false q (2 ^ p) e in
        let b : q < 2 ^ p + 2 ^ p = ltb-true q (2 ^ p + 2 ^ p) f in
        let t : q - 2 ^ p < 2 ^ p = omega arith in
        let s : k * 2 ^ p + q ≡ suc k * 2 ^ p + (q - 2 ^ p) = omega (arith, suc-mul k (2 ^ p)) in
        ap (λ (z : ℕ). units_by p (z / 2 ^ p) (z % 2 ^ p)) s
        ∙ fields p (suc k) (q - 2 ^ p) t
        ∙ at_suc p k (q - 2 ^ p)
        ∙ ap (λ (z : ℕ). z * 2 ^ k) (add-sub_of_le a)
    go k l false e false f =
        let b : q ≡ 2 ^ p + 2 ^ p = omega (arith, ltb-false q (2 ^ p + 2 ^ p) f) in
        let s : k * 2 ^ p + q ≡ suc (suc k) * 2 ^ p + 0 = omega (arith, suc-mul k (2 ^ p), suc-mul (suc k) (2 ^ p)) in
        ap (λ (z : ℕ). units_by p (z / 2 ^ p) (z % 2 ^ p)) s
        ∙ fields p (suc (suc k)) 0 (pow_pos p)
        ∙ at_suc p (suc k) 0
        ∙ twice (2 ^ p) (2 ^ k) (2 ^ suc k) (pow-suc 2 k)
        ∙ ap (λ (z : ℕ). z * 2 ^ k) (sym b)
      where
        twice : (x y z : ℕ) → z ≡ y * 2 → (x + 0) * z ≡ (x + x) * y
        twice x y z e = ap (λ (v : ℕ). (x + 0) * v) e ∙ omega arith

-- ---- a lower field denotes a smaller size, and of two with one field the one with lower digits
below : (p x t : ℕ) → t < 2 ^ p → units_by p x t < 2 ^ p * 2 ^ x
below p zero t h = rw (at_zero p t, mul-one (2 ^ p)) h
below p (suc x) t h =
    subst (λ (z : ℕ). z < 2 ^ p * 2 ^ suc x) (sym (at_suc p x t))
    (subst (λ (z : ℕ). (2 ^ p + t) * 2 ^ x < 2 ^ p * z) (sym (pow-suc 2 x))
    (lt_of_lt_of_le (mul-lt-mul_of_pos_right {n = 2 ^ p + 2 ^ p} (omega arith) (pow_pos x)) (le_of_eq (double (2 ^ p) (2 ^ x)))))
  where
    double : (a b : ℕ) → (a + a) * b ≡ a * (b * 2)
    double a b = omega arith

reaches : (p x t : ℕ) → 2 ^ p * 2 ^ x ≤ units_by p (suc x) t
reaches p x t = rw (at_suc p x t) (mul-le-mul_right (2 ^ x) (omega arith))

field_lt : (p x y t u : ℕ) → x < y → t < 2 ^ p → units_by p x t < units_by p y u
field_lt p x zero t u l h = absurd (omega arith)
field_lt p x (suc y) t u l h = lt_of_lt_of_le (below p x t h) (le_trans (mul-le-mul_left (2 ^ p) (pow_mono (le_of_suc-le-suc l))) (reaches p y u))

digits_lt : (p x t u : ℕ) → t < u → units_by p x t < units_by p x u
digits_lt p zero t u l = rw (at_zero p t, at_zero p u) l
digits_lt p (suc x) t u l =
    let s : 2 ^ p + t < 2 ^ p + u = omega arith in
    rw (at_suc p x t, at_suc p x u) (mul-lt-mul_of_pos_right s (pow_pos x))

-- ---- so sizes stand in the order of their fields and digits
pub units_lt : (p x y t u : ℕ) → t < 2 ^ p → u < 2 ^ p → x * 2 ^ p + t < y * 2 ^ p + u → units_by p x t < units_by p y u
units_lt p x y t u T U l = go (ltb x y) refl (ltb y x) refl
  where
    go : (a : Bool) → ltb x y ≡ a → (b : Bool) → ltb y x ≡ b → units_by p x t < units_by p y u
    go true f b g = field_lt p x y t u (ltb-true x y f) T
    go false f true g =
        let a : suc y * 2 ^ p ≤ x * 2 ^ p = mul-le-mul_right (2 ^ p) (ltb-true y x g) in
        absurd (omega (arith, a, suc-mul y (2 ^ p)))
    go false f false g =
        let s : x ≡ y = le_antisymm (ltb-false y x g) (ltb-false x y f) in
        subst (λ (z : ℕ). units_by p x t < units_by p z u) s (digits_lt p x t u (omega (arith, ap (λ (z : ℕ). z * 2 ^ p) s)))

-- ---- each size is a multiple of 2 ^ k, or below 2 ^ p * 2 ^ k, and then k is not 0
data On (p k u : ℕ) : Type 0 where
  multiple : (j : ℕ) → u ≡ j * 2 ^ k → On p k u
  short : 0 < k → u < 2 ^ p * 2 ^ k → On p k u

grid : (p k x t : ℕ) → t < 2 ^ p → On p k (units_by p x t)
grid p zero x t h = multiple (units_by p x t) (sym (mul-one (units_by p x t)))
grid p (suc k) x t h = go (ltb (suc k) x) refl
  where
    fit : (k y : ℕ) → suc k ≤ y → y ≡ (y - suc k) + suc k
    fit k y l = omega arith

    up : (x : ℕ) → suc k < x → On p (suc k) (units_by p x t)
    up zero l = absurd (omega arith)
    up (suc y) l =
        multiple ((2 ^ p + t) * 2 ^ (y - suc k))
        (at_suc p y t
        ∙ ap (λ (z : ℕ). (2 ^ p + t) * z) (ap (λ (z : ℕ). 2 ^ z) (fit k y (le_of_suc-le-suc l)) ∙ pow-add 2 (y - suc k) (suc k))
        ∙ sym (mul_assoc (2 ^ p + t) (2 ^ (y - suc k)) (2 ^ suc k)))

    go : (a : Bool) → ltb (suc k) x ≡ a → On p (suc k) (units_by p x t)
    go true e = up x (ltb-true (suc k) x e)
    go false e = short (omega arith) (lt_of_lt_of_le (below p x t h) (mul-le-mul_left (2 ^ p) (pow_mono (ltb-false (suc k) x e))))

-- ---- a / d to the nearest size. q * 2 ^ k is the multiple of 2 ^ k that is nearest, and a / d is 2 ^ p * 2 ^ k at least, if k is not 0.
module _ (p k a d q : ℕ) (D : 0 < d) (best : Best a (d * 2 ^ k) q) (high : 0 < k → 2 ^ p * 2 ^ k * d ≤ a) where
  shift : (j : ℕ) → j * 2 ^ k * d ≡ j * (d * 2 ^ k)
  shift j = mul_assoc j (2 ^ k) d ∙ ap (λ (z : ℕ). j * z) (mul_comm (2 ^ k) d)

  farther : (x y z : ℕ) → x < y → y ≤ a → z ≤ apart a y → z < apart a x
  farther x y z l h m = omega arith

  same_closest : (x t : ℕ) → t < 2 ^ p → apart a (q * 2 ^ k * d) ≤ apart a (units_by p x t * d)
  same_closest x t h = elim (grid p k x t h) [
    | multiple j e ↦ rw (e, shift q, shift j) (best.closest j)
    | short K l ↦
        let z : apart a (q * (d * 2 ^ k)) < apart a (units_by p x t * d) =
        farther (units_by p x t * d) (2 ^ p * 2 ^ k * d) (apart a (q * (d * 2 ^ k))) (mul-lt-mul_of_pos_right l D) (high K) (rw (shift (2 ^ p)) (best.closest (2 ^ p))) in
        rw (shift q) (omega arith)
  ]

  same_even : (x t : ℕ) → t < 2 ^ p → apart a (units_by p x t * d) ≡ apart a (q * 2 ^ k * d) → (units_by p x t ≡ q * 2 ^ k) ⊎ (q % 2 ≡ 0)
  same_even x t h e = elim (grid p k x t h) [
    | multiple j f ↦ pick j f (ltb j q) refl (ltb q j) refl
    | short K l ↦
        let z : apart a (q * (d * 2 ^ k)) < apart a (units_by p x t * d) =
        farther (units_by p x t * d) (2 ^ p * 2 ^ k * d) (apart a (q * (d * 2 ^ k))) (mul-lt-mul_of_pos_right l D) (high K) (rw (shift (2 ^ p)) (best.closest (2 ^ p))) in
        absurd (lt_irrefl (apart a (q * (d * 2 ^ k))) (subst (λ (v : ℕ). apart a (q * (d * 2 ^ k)) < v) (e ∙ ap (λ (v : ℕ). apart a v) (shift q)) z))
  ]
    where
      tied : (j : ℕ) → units_by p x t ≡ j * 2 ^ k → (j ≡ q → ⊥) → q % 2 ≡ 0
      tied j f n = best.even j n (ap (λ (v : ℕ). apart a v) (sym (ap (λ (v : ℕ). v * d) f ∙ shift j)) ∙ e ∙ ap (λ (v : ℕ). apart a v) (shift q))

      pick : (j : ℕ) → units_by p x t ≡ j * 2 ^ k → (b : Bool) → ltb j q ≡ b → (c : Bool) → ltb q j ≡ c → (units_by p x t ≡ q * 2 ^ k) ⊎ (q % 2 ≡ 0)
      pick j f true g c i = inr (tied j f (λ z. lt_irrefl q (subst (λ (v : ℕ). v < q) z (ltb-true j q g))))
      pick j f false g true i = inr (tied j f (λ z. lt_irrefl q (subst (λ (v : ℕ). q < v) z (ltb-true q j i))))
      pick j f false g false i = inl (f ∙ ap (λ (v : ℕ). v * 2 ^ k) (le_antisymm (ltb-false q j i) (ltb-false j q g)))

  -- of the other sign: 0 is nearer
  zero_far : apart a (q * (d * 2 ^ k)) ≤ a
  zero_far = le_trans (best.closest 0) (le_of_eq (ap (λ (z : ℕ). apart a z) (zero-mul (d * 2 ^ k)) ∙ plain a))
    where
      plain : (a : ℕ) → apart a 0 ≡ a
      plain a = omega arith

  other_even : (u : ℕ) → a + u ≡ apart a (q * (d * 2 ^ k)) → q % 2 ≡ 0
  other_even u e = go q refl
    where
      all : apart a (q * (d * 2 ^ k)) ≡ a
      all = omega (arith, zero_far)

      at_none : apart a (0 * (d * 2 ^ k)) ≡ apart a (q * (d * 2 ^ k))
      at_none = ap (λ (z : ℕ). apart a z) (zero-mul (d * 2 ^ k)) ∙ plain a ∙ sym all
        where
          plain : (a : ℕ) → apart a 0 ≡ a
          plain a = omega arith

      go : (v : ℕ) → q ≡ v → q % 2 ≡ 0
      go zero f = ap (λ (z : ℕ). z % 2) f
      go (suc v) f = best.even 0 (λ g. differ v (g ∙ f)) at_none
        where
          differ : (v : ℕ) → 0 ≡ suc v → ⊥
          differ v g = omega arith

  -- both
  pub near : (s t : Bool) (x u : ℕ) → u < 2 ^ p → between s a s (q * 2 ^ k * d) ≤ between s a t (units_by p x u * d)
  near true true x u h = same_closest x u h
  near false false x u h = same_closest x u h
  near true false x u h = rw (shift q) (omega (arith, zero_far))
  near false true x u h = rw (shift q) (omega (arith, zero_far))

  pub tie : (s t : Bool) (x u : ℕ) → u < 2 ^ p → between s a t (units_by p x u * d) ≡ between s a s (q * 2 ^ k * d)
      → ((s ≡ t) × (units_by p x u ≡ q * 2 ^ k)) ⊎ (q % 2 ≡ 0)
  tie true true x u h e = elim (same_even x u h e) [ inl f ↦ inl (refl, f) | inr f ↦ inr f ]
  tie false false x u h e = elim (same_even x u h e) [ inl f ↦ inl (refl, f) | inr f ↦ inr f ]
  tie true false x u h e = inr (other_even (units_by p x u * d) (e ∙ ap (λ (z : ℕ). apart a z) (shift q)))
  tie false true x u h e = inr (other_even (units_by p x u * d) (e ∙ ap (λ (z : ℕ). apart a z) (shift q)))

-- Rounding to a whole number: `nearest_of n d` is the nearest to n / d, of two as near the even one. Once for every n and d. Assumes nothing.
use Prim.Native.Nat.{ℕ, zero, suc, ◌+◌, ◌-◌, ◌*◌, ◌/◌, ◌%◌, ◌≤◌, ◌<◌}
use mathlib.Core.Path.{◌≡◌, refl, sym, ap, ◌∙◌}
use mathlib.Core.Logic.{◌⊎◌, inl, inr}
use mathlib.Core.Bool.{Bool, true, false}
use native.Mathlib.Nat.{le_trans, le_of_eq, suc-mul, mul-le-mul_right, mul-le-mul_left, mul-add, mul-sub, mul_left_comm, mod-lt, div-add-mod', eq_of_mul-eq-mul_right, eq_of_mul-eq-mul_left}
use native.Mathlib.Omega.{arith}
use lib.Dec.{ltb}
use lib.Arith.{digits_div}
use borrow.Author.Tests.{ltb-true, ltb-false}
use Rattle.vax.specs.Doubles.{apart}
use Rattle.vax.specs.Rounding.{chosen, nearest_of}

-- q * d is the multiple of d nearest to a; where another is as near, q is even
pub record Best (a d q : ℕ) : Type 0 where
  pub closest : (j : ℕ) → apart a (q * d) ≤ apart a (j * d)
  pub even : (j : ℕ) → (j ≡ q → ⊥) → apart a (j * d) ≡ apart a (q * d) → q % 2 ≡ 0

-- ---- where j * d stands beside q * d
data Place (j q d : ℕ) : Type 0 where
  before : j * d + d ≤ q * d → Place j q d
  same : j ≡ q → j * d ≡ q * d → Place j q d
  next : j ≡ q + 1 → j * d ≡ q * d + d → Place j q d
  after : q * d + d + d ≤ j * d → Place j q d

step : (j q d : ℕ) → j < q → j * d + d ≤ q * d
step j q d h = le_trans (le_of_eq (sym (suc-mul j d))) (mul-le-mul_right d h)

one_more_lem : (q d : ℕ) → (q + 1) * d ≡ q * d + d
one_more_lem q d = omega arith

place : (j q d : ℕ) → Place j q d
place j q d = go (ltb j q) refl (ltb q j) refl (ltb (q + 1) j) refl
  where
    go : (a : Bool) → ltb j q ≡ a → (b : Bool) → ltb q j ≡ b → (c : Bool) → ltb (q + 1) j ≡ c → Place j q d
    go true p b q' c r = before (step j q d (ltb-true j q p))
    go false p true q' true r = after (omega (arith, one_more_lem q d, step (q + 1) j d (ltb-true (q + 1) j r)))
    go false p true q' false r =
        let e : j ≡ q + 1 = omega (arith, ltb-true q j q', ltb-false (q + 1) j r) in
        next e (ap (λ (x : ℕ). x * d) e ∙ one_more_lem q d)
    go false p false q' c r =
        let e : j ≡ q = omega (arith, ltb-false j q p, ltb-false q j q') in
        same e (ap (λ (x : ℕ). x * d) e)

module _ (n d q r : ℕ) (is : n ≡ q * d + r) (less : r < d) where
  low_closest : r < d - r → (j : ℕ) → Place j q d → apart n (q * d) ≤ apart n (j * d)
  low_closest h j (before l) = omega arith
  low_closest h j (same e l) = omega arith
  low_closest h j (next e l) = omega arith
  low_closest h j (after l) = omega arith

  low_even : r < d - r → (j : ℕ) → Place j q d → (j ≡ q → ⊥) → apart n (j * d) ≡ apart n (q * d) → q % 2 ≡ 0
  low_even h j (before l) k e = omega arith
  low_even h j (same e l) k z = absurd (k e)
  low_even h j (next e l) k z = omega arith
  low_even h j (after l) k z = omega arith

  high_closest : d - r < r → (j : ℕ) → Place j q d → apart n (q * d + d) ≤ apart n (j * d)
  high_closest h j (before l) = omega arith
  high_closest h j (same e l) = omega arith
  high_closest h j (next e l) = omega arith
  high_closest h j (after l) = omega arith

  high_even : d - r < r → (j : ℕ) → Place j q d → (j ≡ q + 1 → ⊥) → apart n (j * d) ≡ apart n (q * d + d) → (q + 1) % 2 ≡ 0
  high_even h j (before l) k e = omega arith
  high_even h j (same e l) k z = omega arith
  high_even h j (next e l) k z = absurd (k e)
  high_even h j (after l) k z = omega arith

  tie_closest : r ≡ d - r → (j x : ℕ) → Place j q d → (x ≡ q * d) ⊎ (x ≡ q * d + d) → apart n x ≤ apart n (j * d)
  tie_closest h j x (before l) (inl y) = omega arith
  tie_closest h j x (before l) (inr y) = omega arith
  tie_closest h j x (same e l) (inl y) = omega arith
  tie_closest h j x (same e l) (inr y) = omega arith
  tie_closest h j x (next e l) (inl y) = omega arith
  tie_closest h j x (next e l) (inr y) = omega arith
  tie_closest h j x (after l) (inl y) = omega arith
  tie_closest h j x (after l) (inr y) = omega arith

even_or_odd : (q : ℕ) → q % 2 ≡ 0 ⊎ q % 2 ≡ 1
even_or_odd q = go (q % 2) (mod-lt q (omega arith))
  where
    go : (b : ℕ) → b < 2 → (b ≡ 0) ⊎ (b ≡ 1)
    go zero l = inl refl
    go (suc zero) l = inr refl
    go (suc (suc b)) l = absurd (omega arith)

-- of two as near the even one, which is one of the two
tie_even : (q : ℕ) → chosen false false q % 2 ≡ 0
tie_even q = omega arith

tie_at : (q d : ℕ) → (chosen false false q * d ≡ q * d) ⊎ (chosen false false q * d ≡ q * d + d)
tie_at q d = go (even_or_odd q)
  where
    go : (q % 2 ≡ 0) ⊎ (q % 2 ≡ 1) → (chosen false false q * d ≡ q * d) ⊎ (chosen false false q * d ≡ q * d + d)
    go (inl e) = let z : chosen false false q ≡ q = omega (arith, e) in inl (ap (λ (k : ℕ). k * d) z)
    go (inr e) = let z : chosen false false q ≡ q + 1 = omega (arith, e) in inr (ap (λ (k : ℕ). k * d) z ∙ one_more_lem q d)

pub nearest_best : (n d : ℕ) → 0 < d → Best n d (nearest_of n d)
unfolding nearest_of
nearest_best n d D = go (ltb (n % d) (d - n % d)) refl (ltb (d - n % d) (n % d)) refl
  where
    is : n ≡ n / d * d + n % d
    is = sym (div-add-mod' n d)

    less : n % d < d
    less = mod-lt n D

    go : (a : Bool) → ltb (n % d) (d - n % d) ≡ a → (b : Bool) → ltb (d - n % d) (n % d) ≡ b
        → Best n d (chosen a b (n / d))
    go true u b v = record {
      closest = λ j. low_closest n d (n / d) (n % d) is less (ltb-true _ _ u) j (place j (n / d) d);
      even = λ j k e. low_even n d (n / d) (n % d) is less (ltb-true _ _ u) j (place j (n / d) d) k e;
    }
    go false u true v = record {
      closest = λ j. rw (one_more_lem (n / d) d) (high_closest n d (n / d) (n % d) is less (ltb-true _ _ v) j (place j (n / d) d));
      even = λ j k e. high_even n d (n / d) (n % d) is less (ltb-true _ _ v) j (place j (n / d) d) k (rw (one_more_lem (n / d) d) at e);
    }
    go false u false v =
        let a : d - n % d ≤ n % d = ltb-false _ _ u in
        let b : n % d ≤ d - n % d = ltb-false _ _ v in
        let t : n % d ≡ d - n % d = omega arith in
        record {
          closest = λ j. tie_closest n d (n / d) (n % d) is less t j (chosen false false (n / d) * d) (place j (n / d) d) (tie_at (n / d) d);
          even = λ j k e. tie_even (n / d);
        }

-- ---- its bounds
pub nearest_ge : (n d : ℕ) → n / d ≤ nearest_of n d
unfolding nearest_of
nearest_ge n d = go (ltb (n % d) (d - n % d)) (ltb (d - n % d) (n % d))
  where
    go : (a b : Bool) → n / d ≤ chosen a b (n / d)
    go true b = omega arith
    go false true = omega arith
    go false false = omega arith

pub nearest_le : (n d : ℕ) → nearest_of n d ≤ n / d + 1
unfolding nearest_of
nearest_le n d = go (ltb (n % d) (d - n % d)) (ltb (d - n % d) (n % d))
  where
    go : (a b : Bool) → chosen a b (n / d) ≤ n / d + 1
    go true b = omega arith
    go false true = omega arith
    go false false = omega arith

-- ---- a multiple of d is its own nearest
apart_self : (a b : ℕ) → apart a a ≤ apart a b
apart_self a b = omega arith

pub exact_best : (q d : ℕ) → 0 < d → Best (q * d) d q
exact_best q d D = record {
  closest = λ j. apart_self (q * d) (j * d);
  even = λ j k e. absurd (k (eq_of_mul-eq-mul_right d D j q (sym (back (q * d) (j * d) e))));
}
  where
    back : (a b : ℕ) → apart a b ≡ apart a a → a ≡ b
    back a b h = omega arith

-- ---- both numbers times c
apart_mul : (c x y : ℕ) → apart (c * x) (c * y) ≡ c * apart x y
apart_mul c x y = simp (mul-add, mul-sub)

scaled : (a d j c : ℕ) → apart (c * a) (j * (c * d)) ≡ c * apart a (j * d)
scaled a d j c = rw (mul_left_comm j c d) (apart_mul c a (j * d))

pub scale_best : (a d q c : ℕ) → 0 < c → Best a d q → Best (c * a) (c * d) q
scale_best a d q c C h = record {
  closest = λ j. rw (scaled a d q c, scaled a d j c) (mul-le-mul_left c (h.closest j));
  even = λ j k e. h.even j k (eq_of_mul-eq-mul_left c C (apart a (j * d)) (apart a (q * d)) (sym (scaled a d j c) ∙ e ∙ scaled a d q c));
}

-- ---- by one division: half of d, less one where n / d is even, is added before it
module _ (n h d : ℕ) (some : 0 < h) (twice : d ≡ h + h) where
  abbrev added : ℕ
  added = n % d + (h - 1) + n / d % 2

  sum_is : n + (h - 1) + n / d % 2 ≡ n / d * d + added
  sum_is = omega (arith, div-add-mod' n d)

  stays : added < d → (n + (h - 1) + n / d % 2) / d ≡ n / d
  stays l = ap (λ (z : ℕ). z / d) sum_is ∙ digits_div (n / d) l

  moves : d ≤ added → added - d < d → (n + (h - 1) + n / d % 2) / d ≡ n / d + 1
  moves l m = ap (λ (z : ℕ). z / d) (sum_is ∙ omega (arith, one_more_lem (n / d) d)) ∙ digits_div (n / d + 1) m

  pub nearest_by_half : (n + (h - 1) + n / d % 2) / d ≡ nearest_of n d
  unfolding nearest_of
  nearest_by_half = go (ltb (n % d) (d - n % d)) refl (ltb (d - n % d) (n % d)) refl
    where
      less : n % d < d
      less = mod-lt n (omega arith)

      tied : n % d ≡ h → (n / d % 2 ≡ 0) ⊎ (n / d % 2 ≡ 1) → (n + (h - 1) + n / d % 2) / d ≡ chosen false false (n / d)
      tied e (inl b) = stays (omega arith) ∙ omega arith
      tied e (inr b) = moves (omega arith) (omega arith) ∙ omega arith

      go : (a : Bool) → ltb (n % d) (d - n % d) ≡ a → (b : Bool) → ltb (d - n % d) (n % d) ≡ b → (n + (h - 1) + n / d % 2) / d ≡ chosen a b (n / d)
      go true u b v = let l : n % d < d - n % d = ltb-true _ _ u in stays (omega (arith, less))
      go false u true v = let l : d - n % d < n % d = ltb-true _ _ v in moves (omega (arith, less)) (omega (arith, less))
      go false u false v =
          let k : d - n % d ≤ n % d = ltb-false _ _ u in
          let l : n % d ≤ d - n % d = ltb-false _ _ v in
          tied (omega (arith, less)) (even_or_odd (n / d))

-- The theorem: for every width w of the mantissa and offset b of the exponent, the answer is the reserved operand exactly where it should be, +0 for a zero, and else the
-- nearest double, ties to an even last bit; and it is the VAX value itself where the double has as many digits. Assumes nothing.
use Prim.Native.Nat.{ℕ, zero, suc, ◌+◌, ◌-◌, ◌*◌, ◌^◌, ◌≤◌, ◌<◌}
use mathlib.Core.Path.{◌≡◌, refl, sym, ◌∙◌, subst}
use mathlib.Core.Bool.{Bool, true, false}
use native.Mathlib.Nat.{pow-suc, zero-add, zero-mul, lt_irrefl}
use native.Mathlib.Numerals.{add-one}
use native.Mathlib.Omega.{arith}
use lib.Dec.{ltb, eqb}
use borrow.Author.Tests.{ltb-true, ltb-false, ne_eqb}
use Rattle.vax.specs.Doubles.{units_of, units_by, Finite, distance, Nearest, Equal}
use Rattle.vax.specs.Vax.{den_of, is_reserved, Holds}
use Rattle.vax.specs.Rounding.{kept_of, size_of, with_sign, leading, vax_of}
use Rattle.vax.proofs.Rounded.{is_nearest, is_equal}

-- ---- how many digits are kept, and how many are dropped before the point
record Parted (w b e n : ℕ) : Type 0 where
  kept : ℕ
  dropped : ℕ
  is : size_of w (e + 1074 - b) n ≡ dropped * 2 ^ 52 + kept_of w kept n
  balance : e + 1074 ≡ kept + dropped + b
  few : kept ≤ 53
  all : 0 < dropped → kept ≡ 53
  bound : dropped ≤ 2044
  enough : w ≤ 52 → b + w < e + 1074 → w < kept

parted : (w b e n : ℕ) → b ≤ e + 1074 → e ≤ b + 1023 → Parted w b e n
unfolding size_of
parted w b e n low high = go (ltb (e + 1074 - b) 53) refl
  where
    go : (c : Bool) → ltb (e + 1074 - b) 53 ≡ c → Parted w b e n
    go true f =
        let l = ltb-true (e + 1074 - b) 53 f in
        record {
          kept = e + 1074 - b;
          dropped = 0;
          is = rw f (sym (zero-add (kept_of w (e + 1074 - b) n)));
          balance = omega arith;
          few = omega arith;
          all = λ z. absurd (lt_irrefl 0 z);
          bound = omega arith;
          enough = λ g h. omega arith;
        }
    go false f =
        let l = ltb-false (e + 1074 - b) 53 f in
        record {
          kept = 53;
          dropped = e + 1074 - b - 53;
          is = rw f refl;
          balance = omega arith;
          few = omega arith;
          all = λ z. refl;
          bound = omega arith;
          enough = λ g h. omega arith;
        }

-- ---- an exponent that is not 0
module _ (w b e m : ℕ) (mantissa : m < 2 ^ w) (low : b ≤ e + 1074) (high : e ≤ b + 1023) where
  twice : (x y : ℕ) → y ≡ x * 2 → m < x → x + m < y
  twice x y f g = omega arith

  fits : leading w m < 2 ^ (w + 1)
  fits = rw add-one (twice (2 ^ w) (2 ^ suc w) (pow-suc 2 w) mantissa)

  lead : 2 ^ w ≤ leading w m
  lead = more (2 ^ w)
    where
      more : (x : ℕ) → x ≤ x + m
      more x = omega arith

  pub size_nearest : (s : Bool) → Nearest s ((2 ^ w + m) * 2 ^ e) (den_of w b) (with_sign s (size_of w (e + 1074 - b) (leading w m)))
  size_nearest s =
      let p = parted w b e (leading w m) low high in
      subst (λ (z : ℕ). Nearest s ((2 ^ w + m) * 2 ^ e) (den_of w b) (with_sign s z)) (sym p.is)
      (is_nearest w b e (leading w m) p.kept p.dropped p.balance fits lead p.few p.all p.bound s)

  pub size_equal : w ≤ 52 → b + w < e + 1074 → (s : Bool) → Equal s ((2 ^ w + m) * 2 ^ e) (den_of w b) (with_sign s (size_of w (e + 1074 - b) (leading w m)))
  size_equal short room s =
      let p = parted w b e (leading w m) low high in
      subst (λ (z : ℕ). Equal s ((2 ^ w + m) * 2 ^ e) (den_of w b) (with_sign s z)) (sym p.is)
      (is_equal w b e (leading w m) p.kept p.dropped p.balance fits lead p.few p.all p.bound (p.enough short room) s)

-- ---- zero
zero_finite : Finite 0
zero_finite = record { width = omega arith; field = omega arith }

pub zero_equal : (d : ℕ) → Equal false 0 d 0
unfolding units_of units_by
zero_equal d = record { finite = zero_finite; sign = refl; size = zero-mul d ∙ sym (zero-mul (2 ^ 1074)) }

none : (a x : ℕ) → x ≡ a → (y : ℕ) → (a - x) + (x - a) ≤ y
none a x e y = omega arith

zero_nearest : (d : ℕ) → Nearest false 0 d 0
unfolding distance units_of units_by
zero_nearest d = record {
  finite = zero_finite;
  closest = λ n F. none (0 * 2 ^ 1074) (0 * d) (zero-mul d ∙ sym (zero-mul (2 ^ 1074))) (distance false 0 d n);
  even = λ n F ne eq. refl;
}

-- ---- the answer, for whatever holds of zero and of the other values
holds : (P : Bool → ℕ → ℕ → ℕ → Type 0) (w b e m : ℕ) (s : Bool) → P false 0 (den_of w b) 0
    → (0 < e → P s ((2 ^ w + m) * 2 ^ e) (den_of w b) (with_sign s (size_of w (e + 1074 - b) (leading w m)))) → Holds P w b s e m (vax_of w b s e m)
unfolding vax_of
holds P w b zero m true Z N = refl
holds P w b zero m false Z N = (refl, λ z. refl, Z)
holds P w b (suc e) m s Z N = rw (other e) (plain, λ z. absurd (differ e z), N (omega arith))
  where
    differ : (e : ℕ) → suc e ≡ 0 → ⊥
    differ e z = omega arith

    other : (e : ℕ) → eqb (suc e) 0 ≡ false
    other e = ne_eqb (suc e) 0 (differ e)

    plain : is_reserved s (suc e) ≡ false
    plain = rw (other e)

-- THE THEOREM, once over the width w of the mantissa and the offset b of the exponent
module _ (w b e m : ℕ) (s : Bool) (mantissa : m < 2 ^ w) (offset : b ≤ 1074) (high : e ≤ b + 1023) where
  pub nearest_holds : Holds Nearest w b s e m (vax_of w b s e m)
  nearest_holds = holds Nearest w b e m s (zero_nearest (den_of w b)) (λ h. size_nearest w b e m mantissa (omega arith) high s)

  -- and exact, with 53 digits at most, all of them before the point in units of the smallest double
  pub exact_holds : w ≤ 52 → (0 < e → b + w < e + 1074) → Holds Equal w b s e m (vax_of w b s e m)
  exact_holds short room = holds Equal w b e m s (zero_equal (den_of w b)) (λ h. size_equal w b e m mantissa (omega arith) high short (room h) s)

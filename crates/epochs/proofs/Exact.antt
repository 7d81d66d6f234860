-- Sums and differences of whole numbers are exact. Assumes nothing.
use mathlib.Core.Path.{◌≡◌, refl, sym, ap, ◌∙◌}
use mathlib.Core.Bool.{Bool, true, false, cond}
use Prim.Native.Nat.{ℕ, zero, suc, ◌+◌, ◌-◌, ◌*◌, ◌≤◌, ◌<◌}
use native.Mathlib.Nat.{le_refl, sub_self, mul-one, mul_assoc, mul_comm, mul-pos, zero-lt-suc, mul-le-mul_right, mul-lt-mul_of_pos_right, mul-sub, add-mul}
use native.Mathlib.Omega.{arith}
use lib.IntN.{ℤ, pos, ◌-ℤ◌, sub_ℕ}
use lib.Dec.{ltb}
use borrow.Author.Tests.{lt-ltb, le-ltb, ltb-true, ltb-false}
use lib.Ieee.{Float, nan, inf, fin, Format, up, down, round, sub, add, neg, sum, of_int, binary64, units, odd, size, span, climb}
use lib.Ieee.Exact.{HasValue}
use lib.Ieee.Fits.{down_pos}
use lib.Ieee.Scale.{round_same}

-- the two numerators over the common denominator
module _ (m a n b : ℕ) (e d : ℤ) (p : m * up e * 1 ≡ a * down e) (q : n * up d * 1 ≡ b * down d) where
  left_is : m * up e * down d ≡ a * (down e * down d)
  left_is = ap (λ (x : ℕ). x * down d) (sym (mul-one (m * up e)) ∙ p) ∙ mul_assoc a (down e) (down d)

  right_is : n * up d * down e ≡ b * (down e * down d)
  right_is = ap (λ (x : ℕ). x * down e) (sym (mul-one (n * up d)) ∙ q) ∙ mul_assoc b (down d) (down e) ∙ ap (λ (x : ℕ). b * x) (mul_comm (down d) (down e))

sub_mul : (a b c : ℕ) → (a - b) * c ≡ a * c - b * c
sub_mul a b c = rw (mul_comm (a - b) c, mul_comm a c, mul_comm b c) (mul-sub c a b)

over : (f : Format) (s : Bool) (a b c : ℕ) → 0 < c → round f s (a * c - b * c) c ≡ round f s (a - b) 1
over f s a b c h = round_same f s (a * c - b * c) c (a - b) 1 h (zero-lt-suc 0) (mul-one (a * c - b * c) ∙ sym (sub_mul a b c))

-- the integer a - b, rounded
rounded : Format → ℕ → ℕ → Float
rounded f a b = cond (ltb a b) (round f true (b - a) 1) (round f false (a - b) 1)

module _ (f : Format) (a b c : ℕ) (h : 0 < c) where
  below : a < b → sum f false (a * c) true (b * c) c ≡ rounded f a b
  unfolding sum rounded
  below l = rw (lt-ltb (a * c) (b * c) (mul-lt-mul_of_pos_right l h), lt-ltb a b l) (over f true b a c h)

  above : b ≤ a → sum f false (a * c) true (b * c) c ≡ rounded f a b
  unfolding sum rounded
  above l = rw (le-ltb (a * c) (b * c) (mul-le-mul_right c l), le-ltb a b l) (over f false a b c h)

  diff : sum f false (a * c) true (b * c) c ≡ rounded f a b
  diff = by_order (ltb a b) refl
    where
      by_order : (t : Bool) → ltb a b ≡ t → sum f false (a * c) true (b * c) c ≡ rounded f a b
      by_order true e = below (ltb-true a b e)
      by_order false e = above (ltb-false a b e)

int_is : (f : Format) (a b : ℕ) → of_int f (pos a -ℤ pos b) ≡ rounded f a b
unfolding of_int rounded
int_is f a zero = rw (le-ltb a 0 (omega arith)) (ap (λ (x : ℕ). round f false x 1) (omega arith))
int_is f a (suc b) = by_order (ltb a (suc b)) refl
  where
    by_order : (t : Bool) → ltb a (suc b) ≡ t → of_int f (sub_ℕ a (suc b)) ≡ rounded f a (suc b)
    by_order true e =
        let l : a < suc b = ltb-true a (suc b) e in
        rw e (ap (λ (x : ℕ). round f true x 1) (omega arith))
    by_order false e = rw e

pub exact : (f : Format) (x y : Float) (a b : ℕ) → HasValue x false a 1 → HasValue y false b 1 → sub f x y ≡ of_int f (pos a -ℤ pos b)
unfolding sub add neg
exact f nan y a b p q = absurd p
exact f (inf s) y a b p q = absurd p
exact f (fin s m e) nan a b p q = absurd q
exact f (fin s m e) (inf t) a b p q = absurd q
exact f (fin s m e) (fin t n d) a b p q =
    rw (p.0, q.0, left_is m a n b e d p.1 q.1, right_is m a n b e d p.1 q.1)
    (diff f a b (down e * down d) (mul-pos (down_pos e) (down_pos d)) ∙ sym (int_is f a b))

-- of natural numbers, the second the smaller one
pub exact_natural : (f : Format) (x y : Float) (a b : ℕ) → HasValue x false a 1 → HasValue y false b 1 → b ≤ a → sub f x y ≡ round f false (a - b) 1
unfolding rounded
exact_natural f x y a b p q h = exact f x y a b p q ∙ int_is f a b ∙ rw (le-ltb a b h)

pub exact_sum : (f : Format) (x y : Float) (a b : ℕ) → HasValue x false a 1 → HasValue y false b 1 → add f x y ≡ round f false (a + b) 1
unfolding add sum
exact_sum f nan y a b p q = absurd p
exact_sum f (inf s) y a b p q = absurd p
exact_sum f (fin s m e) nan a b p q = absurd q
exact_sum f (fin s m e) (inf t) a b p q = absurd q
exact_sum f (fin s m e) (fin t n d) a b p q =
    let c = down e * down d in
    rw (p.0, q.0, left_is m a n b e d p.1 q.1, right_is m a n b e d p.1 q.1)
    (round_same f false (a * c + b * c) c (a + b) 1 (mul-pos (down_pos e) (down_pos d)) (zero-lt-suc 0) (mul-one (a * c + b * c) ∙ sym (add-mul a b c)))

-- of equal numbers it is +0
pub zero_int : of_int binary64 (pos 0) ≡ fin false 0 (pos 0)
unfolding of_int round units odd size span climb
zero_int = refl

pub equal_zero : (n : ℕ) → of_int binary64 (pos n -ℤ pos n) ≡ fin false 0 (pos 0)
unfolding rounded of_int
equal_zero n = int_is binary64 n n ∙ rw (le-ltb n n (le_refl n), sub_self n) zero_int

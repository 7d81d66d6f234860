-- The tests of a double that the code makes. From 2 ^ 52 to 2 ^ 53 doubles are whole numbers, so a fraction is lost where 2 ^ 52 is added to an epoch.
-- Assumes nothing.
use mathlib.Core.Path.{◌≡◌, refl, sym, ap, ◌∙◌, subst}
use mathlib.Core.Logic.{◌⊎◌, inl, inr}
use mathlib.Core.Bool.{true, false, not, ◌&&◌, true≢false}
use Prim.Native.Nat.{ℕ, zero, suc, ◌+◌, ◌-◌, ◌*◌, ◌%◌, ◌^◌, ◌≤◌, ◌<◌}
use native.Mathlib.Omega.{arith}
use native.Mathlib.Nat.{mul-one, mul_right_comm, eq_of_mul-eq-mul_right, le_of_mul-le-mul_right, pow-succ'}
use lib.Dec.{T, ltb, leb, eqb, ltb→lt}
use lib.IntN.{ℤ, pos, negsuc}
use lib.Pow.{pow_pos}
use lib.Ieee.{Float, nan, inf, fin, binary64, up, down, round, sum, add, sub, of_int, of_bits, to_bits, size, span, climb, to_unsigned, in_unsigned, fits, is_nan, lt, le, eq, ne}
use lib.Ieee.Exact.{HasValue}
use lib.Ieee.Fits.{down_pos, round-fits, and_l, and_r}
use lib.Ieee.Bits.{of_bits-to_bits}
use lib.Ieee.Back.{round_whole, unsigned_back}
use lib.Ieee.Order.{round_mono, le_of_values}
use lib.Ieee.Positive.{num, den, positive, positive_of_value, own_value, values_of_le, between}
use lib.Ieee.Compare.{differs_from_itself}
use borrow.Author.Tests.{ltb-true, ltb-false, eqb-true, not-false}
use Rattle.std.specs.Prelude.{Some, None}
use Rattle.format.proofs.Tests.{both, either}
use Rattle.epochs.specs.Epochs.{last_epoch, count_of}
use Rattle.epochs.proofs.Wholes.{value_counts, count_value, count_is, may_cast, refused_unless}
use Rattle.epochs.proofs.Exact.{exact_natural, exact_sum, zero_int}

-- 2 ^ 52 and 2 ^ 53
abbrev p52 : ℕ
p52 = 4503599627370496

abbrev p53 : ℕ
p53 = 9007199254740992

-- the double of the last epoch, and 2 ^ 52
abbrev pub last : Float
last = fin false last_epoch (pos 0)

abbrev large : Float
large = fin false 1 (pos 52)

pub at_most_not_nan : (x : Float) → le x last ≡ true → T (not (is_nan x))
unfolding le lt eq is_nan
at_most_not_nan nan e = absurd (true≢false (sym e))
at_most_not_nan (inf s) e = tt
at_most_not_nan (fin s m d) e = tt

-- ---- below 1
abbrev pub one : Float
one = fin false 1 (pos 0)

zero_bits : to_bits binary64 (fin false 0 (pos 0)) ≡ 0
unfolding to_bits size span climb
zero_bits = refl

bits_count : count_of (of_bits binary64 0) ≡ Some 0
unfolding count_of of_bits
bits_count = refl

-- a whole number below 1 is 0
below_one : (x : Float) (n : ℕ) → HasValue x false n 1 → lt x one ≡ true → n ≡ 0
unfolding lt
below_one nan n v h = absurd v
below_one (inf s) n v h = absurd v
below_one (fin true m e) n v h = absurd (true≢false v.0)
below_one (fin false m e) zero v h = refl
below_one (fin false m e) (suc n) v h = absurd (omega (arith, v.1, ltb-true (m * up e * 1) (1 * down e) h))

-- ---- no test refuses a count
-- as the code holds it
fit : (x : Float) → fits binary64 x ≡ true → T (fits binary64 x)
fit x e = subst T (sym e) tt

module _ (x : Float) (held : fits binary64 x ≡ true) where
  f : T (fits binary64 x)
  f = fit x held

  pub refused_late : le x last ≡ false → None ≡ count_of x
  refused_late e = refused_unless x (λ n k. go n (count_value x n k))
    where
      go : (n : ℕ) → (HasValue x false n 1) × (n ≤ last_epoch) → ⊥
      go n v = subst T e (le_of_values x last n 1 last_epoch 1 (omega arith) (omega arith) v.0 (refl, refl) (omega (arith, v.1)))

  pub zero_counts : to_bits binary64 x ≡ 0 → Some 0 ≡ count_of x
  zero_counts h =
      let e : x ≡ of_bits binary64 0 = sym (of_bits-to_bits binary64 x f) ∙ ap (of_bits binary64) h in
      sym (ap count_of e ∙ bits_count)

  pub refused_small : lt x one ≡ true → (to_bits binary64 x ≡ 0 → ⊥) → None ≡ count_of x
  refused_small l h = refused_unless x (λ n k. h (go n (count_value x n k).0 (count_is x n f k).0))
    where
      go : (n : ℕ) → HasValue x false n 1 → x ≡ of_int binary64 (pos n) → to_bits binary64 x ≡ 0
      go n v e =
          let z = below_one x n v l in
          let q : x ≡ fin false 0 (pos 0) = e ∙ rw z zero_int in
          rw q zero_bits

  module _ (n : ℕ) (k : count_of x ≡ Some n) where
    back_again : sub binary64 (add binary64 x large) large ≡ x
    unfolding of_int
    back_again =
        let v = count_value x n k in
        let s = exact_sum binary64 x large n p52 v.0 (refl, refl) in
        let w = round_whole binary64 false (n + p52) (omega (arith, v.1)) in
        let d = exact_natural binary64 (round binary64 false (n + p52) 1) large (n + p52) p52 w (refl, refl) (omega arith) in
        let e : n + p52 - p52 ≡ n = omega arith in
        rw s (d ∙ rw e (sym (count_is x n f k).0))

    not_lost : ne (sub binary64 (add binary64 x large) large) x ≡ true → ⊥
    not_lost e =
        let g : ne x x ≡ true = rw back_again at e in
        let h : x ≡ nan = differs_from_itself x (subst T (sym g) tt) in
        subst (λ (z : Float). HasValue z false n 1) h (count_value x n k).0

  pub refused_fraction : ne (sub binary64 (add binary64 x large) large) x ≡ true → None ≡ count_of x
  refused_fraction e = refused_unless x (λ n k. not_lost n k e)

-- ---- what passes them is a count
-- a double from 2 ^ 52 on is a whole number
record WholeNumber (x : Float) : Type 0 where
  pub number : ℕ
  pub value : HasValue x false number 1

digits_small : (m : ℕ) (e : ℤ) → T (fits binary64 (fin false (suc m) e)) → suc m < p53
unfolding fits
digits_small m e f =
    let p = and_l (eqb (suc m % 2) 1 && ltb (suc m) p53 && leb (down e) (2 ^ 1074)) (ltb (suc m * up e) (2 ^ 1024 * down e)) f in
    let q = and_l (eqb (suc m % 2) 1 && ltb (suc m) p53) (leb (down e) (2 ^ 1074)) p in
    ltb→lt (suc m) p53 (and_r (eqb (suc m % 2) 1) (ltb (suc m) p53) q)

large_whole : (x : Float) → T (fits binary64 x) → T (positive x) → p52 * den x ≤ num x → WholeNumber x
large_whole nan f p h = absurd p
large_whole (inf s) f p h = absurd p
large_whole (fin true m e) f p h = absurd p
large_whole (fin false m (pos k)) f p h = record { number = m * 2 ^ k; value = (refl, refl) }
large_whole (fin false zero (negsuc k)) f p h = absurd p
large_whole (fin false (suc m) (negsuc k)) f p h = absurd (omega (arith, pow_pos k, pow-succ' 2 k, digits_small m (negsuc k) f))

-- two doubles that compare as equal
equal_value : (w : Float) (m : ℕ) (e : ℤ) (a : ℕ) → HasValue w false a 1 → eq w (fin false m e) ≡ true → HasValue (fin false m e) false a 1
unfolding eq
equal_value nan m e a v h = absurd v
equal_value (inf s) m e a v h = absurd v
equal_value (fin true n d) m e a v h = absurd (true≢false v.0)
equal_value (fin false n d) m e a v h =
    let q = eqb-true (n * up d * down e) (m * up e * down d) (both (eqb (n * up d * down e) (m * up e * down d)) true h).0 in
    let r : m * up e * down d ≡ a * down e * down d = sym q ∙ ap (λ (z : ℕ). z * down e) (sym (mul-one (n * up d)) ∙ v.1) ∙ mul_right_comm a (down d) (down e) in
    (refl, mul-one (m * up e) ∙ eq_of_mul-eq-mul_right (down d) (down_pos d) (m * up e) (a * down e) r)

-- a double of 0 to the last epoch
bounded : (m : ℕ) (e : ℤ) → le (fin false m e) last ≡ true → m * up e ≤ last_epoch * down e
unfolding le lt eq
bounded m e h = go (either (ltb (m * up e * 1) (last_epoch * down e)) (eqb (m * up e * 1) (last_epoch * down e) && true) h)
  where
    go : (ltb (m * up e * 1) (last_epoch * down e) ≡ true) ⊎ ((eqb (m * up e * 1) (last_epoch * down e) && true) ≡ true) → m * up e ≤ last_epoch * down e
    go (inl l) = omega (arith, ltb-true (m * up e * 1) (last_epoch * down e) l)
    go (inr l) = omega (arith, eqb-true (m * up e * 1) (last_epoch * down e) (both (eqb (m * up e * 1) (last_epoch * down e)) true l).0)

-- a whole number as a double
abbrev whole : ℕ → Float
whole n = round binary64 false n 1

whole_positive : (n : ℕ) → 0 < n → n ≤ p53 → T (positive (whole n))
whole_positive n h k = positive_of_value (whole n) n 1 (round_whole binary64 false n k) h

module _ (m : ℕ) (e : ℤ) (h : m * up e ≤ last_epoch * down e) where
  -- 2 ^ 52 is added
  abbrev sum_found : Float
  sum_found = round binary64 false (m * up e + p52 * down e) (down e)

  sum_is : add binary64 (fin false m e) large ≡ sum_found
  unfolding add sum
  sum_is = rw (mul-one (m * up e), mul-one (down e))

  -- the sum lies between 2 ^ 52 and 2 ^ 53
  from_low : T (le (whole p52) sum_found)
  from_low = round_mono binary64 p52 1 (m * up e + p52 * down e) (down e) (omega arith) (down_pos e) (omega arith)

  to_high : T (le sum_found (whole p53))
  to_high = round_mono binary64 (m * up e + p52 * down e) (down e) p53 1 (down_pos e) (omega arith) (omega arith)

  low_positive : T (positive (whole p52))
  low_positive = whole_positive p52 (omega arith) (omega arith)

  high_positive : T (positive (whole p53))
  high_positive = whole_positive p53 (omega arith) (omega arith)

  sum_positive : T (positive sum_found)
  sum_positive = between (whole p52) sum_found (whole p53) low_positive high_positive from_low to_high

  above_low : (a c : ℕ) → HasValue sum_found false a c → p52 * c ≤ a
  above_low a c v =
      let k = values_of_le (whole p52) sum_found p52 1 a c low_positive sum_positive (round_whole binary64 false p52 (omega arith)) v from_low in
      omega (arith, k)

  below_high : (a : ℕ) → HasValue sum_found false a 1 → a ≤ p53
  below_high a v =
      let k = values_of_le sum_found (whole p53) a 1 p53 1 sum_positive high_positive v (round_whole binary64 false p53 (omega arith)) to_high in
      omega (arith, k)

  sum_whole : WholeNumber sum_found
  sum_whole =
      let fit = round-fits binary64 false (m * up e + p52 * down e) (down e) in
      large_whole sum_found fit sum_positive (above_low (num sum_found) (den sum_found) (own_value sum_found sum_positive))

  -- and taken away
  not_lost_whole : eq (sub binary64 (add binary64 (fin false m e) large) large) (fin false m e) ≡ true → WholeNumber (fin false m e)
  not_lost_whole k =
      let n = sum_whole.number in
      let v = sum_whole.value in
      let d = exact_natural binary64 sum_found large n p52 v (refl, refl) (omega (arith, above_low n 1 v)) in
      let w = round_whole binary64 false (n - p52) (omega (arith, below_high n v)) in
      let q : eq (whole (n - p52)) (fin false m e) ≡ true = rw (sum_is, d) at k in
      record { number = n - p52; value = equal_value (whole (n - p52)) m e (n - p52) w q }

  number_small : (n : ℕ) → HasValue (fin false m e) false n 1 → n ≤ last_epoch
  number_small n v = le_of_mul-le-mul_right {k = down e} (omega (arith, v.1)) (down_pos e)

-- a count that the tests find
record Found (x : Float) : Type 0 where
  pub number : ℕ
  pub value : HasValue x false number 1
  pub small : number ≤ last_epoch

found : (x : Float) → le x last ≡ true → lt x one ≡ false → eq (sub binary64 (add binary64 x large) large) x ≡ true → Found x
unfolding le lt eq
found nan h l k = absurd (true≢false (sym h))
found (inf false) h l k = absurd (true≢false (sym h))
found (inf true) h l k = absurd (true≢false l)
found (fin true m e) h l k = absurd (omega (arith, down_pos e, ltb-false 0 (m * up e * 1 + 1 * down e) l))
found (fin false m e) h l k =
    let b = bounded m e h in
    let w = not_lost_whole m e b k in
    record { number = w.number; value = w.value; small = number_small m e b w.number w.value }

module _ (x : Float) (held : fits binary64 x ≡ true) (h : le x last ≡ true) (l : lt x one ≡ false)
    (e : ne (sub binary64 (add binary64 x large) large) x ≡ false) where
  the_count : Found x
  unfolding ne
  the_count = found x h l (not-false (eq (sub binary64 (add binary64 x large) large) x) e)

  counts : count_of x ≡ Some the_count.number
  counts = value_counts the_count.number the_count.small x the_count.value

  -- and the cast gives it
  cast_back : T (in_unsigned binary64 64 x) × (to_unsigned 64 x ≡ the_count.number)
  cast_back =
      let n = the_count.number in
      let back = unsigned_back binary64 64 n (may_cast n the_count.small) (omega (arith, the_count.small)) in
      subst (λ (y : Float). T (in_unsigned binary64 64 y) × (to_unsigned 64 y ≡ n)) (sym (count_is x n (fit x held) counts).0) back

  pub may_take : T (in_unsigned binary64 64 x)
  may_take = cast_back.0

  pub part_counts : Some (to_unsigned 64 x) ≡ count_of x
  part_counts = ap Some cast_back.1 ∙ sym counts

-- The promises of specs/Promises.antt, proved. Assumes nothing.
use mathlib.Core.Path.{◌≡◌, refl, sym, ap, ◌∙◌}
use mathlib.Core.Bool.{Bool, true, false, cond}
use Prim.Native.Nat.{ℕ, zero, suc, ◌+◌, ◌-◌, ◌*◌, ◌/◌, ◌%◌, ◌≤◌, ◌<◌}
use native.Mathlib.Omega.{arith}
use lib.Dec.{T, ltb, lt→ltb}
use lib.IntN.{ℤ, pos, negsuc, nat_abs, ◌-ℤ◌}
use lib.Ieee.{Float, binary64, of_int, in_signed, to_signed, in_float}
use lib.Ieee.Back.{positive_back, negative_back}
use borrow.Author.Tests.{ltb-true}
use Rattle.std.specs.Prelude.{Option, Some, None}
use Rattle.epochs.specs.declared.calendar.Date.{Date}
use Rattle.epochs.specs.Calendar.{date, days_before, date_of}
use Rattle.epochs.specs.Epochs.{day_length, last_epoch, count_of, is_epoch, count_at, count_moment, count_from}
use Rattle.epochs.specs.Shown.{shown_date, shown_at, date_shown, shown_double, epoch_shown, difference_shown}
use Rattle.epochs.specs.Promises.{OneDate, LastEpoch, WholeNumbers, DateAndBack, EpochAndBack, ExactDifference}
use Rattle.epochs.proofs.Years.{all_years}
use Rattle.epochs.proofs.Dates.{valid_of, of_valid, before, date_counts, date_is, years_up, at_most}
use Rattle.epochs.proofs.Moments.{Moment, of_moment, counted, count_of_moment, count_small}
use Rattle.epochs.proofs.Wholes.{count_value, count_is, whole_counts, may_cast}
use Rattle.epochs.proofs.Exact.{exact, equal_zero}

-- ---- dates
pub one_date : OneDate
unfolding days_before
one_date n = record {
  is = of_valid (date_of n).year (date_of n).month (date_of n).day (date_counts n).0;
  counts = (date_counts n).1;
  only = λ d v e. date_is n d.year d.month d.day (valid_of d.year d.month d.day v) e;
}

-- ---- epochs
pub last_epoch_lem : LastEpoch
last_epoch_lem = rw all_years

pub whole_numbers : WholeNumbers
whole_numbers x n f = record {
  is = λ e. count_is x n f e;
  all = λ e h. ap count_of e ∙ whole_counts n h;
}

-- ---- the date of a count is counted as it
module _ (n : ℕ) (h : n ≤ last_epoch) where
  at : Date
  at = date_of (n / day_length)

  year_small : (y m d : ℕ) → before y m d ≡ n / day_length → y ≤ 9999
  year_small y m d e = at_most y 9999 (λ g. omega (arith, years_up 10000 y g, all_years))

  moment_there : Moment at.year at.month at.day (n % day_length)
  unfolding at
  moment_there =
      let k = date_counts (n / day_length) in
      let d = date_of (n / day_length) in
      record { year = year_small d.year d.month d.day k.1; there = of_valid d.year d.month d.day k.0; time = omega arith }

  counted_back : count_moment at (n % day_length) ≡ Some n
  unfolding at count_at days_before
  counted_back =
      let d = date_of (n / day_length) in
      let m = of_moment d.year d.month d.day (n % day_length) moment_there in
      sym (counted d.year d.month d.day (n % day_length) m)
      ∙ ap Some (ap (λ (k : ℕ). k * day_length + n % day_length) (date_counts (n / day_length)).1 ∙ omega arith)

no_answer : {A : Type 0} → pos 27 ≡ pos 0 → A
no_answer e = let q : ◌≡◌ {A = ℕ} 0 27 = cc in absurd (omega arith)

pub date_and_back : DateAndBack
unfolding date_shown epoch_shown count_from at
date_and_back x f y m d t z = go (count_of x) refl
  where
    go : (c : Option ℕ) → count_of x ≡ c → let s = date_shown c y m d t in s.answer ≡ pos 0
        → epoch_shown (count_from s.year s.month s.day s.milliseconds) z ≡ shown_double (pos 0) x
    go (Some n) e a = let k = count_is x n f e in rw (counted_back n k.1) (ap (shown_double (pos 0)) (sym k.0))
    go None e a = no_answer a

-- ---- the count of a date has that date
dated_back : (y m d t n : ℕ) → Moment y m d t → count_at (date y m d) t ≡ n → (date y m d ≡ date_of (n / day_length)) × (t ≡ n % day_length)
unfolding count_at days_before
dated_back y m d t n a e =
    let q : before y m d ≡ n / day_length = omega (arith, a.time) in
    (date_is (n / day_length) y m d (valid_of y m d a.there) q, omega (arith, a.time))

natural_back : (y m d t : ℕ) (z : Float) (y₀ m₀ d₀ t₀ : ℤ) (c : Option ℕ) → count_moment (date y m d) t ≡ c → (epoch_shown c z).answer ≡ pos 0
    → date_shown (count_of (epoch_shown c z).double) y₀ m₀ d₀ t₀ ≡ shown_date (pos 0) (pos y) (pos m) (pos d) (pos t)
unfolding date_shown epoch_shown
natural_back y m d t z y₀ m₀ d₀ t₀ None e a = no_answer a
natural_back y m d t z y₀ m₀ d₀ t₀ (Some n) e a =
    let k = count_of_moment y m d t n e in
    let s : n ≤ last_epoch = omega (arith, k.1, count_small y m d t k.0) in
    let b = dated_back y m d t n k.0 k.1 in
    rw (whole_counts n s) (ap (λ (x : Date). shown_at x (n % day_length)) (sym b.0) ∙ ap (λ (i : ℕ). shown_at (date y m d) i) (sym b.1))

pub epoch_and_back : EpochAndBack
unfolding count_from epoch_shown
epoch_and_back (pos y) (pos m) (pos d) (pos t) z y₀ m₀ d₀ t₀ a = natural_back y m d t z y₀ m₀ d₀ t₀ (count_moment (date y m d) t) refl a
epoch_and_back (negsuc y) m d t z y₀ m₀ d₀ t₀ a = no_answer a
epoch_and_back (pos y) (negsuc m) d t z y₀ m₀ d₀ t₀ a = no_answer a
epoch_and_back (pos y) (pos m) (negsuc d) t z y₀ m₀ d₀ t₀ a = no_answer a
epoch_and_back (pos y) (pos m) (pos d) (negsuc t) z y₀ m₀ d₀ t₀ a = no_answer a

-- ---- differences
abs_small : (z : ℤ) → nat_abs z ≤ last_epoch → T (in_signed binary64 63 (of_int binary64 z)) × (to_signed 63 (of_int binary64 z) ≡ z)
unfolding in_float
abs_small (pos n) h = positive_back binary64 63 n (may_cast n h) (omega arith)
abs_small (negsuc n) h = negative_back binary64 63 n (lt→ltb n 9007199254740992 (omega arith)) (omega arith)

minus_small : (m n : ℕ) → m ≤ last_epoch → n ≤ last_epoch → nat_abs (pos m -ℤ pos n) ≤ last_epoch
minus_small m zero h k = omega arith
minus_small m (suc n) h k = go (ltb m (suc n)) refl
  where
    go : (b : Bool) → ltb m (suc n) ≡ b → nat_abs (cond b (negsuc (suc n - suc m)) (pos (m - suc n))) ≤ last_epoch
    go true e = let l : m < suc n = ltb-true m (suc n) e in omega arith
    go false e = omega arith

pub exact_difference : ExactDifference
unfolding difference_shown is_epoch
exact_difference a b m n p q =
    let v = count_value a m p in
    let w = count_value b n q in
    let k = abs_small (pos m -ℤ pos n) (minus_small m n v.1 w.1) in
    record {
      shown = λ z. rw (p, q) (ap (shown_double (pos 0)) (exact binary64 a b m n v.0 w.0));
      whole = k.0;
      exact = k.1;
      equal = λ e. rw e (equal_zero n);
    }

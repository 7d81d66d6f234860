-- What is promised of dates and epochs, of every double that binary64 holds (`fits`), as each `f64` is. Section 17 of docs/RULES.md.
-- Assumes nothing.
use Rattle.std.specs.Prelude.{◌≡◌, true, false, ℕ, suc, ◌*◌, ◌≤◌, T, ℤ, pos, ◌-ℤ◌, Float, Some}
use Rattle.std.specs.Float.{binary64, fin}
use Rattle.std.specs.Float.Ieee.{fits, of_int, in_signed, to_signed}
use Rattle.epochs.specs.declared.calendar.Date.{Date}
use Rattle.epochs.specs.Calendar.{days_before_year, is_date, days_before, date_of}
use Rattle.epochs.specs.Epochs.{day_length, last_epoch, count_of, count_from}
use Rattle.epochs.specs.Shown.{shown_date, date_shown, shown_double, epoch_shown, difference_shown}

-- the date of a day is the one date with that many days before it
pub record DateOfDay (n : ℕ) : Type 0 where
  pub is : is_date (date_of n) ≡ true
  pub counts : days_before (date_of n) ≡ n
  pub only : (d : Date) → is_date d ≡ true → days_before d ≡ n → d ≡ date_of n

abbrev pub OneDate : Type 0
OneDate = (n : ℕ) → DateOfDay n

-- the years 0 to 9999 end with the last epoch
abbrev pub LastEpoch : Type 0
LastEpoch = days_before_year 10000 * day_length ≡ suc last_epoch

-- a double counts n exactly if it is the double of the whole number n, and n is no later than the last epoch; so no two of these numbers have one double
pub record CountsOf (x : Float) (n : ℕ) : Type 0 where
  pub is : count_of x ≡ Some n → (x ≡ of_int binary64 (pos n)) × (n ≤ last_epoch)
  pub all : x ≡ of_int binary64 (pos n) → n ≤ last_epoch → count_of x ≡ Some n

abbrev pub WholeNumbers : Type 0
WholeNumbers = (x : Float) (n : ℕ) → T (fits binary64 x) → CountsOf x n

-- 17.6: "Both round trips lead back": from an epoch to its date and back, and from a date to its epoch and back, whatever the caller's numbers were.
-- So a date that is shown is one of the years 0 to 9999, and each such date is shown.
abbrev pub DateAndBack : Type 0
DateAndBack =
    (x : Float) → T (fits binary64 x) → (y m d t : ℤ) (z : Float)
    → let s = date_shown (count_of x) y m d t in
    s.answer ≡ pos 0 → epoch_shown (count_from s.year s.month s.day s.milliseconds) z ≡ shown_double (pos 0) x

abbrev pub EpochAndBack : Type 0
EpochAndBack =
    (y m d t : ℤ) (z : Float) (y₀ m₀ d₀ t₀ : ℤ)
    → let s = epoch_shown (count_from y m d t) z in
    s.answer ≡ pos 0 → date_shown (count_of s.double) y₀ m₀ d₀ t₀ ≡ shown_date (pos 0) y m d t

-- 17.5: "one subtraction of doubles, and exact": the one subtraction gives the double of the integer m - n, which has no fraction and is m - n
-- itself; of equal epochs it is +0
pub record Difference (a b : Float) (m n : ℕ) : Type 0 where
  pub shown : (z : Float) → difference_shown a b z ≡ shown_double (pos 0) (of_int binary64 (pos m -ℤ pos n))
  pub whole : T (in_signed binary64 63 (of_int binary64 (pos m -ℤ pos n)))
  pub exact : to_signed 63 (of_int binary64 (pos m -ℤ pos n)) ≡ pos m -ℤ pos n
  pub equal : m ≡ n → of_int binary64 (pos m -ℤ pos n) ≡ fin false 0 (pos 0)

abbrev pub ExactDifference : Type 0
ExactDifference = (a b : Float) (m n : ℕ) → count_of a ≡ Some m → count_of b ≡ Some n → Difference a b m n

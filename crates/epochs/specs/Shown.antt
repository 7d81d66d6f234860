-- What the calls for C give back: 0 and what is asked for; 17.1: "all else is 27", and the caller's numbers are as they were. Section 17 of
-- docs/RULES.md. Assumes nothing.
use Rattle.std.specs.Prelude.{ℕ, ◌/◌, ◌%◌, ◌&&◌, cond, ℤ, pos, Float, Option, Some, None}
use Rattle.std.specs.Float.{binary64}
use Rattle.std.specs.Float.Ieee.{of_int, sub}
use Rattle.epochs.specs.declared.calendar.Date.{Date}
use Rattle.epochs.specs.Calendar.{date_of}
use Rattle.epochs.specs.Epochs.{day_length, is_epoch}

-- ---- 17.3: "year, month, day and milliseconds of the day"
pub record ShownDate : Type 0 where
  pub answer : ℤ
  pub year : ℤ
  pub month : ℤ
  pub day : ℤ
  pub milliseconds : ℤ

abbrev pub shown_date : ℤ → ℤ → ℤ → ℤ → ℤ → ShownDate
shown_date a y m d t = record { answer = a; year = y; month = m; day = d; milliseconds = t }

abbrev pub shown_at : Date → ℕ → ShownDate
shown_at d t = shown_date (pos 0) (pos d.year) (pos d.month) (pos d.day) (pos t)

-- the date of the whole days, and what is left of milliseconds
unfoldable pub date_shown : Option ℕ → ℤ → ℤ → ℤ → ℤ → ShownDate
unfolding date_of
date_shown (Some n) y m d t = shown_at (date_of (n / day_length)) (n % day_length)
date_shown None y m d t = shown_date (pos 27) y m d t

-- ---- a double: an epoch, or a difference
pub record ShownDouble : Type 0 where
  pub answer : ℤ
  pub double : Float

abbrev pub shown_double : ℤ → Float → ShownDouble
shown_double a x = record { answer = a; double = x }

unfoldable pub epoch_shown : Option ℕ → Float → ShownDouble
epoch_shown (Some n) x = shown_double (pos 0) (of_int binary64 (pos n))
epoch_shown None x = shown_double (pos 27) x

-- 17.5: "The difference of two such epochs is one subtraction of doubles"
unfoldable pub difference_shown : Float → Float → Float → ShownDouble
unfolding is_epoch
difference_shown a b x = cond (is_epoch a && is_epoch b) (shown_double (pos 0) (sub binary64 a b)) (shown_double (pos 27) x)

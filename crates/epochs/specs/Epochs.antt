-- Epochs, each "a double of type 31, counting milliseconds from the beginning of year 0" (17.1). Section 17 of docs/RULES.md. Assumes
-- nothing.
use Rattle.std.specs.Prelude.{ℕ, ◌+◌, ◌*◌, ◌/◌, ◌%◌, Bool, not, ◌&&◌, cond, leb, ltb, eqb, ℤ, pos, negsuc, Float, Option, Some, None, is_some}
use Rattle.std.specs.Float.{nan, inf, fin}
use Rattle.std.specs.Float.Ieee.{up, down}
use Rattle.epochs.specs.declared.calendar.Date.{Date}
use Rattle.epochs.specs.Calendar.{date, is_date, days_before}

-- 17.2: "A day has 86,400,000 milliseconds"
abbrev pub day_length : ℕ
day_length = 86400000

-- the last millisecond of year 9999 (`LastEpoch`, specs/Promises.antt)
abbrev pub last_epoch : ℕ
last_epoch = 315569519999999

-- The milliseconds that a double counts, "whole values from year 0 to 9999 .. All else is 27, negative zero included" (17.1). A finite double is m *
-- 2 ^ e, the fraction m * up e / down e; it is whole where down e divides. Its sign s is set where it is negative, and that of negative zero is set
-- too.
unfoldable pub count_of : Float → Option ℕ
count_of nan = None
count_of (inf s) = None
count_of (fin s m e) =
    cond (not s && (eqb (m * up e % down e) 0 && leb (m * up e / down e) last_epoch)) (Some (m * up e / down e)) None

-- 17.5: "such epochs"
unfoldable pub is_epoch : Float → Bool
unfolding count_of
is_epoch x = is_some (count_of x)

-- 17.4: "a date that does not exist, a year outside 0 to 9999, and milliseconds that are not of a day" are none
unfoldable pub is_moment : Date → ℕ → Bool
unfolding is_date
is_moment d t = leb d.year 9999 && (is_date d && ltb t day_length)

-- the milliseconds from the beginning of year 0
unfoldable pub count_at : Date → ℕ → ℕ
unfolding days_before
count_at d t = days_before d * day_length + t

-- the count of a date and milliseconds of the day, where they are such
unfoldable pub count_moment : Date → ℕ → Option ℕ
unfolding is_moment count_at
count_moment d t = cond (is_moment d t) (Some (count_at d t)) None

-- 17.4: "the way back", from the numbers that a caller gives; where one is negative there is none
unfoldable pub count_from : ℤ → ℤ → ℤ → ℤ → Option ℕ
unfolding count_moment
count_from (pos y) (pos m) (pos d) (pos t) = count_moment (date y m d) t
count_from (negsuc y) m d t = None
count_from (pos y) (negsuc m) d t = None
count_from (pos y) (pos m) (negsuc d) t = None
count_from (pos y) (pos m) (pos d) (negsuc t) = None

-- The "proleptic Gregorian calendar" (17.2), from 1 January of year 0 on. Section 17 of docs/RULES.md. Assumes nothing.
use Rattle.std.specs.Prelude.{ℕ, zero, suc, ◌+◌, ◌-◌, ◌%◌, Bool, not, ◌&&◌, ◌||◌, cond, [], ◌∷◌, get_or, leb, ltb, eqb}
use Rattle.epochs.specs.declared.calendar.Date.{Date}

abbrev pub date : ℕ → ℕ → ℕ → Date
date y m d = record { year = y; month = m; day = d }

-- 17.2: "a year that 4 divides is a leap year, but of those that 100 divides only one that 400 divides; so year 0 is one"
unfoldable pub leap : ℕ → Bool
leap y = eqb (y % 4) 0 && (not (eqb (y % 100) 0) || eqb (y % 400) 0)

-- days of month m, 1 to 12, of a leap year or of another; a number that is no month has none
unfoldable pub month_days : Bool → ℕ → ℕ
month_days l m = get_or (0 ∷ 31 ∷ cond l 29 28 ∷ 31 ∷ 30 ∷ 31 ∷ 30 ∷ 31 ∷ 31 ∷ 30 ∷ 31 ∷ 30 ∷ 31 ∷ []) m 0

-- days of the months before month m
unfoldable pub days_before_month : Bool → ℕ → ℕ
unfolding month_days
days_before_month l zero = 0
days_before_month l (suc m) = days_before_month l m + month_days l m

-- days of the years before year y; a leap year has 366, another 365
unfoldable pub days_before_year : ℕ → ℕ
unfolding leap
days_before_year zero = 0
days_before_year (suc y) = days_before_year y + cond (leap y) 366 365

-- a date that exists: its month has that day
unfoldable pub is_date : Date → Bool
unfolding month_days leap
is_date d = leb 1 d.day && leb d.day (month_days (leap d.year) d.month)

-- days before a date: of the years before its year, of the months before its month, and of its month before its day
unfoldable pub days_before : Date → ℕ
unfolding days_before_year days_before_month leap
days_before d = days_before_year d.year + days_before_month (leap d.year) d.month + (d.day - 1)

-- the day after a date: in its month, else the first of the next month, else 1 January of the next year
unfoldable pub next_day : Date → Date
unfolding month_days leap
next_day d =
    cond (ltb d.day (month_days (leap d.year) d.month)) (date d.year d.month (suc d.day))
    (cond (ltb d.month 12) (date d.year (suc d.month) 1) (date (suc d.year) 1 1))

-- the date of a day: day 0 is 1 January of year 0, and each day follows the one before
unfoldable pub date_of : ℕ → Date
unfolding next_day
date_of zero = date 0 1 1
date_of (suc n) = next_day (date_of n)

-- Worked examples, computed. Assumes nothing.
use Rattle.std.specs.Prelude.{◌≡◌, refl, true, false, pos, negsuc, Float, Some, None}
use Rattle.std.specs.Float.{nan, inf, binary64}
use Rattle.std.specs.Float.Ieee.{of_bits}
use Rattle.epochs.specs.Calendar.{date, leap, month_days, days_before_month, days_before_year, is_date, days_before, next_day, date_of}
use Rattle.epochs.specs.Epochs.{count_of, is_epoch, is_moment, count_at, count_moment, count_from}
use Rattle.epochs.specs.Shown.{shown_date, date_shown, shown_double, difference_shown}

leap_years : (leap 0 ≡ true) × (leap 1900 ≡ false) × (leap 2000 ≡ true) × (leap 2023 ≡ false) × (leap 2024 ≡ true)
unfolding leap
leap_years = (refl, refl, refl, refl, refl)

-- days 59, 60, 366 and 1461
days : (date_of 59 ≡ date 0 2 29) × (date_of 60 ≡ date 0 3 1) × (date_of 366 ≡ date 1 1 1) × (date_of 1461 ≡ date 4 1 1)
unfolding date_of next_day month_days leap
days = (refl, refl, refl, refl)

-- the beginning of 1970, and a millisecond of 29 February of year 0
counts : (count_from (pos 1970) (pos 1) (pos 1) (pos 0) ≡ Some 62167219200000) × (count_from (pos 0) (pos 2) (pos 29) (pos 7) ≡ Some 5097600007)
unfolding count_from count_moment is_moment is_date count_at days_before days_before_year days_before_month month_days leap
counts = (refl, refl)

-- the last moment; what is past it; millisecond 86,400,000 of a day
last : (is_moment (date 9999 12 31) 86399999 ≡ true) × (is_moment (date 10000 1 1) 0 ≡ false) × (is_moment (date 1 1 1) 86400000 ≡ false)
unfolding is_moment is_date month_days leap
last = (refl, refl, refl)

-- months 0 and 13, a day 0, 31 April, 29 February of 1900
no_dates : (is_date (date 1 0 1) ≡ false) × (is_date (date 1 13 1) ≡ false) × (is_date (date 1 1 0) ≡ false) × (is_date (date 1 4 31) ≡ false)
    × (is_date (date 1900 2 29) ≡ false)
unfolding is_date month_days leap
no_dates = (refl, refl, refl, refl, refl)

-- a year, month, day or millisecond of -1
negative : (count_from (negsuc 0) (pos 1) (pos 1) (pos 0) ≡ None) × (count_from (pos 1) (negsuc 0) (pos 1) (pos 0) ≡ None)
    × (count_from (pos 1) (pos 1) (negsuc 0) (pos 0) ≡ None) × (count_from (pos 1) (pos 1) (pos 1) (negsuc 0) ≡ None)
unfolding count_from
negative = (refl, refl, refl, refl)

-- 0, 1 and the last epoch, by their bits
wholes : (count_of (of_bits binary64 0) ≡ Some 0) × (count_of (of_bits binary64 0x3ff0_0000_0000_0000) ≡ Some 1)
    × (count_of (of_bits binary64 0x42f1_f024_1243_bff0) ≡ Some 315569519999999)
unfolding count_of of_bits
wholes = (refl, refl, refl)

-- a NaN, the infinities, negative zero, -1, -0.5, 0.5, what is one unit in the last place or one millisecond past the last epoch
others : (count_of nan ≡ None) × (count_of (inf true) ≡ None) × (count_of (inf false) ≡ None)
    × (count_of (of_bits binary64 0x8000_0000_0000_0000) ≡ None) × (count_of (of_bits binary64 0xbff0_0000_0000_0000) ≡ None)
    × (count_of (of_bits binary64 0xbfe0_0000_0000_0000) ≡ None) × (count_of (of_bits binary64 0x3fe0_0000_0000_0000) ≡ None)
    × (count_of (of_bits binary64 0x42f1_f024_1243_bff1) ≡ None) × (count_of (of_bits binary64 0x42f1_f024_1243_c000) ≡ None)
unfolding count_of of_bits
others = (refl, refl, refl, refl, refl, refl, refl, refl, refl)

-- what is shown: the last millisecond of the first day; the caller's numbers at 27; no difference from negative zero
shown : (date_shown (Some 86399999) (pos 5) (pos 6) (pos 7) (pos 8) ≡ shown_date (pos 0) (pos 0) (pos 1) (pos 1) (pos 86399999))
    × (date_shown None (pos 5) (pos 6) (pos 7) (pos 8) ≡ shown_date (pos 27) (pos 5) (pos 6) (pos 7) (pos 8))
    × ((x : Float) → difference_shown (of_bits binary64 0) (of_bits binary64 0x8000_0000_0000_0000) x ≡ shown_double (pos 27) x)
unfolding date_shown date_of difference_shown is_epoch count_of of_bits
shown = (refl, refl, λ x. refl)

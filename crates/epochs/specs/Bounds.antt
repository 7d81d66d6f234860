-- Bounds that the code needs. Assumes nothing.
use Rattle.std.specs.Prelude.{ℕ, suc, ◌+◌, ◌≤◌, ◌<◌, ◌≡◌, Bool, cond}
use Rattle.epochs.specs.declared.calendar.Date.{Date}
use Rattle.epochs.specs.Calendar.{leap, days_before_month, days_before_year}

-- the day n is the day d of the year y, both counted from 0
pub record InYear (n y d : ℕ) : Type 0 where
  pub year : y ≤ 9999
  pub sum : days_before_year y + d ≡ n
  pub day : d < cond (leap y) 366 365

-- the day d of a year, counted from 0, is one of the month m
pub record InMonth (l : Bool) (d m : ℕ) : Type 0 where
  pub first : 1 ≤ m
  pub last : m ≤ 12
  pub from : days_before_month l m ≤ d
  pub to : d < days_before_month l (suc m)

-- the numbers of a date of the years 0 to 9999
pub record DateFits (d : Date) : Type 0 where
  pub year : d.year ≤ 9999
  pub month : d.month ≤ 12
  pub day : d.day ≤ 31

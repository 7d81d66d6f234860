-- Bounds that the code needs. Assumes nothing.
use Rattle.std.specs.Prelude.{ℕ, ◌+◌, ◌≤◌, ◌<◌, ◌≡◌, List, length}
use Rattle.format.specs.Fields.{nat_at}
use Rattle.records.specs.Index.{Entry}

-- the bounds of a range that is right
pub record Ranged (f : List ℕ) (first last offset : ℕ) : Type 0 where
  pub order : nat_at f first ≤ nat_at f last
  pub last_lies : last + 4 ≤ length f
  pub offset_lies : offset + 4 ≤ length f

-- the bounds of an entry that was looked at
pub record Bounds (f : List ℕ) (x : ℕ) (e : Entry) : Type 0 where
  pub order : e.first ≤ e.last
  pub small : e.last < 2147483648
  pub link : e.link < 2147483648
  pub inside : e.fault ≡ 0 → x + 20 ≤ length f

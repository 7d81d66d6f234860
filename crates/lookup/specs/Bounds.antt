-- The bounds with which the code counts: those that a file which opens gives, and those of what is found in an index. Assumes nothing.
use Rattle.std.specs.Prelude.{ℕ, ◌+◌, ◌*◌, ◌≤◌, ◌<◌, List, length}
use Rattle.records.specs.Layout.{r_dim_sizes_at}
use Rattle.records.specs.Opening.{gdr_at, r_num_dims}
use Rattle.records.specs.declared.index.Range.{Range}
use Rattle.lookup.specs.declared.indexes.Scan.{Scan}
use Rattle.lookup.specs.declared.indexes.Scan.TheVariants.{Covering, Passed}

-- of a file and the part b before its end: the length is one that an offset can say, and the GDR lies before the end
pub record Opened (f b : List ℕ) : Type 0 where
  pub short : length f < 2147483648
  pub part : length b ≤ length f
  pub long : 372 ≤ length b
  pub gdr : r_dim_sizes_at (gdr_at b) + 4 * r_num_dims b (gdr_at b) ≤ length b

-- of an entry that covers record r
pub record EntryFits (r : ℕ) (e : Range) : Type 0 where
  pub first : e.first ≤ r
  pub last : r ≤ e.last
  pub small : e.last < 2147483648
  pub link : e.link < 2147483648

-- of what the used entries of a VXR say
abbrev pub ScanFits : ℕ → Scan → Type 0
ScanFits r (Covering e) = EntryFits r e
ScanFits r (Passed floor) = floor ≤ 2147483648

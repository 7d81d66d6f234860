-- The offset of the GDR, and what an index entry says, are below 2 ^ 31. Assumes nothing.
use mathlib.Core.List.{List}
use Prim.Native.Nat.{ℕ, ◌<◌}
use native.Mathlib.Omega.{arith}
use Rattle.format.proofs.FieldRanges.{nat_small, link_small}
use Rattle.records.specs.Opening.{gdr_at}
use Rattle.records.specs.Index.{entries_at, first_field_at, last_field_at, offset_field_at, entry_fault, entry_of}
use Rattle.records.proofs.Ranges.{entry_cases}
use Rattle.records.specs.Index as E

module _ (f : List ℕ) where
  pub gdr_small : gdr_at f < 2147483648
  unfolding gdr_at
  gdr_small = link_small f 16

  pub record EntrySmall (e : E.Entry) : Type 0 where
    pub first_small : e.first < 2147483648
    pub last_small : e.last < 2147483648
    pub named_small : e.link < 2147483648

  fault_small : (v : ℕ) → EntrySmall (entry_fault v)
  fault_small v = record { first_small = omega arith; last_small = omega arith; named_small = omega arith }

  pub entry_small : (x i floor most : ℕ) → EntrySmall (entry_of f x i floor most)
  entry_small x i floor most =
      entry_cases f x i floor most EntrySmall (fault_small 12) (fault_small 20) (λ _.
      record {
        first_small = nat_small f (first_field_at x i);
        last_small = nat_small f (last_field_at x (entries_at f x) i);
        named_small = link_small f (offset_field_at x (entries_at f x) i);
      })

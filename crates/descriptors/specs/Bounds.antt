-- The bounds with which the code reads a record that a way has found. Assumes nothing.
use Rattle.std.specs.Prelude.{ℕ, ◌<◌, cond, List, length, eqb}
use Rattle.variables.specs.Bounds.{LayoutInside}
use Rattle.lookup.specs.Lists.{is_entry_kind}
use Rattle.variables.specs.declared.vdr.Layout.{Layout}

-- the bytes of a record's fields, by its type: an ADR's, an AEDR's, a zVDR's up to its number of dimensions, an rVDR's
abbrev pub field_bytes : ℕ → ℕ
field_bytes t = cond (eqb t 4) 116 (cond (is_entry_kind t) 48 (cond (eqb t 8) 132 128))

-- the sizes and variances of dimensions lie in the bytes f, which are no more than an offset can say
pub record Lie (f : List ℕ) (l : Layout) : Type 0 where
  pub rows : LayoutInside f l
  pub short : length f < 2147483648

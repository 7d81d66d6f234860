-- Bounds that the code needs. Assumes nothing.
use Rattle.std.specs.Prelude.{ℕ, ◌+◌, ◌*◌, ◌≤◌, ◌<◌, List, length}
use Rattle.variables.specs.declared.vdr.Layout.{Layout}

-- offsets that the code can count with
pub record LayoutFits (l : Layout) : Type 0 where
  pub count : l.count < 2147483648
  pub sizes : l.sizes < 1099511627776
  pub variances : l.variances < 1099511627776

-- the sizes and variances of dimensions lie in the bytes f
pub record LayoutInside (f : List ℕ) (l : Layout) : Type 0 where
  pub sizes : l.sizes + 4 * l.count ≤ length f
  pub variances : l.variances + 4 * l.count ≤ length f

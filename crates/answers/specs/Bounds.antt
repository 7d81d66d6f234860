-- The bounds with which the code counts. Assumes nothing.
use Rattle.std.specs.Prelude.{ℕ, ◌+◌, ◌*◌, ◌≤◌, ◌<◌, List, length}
use Rattle.variables.specs.declared.vdr.Shape.{Shape}

-- bytes f, no more than an offset can say, and a record whose first n bytes they hold
pub record Inside (f : List ℕ) (o n : ℕ) : Type 0 where
  pub short : length f < 2147483648
  pub long : 32 < length f
  pub bytes : o + n ≤ length f

-- bytes f, no more than an offset can say, that hold the CDR's encoding, a data type at t and a count of elements at c
pub record ElementFields (f : List ℕ) (t c : ℕ) : Type 0 where
  pub short : length f < 2147483648
  pub long : 32 ≤ length f
  pub typed : t + 4 ≤ length f
  pub counted : c + 4 ≤ length f

-- a variable whose bytes are those of a VDR that keeps its rule
pub record Fits (u : Shape) : Type 0 where
  pub value : u.value ≤ 2147483648
  pub bytes : u.bytes ≤ 2147483648
  pub variances : u.dimensions.variances + 4 * u.dimensions.count < 4611686018427387904

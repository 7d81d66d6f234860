-- A variable of a file whose length an offset can say has bounds that the code can count with. Assumes nothing.
use mathlib.Core.List.{List}
use Prim.Native.Nat.{ℕ, ◌<◌}
use native.Mathlib.Omega.{arith}
use lib.ListN.{length}
use Rattle.variables.specs.Vdr.{variable_of, shape_of}
use Rattle.variables.proofs.Rule.{of_variable}
use Rattle.answers.specs.Bounds.{Fits}

pub variable_fits : (f : List ℕ) (k o : ℕ) → length f < 2147483648 → Fits (shape_of (variable_of f k o))
variable_fits f k o h =
    let d = of_variable f k o in
    record { value = d.value; bytes = d.bytes; variances = omega (arith, d.rows.variances) }

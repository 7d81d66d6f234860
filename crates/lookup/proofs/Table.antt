-- Every refusal has a number of the table. Assumes nothing.
use mathlib.Core.Path.{refl}
use Rattle.lookup.specs.Refusals.{InTable}
use Rattle.lookup.specs.declared.refusals.Refusal.TheVariants.{Breach, NoSuch, NoNumber, Gap, OutOfRange, Operand}

pub in_table : InTable
in_table Breach = refl
in_table NoSuch = refl
in_table NoNumber = refl
in_table Gap = refl
in_table OutOfRange = refl
in_table Operand = refl

-- Data types: element size and kind of value. Assumes nothing.
use Rattle.std.specs.Prelude.{ℕ, List, [], ◌∷◌, Option, None, Some}
use Rattle.format.specs.declared.types.DataType.{DataType}
use Rattle.format.specs.declared.types.Kind.{Kind}
use Rattle.format.specs.declared.types.Kind.TheVariants.{Signed, Unsigned, Single, Double, Code}
use Rattle.format.specs.Tables.{lookup}

-- the kinds of a value answer, by their numbers
abbrev pub signed : ℕ
signed = 0

abbrev pub unsigned : ℕ
unsigned = 1

abbrev pub single : ℕ
single = 2

abbrev pub double : ℕ
double = 3

abbrev pub code : ℕ
code = 4

abbrev pub kind_number : Kind → ℕ
kind_number Signed = signed
kind_number Unsigned = unsigned
kind_number Single = single
kind_number Double = double
kind_number Code = code

abbrev pub takes : ℕ → Kind → DataType
takes n k = record { size = n; kind = k }

-- 3.6: "types 1, 11, 41, 51, 52 take 1 byte; 2, 12 take 2; 4, 14, 21, 44 take 4; 22, 31, 45 take 8"
abbrev pub types : List (ℕ × DataType)
types =
    (1, takes 1 Signed)
    ∷ (11, takes 1 Unsigned)
    ∷ (41, takes 1 Signed)
    ∷ (51, takes 1 Code)
    ∷ (52, takes 1 Code)
    ∷ (2, takes 2 Signed)
    ∷ (12, takes 2 Unsigned)
    ∷ (4, takes 4 Signed)
    ∷ (14, takes 4 Unsigned)
    ∷ (21, takes 4 Single)
    ∷ (44, takes 4 Single)
    ∷ (22, takes 8 Double)
    ∷ (31, takes 8 Double)
    ∷ (45, takes 8 Double)
    ∷ []

unfoldable pub type_of : ℕ → Option DataType
type_of t = lookup types t

-- the bytes of an element: a number that is no data type takes 0
abbrev pub size_in : Option DataType → ℕ
size_in None = 0
size_in (Some d) = d.size

-- the number of the kind of its value: signed for a number that is no data type
abbrev pub kind_in : Option DataType → ℕ
kind_in None = signed
kind_in (Some d) = kind_number d.kind

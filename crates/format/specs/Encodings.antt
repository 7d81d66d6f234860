-- Encodings: byte order and float kind. Assumes nothing.
use Rattle.std.specs.Prelude.{ℕ, List, [], ◌∷◌, Option, None, Some}
use Rattle.format.specs.declared.encodings.Encoding.{Encoding}
use Rattle.format.specs.declared.encodings.ByteOrder.{ByteOrder}
use Rattle.format.specs.declared.encodings.ByteOrder.TheVariants.{Big, Little}
use Rattle.format.specs.declared.encodings.FloatKind.{FloatKind}
use Rattle.format.specs.declared.encodings.FloatKind.TheVariants.{Ieee, VaxD, VaxG}
use Rattle.format.specs.Tables.{lookup}

-- byte orders by their numbers, 0 for none
abbrev pub big : ℕ
big = 1

abbrev pub little : ℕ
little = 2

abbrev pub order_number : ByteOrder → ℕ
order_number Big = big
order_number Little = little

-- float kinds by their numbers: IEEE 754, and VAX floats whose doubles are D_FLOAT or G_FLOAT
abbrev pub ieee : ℕ
ieee = 1

abbrev pub vax_d : ℕ
vax_d = 2

abbrev pub vax_g : ℕ
vax_g = 3

abbrev pub float_number : FloatKind → ℕ
float_number Ieee = ieee
float_number VaxD = vax_d
float_number VaxG = vax_g

abbrev pub stores : ByteOrder → FloatKind → Encoding
stores o f = record { order = o; float = f }

-- 3.8: "Encodings 1, 2, 5, 7, 9, 11, 12 are big-endian, the rest little-endian; 3, 14, 15 have VAX floats"; "one of 1 to 7, 9, 11 to 16"
abbrev pub encodings : List (ℕ × Encoding)
encodings =
    (1, stores Big Ieee)
    ∷ (2, stores Big Ieee)
    ∷ (5, stores Big Ieee)
    ∷ (7, stores Big Ieee)
    ∷ (9, stores Big Ieee)
    ∷ (11, stores Big Ieee)
    ∷ (12, stores Big Ieee)
    ∷ (3, stores Little VaxD)
    ∷ (4, stores Little Ieee)
    ∷ (6, stores Little Ieee)
    ∷ (13, stores Little Ieee)
    ∷ (14, stores Little VaxD)
    ∷ (15, stores Little VaxG)
    ∷ (16, stores Little Ieee)
    ∷ []

unfoldable pub encoding_of : ℕ → Option Encoding
encoding_of e = lookup encodings e

-- the number of the byte order: a number that is no encoding has none
abbrev pub order_in : Option Encoding → ℕ
order_in None = 0
order_in (Some c) = order_number c.order

-- the number of the float kind, 0 for none
abbrev pub float_in : Option Encoding → ℕ
float_in None = 0
float_in (Some c) = float_number c.float

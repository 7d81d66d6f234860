-- Where the bits of an F_FLOAT, a D_FLOAT and a G_FLOAT stand in its bytes: the rows of tables 5.4, 5.7 and 5.8 of the format description: 15.2.
-- Assumes nothing.
use Rattle.std.specs.Prelude.{ℕ, suc, ◌+◌, ◌-◌, ◌*◌, ◌/◌, ◌%◌, ◌^◌, List, [], ◌∷◌, get_or}

-- a row: bits low to high of a byte are a field's bits from `from` on
pub record Row : Type 0 where
  pub byte : ℕ
  pub low : ℕ
  pub high : ℕ
  pub from : ℕ

abbrev pub row : ℕ → ℕ → ℕ → ℕ → Row
row byte low high from = record { byte = byte; low = low; high = high; from = from }

-- the field that rows make of the bytes at an offset
abbrev pub part : List ℕ → ℕ → Row → ℕ
part f at r = get_or f (at + r.byte) 0 / 2 ^ r.low % 2 ^ (suc r.high - r.low) * 2 ^ r.from

abbrev pub parts : List ℕ → ℕ → List Row → ℕ
parts f at [] = 0
parts f at (r ∷ rs) = part f at r + parts f at rs

-- a kind of VAX float: the rows of its fields, how many bits the mantissa has, and the offset that its exponent counts from. The tables do not give the
-- offset; the appendices do, by the least values: exponent 01 and mantissa 0 of an F_FLOAT are 2.9387358771e-39, of a D_FLOAT 2.93873587705571877e-039, which
-- is 2 ^ -128, and exponent 001 and mantissa 0 of a G_FLOAT are 5.56268464626800346e-309, which is 2 ^ -1024. They are 0.1 (binary) * 2 ^ (1 - offset).
pub record Kind : Type 0 where
  pub sign : List Row
  pub exponent : List Row
  pub mantissa : List Row
  pub width : ℕ
  pub offset : ℕ

-- table 5.4: "eight exponent bits (numbered 0 through 7), and 23 mantissa bits"
abbrev pub ffloat : Kind
ffloat = record {
  sign = row 1 7 7 0 ∷ [];
  exponent = row 0 7 7 0 ∷ row 1 0 6 1 ∷ [];
  mantissa = row 0 0 6 16 ∷ row 2 0 7 0 ∷ row 3 0 7 8 ∷ [];
  width = 23;
  offset = 128;
}

-- table 5.7: "eight exponent bits (numbered 0 through 7), and 55 mantissa bits"
abbrev pub dfloat : Kind
dfloat = record {
  sign = row 1 7 7 0 ∷ [];
  exponent = row 0 7 7 0 ∷ row 1 0 6 1 ∷ [];
  mantissa = row 0 0 6 48 ∷ row 2 0 7 32 ∷ row 3 0 7 40 ∷ row 4 0 7 16 ∷ row 5 0 7 24 ∷ row 6 0 7 0 ∷ row 7 0 7 8 ∷ [];
  width = 55;
  offset = 128;
}

-- table 5.8: "eleven exponent bits (numbered 0 through 10), and 52 mantissa bits"
abbrev pub gfloat : Kind
gfloat = record {
  sign = row 1 7 7 0 ∷ [];
  exponent = row 0 4 7 0 ∷ row 1 0 6 4 ∷ [];
  mantissa = row 0 0 3 48 ∷ row 2 0 7 32 ∷ row 3 0 7 40 ∷ row 4 0 7 16 ∷ row 5 0 7 24 ∷ row 6 0 7 0 ∷ row 7 0 7 8 ∷ [];
  width = 52;
  offset = 1024;
}

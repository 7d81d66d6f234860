-- The place of an element in a record, by majority and variances. Assumes nothing.
use Rattle.std.specs.Prelude.{ℕ, zero, suc, ◌+◌, ◌-◌, ◌*◌, Bool, true, cond, ◌&&◌, List, length, get_or, leb, eqb, ℤ, pos, negsuc, Option, Some, None}
use Rattle.std.specs.Int.Signed.{le_z, lt_z}
use Rattle.format.specs.Fields.{end_of, is_at, nat_at, nat_or}
use Rattle.variables.specs.Limit.{capped}
use Rattle.variables.specs.declared.vdr.Layout.{Layout}

-- 14.3: "Row majority: last varying index runs fastest; column: first": of n dimensions, the j-th from the slowest
abbrev pub slower : Bool → ℕ → ℕ → ℕ
slower row n j = cond row j (n - suc j)

-- a dimension's index moves the place; 14.4: "A dimension of false variance takes any index below its size and moves nothing"
abbrev pub moved : Bool → ℕ → ℕ → ℕ → ℕ
moved varies size index place = cond varies (place * size + index) place

-- the place after the j slowest of n dimensions, given by size, variance and index
unfoldable pub place_after : Bool → ℕ → (ℕ → ℕ) → (ℕ → Bool) → (ℕ → ℕ) → ℕ → ℕ
place_after row n size varies index zero = 0
place_after row n size varies index (suc j) =
    let d = slower row n j in
    moved (varies d) (size d) (index d) (place_after row n size varies index j)

-- the place among n dimensions
abbrev pub place_among : Bool → ℕ → (ℕ → ℕ) → (ℕ → Bool) → (ℕ → ℕ) → ℕ
place_among row n size varies index = place_after row n size varies index n

-- dimension d: its size and variance in the file, and its index, a negative one as 0
abbrev pub size_of : List ℕ → ℕ → ℕ → ℕ
size_of f p d = nat_at f (p + 4 * d)

abbrev pub varies_of : List ℕ → ℕ → ℕ → Bool
varies_of f q d = is_at f (q + 4 * d) (negsuc 0)

abbrev pub index_of : List ℤ → ℕ → ℕ
index_of is d = nat_or 0 (get_or is d (pos 0))

-- the place that indices give among the dimensions of a variable
unfoldable pub element_place : List ℕ → Layout → Bool → List ℤ → ℕ
element_place f l row is = place_among row l.count (size_of f l.sizes) (varies_of f l.variances) (index_of is)

-- an index is 0 or more and below its dimension's size
abbrev pub index_right : ℤ → ℕ → Bool
index_right i size = le_z (pos 0) i && lt_z i (pos size)

-- the first n indices are right for the sizes from p on
unfoldable pub indices_right : List ℕ → ℕ → List ℤ → ℕ → Bool
indices_right f p is zero = true
indices_right f p is (suc n) = indices_right f p is n && index_right (get_or is n (pos 0)) (size_of f p n)

-- n fields from p on lie before the file's end
unfoldable pub row_fits : List ℕ → ℕ → ℕ → Bool
row_fits f p n = leb (p + 4 * n) (end_of f)

-- the indices give a place: as many as the dimensions, and each right; the dimensions lie before the file's end
unfoldable pub placed : List ℕ → Layout → List ℤ → Bool
placed f l is =
    eqb (length is) l.count
    && row_fits f l.sizes l.count
    && row_fits f l.variances l.count
    && indices_right f l.sizes is l.count

-- the place that indices give in a record of a variable with these dimensions
unfoldable pub place_of : List ℕ → Layout → Bool → List ℤ → Option ℕ
place_of f l row is = cond (placed f l is) (Some (capped (element_place f l row is))) None

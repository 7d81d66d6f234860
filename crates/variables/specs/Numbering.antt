-- PLACES ARE A NUMBERING of the values of a record: the places that right indices give are the numbers below the number of its values, each
-- of one choice of indices in the varying dimensions, and in the order of the majority. So two values of a record share no byte. Assumes
-- nothing.
use Rattle.std.specs.Prelude.{ℕ, ◌+◌, ◌*◌, ◌≤◌, ◌<◌, ◌≡◌, ◌↔◌, ◌⊎◌, Bool, true, false, List, length, get_or, ℤ, pos}
use Rattle.format.specs.Fields.{nat_at}
use Rattle.records.specs.Layout.{data_type_at, elements_at}
use Rattle.records.specs.Attributes.{element_size}
use Rattle.variables.specs.declared.vdr.Layout.{Layout}
use Rattle.variables.specs.Bounds.{LayoutInside}
use Rattle.variables.specs.Vdr.{dimensions_right, value_bytes, values_per_record, record_bytes}
use Rattle.variables.specs.Place.{size_of, varies_of, index_of, element_place, index_right, placed}

-- in dimension d the indices `is` and `js` are the same, or its variance is false
abbrev pub SameIndex : List ℕ → Layout → List ℤ → List ℤ → ℕ → Type 0
SameIndex f l is js d = varies_of f l.variances d ≡ true → index_of is d ≡ index_of js d

-- 14.3: "Row majority: last varying index runs fastest; column: first": dimension e runs slower than d
abbrev pub RunsSlower : Bool → ℕ → ℕ → Type 0
RunsSlower true e d = e < d
RunsSlower false e d = d < e

pub record Numbers (f : List ℕ) (l : Layout) (row : Bool) : Type 0 where
  -- the indices that give a place: as many as dimensions, each below its dimension's size; 14.4: "A dimension of false variance takes any index
  -- below its size"
  pub right : (is : List ℤ) → (placed f l is ≡ true) ↔ ((length is ≡ l.count) × ((d : ℕ) → d < l.count → index_right (get_or is d (pos 0)) (size_of f l.sizes d) ≡ true))
  -- a place lies below the number of values; 5.13: "the sizes of dimensions whose variance is true", multiplied
  pub below : (is : List ℤ) → placed f l is ≡ true → element_place f l row is < values_per_record f l.count l.sizes l.variances
  -- every number below that is the place of some indices
  pub met : (p : ℕ) → p < values_per_record f l.count l.sizes l.variances → (is : List ℤ) × (placed f l is ≡ true) × (element_place f l row is ≡ p)
  -- different indices of a varying dimension have different places: those with one place are the same there
  pub differ : (is js : List ℤ) → placed f l is ≡ true → placed f l js ≡ true → element_place f l row is ≡ element_place f l row js
      → (d : ℕ) → d < l.count → SameIndex f l is js d
  -- indices that are the same in every varying dimension have one place; 14.4: "A dimension of false variance .. moves nothing"
  pub same : (is js : List ℤ) → ((d : ℕ) → d < l.count → SameIndex f l is js d) → element_place f l row is ≡ element_place f l row js
  -- of indices that are the same in every slower varying dimension the larger one has the larger place
  pub order : (is js : List ℤ) → placed f l is ≡ true → placed f l js ≡ true
      → (d : ℕ) → d < l.count → varies_of f l.variances d ≡ true → index_of is d < index_of js d
      → ((e : ℕ) → e < l.count → RunsSlower row e d → SameIndex f l is js e)
      → element_place f l row is < element_place f l row js

-- of dimensions that keep 5.11, "Each dimension's size is 1 or more", and lie in the bytes
abbrev pub PlacesNumber : Type 0
PlacesNumber = (f : List ℕ) (l : Layout) (row : Bool) → LayoutInside f l → dimensions_right f l ≡ true → Numbers f l row

-- ---- VALUES LIE APART: what the numbering says of bytes

-- 14.7: "place × elements × element size + element × element size": where element x of the value at the indices `is` begins in a record of
-- the VDR at v
abbrev pub element_begins : List ℕ → ℕ → Layout → Bool → List ℤ → ℕ → ℕ
element_begins f v l row is x = element_place f l row is * value_bytes f v + x * element_size f (data_type_at v)

-- n bytes from a on and n bytes from b on: one part ends at or before the other begins
abbrev pub Apart : ℕ → ℕ → ℕ → Type 0
Apart n a b = (a + n ≤ b) ⊎ (b + n ≤ a)

-- of right indices and elements that are there
pub record LieApart (f : List ℕ) (v : ℕ) (l : Layout) (row : Bool) : Type 0 where
  -- an element lies in the bytes of its record
  pub inside : (is : List ℤ) (x : ℕ) → placed f l is ≡ true → x < nat_at f (elements_at v)
      → element_begins f v l row is x + element_size f (data_type_at v) ≤ record_bytes f v l
  -- two elements are one, by their varying indices and their number, or have no byte in common
  pub apart : (is js : List ℤ) (x y : ℕ) → placed f l is ≡ true → placed f l js ≡ true → x < nat_at f (elements_at v) → y < nat_at f (elements_at v)
      → (((d : ℕ) → d < l.count → SameIndex f l is js d) × (x ≡ y))
      ⊎ Apart (element_size f (data_type_at v)) (element_begins f v l row is x) (element_begins f v l row js y)

abbrev pub ValuesApart : Type 0
ValuesApart = (f : List ℕ) (v : ℕ) (l : Layout) (row : Bool) → LieApart f v l row

-- Tables of numbered rows. Assumes nothing.
use mathlib.Core.Path.{refl}
use mathlib.Core.Bool.{Bool, true, false, cond, ◌&&◌, ◌||◌}
use mathlib.Core.List.{List, [], ◌∷◌}
use Prim.Native.Nat.{ℕ, ◌≤◌}
use lib.Dec.{leb, eqb, T, leb→le}
use native.Mathlib.Omega.{arith}
use mir.Facts.{and_yes}
use Rattle.std.specs.Prelude.{◌≡◌, Option, None, Some, is_some}
use Rattle.format.specs.declared.encodings.ByteOrder.{ByteOrder}
use Rattle.format.specs.declared.encodings.ByteOrder.TheVariants.{Big, Little}
use Rattle.format.specs.declared.encodings.Encoding.{Encoding}
use Rattle.format.specs.declared.types.DataType.{DataType}
use Rattle.format.specs.declared.types.Kind.{Kind}
use Rattle.format.specs.Encodings.{order_number, order_in}
use Rattle.format.specs.Tables.{lookup}
use Rattle.format.specs.Types.{type_of, types, takes, size_in}

-- all rows pass a test
abbrev pub rows_pass : {A : Type 0} → (A → Bool) → List (ℕ × A) → Bool
rows_pass t [] = true
rows_pass t (p ∷ ps) = t p.1 && rows_pass t ps

-- a row that passes a test, or none
abbrev pub row_passes : {A : Type 0} → (A → Bool) → Option A → Bool
row_passes t None = true
row_passes t (Some a) = t a

-- where all rows pass, so does what is looked up
pub lookup_passes : {A : Type 0} (t : A → Bool) (ps : List (ℕ × A)) (x : ℕ) → T (rows_pass t ps) → T (row_passes t (lookup ps x))
lookup_passes t [] x h = tt
lookup_passes t (p ∷ ps) x h =
    let both = and_yes (t p.1) (rows_pass t ps) h in
    go (eqb x p.0) both.0 (lookup_passes t ps x both.1)
  where
    go : (b : Bool) → T (t p.1) → T (row_passes t (lookup ps x)) → T (row_passes t (cond b (Some p.1) (lookup ps x)))
    go true h k = h
    go false h k = k

-- no element is longer than 8 bytes
pub type_small : (t : ℕ) → size_in (type_of t) ≤ 8
unfolding type_of
type_small t = go (lookup types t) (lookup_passes (λ (d : DataType). leb d.size 8) types t tt)
  where
    go : (d : Option DataType) → T (row_passes (λ (d : DataType). leb d.size 8) d) → size_in d ≤ 8
    go None h = omega arith
    go (Some d) h = leb→le d.size 8 h

pick_size : (b : Bool) (n : ℕ) (k : Kind) (d : Option DataType) → size_in (cond b (Some (takes n k)) d) ≡ cond b n (size_in d)
pick_size true n k d = refl
pick_size false n k d = refl

or_cond : (a b : Bool) (x y : ℕ) → cond (a || b) x y ≡ cond a x (cond b x y)
or_cond true b x y = refl
or_cond false b x y = refl

-- sizes by groups of data types, in the order of the rows
abbrev pub size_by_lem : ℕ → ℕ
size_by_lem t =
    cond (eqb t 1 || eqb t 11 || eqb t 41 || eqb t 51 || eqb t 52) 1
    (cond (eqb t 2 || eqb t 12) 2 (cond (eqb t 4 || eqb t 14 || eqb t 21 || eqb t 44) 4 (cond (eqb t 22 || eqb t 31 || eqb t 45) 8 0)))

pub size_by : (t : ℕ) → size_in (type_of t) ≡ size_by_lem t
unfolding type_of
size_by t = simp (pick_size, or_cond)

-- a number is an encoding exactly if it has a byte order
pub some_order : (c : Option Encoding) → is_some c ≡ leb 1 (order_in c)
some_order None = refl
some_order (Some c) = go c.order
  where
    go : (o : ByteOrder) → true ≡ leb 1 (order_number o)
    go Big = refl
    go Little = refl

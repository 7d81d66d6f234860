-- A record that a way has found lies before the end of the file up to the end of its fields. Assumes nothing.
use mathlib.Core.Path.{◌≡◌, refl, subst}
use mathlib.Core.Bool.{Bool, true, false}
use mathlib.Core.List.{List}
use Prim.Native.Nat.{ℕ, ◌+◌, ◌*◌, ◌≤◌}
use native.Mathlib.Omega.{arith}
use lib.IntN.{ℤ, pos}
use lib.ListN.{length}
use Rattle.format.specs.Fields.{end_of, eq_z}
use Rattle.format.proofs.FieldRanges.{end_is}
use Rattle.records.specs.Opening.{body_of}
use Rattle.variables.specs.Vdr.{num_dims_at, layout_at, layout_of, variable_of}
use Rattle.variables.proofs.Rule.{vdr_reads, of_variable}
use Rattle.lookup.specs.Lists.{Way, kind_among, meets, variable_way, attribute_way, entry_way}
use Rattle.lookup.specs.declared.lists.Wanted.{Wanted}
use Rattle.lookup.specs.declared.lists.Met.{Met as MetRecord}
use Rattle.std.specs.Prelude.{Ok}
use Rattle.lookup.proofs.Sought.{Finds}
use Rattle.lookup.proofs.Found.{Met, variable_finds, attribute_finds, entry_finds, attribute_inside, entry_inside, variable_right, variable_inside}
use Rattle.descriptors.specs.Bounds.{field_bytes, Lie}

counted : (f : List ℕ) (o : ℕ) → (layout_of f 8 o).sizes + 4 * (layout_of f 8 o).count ≤ end_of f → o + 132 ≤ length f
unfolding layout_of layout_at num_dims_at
counted f o e = omega (arith, e, end_is f)

module _ (f : List ℕ) where
  variable_bytes : (k : ℤ) (o : ℕ) → meets f (kind_among 3 8 k) o ≡ true → o + field_bytes (kind_among 3 8 k) ≤ length f
  variable_bytes k o m = go (eq_z k (pos 3)) refl
    where
      go : (b : Bool) → eq_z k (pos 3) ≡ b → o + field_bytes (kind_among 3 8 k) ≤ length f
      go true e = rw e (variable_inside f o k m)
      go false e = rw e (counted f o (vdr_reads f 8 o (rw e at (variable_right f o k m))).sizes)

  entry_bytes : (k : ℤ) (o : ℕ) → meets f (kind_among 5 9 k) o ≡ true → o + field_bytes (kind_among 5 9 k) ≤ length f
  entry_bytes k o m = go (eq_z k (pos 5)) refl
    where
      go : (b : Bool) → eq_z k (pos 5) ≡ b → o + field_bytes (kind_among 5 9 k) ≤ length f
      go true e = rw e (entry_inside f o k m)
      go false e = rw e (entry_inside f o k m)

-- in a file, whose part before its end is b
module _ (f b : List ℕ) (part : b ≡ body_of f) where
  -- a record that a way has found holds as many bytes as each record that it can find
  holds : (t n : ℕ) → ((o : ℕ) → meets b t o ≡ true → o + n ≤ length b) → (way : Way) → Finds (Met f t) way → (m : MetRecord) → way ≡ Ok m → m.at + n ≤ length b
  holds t n h way found m e = h m.at (rw part (subst (Finds (Met f t)) e found).met)

  pub variable_holds : (k n : ℤ) (m : MetRecord) → variable_way f k n ≡ Ok m → m.at + field_bytes (kind_among 3 8 k) ≤ length b
  variable_holds k n = holds (kind_among 3 8 k) (field_bytes (kind_among 3 8 k)) (variable_bytes b k) (variable_way f k n) (variable_finds f k n)

  pub variable_named : (k n : ℤ) (m : MetRecord) → variable_way f k n ≡ Ok m → m.at + 128 ≤ length b
  variable_named k n = holds (kind_among 3 8 k) 128 (λ o m. variable_inside b o k m) (variable_way f k n) (variable_finds f k n)

  pub attribute_holds : (n : ℤ) (m : MetRecord) → attribute_way f n ≡ Ok m → m.at + 116 ≤ length b
  attribute_holds n = holds 4 116 (attribute_inside b) (attribute_way f n) (attribute_finds f n)

  pub entry_holds : (a k : ℤ) (w : Wanted) (m : MetRecord) → entry_way f a k w ≡ Ok m → m.at + field_bytes (kind_among 5 9 k) ≤ length b
  entry_holds a k w = holds (kind_among 5 9 k) (field_bytes (kind_among 5 9 k)) (entry_bytes b k) (entry_way f a k w) (entry_finds f a k w)

  -- the dimensions of a variable that was found lie in a file whose length an offset can say
  pub dimensions_lie : (k n : ℤ) (m : MetRecord) → variable_way f k n ≡ Ok m → Lie b (variable_of b (kind_among 3 8 k) m.at).dimensions
  dimensions_lie k n m e =
      let found = (subst (Finds (Met f (kind_among 3 8 k))) e (variable_finds f k n)).file in
      record { rows = (of_variable b (kind_among 3 8 k) m.at).rows; short = rw part (omega (arith, found.short, found.part)) }

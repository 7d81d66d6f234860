-- A record that a way has found lies in the file. Assumes nothing.
use mathlib.Core.Path.{◌≡◌, subst}
use mathlib.Core.Bool.{true}
use mathlib.Core.List.{List}
use Prim.Native.Nat.{ℕ, ◌+◌, ◌≤◌}
use native.Mathlib.Omega.{arith}
use lib.ListN.{length}
use lib.IntN.{ℤ, pos}
use Rattle.format.specs.Fields.{eq_z}
use Rattle.format.proofs.FieldRanges.{end_is}
use Rattle.records.specs.Opening.{body_of}
use Rattle.records.proofs.Fielded.{adr_law, aedr_law}
use Rattle.variables.specs.Vdr.{variable_of}
use Rattle.variables.proofs.Rule.{vdr_inside}
use Rattle.lookup.specs.Lists.{Way, meets, place_way, kind_among, variable_way, attribute_way, head_of_entries, entry_way}
use Rattle.lookup.specs.Bounds.{Opened}
use Rattle.lookup.specs.declared.lists.Met.{Met as MetRecord}
use Rattle.lookup.specs.declared.lists.Wanted.{Wanted}
use Rattle.lookup.proofs.Opening.{opened_inside}
use Rattle.lookup.proofs.Kept.{meets_parts, attribute_kept, entry_kept, variable_kept}
use Rattle.lookup.proofs.Sought.{Finds, first_met, Listed, listed_met, place_listed, InOpened, ToVariable, variable_found, attribute_found, ToEntry, entry_found}
use Rattle.std.specs.Prelude.{Ok, Err}

-- from one fact of what a way finds to another
so : (P Q : ℕ → Type 0) → ((o : ℕ) → P o → Q o) → (way : Way) → Finds P way → Finds Q way
so P Q h (Ok m) p = h m.at p
so P Q h (Err v) p = tt

-- a record of type t, met before the end of a file that opens
pub record Met (f : List ℕ) (t o : ℕ) : Type 0 where
  pub file : Opened f (body_of f)
  pub met : meets (body_of f) t o ≡ true

module _ (f : List ℕ) where
  pub place_finds : (t : ℕ) (n : ℤ) (left : ℕ) → Finds (λ o. meets f t o ≡ true) (place_way f t n left)
  place_finds t n left = so (Listed f t n) (λ o. meets f t o ≡ true) (listed_met f t n) (place_way f t n left) (place_listed f t n left)

  -- a record that is found in a file that opens was met there
  in_opened : (Fact : List ℕ → ℕ → Type 0) (t : ℕ) → ((o : ℕ) → Fact (body_of f) o → meets (body_of f) t o ≡ true) → (way : Way)
      → Finds (InOpened f Fact) way → Finds (Met f t) way
  in_opened Fact t h way r = so (InOpened f Fact) (Met f t) (λ o a. record { file = opened_inside f a.0; met = h o a.1 }) way r

  pub variable_finds : (k n : ℤ) → Finds (Met f (kind_among 3 8 k)) (variable_way f k n)
  variable_finds k n =
      in_opened (ToVariable k n) (kind_among 3 8 k) (λ o r. listed_met (body_of f) (kind_among 3 8 k) n o r.listed)
      (variable_way f k n) (variable_found f k n)

  pub attribute_finds : (n : ℤ) → Finds (Met f 4) (attribute_way f n)
  attribute_finds n = in_opened (λ l. Listed l 4 n) 4 (listed_met (body_of f) 4 n) (attribute_way f n) (attribute_found f n)

  pub entry_finds : (a k : ℤ) (w : Wanted) → Finds (Met f (kind_among 5 9 k)) (entry_way f a k w)
  entry_finds a k w =
      let t = kind_among 5 9 k in
      in_opened (ToEntry a k w) t (λ o r. first_met (body_of f) t w (head_of_entries r.adr t) 0 o r.entry)
      (entry_way f a k w) (entry_found f a k w)

-- by its kind
module _ (f : List ℕ) (o : ℕ) where
  pub attribute_inside : meets f 4 o ≡ true → o + 116 ≤ length f
  attribute_inside e = omega (arith, ((adr_law f o).0 (attribute_kept f o (meets_parts f 4 o e).1)).reach.lies, end_is f)

  pub entry_inside : (k : ℤ) → meets f (kind_among 5 9 k) o ≡ true → o + 48 ≤ length f
  entry_inside k e = omega (arith, ((aedr_law f o).0 (entry_kept f o (eq_z k (pos 5)) (meets_parts f (kind_among 5 9 k) o e).1)).reach.lies, end_is f)

  pub variable_right : (k : ℤ) → meets f (kind_among 3 8 k) o ≡ true → (variable_of f (kind_among 3 8 k) o).fault ≡ 0
  variable_right k e = (variable_kept f o (eq_z k (pos 3)) (meets_parts f (kind_among 3 8 k) o e).1).1

  pub variable_inside : (k : ℤ) → meets f (kind_among 3 8 k) o ≡ true → o + 128 ≤ length f
  variable_inside k e = vdr_inside f (kind_among 3 8 k) o (variable_right k e)

-- a variable that was found keeps its rule
pub found_right : (f b : List ℕ) → b ≡ body_of f → (k n : ℤ) (m : MetRecord) → variable_way f k n ≡ Ok m → (variable_of b (kind_among 3 8 k) m.at).fault ≡ 0
found_right f b part k n m e = rw part (variable_right (body_of f) m.at k (subst (Finds (Met f (kind_among 3 8 k))) e (variable_finds f k n)).met)

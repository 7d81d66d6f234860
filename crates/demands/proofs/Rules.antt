-- Three rules of acceptance beside what the walk's laws say: what gives the rule, and what it gives. Nothing here rests on another lemma
-- here, so an edit that weakens a rule is told at the half that fails. Assumes nothing.
use mathlib.Core.Path.{◌≡◌}
use mathlib.Core.Logic.{◌≢◌}
use mathlib.Core.Bool.{false}
use mathlib.Core.List.{List, ◌∷◌, ◌++◌}
use Prim.Native.Nat.{ℕ, zero}
use lib.IntN.{negsuc}
use Rattle.records.specs.Layout.{head_of_r_variables, nr_vars_at, r_max_rec_at, max_rec_at, head_of_z_variables, nz_vars_at, head_of_attributes, num_attr_at, head_of_unused}
use Rattle.records.specs.Rules.{typed_at}
use Rattle.records.specs.Opening.{gdr_at}
use Rattle.records.specs.Tree.{Slot}
use Rattle.demands.specs.Acceptance.{◌∈◌, Tiled, Greatest, VariablesRight, AttributesRight, UnusedRight, RangeRight, ValuesRight, EntryRight, Lists, ListsRight, Obeys, reached}

-- ---- an entry of the lowest level
pub lowest_right : (f : List ℕ) (k v : ℕ) (s : Slot) → RangeRight f s × ValuesRight f k v s → EntryRight f k v zero s
lowest_right f k v s e = (e.0, e.1)

pub lowest_parts : (f : List ℕ) (k v : ℕ) (s : Slot) → EntryRight f k v zero s → RangeRight f s × ValuesRight f k v s
lowest_parts f k v s e = (e.0, e.1)

-- ---- a record that is reached once
pub lists_right : (f : List ℕ) (l : Lists)
    → Tiled f 8 l.starts
    → VariablesRight f 3 (head_of_r_variables (gdr_at f)) (nr_vars_at (gdr_at f)) l.r_variables
    → Greatest f (r_max_rec_at (gdr_at f)) (λ v. max_rec_at v.vdr) l.r_variables
    → VariablesRight f 8 (head_of_z_variables (gdr_at f)) (nz_vars_at (gdr_at f)) l.z_variables
    → AttributesRight f (head_of_attributes (gdr_at f)) (num_attr_at (gdr_at f)) l.attributes
    → UnusedRight f (head_of_unused (gdr_at f)) l.unused
    → ((o : ℕ) → o ∈ reached f l → o ∈ l.starts)
    → ((earlier later : List ℕ) (o : ℕ) → reached f l ≡ earlier ++ (o ∷ later) → o ∈ later → ⊥)
    → ListsRight f l
lists_right f l tiled r_variables r_max_rec z_variables attributes unused landed once = record {
  tiled = tiled;
  r_variables = r_variables;
  r_max_rec = r_max_rec;
  z_variables = z_variables;
  attributes = attributes;
  unused = unused;
  landed = landed;
  once = λ earlier later d e i. once earlier later d e i;
}

pub reached_once : (f : List ℕ) (l : Lists) → ListsRight f l
    → (earlier later : List ℕ) (o : ℕ) → reached f l ≡ earlier ++ (o ∷ later) → o ∈ later → ⊥
reached_once f l b earlier later d e i = b.once earlier later d e i

-- ---- a record that is reached
pub lists_obey : (f : List ℕ) (l : Lists) → ListsRight f l
    → ((o : ℕ) → o ∈ l.starts → o ≢ 8 → typed_at f o (negsuc 0) ≡ false → o ∈ reached f l)
    → Obeys f l
lists_obey f l right all = record { right = right; all = λ o i n t. all o i n t }

pub all_reached : (f : List ℕ) (l : Lists) → Obeys f l
    → (o : ℕ) → o ∈ l.starts → o ≢ 8 → typed_at f o (negsuc 0) ≡ false → o ∈ reached f l
all_reached f l b o i n t = b.all o i n t

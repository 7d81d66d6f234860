-- A record that the reader meets keeps the rule of its type. Assumes nothing.
use mathlib.Core.Path.{◌≡◌, subst}
use mathlib.Core.Logic.{◌≢◌, ◌⊎◌, inl, inr, ⊎_elim}
use mathlib.Core.Bool.{Bool, true, false, cond}
use mathlib.Core.List.{List}
use Prim.Native.Nat.{ℕ}
use native.Mathlib.Omega.{arith}
use lib.Dec.{eqb}
use borrow.Author.Tests.{eqb-true}
use Rattle.format.specs.Fields.{link_at}
use Rattle.records.specs.Layout.{next_at}
use Rattle.records.specs.Attributes.{aedr_rule}
use Rattle.records.specs.Index.{vxr_rule}
use Rattle.records.specs.Tree.{Slot, named_by, names_index}
use Rattle.variables.specs.Vdr.{carried_of, variable_of}
use Rattle.lookup.specs.Lists.{lands_on, rule_kept, meets}
use Rattle.lookup.specs.Indexes.{index_met, lower_met}
use Rattle.format.proofs.Tests.{both}
use Rattle.format.proofs.FieldRanges.{end_is}
use Rattle.records.proofs.Fielded.{adr_law, aedr_law, vxr_law}
use Rattle.variables.proofs.Rule.{carried_reads, vdr_reads}
use Rattle.lookup.proofs.Kept.{Lies, lands_lies, meets_parts, attribute_kept, entry_kept, variable_kept}
use Rattle.demands.proofs.Costs.{head_least}
use Rattle.read_theorems.specs.Reading.{Lands, VdrKept, Kept, LowerMet}

-- the types of variables and of entries are not that of index records
pub variable_type : (b : Bool) → ◌≢◌ {A = ℕ} (cond b 3 8) 6
variable_type true e = absurd (omega (arith, e))
variable_type false e = absurd (omega (arith, e))

pub entry_type : (b : Bool) → ◌≢◌ {A = ℕ} (cond b 5 9) 6
entry_type true e = absurd (omega (arith, e))
entry_type false e = absurd (omega (arith, e))

module _ (f : List ℕ) where
  pub lies_lands : (t o : ℕ) → Lies f t o → Lands f t o
  lies_lands t o l = record { start = l.placed; inside = omega (arith, l.inside, end_is f); typed = l.typed }

  -- ---- a VDR: its Flags lie in the file, as all its fields do
  vdr_kept : (k o : ℕ) → (carried_of f o ≡ 0) × ((variable_of f k o).fault ≡ 0) → VdrKept f k o
  vdr_kept k o (c, e) =
      let p = vdr_reads f k o e in
      let r = p.reach in
      let h = head_least k in
      record {
        carried = carried_reads f o (record { begins = r.begins; holds = omega (arith, r.holds, h); lies = omega (arith, r.lies, h) }) c;
        fields = p.fields;
        count = p.count;
        exact = p.exact;
        dimensions = p.dimensions;
        bytes = p.small;
      }

  -- ---- a record of a list: a VDR, an ADR or an AEDR
  pub meets_kept : (t o : ℕ) → t ≢ 6 → meets f t o ≡ true → Kept f t o
  meets_kept t o other e = record {
    lands = lies_lands t o (meets_parts f t o e).0;
    vdr = vdr;
    adr = λ i. ((adr_law f o).0 (attribute_kept f o (rule 4 i))).right;
    aedr = λ i. ((aedr_law f o).0 (aedr i)).right;
    vxr = λ i. absurd (other i);
  }
    where
      rule : (u : ℕ) → t ≡ u → rule_kept f u o ≡ true
      rule u i = subst (λ (u : ℕ). rule_kept f u o ≡ true) i (meets_parts f t o e).1

      vdr : (t ≡ 3) ⊎ (t ≡ 8) → VdrKept f t o
      vdr (inl i) = rw i (vdr_kept 3 o (variable_kept f o true (rule 3 i)))
      vdr (inr i) = rw i (vdr_kept 8 o (variable_kept f o false (rule 8 i)))

      aedr : (t ≡ 5) ⊎ (t ≡ 9) → aedr_rule f o ≡ 0
      aedr (inl i) = entry_kept f o true (rule 5 i)
      aedr (inr i) = entry_kept f o false (rule 9 i)

  -- ---- a VXR
  pub index_kept : (x : ℕ) → index_met f x ≡ true → Kept f 6 x
  unfolding index_met
  index_kept x e =
      let a = both (lands_on f 6 x) (eqb (vxr_rule f x) 0) e in
      record {
        lands = lies_lands 6 x (lands_lies f 6 x a.0);
        vdr = ⊎_elim (λ i. absurd (omega (arith, i))) (λ i. absurd (omega (arith, i)));
        adr = λ i. absurd (omega (arith, i));
        aedr = ⊎_elim (λ i. absurd (omega (arith, i))) (λ i. absurd (omega (arith, i)));
        vxr = λ i. ((vxr_law f x).0 (eqb-true (vxr_rule f x) 0 a.1)).right;
      }

  -- one that an entry names
  pub lower_kept : (s : Slot) → names_index f s ≡ true → lower_met f (named_by f s) ≡ true → LowerMet f s
  unfolding lower_met
  lower_kept s i e =
      let next = link_at f (next_at (named_by f s)) in
      let a = both (index_met f (named_by f s)) (eqb next 0) e in
      record { named = i; rules = index_kept (named_by f s) a.0; alone = eqb-true next 0 a.1 }

-- The ways to variables, attributes and entries of an accepted file. Assumes nothing.
use mathlib.Core.Path.{◌≡◌, sym, subst}
use mathlib.Core.Logic.{◌≢◌, inl, inr}
use mathlib.Core.Bool.{Bool, true, cond}
use mathlib.Core.List.{List, [], ◌∷◌, ◌++◌, reverse_aux}
use Prim.Native.Nat.{ℕ, ◌+◌, ◌≤◌}
use native.Mathlib.Omega.{arith}
use lib.IntN.{pos}
use lib.ListN.{length, length-append}
use Rattle.format.specs.Fields.{is_at}
use Rattle.format.specs.Numbers.{unless}
use Rattle.format.proofs.Numbers.{zeros}
use Rattle.records.specs.Layout.{head_of_index, attr_num_at, head_of_gr_entries, head_of_z_entries, var_num_at}
use Rattle.records.specs.Attributes.{adr_rule, aedr_rule}
use Rattle.variables.specs.Vdr.{carried_of, variable_of}
use Rattle.walk.specs.Walk.{type_number, var_number, attr_number, num_number, entry_number}
use Rattle.lookup.specs.Lists.{Way, meets, sought}
use Rattle.lookup.specs.declared.lists.Wanted.{Wanted}
use Rattle.demands.specs.Acceptance.{◌∈◌, ListedVdr, ListedAdr, offsets, index_offsets, variable_offsets, attribute_offsets}
use Rattle.lookup.proofs.Kept.{parts_meet, kept_attribute, kept_entry, kept_variable}
use Rattle.variables.proofs.Rule.{VdrParts, vdr_reads}
use Rattle.demands.proofs.Records.{Stands, stands_nonzero, type_reads}
use Rattle.demands.proofs.Lists.{Rules, Listed}
use Rattle.demands.proofs.Nested.{chain_rules, vars_rules, entries_rules, attrs_rules}
use Rattle.demands.proofs.Splits.{split_in, each_in, listed_reads, length_earlier, offset_in, below_in}
use Rattle.read_theorems.proofs.Lists.{FoundIn, NoneIn, OnList, list_way}
use Rattle.read_theorems.proofs.Indexes.{stands_lies}
use Rattle.std.specs.Prelude.{Ok, Err}

-- ---- a list and what is below one of its records
below_more : {X : Type 0} (at : X → ℕ) (below : X → List ℕ) (xs : List X) → length xs ≤ length (offsets at below xs)
below_more at below [] = omega arith
below_more at below (y ∷ ys) = omega (arith, below_more at below ys, length-append (below y) (offsets at below ys))

below_all : {X : Type 0} (at : X → ℕ) (below : X → List ℕ) (xs : List X) (x : X) → x ∈ xs → length xs + length (below x) ≤ length (offsets at below xs)
below_all at below [] x i = absurd i
below_all at below (y ∷ ys) x (inl e) = rw e (omega (arith, below_more at below ys, length-append (below y) (offsets at below ys)))
below_all at below (y ∷ ys) x (inr i) = omega (arith, below_all at below ys x i, length-append (below y) (offsets at below ys))

module _ (f : List ℕ) where
  -- ---- records that keep their rules can be met
  var_meets : (b : Bool) (n o : ℕ) → Stands f o → type_number f o (pos (cond b 3 8)) ≡ 0 → var_number f (cond b 3 8) n o ≡ 0 → meets f (cond b 3 8) o ≡ true
  unfolding var_number
  var_meets b n o s t e =
      let p = zeros (carried_of f o ∷ (variable_of f (cond b 3 8) o).fault ∷ unless 11 (is_at f (var_num_at o) (pos n)) ∷ []) e in
      parts_meet f (cond b 3 8) o (stands_lies f (cond b 3 8) o s (type_reads f o (pos (cond b 3 8)) t).1) (kept_variable f o b (p 0) (p 1))

  var_parts : (k n o : ℕ) → var_number f k n o ≡ 0 → VdrParts f k o
  unfolding var_number
  var_parts k n o e = vdr_reads f k o (zeros (carried_of f o ∷ (variable_of f k o).fault ∷ unless 11 (is_at f (var_num_at o) (pos n)) ∷ []) e 1)

  attr_meets : (n o : ℕ) → Stands f o → type_number f o (pos 4) ≡ 0 → attr_number f n o ≡ 0 → meets f 4 o ≡ true
  unfolding attr_number
  attr_meets n o s t e =
      let p = zeros (adr_rule f o ∷ unless 11 (is_at f (attr_num_at o) (pos n)) ∷ []) e in
      parts_meet f 4 o (stands_lies f 4 o s (type_reads f o (pos 4) t).1) (kept_attribute f o (p 0))

  entry_meets : (b : Bool) (a o : ℕ) → Stands f o → type_number f o (pos (cond b 5 9)) ≡ 0 → entry_number f a o ≡ 0 → meets f (cond b 5 9) o ≡ true
  unfolding entry_number
  entry_meets b a o s t e =
      let p = zeros (aedr_rule f o ∷ num_number f a o ∷ []) e in
      parts_meet f (cond b 5 9) o (stands_lies f (cond b 5 9) o s (type_reads f o (pos (cond b 5 9)) t).1) (kept_entry f o b (p 0))

  -- what holds of each record of a list, whatever stands before it
  each_kept : {X : Type 0} (r : Rules X) (p : ℕ) (xs : List X) → Listed f r [] p xs → (x : X) → x ∈ xs
      → (bs : List X) × (r.good bs (r.at x)) × (r.below bs x)
  each_kept {X} r p xs l =
      each_in (λ x. (bs : List X) × (r.good bs (r.at x)) × (r.below bs x)) xs
      (λ earlier later x e. let a = (listed_reads f r p xs l).each earlier later x e in (reverse_aux earlier [], a.0, a.1))

  -- ---- a list of variables
  -- the VDR found at v is one of vs, its index keeps the rules, and all its records may still be met
  pub record VariableIn (t : ℕ) (w : Wanted) (left : ℕ) (vs : List ListedVdr) (v rest : ℕ) : Type 0 where
    pub found : FoundIn f t w (λ d. d.vdr) 0 left vs v rest
    pub parts : VdrParts f t v
    pub index : Listed f (chain_rules f t v) [] (head_of_index v) found.here.vxrs
    pub stands : (o : ℕ) → o ∈ index_offsets f found.here.vxrs → Stands f o
    pub room : length (index_offsets f found.here.vxrs) ≤ rest

  abbrev pub OnVariables : ℕ → Wanted → ℕ → List ListedVdr → Way → Type 0
  OnVariables t w left vs (Ok v) = VariableIn t w left vs v.at v.left
  OnVariables t w left vs (Err m) = NoneIn f t w (λ d. d.vdr) 0 vs m

  -- of each VDR of a list: its rule, its index, and that the records of that stand in the file
  pub record Indexed (t : ℕ) (d : ListedVdr) : Type 0 where
    pub parts : VdrParts f t d.vdr
    pub index : Listed f (chain_rules f t d.vdr) [] (head_of_index d.vdr) d.vxrs
    pub stands : (o : ℕ) → o ∈ index_offsets f d.vxrs → Stands f o

  pub listed_indexed : (b : Bool) (p : ℕ) (vs : List ListedVdr) → Listed f (vars_rules f (cond b 3 8)) [] p vs
      → ((o : ℕ) → o ∈ variable_offsets f vs → Stands f o) → (d : ListedVdr) → d ∈ vs → Indexed (cond b 3 8) d
  listed_indexed b p vs l stands d m =
      let kept = each_kept (vars_rules f (cond b 3 8)) p vs l d m in
      record {
        parts = var_parts (cond b 3 8) (length kept.0) d.vdr kept.1.1;
        index = kept.2;
        stands = λ o j. stands o (below_in (λ v. v.vdr) (λ v. index_offsets f v.vxrs) vs d o m j);
      }

  module _ (b : Bool) (w : Wanted) (p left : ℕ) (vs : List ListedVdr) (l : Listed f (vars_rules f (cond b 3 8)) [] p vs)
      (stands : (o : ℕ) → o ∈ variable_offsets f vs → Stands f o) (enough : length (variable_offsets f vs) ≤ left)
    where
      vdr_stands : (d : ListedVdr) → d ∈ vs → Stands f d.vdr
      vdr_stands d m = stands d.vdr (offset_in (λ v. v.vdr) (λ v. index_offsets f v.vxrs) vs d m)

      vdr_met : (d : ListedVdr) → d ∈ vs → (d.vdr ≢ 0) × (meets f (cond b 3 8) d.vdr ≡ true)
      vdr_met d m =
          let a = each_kept (vars_rules f (cond b 3 8)) p vs l d m in
          (stands_nonzero f d.vdr (vdr_stands d m), var_meets b (length a.0) d.vdr (vdr_stands d m) a.1.0 a.1.1)

      pub variables_way : OnVariables (cond b 3 8) w left vs (sought f (cond b 3 8) w p 0 left)
      variables_way =
          go (sought f (cond b 3 8) w p 0 left)
          (list_way f (cond b 3 8) w (λ d. d.vdr) vs p 0 left (listed_reads f (vars_rules f (cond b 3 8)) p vs l).linked vdr_met
          (omega (arith, enough, below_more (λ v. v.vdr) (λ v. index_offsets f v.vxrs) vs)))
        where
          go : (s : Way) → OnList f (cond b 3 8) w (λ d. d.vdr) 0 left vs s → OnVariables (cond b 3 8) w left vs s
          go (Ok v) a =
              let d = a.here in
              let m = split_in vs a.earlier a.later d a.split in
              let kept = listed_indexed b p vs l stands d m in
              record {
                found = a;
                parts = subst (VdrParts f (cond b 3 8)) (sym a.is) kept.parts;
                index = subst (λ (v : ℕ). Listed f (chain_rules f (cond b 3 8) v) [] (head_of_index v) d.vxrs) (sym a.is) kept.index;
                stands = kept.stands;
                room =
                    omega (
                      arith,
                      enough,
                      a.spent,
                      below_all (λ v. v.vdr) (λ v. index_offsets f v.vxrs) vs d m,
                      length_earlier vs a.earlier a.later d a.split,
                    );
              }
          go (Err m) a = a

  -- ---- the list of attributes
  pub record AttributeIn (w : Wanted) (left : ℕ) (ads : List ListedAdr) (a rest : ℕ) : Type 0 where
    pub found : FoundIn f 4 w (λ d. d.adr) 0 left ads a rest
    pub gr : Listed f (entries_rules f 5 a) [] (head_of_gr_entries a) found.here.gr_entries
    pub z : Listed f (entries_rules f 9 a) [] (head_of_z_entries a) found.here.z_entries
    pub stands : (o : ℕ) → o ∈ (found.here.gr_entries ++ found.here.z_entries) → Stands f o
    pub room : length (found.here.gr_entries ++ found.here.z_entries) ≤ rest

  abbrev pub OnAttributes : Wanted → ℕ → List ListedAdr → Way → Type 0
  OnAttributes w left ads (Ok a) = AttributeIn w left ads a.at a.left
  OnAttributes w left ads (Err m) = NoneIn f 4 w (λ d. d.adr) 0 ads m

  module _ (w : Wanted) (p left : ℕ) (ads : List ListedAdr) (l : Listed f (attrs_rules f) [] p ads)
      (stands : (o : ℕ) → o ∈ attribute_offsets ads → Stands f o) (enough : length (attribute_offsets ads) ≤ left)
    where
      adr_stands : (d : ListedAdr) → d ∈ ads → Stands f d.adr
      adr_stands d m = stands d.adr (offset_in (λ a. a.adr) (λ a. a.gr_entries ++ a.z_entries) ads d m)

      adr_met : (d : ListedAdr) → d ∈ ads → (d.adr ≢ 0) × (meets f 4 d.adr ≡ true)
      adr_met d m =
          let a = each_kept (attrs_rules f) p ads l d m in
          (stands_nonzero f d.adr (adr_stands d m), attr_meets (length a.0) d.adr (adr_stands d m) a.1.0 a.1.1)

      pub attributes_way : OnAttributes w left ads (sought f 4 w p 0 left)
      attributes_way =
          go (sought f 4 w p 0 left)
          (list_way f 4 w (λ d. d.adr) ads p 0 left (listed_reads f (attrs_rules f) p ads l).linked adr_met
          (omega (arith, enough, below_more (λ a. a.adr) (λ a. a.gr_entries ++ a.z_entries) ads)))
        where
          go : (s : Way) → OnList f 4 w (λ d. d.adr) 0 left ads s → OnAttributes w left ads s
          go (Ok o) a =
              let d = a.here in
              let m = split_in ads a.earlier a.later d a.split in
              let kept = each_kept (attrs_rules f) p ads l d m in
              record {
                found = a;
                gr = subst (λ (o : ℕ). Listed f (entries_rules f 5 o) [] (head_of_gr_entries o) d.gr_entries) (sym a.is) kept.2.0;
                z = subst (λ (o : ℕ). Listed f (entries_rules f 9 o) [] (head_of_z_entries o) d.z_entries) (sym a.is) kept.2.1;
                stands = λ o j. stands o (below_in (λ a. a.adr) (λ a. a.gr_entries ++ a.z_entries) ads d o m j);
                room =
                    omega (
                      arith,
                      enough,
                      a.spent,
                      below_all (λ a. a.adr) (λ a. a.gr_entries ++ a.z_entries) ads d m,
                      length_earlier ads a.earlier a.later d a.split,
                    );
              }
          go (Err m) a = a

  -- ---- a list of entries
  pub entries_way : (b : Bool) (w : Wanted) (a p left : ℕ) (es : List ℕ) → Listed f (entries_rules f (cond b 5 9) a) [] p es
      → ((o : ℕ) → o ∈ es → Stands f o) → length es ≤ left
      → OnList f (cond b 5 9) w (λ e. e) 0 left es (sought f (cond b 5 9) w p 0 left)
  entries_way b w a p left es l stands enough =
      list_way f (cond b 5 9) w (λ e. e) es p 0 left (listed_reads f (entries_rules f (cond b 5 9) a) p es l).linked
      (λ e m.
      let c = each_kept (entries_rules f (cond b 5 9) a) p es l e m in
      (stands_nonzero f e (stands e m), entry_meets b a e (stands e m) c.1.0 c.1.1))
      enough

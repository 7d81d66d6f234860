-- What the ways come to in an accepted file. Assumes nothing.
use mathlib.Core.Path.{◌≡◌, refl, ap, ◌∙◌}
use mathlib.Core.Logic.{◌≢◌, ◌⊎◌, inl, inr}
use mathlib.Core.Bool.{Bool, true, false, cond}
use mathlib.Core.List.{List, [], ◌∷◌, ◌++◌}
use Prim.Native.Nat.{ℕ, suc, ◌+◌, ◌≤◌}
use native.Mathlib.Omega.{arith}
use lib.Dec.{eqb}
use lib.IntN.{ℤ, pos, negsuc}
use lib.Signed.{le_z}
use lib.ListN.{length, length-append}
use borrow.Author.Tests.{le-ltb, le-leb, eqb-false}
use Rattle.format.specs.Fields.{field_at, eq_z, is_at, nat_or}
use Rattle.format.proofs.SignedTests.{eq_z_true}
use Rattle.records.specs.Layout.{head_of_r_variables, head_of_z_variables, head_of_attributes, nr_vars_at, num_attr_at, nz_vars_at, head_of_gr_entries, head_of_z_entries}
use Rattle.records.specs.Opening.{too_long, gdr_at, body_of}
use Rattle.records.proofs.Bodies.{body_le}
use Rattle.lookup.specs.Lists.{met_at, Way, opened, allowance, over_of, sought, head_of_list, place_way, file_way, of_kinds, kind_among, variable_way, attribute_way, entries_of, entry_way}
use Rattle.lookup.specs.declared.refusals.Refusal.TheVariants.{NoSuch}
use Rattle.lookup.specs.declared.lists.Wanted.{Wanted}
use Rattle.lookup.specs.declared.lists.Wanted.TheVariants.{Place}
use Rattle.demands.specs.Acceptance.{◌∈◌, Each, ListedVdr, ListedAdr, variable_offsets, attribute_offsets}
use Rattle.demands.proofs.Opened.{opening_makes}
use Rattle.demands.proofs.Records.{Stands}
use Rattle.demands.proofs.Nested.{FileLists, claims_of, vars_rules}
use Rattle.demands.proofs.Lists.{Listed}
use Rattle.demands.proofs.NestedDemand.{NestedAccepted}
use Rattle.demands.proofs.Splits.{in_left, in_right, mem_in, in_mem}
use Rattle.demands.proofs.AttributeFacts.{attrs_reads}
use Rattle.demands.proofs.VariableFacts.{r_reads, z_reads}
use Rattle.demands.proofs.Demand2.{tiled_stands}
use Rattle.read_theorems.proofs.Room.{room}
use Rattle.read_theorems.proofs.Lists.{OnList}
use Rattle.read_theorems.proofs.Ways.{VariableIn, OnVariables, variables_way, AttributeIn, OnAttributes, attributes_way, entries_way}
use Rattle.std.specs.Prelude.{Ok, Err}

-- a place that none of a list has is not below its length
pub none_placed : {X : Type 0} (xs : List X) (i n : ℕ) → i ≤ n → Each xs (λ earlier x. eqb (i + length earlier) n ≡ false) → i + length xs ≤ n
none_placed [] i n h a = omega arith
none_placed {X} (x ∷ xs) i n h a =
    let d : i + 0 ≢ n = eqb-false (i + 0) n (a [] xs x refl) in
    omega (arith, none_placed xs (suc i) n (omega (arith, d)) further)
  where
    further : Each xs (λ earlier y. eqb (suc i + length earlier) n ≡ false)
    further earlier later y e =
        let s : suc i + length earlier ≡ i + suc (length earlier) = omega arith in
        rw s (a (x ∷ earlier) later y (ap (λ (l : List X). x ∷ l) e))

module _ (f : List ℕ) (n : NestedAccepted f) where
  -- the bytes before the end
  abbrev body : List ℕ
  body = body_of f

  abbrev pub lay : FileLists
  lay = n.valid.layout

  abbrev rs : List ℕ
  rs = variable_offsets body lay.r_variables

  abbrev zs : List ℕ
  zs = variable_offsets body lay.z_variables

  abbrev ads : List ℕ
  ads = attribute_offsets lay.attributes

  abbrev us : List ℕ
  us = lay.unused

  pub opens : opened f ≡ true
  unfolding opened too_long
  opens = rw (le-ltb 2147483647 (length f) n.opens.short, opening_makes f n.opens.opens)

  standing : (o : ℕ) → o ∈ claims_of body lay → Stands body o
  standing o i =
      let v = n.valid in
      tiled_stands body (8 ∷ v.starts) 8 (omega arith) v.tiles o (mem_in o (8 ∷ v.starts) (v.reached.landed o (in_mem o (claims_of body lay) i)))

  r_standing : (o : ℕ) → o ∈ rs → Stands body o
  r_standing o i = standing o (inr (in_left rs (zs ++ (ads ++ us)) o i))

  z_standing : (o : ℕ) → o ∈ zs → Stands body o
  z_standing o i = standing o (inr (in_right rs (zs ++ (ads ++ us)) o (in_left zs (ads ++ us) o i)))

  ads_standing : (o : ℕ) → o ∈ ads → Stands body o
  ads_standing o i = standing o (inr (in_right rs (zs ++ (ads ++ us)) o (in_right zs (ads ++ us) o (in_left ads us o i))))

  -- as many records may be met as the whole file has room for, and the lists have no more
  enough : length rs + length zs + length ads ≤ allowance f
  unfolding allowance
  enough = omega (arith, room body n.valid, body_le f)

  -- ---- variables: kind 3 where b is true, else 8
  abbrev pub vars_of : Bool → List ListedVdr
  vars_of b = cond b lay.r_variables lay.z_variables

  -- there is no such place in a list
  abbrev pub NoPlace : {X : Type 0} → List X → ℤ → Type 0
  NoPlace xs j = (le_z (pos 0) j ≡ false) ⊎ (length xs ≤ nat_or 0 j)

  over : (b : Bool) → over_of (cond b 3 8) ≡ NoSuch
  over true = refl
  over false = refl

  pub vars_kept : (b : Bool) → Listed body (vars_rules body (cond b 3 8)) [] (head_of_list body (cond b 3 8)) (vars_of b)
      × ((o : ℕ) → o ∈ variable_offsets body (vars_of b) → Stands body o)
      × (length (variable_offsets body (vars_of b)) ≤ allowance f)
  vars_kept true = (n.valid.obeys.r_variables, r_standing, omega (arith, enough))
  vars_kept false = (n.valid.obeys.z_variables, z_standing, omega (arith, enough))

  abbrev VarsOn : Bool → ℤ → Way → Type 0
  VarsOn b j (Ok v) = (le_z (pos 0) j ≡ true) × VariableIn body (cond b 3 8) (Place (nat_or 0 j)) (allowance f) (vars_of b) v.at v.left
  VarsOn b j (Err m) = (m ≡ NoSuch) × NoPlace (vars_of b) j

  vars_on : (b : Bool) (j : ℤ) → VarsOn b j (file_way f (cond b 3 8) j)
  unfolding place_way
  vars_on b (negsuc j) = (refl, inl refl)
  vars_on b (pos j) =
      let k = vars_kept b in
      go (sought body (cond b 3 8) (Place j) (head_of_list body (cond b 3 8)) 0 (allowance f))
      (variables_way body b (Place j) (head_of_list body (cond b 3 8)) (allowance f) (vars_of b) k.0 k.1 k.2)
    where
      go : (s : Way) → OnVariables body (cond b 3 8) (Place j) (allowance f) (vars_of b) s → VarsOn b (pos j) s
      go (Ok v) a = (le-leb 0 j (omega arith), a)
      go (Err m) a = (a.number ∙ over b, inr (omega (arith, none_placed (vars_of b) 0 j (omega arith) a.none)))

  -- ---- "counts equal lengths"
  abbrev count_at : Bool → ℕ
  count_at b = cond b (nr_vars_at (gdr_at body)) (nz_vars_at (gdr_at body))

  pub vars_count : (b : Bool) → field_at body (count_at b) ≡ pos (length (vars_of b))
  unfolding is_at
  vars_count true = eq_z_true (field_at body (count_at true)) (pos (length lay.r_variables)) (r_reads body lay.r_variables (head_of_r_variables (gdr_at body)) n.valid.obeys.r_variables).0.counted
  vars_count false = eq_z_true (field_at body (count_at false)) (pos (length lay.z_variables)) (z_reads body lay.z_variables (head_of_z_variables (gdr_at body)) n.valid.obeys.z_variables).counted

  pub attrs_count : field_at body (num_attr_at (gdr_at body)) ≡ pos (length lay.attributes)
  unfolding is_at
  attrs_count =
      eq_z_true (field_at body (num_attr_at (gdr_at body))) (pos (length lay.attributes)) (attrs_reads body (head_of_attributes (gdr_at body)) lay.attributes n.valid.obeys.attributes).counted

  -- THE WAY TO A VARIABLE comes to it, or to 15
  abbrev pub VariableOn : ℤ → ℤ → Way → Type 0
  VariableOn k j (Ok v) =
      (of_kinds 3 8 k ≡ true) × (le_z (pos 0) j ≡ true) × VariableIn body (kind_among 3 8 k) (Place (nat_or 0 j)) (allowance f) (vars_of (eq_z k (pos 3))) v.at v.left
  VariableOn k j (Err m) = (m ≡ NoSuch) × ((of_kinds 3 8 k ≡ false) ⊎ ((of_kinds 3 8 k ≡ true) × NoPlace (vars_of (eq_z k (pos 3))) j))

  pub variable_on : (k j : ℤ) → VariableOn k j (variable_way f k j)
  unfolding variable_way
  variable_on k j = rw opens (go (of_kinds 3 8 k) refl (file_way f (kind_among 3 8 k) j) (vars_on (eq_z k (pos 3)) j))
    where
      go : (c : Bool) → of_kinds 3 8 k ≡ c → (s : Way) → VarsOn (eq_z k (pos 3)) j s → VariableOn k j (cond c s (Err NoSuch))
      go true e (Ok v) a = (e, a.0, a.1)
      go true e (Err m) a = (a.0, inr (e, a.1))
      go false e s a = (refl, inl e)

  -- ---- attributes
  abbrev pub AttributeOn : ℤ → Way → Type 0
  AttributeOn j (Ok a) = (le_z (pos 0) j ≡ true) × AttributeIn body (Place (nat_or 0 j)) (allowance f) lay.attributes a.at a.left
  AttributeOn j (Err m) = (m ≡ NoSuch) × NoPlace lay.attributes j

  attrs_on : (j : ℤ) → AttributeOn j (file_way f 4 j)
  unfolding place_way
  attrs_on (negsuc j) = (refl, inl refl)
  attrs_on (pos j) =
      go (sought body 4 (Place j) (head_of_attributes (gdr_at body)) 0 (allowance f))
      (attributes_way body (Place j) (head_of_attributes (gdr_at body)) (allowance f) lay.attributes n.valid.obeys.attributes ads_standing (omega (arith, enough)))
    where
      go : (s : Way) → OnAttributes body (Place j) (allowance f) lay.attributes s → AttributeOn (pos j) s
      go (Ok a) w = (le-leb 0 j (omega arith), w)
      go (Err m) w = (w.number, inr (omega (arith, none_placed lay.attributes 0 j (omega arith) w.none)))

  -- THE WAY TO AN ATTRIBUTE comes to it, or to 15
  pub attribute_on : (j : ℤ) → AttributeOn j (attribute_way f j)
  unfolding attribute_way
  attribute_on j = rw opens (attrs_on j)

  -- ---- entries: kind 5 where b is true, else 9
  abbrev pub entries_in : Bool → ListedAdr → List ℕ
  entries_in b d = cond b d.gr_entries d.z_entries

  -- those of the attribute of number j that were gone along
  pub record EntriesOn (b : Bool) (j : ℤ) (w : Wanted) (s : Way) : Type 0 where
    pub adr : ℕ
    pub left : ℕ
    pub attribute : AttributeOn j (met_at adr left)
    pub entry : OnList body (cond b 5 9) w (λ e. e) 0 left (entries_in b attribute.1.found.here) s

  entries_on : (b : Bool) (j : ℤ) (w : Wanted)
      → let s = entries_of body (cond b 5 9) w (file_way f 4 j) in ((s ≡ Err NoSuch) × NoPlace lay.attributes j) ⊎ EntriesOn b j w s
  entries_on b j w = go b (file_way f 4 j) (attrs_on j)
    where
      go : (b : Bool) (s : Way) → AttributeOn j s
          → let e = entries_of body (cond b 5 9) w s in ((e ≡ Err NoSuch) × NoPlace lay.attributes j) ⊎ EntriesOn b j w e
      go b (Err m) a = inl (ap Err a.0, a.1)
      go true (Ok d) a =
          let gr = a.1.found.here.gr_entries in
          let z = a.1.found.here.z_entries in
          inr (record {
            adr = d.at;
            left = d.left;
            attribute = a;
            entry = entries_way body true w d.at (head_of_gr_entries d.at) d.left gr a.1.gr (λ o i. a.1.stands o (in_left gr z o i)) (omega (arith, a.1.room, length-append gr z));
          })
      go false (Ok d) a =
          let gr = a.1.found.here.gr_entries in
          let z = a.1.found.here.z_entries in
          inr (record {
            adr = d.at;
            left = d.left;
            attribute = a;
            entry = entries_way body false w d.at (head_of_z_entries d.at) d.left z a.1.z (λ o i. a.1.stands o (in_right gr z o i)) (omega (arith, a.1.room, length-append gr z));
          })

  -- THE WAY TO AN ENTRY comes to 15, or along the entries
  abbrev pub EntryOn : ℤ → ℤ → Wanted → Way → Type 0
  EntryOn j k w s =
      ((s ≡ Err NoSuch) × ((of_kinds 5 9 k ≡ false) ⊎ ((of_kinds 5 9 k ≡ true) × NoPlace lay.attributes j)))
      ⊎ ((of_kinds 5 9 k ≡ true) × EntriesOn (eq_z k (pos 5)) j w s)

  pub entry_on : (j k : ℤ) (w : Wanted) → EntryOn j k w (entry_way f j k w)
  unfolding entry_way
  entry_on j k w = rw opens (go (of_kinds 5 9 k) refl (entries_of body (kind_among 5 9 k) w (file_way f 4 j)) (entries_on (eq_z k (pos 5)) j w))
    where
      go : (c : Bool) → of_kinds 5 9 k ≡ c → (s : Way) → ((s ≡ Err NoSuch) × NoPlace lay.attributes j) ⊎ EntriesOn (eq_z k (pos 5)) j w s
          → EntryOn j k w (cond c s (Err NoSuch))
      go true e s (inl (q, a)) = inl (q, inr (e, a))
      go true e s (inr a) = inr (e, a)
      go false e s a = inl (refl, inl e)

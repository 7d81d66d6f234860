-- The walk reads off the lists of a file, each record with the numbers of its rule: nested rules over the file alone. Assumes nothing.
use mathlib.Core.Path.{◌≡◌, refl, sym, ap, ◌∙◌, subst}
use mathlib.Core.Logic.{◌↔◌, ◌≢◌, inl, inr}
use mathlib.Core.Option.{Option, none, some}
use mathlib.Core.Bool.{Bool, true, false, cond, ◌||◌, true≢false}
use mathlib.Core.List.{List, [], ◌∷◌, ◌++◌}
use Prim.Native.Nat.{ℕ, suc, ◌+◌, ◌≤◌, ◌<◌, min, max}
use native.Mathlib.Numerals.{add-one}
use native.Mathlib.Omega.{arith}
use lib.Dec.{eqb}
use lib.IntN.{pos, negsuc}
use lib.ListN.{length}
use borrow.Author.Tests.{eqb-true, eqb-false, lt-ltb, le-ltb}
use Rattle.format.specs.Fields.{end_of, field_at, nat_or, is_at, link_at, after_at}
use Rattle.format.proofs.SignedTests.{eq_z_true}
use Rattle.format.specs.Numbers.{unless}
use Rattle.format.proofs.Numbers.{unless_zero, zeros}
use Rattle.records.specs.Opening.{gdr_at}
use Rattle.records.specs.Index.{used_at, vxr_rule, index_at, entry_of}
use Rattle.records.specs.Tree.{Slot, slots_of, first_of, last_of, named_by, named_by_all, levels_below, flat, names_index, entries_under}
use Rattle.records.proofs.Ranges.{EntryParts, entry_is_lem, entry_reads}
use Rattle.records.specs.Index.{Entry}
use Rattle.variables.specs.Vdr.{variable_of}
use Rattle.walk.specs.Levels.{no_levels, is_none, most_of, room_below, popped}
use Rattle.walk.specs.Walk.{walk_step_by, type_number, takes, leads_to, by_link, Listing, claim, list_step, over_by, gdr_named, field_number, vars_tally, after_vars, var_number, into_index, vars_list, chain_tally, entered, lower_next, chain_list, chain_step, covers, values_number, entry_refused, values_step, lower_number, lower_step, entry_step, attr_number, attrs_list, entries_tally, after_entries, one_more, entry_number, entries_list, unused_number, unused_list}
use Rattle.walk.specs.declared.positions.Var.{Var}
use Rattle.walk.specs.declared.positions.Levels.{Levels}
use Rattle.walk.specs.declared.positions.Walk as W
use Rattle.walk.specs.declared.positions.Walk.TheVariants.{Start, Vars, Chain, Entry as AtEntry, Attrs, Entries, Unused}
use Rattle.walk.specs.declared.positions.Link as L
use Rattle.walk.specs.declared.positions.Link.TheVariants.{Past, Zero, To}
use Rattle.walk.proofs.Leads.{LinkIs, link_is}
use Rattle.walk.specs.declared.positions.Step as T
use Rattle.walk.specs.declared.positions.Step.TheVariants.{Over, End, Down}
use Rattle.demands.specs.Acceptance.{ListedVdr, ListedAdr, offsets, index_offsets, variable_offsets, attribute_offsets}
use Rattle.records.proofs.Fielded.{vxr_law}
use Rattle.demands.proofs.Goes.{Ends, Goes, goes_from, goes_to, takes_link, passes_link}
use Rattle.demands.proofs.Lists.{EndsAt, Leads, Rules, Listed, LinkGoes, LinkEnds, list_leads, none_leads, then_leads, take_leads, claims_as, leads_as, goes_leads}
use Rattle.demands.proofs.Positions.{Position, position, top, StepEnds, Steps}
use Rattle.demands.proofs.Trees.{slot, next_slot, Row, row_after, TreeRules, after_slot, SlotGood, rows_go}
use Rattle.demands.proofs.Levels.{level_of, levels_of, level_there, room_there, down_up, room_gone}

-- ---- what stands before a record in its list is given nearest first
abbrev pub head_or0 : List ℕ → ℕ
head_or0 [] = 0
head_or0 (x ∷ xs) = x

-- one more than the greatest of the fields at a place of each, or 0
abbrev pub greatest_by : {X : Type 0} → List ℕ → (X → ℕ) → List X → ℕ
greatest_by f place [] = 0
greatest_by f place (x ∷ xs) = max (after_at f (place x)) (greatest_by f place xs)

-- ---- entries: what they say where their fields lie in the file and their range is right
abbrev pub entry_is : List ℕ → Slot → Entry
entry_is f s = record { fault = 0; first = first_of f s; last = last_of f s; link = named_by f s }

-- what is carried along the entries of an index: the least that the next First may be, and whether MaxRec is covered
pub record Carried : Type 0 where
  pub floor : ℕ
  pub covered : Bool

abbrev pub carried : ℕ → Bool → Carried
carried floor covered = record { floor = floor; covered = covered }

-- the range of an entry, and its fields that lie in the file; `above` are the entries that led down to it
abbrev pub Ranged : List ℕ → List Slot → ℕ → Slot → Type 0
Ranged f above floor s = EntryParts f s.vxr s.entry floor (most_of (levels_of f above).a)

-- an entry that names values; one that names an index record
pub record ValuesGood (f : List ℕ) (k v : ℕ) (above : List Slot) (c : Carried) (s : Slot) : Type 0 where
  pub range : Ranged f above c.floor s
  pub typed : type_number f (named_by f s) (pos 7) ≡ 0
  pub values : values_number f (variable_of f k v) (entry_is f s) ≡ 0

pub record LowerGood (f : List ℕ) (above : List Slot) (c : Carried) (s : Slot) : Type 0 where
  pub range : Ranged f above c.floor s
  pub lower : lower_number f (named_by f s) ≡ 0

-- the rules of the index of the VDR at v, of kind k
abbrev pub index_rules : List ℕ → ℕ → ℕ → TreeRules Carried
index_rules f k v = record {
  past = λ c s. carried (last_of f s + 1) (c.covered || covers f v (entry_is f s));
  down = λ c s. carried (first_of f s) c.covered;
  back = λ c s d. carried (last_of f s + 1) d.covered;
  values = ValuesGood f k v;
  lower = LowerGood f;
}

-- entries below which n levels may lie, and what is carried after one
abbrev pub EntryGood : List ℕ → ℕ → ℕ → ℕ → List Slot → Carried → Slot → Type 0
EntryGood f k v n = SlotGood f (index_rules f k v) n

abbrev pub after_entry : List ℕ → ℕ → ℕ → ℕ → Carried → Slot → Carried
after_entry f k v n = after_slot f (index_rules f k v) n

abbrev pub RowGood : List ℕ → ℕ → ℕ → ℕ → List Slot → Carried → List Slot → Type 0
RowGood f k v n above = Row (EntryGood f k v n above) (after_entry f k v n)

abbrev pub after_row : List ℕ → ℕ → ℕ → ℕ → Carried → List Slot → Carried
after_row f k v n = row_after (after_entry f k v n)

-- the same after the VXRs of a chain
abbrev pub chain_carried : List ℕ → ℕ → ℕ → List ℕ → Carried
chain_carried f k v [] = carried 0 false
chain_carried f k v (x ∷ xs) = after_row f k v levels_below (chain_carried f k v xs) (slots_of f x)

-- ---- the rules of each list
abbrev pub chain_rules : List ℕ → ℕ → ℕ → Rules ℕ
chain_rules f k v = record {
  at = λ x. x;
  here = λ bs p. p + 4 ≤ end_of f;
  good = λ bs x. (type_number f x (pos 6) ≡ 0) × (vxr_rule f x ≡ 0);
  below = λ bs x. RowGood f k v levels_below [] (chain_carried f k v bs) (slots_of f x);
  tally = λ bs. chain_tally f v (head_or0 bs) (chain_carried f k v bs).covered ≡ 0;
}

abbrev pub vars_rules : List ℕ → ℕ → Rules ListedVdr
vars_rules f k = record {
  at = λ v. v.vdr;
  here = λ bs p. p + 4 ≤ end_of f;
  good = λ bs o. (type_number f o (pos k) ≡ 0) × (var_number f k (length bs) o ≡ 0);
  below = λ bs v. Listed f (chain_rules f k v.vdr) [] (v.vdr + 20) v.vxrs;
  tally = λ bs. (gdr_named f ≡ true) × (vars_tally f k (length bs) (greatest_by f (λ v. v.vdr + 16) bs) ≡ 0);
}

-- how far the entries of a list are counted
abbrev pub held : ℕ → ℕ
held n = min n 2147483648

abbrev pub entries_rules : List ℕ → ℕ → ℕ → Rules ℕ
entries_rules f k a = record {
  at = λ e. e;
  here = λ bs p. p + 4 ≤ end_of f;
  good = λ bs e. (type_number f e (pos k) ≡ 0) × (entry_number f a e ≡ 0);
  below = λ bs e. Unit {0};
  tally = λ bs. entries_tally f k a (held (length bs)) (greatest_by f (λ e. e + 20) bs) ≡ 0;
}

abbrev pub attrs_rules : List ℕ → Rules ListedAdr
attrs_rules f = record {
  at = λ a. a.adr;
  here = λ bs p. p + 4 ≤ end_of f;
  good = λ bs o. (type_number f o (pos 4) ≡ 0) × (attr_number f (length bs) o ≡ 0);
  below = λ bs a. Listed f (entries_rules f 5 a.adr) [] (a.adr + 12) a.gr_entries × Listed f (entries_rules f 9 a.adr) [] (a.adr + 36) a.z_entries;
  tally = λ bs. (gdr_named f ≡ true) × (field_number f (gdr_at f + 28) (pos (length bs)) ≡ 0);
}

abbrev pub unused_rules : List ℕ → Rules ℕ
unused_rules f = record {
  at = λ u. u;
  here = λ bs p. p + 4 ≤ end_of f;
  good = λ bs u. (type_number f u (negsuc 0) ≡ 0) × (unused_number f (head_or0 bs) u ≡ 0);
  below = λ bs u. Unit {0};
  tally = λ bs. Unit {0};
}

-- the lists of a file
pub record FileLists : Type 0 where
  pub r_variables : List ListedVdr
  pub z_variables : List ListedVdr
  pub attributes : List ListedAdr
  pub unused : List ℕ

abbrev pub claims_of : List ℕ → FileLists → List ℕ
claims_of f y =
    gdr_at f ∷ (variable_offsets f y.r_variables ++ (variable_offsets f y.z_variables ++ (attribute_offsets y.attributes ++ y.unused)))

pub record NestedObeys (f : List ℕ) (y : FileLists) : Type 0 where
  pub gdr_named_lem : gdr_named f ≡ true
  pub gdr_typed : type_number f (gdr_at f) (pos 2) ≡ 0
  pub r_variables : Listed f (vars_rules f 3) [] (gdr_at f + 8) y.r_variables
  pub z_variables : Listed f (vars_rules f 8) [] (gdr_at f + 12) y.z_variables
  pub attributes : Listed f (attrs_rules f) [] (gdr_at f + 16) y.attributes
  pub unused : Listed f (unused_rules f) [] (gdr_at f + 44) y.unused

-- ---- a step that ends well, shape by shape
module _ (f : List ℕ) (E : Position → List ℕ → Type 0) (up : Levels) where
  takes_reads : (b t k l : ℕ) (next : W.Walk) (cs : List ℕ) → StepEnds E up (takes b t k l next) cs
      → (b ≡ 0) × (k ≡ 0) × (l ≡ 0) × (ds : List ℕ) × (cs ≡ t ∷ ds) × E (position next up) ds
  takes_reads b t k l next cs e = (e.0, e.1, e.2, e.3, e.4, subst (λ (w : W.Walk). E (position w up) e.3) (rw (e.0, e.2)) e.5)

  takes_makes : (b t k l : ℕ) (next : W.Walk) (cs ds : List ℕ) → b ≡ 0 → k ≡ 0 → l ≡ 0 → cs ≡ t ∷ ds → E (position next up) ds
      → StepEnds E up (takes b t k l next) cs
  takes_makes b t k l next cs ds eb ek el ec h = (eb, ek, el, ds, ec, rw (eb, el) h)

  -- a step is not made where a test fails
  allowed_reads : (b : Bool) (t : T.Step) (cs : List ℕ) → StepEnds E up (cond b t (End 20)) cs → (b ≡ true) × StepEnds E up t cs
  allowed_reads true t cs e = (refl, e)
  allowed_reads false t cs e = let z = e.0 in absurd (omega arith)

  -- a link of a list l, of which the rules are r: those of a record are that its type and its rule have no number, and its end comes to
  -- fin if its tally is right
  module _ {X : Type 0} (r : Rules X) (bs : List X) (p : ℕ) (l : Listing) (fin : Option Position) (cs : List ℕ)
      (good : (o : ℕ) → r.good bs o ↔ ((type_number f o l.typed ≡ 0) × (l.number o ≡ 0))) (tally : StepEnds E up l.over cs ↔ (r.tally bs × EndsAt E fin cs))
      (here : r.here bs p ↔ (p + 4 ≤ end_of f))
    where
      Going : Type 0
      Going = LinkEnds f r E bs p fin (λ o. position (l.next o) up) cs

      link_reads : (k : L.Link) → LinkIs f p k → StepEnds E up (by_link k l.over (claim f l)) cs → Going
      unfolding Going
      link_reads Past h e = let z = e.0 in absurd (omega arith)
      link_reads Zero h e = let t = tally.0 e in (here.1 h.0, inl (h.1, t.0, t.1))
      link_reads (To o) h e =
          let t = takes_reads 0 o (type_number f o l.typed) (l.number o) (l.next o) cs e in
          let q = sym h.1 in (
            here.1 h.0,
            inr (
              subst (λ (x : ℕ). x ≢ 0) q h.2,
              subst (r.good bs) q ((good o).1 (t.1, t.2)),
              t.3,
              subst (λ (x : ℕ). cs ≡ x ∷ t.3) q t.4,
              subst (λ (x : ℕ). E (position (l.next x) up) t.3) q t.5,
            ),
          )

      link_makes : (k : L.Link) → LinkIs f p k → Going → StepEnds E up (by_link k l.over (claim f l)) cs
      unfolding Going
      link_makes Past h e = let i = here.0 e.0 in absurd (omega (arith, h))
      link_makes Zero h e = go e.1
        where
          go : LinkGoes f r E bs p fin (λ o. position (l.next o) up) cs → StepEnds E up l.over cs
          go (inl g) = tally.1 (g.1, g.2)
          go (inr g) = absurd (g.0 h.1)
      link_makes (To o) h e = go e.1
        where
          go : LinkGoes f r E bs p fin (λ o. position (l.next o) up) cs → StepEnds E up (claim f l o) cs
          go (inl g) = absurd (h.2 (sym h.1 ∙ g.0))
          go (inr g) =
              let k = (good o).0 (subst (r.good bs) h.1 g.1) in
              takes_makes 0 o (type_number f o l.typed) (l.number o) (l.next o) cs g.2 refl k.0 k.1
              (subst (λ (x : ℕ). cs ≡ x ∷ g.2) h.1 g.3) (subst (λ (x : ℕ). E (position (l.next x) up) g.2) h.1 g.4)

      link_steps : StepEnds E up (list_step f p l) cs ↔ LinkEnds f r E bs p fin (λ o. position (l.next o) up) cs
      unfolding list_step Going
      link_steps = (link_reads (leads_to f p) (link_is f p), link_makes (leads_to f p) (link_is f p))

  -- a list of the GDR is over
  over_steps : (number : ℕ) (next : W.Walk) (cs : List ℕ)
      → StepEnds E up (over_by f number next) cs ↔ (((gdr_named f ≡ true) × (number ≡ 0)) × E (position next up) cs)
  over_steps number next cs = (
    λ e. let t = allowed_reads (gdr_named f) (Over next number) cs e in ((t.0, t.1.0), t.1.1),
    λ t. rw t.0.0 (t.0.1, t.1),
  )

-- ---- an entry
-- a zero field is a zero link
pub zero_link : (f : List ℕ) (p : ℕ) → is_at f p (pos 0) ≡ true → link_at f p ≡ 0
unfolding is_at link_at
zero_link f p e = ap (nat_or 1) (eq_z_true (field_at f p) (pos 0) e)

zero_leads : (f : List ℕ) (p : ℕ) → p + 4 ≤ end_of f → is_at f p (pos 0) ≡ true → leads_to f p ≡ Zero
unfolding leads_to
zero_leads f p h e = rw (le-ltb (end_of f) (p + 4) h, zero_link f p e)

module _ (f : List ℕ) (E : Position → List ℕ → Type 0) (u : Var) (above : List Slot) (c : Carried) (s : Slot) where
  abbrev levels : Levels
  levels = levels_of f above

  abbrev entry_here : Entry
  entry_here = entry_of f s.vxr s.entry c.floor (most_of levels.a)

  abbrev step_at : Entry → T.Step
  step_at e = entry_step f u s.vxr s.entry c.covered (room_below levels) e

  abbrev values_at : Entry → T.Step
  values_at e = values_step f u s.vxr s.entry c.covered e

  abbrev lower_at : Entry → T.Step
  lower_at e = lower_step f u s.vxr s.entry c.covered (room_below levels) e

  -- an entry with a number does not end well
  faultless : (e : Entry) (cs : List ℕ) → StepEnds E levels (step_at e) cs → e.fault ≡ 0
  faultless e cs = go (index_at f e.link) (eqb e.fault 0) refl
    where
      go : (a b : Bool) → eqb e.fault 0 ≡ b → StepEnds E levels (cond a (lower_at e) (values_at e)) cs → e.fault ≡ 0
      go false b q h = h.0
      go true true q h = eqb-true e.fault 0 q
      go true false q h = refused (rw q at h)
        where
          refused : StepEnds E levels (entry_refused e (unless 23 (room_below levels)) (lower_number f e.link)) cs → e.fault ≡ 0
          refused h = h.0

  -- so its range is right, and it names what it says
  step_is : (b : Bool) (cs : List ℕ) → names_index f s ≡ b
      → StepEnds E levels (step_at entry_here) cs ↔ (Ranged f above c.floor s × StepEnds E levels (cond b (lower_at (entry_is f s)) (values_at (entry_is f s))) cs)
  step_is b cs q = (
    λ e.
        let r = entry_reads f s.vxr s.entry c.floor (most_of levels.a) (faultless entry_here cs e) in
        (r, subst (λ (t : T.Step). StepEnds E levels t cs) (same r) e),
    λ p. subst (λ (t : T.Step). StepEnds E levels t cs) (sym (same p.0)) p.1,
  )
    where
      same : Ranged f above c.floor s → step_at entry_here ≡ cond b (lower_at (entry_is f s)) (values_at (entry_is f s))
      same r =
          ap step_at (entry_is_lem f s.vxr s.entry c.floor (most_of levels.a) r)
          ∙ ap (λ (b : Bool). cond b (lower_at (entry_is f s)) (values_at (entry_is f s))) q

  abbrev neighbour : Position
  neighbour = position (entered f u s.vxr (s.entry + 1) (last_of f s + 1) (c.covered || covers f u.vdr (entry_is f s))) levels

  values_steps : (cs : List ℕ) → names_index f s ≡ false
      → StepEnds E levels (step_at entry_here) cs ↔ (ValuesGood f u.kind u.vdr above c s × (ds : List ℕ) × (cs ≡ named_by f s ∷ ds) × E neighbour ds)
  values_steps cs h = (
    λ e.
        let r = (step_is false cs h).0 e in
        let t = takes_reads f E levels 0 (named_by f s) typed late neighbour.walk cs r.1 in
        (record { range = r.0; typed = t.1; values = t.2 }, t.3, t.4, t.5),
    λ g.
        (step_is false cs h).1
        (g.0.range, takes_makes f E levels 0 (named_by f s) typed late neighbour.walk cs g.1 refl g.0.typed g.0.values g.2 g.3),
  )
    where
      typed : ℕ
      typed = type_number f (named_by f s) (pos 7)

      late : ℕ
      late = values_number f (variable_of f u.kind u.vdr) (entry_is f s)

  abbrev inside : Position
  inside = position (entered f u (named_by f s) 0 (first_of f s) c.covered) (levels_of f (s ∷ above))

  lower_reads : (cs : List ℕ) → StepEnds E levels (lower_at (entry_is f s)) cs
      → (unless 23 (room_below levels) ≡ 0) × (lower_number f (named_by f s) ≡ 0) × (ds : List ℕ) × (cs ≡ named_by f s ∷ ds) × E inside ds
  lower_reads cs = go (eqb (lower_number f (named_by f s)) 0) refl
    where
      go : (b : Bool) → eqb (lower_number f (named_by f s)) 0 ≡ b
          → StepEnds E levels
          (cond b (Down inside.walk (named_by f s) (unless 23 (room_below levels)) (level_of f s))
          (entry_refused (entry_is f s) (unless 23 (room_below levels)) (lower_number f (named_by f s)))) cs
          → (unless 23 (room_below levels) ≡ 0) × (lower_number f (named_by f s) ≡ 0) × (ds : List ℕ) × (cs ≡ named_by f s ∷ ds) × E inside ds
      go true q e = (e.1, eqb-true (lower_number f (named_by f s)) 0 q, e.3, e.4, e.5)
      go false q e = absurd (eqb-false (lower_number f (named_by f s)) 0 q e.2)

  lower_steps : (cs : List ℕ) → room_below levels ≡ true → names_index f s ≡ true
      → StepEnds E levels (step_at entry_here) cs ↔ (LowerGood f above c s × (ds : List ℕ) × (cs ≡ named_by f s ∷ ds) × E inside ds)
  lower_steps cs room h = (
    λ e. let r = (step_is true cs h).0 e in let t = lower_reads cs r.1 in (record { range = r.0; lower = t.1 }, t.2, t.3, t.4),
    λ g. (step_is true cs h).1 (g.0.range, rw (g.0.lower, room) (refl, refl, refl, g.1, g.2, g.3)),
  )

  full_steps : (cs : List ℕ) → room_below levels ≡ false → names_index f s ≡ true → StepEnds E levels (step_at entry_here) cs → ⊥
  full_steps cs room h e = true≢false (sym (unless_zero 22 (room_below levels) (lower_reads cs ((step_is true cs h).0 e).1).0) ∙ room)

  -- the zero next of the lower record
  rise_steps : (floor : ℕ) (b : Bool) (cs : List ℕ) → popped (levels_of f (s ∷ above)) ≡ levels → LowerGood f above c s
      → StepEnds E (levels_of f (s ∷ above)) (chain_step f (level_of f s) u (named_by f s + 8) (named_by f s) floor b) cs
      ↔ E (position (entered f u s.vxr (s.entry + 1) (last_of f s + 1) b) levels) cs
  unfolding lower_next lower_number
  rise_steps floor b cs q g =
      let y = named_by f s in
      let p = zeros (vxr_rule f y ∷ unless 11 (is_at f (y + 8) (pos 0)) ∷ []) g.lower in
      let r = ((vxr_law f y).0 (p 0)).reach.lies in
      let i = g.range.last_lies in
      rw (
        level_there f s,
        zero_leads f (y + 8) (omega arith) (unless_zero 10 (is_at f (y + 8) (pos 0)) (p 1)),
        le-ltb (end_of f) (s.vxr + 20) (omega arith),
        q,
      )
      (λ h. h.1, λ h. (refl, h))

-- ---- the walk reads off just that
module _ (f : List ℕ) where
  abbrev Step : ℕ → Position → List ℕ → Type 0
  Step k = Ends (Steps f) k

  -- the entries of an index
  module _ (u : Var) where
    abbrev rules : TreeRules Carried
    rules = index_rules f u.kind u.vdr

    -- before an entry of an index record, or past its last
    abbrev at_slot : List Slot → Carried → Slot → Position
    at_slot above c s = position (entered f u s.vxr s.entry c.floor c.covered) (levels_of f above)

    abbrev entry_at : List Slot → Carried → Slot → Position
    entry_at above c s = position (AtEntry u s.vxr s.entry c.floor c.covered) (levels_of f above)

    abbrev end_at : List Slot → Carried → ℕ → Position
    end_at above c x = position (Chain u (x + 8) x c.floor c.covered) (levels_of f above)

    at_entry : (above : List Slot) (c : Carried) (s : Slot) → s.entry < used_at f s.vxr → at_slot above c s ≡ entry_at above c s
    at_entry above c s h = rw (lt-ltb s.entry (used_at f s.vxr) h)

    at_end : (above : List Slot) (c : Carried) (x : ℕ) → at_slot above c (slot x (used_at f x)) ≡ end_at above c x
    at_end above c x = rw (le-ltb (used_at f x) (used_at f x) (omega arith))

    values_go : (above : List Slot) (c : Carried) (s : Slot) → s.entry < used_at f s.vxr → names_index f s ≡ false
        → Goes (Steps f) (at_slot above c s) (ValuesGood f u.kind u.vdr above c s) (named_by f s ∷ []) (at_slot above (rules.past c s) (next_slot s))
    unfolding walk_step_by
    values_go above c s h e =
        goes_from (Steps f) (at_entry above c s h) (takes_link (Steps f) (entry_at above c s) (named_by f s) (λ j cs. values_steps f (Step j) u above c s cs e))

    lower_goes : (above : List Slot) (c : Carried) (s : Slot) → length above < levels_below → s.entry < used_at f s.vxr → names_index f s ≡ true
        → Goes (Steps f) (at_slot above c s) (LowerGood f above c s) (named_by f s ∷ []) (at_slot (s ∷ above) (rules.down c s) (slot (named_by f s) 0))
    unfolding walk_step_by
    lower_goes above c s l h e =
        goes_from (Steps f) (at_entry above c s h)
        (takes_link (Steps f) (entry_at above c s) (named_by f s) (λ j cs. lower_steps f (Step j) u above c s cs (room_there f above l) e))

    full_stays : (above : List Slot) (c : Carried) (s : Slot) → length above ≡ levels_below → s.entry < used_at f s.vxr → names_index f s ≡ true
        → (j : ℕ) (cs : List ℕ) → Steps f (Step j) (at_slot above c s) cs → ⊥
    unfolding walk_step_by
    full_stays above c s l h e j cs t =
        full_steps f (Step j) u above c s cs (room_gone f above l) e (subst (λ (p : Position). Steps f (Step j) p cs) (at_entry above c s h) t)

    rise_goes : (above : List Slot) (c d : Carried) (s : Slot) → length above < levels_below → LowerGood f above c s
        → Goes (Steps f) (at_slot (s ∷ above) d (slot (named_by f s) (used_at f (named_by f s)))) (Unit {0}) [] (at_slot above (rules.back c s d) (next_slot s))
    unfolding walk_step_by
    rise_goes above c d s l g =
        goes_from (Steps f) (at_end (s ∷ above) d (named_by f s))
        (passes_link (Steps f) (end_at (s ∷ above) d (named_by f s))
        (λ j cs. rise_steps f (Step j) u above c s d.floor d.covered cs (down_up f above l (level_of f s)) g))

    -- those of a VXR of the top chain, with all that hangs below them
    row_lead : (x : ℕ) (c : Carried)
        → Leads (Steps f) {B = Unit {0}} (at_slot [] c (slot x 0)) (λ t. RowGood f u.kind u.vdr levels_below [] c (slots_of f x))
        (λ t. named_by_all f (flat (entries_under f levels_below) (slots_of f x)))
        (λ t. some (end_at [] (after_row f u.kind u.vdr levels_below c (slots_of f x)) x))
    row_lead x c =
        goes_leads (Steps f)
        (goes_to (Steps f) (at_end [] (after_row f u.kind u.vdr levels_below c (slots_of f x)) x)
        (rows_go (Steps f) f rules at_slot values_go lower_goes full_stays rise_goes levels_below (used_at f x) [] c x 0 refl (omega arith)))

  same : (A : Type 0) → A ↔ A
  same A = (λ x. x, λ x. x)

  -- ---- from and to a position with no index record above it
  abbrev Leading : {B : Type 0} → W.Walk → (B → Type 0) → (B → List ℕ) → W.Walk → Type 0
  Leading w R c v = Leads (Steps f) (top w) R c (λ b. some (top v))

  arrives : {B : Type 0} {w v x : W.Walk} {R : B → Type 0} {c : B → List ℕ} → v ≡ x → Leading w R c v → Leading w R c x
  arrives {B} {w} {v} {x} {R} {c} e l = subst (λ (y : W.Walk). Leading w R c y) e l

  abbrev Linking : {X : Type 0} → Rules X → ℕ → List X → ℕ → W.Walk → (ℕ → W.Walk) → List ℕ → Type 0
  Linking r k bs p v next cs = LinkEnds f r (Step k) bs p (some (top v)) (λ o. top (next o)) cs

  -- the VXRs of a VDR
  module _ (u : Var) where
    abbrev ahead : W.Walk
    ahead = Vars u.kind (u.vdr + 8) (u.place + 1) u.greatest

    abbrev carried_to : List ℕ → Carried
    carried_to bs = chain_carried f u.kind u.vdr bs

    abbrev link_of : List ℕ → ℕ → W.Walk
    link_of bs p = Chain u p (head_or0 bs) (carried_to bs).floor (carried_to bs).covered

    abbrev entries_of : List ℕ → ℕ → W.Walk
    entries_of bs o = entered f u o 0 (carried_to bs).floor (carried_to bs).covered

    chain_steps : (k : ℕ) (bs : List ℕ) (p : ℕ) (cs : List ℕ)
        → Steps f (Step k) (top (link_of bs p)) cs ↔ Linking (chain_rules f u.kind u.vdr) k bs p ahead (entries_of bs) cs
    unfolding walk_step_by is_none
    chain_steps k bs p cs =
        link_steps f (Step k) no_levels (chain_rules f u.kind u.vdr) bs p (chain_list f u (head_or0 bs) (carried_to bs).floor (carried_to bs).covered)
        (some (top ahead)) cs (λ o. same _) (same _) (same _)

    chain_lead : (p : ℕ) → Leading (Chain u p 0 0 false) (Listed f (chain_rules f u.kind u.vdr) [] p) (index_offsets f) ahead
    chain_lead p =
        list_leads (Steps f) {B = Unit {0}} f (chain_rules f u.kind u.vdr) (λ o t. o) (λ x. tt)
        (λ x. named_by_all f (flat (entries_under f levels_below) (slots_of f x))) (λ o b. refl) (λ x. refl)
        (λ bs p. top (link_of bs p)) (λ bs o. top (entries_of bs o)) (λ bs. some (top ahead)) chain_steps (λ bs o. row_lead u o (carried_to bs)) [] p

  -- the VDRs of a kind
  abbrev max_recs : List ListedVdr → ℕ
  max_recs bs = greatest_by f (λ v. v.vdr + 16) bs

  vars_steps : (kind k : ℕ) (bs : List ListedVdr) (p : ℕ) (cs : List ℕ)
      → Steps f (Step k) (top (Vars kind p (length bs) (max_recs bs))) cs
      ↔ Linking (vars_rules f kind) k bs p (after_vars f kind) (into_index f kind (length bs) (max_recs bs)) cs
  unfolding walk_step_by
  vars_steps kind k bs p cs =
      link_steps f (Step k) no_levels (vars_rules f kind) bs p (vars_list f kind (length bs) (max_recs bs)) (some (top (after_vars f kind))) cs
      (λ o. same _) (over_steps f (Step k) no_levels (vars_tally f kind (length bs) (max_recs bs)) (after_vars f kind) cs) (same _)

  index_lead : (kind : ℕ) (bs : List ListedVdr) (o : ℕ)
      → Leading (into_index f kind (length bs) (max_recs bs) o) (Listed f (chain_rules f kind o) [] (o + 20)) (index_offsets f)
      (Vars kind (o + 8) (suc (length bs)) (max (after_at f (o + 16)) (max_recs bs)))
  index_lead kind bs o =
      let u : Var = record { kind = kind; vdr = o; place = length bs; greatest = max (after_at f (o + 16)) (max_recs bs) } in
      arrives (ap (λ (n : ℕ). Vars kind (o + 8) n (max (after_at f (o + 16)) (max_recs bs))) (add-one (length bs))) (chain_lead u (o + 20))

  vars_lead : (kind p : ℕ) → Leading (Vars kind p 0 0) (Listed f (vars_rules f kind) [] p) (variable_offsets f) (after_vars f kind)
  vars_lead kind p =
      list_leads (Steps f) f (vars_rules f kind) (λ o xs. record { vdr = o; vxrs = xs }) (λ v. v.vxrs) (λ v. index_offsets f v.vxrs)
      (λ o b. refl) (λ x. refl) (λ bs p. top (Vars kind p (length bs) (max_recs bs))) (λ bs o. top (into_index f kind (length bs) (max_recs bs) o))
      (λ bs. some (top (after_vars f kind))) (vars_steps kind) (index_lead kind) [] p

  -- lists of records below which nothing hangs
  plain_offsets : (xs : List ℕ) → offsets (λ o. o) (λ o. []) xs ≡ xs
  plain_offsets [] = refl
  plain_offsets (x ∷ xs) = ap (λ (l : List ℕ). x ∷ l) (plain_offsets xs)

  -- the entries of a kind of an ADR
  abbrev numbers : List ℕ → ℕ
  numbers bs = greatest_by f (λ e. e + 20) bs

  held_more : (n : ℕ) → one_more (held n) ≡ held (suc n)
  unfolding one_more
  held_more n = omega arith

  module _ (kind a n : ℕ) where
    abbrev next_entry : List ℕ → ℕ → ℕ → W.Walk
    next_entry bs e o = Entries kind a n (o + 8) e (max (after_at f (o + 20)) (numbers bs))

    entries_steps : (k : ℕ) (bs : List ℕ) (p : ℕ) (cs : List ℕ)
        → Steps f (Step k) (top (Entries kind a n p (held (length bs)) (numbers bs))) cs
        ↔ Linking (entries_rules f kind a) k bs p (after_entries kind a n) (next_entry bs (one_more (held (length bs)))) cs
    unfolding walk_step_by
    entries_steps k bs p cs =
        link_steps f (Step k) no_levels (entries_rules f kind a) bs p (entries_list f kind a n (held (length bs)) (numbers bs))
        (some (top (after_entries kind a n))) cs (λ o. same _) (same _) (same _)

    entries_lead : (p : ℕ) → Leading (Entries kind a n p 0 0) (Listed f (entries_rules f kind a) [] p) (λ es. es) (after_entries kind a n)
    entries_lead p =
        claims_as (Steps f) (λ es. es) plain_offsets
        (list_leads (Steps f) {B = Unit {0}} f (entries_rules f kind a) (λ o t. o) (λ x. tt) (λ x. []) (λ o b. refl) (λ x. refl)
        (λ bs p. top (Entries kind a n p (held (length bs)) (numbers bs))) (λ bs o. top (next_entry bs (one_more (held (length bs))) o))
        (λ bs. some (top (after_entries kind a n))) entries_steps body [] p)
      where
        body : (bs : List ℕ) (o : ℕ)
            → Leading {B = Unit {0}} (next_entry bs (one_more (held (length bs))) o) (λ t. Unit {0}) (λ t. []) (next_entry bs (held (suc (length bs))) o)
        body bs o =
            arrives (ap (λ (j : ℕ). next_entry bs j o) (held_more (length bs))) (none_leads (Steps f) (top (next_entry bs (one_more (held (length bs))) o)))

  -- the ADRs
  abbrev unused_first : W.Walk
  unused_first = Unused (gdr_at f + 44) 0

  attrs_steps : (k : ℕ) (bs : List ListedAdr) (p : ℕ) (cs : List ℕ)
      → Steps f (Step k) (top (Attrs p (length bs))) cs ↔ Linking (attrs_rules f) k bs p unused_first (λ o. Entries 5 o (length bs) (o + 12) 0 0) cs
  unfolding walk_step_by
  attrs_steps k bs p cs =
      link_steps f (Step k) no_levels (attrs_rules f) bs p (attrs_list f (length bs)) (some (top unused_first)) cs (λ o. same _)
      (over_steps f (Step k) no_levels (field_number f (gdr_at f + 28) (pos (length bs))) unused_first cs) (same _)

  attrs_lead : (p : ℕ) → Leading (Attrs p 0) (Listed f (attrs_rules f) [] p) attribute_offsets unused_first
  attrs_lead p =
      list_leads (Steps f) {B = List ℕ × List ℕ} f (attrs_rules f) (λ o b. record { adr = o; gr_entries = b.0; z_entries = b.1 })
      (λ a. (a.gr_entries, a.z_entries)) (λ a. a.gr_entries ++ a.z_entries) (λ o b. refl) (λ x. refl)
      (λ bs p. top (Attrs p (length bs))) (λ bs o. top (Entries 5 o (length bs) (o + 12) 0 0)) (λ bs. some (top unused_first)) attrs_steps body [] p
    where
      body : (bs : List ListedAdr) (o : ℕ)
          → Leading {B = List ℕ × List ℕ} (Entries 5 o (length bs) (o + 12) 0 0)
          (λ b. Listed f (entries_rules f 5 o) [] (o + 12) b.0 × Listed f (entries_rules f 9 o) [] (o + 36) b.1) (λ b. b.0 ++ b.1)
          (Attrs (o + 8) (suc (length bs)))
      body bs o =
          arrives (ap (λ (n : ℕ). Attrs (o + 8) n) (add-one (length bs)))
          (then_leads (Steps f) (λ a. top (Entries 9 o (length bs) (o + 36) 0 0)) (entries_lead 5 o (length bs) (o + 12))
          (λ a. entries_lead 9 o (length bs) (o + 36)))

  -- the UIRs
  unused_steps : (k : ℕ) (bs : List ℕ) (p : ℕ) (cs : List ℕ)
      → Steps f (Step k) (top (Unused p (head_or0 bs))) cs ↔ LinkEnds f (unused_rules f) (Step k) bs p none (λ o. top (Unused (o + 8) o)) cs
  unfolding walk_step_by
  unused_steps k bs p cs =
      link_steps f (Step k) no_levels (unused_rules f) bs p (unused_list f (head_or0 bs)) none cs (λ o. same _) (λ e. (tt, e.1), λ t. (refl, t.1)) (same _)

  unused_lead : (p : ℕ) → Leads (Steps f) (top (Unused p 0)) (Listed f (unused_rules f) [] p) (λ us. us) (λ us. none)
  unused_lead p =
      claims_as (Steps f) (λ us. us) plain_offsets
      (list_leads (Steps f) {B = Unit {0}} f (unused_rules f) (λ o t. o) (λ x. tt) (λ x. []) (λ o b. refl) (λ x. refl)
      (λ bs p. top (Unused p (head_or0 bs))) (λ bs o. top (Unused (o + 8) o)) (λ bs. none) unused_steps
      (λ bs o. none_leads (Steps f) (top (Unused (o + 8) o))) [] p)

  start_steps : (k : ℕ) (cs : List ℕ) → Steps f (Step k) (top Start) cs
      ↔ (((gdr_named f ≡ true) × (type_number f (gdr_at f) (pos 2) ≡ 0)) × (ds : List ℕ) × (cs ≡ gdr_at f ∷ ds) × Step k (top (Vars 3 (gdr_at f + 8) 0 0)) ds)
  unfolding walk_step_by
  start_steps k cs = (
    λ e.
        let t = allowed_reads f (Step k) no_levels (gdr_named f) (takes 0 (gdr_at f) typed 0 variables) cs e in
        let r = takes_reads f (Step k) no_levels 0 (gdr_at f) typed 0 variables cs t.1 in
        ((t.0, r.1), r.3, r.4, r.5),
    λ t. rw t.0.0 (takes_makes f (Step k) no_levels 0 (gdr_at f) typed 0 variables cs t.1 refl t.0.1 refl t.2 t.3),
  )
    where
      typed : ℕ
      typed = type_number f (gdr_at f) (pos 2)

      variables : W.Walk
      variables = Vars 3 (gdr_at f + 8) 0 0

  -- THE WALK reads off the nested rules
  pub walk_lead : Leads (Steps f) (top Start) (NestedObeys f) (claims_of f) (λ y. none)
  walk_lead =
      leads_as (Steps f) {C = FileLists} {Q = NestedObeys f} {d = claims_of f} (λ p. record { r_variables = p.0; z_variables = p.1.0; attributes = p.1.1.0; unused = p.1.1.1 })
      (λ y. (y.r_variables, (y.z_variables, (y.attributes, y.unused)))) (λ p o. record {
        gdr_named_lem = o.0.0;
        gdr_typed = o.0.1;
        r_variables = o.1.0;
        z_variables = o.1.1.0;
        attributes = o.1.1.1.0;
        unused = o.1.1.1.1;
      }) (λ y o. ((o.gdr_named_lem, o.gdr_typed), (o.r_variables, (o.z_variables, (o.attributes, o.unused))))) (λ p. refl) (λ y. refl)
      (take_leads (Steps f) (top Start) (top (Vars 3 (gdr_at f + 8) 0 0)) (gdr_at f) ((gdr_named f ≡ true) × (type_number f (gdr_at f) (pos 2) ≡ 0)) start_steps
      (then_leads (Steps f) (λ y. top (Vars 8 (gdr_at f + 12) 0 0)) (vars_lead 3 (gdr_at f + 8))
      (λ y. then_leads (Steps f) (λ y. top (Attrs (gdr_at f + 16) 0)) (vars_lead 8 (gdr_at f + 12))
      (λ y. then_leads (Steps f) (λ y. top (Unused (gdr_at f + 44) 0)) (attrs_lead (gdr_at f + 16)) (λ y. unused_lead (gdr_at f + 44))))))

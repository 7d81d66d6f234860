-- The numbers of a position of the walk stay in their ranges. Assumes nothing.
use mathlib.Core.Path.{◌≡◌, refl, sym, ◌∙◌}
use mathlib.Core.Logic.{◌⊎◌, inl, inr}
use mathlib.Core.Bool.{Bool, true, false, cond, or-true, and-true, and_assoc, ◌&&◌, ◌||◌}
use mathlib.Core.List.{List, [], ◌∷◌}
use Prim.Native.Nat.{ℕ, ◌+◌, ◌≤◌, max}
use native.Mathlib.Omega.{arith}
use lib.Dec.{ltb, leb, eqb}
use borrow.Author.Tests.{ltb-true, leb-true, le-leb, eqb-true, eq-eqb}
use lib.IntN.{pos}
use Rattle.format.specs.Fields.{end_of, is_at, after_at}
use Rattle.records.specs.Opening.{gdr_at}
use Rattle.records.specs.Index.{used_at, entry_of, index_at}
use Rattle.records.specs.Attributes.{adr_rule}
use Rattle.records.specs.Index as E
use Rattle.variables.specs.Vdr.{carried_of, variable_of}
use Rattle.walk.specs.Levels.{is_none, most_of}
use Rattle.format.specs.Numbers.{unless}
use Rattle.format.proofs.Tests.{both, either, cond_keeps}
use Rattle.format.proofs.Numbers.{unless_zero, zeros}
use Rattle.format.proofs.FieldRanges.{nat_small, after_small, num_small}
use Rattle.walk.specs.Walk.{type_number, values_number, gdr_named, field_number, over_by, takes, vars_tally, after_vars, var_number, into_index, vars_list, entered, lower_over, lower_next, chain_list, covers, lower_number, lower_step, attr_number, attrs_list, after_entries, one_more, entries_list, unused_list, Listing, list_step, walk_step_by}
use Rattle.walk.specs.Ranges.{Range, up_to, one_of, absent, var_kind, row_of, ranges_of, in_range, all_in}
use Rattle.walk.specs.Bounds.{InRange, AllIn, SmallLevel, Within}
use Rattle.walk.specs.declared.positions.Var.{Var}
use Rattle.walk.specs.declared.positions.Level.{Level}
use Rattle.walk.specs.declared.positions.Walk as W
use Rattle.walk.specs.declared.positions.Walk.TheVariants.{Start, Vars, Chain, Entry, Attrs, Entries, Unused}
use Rattle.walk.specs.declared.positions.Step as T
use Rattle.walk.specs.declared.positions.Step.TheVariants.{Over, End, Take, Down, Up}
use Rattle.walk.proofs.Small.{gdr_small, EntrySmall, entry_small}
use Rattle.walk.proofs.Leads.{record_small, link_keeps, list_keeps}

-- ---- ranges
-- the numbers of a position in the order of its row
within : (w : W.Walk)
    → InRange (row_of w).kind
    → InRange (row_of w).link
    → InRange (row_of w).count
    → InRange (row_of w).greatest
    → InRange (row_of w).owner
    → InRange (row_of w).before
    → InRange (row_of w).entry
    → InRange (row_of w).floor
    → Within w
within w kind link count greatest owner before entry floor = record {
  kind = kind;
  link = link;
  count = count;
  greatest = greatest;
  owner = owner;
  before = before;
  entry = entry;
  floor = floor;
}

pub start_within : Within Start
start_within = within Start tt tt tt tt tt tt tt tt

pub all_in_lem : (rs : List Range) → AllIn rs → all_in rs ≡ true
all_in_lem [] h = refl
all_in_lem (r ∷ rs) h = rw (in_range_lem r h.0, all_in_lem rs h.1)
  where
    in_range_lem : (r : Range) → InRange r → in_range r ≡ true
    in_range_lem (up_to n m) h = le-leb n m h
    in_range_lem (one_of n a b) (inl e) = rw (eq-eqb n a e)
    in_range_lem (one_of n a b) (inr e) = rw (eq-eqb n b e) (or-true (eqb n a))
    in_range_lem absent h = refl

pub in_all : (rs : List Range) → all_in rs ≡ true → AllIn rs
in_all [] e = tt
in_all (r ∷ rs) e = let p = both (in_range r) (all_in rs) e in (range_in r p.0, in_all rs p.1)
  where
    range_in : (r : Range) → in_range r ≡ true → InRange r
    range_in (up_to n m) e = leb-true n m e
    range_in (one_of n a b) e = go (either (eqb n a) (eqb n b) e)
      where
        go : ((eqb n a ≡ true) ⊎ (eqb n b ≡ true)) → (n ≡ a) ⊎ (n ≡ b)
        go (inl h) = inl (eqb-true n a h)
        go (inr h) = inr (eqb-true n b h)
    range_in absent e = tt

-- the tests of all numbers that have a meaning, each put to those before it, as code does
abbrev pub all_behind : Bool → List Range → Bool
all_behind b [] = b
all_behind b (up_to n m ∷ rs) = all_behind (b && leb n m) rs
all_behind b (one_of n x y ∷ rs) = all_behind (b && (eqb n x || eqb n y)) rs
all_behind b (absent ∷ rs) = all_behind b rs

pub one_by_one : (rs : List Range) → all_behind true rs ≡ all_in rs
one_by_one rs = behind true rs
  where
    behind : (b : Bool) (rs : List Range) → all_behind b rs ≡ (b && all_in rs)
    behind b [] = sym (and-true b)
    behind b (up_to n m ∷ rs) = behind (b && leb n m) rs ∙ and_assoc b (leb n m) (all_in rs)
    behind b (one_of n x y ∷ rs) = behind (b && (eqb n x || eqb n y)) rs ∙ and_assoc b (eqb n x || eqb n y) (all_in rs)
    behind b (absent ∷ rs) = behind b rs

-- so code tests the row of a position v, which w was found to be
pub row_tests : {w v : W.Walk} → w ≡ v → all_behind true (ranges_of (row_of v)) ≡ all_in (ranges_of (row_of w))
row_tests {w} {v} e = rw e (one_by_one (ranges_of (row_of v)))

pub within_in : (w : W.Walk) → Within w → all_in (ranges_of (row_of w)) ≡ true
within_in w h =
    all_in_lem (ranges_of (row_of w)) (h.kind, (h.link, (h.count, (h.greatest, (h.owner, (h.before, (h.entry, (h.floor, tt))))))))

pub in_within : (w : W.Walk) → all_in (ranges_of (row_of w)) ≡ true → Within w
in_within w e =
    let a = in_all (ranges_of (row_of w)) e in
    let b = a.1.1.1.1 in
    within w a.0 a.1.0 a.1.1.0 a.1.1.1.0 b.0 b.1.0 b.1.1.0 b.1.1.1.0

-- those of the variable whose index is walked
record VarWithin (u : Var) : Type 0 where
  kind : InRange (var_kind u.kind)
  vdr : u.vdr ≤ 2147483647
  place : u.place ≤ 2147483647
  greatest : u.greatest ≤ 2147483648

-- ---- a step
abbrev pub NextWithin : T.Step → Type 0
NextWithin (Over w v) = Within w
NextWithin (End v) = Unit {0}
NextWithin (Take w early t typed late) = Within w
NextWithin (Down w t typed l) = Within w × SmallLevel l × (1 ≤ l.next)
NextWithin (Up w) = Within w

pub record StepWithin (t : T.Step) : Type 0 where
  pub next_within : NextWithin t

module _ (f : List ℕ) where
  over_within : {v : ℕ} (w : W.Walk) → Within w → StepWithin (Over w v)
  over_within w h = record { next_within = h }

  end_within : {v : ℕ} → StepWithin (End v)
  end_within = record { next_within = tt }

  takes_within : (early o typed late : ℕ) (w : W.Walk) → (late ≡ 0 → Within w) → StepWithin (takes early o typed late w)
  takes_within early o typed late w h = record { next_within = go (eqb early 0) (eqb late 0) refl }
    where
      go : (a b : Bool) → eqb late 0 ≡ b → Within (cond (a && b) w Start)
      go true true e = h (eqb-true late 0 e)
      go true false e = start_within
      go false b e = start_within

  after_vars_lem : (t : ℕ) → Within (after_vars f t)
  after_vars_lem t =
      cond_keeps Within (eqb t 8)
      (within (Attrs (gdr_at f + 16) 0) tt (omega (arith, gdr_small f)) (omega arith) tt tt tt tt tt)
      (within (Vars 8 (gdr_at f + 12) 0 0) (inr refl) (omega (arith, gdr_small f)) (omega arith) (omega arith) tt tt tt tt)

  entered_within : (u : Var) (x i floor : ℕ) (c : Bool) → VarWithin u → x ≤ 2147483647 → floor ≤ 2147483648 → Within (entered f u x i floor c)
  entered_within u x i floor c v a d = go (ltb i (used_at f x)) refl
    where
      go : (b : Bool) → ltb i (used_at f x) ≡ b → Within (cond b (Entry u x i floor c) (Chain u (x + 8) x floor c))
      go true e =
          let less : i ≤ 2147483647 = omega (arith, ltb-true i (used_at f x) e, nat_small f (x + 16)) in
          within (Entry u x i floor c) v.kind tt v.place v.greatest v.vdr a less d
      go false e =
          let less : x + 8 ≤ 2147483711 = omega arith in
          within (Chain u (x + 8) x floor c) v.kind less v.place v.greatest v.vdr a tt d

  after_entries_lem : (t a n : ℕ) → a ≤ 2147483647 → n ≤ 2147483647 → Within (after_entries t a n)
  after_entries_lem t a n h e =
      cond_keeps Within (eqb t 9) (within (Attrs (a + 8) (n + 1)) tt (omega arith) (omega arith) tt tt tt tt tt)
      (within (Entries 9 a n (a + 36) 0 0) (inr refl) (omega arith) e tt h tt (omega arith) (omega arith))

  one_more_lem : (n : ℕ) → one_more n ≤ 2147483648
  unfolding one_more
  one_more_lem n = omega arith

  -- "Num is the place in its list": so the place of a record that is claimed is below 2 ^ 31
  var_place : (k n o : ℕ) → var_number f k n o ≡ 0 → n ≤ 2147483647
  unfolding var_number
  var_place k n o e =
      let num = unless 11 (is_at f (o + 52) (pos n)) in
      num_small f (o + 52) n (unless_zero 10 (is_at f (o + 52) (pos n)) (zeros (carried_of f o ∷ (variable_of f k o).fault ∷ num ∷ []) e 2))

  attr_place : (n o : ℕ) → attr_number f n o ≡ 0 → n ≤ 2147483647
  unfolding attr_number
  attr_place n o e =
      let num = unless 11 (is_at f (o + 20) (pos n)) in
      num_small f (o + 20) n (unless_zero 10 (is_at f (o + 20) (pos n)) (zeros (adr_rule f o ∷ num ∷ []) e 1))

module _ (f : List ℕ) where
  -- an entry that names values, and one that names an index record
  values_within : (u : Var) (x i floor : ℕ) (c : Bool) (typed late : ℕ) (e : E.Entry) → EntrySmall f e → VarWithin u → x ≤ 2147483647
      → StepWithin (takes e.fault e.link typed late (entered f u x (i + 1) (e.last + 1) c))
  values_within u x i floor c typed late e s v h =
      takes_within f e.fault e.link typed late (entered f u x (i + 1) (e.last + 1) c)
      (λ z. entered_within f u x (i + 1) (e.last + 1) c v h (omega (arith, s.last_small)))

  lower_within : (u : Var) (x i : ℕ) (c room : Bool) (e : E.Entry) → EntrySmall f e → VarWithin u → x ≤ 2147483647 → i ≤ 2147483647
      → StepWithin (lower_step f u x i c room e)
  lower_within u x i c room e s v h g =
      cond_keeps StepWithin (eqb e.fault 0 && eqb (lower_number f e.link) 0)
      (record {
        next_within = (
          entered_within f u e.link 0 e.first c v (omega (arith, s.named_small)) (omega (arith, s.first_small)),
          (h, (omega arith, (omega (arith, s.last_small), tt))),
          omega arith,
        );
      })
      (record { next_within = start_within })

  -- a link of a list
  within_list : (p : ℕ) (l : Listing) → StepWithin l.over → ((o : ℕ) → o ≤ 2147483647 → l.number o ≡ 0 → Within (l.next o)) → StepWithin (list_step f p l)
  within_list p l over next =
      list_keeps f p StepWithin l (end_within f) over
      (λ o h. takes_within f 0 o (type_number f o l.typed) (l.number o) (l.next o) (λ z. let s = record_small f p o h in next o (omega arith) z))

  over_gdr : (v : ℕ) (w : W.Walk) → Within w → StepWithin (over_by f v w)
  over_gdr v w h = cond_keeps StepWithin (gdr_named f) {x = Over w v} {y = End 20} (over_within f w h) (end_within f)

  -- a zero link of an index record
  lower_over_lem : (u : Var) (near : Level) (c : Bool) → SmallLevel near → VarWithin u → StepWithin (lower_over f u near c)
  lower_over_lem u near c l v =
      cond_keeps StepWithin (ltb (end_of f) (near.vxr + 20)) {x = End 20} (end_within f)
      (record { next_within = entered_within f u near.vxr near.next (near.last + 1) c v l.0 (let m = l.1.1.0 in omega arith) })

  -- a step of the walk stays within
  pub step_within : (near : Level) (room : Bool) (w : W.Walk) → SmallLevel near → Within w → StepWithin (walk_step_by f near room w)
  unfolding walk_step_by lower_next
  step_within near room Start l h =
      cond_keeps StepWithin (gdr_named f)
      (takes_within f 0 (gdr_at f) (type_number f (gdr_at f) (pos 2)) 0 (Vars 3 (gdr_at f + 8) 0 0)
      (λ z. within (Vars 3 (gdr_at f + 8) 0 0) (inl refl) (omega (arith, gdr_small f)) (omega arith) (omega arith) tt tt tt tt)) (end_within f)
  step_within near room (Vars k p n greatest) l h =
      within_list p (vars_list f k n greatest) (over_gdr (vars_tally f k n greatest) (after_vars f k) (after_vars_lem f k)) (λ o s z.
      within (into_index f k n greatest o) h.kind (omega arith) (var_place f k n o z) (omega (arith, after_small f (o + 16), h.greatest)) s (omega arith) tt (omega arith))
  step_within near room (Chain u p last floor c) l h =
      let v : VarWithin u = record { kind = h.kind; vdr = h.owner; place = h.count; greatest = h.greatest } in
      cond_keeps StepWithin (is_none near)
      (within_list p (chain_list f u last floor c)
      (over_within f (Vars u.kind (u.vdr + 8) (u.place + 1) u.greatest)
      (within (Vars u.kind (u.vdr + 8) (u.place + 1) u.greatest) h.kind (omega (arith, h.owner)) (omega (arith, h.count)) h.greatest tt tt tt tt))
      (λ o s z. entered_within f u o 0 floor c v s h.floor))
      (link_keeps f p StepWithin {over = lower_over f u near c} {taken = λ o. End 11} (end_within f) (lower_over_lem u near c l v) (λ o s. end_within f))
  step_within near room (Entry u x i floor c) l h =
      let v : VarWithin u = record { kind = h.kind; vdr = h.owner; place = h.count; greatest = h.greatest } in
      let e = entry_of f x i floor (most_of near) in
      let small = entry_small f x i floor (most_of near) in
      cond_keeps StepWithin (index_at f e.link) (lower_within u x i c room e small v h.before h.entry)
      (values_within u x i floor (c || covers f u.vdr e) (type_number f e.link (pos 7)) (values_number f (variable_of f u.kind u.vdr) e) e small v h.before)
  step_within near room (Attrs p n) l h =
      within_list p (attrs_list f n)
      (over_gdr (field_number f (gdr_at f + 28) (pos n)) (Unused (gdr_at f + 44) 0)
      (within (Unused (gdr_at f + 44) 0) tt (omega (arith, gdr_small f)) tt tt tt (omega arith) tt tt))
      (λ o s z. within (Entries 5 o n (o + 12) 0 0) (inl refl) (omega arith) (attr_place f n o z) tt s tt (omega arith) (omega arith))
  step_within near room (Entries k a n p e greatest) l h =
      within_list p (entries_list f k a n e greatest) (over_within f (after_entries k a n) (after_entries_lem f k a n h.owner h.count)) (λ o r z.
      let most = max (after_at f (o + 20)) greatest in
      within (Entries k a n (o + 8) (one_more e) most) h.kind (omega arith) h.count tt h.owner tt (one_more_lem f e) (omega (arith, after_small f (o + 20), h.floor)))
  step_within near room (Unused p b) l h =
      within_list p (unused_list f b) (end_within f) (λ o s z. within (Unused (o + 8) o) tt (omega arith) tt tt tt s tt tt)

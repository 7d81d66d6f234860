-- The numbers that a step of the walk can refuse with: those before the place of a link is looked at have a fact E if 0, 12 and 20 have it,
-- those of a list's end a fact L if 0, 11, 12 and 20 have it, the others a fact Q if 0, 8, 10, 11, 20, 14 of a record with Flags
-- bit 2 and 23 of an index record have it. Assumes nothing.
use mathlib.Core.Path.{◌≡◌, refl}
use mathlib.Core.Bool.{Bool, true, false, cond, ◌&&◌, ◌||◌}
use mathlib.Core.List.{List, [], ◌∷◌}
use Prim.Native.Nat.{ℕ, ◌+◌, ◌-◌}
use lib.Dec.{ltb, eqb}
use lib.IntN.{ℤ, pos, negsuc}
use Rattle.format.specs.Fields.{end_of, is_at, same_at, bit_at, before}
use Rattle.format.specs.Numbers.{first, unless}
use Rattle.format.proofs.Tests.{cond_keeps}
use Rattle.format.proofs.Numbers.{All, first_has}
use Rattle.records.specs.Rules.{reach_of}
use Rattle.records.specs.Opening.{gdr_at}
use Rattle.records.specs.Attributes.{adr_rule, aedr_rule}
use Rattle.records.specs.Index.{entry_of, index_at, vxr_rule, vvr_rule}
use Rattle.records.specs.Unused.{uir_rule}
use Rattle.records.specs.Index as I
use Rattle.variables.specs.Vdr.{Variable}
use Rattle.variables.specs.Vdr.{carried_of, variable_of}
use Rattle.records.proofs.Judged.{reach_cases}
use Rattle.records.proofs.Fielded.{adr_has, aedr_has, vxr_has, vvr_has, uir_has}
use Rattle.records.proofs.Ranges.{entry_cases}
use Rattle.variables.proofs.Rule.{vdr_cases, carried_cases}
use Rattle.walk.specs.Walk.{type_number, gdr_named, field_number, over_by, after_vars, vars_list, lower_over, lower_next, chain_list, attrs_list, entries_list, unused_list, Listing, list_step, tallied, count_in, num_number, vars_tally, var_number, chain_tally, values_number, lower_number, attr_number, entries_tally, entry_number, unused_number, lower_step, values_step, entry_step, walk_step_by}
use Rattle.walk.specs.Levels.{is_none, most_of}
use Rattle.walk.specs.declared.positions.Level.{Level}
use Rattle.walk.specs.declared.positions.Var.{Var}
use Rattle.walk.specs.declared.positions.Walk as W
use Rattle.walk.specs.declared.positions.Walk.TheVariants.{Start, Vars, Chain, Entry, Attrs, Entries, Unused}
use Rattle.walk.specs.declared.positions.Step as T
use Rattle.walk.specs.declared.positions.Step.TheVariants.{Over, End, Take, Down, Up}
use Rattle.walk.proofs.Leads.{link_keeps, list_keeps}

-- the numbers of a step of the walk; those of a link have their fact together with the record that it leads to
abbrev pub StepNumbers : (ℕ → Type 0) → (ℕ → Type 0) → (ℕ → ℕ → Type 0) → T.Step → Type 0
StepNumbers E L Q (Over w v) = L v
StepNumbers E L Q (End v) = L v
StepNumbers E L Q (Take w early t typed late) = E early × Q t typed × Q t late
StepNumbers E L Q (Down w t typed l) = Q t typed
StepNumbers E L Q (Up w) = Unit {0}

pub record StepHas (E L : ℕ → Type 0) (Q : ℕ → ℕ → Type 0) (t : T.Step) : Type 0 where
  pub has : StepNumbers E L Q t

module _ (f : List ℕ) (E L : ℕ → Type 0) (Q : ℕ → ℕ → Type 0) (early_0 : E 0) (early_12 : E 12) (early_20 : E 20) (ends_0 : L 0) (ends_11 : L 11)
    (ends_12 : L 12) (ends_20 : L 20) (has_0 : (t : ℕ) → Q t 0) (has_8 : (t : ℕ) → Q t 8) (has_10 : (t : ℕ) → Q t 10) (has_11 : (t : ℕ) → Q t 11)
    (has_14 : (t : ℕ) → bit_at f (t + 28) 4 ≡ true → Q t 14) (has_20 : (t : ℕ) → Q t 20) (has_23 : (t : ℕ) → index_at f t ≡ true → Q t 23) where
  -- what both branches have, a test between them has
  ends_cond : (b : Bool) {x y : ℕ} → L x → L y → L (cond b x y)
  ends_cond b p q = cond_keeps L b p q

  ends_first : (vs : List ℕ) → All L vs → L (first vs)
  ends_first vs h = first_has L ends_0 vs h

  over_has : {v : ℕ} {w : W.Walk} → L v → StepHas E L Q (Over w v)
  over_has h = record { has = h }

  end_has : {v : ℕ} → L v → StepHas E L Q (End v)
  end_has h = record { has = h }

  take_has : {early t typed late : ℕ} {w : W.Walk} → E early → Q t typed → Q t late → StepHas E L Q (Take w early t typed late)
  take_has a b c = record { has = (a, b, c) }

  -- ---- before a link, and at a list's end
  ends_field : (p : ℕ) (z : ℤ) → L (field_number f p z)
  unfolding field_number
  ends_field p z = ends_cond (ltb (end_of f) (p + 4)) ends_20 (ends_cond (is_at f p z) ends_0 ends_11)

  ends_tally : (p n q greatest : ℕ) → L (tallied f p n q greatest)
  unfolding tallied
  ends_tally p n q greatest =
      ends_first (field_number f p (pos n) ∷ field_number f q (before greatest) ∷ []) (ends_field p (pos n), (ends_field q (before greatest), tt))

  ends_vars : (k n greatest : ℕ) → L (vars_tally f k n greatest)
  unfolding vars_tally
  ends_vars k n greatest = ends_cond (eqb k 8) (ends_field (gdr_at f + 40) (pos n)) (ends_tally (gdr_at f + 24) n (gdr_at f + 32) greatest)

  ends_chain : (v last : ℕ) (covered : Bool) → L (chain_tally f v last covered)
  unfolding chain_tally
  ends_chain v last covered =
      ends_first (field_number f (v + 24) (pos last) ∷ unless 12 (is_at f (v + 16) (negsuc 0) || covered) ∷ [])
      (ends_field (v + 24) (pos last), (ends_cond (is_at f (v + 16) (negsuc 0) || covered) ends_0 ends_12, tt))

  early_entry : (x i floor most : ℕ) → E (entry_of f x i floor most).fault
  early_entry x i floor most = entry_cases f x i floor most (λ e. E e.fault) early_12 early_20 (λ _. early_0)

  ends_entries : (k a n greatest : ℕ) → L (entries_tally f k a n greatest)
  unfolding entries_tally
  ends_entries k a n greatest = let p = a + count_in k in ends_tally p n (p + 4) greatest

  -- ---- a link to t
  module _ (t : ℕ) where
    has_cond : (b : Bool) {x y : ℕ} → Q t x → Q t y → Q t (cond b x y)
    has_cond b p q = cond_keeps (Q t) b p q

    has_unless : (v : ℕ) (b : Bool) → Q t v → Q t (unless v b)
    has_unless v b h = has_cond b (has_0 t) h

    has_first : (vs : List ℕ) → All (Q t) vs → Q t (first vs)
    has_first vs h = first_has (Q t) (has_0 t) vs h

    has_type : (o : ℕ) (z : ℤ) → Q t (type_number f o z)
    unfolding type_number
    has_type o z = has_cond (ltb (end_of f) (o + 8)) (has_20 t) (has_unless 8 (is_at f (o + 4) z) (has_8 t))

    has_reach : (o n : ℕ) → Q t (reach_of f o n)
    has_reach o n = reach_cases f o (Q t) n (has_10 t) (has_20 t) (λ _. has_0 t)

    has_variable : (k o : ℕ) → Q t (variable_of f k o).fault
    has_variable k o = vdr_cases f k o (λ u. Q t u.fault) (has_10 t) (has_20 t) (λ _. has_0 t)

    has_carried : Q t (carried_of f t)
    has_carried = carried_cases f t (Q t) (has_0 t) (has_14 t)

    has_var : (k n : ℕ) → Q t (var_number f k n t)
    unfolding var_number
    has_var k n =
        has_first (carried_of f t ∷ (variable_of f k t).fault ∷ unless 11 (is_at f (t + 52) (pos n)) ∷ [])
        (has_carried, (has_variable k t, (has_unless 11 (is_at f (t + 52) (pos n)) (has_11 t), tt)))

    has_vxr : (o : ℕ) → Q t (vxr_rule f o)
    has_vxr o = vxr_has f o (Q t) (has_0 t) (has_10 t) (has_20 t)

    has_vvr : (o n bytes : ℕ) → Q t (vvr_rule f o n bytes)
    has_vvr o n bytes = vvr_has f o (Q t) (has_0 t) (has_10 t) (has_20 t) n bytes

    has_values : (v : Variable) (e : I.Entry) → Q t v.fault → Q t (values_number f v e)
    unfolding values_number
    has_values v e h =
        has_first (reach_of f e.link 8 ∷ v.fault ∷ vvr_rule f e.link (e.last - e.first + 1) v.bytes ∷ [])
        (has_reach e.link 8, (h, (has_vvr e.link (e.last - e.first + 1) v.bytes, tt)))

    has_lower : (o : ℕ) → Q t (lower_number f o)
    unfolding lower_number
    has_lower o =
        has_first (vxr_rule f o ∷ unless 11 (is_at f (o + 8) (pos 0)) ∷ []) (has_vxr o, (has_unless 11 (is_at f (o + 8) (pos 0)) (has_11 t), tt))

    has_attr : (n o : ℕ) → Q t (attr_number f n o)
    unfolding attr_number
    has_attr n o =
        has_first (adr_rule f o ∷ unless 11 (is_at f (o + 20) (pos n)) ∷ [])
        (adr_has f o (Q t) (has_0 t) (has_10 t) (has_20 t), (has_unless 11 (is_at f (o + 20) (pos n)) (has_11 t), tt))

    has_aedr : (a o : ℕ) → Q t (entry_number f a o)
    unfolding entry_number num_number
    has_aedr a o =
        has_first (aedr_rule f o ∷ num_number f a o ∷ []) (
          aedr_has f o (Q t) (has_0 t) (has_10 t) (has_20 t),
          (has_cond (ltb (end_of f) (a + 24)) (has_20 t) (has_unless 11 (same_at f (o + 12) (a + 20)) (has_11 t)), tt),
        )

    has_unused : (b o : ℕ) → Q t (unused_number f b o)
    unfolding unused_number
    has_unused b o =
        has_first (uir_rule f o ∷ unless 11 (is_at f (o + 12) (pos b)) ∷ [])
        (uir_has f o (Q t) (has_0 t) (has_10 t) (has_20 t), (has_unless 11 (is_at f (o + 12) (pos b)) (has_11 t), tt))

  -- ---- a step of the walk
  -- a link of an index, to lower records or to values
  has_entry : (room : Bool) (u : Var) (x i : ℕ) (c : Bool) (e : I.Entry) → E e.fault → StepHas E L Q (entry_step f u x i c room e)
  has_entry room u x i c e fault = go (index_at f e.link) refl
    where
      o : ℕ
      o = e.link

      go : (b : Bool) → index_at f e.link ≡ b → StepHas E L Q (cond b (lower_step f u x i c room e) (values_step f u x i c e))
      go true h =
          let deep = has_unless o 23 room (has_23 o h) in
          cond_keeps (StepHas E L Q) (eqb e.fault 0 && eqb (lower_number f o) 0) (record { has = deep }) (take_has fault deep (has_lower o o))
      go false h =
          take_has fault (has_type o o (pos 7)) (has_values o (variable_of f u.kind u.vdr) e (has_variable o u.kind u.vdr))

  -- a link of a list
  list_has : (p : ℕ) (l : Listing) → StepHas E L Q l.over → ((o : ℕ) → Q o (l.number o)) → StepHas E L Q (list_step f p l)
  list_has p l over number =
      list_keeps f p (StepHas E L Q) l (end_has ends_20) over (λ o h. take_has early_0 (has_type o o l.typed) (number o))

  over_gdr : (v : ℕ) (w : W.Walk) → L v → StepHas E L Q (over_by f v w)
  over_gdr v w h = cond_keeps (StepHas E L Q) (gdr_named f) {x = Over w v} {y = End 20} (over_has h) (end_has ends_20)

  pub step_has : (near : Level) (room : Bool) (w : W.Walk) → StepHas E L Q (walk_step_by f near room w)
  unfolding walk_step_by lower_next
  step_has near room Start =
      let o = gdr_at f in
      cond_keeps (StepHas E L Q) (gdr_named f) (take_has early_0 (has_type o o (pos 2)) (has_0 o)) (end_has ends_20)
  step_has near room (Vars k p n greatest) =
      list_has p (vars_list f k n greatest) (over_gdr (vars_tally f k n greatest) (after_vars f k) (ends_vars k n greatest)) (λ o. has_var o k n)
  step_has near room (Chain u p last floor c) =
      cond_keeps (StepHas E L Q) (is_none near)
      (list_has p (chain_list f u last floor c) (over_has (ends_chain u.vdr last c)) (λ o. has_vxr o o))
      (link_keeps f p (StepHas E L Q) {over = lower_over f u near c} {taken = λ o. End 11} (end_has ends_20)
      (cond_keeps (StepHas E L Q) (ltb (end_of f) (near.vxr + 20)) {x = End 20} (end_has ends_20) (record { has = tt }))
      (λ o h. end_has ends_11))
  step_has near room (Entry u x i floor covered) =
      has_entry room u x i covered (entry_of f x i floor (most_of near)) (early_entry x i floor (most_of near))
  step_has near room (Attrs p n) =
      list_has p (attrs_list f n) (over_gdr (field_number f (gdr_at f + 28) (pos n)) (Unused (gdr_at f + 44) 0) (ends_field (gdr_at f + 28) (pos n)))
      (λ o. has_attr o n o)
  step_has near room (Entries k a n p e greatest) =
      list_has p (entries_list f k a n e greatest) (over_has (ends_entries k a e greatest)) (λ o. has_aedr o a o)
  step_has near room (Unused p b) = list_has p (unused_list f b) (end_has ends_0) (λ o. has_unused o b o)

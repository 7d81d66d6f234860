-- The records that a position of the walk names: the holder of its link, and those that it goes on from, are starts if what the links led to
-- were. Assumes nothing.
use mathlib.Core.Path.{◌≡◌, refl, sym, subst}
use mathlib.Core.Bool.{Bool, true, false, cond, ◌&&◌, ◌||◌, true≢false}
use mathlib.Core.List.{List}
use Prim.Native.Nat.{ℕ, ◌+◌, ◌-◌, ◌≤◌, max}
use native.Mathlib.Omega.{arith}
use lib.Dec.{ltb, eqb}
use borrow.Author.Tests.{ne_eqb}
use Rattle.format.proofs.Tests.{cond_keeps}
use lib.IntN.{pos}
use Rattle.format.specs.Fields.{end_of, after_at}
use Rattle.records.specs.Opening.{gdr_at}
use Rattle.records.specs.Index.{used_at, index_at, entry_of}
use Rattle.variables.specs.Vdr.{variable_of}
use Rattle.walk.specs.Levels.{is_none, most_of, no_level, room_below}
use Rattle.walk.specs.Walk.{type_number, values_number, gdr_named, field_number, over_by, vars_tally, after_vars, vars_list, entered, lower_over, lower_next, chain_list, chain_step, lower_number, covers, attrs_list, one_more, entries_list, unused_list, Listing, list_step, walk_step_by, walk_step}
use Rattle.walk.specs.declared.positions.Var.{Var}
use Rattle.walk.specs.declared.positions.Level.{Level}
use Rattle.walk.specs.declared.positions.Levels.{Levels}
use Rattle.walk.specs.declared.positions.Walk as W
use Rattle.walk.specs.declared.positions.Walk.TheVariants.{Start, Vars, Chain, Entry, Attrs, Entries, Unused}
use Rattle.walk.specs.declared.positions.Step as T
use Rattle.walk.specs.declared.positions.Step.TheVariants.{Over, End, Take, Down, Up}
use Rattle.walk.proofs.Leads.{link_keeps, list_keeps}
use Rattle.faults.specs.Holder.{link_in, holder_of}
use Rattle.demands.proofs.Positions.{Position, top, Move, passes, stops, takes, move_by, move_of}

module _ (f : List ℕ) (S : ℕ → Type 0) (first : S 8) (low : (o : ℕ) → S o → 8 ≤ o) where
  -- ---- what a position names
  -- the GDR, once it is taken; the VDR or ADR that the walk goes on from
  abbrev Owners : W.Walk → Type 0
  Owners Start = Unit {0}
  Owners (Vars k p n greatest) = S (gdr_at f)
  Owners (Chain u p x floor covered) = S (gdr_at f) × S u.vdr
  Owners (Entry u x i floor covered) = S (gdr_at f) × S u.vdr
  Owners (Attrs p n) = S (gdr_at f)
  Owners (Entries k a n p e greatest) = S (gdr_at f) × S a
  Owners (Unused p b) = S (gdr_at f)

  pub record Stands (w : W.Walk) : Type 0 where
    pub holder : S (holder_of w)
    pub owners : Owners w

  -- a level that is there
  abbrev pub LevelStands : Level → Type 0
  LevelStands l = is_none l ≡ false → S l.vxr

  abbrev pub LevelsStand : Levels → Type 0
  LevelsStand s =
      LevelStands s.a × LevelStands s.b × LevelStands s.c × LevelStands s.d × LevelStands s.e × LevelStands s.f × LevelStands s.g

  no_level_lem : LevelStands no_level
  unfolding is_none
  no_level_lem = λ e. absurd (true≢false e)

  -- ---- a link stands n bytes behind the record that holds it
  back : (o n : ℕ) → S o → S (o + n - n)
  back o n s = let e : o + n - n ≡ o = omega arith in subst S (sym e) s

  -- the next of a record
  behind : (o taken head : ℕ) → (taken ≡ 0 → ⊥) → S o → S (o + 8 - link_in taken head)
  behind o taken head n s = rw (ne_eqb taken 0 n) (back o 8 s)

  start_stands : Stands Start
  unfolding holder_of
  start_stands = record { holder = first; owners = tt }

  gdr_vars : S (gdr_at f) → Stands (Vars 3 (gdr_at f + 8) 0 0)
  unfolding holder_of
  gdr_vars s = record { holder = back (gdr_at f) 8 s; owners = s }

  after_vars_lem : (k : ℕ) → S (gdr_at f) → Stands (cond (eqb k 8) (Attrs (gdr_at f + 16) 0) (Vars 8 (gdr_at f + 12) 0 0))
  unfolding holder_of
  after_vars_lem k s =
      cond_keeps Stands (eqb k 8) (record { holder = back (gdr_at f) 16 s; owners = s }) (record { holder = back (gdr_at f) 12 s; owners = s })

  into_index : (u : Var) → S (gdr_at f) → S u.vdr → Stands (Chain u (u.vdr + 20) 0 0 false)
  unfolding holder_of
  into_index u g s = record { holder = back u.vdr 20 s; owners = (g, s) }

  next_var : (u : Var) → S (gdr_at f) → S u.vdr → Stands (Vars u.kind (u.vdr + 8) (u.place + 1) u.greatest)
  unfolding holder_of
  next_var u g s = record { holder = behind u.vdr (u.place + 1) (cond (eqb u.kind 8) 12 8) (λ e. omega arith) s; owners = g }

  enters : (u : Var) (x i floor : ℕ) (c : Bool) → S (gdr_at f) → S u.vdr → S x → Stands (entered f u x i floor c)
  unfolding holder_of
  enters u x i floor c g v s =
      let h = low x s in
      cond_keeps Stands (ltb i (used_at f x)) (record { holder = s; owners = (g, v) })
      (record { holder = behind x x 20 (λ e. omega arith) s; owners = (g, v) })

  to_unused : S (gdr_at f) → Stands (Unused (gdr_at f + 44) 0)
  unfolding holder_of
  to_unused s = record { holder = back (gdr_at f) 44 s; owners = s }

  to_entries : (o n : ℕ) → S (gdr_at f) → S o → Stands (Entries 5 o n (o + 12) 0 0)
  unfolding holder_of
  to_entries o n g s = record { holder = back o 12 s; owners = (g, s) }

  after_entries_lem : (k a n : ℕ) → S (gdr_at f) → S a → Stands (cond (eqb k 9) (Attrs (a + 8) (n + 1)) (Entries 9 a n (a + 36) 0 0))
  unfolding holder_of
  after_entries_lem k a n g s =
      cond_keeps Stands (eqb k 9) (record { holder = behind a (n + 1) 16 (λ e. omega arith) s; owners = g })
      (record { holder = back a 36 s; owners = (g, s) })

  next_entry : (k a n o e greatest : ℕ) → S (gdr_at f) → S a → S o → Stands (Entries k a n (o + 8) (one_more e) greatest)
  unfolding holder_of one_more
  next_entry k a n o e greatest g s t =
      record { holder = behind o (one_more e) (cond (eqb k 9) 36 12) (λ z. omega arith) t; owners = (g, s) }

  next_unused : (o : ℕ) → S (gdr_at f) → S o → Stands (Unused (o + 8) o)
  unfolding holder_of
  next_unused o g s = let h = low o s in record { holder = behind o o 44 (λ e. omega arith) s; owners = g }

  -- ---- a step
  -- what it leads to stands, if the target of its link is a start
  abbrev NextStands : T.Step → Type 0
  NextStands (Over w v) = Stands w
  NextStands (End v) = Unit {0}
  NextStands (Take w early t typed late) = S t → Stands w
  NextStands (Down w t typed l) = S t → Stands w × LevelStands l
  NextStands (Up w) = Stands w

  record StepStands (t : T.Step) : Type 0 where
    next : NextStands t

  over : {w : W.Walk} {v : ℕ} → Stands w → StepStands (Over w v)
  over s = record { next = s }

  end : {v : ℕ} → StepStands (End v)
  end = record { next = tt }

  refused : {early t typed late : ℕ} → StepStands (Take Start early t typed late)
  refused = record { next = λ s. start_stands }

  -- a link to a record, which is refused or goes on
  take : (early t typed late : ℕ) {w : W.Walk} → (S t → Stands w) → StepStands (Take (cond (eqb early 0 && eqb late 0) w Start) early t typed late)
  take early t typed late s = record { next = λ h. cond_keeps Stands (eqb early 0 && eqb late 0) (s h) start_stands }

  module _ (near : Level) (above : LevelStands near) where
    -- a link of a list
    list_stands : (p : ℕ) (l : Listing) → StepStands l.over → ((o : ℕ) → S o → Stands (l.next o)) → StepStands (list_step f p l)
    list_stands p l ends next =
        list_keeps f p StepStands l end ends (λ o h. take 0 o (type_number f o l.typed) (l.number o) (next o))

    over_gdr : (v : ℕ) (w : W.Walk) → Stands w → StepStands (over_by f v w)
    over_gdr v w s = cond_keeps StepStands (gdr_named f) {x = Over w v} {y = End 20} (over s) end

    -- the next of a lower record, which is there
    lower_stands : (p : ℕ) (u : Var) (c : Bool) → S (gdr_at f) → S u.vdr → is_none near ≡ false → StepStands (lower_next f u near p c)
    unfolding lower_next
    lower_stands p u c g v e =
        link_keeps f p StepStands {over = lower_over f u near c} {taken = λ o. End 11} end
        (cond_keeps StepStands (ltb (end_of f) (near.vxr + 20)) {x = End 20} end
        (record { next = enters u near.vxr near.next (near.last + 1) c g v (above e) })) (λ o h. end)

    chain_stands : (u : Var) (p last floor : ℕ) (c : Bool) → S (gdr_at f) → S u.vdr → StepStands (chain_step f near u p last floor c)
    chain_stands u p last floor c g v = go (is_none near) refl
      where
        go : (b : Bool) → is_none near ≡ b → StepStands (cond b (list_step f p (chain_list f u last floor c)) (lower_next f u near p c))
        go true e = list_stands p (chain_list f u last floor c) (over (next_var u g v)) (λ o h. enters u o 0 floor c g v h)
        go false e = lower_stands p u c g v e

    step_stands : (room : Bool) (w : W.Walk) → Stands w → StepStands (walk_step_by f near room w)
    unfolding walk_step_by holder_of
    step_stands room Start s = cond_keeps StepStands (gdr_named f) (take 0 (gdr_at f) (type_number f (gdr_at f) (pos 2)) 0 (λ g. gdr_vars g)) end
    step_stands room (Vars k p n greatest) s =
        list_stands p (vars_list f k n greatest) (over_gdr (vars_tally f k n greatest) (after_vars f k) (after_vars_lem k s.owners))
        (λ o v. into_index (record { kind = k; vdr = o; place = n; greatest = max (after_at f (o + 16)) greatest }) s.owners v)
    step_stands room (Chain u p last floor c) s = chain_stands u p last floor c s.owners.0 s.owners.1
    step_stands room (Entry u x i floor c) s =
        let g = s.owners.0 in
        let v = s.owners.1 in
        let e = entry_of f x i floor (most_of near) in
        cond_keeps StepStands (index_at f e.link)
        (cond_keeps StepStands (eqb e.fault 0 && eqb (lower_number f e.link) 0)
        (record { next = λ h. (enters u e.link 0 e.first c g v h, λ z. s.holder) }) refused)
        (take e.fault e.link (type_number f e.link (pos 7)) (values_number f (variable_of f u.kind u.vdr) e) (λ h. enters u x (i + 1) (e.last + 1) (c || covers f u.vdr e) g v s.holder))
    step_stands room (Attrs p n) s =
        list_stands p (attrs_list f n) (over_gdr (field_number f (gdr_at f + 28) (pos n)) (Unused (gdr_at f + 44) 0) (to_unused s.owners))
        (λ o h. to_entries o n s.owners h)
    step_stands room (Entries k a n p e greatest) s =
        list_stands p (entries_list f k a n e greatest) (over (after_entries_lem k a n s.owners.0 s.owners.1))
        (λ o h. next_entry k a n o e (max (after_at f (o + 20)) greatest) s.owners.0 s.owners.1 h)
    step_stands room (Unused p b) s = list_stands p (unused_list f b) end (λ o h. next_unused o s.owners h)

  -- ---- positions, with the index records above them
  abbrev pub PositionStands : Position → Type 0
  PositionStands p = Stands p.walk × LevelsStand p.up

  abbrev pub MoveStands : Move → Type 0
  MoveStands (passes v p) = PositionStands p
  MoveStands (stops v) = Unit {0}
  MoveStands (takes b t k l p) = S t → PositionStands p

  by_step : (up : Levels) → LevelsStand up → (t : T.Step) → StepStands t → MoveStands (move_by up t)
  by_step up l (Over w v) s = (s.next, l)
  by_step up l (End v) s = tt
  by_step up l (Take w early t typed late) s = λ h. (s.next h, l)
  by_step up l (Down w t typed x) s = λ h. let r = s.next h in (r.0, (r.1, l.0, l.1, l.2, l.3, l.4, l.5))
  by_step up l (Up w) s = (s.next, (l.1, l.2, l.3, l.4, l.5, l.6, no_level_lem))

  pub move_stands : (p : Position) → PositionStands p → MoveStands (move_of f p)
  move_stands p s = by_step p.up s.1 (walk_step f p.up p.walk) (step_stands p.up.a s.1.0 (room_below p.up) p.walk s.0)

  pub top_stands : PositionStands (top Start)
  top_stands = (start_stands, (no_level_lem, no_level_lem, no_level_lem, no_level_lem, no_level_lem, no_level_lem, no_level_lem))

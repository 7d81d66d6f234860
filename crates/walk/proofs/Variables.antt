-- What a step makes of the variable whose index is walked: it stays known. Assumes nothing.
use mathlib.Core.Path.{◌≡◌, refl, subst}
use mathlib.Core.Bool.{Bool, true, false, cond, ◌&&◌, ◌||◌}
use mathlib.Core.Option.{Option, none, some}
use mathlib.Core.List.{List}
use Prim.Native.Nat.{ℕ, ◌+◌, max}
use lib.Dec.{ltb, eqb}
use borrow.Author.Tests.{le-ltb, eqb-false}
use Rattle.format.specs.Fields.{end_of, after_at}
use Rattle.records.specs.Opening.{gdr_at}
use Rattle.records.specs.Index.{used_at, index_at, entry_of}
use Rattle.records.specs.Index as E
use Rattle.format.specs.Numbers.{unless}
use Rattle.variables.specs.Vdr.{variable_of}
use Rattle.variables.specs.Vdr.{Variable}
use lib.IntN.{pos}
use Rattle.walk.specs.Walk.{type_number, values_number, gdr_named, over_by, takes, after_vars, vars_tally, vars_list, entered, lower_over, lower_next, chain_list, chain_step, covers, entry_refused, lower_number, lower_step, entry_step, field_number, attrs_list, after_entries, entries_list, unused_list, Listing, list_step, walk_step_by}
use Rattle.walk.specs.Levels.{is_none, most_of, OfVariable, no_variable, leading_to, walking, of_variable, walked, indexed}
use Rattle.walk.specs.Bounds.{known_of, variable_by, KnownBy, Known, next_by, next_variable, NextVariable}
use Rattle.walk.specs.declared.positions.Var.{Var}
use Rattle.walk.specs.declared.positions.Level.{Level}
use Rattle.walk.specs.declared.positions.Walk as W
use Rattle.walk.specs.declared.positions.Walk.TheVariants.{Start, Vars, Chain, Entry, Attrs, Entries, Unused}
use Rattle.walk.specs.declared.positions.Link.TheVariants.{To}
use Rattle.walk.specs.declared.positions.Step as T
use Rattle.walk.specs.declared.positions.Step.TheVariants.{Over, End, Take, Down, Up}
use Rattle.format.proofs.Tests.{cond_keeps}
use Rattle.walk.proofs.Leads.{LinkIs, link_keeps, list_keeps}

-- the variable that is known at a position is the one whose index is walked there
pub known_is : (f : List ℕ) (w : W.Walk) → Known f (known_of f w) w
known_is f w = go (indexed w)
  where
    go : (u : Option Var) → KnownBy f (variable_by f u) u
    go none = tt
    go (some u) = refl

-- the variable that the next link leads to, where v is known
pub next_is : (f : List ℕ) (w : W.Walk) (v : Variable) → Known f v w → NextVariable f (next_variable f w v) w
next_is f w v h = record { known = kept (of_variable w) h; linked = λ k p e i. rw (e, le-ltb (end_of f) (p + 4) i) }
  where
    kept : (u : OfVariable) → KnownBy f v (walked u) → KnownBy f (next_by f u v) (walked u)
    kept no_variable h = tt
    kept (leading_to k p) h = tt
    kept (walking u) h = h

-- ---- a step, of any fact K of the nearest level and of the variable whose index is walked, or of there being none
module _ (K : Level → Option Var → Type 0) where
  -- it holds where a step leads that is not refused; one level up whatever the level there
  abbrev pub NextKeeps : Level → T.Step → Type 0
  NextKeeps near (Over w v) = K near (indexed w)
  NextKeeps near (End v) = Unit {0}
  NextKeeps near (Take w early t typed late) = early ≡ 0 → late ≡ 0 → K near (indexed w)
  NextKeeps near (Down w t typed l) = K l (indexed w)
  NextKeeps near (Up w) = (l : Level) → K l (indexed w)

  pub record StepKeeps (near : Level) (t : T.Step) : Type 0 where
    pub next_keeps : NextKeeps near t

  -- it holds at a position
  record At (near : Level) (w : W.Walk) : Type 0 where
    at : K near (indexed w)

  -- it is kept if it holds of no variable below no level, of a variable below any level where it holds below one, and of the VDR that a
  -- link leads to
  module _ (f : List ℕ) (near : Level) (top : is_none near ≡ true → K near none) (moved : (l : Level) (u : Var) → K near (some u) → K l (some u)) where
    over_keeps : {v : ℕ} (w : W.Walk) → At near w → StepKeeps near (Over w v)
    over_keeps w h = record { next_keeps = h.at }

    end_keeps : {v : ℕ} → StepKeeps near (End v)
    end_keeps = record { next_keeps = tt }

    takes_keeps : (early o typed late : ℕ) (w : W.Walk) → At near w → StepKeeps near (takes early o typed late w)
    takes_keeps early o typed late w h = record { next_keeps = λ e l. rw (e, l) h.at }

    free : {w : W.Walk} → K near (indexed w) → At near w
    free h = record { at = h }

    -- the end of a list: of variables or of entries
    after_vars_lem : (k : ℕ) → K near none → At near (after_vars f k)
    after_vars_lem k h = cond_keeps (At near) (eqb k 8) (free h) (free h)

    after_entries_lem : (k a n : ℕ) → K near none → At near (after_entries k a n)
    after_entries_lem k a n h = cond_keeps (At near) (eqb k 9) (free h) (free h)

    entered_keeps : (l : Level) (u : Var) (x i floor : ℕ) (c : Bool) → K l (some u) → At l (entered f u x i floor c)
    entered_keeps l u x i floor c h = cond_keeps (At l) (ltb i (used_at f x)) (record { at = h }) (record { at = h })

    -- a link of a list
    on_list : (p : ℕ) (l : Listing) → StepKeeps near l.over → ((o : ℕ) → LinkIs f p (To o) → At near (l.next o)) → StepKeeps near (list_step f p l)
    on_list p l over next =
        list_keeps f p (StepKeeps near) l end_keeps over (λ o h. takes_keeps 0 o (type_number f o l.typed) (l.number o) (l.next o) (next o h))

    over_gdr : (v : ℕ) (w : W.Walk) → At near w → StepKeeps near (over_by f v w)
    over_gdr v w h = cond_keeps (StepKeeps near) (gdr_named f) {x = Over w v} {y = End 20} (over_keeps w h) end_keeps

    -- a link of an index: the top chain has no level, and the end of a lower record one level fewer
    chain_keeps : (u : Var) (p last floor : ℕ) (c : Bool) → K near (some u) → StepKeeps near (chain_step f near u p last floor c)
    unfolding lower_next
    chain_keeps u p last floor c h = go (is_none near) refl
      where
        go : (b : Bool) → is_none near ≡ b → StepKeeps near (cond b (list_step f p (chain_list f u last floor c)) (lower_next f u near p c))
        go true z =
            on_list p (chain_list f u last floor c) (over_keeps (Vars u.kind (u.vdr + 8) (u.place + 1) u.greatest) (free (top z)))
            (λ o i. entered_keeps near u o 0 floor c h)
        go false z =
            link_keeps f p (StepKeeps near) {over = lower_over f u near c} {taken = λ o. End 11} end_keeps
            (cond_keeps (StepKeeps near) (ltb (end_of f) (near.vxr + 20)) {x = End 20} end_keeps
            (record { next_keeps = λ l. (entered_keeps l u near.vxr near.next (near.last + 1) c (moved l u h)).at })) (λ o i. end_keeps)

    -- an entry that names an index record, and any entry
    lower_keeps : (u : Var) (x i : ℕ) (c room : Bool) (e : E.Entry) → K near (some u) → StepKeeps near (lower_step f u x i c room e)
    lower_keeps u x i c room e h = go (eqb e.fault 0) (eqb (lower_number f e.link) 0) refl refl
      where
        level : Level
        level = record { vxr = x; next = i + 1; last = e.last }

        down : T.Step
        down = Down (entered f u e.link 0 e.first c) e.link (unless 23 room) level

        go : (a b : Bool) → eqb e.fault 0 ≡ a → eqb (lower_number f e.link) 0 ≡ b
            → StepKeeps near (cond (a && b) down (entry_refused e (unless 23 room) (lower_number f e.link)))
        go true true p q = record { next_keeps = (entered_keeps level u e.link 0 e.first c (moved level u h)).at }
        go true false p q = record { next_keeps = λ y z. absurd (eqb-false (lower_number f e.link) 0 q z) }
        go false b p q = record { next_keeps = λ y z. absurd (eqb-false e.fault 0 p y) }

    entry_keeps : (u : Var) (x i : ℕ) (c room : Bool) (e : E.Entry) → K near (some u) → StepKeeps near (entry_step f u x i c room e)
    entry_keeps u x i c room e h =
        let d = c || covers f u.vdr e in
        cond_keeps (StepKeeps near) (index_at f e.link) (lower_keeps u x i c room e h)
        (takes_keeps e.fault e.link (type_number f e.link (pos 7)) (values_number f (variable_of f u.kind u.vdr) e)
        (entered f u x (i + 1) (e.last + 1) d) (entered_keeps near u x (i + 1) (e.last + 1) d h))

    pub step_keeps : (room : Bool) (w : W.Walk) → K near (indexed w)
        → ((k p : ℕ) (u : Var) → of_variable w ≡ leading_to k p → LinkIs f p (To u.vdr) → u.kind ≡ k → K near (some u))
        → StepKeeps near (walk_step_by f near room w)
    unfolding walk_step_by
    step_keeps room Start h led =
        cond_keeps (StepKeeps near) (gdr_named f) (takes_keeps 0 (gdr_at f) (type_number f (gdr_at f) (pos 2)) 0 (Vars 3 (gdr_at f + 8) 0 0) (free h)) end_keeps
    step_keeps room (Vars k p n greatest) h led =
        on_list p (vars_list f k n greatest) (over_gdr (vars_tally f k n greatest) (after_vars f k) (after_vars_lem k h))
        (λ o i. record { at = led k p (record { kind = k; vdr = o; place = n; greatest = max (after_at f (o + 16)) greatest }) refl i refl })
    step_keeps room (Chain u p last floor c) h led = chain_keeps u p last floor c h
    step_keeps room (Entry u x i floor c) h led = entry_keeps u x i c room (entry_of f x i floor (most_of near)) h
    step_keeps room (Attrs p n) h led =
        on_list p (attrs_list f n) (over_gdr (field_number f (gdr_at f + 28) (pos n)) (Unused (gdr_at f + 44) 0) (free h)) (λ o i. free h)
    step_keeps room (Entries k a n p e greatest) h led =
        on_list p (entries_list f k a n e greatest) (over_keeps (after_entries k a n) (after_entries_lem k a n h)) (λ o i. free h)
    step_keeps room (Unused p b) h led = on_list p (unused_list f b) end_keeps (λ o i. free h)

-- so the variable stays known
pub step_known : (f : List ℕ) (v : Variable) (near : Level) (room : Bool) (w : W.Walk) → NextVariable f v w
    → StepKeeps (λ l u. KnownBy f v u) near (walk_step_by f near room w)
step_known f v near room w h =
    step_keeps (λ l u. KnownBy f v u) f near (λ z. tt) (λ l u k. k) room w h.known
    (λ k p u e i q. rw q (subst (λ (x : ℕ). v ≡ variable_of f k x) i.1 (h.linked k p e i.0)))

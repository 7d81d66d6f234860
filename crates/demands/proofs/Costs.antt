-- What the walk costs: at each position, the links that are still to come from the records on the way to it. Assumes nothing.
use mathlib.Core.Path.{◌≡◌, refl}
use mathlib.Core.Bool.{Bool, true, false, cond, ◌&&◌, ◌||◌}
use mathlib.Core.List.{List, [], ◌∷◌}
use Prim.Native.Nat.{ℕ, suc, ◌+◌, ◌-◌, ◌≤◌, ◌<◌}
use native.Mathlib.Omega.{arith}
use lib.Dec.{ltb, eqb}
use lib.IntN.{pos}
use borrow.Author.Tests.{ltb-true, eqb-true, eqb-false, ne_eqb}
use Rattle.format.specs.Numbers.{unless}
use Rattle.format.proofs.Tests.{cond_keeps}
use Rattle.format.proofs.Numbers.{unless_zero, zeros}
use Rattle.format.specs.Fields.{end_of, is_at}
use Rattle.records.specs.Rules.{size_at}
use Rattle.records.specs.Opening.{gdr_at}
use Rattle.records.specs.Attributes.{adr_rule, aedr_rule}
use Rattle.records.specs.Index.{used_at, vxr_rule, index_at, entry_of}
use Rattle.records.specs.Unused.{uir_rule}
use Rattle.records.specs.Index.{Entry}
use Rattle.variables.specs.Vdr.{carried_of, head_of, variable_of}
use Rattle.walk.specs.Walk.{walk_step_by, walk_step, type_number, takes, gdr_named, field_number, over_by, vars_tally, after_vars, var_number, vars_list, entered, lower_over, lower_next, chain_list, chain_step, covers, values_number, entry_refused, values_step, lower_number, lower_step, entry_step, attr_number, attrs_list, after_entries, entries_list, num_number, entry_number, unused_number, unused_list, Listing, list_step}
use Rattle.walk.specs.Levels.{is_none, most_of, room_below, pushed, popped}
use Rattle.walk.specs.declared.positions.Var.{Var}
use Rattle.walk.specs.declared.positions.Level.{Level}
use Rattle.walk.specs.declared.positions.Levels.{Levels}
use Rattle.walk.specs.declared.positions.Walk as W
use Rattle.walk.specs.declared.positions.Walk.TheVariants.{Start, Vars, Chain, Entry as AtEntry, Attrs, Entries, Unused}
use Rattle.walk.specs.declared.positions.Step as T
use Rattle.walk.specs.declared.positions.Step.TheVariants.{Over, End, Down, Up}
use Rattle.walk.proofs.Leads.{link_keeps, list_keeps}
use Rattle.demands.proofs.Positions.{Position, top, move_by}
use Rattle.demands.proofs.Bound.{Pays, Paid, weight_of}
use Rattle.records.proofs.Fielded.{adr_law, aedr_law, vxr_law, uir_law, adr_size, aedr_size, vxr_size}
use Rattle.variables.proofs.Rule.{vdr_reads}

-- of two lists one after the other, the links that are left besides one: 2 for the list of kind z, which comes last, and else 3
abbrev besides : ℕ → ℕ → ℕ
besides z k = cond (eqb k z) 2 3

abbrev of_two : ℕ → ℕ → ℕ
of_two z k = suc (besides z k)

-- the links that are still to come from the record on the way to a position and those before it, besides the next
abbrev left : List ℕ → W.Walk → ℕ
left f Start = 0
left f (Vars k p n g) = besides 8 k
left f (Chain u p x l c) = of_two 8 u.kind
left f (AtEntry u x i l c) = used_at f x - suc i + suc (of_two 8 u.kind)
left f (Attrs p n) = 1
left f (Entries k a n p e g) = besides 9 k
left f (Unused p b) = 0

abbrev own : List ℕ → W.Walk → ℕ
own f w = suc (left f w)

-- what a record above still owes: its entries that are left, and its next
abbrev owed_by : List ℕ → Level → ℕ
owed_by f l = cond (is_none l) 0 (suc (used_at f l.vxr - l.next))

abbrev owed : List ℕ → Levels → ℕ
owed f s = owed_by f s.a + (owed_by f s.b + (owed_by f s.c + (owed_by f s.d + (owed_by f s.e + (owed_by f s.f + owed_by f s.g)))))

abbrev pub cost : List ℕ → Position → ℕ
cost f p = own f p.walk + owed f p.up

pub start_cost : (f : List ℕ) → cost f (top Start) ≡ 1
unfolding is_none
start_cost f = refl

pub head_least : (k : ℕ) → 128 ≤ head_of k
head_least k = go (eqb k 8)
  where
    go : (b : Bool) → 128 ≤ cond b 132 128
    go true = omega arith
    go false = omega arith

module _ (f : List ℕ) where
  -- a record that keeps its rule is heavy enough for its links
  vdr_heavy : (k n o : ℕ) → var_number f k n o ≡ 0 → 2 ≤ weight_of f o
  unfolding var_number
  vdr_heavy k n o e =
      let p = zeros (carried_of f o ∷ (variable_of f k o).fault ∷ unless 11 (is_at f (o + 52) (pos n)) ∷ []) e in
      omega (arith, (vdr_reads f k o (p 1)).reach.holds, head_least k)

  vxr_heavy : (o : ℕ) → vxr_rule f o ≡ 0 → suc (used_at f o) ≤ weight_of f o
  vxr_heavy o e = omega (arith, vxr_size f o ((vxr_law f o).0 e).right)

  lower_heavy : (o : ℕ) → lower_number f o ≡ 0 → suc (used_at f o) ≤ weight_of f o
  unfolding lower_number
  lower_heavy o e = vxr_heavy o (zeros (vxr_rule f o ∷ unless 11 (is_at f (o + 8) (pos 0)) ∷ []) e 0)

  adr_heavy : (n o : ℕ) → attr_number f n o ≡ 0 → 3 ≤ weight_of f o
  unfolding attr_number
  adr_heavy n o e =
      omega (arith, adr_size f o ((adr_law f o).0 (zeros (adr_rule f o ∷ unless 11 (is_at f (o + 20) (pos n)) ∷ []) e 0)).right)

  aedr_heavy : (a o : ℕ) → entry_number f a o ≡ 0 → 1 ≤ weight_of f o
  unfolding entry_number
  aedr_heavy a o e =
      omega (arith, aedr_size f o ((aedr_law f o).0 (zeros (aedr_rule f o ∷ num_number f a o ∷ []) e 0)).right)

  uir_heavy : (b o : ℕ) → unused_number f b o ≡ 0 → 1 ≤ weight_of f o
  unfolding unused_number
  uir_heavy b o e = omega (arith, ((uir_law f o).0 (zeros (uir_rule f o ∷ unless 11 (is_at f (o + 12) (pos b)) ∷ []) e 0)).reach.holds)

  entered_cost : (u : Var) (x i l : ℕ) (c : Bool) → own f (entered f u x i l c) ≤ used_at f x - i + suc (of_two 8 u.kind)
  entered_cost u x i l c = go (ltb i (used_at f x)) refl
    where
      go : (b : Bool) → ltb i (used_at f x) ≡ b
          → own f (cond b (AtEntry u x i l c) (Chain u (x + 8) x l c)) ≤ used_at f x - i + suc (of_two 8 u.kind)
      go true e = omega (arith, ltb-true i (used_at f x) e)
      go false e = omega arith

  -- one level down, from entry i of the VXR at x, and one level up
  owed_down : (s : Levels) (x i last : ℕ) → room_below s ≡ true
      → owed f (pushed (record { vxr = x; next = i + 1; last = last }) s) ≡ suc (used_at f x - suc i) + owed f s
  unfolding room_below is_none
  owed_down s x i last e =
      let z : owed_by f s.g ≡ 0 = rw e in
      let y : owed_by f (record { vxr = x; next = i + 1; last = last }) ≡ suc (used_at f x - suc i) = rw (ne_eqb (i + 1) 0 (λ z. omega arith)) (omega arith) in
      omega arith

  owed_up : (s : Levels) → is_none s.a ≡ false → owed f s ≡ suc (used_at f s.a.vxr - s.a.next) + owed f (popped s)
  unfolding is_none
  owed_up s e =
      let z : owed_by f s.a ≡ suc (used_at f s.a.vxr - s.a.next) = rw e in
      omega arith

  after_vars_lem : (k : ℕ) → own f (after_vars f k) < of_two 8 k
  after_vars_lem k = go (eqb k 8)
    where
      go : (b : Bool) → own f (cond b (Attrs (gdr_at f + 16) 0) (Vars 8 (gdr_at f + 12) 0 0)) < suc (cond b 2 3)
      go true = omega arith
      go false = omega arith

  after_entries_lem : (k a n : ℕ) → own f (after_entries k a n) < of_two 9 k
  after_entries_lem k a n = go (eqb k 9)
    where
      go : (b : Bool) → own f (cond b (Attrs (a + 8) (n + 1)) (Entries 9 a n (a + 36) 0 0)) < suc (cond b 2 3)
      go true = omega arith
      go false = omega arith

  module _ (up : Levels) where
    abbrev Pay : ℕ → T.Step → Type 0
    Pay c t = Pays (cost f) (weight_of f) (c + owed f up) (move_by up t)

    pay_takes : (c b t k l : ℕ) (next : W.Walk) → (l ≡ 0 → own f next < c + weight_of f t) → Pay c (takes b t k l next)
    pay_takes c b t k l next h = λ eb ek el. rw (eb, el) (omega (arith, h el))

    -- a link of a list
    pay_list : (c p : ℕ) (l : Listing) → Pay c l.over → ((o : ℕ) → l.number o ≡ 0 → own f (l.next o) < c + weight_of f o) → Pay c (list_step f p l)
    pay_list c p l over next =
        list_keeps f p (Pay c) l tt over (λ o h. pay_takes c 0 o (type_number f o l.typed) (l.number o) (l.next o) (next o))

    pay_gdr : (c v : ℕ) (w : W.Walk) → own f w < c → Pay c (over_by f v w)
    pay_gdr c v w h = cond_keeps (Pay c) (gdr_named f) {x = Over w v} {y = End 20} (omega arith) tt

    -- the next of a lower record
    pay_lower_next : (u : Var) (p : ℕ) (c : Bool) → is_none up.a ≡ false → Pay (suc (of_two 8 u.kind)) (lower_next f u up.a p c)
    unfolding lower_next
    pay_lower_next u p c e =
        link_keeps f p (Pay (suc (of_two 8 u.kind))) {over = lower_over f u up.a c} {taken = λ o. End 11} tt
        (cond_keeps (Pay (suc (of_two 8 u.kind))) (ltb (end_of f) (up.a.vxr + 20)) {x = End 20}
        {y = Up (entered f u up.a.vxr up.a.next (up.a.last + 1) c)} tt
        (omega (arith, owed_up up e, entered_cost u up.a.vxr up.a.next (up.a.last + 1) c)))
        (λ o h. tt)

    pay_chain : (u : Var) (p last l : ℕ) (c : Bool) → Pay (suc (of_two 8 u.kind)) (chain_step f up.a u p last l c)
    pay_chain u p last l c = go (is_none up.a) refl
      where
        go : (b : Bool) → is_none up.a ≡ b
            → Pay (suc (of_two 8 u.kind)) (cond b (list_step f p (chain_list f u last l c)) (lower_next f u up.a p c))
        go true e =
            pay_list (suc (of_two 8 u.kind)) p (chain_list f u last l c) (omega arith) (λ o z. omega (arith, vxr_heavy o z, entered_cost u o 0 l c))
        go false e = pay_lower_next u p c e

    -- an entry that names values, or an index record: that record pays for its entries and its next, the rest stays owed above
    module _ (u : Var) (x i : ℕ) (c : Bool) (e : Entry) where
      abbrev here : ℕ
      here = suc (used_at f x - suc i + suc (of_two 8 u.kind))

      pay_values : Pay here (values_step f u x i c e)
      pay_values =
          pay_takes here e.fault e.link (type_number f e.link (pos 7)) (values_number f (variable_of f u.kind u.vdr) e)
          (entered f u x (i + 1) (e.last + 1) (c || covers f u.vdr e))
          (λ z. omega (arith, entered_cost u x (i + 1) (e.last + 1) (c || covers f u.vdr e)))

      pay_lower : Pay here (lower_step f u x i c (room_below up) e)
      pay_lower = go (eqb e.fault 0) refl (eqb (lower_number f e.link) 0) refl
        where
          down : T.Step
          down = Down (entered f u e.link 0 e.first c) e.link (unless 23 (room_below up)) (record { vxr = x; next = i + 1; last = e.last })

          go : (a : Bool) → eqb e.fault 0 ≡ a → (b : Bool) → eqb (lower_number f e.link) 0 ≡ b
              → Pay here (cond (a && b) down (entry_refused e (unless 23 (room_below up)) (lower_number f e.link)))
          go true p true q = λ eb ek el.
              omega (
                arith,
                entered_cost u e.link 0 e.first c,
                owed_down up x i e.last (unless_zero 22 (room_below up) ek),
                lower_heavy e.link (eqb-true (lower_number f e.link) 0 q),
              )
          go true p false q = λ eb ek el. absurd (eqb-false (lower_number f e.link) 0 q el)
          go false p b q = λ eb ek el. absurd (eqb-false e.fault 0 p eb)

      pay_entry : Pay here (entry_step f u x i c (room_below up) e)
      pay_entry =
          cond_keeps (Pay here) (index_at f e.link) {x = lower_step f u x i c (room_below up) e} {y = values_step f u x i c e} pay_lower pay_values

  module _ (gdr : 60 ≤ size_at f (gdr_at f)) where
    pays : (up : Levels) (w : W.Walk) → Pay up (own f w) (walk_step f up w)
    unfolding walk_step_by
    pays up Start =
        cond_keeps (Pay up 1) (gdr_named f) {x = takes 0 (gdr_at f) (type_number f (gdr_at f) (pos 2)) 0 (Vars 3 (gdr_at f + 8) 0 0)} {y = End 20}
        (pay_takes up 1 0 (gdr_at f) (type_number f (gdr_at f) (pos 2)) 0 (Vars 3 (gdr_at f + 8) 0 0) (λ z. omega arith)) tt
    pays up (Vars k p n g) =
        pay_list up (of_two 8 k) p (vars_list f k n g) (pay_gdr up (of_two 8 k) (vars_tally f k n g) (after_vars f k) (after_vars_lem k))
        (λ o z. omega (arith, vdr_heavy k n o z))
    pays up (Chain u p last l c) = pay_chain up u p last l c
    pays up (AtEntry u x i l c) = pay_entry up u x i c (entry_of f x i l (most_of up.a))
    pays up (Attrs p n) =
        pay_list up 2 p (attrs_list f n) (pay_gdr up 2 (field_number f (gdr_at f + 28) (pos n)) (Unused (gdr_at f + 44) 0) (omega arith))
        (λ o z. omega (arith, adr_heavy n o z))
    pays up (Entries k a n p e g) =
        pay_list up (of_two 9 k) p (entries_list f k a n e g) (omega (arith, after_entries_lem k a n)) (λ o z. omega (arith, aedr_heavy a o z))
    pays up (Unused p b) = pay_list up 1 p (unused_list f b) tt (λ o z. omega (arith, uir_heavy b o z))

    pub paid : Paid f (cost f)
    paid = record { some_cost = λ p. omega arith; pays = λ p. pays p.up p.walk }

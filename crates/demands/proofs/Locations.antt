-- WHERE A REFUSAL LIES: that of a link is at a record of the file, that of the sweep where the tiles stop, 13 at the first record that no
-- link reaches. Assumes nothing.
use mathlib.Core.Path.{◌≡◌, refl, sym, ap, ◌∙◌, subst}
use mathlib.Core.Logic.{◌≢◌, ◌⊎◌, inl, inr}
use mathlib.Core.Bool.{Bool, true, false, cond, not, ◌&&◌, ◌||◌, true≢false}
use mathlib.Core.List.{List, [], ◌∷◌}
use Prim.Native.Nat.{ℕ, zero, suc, ◌+◌, ◌/◌, ◌≤◌, ◌<◌}
use native.Mathlib.Omega.{arith}
use lib.Dec.{ltb, leb, eqb}
use lib.IntN.{pos}
use lib.ListN.{length, set}
use borrow.Author.Tests.{eqb-true, eqb-false, eq-eqb, ne_eqb, not-true}
use Rattle.format.proofs.FieldRanges.{end_is}
use Rattle.format.specs.Fields.{end_of}
use Rattle.format.proofs.Tests.{both, cond_keeps}
use Rattle.format.specs.Numbers.{first, unless}
use Rattle.records.specs.Rules.{typed_at}
use Rattle.records.specs.Opening.{body_of}
use Rattle.records.specs.Tiles.{tile}
use Rattle.records.proofs.Tiled.{tile_seven, tile_fourteen, tile_has}
use Rattle.records.proofs.Bodies.{body_le}
use Rattle.marks.specs.Marks.{start_at, left_of}
use Rattle.marks.specs.Marks as F
use Rattle.walk.specs.declared.positions.Walk.TheVariants.{Start}
use Rattle.faults.specs.Holder.{holder_of}
use Rattle.faults.specs.Fault.{ending, claiming, leaving, fault_at}
use Rattle.checker.specs.Step.{conf, done_by, link_number}
use Rattle.states.specs.declared.state.Stage.TheVariants.{Sweep, Done}
use Rattle.checker.proofs.Passed.{started}
use Rattle.demands.specs.Acceptance.{◌∈◌, reached}
use Rattle.demands.specs.Demands.{end_stage}
use Rattle.demands.specs.Locations.{Opens, below, NoRecord, NotCarried, TilesStop, RecordAt, CompressedAt, FirstUnreached, OfLink, Locations, WhereItLies}
use Rattle.demands.proofs.Plain.{plain}
use Rattle.demands.proofs.Positions.{Position, top, Move, passes, stops, takes, move_of, walk_at, moved, step_moves}
use Rattle.demands.proofs.Moves.{Early, AtEnd, OfTarget, MoveHas, move_numbers, not_7, plain_number, early_target, link_target}
use Rattle.demands.proofs.Standing.{PositionStands, MoveStands, move_stands, top_stands}
use Rattle.demands.proofs.Claims.{mem, mark, at, in_use, Comes, comes_done, comes_settled, link_passed, Last, TilesTo, Tiles, first_in, look, Marked, claimed, left_looks}
use Rattle.demands.proofs.LastStep.{unclaimed, in_use_claimed, claimed_closed, First, first_left, left_first}
use Rattle.demands.proofs.Sweep.{Found, Stopped, sweep_cases, sweep_stops, found_marked, found_inside}
use Rattle.demands.proofs.Splits.{mem_in, in_mem}
use Rattle.demands.proofs.Nested.{claims_of}
use Rattle.demands.proofs.Opened.{OpenNumber, run_opens, opens_run, body_opens}
use Rattle.demands.proofs.NestedDemand.{NestedEnds, more_than_8, room_below, nested_reads, nested_makes}
use Rattle.demands.proofs.Demand2.{tiles_tiled, tiled_tiles, lists_of, right_reads, right_makes, use_is, use_reads, below_is}

-- ---- the numbers of a link, with 14: some name the holder, the others the target
abbrev LinkVerdict : ℕ → Type 0
LinkVerdict v = OfLink v ⊎ (v ≡ 14)

abbrev Holds : ℕ → Type 0
Holds v = (v ≡ 8) ⊎ ((v ≡ 9) ⊎ (v ≡ 12))

abbrev Targets : ℕ → Type 0
Targets v = (v ≡ 10) ⊎ ((v ≡ 11) ⊎ ((v ≡ 14) ⊎ (v ≡ 23)))

holds_or_targets : (v : ℕ) → LinkVerdict v → Holds v ⊎ Targets v
holds_or_targets v (inr e) = inr (inr (inr (inl e)))
holds_or_targets v (inl (inr e)) = inr (inr (inr (inr e)))
holds_or_targets v (inl (inl h)) = go (eqb v 8) refl (eqb v 9) refl (eqb v 10) refl (eqb v 12) refl
  where
    go : (a : Bool) → eqb v 8 ≡ a → (b : Bool) → eqb v 9 ≡ b → (c : Bool) → eqb v 10 ≡ c → (d : Bool) → eqb v 12 ≡ d → Holds v ⊎ Targets v
    go true e b i c j d k = inl (inl (eqb-true v 8 e))
    go false e true i c j d k = inl (inr (inl (eqb-true v 9 i)))
    go false e false i true j d k = inr (inl (eqb-true v 10 j))
    go false e false i false j true k = inl (inr (inr (eqb-true v 12 k)))
    go false e false i false j false k =
        inr (inr (inl (omega (arith, eqb-false v 8 e, eqb-false v 9 i, eqb-false v 10 j, eqb-false v 12 k))))

held_at : (h t v : ℕ) → Holds v → fault_at (claiming h t) v ≡ h
unfolding fault_at
held_at h t v (inl e) = rw e
held_at h t v (inr (inl e)) = rw e
held_at h t v (inr (inr e)) = rw e

target_at : (h t v : ℕ) → t ≢ 0 → Targets v → fault_at (claiming h t) v ≡ t
unfolding fault_at
target_at h t v n (inl e) = rw e
target_at h t v n (inr (inl e)) = rw (e, ne_eqb t 0 n)
target_at h t v n (inr (inr (inl e))) = rw (e, ne_eqb t 0 n)
target_at h t v n (inr (inr (inr e))) = rw e

-- they are none of the others
targets_only : (v : ℕ) → Targets v → (v ≢ 8) × (v ≢ 12) × (v ≢ 20)
targets_only v (inl e) = (λ z. omega arith, λ z. omega arith, λ z. omega arith)
targets_only v (inr (inl e)) = (λ z. omega arith, λ z. omega arith, λ z. omega arith)
targets_only v (inr (inr (inl e))) = (λ z. omega arith, λ z. omega arith, λ z. omega arith)
targets_only v (inr (inr (inr e))) = (λ z. omega arith, λ z. omega arith, λ z. omega arith)

-- with 7, which no step of the walk gives
abbrev Walked : ℕ → Type 0
Walked v = LinkVerdict v ⊎ (v ≡ 7)

walked_only : (v : ℕ) → Walked v → (v ≢ 0) × (v ≢ 13) × (v ≢ 20)
walked_only v (inl (inl (inl h))) = (λ z. omega arith, λ z. omega arith, λ z. omega arith)
walked_only v (inl (inl (inr h))) = (λ z. omega arith, λ z. omega arith, λ z. omega arith)
walked_only v (inl (inr h)) = (λ z. omega arith, λ z. omega arith, λ z. omega arith)
walked_only v (inr h) = (λ z. omega arith, λ z. omega arith, λ z. omega arith)

walked_link : (v : ℕ) → Walked v → v ≢ 7 → LinkVerdict v
walked_link v (inl h) n = h
walked_link v (inr h) n = absurd (n h)

-- a list's end is refused at the holder of its link
ends_at : (h v : ℕ) → AtEnd v → Walked v → fault_at (ending h) v ≡ h
unfolding fault_at
ends_at h v (inl e) l = rw e
ends_at h v (inr (inl e)) l = absurd ((walked_only v l).0 e)
ends_at h v (inr (inr (inl e))) l = rw e
ends_at h v (inr (inr (inr e))) l = absurd ((walked_only v l).2 e)

-- neither 14 nor 23 comes there, or names a holder
end_target : (f : List ℕ) (t v : ℕ) → AtEnd v → OfTarget f t v
end_target f t v (inl e) = plain_number f t v (rw e) (λ z. omega arith) (λ z. omega arith)
end_target f t v (inr e) = early_target f t v e

held_target : (f : List ℕ) (t v : ℕ) → Holds v → OfTarget f t v
held_target f t v (inl e) = plain_number f t v (rw e) (λ z. omega arith) (λ z. omega arith)
held_target f t v (inr (inl e)) = plain_number f t v (rw e) (λ z. omega arith) (λ z. omega arith)
held_target f t v (inr (inr e)) = plain_number f t v (rw e) (λ z. omega arith) (λ z. omega arith)

-- a link refused with a number that names the target leads to a start
target_starts : (f m : List ℕ) (b t y l v : ℕ) → Early b → link_number f m b t y l ≡ v → Targets v → start_at f m t ≡ true
unfolding link_number
target_starts f m b t y l v e n h = go (start_at f m t) e n
  where
    go : (s : Bool) → Early b → first (b ∷ unless 8 s ∷ y ∷ unless 9 (eqb (mark m t) 1) ∷ l ∷ []) ≡ v → s ≡ true
    go true e n = refl
    go false (inl z) n = absurd ((targets_only v h).0 (sym (rw z at n)))
    go false (inr (inl z)) n = absurd ((targets_only v h).1 (sym (rw z at n)))
    go false (inr (inr z)) n = absurd ((targets_only v h).2 (sym (rw z at n)))

-- ---- the walk, over the marks of a tiling
module _ (f starts : List ℕ) (tiles : Tiles f 8 starts) (inside : (o : ℕ) → mem o starts ≡ true → (8 ≤ o) × (o < end_of f)) (cdr : mem 8 starts ≡ true)
    (v o : ℕ) (walked : Walked v)
  where
    abbrev S : ℕ → Type 0
    S x = mem x starts ≡ true

    -- what is shown of a refusal of the walk
    abbrev AtStart : Type 0
    AtStart = OfTarget f o v × S o

    low : (x : ℕ) → S x → 8 ≤ x
    low x s = (inside x s).0

    -- a mark of 1 or 2 stands at a start
    marked_start : (cs m : List ℕ) (t : ℕ) → Marked (end_of f) starts cs m → ((x : ℕ) → mem x cs ≡ true → S x) → start_at f m t ≡ true → S t
    unfolding start_at
    marked_start cs m t g sub e =
        let a = started f m t e in
        let q = (both (leb 8 t && ltb t (end_of f)) (eqb (mark m t) 1 || eqb (mark m t) 2) e).1 in
        go (mem t cs) refl (mem t starts) refl (rw (g.value t a.0 (omega (arith, a.1, end_is f))) at q)
      where
        go : (a : Bool) → mem t cs ≡ a → (b : Bool) → mem t starts ≡ b → (eqb (cond a 2 (cond b 1 0)) 1 || eqb (cond a 2 (cond b 1 0)) 2) ≡ true → S t
        go true e b h q = sub t e
        go false e true h q = h
        go false e false h q = absurd (true≢false (sym q))

    -- the last step gives 0 or 13
    last_number : (t : ℕ → Bool) (ss : List ℕ) (e : ℕ) → Last (first_in t ss e).number
    last_number t [] e = inl refl
    last_number t (s ∷ ss) e = cond_keeps (λ (x : F.Found). Last x.number) (t s) (inr refl) (last_number t ss e)

    module _ (n : ℕ) where
      walk_locations : (k : ℕ) (p : Position) (cs m : List ℕ) → Marked (end_of f) starts cs m → ((x : ℕ) → mem x cs ≡ true → S x) → PositionStands f S cdr low p
          → Comes f v o k (conf (walk_at n p) m) → AtStart
      unfolding plain
      walk_locations zero p cs m g sub st h = let z : ◌≡◌ {A = ℕ} 0 1 = cc in absurd (omega arith)
      walk_locations (suc k) p cs m g sub st h =
          go (move_of f p) (move_numbers f p) (move_stands f S cdr low p st) (subst (Comes f v o k) (step_moves f m n p) h)
          (λ p cs m g sub st h. walk_locations k p cs m g sub st h)
        where
          h' : ℕ
          h' = holder_of p.walk

          held : S h'
          held = st.0.holder

          Next : Type 0
          Next = (p : Position) (cs m : List ℕ) → Marked (end_of f) starts cs m → ((x : ℕ) → mem x cs ≡ true → S x) → PositionStands f S cdr low p
              → Comes f v o k (conf (walk_at n p) m) → AtStart

          -- refused at a list's end
          ends : (u : ℕ) → AtEnd u → u ≡ v → fault_at (ending h') u ≡ o → AtStart
          ends u a e q = (subst (OfTarget f o) e (end_target f o u a), subst S (sym (ends_at h' u a (rw e walked)) ∙ q) held)

          stop : (u : ℕ) → AtEnd u → (b : Bool)
              → Comes f v o k (conf (cond b (done_by (leaving (left_of f m).at) (left_of f m).number) (done_by (ending h') u)) m) → AtStart
          stop u a true c =
              let d = (comes_done f v o (left_of f m).number (fault_at (leaving (left_of f m).at) (left_of f m).number) m k c).0 in
              absurd (not_last (look f starts (λ o. mem o cs)).number (last_number (λ s. in_use f s && not (mem s cs)) starts (end_of f))
              (sym (ap (λ (x : F.Found). x.number) (left_looks f starts tiles inside cs m g)) ∙ d))
            where
              not_last : (u : ℕ) → Last u → u ≡ v → ⊥
              not_last u (inl z) e = (walked_only v walked).0 (sym e ∙ z)
              not_last u (inr z) e = (walked_only v walked).1 (sym e ∙ z)
          stop u a false c = let d = comes_done f v o u (fault_at (ending h') u) m k c in ends u a d.0 d.1

          -- refused at a link to t
          claims : (b t y l : ℕ) → Early b → link_number f m b t y l ≡ v → fault_at (claiming h' t) v ≡ o → OfTarget f t v → Holds v ⊎ Targets v → AtStart
          claims b t y l e u q n (inl w) = (held_target f o v w, subst S (sym (held_at h' t v w) ∙ q) held)
          claims b t y l e u q n (inr w) =
              let s = marked_start cs m t g sub (target_starts f m b t y l v e u w) in
              let x = low t s in
              let i : t ≡ o = sym (target_at h' t v (λ z. omega arith) w) ∙ q in
              (subst (λ (x : ℕ). OfTarget f x v) i n, subst S i s)

          go : (t : Move) → MoveHas f t → MoveStands f S cdr low t → Comes f v o k (moved f m n h' t) → Next → AtStart
          go (passes u x) q s c ih = pick (comes_settled f v o (ending h') u m (walk_at n x) m k c)
            where
              pick : ((u ≡ 0) × Comes f v o k (conf (walk_at n x) m)) ⊎ ((u ≢ 0) × (u ≡ v) × (fault_at (ending h') u ≡ o)) → AtStart
              pick (inl e) = ih x cs m g sub s e.1
              pick (inr e) = ends u q.has e.1 e.2
          go (stops u) q s c ih = stop u q.has (eqb u 0) c
          go (takes b t y l x) q s c ih = pick (comes_settled f v o (claiming h' t) (link_number f m b t y l) m (walk_at n x) (set m t 2) k c)
            where
              pick : ((link_number f m b t y l ≡ 0) × Comes f v o k (conf (walk_at n x) (set m t 2)))
                  ⊎ ((link_number f m b t y l ≢ 0) × (link_number f m b t y l ≡ v) × (fault_at (claiming h' t) (link_number f m b t y l) ≡ o)) → AtStart
              pick (inl e) =
                  let z = link_passed f m b t y l e.0 in
                  let c = claimed f starts tiles inside cs m t g z.1 z.3 in
                  ih x (t ∷ cs) (set m t 2) c.2 (λ i j. more t c.0 i (eqb i t) refl j) (s c.0) e.1
                where
                  more : (t : ℕ) → S t → (i : ℕ) (q : Bool) → eqb i t ≡ q → (q || mem i cs) ≡ true → S i
                  more t s i true d j = rw (eqb-true i t d) s
                  more t s i false d j = sub i j
              pick (inr e) =
                  let n = subst (OfTarget f t) e.1 (link_target f m b t y l q.has) in
                  claims b t y l q.has.0 e.1 (rw e.1 at e.2) n (holds_or_targets v (walked_link v walked (not_7 v n.other)))

    from_start : (k n : ℕ) (m : List ℕ) → Marked (end_of f) starts [] m → Comes f v o k (conf (walk_at n (top Start)) m) → AtStart
    from_start k n m g h = walk_locations n k (top Start) [] m g (λ x i. absurd (true≢false (sym i))) (top_stands f S cdr low) h

-- ---- a file and marks as long
module _ (f m : List ℕ) (p : ℕ) (long : length f ≤ length m) where
  abbrev b : List ℕ
  b = body_of f

  abbrev Swept : ℕ → Type 0
  Swept v = Opens f × (Found b v p (length f) 8 [] ⊎ Stopped b v p 8)

  -- the run is refused by the opening, or comes to its sweep, which ends well or stops
  run_cases : (v : ℕ) → end_stage f m ≡ Done v p → Swept v ⊎ (OpenNumber v × (v ≢ 0) × (p ≡ 0) × (Opens f → ⊥))
  run_cases v e = go (run_opens f m long v p e)
    where
      go : (Opens f × Comes b v p (length f / 4) (at (length f) (Sweep 8) m)) ⊎ (OpenNumber v × (v ≢ 0) × (p ≡ 0) × (Opens f → ⊥)) → Swept v ⊎ (OpenNumber v × (v ≢ 0) × (p ≡ 0) × (Opens f → ⊥))
      go (inl o) = inl (o.0, sweep_cases b v p (length f / 4) (length f) m (room_below f m long) (more_than_8 f o.0.opens) o.1)
      go (inr o) = inr o

  -- ---- where the tiles stop
  stop_makes : (v : ℕ) → Opens f → (ss : List ℕ) → TilesTo b 8 ss p → tile b (end_of b) p ≡ v → v ≢ 0 → p ≢ end_of b → end_stage f m ≡ Done v p
  stop_makes v o ss t e n x = let s = sweep_stops b v p ss (length f) 8 m t e n x in opens_run f m long v p o s.0 s.1

  no_record : tile b (end_of b) p ≡ 7 → p ≢ end_of b → NoRecord b p
  no_record e x = (x, (tile_seven b (end_of b) p).0 e)

  uncarried : tile b (end_of b) p ≡ 14 → NotCarried b p
  uncarried e = (tile_fourteen b (end_of b) p).0 e

  stops_at : (v : ℕ) (Fault : List ℕ → ℕ → Type 0) → (tile b (end_of b) p ≡ v → p ≢ end_of b → Fault b p) → Opens f → Stopped b v p 8 → TilesStop (below f) Fault p
  stops_at v Fault reads o s =
      subst (λ (x : List ℕ). TilesStop x Fault p) (below_is f o.opens)
      (record { starts = s.starts; tiled = tiles_tiled b s.starts 8 p s.tiles; fault = reads s.number s.more })

  -- ---- at a record
  walk_refused : (v : ℕ) → Walked v → Opens f → Found b v p (length f) 8 [] → OfTarget (below f) p v × RecordAt (below f) p
  walk_refused v l o r =
      let starts : List ℕ = 8 ∷ r.starts in
      let s = from_start b starts r.tiles (found_inside b v p (length f) r) (rw (eq-eqb 8 8 refl)) v p l r.left (length f) r.marks (found_marked b v p (length f) r) r.rest in
      let t = tiles_tiled b starts 8 (end_of b) r.tiles in
      (subst (λ (x : List ℕ). OfTarget x p v) (below_is f o.opens) s.0, subst (λ (x : List ℕ). RecordAt x p) (below_is f o.opens) (record { starts = starts; tiled = t; start = mem_in p starts s.1 }))

  -- ---- the first that no link reaches
  unreached_reads : NestedEnds f 13 p → FirstUnreached (below f) p
  unfolding lists_of
  unreached_reads n =
      let v = n.valid in
      let starts : List ℕ = 8 ∷ v.starts in
      let cs = claims_of b v.layout in
      let r = first_left b starts (λ o. mem o cs) p v.tiles v.reached.looks in
      let u = both (in_use b p) (not (mem p cs)) r.passes in
      subst (λ (x : List ℕ). FirstUnreached x p) (below_is f n.opens.opens) (record {
        lists = lists_of b starts v.layout;
        right = right_reads b 13 p v;
        start = mem_in p starts r.there;
        used = use_reads b p u.0;
        unreached = λ i. true≢false (sym (in_mem p cs i) ∙ not-true (mem p cs) u.1);
        first = λ o i l x t. mem_in o cs (in_use_claimed b starts (λ o. mem o cs) o (r.earlier o (in_mem o starts i) (omega (arith, l))) (use_is b o x t));
      })

  unreached_makes : Opens f → FirstUnreached (below f) p → NestedEnds f 13 p
  unreached_makes o x =
      let y : FirstUnreached b p = subst (λ (x : List ℕ). FirstUnreached x p) (sym (below_is f o.opens)) x in
      let less = body_le f in
      let short : length b ≤ 2147483647 = omega (arith, o.short) in
      let l = y.lists in
      let ds = reached b l in
      let r : First (unclaimed b l.starts (λ o. mem o ds)) l.starts p = record {
        there = in_mem p l.starts y.start;
        passes = rw (use_is b p y.used.0 y.used.1, not_in p ds y.unreached);
        earlier = λ s i h. claimed_closed b l.starts (λ o. mem o ds) s (λ u.
            let q = use_reads b s u in in_mem s ds (y.first s (mem_in s l.starts i) (omega (arith, h)) q.0 q.1));
      } in
      let looks = left_first b l.starts (λ o. mem o ds) p (tiled_tiles b l.starts 8 (end_of b) y.right.tiled) r in
      record { opens = o; valid = right_makes b 13 p l.starts l short (body_opens f o.opens) y.right refl looks }
    where
      not_in : (p : ℕ) (ds : List ℕ) → (p ∈ ds → ⊥) → mem p ds ≡ false
      not_in p ds n = go (mem p ds) refl
        where
          go : (b : Bool) → mem p ds ≡ b → mem p ds ≡ false
          go true e = absurd (n (mem_in p ds e))
          go false e = e

  -- ---- all of it
  abbrev Refused : ℕ → Type 0
  Refused v = Swept v ⊎ (OpenNumber v × (v ≢ 0) × (p ≡ 0) × (Opens f → ⊥))

  seven_reads : (v : ℕ) → v ≡ 7 → Refused v → Opens f × TilesStop (below f) NoRecord p
  seven_reads v e (inl (o, inl r)) = absurd (not_7 v (walk_refused v (inr e) o r).0.other e)
  seven_reads v e (inl (o, inr s)) = (o, stops_at v NoRecord (λ n. no_record (n ∙ e)) o s)
  seven_reads v e (inr (inl n, x, z, u)) = absurd (omega arith)
  seven_reads v e (inr (inr n, x, z, u)) = absurd (omega arith)

  fourteen_reads : (v : ℕ) → v ≡ 14 → Opens f → Refused v → TilesStop (below f) NotCarried p ⊎ CompressedAt (below f) p
  fourteen_reads v e a (inl (o, inl r)) =
      let w = walk_refused v (inl (inr e)) o r in
      inr (record { record_at = w.1; flagged = w.0.flagged e })
  fourteen_reads v e a (inl (o, inr s)) = inl (stops_at v NotCarried (λ n x. uncarried (n ∙ e)) o s)
  fourteen_reads v e a (inr n) = absurd (n.3 a)

  unopened_reads : (v : ℕ) → (Opens f → ⊥) → Refused v → p ≡ 0
  unopened_reads v n (inl o) = absurd (n o.0)
  unopened_reads v n (inr o) = o.2

  -- a number of a link is none of the sweep
  not_swept : (v : ℕ) → OfLink v → tile b (end_of b) p ≡ v → ⊥
  not_swept v (inl l) e = tile_has b (end_of b) p (λ n. n ≡ v → ⊥) (λ z. omega arith) (λ z. omega arith) (λ z. omega arith) e
  not_swept v (inr l) e = tile_has b (end_of b) p (λ n. n ≡ v → ⊥) (λ z. omega arith) (λ z. omega arith) (λ z. omega arith) e

  linked_reads : (v : ℕ) → OfLink v → Refused v → Opens f × (OfTarget (below f) p v × RecordAt (below f) p)
  linked_reads v l (inl (o, inl r)) = (o, walk_refused v (inl (inl l)) o r)
  linked_reads v l (inl (o, inr s)) = absurd (not_swept v l s.number)
  linked_reads v (inl l) (inr (inl n, x, z, u)) = absurd (omega arith)
  linked_reads v (inl l) (inr (inr n, x, z, u)) = absurd (omega arith)
  linked_reads v (inr l) (inr (inl n, x, z, u)) = absurd (omega arith)
  linked_reads v (inr l) (inr (inr n, x, z, u)) = absurd (omega arith)

  stop_back : (Fault : List ℕ → ℕ → Type 0) → Opens f → TilesStop (below f) Fault p → TilesStop b Fault p
  stop_back Fault o s = subst (λ (x : List ℕ). TilesStop x Fault p) (sym (below_is f o.opens)) s

  locations : Locations f m p
  locations = record {
    seven = (
      λ e. seven_reads 7 refl (run_cases 7 e),
      λ h.
          let s = stop_back NoRecord h.0 h.1 in
          stop_makes 7 h.0 s.starts (tiled_tiles b s.starts 8 p s.tiled) ((tile_seven b (end_of b) p).1 s.fault.1) (λ e. omega arith) s.fault.0,
    );
    swept = λ o h.
        let s = stop_back NotCarried o h in
        stop_makes 14 o s.starts (tiled_tiles b s.starts 8 p s.tiled) ((tile_fourteen b (end_of b) p).1 s.fault) (λ e. omega arith) (λ e. omega (arith, s.fault.0));
    fourteen = λ o e. fourteen_reads 14 refl o (run_cases 14 e);
    linked = λ v l e. let r = linked_reads v l (run_cases v e) in (r.0, r.1.1);
    deeper = λ e.
        let i = (linked_reads 23 (inr refl) (run_cases 23 e)).1.0.deep refl in
        (both (leb (p + 8) (end_of (below f))) (typed_at (below f) p (pos 6)) i).1;
    thirteen = (
      λ e. let n = nested_reads f m long 13 p (inr refl) e in (n.opens, unreached_reads n),
      λ h. nested_makes f m long 13 p (unreached_makes h.0 h.1),
    );
    unopened = λ v n e. unopened_reads v n (run_cases v e);
  }

-- THE THEOREM
pub where_it_lies : WhereItLies
where_it_lies f m p long = locations f m p long

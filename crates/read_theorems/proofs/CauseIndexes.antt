-- Where a way through an index ends, of every file: at an entry that covers the record, where none does, at a breach or at the limit of
-- records met. Assumes nothing.
use mathlib.Core.Path.{◌≡◌, refl, sym, ap, ◌∙◌, subst}
use mathlib.Core.Logic.{◌≢◌, ◌⊎◌, inl, inr}
use mathlib.Core.Bool.{Bool, true, false, cond, ◌&&◌, true≢false}
use mathlib.Core.List.{List, [], ◌∷◌, ◌++◌, append_assoc}
use Prim.Native.Nat.{ℕ, zero, suc, ◌+◌, ◌-◌, ◌*◌, ◌≤◌, ◌<◌}
use native.Mathlib.Omega.{arith}
use lib.Dec.{leb, eqb}
use lib.ListN.{length}
use borrow.Author.Tests.{leb-true, leb-false, eqb-true, eqb-false}
use Rattle.format.specs.Fields.{end_of, link_at}
use Rattle.format.proofs.Tests.{both}
use Rattle.records.specs.Layout.{next_at, head_of_index}
use Rattle.records.specs.Rules.{size_at}
use Rattle.records.specs.Index.{entries_at, used_at, offset_field_at, vxr_rule, no_limit, entry_of}
use Rattle.records.specs.Tree.{Slot, slots_of, used_entries, first_of, last_of, named_by, levels_below, names_index, lower_slots}
use Rattle.records.specs.Index.{Entry}
use Rattle.records.specs.declared.index.Range.{Range}
use Rattle.records.proofs.Ranges.{entry_reads, entry_is_lem}
use Rattle.records.proofs.Fielded.{vxr_law, vxr_size}
use Rattle.demands.specs.Acceptance.{◌∈◌, RangeRight}
use Rattle.demands.proofs.Splits.{in_left}
use Rattle.demands.proofs.IndexFacts.{in_used}
use Rattle.lookup.specs.Entries.{records, slot_entry}
use Rattle.lookup.specs.Lists.{lands_on}
use Rattle.lookup.specs.Indexes.{range_covers, covered_by, Index, scanned, index_met, lower_met, lower_scan, after_lower, lowered, lowest_of, after_scan, last_index, indexed}
use Rattle.lookup.specs.Limit.{chain_on, chain_met, lower_on, lower_records}
use Rattle.lookup.specs.declared.refusals.Refusal.{Refusal}
use Rattle.lookup.specs.declared.refusals.Refusal.TheVariants.{Breach, Gap}
use Rattle.lookup.specs.declared.indexes.Scan.{Scan}
use Rattle.lookup.specs.declared.indexes.Scan.TheVariants.{Covering, Passed}
use Rattle.lookup.proofs.Kept.{lands_lies}
use Rattle.lookup.proofs.Scans.{scan_along_lem, scan_along}
use Rattle.read_theorems.specs.Reading.{nth_record, CoveredBy, Rise, FirstCovering}
use Rattle.read_theorems.specs.Causes.{VxrMet, NoneCovering, FirstWrong, ChainOver, ChainCovers, ChainBroken, DownTo, IndexTo, LowerOver, LowerBroken}
use Rattle.read_theorems.proofs.Down.{only, covers_is, covers_not}
use Rattle.read_theorems.proofs.CauseLists.{StopsFor, stops_more}
use Rattle.std.specs.Prelude.{Result, Ok, Err}

-- ---- the entries of a VXR that is met lie in the file
abbrev EntryLies : List ℕ → Slot → Type 0
EntryLies f s = offset_field_at s.vxr (entries_at f s.vxr) s.entry + 4 ≤ end_of f

entries_lie : (f : List ℕ) (x : ℕ) → index_met f x ≡ true → (s : Slot) → s ∈ slots_of f x → EntryLies f s
unfolding index_met
entries_lie f x e s m =
    let a = both (lands_on f 6 x) (eqb (vxr_rule f x) 0) e in
    let size = vxr_size f x ((vxr_law f x).0 (eqb-true (vxr_rule f x) 0 a.1)).right in
    let used = in_used f (x ∷ []) s (in_left (slots_of f x) [] s m) in
    let lies = (lands_lies f 6 x a.0).inside in
    on (sym (only x s.vxr used.0)) size.0 size.1 used.1 lies
  where
    on : x ≡ s.vxr → size_at f x ≡ 20 + 12 * entries_at f x → used_at f x ≤ entries_at f x → s.entry < used_at f s.vxr → x + size_at f x ≤ end_of f → EntryLies f s
    on same size few below inside =
        let n : entries_at f x ≡ entries_at f s.vxr = ap (entries_at f) same in
        let u : used_at f x ≡ used_at f s.vxr = ap (used_at f) same in
        omega (arith, same, size, few, below, inside, n, u)

-- ---- a scan of entries
module _ (f : List ℕ) (r most : ℕ) where
  abbrev Ranged : ℕ → Slot → Type 0
  Ranged floor s = RangeRight f s × (floor ≤ first_of f s) × (last_of f s ≤ most)

  -- where the next one may begin
  abbrev after : ℕ → List Slot → ℕ
  after floor [] = floor
  after floor (s ∷ ss) = after (suc (last_of f s)) ss

  -- behind one that rises and does not cover r
  module _ (floor : ℕ) (s : Slot) (ss : List Slot) (right : Ranged floor s) (not : CoveredBy f r s → ⊥) where
    none_first : (ts : List Slot) → ((t : Slot) → t ∈ ts → CoveredBy f r t → ⊥) → (t : Slot) → t ∈ (s ∷ ts) → CoveredBy f r t → ⊥
    none_first ts h t (inl e) c = not (subst (CoveredBy f r) e c)
    none_first ts h t (inr m) c = h t m c

    none_behind : NoneCovering f r (suc (last_of f s)) most ss → NoneCovering f r floor most (s ∷ ss)
    none_behind h = record { rise = (right.0, right.1, right.2, h.rise); none = none_first ss h.none }

    covering_behind : (c : Slot) → FirstCovering f r (suc (last_of f s)) most ss c → FirstCovering f r floor most (s ∷ ss) c
    covering_behind c h = record {
      earlier = s ∷ h.earlier;
      later = h.later;
      split = ap (λ (l : List Slot). s ∷ l) h.split;
      rise = (right.0, right.1, right.2, h.rise);
      none = none_first h.earlier h.none;
      covered = h.covered;
    }

    wrong_behind : FirstWrong f r (suc (last_of f s)) most ss → FirstWrong f r floor most (s ∷ ss)
    wrong_behind h = record {
      earlier = s ∷ h.earlier;
      slot = h.slot;
      later = h.later;
      split = ap (λ (l : List Slot). s ∷ l) h.split;
      passed = record { rise = (right.0, right.1, right.2, h.passed.rise); none = none_first h.earlier h.passed.none };
      wrong = λ x. h.wrong x.3;
    }

  -- behind all of ss
  behind_all : (Q : ℕ → List Slot → Type 0)
      → ((floor : ℕ) (s : Slot) (ts : List Slot) → Ranged floor s → (CoveredBy f r s → ⊥) → Q (suc (last_of f s)) ts → Q floor (s ∷ ts))
      → (ss ts : List Slot) (floor : ℕ) → NoneCovering f r floor most ss → Q (after floor ss) ts → Q floor (ss ++ ts)
  behind_all Q one [] ts floor h q = q
  behind_all Q one (s ∷ ss) ts floor h q =
      one floor s (ss ++ ts) (h.rise.0, h.rise.1, h.rise.2) (h.none s (inl refl))
      (behind_all Q one ss ts (suc (last_of f s)) (record { rise = h.rise.3; none = λ t m. h.none t (inr m) }) q)

  -- with others behind them
  covering_before : (ss ts : List Slot) (floor : ℕ) (c : Slot) → FirstCovering f r floor most ss c → FirstCovering f r floor most (ss ++ ts) c
  covering_before ss ts floor c h = record {
    earlier = h.earlier;
    later = h.later ++ ts;
    split = ap (λ (l : List Slot). l ++ ts) h.split ∙ append_assoc h.earlier (c ∷ h.later) ts;
    rise = h.rise;
    none = h.none;
    covered = h.covered;
  }

  wrong_before : (ss ts : List Slot) (floor : ℕ) → FirstWrong f r floor most ss → FirstWrong f r floor most (ss ++ ts)
  wrong_before ss ts floor h = record {
    earlier = h.earlier;
    slot = h.slot;
    later = h.later ++ ts;
    split = ap (λ (l : List Slot). l ++ ts) h.split ∙ append_assoc h.earlier (h.slot ∷ h.later) ts;
    passed = h.passed;
    wrong = h.wrong;
  }

  abbrev ScanEnds : ℕ → List Slot → Result Scan Refusal → Type 0
  ScanEnds floor ss (Ok (Covering e)) = (s : Slot) × FirstCovering f r floor most ss s × (e ≡ slot_entry f s)
  ScanEnds floor ss (Ok (Passed upper)) = NoneCovering f r floor most ss × (upper ≡ after floor ss)
  ScanEnds floor ss (Err v) = (v ≡ Breach) × FirstWrong f r floor most ss

  along_ends : (ss : List Slot) (floor : ℕ) → ((s : Slot) → s ∈ ss → EntryLies f s) → ScanEnds floor ss (scan_along_lem f r most floor ss)
  along_ends [] floor lie = (record { rise = tt; none = λ s m c. absurd m }, refl)
  along_ends (s ∷ ss) floor lie =
      go (eqb fault 0) refl (range_covers (slot_entry f s) r) refl (scan_along_lem f r most (suc (last_of f s)) ss) (along_ends ss (suc (last_of f s)) (λ t m. lie t (inr m)))
    where
      fault : ℕ
      fault = (entry_of f s.vxr s.entry floor most).fault

      ranged : fault ≡ 0 → Ranged floor s
      ranged e = let p = entry_reads f s.vxr s.entry floor most e in (record { first = p.least; last = p.order }, p.above, p.under)

      rises_not : (fault ≡ 0 → ⊥) → Rise f floor most (s ∷ []) → ⊥
      rises_not z h =
          let lies = lie s (inl refl) in
          z (ap (λ (e : Entry). e.fault)
          (entry_is_lem f s.vxr s.entry floor most
          (record { least = h.0.first; above = h.1; last_lies = omega (arith, lies); order = h.0.last; under = h.2; offset_lies = lies })))

      go : (b : Bool) → eqb fault 0 ≡ b → (c : Bool) → range_covers (slot_entry f s) r ≡ c → (q : Result Scan Refusal) → ScanEnds (suc (last_of f s)) ss q
          → ScanEnds floor (s ∷ ss) (cond b (cond c (Ok (Covering (slot_entry f s))) q) (Err Breach))
      go true h true d q w =
          let right = ranged (eqb-true fault 0 h) in
          (s, record { earlier = []; later = ss; split = refl; rise = (right.0, right.1, right.2, tt); none = λ t m c. absurd m; covered = covers_is f r s d }, refl)
      go true h false d (Ok (Covering e)) w = (w.0, covering_behind floor s ss (ranged (eqb-true fault 0 h)) (covers_not f r s d) w.0 w.1, w.2)
      go true h false d (Ok (Passed upper)) w = (none_behind floor s ss (ranged (eqb-true fault 0 h)) (covers_not f r s d) w.0, w.1)
      go true h false d (Err v) w = (w.0, wrong_behind floor s ss (ranged (eqb-true fault 0 h)) (covers_not f r s d) w.1)
      go false h c d q w = (
        refl,
        record {
          earlier = [];
          slot = s;
          later = ss;
          split = refl;
          passed = record { rise = tt; none = λ t m c. absurd m };
          wrong = rises_not (eqb-false fault 0 h);
        },
      )

  -- the used entries of a VXR that is met
  scan_ends : (x floor : ℕ) → index_met f x ≡ true → ScanEnds floor (slots_of f x) (scanned f x r most (used_at f x) 0 floor)
  scan_ends x floor m =
      subst (ScanEnds floor (slots_of f x)) (sym (scan_along f x r most (used_at f x) 0 floor)) (along_ends (slots_of f x) floor (entries_lie f x m))

-- a lower record that is met is a VXR that is
lower_index : (f : List ℕ) (x : ℕ) → lower_met f x ≡ true → index_met f x ≡ true
unfolding lower_met
lower_index f x e = (both (index_met f x) (eqb (link_at f (next_at x)) 0) e).0

-- ---- THE CHAIN
module _ (f : List ℕ) (r p floor : ℕ) where
  abbrev x : ℕ
  x = link_at f p

  abbrev here : List Slot
  here = slots_of f x

  over_at : x ≡ 0 → ChainOver f r p floor
  over_at e = record { chain = []; linked = e; met = λ y m. absurd m; passed = record { rise = tt; none = λ s m c. absurd m } }

  -- its first VXR is not met
  broken_at : (x ≡ 0 → ⊥) → index_met f x ≡ false → ChainBroken f r p floor
  broken_at z e = record { many = 0; met = λ y m. absurd m; breach = inr (record { rise = tt; none = λ s m c. absurd m }, z, λ m. true≢false (sym m ∙ e)) }

  module _ (m : index_met f x ≡ true) where
    all_met : (xs : List ℕ) → ((y : ℕ) → y ∈ xs → index_met f y ≡ true) → (y : ℕ) → y ∈ (x ∷ xs) → index_met f y ≡ true
    all_met xs h y (inl e) = subst (λ (z : ℕ). index_met f z ≡ true) (sym e) m
    all_met xs h y (inr i) = h y i

    -- one of its entries covers r, or does not rise
    covers_here : (s : Slot) → FirstCovering f r floor no_limit here s → ChainCovers f r p floor s
    covers_here s h = record { many = 1; met = all_met [] (λ y i. absurd i); first = covering_before f r no_limit here [] floor s h }

    broken_here : FirstWrong f r floor no_limit here → ChainBroken f r p floor
    broken_here h = record { many = 1; met = all_met [] (λ y i. absurd i); breach = inl (wrong_before f r no_limit here [] floor h) }

    -- or its entries are passed, and the rest of the chain is gone along
    module _ (none : NoneCovering f r floor no_limit here) where
      abbrev next : ℕ
      next = after f r no_limit floor here

      none_more : (ts : List Slot) → NoneCovering f r next no_limit ts → NoneCovering f r floor no_limit (here ++ ts)
      none_more ts h = behind_all f r no_limit (λ l ss. NoneCovering f r l no_limit ss) (none_behind f r no_limit) here ts floor none h

      over_more : ChainOver f r (next_at x) next → ChainOver f r p floor
      over_more h =
          record { chain = x ∷ h.chain; linked = (refl, h.linked); met = all_met h.chain h.met; passed = none_more (used_entries f h.chain) h.passed }

      covers_more : (s : Slot) → ChainCovers f r (next_at x) next s → ChainCovers f r p floor s
      covers_more s h = record {
        many = suc h.many;
        met = all_met (records f (next_at x) h.many) h.met;
        first = behind_all f r no_limit (λ l ss. FirstCovering f r l no_limit ss s) (λ l t ts a b c. covering_behind f r no_limit l t ts a b s c) here
            (used_entries f (records f (next_at x) h.many)) floor none h.first;
      }

      broken_more : ChainBroken f r (next_at x) next → ChainBroken f r p floor
      broken_more h = record { many = suc h.many; met = all_met rest h.met; breach = go h.breach }
        where
          rest : List ℕ
          rest = records f (next_at x) h.many

          at : ℕ
          at = nth_record f (next_at x) h.many

          go : FirstWrong f r next no_limit (used_entries f rest) ⊎ (NoneCovering f r next no_limit (used_entries f rest) × (at ≢ 0) × (VxrMet f at → ⊥))
              → FirstWrong f r floor no_limit (here ++ used_entries f rest)
              ⊎ (NoneCovering f r floor no_limit (here ++ used_entries f rest) × (at ≢ 0) × (VxrMet f at → ⊥))
          go (inl w) = inl (behind_all f r no_limit (λ l ss. FirstWrong f r l no_limit ss) (wrong_behind f r no_limit) here (used_entries f rest) floor none w)
          go (inr (n, z, e)) = inr (none_more (used_entries f rest) n, z, e)

module _ (f : List ℕ) (r : ℕ) (behind : Range → List ℕ) where
  abbrev pub ChainEnds : ℕ → ℕ → List ℕ → ℕ → Index → Type 0
  ChainEnds p floor met left (Ok e) =
      (s : Slot) × ChainCovers f r p floor s × (e.range ≡ slot_entry f s) × (length met + e.left ≡ length (behind e.range) + left)
  ChainEnds p floor met left (Err m) = StopsFor Gap (ChainOver f r p floor) (ChainBroken f r p floor) met left m

  pub indexed_ends : (left p floor : ℕ) → ChainEnds p floor (chain_met f r behind p floor left) left (indexed f r p floor left)
  unfolding indexed last_index chain_met
  indexed_ends zero p floor = go (eqb (link_at f p) 0) refl
    where
      go : (b : Bool) → eqb (link_at f p) 0 ≡ b → ChainEnds p floor (cond b [] (link_at f p ∷ [])) 0 (Err (cond b Gap Breach))
      go true e = inl (refl, over_at f r p floor (eqb-true (link_at f p) 0 e))
      go false e = inr (refl, inl (omega arith))
  indexed_ends (suc left) p floor =
      go (eqb x 0) refl (index_met f x) refl (scanned f x r no_limit (used_at f x) 0 floor) (scan_ends f r no_limit x floor)
      (λ upper. indexed_ends left (next_at x) upper)
    where
      x : ℕ
      x = link_at f p

      further : index_met f x ≡ true → (none : NoneCovering f r floor no_limit (slots_of f x)) → (s : Index) (l : List ℕ)
          → ChainEnds (next_at x) (after f r no_limit floor (slots_of f x)) l left s → ChainEnds p floor (x ∷ l) (suc left) s
      further m none (Ok e) l (s, c, is, many) = (s, covers_more f r p floor m none s c, is, omega (arith, many))
      further m none (Err v) l h = stops_more Gap _ _ _ _ x l left v (over_more f r p floor m none) (broken_more f r p floor m none) h

      go : (a : Bool) → eqb x 0 ≡ a → (b : Bool) → index_met f x ≡ b → (s : Result Scan Refusal) → (index_met f x ≡ true → ScanEnds f r no_limit floor (slots_of f x) s)
          → ((upper : ℕ) → ChainEnds (next_at x) upper (chain_met f r behind (next_at x) upper left) left (indexed f r (next_at x) upper left))
          → ChainEnds p floor (cond a [] (x ∷ cond b (chain_on s behind (λ upper. chain_met f r behind (next_at x) upper left)) [])) (suc left)
          (cond a (Err Gap) (cond b (after_scan s left (λ upper. indexed f r (next_at x) upper left)) (Err Breach)))
      go true e b m s w ih = inl (refl, over_at f r p floor (eqb-true x 0 e))
      go false e false m s w ih = inr (refl, inr (broken_at f r p floor (eqb-false x 0 e) m))
      go false e true m (Ok (Covering d)) w ih = ((w m).0, covers_here f r p floor m (w m).0 (w m).1, (w m).2, omega arith)
      go false e true m (Ok (Passed upper)) w ih =
          further m (w m).0 (indexed f r (next_at x) upper left) (chain_met f r behind (next_at x) upper left)
          (subst (λ (l : ℕ). ChainEnds (next_at x) l (chain_met f r behind (next_at x) upper left) left (indexed f r (next_at x) upper left)) (w m).1 (ih upper))
      go false e true m (Err v) w ih = inr ((w m).0, inr (broken_here f r p floor m (w m).1))

  -- ---- DOWN from an entry below which n levels may lie
  abbrev pub LowerEnds : ℕ → Slot → List ℕ → ℕ → Index → Type 0
  LowerEnds n s met left (Ok d) =
      (t : Slot) × DownTo f r (λ m u. (names_index f u ≡ false) × (u ≡ t)) n s × (d.range ≡ slot_entry f t) × (length met + d.left ≡ length (behind d.range) + left)
  LowerEnds n s met left (Err m) = StopsFor Gap (DownTo f r (LowerOver f r) n s) (DownTo f r (LowerBroken f r) n s) met left m

  pub lowered_ends : (n : ℕ) (s : Slot) (left : ℕ) → LowerEnds n s (lower_records n f r behind (slot_entry f s)) left (lowered n f r (slot_entry f s) left)
  unfolding lowered lower_records
  lowered_ends zero s left = go (names_index f s) refl
    where
      go : (b : Bool) → names_index f s ≡ b
          → LowerEnds zero s (cond b [] (behind (slot_entry f s))) left (cond b (Err Breach) (covered_by (slot_entry f s) left))
      go true e = inr (refl, inr (e, inl refl))
      go false e = (s, (e, refl), refl, refl)
  lowered_ends (suc n) s left =
      go (names_index f s) refl (leb 1 left) refl (lower_met f (named_by f s)) refl (lower_scan f r (slot_entry f s)) scan (λ t. lowered_ends n t (left - 1))
    where
      o : ℕ
      o = named_by f s

      scan : lower_met f o ≡ true → ScanEnds f r (last_of f s) (first_of f s) (lower_slots f s) (lower_scan f r (slot_entry f s))
      scan m = scan_ends f r (last_of f s) o (first_of f s) (lower_index f o m)

      further : names_index f s ≡ true → 1 ≤ left → lower_met f o ≡ true → (t : Slot) → FirstCovering f r (first_of f s) (last_of f s) (lower_slots f s) t
          → (i : Index) (l : List ℕ) → LowerEnds n t l (left - 1) i → LowerEnds (suc n) s (o ∷ l) left i
      further a b m t c (Ok d) l (u, down, is, many) = (u, inr (a, m, t, c, down), is, omega (arith, many, b))
      further a b m t c (Err v) l h =
          let one : suc (left - 1) ≡ left = omega (arith, b) in
          subst (λ (k : ℕ). LowerEnds (suc n) s (o ∷ l) k (Err v)) one
          (stops_more Gap _ _ _ _ o l (left - 1) v (λ x. inr (a, m, t, c, x)) (λ x. inr (a, m, t, c, x)) h)

      on : Bool → Bool → Result Scan Refusal → Index
      on b c q = cond (b && c) (after_lower q (λ d. lowered n f r d (left - 1))) (Err Breach)

      go : (a : Bool) → names_index f s ≡ a → (b : Bool) → leb 1 left ≡ b → (c : Bool) → lower_met f o ≡ c → (q : Result Scan Refusal)
          → (lower_met f o ≡ true → ScanEnds f r (last_of f s) (first_of f s) (lower_slots f s) q)
          → ((t : Slot) → LowerEnds n t (lower_records n f r behind (slot_entry f t)) (left - 1) (lowered n f r (slot_entry f t) (left - 1)))
          → LowerEnds (suc n) s (cond a (o ∷ cond c (lower_on q (lower_records n f r behind)) []) (behind (slot_entry f s))) left
          (cond a (on b c q) (covered_by (slot_entry f s) left))
      go false a b l c m q w ih = (s, inl (a, refl), refl, refl)
      go true a false l c m q w ih = inr (refl, inl (omega (arith, leb-false 1 left l)))
      go true a true l false m q w ih = inr (refl, inr (inl (a, inr (inl (λ e. true≢false (sym e ∙ m))))))
      go true a true l true m (Ok (Covering d)) w ih =
          let t = (w m).0 in
          subst (λ (e : Range). LowerEnds (suc n) s (o ∷ lower_records n f r behind e) left (lowered n f r e (left - 1))) (sym (w m).2)
          (further a (leb-true 1 left l) m t (w m).1 (lowered n f r (slot_entry f t) (left - 1)) (lower_records n f r behind (slot_entry f t)) (ih t))
      go true a true l true m (Ok (Passed upper)) w ih = inl (refl, inl (omega arith, a, m, (w m).0))
      go true a true l true m (Err v) w ih = inr ((w m).0, inr (inl (a, inr (inr (m, (w m).1)))))

-- ---- ALONG AND DOWN
module _ (f : List ℕ) (v r left : ℕ) (behind : Range → List ℕ) where
  abbrev pub index_records : List ℕ
  index_records = chain_met f r (lower_records levels_below f r behind) (head_of_index v) 0 left

  abbrev pub IndexEnds : Index → Type 0
  IndexEnds (Ok d) =
      (t : Slot) × IndexTo f v r (λ m u. (names_index f u ≡ false) × (u ≡ t)) × (d.range ≡ slot_entry f t) × (length index_records + d.left ≡ length (behind d.range) + left)
  IndexEnds (Err m) =
      StopsFor Gap (ChainOver f r (head_of_index v) 0 ⊎ IndexTo f v r (LowerOver f r)) (ChainBroken f r (head_of_index v) 0 ⊎ IndexTo f v r (LowerBroken f r)) index_records left m

  chain_halts : (m : Refusal) → StopsFor Gap (ChainOver f r (head_of_index v) 0) (ChainBroken f r (head_of_index v) 0) index_records left m → IndexEnds (Err m)
  chain_halts m (inl (e, h)) = inl (e, inl h)
  chain_halts m (inr (e, inl l)) = inr (e, inl l)
  chain_halts m (inr (e, inr h)) = inr (e, inr (inl h))

  pub lowest_ends : IndexEnds (lowest_of f r (indexed f r (head_of_index v) 0 left))
  lowest_ends = go (indexed f r (head_of_index v) 0 left) (indexed_ends f r (lower_records levels_below f r behind) left (head_of_index v) 0)
    where
      down : (s : Slot) (rest : ℕ) → ChainCovers f r (head_of_index v) 0 s
          → length index_records + rest ≡ length (lower_records levels_below f r behind (slot_entry f s)) + left
          → (i : Index) → LowerEnds f r behind levels_below s (lower_records levels_below f r behind (slot_entry f s)) rest i → IndexEnds i
      down s rest c many (Ok d) (t, to, is, few) = (t, (s, c, to), is, omega (arith, many, few))
      down s rest c many (Err m) (inl (e, h)) = inl (e, inr (s, c, h))
      down s rest c many (Err m) (inr (e, inl l)) = inr (e, inl (omega (arith, many, l)))
      down s rest c many (Err m) (inr (e, inr h)) = inr (e, inr (inr (s, c, h)))

      go : (i : Index) → ChainEnds f r (lower_records levels_below f r behind) (head_of_index v) 0 index_records left i → IndexEnds (lowest_of f r i)
      go (Ok e) (s, c, is, many) =
          subst (λ (d : Range). IndexEnds (lowered levels_below f r d e.left)) (sym is)
          (down s e.left c (subst (λ (d : Range). length index_records + e.left ≡ length (lower_records levels_below f r behind d) + left) is many)
          (lowered levels_below f r (slot_entry f s) e.left) (lowered_ends f r behind levels_below s e.left))
      go (Err m) h = chain_halts m h

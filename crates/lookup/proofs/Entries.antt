-- A lookup is the one of the lowest entries that covers the record, in any file. Assumes nothing.
use mathlib.Core.Path.{◌≡◌, refl, sym, ap, ◌∙◌, subst}
use mathlib.Core.Bool.{Bool, true, false, cond, ◌&&◌, and-false, true≢false}
use mathlib.Core.List.{List, [], ◌∷◌, ◌++◌}
use Prim.Native.Nat.{ℕ, zero, suc, ◌+◌, ◌-◌, ◌≤◌}
use native.Mathlib.Omega.{arith}
use lib.Dec.{leb, eqb}
use borrow.Author.Tests.{leb-true, le-leb, eqb-true}
use Rattle.format.specs.Fields.{link_at}
use Rattle.format.proofs.Tests.{both}
use Rattle.records.specs.Layout.{next_at, head_of_index}
use Rattle.records.specs.Index.{used_at, no_limit, entry_of}
use Rattle.records.specs.Tree.{Slot, slots_of, first_at, last_at, first_of, last_of, named_by, levels_below, names_index, lower_slots}
use Rattle.records.specs.declared.index.Range.{Range}
use Rattle.records.proofs.Ranges.{order_natural, entry_reads}
use Rattle.lookup.specs.Indexes.{range_covers, covered_by, Index, scanned, index_met, after_scan, last_index, indexed, lower_met, lower_scan, after_lower, lowered, lowest_of}
use Rattle.lookup.specs.Entries.{All, slot_entry, Upto, wholly, breach, joined, under_each, lowest_under, chain_upto, lowest_upto, FirstThatCovers, LookupIsFirst}
use Rattle.lookup.specs.declared.refusals.Refusal.TheVariants.{Breach, Gap}
use Rattle.lookup.specs.declared.indexes.Scan.{Scan}
use Rattle.lookup.specs.declared.indexes.Scan.TheVariants.{Covering, Passed}
use Rattle.lookup.proofs.Scans.{scan_along_lem, scan_along}
use Rattle.std.specs.Prelude.{Result, Ok, Err}
use Rattle.lookup.specs.declared.refusals.Refusal.{Refusal}

-- ---- facts of all of a list
module _ {X : Type 0} where
  all_join : (Q : X → Type 0) (xs ys : List X) → All Q xs → All Q ys → All Q (xs ++ ys)
  all_join Q [] ys a b = b
  all_join Q (x ∷ xs) ys a b = (a.0, all_join Q xs ys a.1 b)

  all_left : (Q : X → Type 0) (xs ys : List X) → All Q (xs ++ ys) → All Q xs
  all_left Q [] ys a = tt
  all_left Q (x ∷ xs) ys a = (a.0, all_left Q xs ys a.1)

  all_right : (Q : X → Type 0) (xs ys : List X) → All Q (xs ++ ys) → All Q ys
  all_right Q [] ys a = a
  all_right Q (x ∷ xs) ys a = all_right Q xs ys a.1

  all_map : (P Q : X → Type 0) → ((x : X) → P x → Q x) → (xs : List X) → All P xs → All Q xs
  all_map P Q h [] a = tt
  all_map P Q h (x ∷ xs) a = (h x a.0, all_map P Q h xs a.1)

  all_if : (Q : X → Type 0) (b : Bool) (xs : List X) → All Q xs → All Q (cond b xs [])
  all_if Q true xs a = a
  all_if Q false xs a = tt

module _ (f : List ℕ) where
  -- ---- what lies under an entry lies in its range
  abbrev Within : ℕ → ℕ → List Slot → Type 0
  Within low high = All (λ s. (low ≤ first_of f s) × (last_of f s ≤ high))

  within_to : (low high least most : ℕ) → least ≤ low → high ≤ most → (ss : List Slot) → Within low high ss → Within least most ss
  within_to low high least most a b = all_map _ _ (λ s h. (omega (arith, h.0, a), omega (arith, h.1, b)))

  each_within : (under : Slot → Upto) → ((s : Slot) → Within (first_of f s) (last_of f s) (under s).slots) → (most : ℕ) (ss : List Slot) (floor : ℕ)
      → Within floor most (under_each f under most floor ss).slots
  unfolding under_each
  each_within under h most [] floor = tt
  each_within under h most (s ∷ ss) floor =
      go (eqb (entry_of f s.vxr s.entry floor most).fault 0) refl (each_within under h most ss (suc (last_of f s)))
    where
      rest : Upto
      rest = under_each f under most (suc (last_of f s)) ss

      go : (b : Bool) → eqb (entry_of f s.vxr s.entry floor most).fault 0 ≡ b → Within (suc (last_of f s)) most rest.slots
          → Within floor most (cond b (joined (under s) rest) breach).slots
      go true e ih =
          let p = entry_reads f s.vxr s.entry floor most (eqb-true _ 0 e) in
          let order = order_natural f (first_at s) (last_at f s) p.order in
          all_join _ (under s).slots (cond (under s).whole rest.slots [])
          (within_to (first_of f s) (last_of f s) floor most p.above p.under (under s).slots (h s))
          (all_if _ (under s).whole rest.slots
          (within_to (suc (last_of f s)) most floor most (omega (arith, p.above, order)) (omega arith) rest.slots ih))
      go false e ih = tt

  under_within : (n : ℕ) (s : Slot) → Within (first_of f s) (last_of f s) (lowest_under f n s).slots
  unfolding lowest_under
  under_within zero s = go (names_index f s)
    where
      go : (b : Bool) → Within (first_of f s) (last_of f s) (cond b breach (wholly (s ∷ []))).slots
      go true = tt
      go false = ((omega arith, omega arith), tt)
  under_within (suc n) s =
      go (names_index f s) (lower_met f (named_by f s)) (each_within (lowest_under f n) (under_within n) (last_of f s) (lower_slots f s) (first_of f s))
    where
      row : Upto
      row = under_each f (lowest_under f n) (last_of f s) (first_of f s) (lower_slots f s)

      go : (b c : Bool) → Within (first_of f s) (last_of f s) row.slots → Within (first_of f s) (last_of f s) (cond b (cond c row breach) (wholly (s ∷ []))).slots
      go true true h = h
      go true false h = tt
      go false c h = ((omega arith, omega arith), tt)

  module _ (r more : ℕ) where
    -- ---- what covers r, and what does not
    abbrev covers : Slot → Bool
    covers s = range_covers (slot_entry f s) r

    abbrev Free : List Slot → Type 0
    Free = All (λ s. covers s ≡ false)

    abbrev ComesTo : Index → Slot → Type 0
    ComesTo i s = covers s ≡ true → (rest : ℕ) × (more ≤ rest) × (i ≡ covered_by (slot_entry f s) rest)

    range : (s : Slot) → covers s ≡ true → (first_of f s ≤ r) × (r ≤ last_of f s)
    range s e = let p = both (leb (first_of f s) r) (leb r (last_of f s)) e in (leb-true (first_of f s) r p.0, leb-true r (last_of f s) p.1)

    -- one whose range leaves r out does not cover it
    not_covering : (s : Slot) → (first_of f s ≤ r → r ≤ last_of f s → ⊥) → covers s ≡ false
    not_covering s h = go (covers s) refl
      where
        go : (b : Bool) → covers s ≡ b → b ≡ false
        go true e = absurd (h (range s e).0 (range s e).1)
        go false e = refl

    out_of_range : (low high : ℕ) → (low ≤ r → r ≤ high → ⊥) → (ss : List Slot) → Within low high ss → Free ss
    out_of_range low high h = all_map _ _ (λ s w. not_covering s (λ a b. h (omega (arith, w.0)) (omega (arith, w.1))))

    -- what is under one that does not cover r does not
    under_free : (under : Upto) (s : Slot) → Within (first_of f s) (last_of f s) under.slots → covers s ≡ false → Free under.slots
    under_free under s w e =
        out_of_range (first_of f s) (last_of f s)
        (λ a b. true≢false (sym (rw (le-leb (first_of f s) r a, le-leb r (last_of f s) b)) ∙ e)) under.slots w

    free_nowhere : (i : Index) (ss : List Slot) → Free ss → All (ComesTo i) ss
    free_nowhere i = all_map _ _ (λ s e c. absurd (true≢false (sym c ∙ e)))

    -- ---- entries of which none covers r, and two parts of which one has none
    breach_first : (i : Index) → FirstThatCovers f r more breach i
    breach_first i = record { covered = tt; gap = λ w. absurd (true≢false (sym w)) }

    free_first : (u : Upto) (i : Index) → Free u.slots → (u.whole ≡ true → i ≡ Err Gap) → FirstThatCovers f r more u i
    free_first u i h g = record { covered = free_nowhere i u.slots h; gap = λ w n. g w }

    module _ (a b : Upto) where
      abbrev behind : List Slot
      behind = cond a.whole b.slots []

      joined_free : Free a.slots → Free b.slots → Free (joined a b).slots
      joined_free h g = all_join _ a.slots behind h (all_if _ a.whole b.slots g)

      -- the lookup comes to one of a
      first_before : (i : Index) → FirstThatCovers f r more a i → Free b.slots → FirstThatCovers f r more (joined a b) i
      first_before i h g = record {
        covered = all_join _ a.slots behind h.covered (free_nowhere i behind (all_if _ a.whole b.slots g));
        gap = λ w n. h.gap (both a.whole b.whole w).0 (all_left _ a.slots behind n);
      }

      -- or of b
      first_behind : (i : Index) → Free a.slots → FirstThatCovers f r more b i → FirstThatCovers f r more (joined a b) i
      first_behind i h g = record {
        covered = all_join _ a.slots behind (free_nowhere i a.slots h) (all_if _ a.whole b.slots g.covered);
        gap = λ w n.
            let p = both a.whole b.whole w in
            g.gap p.1 (all_right _ a.slots b.slots (subst (λ (c : Bool). Free (a.slots ++ cond c b.slots [])) p.0 n));
      }

    -- one entry that covers r, and is the lowest
    alone_first : (s : Slot) (left : ℕ) → more ≤ left → covers s ≡ true → FirstThatCovers f r more (wholly (s ∷ [])) (covered_by (slot_entry f s) left)
    alone_first s left h c = record { covered = (λ _. (left, h, refl), tt); gap = λ w n. absurd (true≢false (sym c ∙ n.0)) }

    -- ---- a row of entries: next is the lookup from the one that covers r
    abbrev RowIs : (Range → Index) → Upto → Result Scan Refusal → Type 0
    RowIs next u (Ok (Covering e)) = FirstThatCovers f r more u (next e)
    RowIs next u (Ok (Passed upper)) = Free u.slots
    RowIs next u (Err v) = Free u.slots × (u.whole ≡ false)

    row_first : (under : Slot → Upto) → ((s : Slot) → Within (first_of f s) (last_of f s) (under s).slots) → (next : Range → Index)
        → ((s : Slot) → covers s ≡ true → FirstThatCovers f r more (under s) (next (slot_entry f s)))
        → (most : ℕ) (ss : List Slot) (floor : ℕ) → RowIs next (under_each f under most floor ss) (scan_along_lem f r most floor ss)
    unfolding under_each
    row_first under within next below most [] floor = tt
    row_first under within next below most (s ∷ ss) floor =
        go (eqb (entry_of f s.vxr s.entry floor most).fault 0) (covers s) refl (scan_along_lem f r most (suc (last_of f s)) ss)
        (row_first under within next below most ss (suc (last_of f s)))
      where
        rest : Upto
        rest = under_each f under most (suc (last_of f s)) ss

        further : Free (under s).slots → (q : Result Scan Refusal) → RowIs next rest q → RowIs next (joined (under s) rest) q
        further e (Ok (Covering d)) h = first_behind (under s) rest (next d) e h
        further e (Ok (Passed upper)) h = joined_free (under s) rest e h
        further e (Err v) h = (joined_free (under s) rest e h.0, rw h.1 (and-false (under s).whole))

        go : (b c : Bool) → covers s ≡ c → (q : Result Scan Refusal) → RowIs next rest q
            → RowIs next (cond b (joined (under s) rest) breach) (cond b (cond c (Ok (Covering (slot_entry f s))) q) (Err Breach))
        go true true e q h =
            first_before (under s) rest (next (slot_entry f s)) (below s e)
            (out_of_range (suc (last_of f s)) most (λ a b. omega (arith, a, (range s e).1)) rest.slots (each_within under within most ss (suc (last_of f s))))
        go true false e q h = further (under_free (under s) s (within s) e) q h
        go false c e q h = (tt, refl)

    -- ---- down from an entry that covers r
    after_row : (next : Range → Index) (u : Upto) (q : Result Scan Refusal) → RowIs next u q → FirstThatCovers f r more u (after_lower q next)
    after_row next u (Ok (Covering d)) h = h
    after_row next u (Ok (Passed upper)) h = free_first u (Err Gap) h (λ w. refl)
    after_row next u (Err v) h = free_first u (Err v) h.0 (λ w. absurd (true≢false (sym w ∙ h.1)))

    lowered_first : (n : ℕ) (s : Slot) (left : ℕ) → n + more ≤ left → covers s ≡ true
        → FirstThatCovers f r more (lowest_under f n s) (lowered n f r (slot_entry f s) left)
    unfolding lowest_under lowered
    lowered_first zero s left h c = go (names_index f s)
      where
        go : (b : Bool) → FirstThatCovers f r more (cond b breach (wholly (s ∷ []))) (cond b (Err Breach) (covered_by (slot_entry f s) left))
        go true = breach_first (Err Breach)
        go false = alone_first s left (omega (arith, h)) c
    lowered_first (suc n) s left h c =
        rw (le-leb 1 left (omega (arith, h)))
        (go (names_index f s) (lower_met f (named_by f s))
        (after_row next row (lower_scan f r (slot_entry f s))
        (rw (scan_along f (named_by f s) r (last_of f s) (used_at f (named_by f s)) 0 (first_of f s))
        (row_first (lowest_under f n) (under_within n) next (λ t. lowered_first n t (left - 1) (omega (arith, h))) (last_of f s) (lower_slots f s) (first_of f s)))))
      where
        next : Range → Index
        next d = lowered n f r d (left - 1)

        row : Upto
        row = under_each f (lowest_under f n) (last_of f s) (first_of f s) (lower_slots f s)

        go : (b m : Bool) → FirstThatCovers f r more row (after_lower (lower_scan f r (slot_entry f s)) next)
            → FirstThatCovers f r more (cond b (cond m row breach) (wholly (s ∷ [])))
            (cond b (cond m (after_lower (lower_scan f r (slot_entry f s)) next) (Err Breach)) (covered_by (slot_entry f s) left))
        go true true q = q
        go true false q = breach_first (Err Breach)
        go false m q = alone_first s left (omega (arith, h)) c

    -- ---- along the chain: what its used entries come to, and at least n records that may still be met
    abbrev ChainIs : ℕ → Bool → Result Scan Refusal → Index → Type 0
    ChainIs n whole (Ok (Covering e)) i = (rest : ℕ) × (n ≤ rest) × (i ≡ covered_by e rest)
    ChainIs n whole (Ok (Passed upper)) i = whole ≡ true → i ≡ Err Gap
    ChainIs n whole (Err v) i = Unit {0}

    abbrev scan_on : Result Scan Refusal → (ℕ → Result Scan Refusal) → Result Scan Refusal
    scan_on (Ok (Covering e)) next = Ok (Covering e)
    scan_on (Ok (Passed upper)) next = next upper
    scan_on (Err v) next = Err v

    scan_join : (most : ℕ) (ss ts : List Slot) (floor : ℕ)
        → scan_along_lem f r most floor (ss ++ ts) ≡ scan_on (scan_along_lem f r most floor ss) (λ upper. scan_along_lem f r most upper ts)
    scan_join most [] ts floor = refl
    scan_join most (s ∷ ss) ts floor =
        go (eqb (entry_of f s.vxr s.entry floor most).fault 0) (covers s) (scan_join most ss ts (suc (last_of f s)))
      where
        later : List Slot → Result Scan Refusal
        later l = scan_along_lem f r most (suc (last_of f s)) l

        go : (b c : Bool) → later (ss ++ ts) ≡ scan_on (later ss) (λ upper. scan_along_lem f r most upper ts)
            → cond b (cond c (Ok (Covering (slot_entry f s))) (later (ss ++ ts))) (Err Breach)
            ≡ scan_on (cond b (cond c (Ok (Covering (slot_entry f s))) (later ss)) (Err Breach)) (λ upper. scan_along_lem f r most upper ts)
        go true true e = refl
        go true false e = e
        go false c e = refl

    -- the link at p, where no VXR of the chain may be met
    none_more : (n floor : ℕ) (b : Bool) (i : Index) → (b ≡ true → i ≡ Err Gap)
        → ChainIs n (cond b (wholly []) breach).whole (scan_along_lem f r no_limit floor (cond b (wholly []) breach).slots) i
    none_more n floor true i g = λ w. g refl
    none_more n floor false i g = λ w. absurd (true≢false (sym w))

    chain_scan : (n left p floor allowed : ℕ) → left + n ≤ allowed
        → ChainIs n (chain_upto f p left).whole (scan_along_lem f r no_limit floor (chain_upto f p left).slots) (indexed f r p floor allowed)
    unfolding chain_upto indexed last_index
    chain_scan n zero p floor zero h = none_more n floor (eqb (link_at f p) 0) _ (λ g. rw g)
    chain_scan n zero p floor (suc allowed) h = none_more n floor (eqb (link_at f p) 0) _ (λ g. rw g)
    chain_scan n (suc left) p floor zero h = absurd (omega arith)
    chain_scan n (suc left) p floor (suc allowed) h =
        go (eqb x 0) (index_met f x) (scanned f x r no_limit (used_at f x) 0 floor) (sym (scan_along f x r no_limit (used_at f x) 0 floor))
        (λ upper. chain_scan n left (next_at x) upper allowed (omega (arith, h)))
      where
        x : ℕ
        x = link_at f p

        rest : Upto
        rest = chain_upto f (next_at x) left

        on : (q : Result Scan Refusal) → ((upper : ℕ) → ChainIs n rest.whole (scan_along_lem f r no_limit upper rest.slots) (indexed f r (next_at x) upper allowed))
            → ChainIs n rest.whole (scan_on q (λ upper. scan_along_lem f r no_limit upper rest.slots)) (after_scan q allowed (λ upper. indexed f r (next_at x) upper allowed))
        on (Ok (Covering e)) ih = (allowed, omega (arith, h), refl)
        on (Ok (Passed upper)) ih = ih upper
        on (Err v) ih = tt

        go : (b m : Bool) (q : Result Scan Refusal) → scan_along_lem f r no_limit floor (slots_of f x) ≡ q
            → ((upper : ℕ) → ChainIs n rest.whole (scan_along_lem f r no_limit upper rest.slots) (indexed f r (next_at x) upper allowed))
            → ChainIs n (cond b (wholly []) (cond m (joined (wholly (slots_of f x)) rest) breach)).whole
            (scan_along_lem f r no_limit floor (cond b (wholly []) (cond m (joined (wholly (slots_of f x)) rest) breach)).slots)
            (cond b (Err Gap) (cond m (after_scan q allowed (λ upper. indexed f r (next_at x) upper allowed)) (Err Breach)))
        go true m q e ih = λ w. refl
        go false false q e ih = λ w. absurd (true≢false (sym w))
        go false true q e ih = rw (scan_join no_limit (slots_of f x) rest.slots floor, e) (on q ih)

    -- ---- THE LOOKUP
    pub looked_up : (v left : ℕ) → FirstThatCovers f r more (lowest_upto f v left) (lowest_of f r (indexed f r (head_of_index v) 0 (left + levels_below + more)))
    unfolding lowest_upto
    looked_up v left =
        go (scan_along_lem f r no_limit 0 chain.slots) (indexed f r (head_of_index v) 0 (left + levels_below + more))
        (chain_scan (levels_below + more) left (head_of_index v) 0 (left + levels_below + more) (omega arith))
        (λ rest h.
        row_first (lowest_under f levels_below) (under_within levels_below) (λ e. lowered levels_below f r e rest) (λ s. lowered_first levels_below s rest h)
        no_limit chain.slots 0)
      where
        chain : Upto
        chain = chain_upto f (head_of_index v) left

        row : Upto
        row = under_each f (lowest_under f levels_below) no_limit 0 chain.slots

        u : Upto
        u = record { slots = row.slots; whole = row.whole && chain.whole }

        go : (q : Result Scan Refusal) (i : Index) → ChainIs (levels_below + more) chain.whole q i
            → ((rest : ℕ) → levels_below + more ≤ rest → RowIs (λ e. lowered levels_below f r e rest) row q)
            → FirstThatCovers f r more u (lowest_of f r i)
        go (Ok (Covering e)) i (rest, h, is) g =
            let k = g rest h in
            rw is (record { covered = k.covered; gap = λ w n. k.gap (both row.whole chain.whole w).0 n })
        go (Ok (Passed upper)) i is g =
            free_first u (lowest_of f r i) (g (levels_below + more) (omega arith)) (λ w. ap (lowest_of f r) (is (both row.whole chain.whole w).1))
        go (Err v) i is g =
            let k = g (levels_below + more) (omega arith) in
            free_first u (lowest_of f r i) k.0 (λ w. absurd (true≢false (sym (both row.whole chain.whole w).0 ∙ k.1)))

-- THE THEOREM
pub lookup_first : LookupIsFirst
lookup_first f v r left more = looked_up f r more v left

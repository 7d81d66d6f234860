-- What a way through an index finds, in any file. Assumes nothing.
use mathlib.Core.Path.{◌≡◌, refl, sym, ap, ◌∙◌, subst}
use mathlib.Core.Bool.{Bool, true, false, cond, ◌&&◌}
use mathlib.Core.List.{List, [], ◌∷◌, ◌++◌, append_assoc}
use Prim.Native.Nat.{ℕ, zero, suc, ◌+◌, ◌-◌, ◌≤◌}
use native.Mathlib.Omega.{arith}
use lib.Dec.{leb, eqb}
use lib.IntN.{ℤ}
use borrow.Author.Tests.{eqb-true}
use Rattle.format.specs.Fields.{link_at}
use Rattle.records.specs.Layout.{next_at, head_of_index}
use Rattle.records.specs.Index.{used_at, index_at, no_limit, entry_of, vvr_rule}
use Rattle.records.specs.Tree.{Slot, slots_of, used_entries, last_of, levels_below}
use Rattle.format.proofs.Tests.{both}
use Rattle.records.specs.declared.index.Range.{Range}
use Rattle.lookup.specs.Lists.{lands_on}
use Rattle.lookup.specs.Indexes.{range_covers, covered_by, Index, scanned, index_met, lower_met, lower_scan, after_lower, lowered, lowest_of, after_scan, indexed, values_met, record_at, values_of, values_by, record_there, record_read, record_number, record_way, levels_from, levels_told, levels_of, levels_by, levels_way}
use Rattle.lookup.specs.declared.refusals.Refusal.TheVariants.{Breach, Gap}
use Rattle.lookup.specs.declared.indexes.Scan.{Scan}
use Rattle.lookup.specs.declared.indexes.Scan.TheVariants.{Covering, Passed}
use Rattle.lookup.specs.Entries.{All, records, slot_entry}
use Rattle.lookup.proofs.Scans.{scan_along_lem, scan_along}
use Rattle.std.specs.Prelude.{Some, None, Result, Ok, Err, IfOk}
use Rattle.lookup.specs.declared.refusals.Refusal.{Refusal}

-- ss keep their rules, none begins below floor or ends above most, and none covers r; the next one may begin at upper
abbrev pub Passes : List ℕ → ℕ → ℕ → ℕ → List Slot → ℕ → Type 0
Passes f r most floor [] upper = upper ≡ floor
Passes f r most floor (s ∷ ss) upper =
    ((entry_of f s.vxr s.entry floor most).fault ≡ 0) × (range_covers (slot_entry f s) r ≡ false) × Passes f r most (suc (last_of f s)) ss upper

-- the entry e is that of one of ss, keeps its rule and covers r; those before it are passed
pub record Scanned (f : List ℕ) (r most floor : ℕ) (ss : List Slot) (e : Range) : Type 0 where
  pub earlier : List Slot
  pub slot : Slot
  pub later : List Slot
  pub split : ss ≡ earlier ++ (slot ∷ later)
  pub upper : ℕ
  pub passed : Passes f r most floor earlier upper
  pub right : (entry_of f slot.vxr slot.entry upper most).fault ≡ 0
  pub covers : range_covers (slot_entry f slot) r ≡ true
  pub is : e ≡ slot_entry f slot

-- a fact of the entry that is found, and one of where the next may begin if all were passed
abbrev pub Scans : (Range → Type 0) → (ℕ → Type 0) → Result Scan Refusal → Type 0
Scans Fact Through (Ok (Covering e)) = Fact e
Scans Fact Through (Ok (Passed upper)) = Through upper
Scans Fact Through (Err v) = Unit {0}

module _ (f : List ℕ) (r most : ℕ) where
  -- what is found among ss is the first that covers r, or all of them are passed
  abbrev First : ℕ → List Slot → Result Scan Refusal → Type 0
  First floor ss = Scans (Scanned f r most floor ss) (Passes f r most floor ss)

  along_first : (ss : List Slot) (floor : ℕ) → First floor ss (scan_along_lem f r most floor ss)
  along_first [] floor = refl
  along_first (s ∷ ss) floor =
      go (eqb fault 0) refl (range_covers (slot_entry f s) r) refl (scan_along_lem f r most (suc (last_of f s)) ss) (along_first ss (suc (last_of f s)))
    where
      fault : ℕ
      fault = (entry_of f s.vxr s.entry floor most).fault

      go : (b : Bool) → eqb fault 0 ≡ b → (c : Bool) → range_covers (slot_entry f s) r ≡ c → (q : Result Scan Refusal) → First (suc (last_of f s)) ss q
          → First floor (s ∷ ss) (cond b (cond c (Ok (Covering (slot_entry f s))) q) (Err Breach))
      go true h true d q w =
          record { earlier = []; slot = s; later = ss; split = refl; upper = floor; passed = refl; right = eqb-true fault 0 h; covers = d; is = refl }
      go true h false d (Ok (Covering y)) w = record {
        earlier = s ∷ w.earlier;
        slot = w.slot;
        later = w.later;
        split = ap (λ (l : List Slot). s ∷ l) w.split;
        upper = w.upper;
        passed = (eqb-true fault 0 h, d, w.passed);
        right = w.right;
        covers = w.covers;
        is = w.is;
      }
      go true h false d (Ok (Passed upper)) w = (eqb-true fault 0 h, d, w)
      go true h false d (Err v) w = tt
      go false h c d q w = tt

  -- the used entries of a VXR
  pub scanned_first : (x floor : ℕ) → First floor (slots_of f x) (scanned f x r most (used_at f x) 0 floor)
  scanned_first x floor = subst (First floor (slots_of f x)) (sym (scan_along f x r most (used_at f x) 0 floor)) (along_first (slots_of f x) floor)

  passes_join : (ss ts : List Slot) (floor middle upper : ℕ) → Passes f r most floor ss middle → Passes f r most middle ts upper → Passes f r most floor (ss ++ ts) upper
  passes_join [] ts floor middle upper a b = subst (λ (l : ℕ). Passes f r most l ts upper) a b
  passes_join (s ∷ ss) ts floor middle upper a b = (a.0, a.1, passes_join ss ts (suc (last_of f s)) middle upper a.2 b)

  -- an entry found among ss is found among more, and one found behind ss that were passed
  more_behind : (ss ts : List Slot) (floor : ℕ) (e : Range) → Scanned f r most floor ss e → Scanned f r most floor (ss ++ ts) e
  more_behind ss ts floor e w = record {
    earlier = w.earlier;
    slot = w.slot;
    later = w.later ++ ts;
    split = ap (λ (l : List Slot). l ++ ts) w.split ∙ append_assoc w.earlier (w.slot ∷ w.later) ts;
    upper = w.upper;
    passed = w.passed;
    right = w.right;
    covers = w.covers;
    is = w.is;
  }

  more_before : (ss ts : List Slot) (floor middle : ℕ) (e : Range) → Passes f r most floor ss middle → Scanned f r most middle ts e → Scanned f r most floor (ss ++ ts) e
  more_before ss ts floor middle e a w = record {
    earlier = ss ++ w.earlier;
    slot = w.slot;
    later = w.later;
    split = ap (λ (l : List Slot). ss ++ l) w.split ∙ sym (append_assoc ss w.earlier (w.slot ∷ w.later));
    upper = w.upper;
    passed = passes_join ss w.earlier floor middle w.upper a w.passed;
    right = w.right;
    covers = w.covers;
    is = w.is;
  }

-- the chain whose head link stands at p: so many of its VXRs can be met, and the entry e is found among their used entries
pub record Chained (f : List ℕ) (r p floor : ℕ) (e : Range) : Type 0 where
  pub many : ℕ
  pub met : All (λ x. index_met f x ≡ true) (records f p many)
  pub first : Scanned f r no_limit floor (used_entries f (records f p many)) e

-- a fact of the entry where a way ends
abbrev pub Covers : (Range → Type 0) → Index → Type 0
Covers Fact i = IfOk i (λ c. Fact c.range)

pub indexed_chained : (f : List ℕ) (r left p floor : ℕ) → Covers (Chained f r p floor) (indexed f r p floor left)
unfolding indexed
indexed_chained f r zero p floor = tt
indexed_chained f r (suc left) p floor =
    go (eqb x 0) (index_met f x) refl (scanned f x r no_limit (used_at f x) 0 floor) (scanned_first f r no_limit x floor)
    (λ upper. indexed_chained f r left (next_at x) upper)
  where
    x : ℕ
    x = link_at f p

    further : index_met f x ≡ true → (upper : ℕ) → Passes f r no_limit floor (slots_of f x) upper → (s : Index) → Covers (Chained f r (next_at x) upper) s → Covers (Chained f r p floor) s
    further m upper a (Ok c) w = record {
      many = suc w.many;
      met = (m, w.met);
      first = more_before f r no_limit (slots_of f x) (used_entries f (records f (next_at x) w.many)) floor upper c.range a w.first;
    }
    further m upper a (Err v) w = tt

    go : (b c : Bool) → index_met f x ≡ c → (s : Result Scan Refusal) → First f r no_limit floor (slots_of f x) s
        → ((upper : ℕ) → Covers (Chained f r (next_at x) upper) (indexed f r (next_at x) upper left))
        → Covers (Chained f r p floor) (cond b (Err Gap) (cond c (after_scan s left (λ upper. indexed f r (next_at x) upper left)) (Err Breach)))
    go true c m s w ih = tt
    go false false m s w ih = tt
    go false true m (Ok (Covering e)) w ih = record { many = 1; met = (m, tt); first = more_behind f r no_limit (slots_of f x) [] floor e w }
    go false true m (Ok (Passed upper)) w ih = further m upper w (indexed f r (next_at x) upper left) (ih upper)
    go false true m (Err v) w ih = tt

-- ---- down from an entry: d is the lowest entry, m levels below e
abbrev pub Under : List ℕ → ℕ → ℕ → Range → Range → Type 0
Under f r zero e d = (d ≡ e) × (index_at f e.link ≡ false)
Under f r (suc m) e d =
    (index_at f e.link ≡ true) × (lower_met f e.link ≡ true)
    × (c : Range) × Scanned f r e.last e.first (slots_of f e.link) c × Under f r m c d

-- by n levels at most, as many as are told
pub record Down (f : List ℕ) (r n : ℕ) (e d : Range) : Type 0 where
  pub depth : ℕ
  pub few : depth ≤ n
  pub told : levels_from n f r e ≡ suc depth
  pub under : Under f r depth e d

lowered_down : (n : ℕ) (f : List ℕ) (r : ℕ) (e : Range) (left : ℕ) → Covers (Down f r n e) (lowered n f r e left)
unfolding lowered levels_from
lowered_down zero f r e left = go (index_at f e.link) refl
  where
    go : (b : Bool) → index_at f e.link ≡ b → Covers (Down f r zero e) (cond b (Err Breach) (covered_by e left))
    go true l = tt
    go false l = record { depth = 0; few = omega arith; told = refl; under = (refl, l) }
lowered_down (suc n) f r e left =
    go (index_at f e.link) refl (leb 1 left && lower_met f e.link) refl (lower_scan f r e) refl
    (scanned_first f r e.last e.link e.first) (λ d. lowered_down n f r d (left - 1))
  where
    further : index_at f e.link ≡ true → lower_met f e.link ≡ true → (c : Range) → lower_scan f r e ≡ Ok (Covering c)
        → Scanned f r e.last e.first (slots_of f e.link) c
        → (s : Index) → Covers (Down f r n c) s → Covers (Down f r (suc n) e) s
    further l m c q w (Ok d) u =
        record { depth = suc u.depth; few = omega (arith, u.few); told = rw (l, q) (omega (arith, u.told)); under = (l, m, c, w, u.under) }
    further l m c q w (Err v) u = tt

    go : (b : Bool) → index_at f e.link ≡ b → (c : Bool) → (leb 1 left && lower_met f e.link) ≡ c → (s : Result Scan Refusal) → lower_scan f r e ≡ s
        → First f r e.last e.first (slots_of f e.link) s → ((d : Range) → Covers (Down f r n d) (lowered n f r d (left - 1)))
        → Covers (Down f r (suc n) e) (cond b (cond c (after_lower s (λ d. lowered n f r d (left - 1))) (Err Breach)) (covered_by e left))
    go false l c m s q w ih = record { depth = 0; few = omega arith; told = rw l; under = (refl, l) }
    go true l false m s q w ih = tt
    go true l true m (Ok (Covering d)) q w ih = further l (both (leb 1 left) (lower_met f e.link) m).1 d q w (lowered n f r d (left - 1)) (ih d)
    go true l true m (Ok (Passed p)) q w ih = tt
    go true l true m (Err v) q w ih = tt

-- ---- THE WAY TO THE LOWEST ENTRY that covers the record read for r: along the top chain, and down
pub record ToLowest (f : List ℕ) (v : ℕ) (r : ℤ) (entry : Range) : Type 0 where
  pub there : record_there f v r ≡ true
  pub top : Range
  pub chained : Chained f (record_read f v r) (head_of_index v) 0 top
  pub down : Down f (record_read f v r) levels_below top entry

module _ (f : List ℕ) (v : ℕ) (r : ℤ) where
  -- THE WAY TO A RECORD: at is where the record read for r begins
  pub record ToRecord (bytes at : ℕ) : Type 0 where
    pub entry : Range
    pub way : ToLowest f v r entry
    pub lands : lands_on f 7 entry.link ≡ true
    pub rule : vvr_rule f entry.link (entry.last - entry.first + 1) bytes ≡ 0
    pub is : record_at entry (record_read f v r) bytes ≡ at

  pub record_found : (bytes left : ℕ) → IfOk (record_way f v bytes r left) (ToRecord bytes)
  unfolding record_way record_number values_met
  record_found bytes left = go (record_there f v r) refl
    where
      values : record_there f v r ≡ true → (top : Range) → Chained f (record_read f v r) (head_of_index v) 0 top → (s : Index)
          → Covers (Down f (record_read f v r) levels_below top) s → IfOk (values_of f (record_read f v r) bytes s) (ToRecord bytes)
      values h top t (Err n) w = tt
      values h top t (Ok d) w = met (values_met f d.range bytes d.left) refl
        where
          met : (b : Bool) → values_met f d.range bytes d.left ≡ b → IfOk (cond b (Ok (record_at d.range (record_read f v r) bytes)) (Err Breach)) (ToRecord bytes)
          met true q =
              let a = both (leb 1 d.left) (lands_on f 7 d.range.link && eqb (vvr_rule f d.range.link (d.range.last - d.range.first + 1) bytes) 0) q in
              let b = both (lands_on f 7 d.range.link) (eqb (vvr_rule f d.range.link (d.range.last - d.range.first + 1) bytes) 0) a.1 in
              record {
                entry = d.range;
                way = record { there = h; top = top; chained = t; down = w };
                lands = b.0;
                rule = eqb-true (vvr_rule f d.range.link (d.range.last - d.range.first + 1) bytes) 0 b.1;
                is = refl;
              }
          met false q = tt

      chain : record_there f v r ≡ true → (s : Index) → Covers (Chained f (record_read f v r) (head_of_index v) 0) s
          → IfOk (values_of f (record_read f v r) bytes (lowest_of f (record_read f v r) s)) (ToRecord bytes)
      chain h (Err n) w = tt
      chain h (Ok c) w = values h c.range w (lowered levels_below f (record_read f v r) c.range c.left) (lowered_down levels_below f (record_read f v r) c.range c.left)

      go : (b : Bool) → record_there f v r ≡ b → IfOk (values_by f v bytes left (cond b (Some (record_read f v r)) None)) (ToRecord bytes)
      go true h = chain h (indexed f (record_read f v r) (head_of_index v) 0 left) (indexed_chained f (record_read f v r) left (head_of_index v) 0)
      go false h = tt

  -- and how many levels there are on it: n
  pub record ToLevels (n : ℕ) : Type 0 where
    pub entry : Range
    pub way : ToLowest f v r entry
    pub is : n ≡ suc way.down.depth

  pub levels_found : (left : ℕ) → IfOk (levels_way f v r left) ToLevels
  unfolding levels_way record_number
  levels_found left = go (record_there f v r) refl
    where
      told : record_there f v r ≡ true → (top : Range) → Chained f (record_read f v r) (head_of_index v) 0 top → (s : Index)
          → Covers (Down f (record_read f v r) levels_below top) s → IfOk (levels_told f (record_read f v r) top s) ToLevels
      told h top t (Ok d) w = record { entry = d.range; way = record { there = h; top = top; chained = t; down = w }; is = w.told }
      told h top t (Err n) w = tt

      chain : record_there f v r ≡ true → (s : Index) → Covers (Chained f (record_read f v r) (head_of_index v) 0) s
          → IfOk (levels_of f (record_read f v r) s) ToLevels
      chain h (Err n) w = tt
      chain h (Ok c) w = told h c.range w (lowered levels_below f (record_read f v r) c.range c.left) (lowered_down levels_below f (record_read f v r) c.range c.left)

      go : (b : Bool) → record_there f v r ≡ b → IfOk (levels_by f v left (cond b (Some (record_read f v r)) None)) ToLevels
      go true h = chain h (indexed f (record_read f v r) (head_of_index v) 0 left) (indexed_chained f (record_read f v r) left (head_of_index v) 0)
      go false h = tt

-- The refusals that a way stops with, in any file: of 15, 16, 17 and 20 those that can come on it. Assumes nothing.
use mathlib.Core.Path.{◌≡◌, refl}
use mathlib.Core.Bool.{Bool, true, false, cond, ◌&&◌}
use mathlib.Core.List.{List}
use Prim.Native.Nat.{ℕ, zero, suc, ◌+◌, ◌-◌}
use lib.Dec.{eqb, leb}
use lib.IntN.{ℤ, pos, negsuc}
use Rattle.format.specs.Fields.{eq_z, link_at}
use Rattle.records.specs.Layout.{head_of_index}
use Rattle.records.specs.Index.{used_at, index_at, no_limit, entry_of, entry_covers}
use Rattle.records.specs.Opening.{body_of}
use Rattle.records.specs.Tree.{levels_below}
use Rattle.records.specs.Index.{Entry}
use Rattle.records.specs.declared.index.Range.{Range}
use Rattle.lookup.specs.Lists.{met_at, Way, opened, allowance, meets, wanted_at, over_of, last_link, sought, head_of_list, place_way, file_way, of_kinds, kind_among, variable_way, attribute_way, head_of_entries, entries_of, entry_way}
use Rattle.lookup.specs.Indexes.{range_of, covered_by, Index, record_there, record_read, record_number, scanned, index_met, after_scan, last_index, indexed, lower_met, lower_scan, after_lower, lowered, lowest_of, values_met, values_of, values_by, record_at, record_way, levels_told, levels_of, levels_by, levels_way}
use Rattle.lookup.specs.declared.refusals.Refusal.{Refusal}
use Rattle.lookup.specs.declared.refusals.Refusal.TheVariants.{Breach, NoSuch, NoNumber, Gap}
use Rattle.lookup.specs.declared.lists.Wanted.{Wanted}
use Rattle.lookup.specs.declared.lists.Wanted.TheVariants.{Place}
use Rattle.lookup.specs.declared.indexes.Scan.{Scan}
use Rattle.lookup.specs.declared.indexes.Scan.TheVariants.{Covering, Passed}
use Rattle.std.specs.Prelude.{Some, None, Result, Ok, Err, IfErr}

-- it holds if it holds of 20 and of those that the way can stop with
module _ (P : Refusal → Type 0) (broken : P Breach) (f : List ℕ) where
  sought_stops : (t : ℕ) → P (over_of t) → (w : Wanted) (left p i : ℕ) → IfErr (sought f t w p i left) P
  unfolding sought last_link
  sought_stops t over w zero p i = go (eqb (link_at f p) 0)
    where
      go : (b : Bool) → P (cond b (over_of t) Breach)
      go true = over
      go false = broken
  sought_stops t over w (suc left) p i =
      go (eqb (link_at f p) 0) (meets f t (link_at f p)) (wanted_at f w i (link_at f p)) (sought f t w (link_at f p + 8) (suc i) left) (sought_stops t over w left (link_at f p + 8) (suc i))
    where
      go : (a b c : Bool) (s : Way) → IfErr s P → IfErr (cond a (Err (over_of t)) (cond b (cond c (met_at (link_at f p) left) s) (Err Breach))) P
      go true b c s h = over
      go false false c s h = broken
      go false true true s h = tt
      go false true false s h = h

  place_stops : P NoSuch → (t : ℕ) → over_of t ≡ NoSuch → (n : ℤ) (left : ℕ) → IfErr (place_way f t n left) P
  unfolding place_way
  place_stops none t over (pos n) left = sought_stops t (rw over none) (Place n) left (head_of_list f t) 0
  place_stops none t over (negsuc n) left = none

  -- ---- through an index
  scanned_breaks : (x r most n i floor : ℕ) → IfErr (scanned f x r most n i floor) P
  unfolding scanned
  scanned_breaks x r most zero i floor = tt
  scanned_breaks x r most (suc n) i floor =
      go (entry_of f x i floor most) (eqb (entry_of f x i floor most).fault 0) (λ next. scanned_breaks x r most n (suc i) next)
    where
      go : (e : Entry) (b : Bool) → ((next : ℕ) → IfErr (scanned f x r most n (suc i) next) P)
          → IfErr (cond b (cond (entry_covers e r) (Ok (Covering (range_of e))) (scanned f x r most n (suc i) (suc e.last))) (Err Breach)) P
      go e true h = here (entry_covers e r)
        where
          here : (c : Bool) → IfErr (cond c (Ok (Covering (range_of e))) (scanned f x r most n (suc i) (suc e.last))) P
          here true = tt
          here false = h (suc e.last)
      go e false h = broken

  module _ (gap : P Gap) where
    indexed_halts : (r left p floor : ℕ) → IfErr (indexed f r p floor left) P
    unfolding indexed last_index
    indexed_halts r zero p floor = go (eqb (link_at f p) 0)
      where
        go : (b : Bool) → P (cond b Gap Breach)
        go true = gap
        go false = broken
    indexed_halts r (suc left) p floor =
        go (eqb (link_at f p) 0) (index_met f (link_at f p)) (scanned f (link_at f p) r no_limit (used_at f (link_at f p)) 0 floor)
        (scanned_breaks (link_at f p) r no_limit (used_at f (link_at f p)) 0 floor) (λ upper. indexed_halts r left (link_at f p + 8) upper)
      where
        go : (a b : Bool) (s : Result Scan Refusal) → IfErr s P → ((upper : ℕ) → IfErr (indexed f r (link_at f p + 8) upper left) P)
            → IfErr (cond a (Err Gap) (cond b (after_scan s left (λ upper. indexed f r (link_at f p + 8) upper left)) (Err Breach))) P
        go true b s w h = gap
        go false false s w h = broken
        go false true (Ok (Covering e)) w h = tt
        go false true (Ok (Passed upper)) w h = h upper
        go false true (Err v) w h = w

    lowered_halts : (n r : ℕ) (e : Range) (left : ℕ) → IfErr (lowered n f r e left) P
    unfolding lowered
    lowered_halts zero r e left = go (index_at f e.link)
      where
        go : (b : Bool) → IfErr (cond b (Err Breach) (covered_by e left)) P
        go true = broken
        go false = tt
    lowered_halts (suc n) r e left =
        go (index_at f e.link) (leb 1 left && lower_met f e.link) (lower_scan f r e) (scanned_breaks e.link r e.last (used_at f e.link) 0 e.first)
        (λ d. lowered_halts n r d (left - 1))
      where
        go : (a b : Bool) (s : Result Scan Refusal) → IfErr s P → ((d : Range) → IfErr (lowered n f r d (left - 1)) P)
            → IfErr (cond a (cond b (after_lower s (λ d. lowered n f r d (left - 1))) (Err Breach)) (covered_by e left)) P
        go false b s w h = tt
        go true false s w h = broken
        go true true (Ok (Covering d)) w h = h d
        go true true (Ok (Passed floor)) w h = gap
        go true true (Err v) w h = w

    -- 16 where the record number is not looked up
    module _ (v : ℕ) (r : ℤ) (missing : record_there f v r ≡ false → P NoNumber) where
      pub record_refuses : (bytes left : ℕ) → IfErr (record_way f v bytes r left) P
      unfolding record_way record_number
      record_refuses bytes left = go (record_there f v r) refl
        where
          at_values : (q : ℕ) (s : Index) → IfErr s P → IfErr (values_of f q bytes s) P
          at_values q (Err m) h = h
          at_values q (Ok c) h = met (values_met f c.range bytes c.left)
            where
              met : (b : Bool) → IfErr (cond b (Ok (record_at c.range q bytes)) (Err Breach)) P
              met true = tt
              met false = broken

          at_lowest : (q : ℕ) (s : Index) → IfErr s P → IfErr (values_of f q bytes (lowest_of f q s)) P
          at_lowest q (Ok c) h = at_values q (lowered levels_below f q c.range c.left) (lowered_halts levels_below q c.range c.left)
          at_lowest q (Err m) h = h

          go : (b : Bool) → record_there f v r ≡ b → IfErr (values_by f v bytes left (cond b (Some (record_read f v r)) None)) P
          go true e = let q = record_read f v r in at_lowest q (indexed f q (head_of_index v) 0 left) (indexed_halts q left (head_of_index v) 0)
          go false e = missing e

      pub levels_lack : (left : ℕ) → IfErr (levels_way f v r left) P
      unfolding levels_way record_number
      levels_lack left = go (record_there f v r) refl
        where
          told : (q : ℕ) (e : Range) (s : Index) → IfErr s P → IfErr (levels_told f q e s) P
          told q e (Ok d) h = tt
          told q e (Err m) h = h

          at_lowest : (q : ℕ) (s : Index) → IfErr s P → IfErr (levels_of f q s) P
          at_lowest q (Ok c) h = told q c.range (lowered levels_below f q c.range c.left) (lowered_halts levels_below q c.range c.left)
          at_lowest q (Err m) h = h

          go : (b : Bool) → record_there f v r ≡ b → IfErr (levels_by f v left (cond b (Some (record_read f v r)) None)) P
          go true e = let q = record_read f v r in at_lowest q (indexed f q (head_of_index v) 0 left) (indexed_halts q left (head_of_index v) 0)
          go false e = missing e

-- ---- where a list is over, by its kind
pub variables_over : (b : Bool) → over_of (cond b 3 8) ≡ NoSuch
variables_over true = refl
variables_over false = refl

pub entries_over : (b : Bool) → over_of (cond b 5 9) ≡ NoNumber
entries_over true = refl
entries_over false = refl

-- ---- of a file, along its body
module _ (P : Refusal → Type 0) (broken : P Breach) (none : P NoSuch) (f : List ℕ) where
  pub file_stops : (t : ℕ) → over_of t ≡ NoSuch → (n : ℤ) → IfErr (file_way f t n) P
  file_stops t over n = place_stops P broken (body_of f) none t over n (allowance f)

  pub variable_stops : (k n : ℤ) → IfErr (variable_way f k n) P
  unfolding variable_way
  variable_stops k n = go (opened f) (of_kinds 3 8 k)
    where
      go : (a b : Bool) → IfErr (cond a (cond b (file_way f (kind_among 3 8 k) n) (Err NoSuch)) (Err Breach)) P
      go true true = file_stops (kind_among 3 8 k) (variables_over (eq_z k (pos 3))) n
      go true false = none
      go false b = broken

  pub attribute_stops : (n : ℤ) → IfErr (attribute_way f n) P
  unfolding attribute_way
  attribute_stops n = go (opened f)
    where
      go : (a : Bool) → IfErr (cond a (file_way f 4 n) (Err Breach)) P
      go true = file_stops 4 refl n
      go false = broken

  pub entry_stops : P NoNumber → (a k : ℤ) (w : Wanted) → IfErr (entry_way f a k w) P
  unfolding entry_way
  entry_stops missing a k w = go (opened f) (of_kinds 5 9 k) (file_way f 4 a) (file_stops 4 refl a)
    where
      go : (b c : Bool) (s : Way) → IfErr s P → IfErr (cond b (cond c (entries_of (body_of f) (kind_among 5 9 k) w s) (Err NoSuch)) (Err Breach)) P
      go true true (Ok m) h =
          sought_stops P broken (body_of f) (kind_among 5 9 k) (rw (entries_over (eq_z k (pos 5))) missing) w m.left (head_of_entries m.at (kind_among 5 9 k)) 0
      go true true (Err m) h = h
      go true false s h = none
      go false c s h = broken

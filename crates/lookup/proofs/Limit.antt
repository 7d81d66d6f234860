-- The limit of records met: a way where fewer may be met ends with 20 where more are met, and else as where more may be. Assumes nothing.
use mathlib.Core.Path.{◌≡◌, refl, ap}
use mathlib.Core.Logic.{◌⊎◌, inl, inr}
use mathlib.Core.Bool.{Bool, true, false, cond, ◌&&◌}
use mathlib.Core.List.{List, [], ◌∷◌}
use Prim.Native.Nat.{ℕ, zero, suc, ◌+◌, ◌-◌, ◌≤◌, ◌<◌}
use native.Mathlib.Omega.{arith}
use lib.Dec.{leb, eqb}
use lib.IntN.{ℤ, pos, negsuc}
use lib.ListN.{length}
use borrow.Author.Tests.{leb-true, leb-false}
use Rattle.format.specs.Fields.{link_at}
use Rattle.records.specs.Layout.{next_at, head_of_index}
use Rattle.records.specs.Index.{used_at, index_at, no_limit, vvr_rule}
use Rattle.records.specs.Opening.{body_of}
use Rattle.records.specs.Tree.{levels_below}
use Rattle.records.specs.declared.index.Range.{Range}
use Rattle.lookup.specs.Lists.{met_at, Way, opened, lands_on, meets, wanted_at, over_of, last_link, sought, head_of_list, place_way, of_kinds, kind_among, head_of_entries, entries_of}
use Rattle.lookup.specs.Indexes.{covered_by, Index, record_number, scanned, index_met, after_scan, last_index, indexed, lower_met, lower_scan, after_lower, lowered, lowest_of, values_met, record_at, values_named, values_of, values_by, record_way, levels_told, levels_of, levels_by, levels_way}
use Rattle.lookup.specs.Limit.{place_within, variable_within, attribute_within, entry_within, list_met, place_met, variable_met, entries_met, entry_met, chain_on, chain_met, lower_on, lower_records, record_met, values_behind, none_behind, record_way_met, levels_way_met}
use Rattle.lookup.specs.declared.refusals.Refusal.TheVariants.{Breach, NoSuch, NoNumber, Gap}
use Rattle.lookup.specs.declared.lists.Wanted.{Wanted}
use Rattle.lookup.specs.declared.lists.Wanted.TheVariants.{Place}
use Rattle.lookup.specs.declared.indexes.Scan.{Scan}
use Rattle.lookup.specs.declared.indexes.Scan.TheVariants.{Covering, Passed}
use Rattle.std.specs.Prelude.{Option, Some, None, Result, Ok, Err}
use Rattle.lookup.specs.declared.refusals.Refusal.{Refusal}

-- the records ms are met: x is what comes where left may be met, y where more may. More than left are met and x is the refusal, or no more
-- and both are the same
abbrev pub Limited : {X : Type 0} → X → List ℕ → ℕ → X → X → Type 0
Limited refusal ms left x y = ((left < length ms) × (x ≡ refusal)) ⊎ ((length ms ≤ left) × (y ≡ x))

pub limited_map : {X Y : Type 0} (g : X → Y) (refusal : X) (ms : List ℕ) (left : ℕ) (x y : X) → Limited refusal ms left x y → Limited (g refusal) ms left (g x) (g y)
limited_map g refusal ms left x y (inl (h, e)) = inl (h, ap g e)
limited_map g refusal ms left x y (inr (h, e)) = inr (h, ap g e)

-- where none is met
pub none_limited : {X : Type 0} (refusal : X) (left : ℕ) (x : X) → Limited refusal [] left x x
none_limited refusal left x = inr (omega arith, refl)

-- one more is met
one_more_lem : {X : Type 0} (refusal : X) (o : ℕ) (ms : List ℕ) (left : ℕ) (x y : X) → Limited refusal ms left x y → Limited refusal (o ∷ ms) (suc left) x y
one_more_lem refusal o ms left x y (inl (h, e)) = inl (omega arith, e)
one_more_lem refusal o ms left x y (inr (h, e)) = inr (omega arith, e)

-- ---- along a list, to what comes of it
module _ {X : Type 0} (of : Way → X) (f : List ℕ) (t : ℕ) (w : Wanted) (behind : ℕ → ℕ → List ℕ)
    (found : (o left most : ℕ) → left ≤ most → Limited (of (Err Breach)) (behind o most) left (of (met_at o left)) (of (met_at o most)))
  where
    abbrev Sought : ℕ → ℕ → ℕ → ℕ → Type 0
    Sought p i left most = Limited (of (Err Breach)) (list_met f t w behind p i most) left (of (sought f t w p i left)) (of (sought f t w p i most))

    pub sought_limited : (left most p i : ℕ) → left ≤ most → Sought p i left most
    unfolding sought last_link list_met
    sought_limited zero zero p i h = go (eqb (link_at f p) 0)
      where
        go : (a : Bool) → let s = of (Err (cond a (over_of t) Breach)) in Limited (of (Err Breach)) (cond a [] (link_at f p ∷ [])) 0 s s
        go true = none_limited (of (Err Breach)) 0 (of (Err (over_of t)))
        go false = inl (omega arith, refl)
    sought_limited zero (suc most) p i h =
        go (eqb (link_at f p) 0) (cond (meets f t o) (cond (wanted_at f w i o) (behind o most) (list_met f t w behind (next_at o) (suc i) most)) [])
        (cond (meets f t o) (cond (wanted_at f w i o) (met_at o most) (sought f t w (next_at o) (suc i) most)) (Err Breach))
      where
        o : ℕ
        o = link_at f p

        go : (a : Bool) (l : List ℕ) (z : Way)
            → Limited (of (Err Breach)) (cond a [] (o ∷ l)) 0 (of (Err (cond a (over_of t) Breach))) (of (cond a (Err (over_of t)) z))
        go true l z = none_limited (of (Err Breach)) 0 (of (Err (over_of t)))
        go false l z = inl (omega arith, refl)
    sought_limited (suc left) zero p i h = absurd (omega (arith, h))
    sought_limited (suc left) (suc most) p i h =
        go (eqb o 0) (meets f t o) (wanted_at f w i o) (sought f t w (next_at o) (suc i) left) (sought f t w (next_at o) (suc i) most) (list_met f t w behind (next_at o) (suc i) most)
        (sought_limited left most (next_at o) (suc i) (omega (arith, h)))
      where
        o : ℕ
        o = link_at f p

        go : (a b c : Bool) (s z : Way) (l : List ℕ) → Limited (of (Err Breach)) l left (of s) (of z)
            → Limited (of (Err Breach)) (cond a [] (o ∷ cond b (cond c (behind o most) l) [])) (suc left)
            (of (cond a (Err (over_of t)) (cond b (cond c (met_at o left) s) (Err Breach))))
            (of (cond a (Err (over_of t)) (cond b (cond c (met_at o most) z) (Err Breach))))
        go true b c s z l ih = none_limited (of (Err Breach)) (suc left) (of (Err (over_of t)))
        go false false c s z l ih = inr (omega arith, refl)
        go false true true s z l ih =
            one_more_lem (of (Err Breach)) o (behind o most) left (of (met_at o left)) (of (met_at o most)) (found o left most (omega (arith, h)))
        go false true false s z l ih = one_more_lem (of (Err Breach)) o l left (of s) (of z) ih

-- of the GDR
module _ {X : Type 0} (of : Way → X) (f : List ℕ) (t : ℕ) (behind : ℕ → ℕ → List ℕ)
    (found : (o left most : ℕ) → left ≤ most → Limited (of (Err Breach)) (behind o most) left (of (met_at o left)) (of (met_at o most)))
  where
    pub place_limited : (n : ℤ) (left most : ℕ) → left ≤ most
        → Limited (of (Err Breach)) (place_met f t n behind most) left (of (place_way f t n left)) (of (place_way f t n most))
    unfolding place_way
    place_limited (pos n) left most h = sought_limited of f t (Place n) behind found left most (head_of_list f t) 0 h
    place_limited (negsuc n) left most h = none_limited (of (Err Breach)) left (of (Err NoSuch))

-- ---- through an index
module _ {X : Type 0} (of : Index → X) (f : List ℕ) (r : ℕ) (behind : Range → List ℕ)
    (covered : (e : Range) (left most : ℕ) → left ≤ most → Limited (of (Err Breach)) (behind e) left (of (covered_by e left)) (of (covered_by e most)))
  where
    abbrev Same : List ℕ → ℕ → Index → Index → Type 0
    Same ms left s z = Limited (of (Err Breach)) ms left (of s) (of z)

    indexed_limited : (left most p floor : ℕ) → left ≤ most → Same (chain_met f r behind p floor most) left (indexed f r p floor left) (indexed f r p floor most)
    unfolding indexed last_index chain_met
    indexed_limited zero zero p floor h = go (eqb (link_at f p) 0)
      where
        go : (a : Bool) → let s = Err (cond a Gap Breach) in Same (cond a [] (link_at f p ∷ [])) 0 s s
        go true = none_limited (of (Err Breach)) 0 (of (Err Gap))
        go false = inl (omega arith, refl)
    indexed_limited zero (suc most) p floor h =
        go (eqb x 0) (cond (index_met f x) (chain_on scan behind (λ upper. chain_met f r behind (next_at x) upper most)) [])
        (cond (index_met f x) (after_scan scan most (λ upper. indexed f r (next_at x) upper most)) (Err Breach))
      where
        x : ℕ
        x = link_at f p

        scan : Result Scan Refusal
        scan = scanned f x r no_limit (used_at f x) 0 floor

        go : (a : Bool) (l : List ℕ) (z : Index) → Same (cond a [] (x ∷ l)) 0 (Err (cond a Gap Breach)) (cond a (Err Gap) z)
        go true l z = none_limited (of (Err Breach)) 0 (of (Err Gap))
        go false l z = inl (omega arith, refl)
    indexed_limited (suc left) zero p floor h = absurd (omega (arith, h))
    indexed_limited (suc left) (suc most) p floor h =
        go (eqb x 0) (index_met f x) (scanned f x r no_limit (used_at f x) 0 floor) (λ upper. indexed_limited left most (next_at x) upper (omega (arith, h)))
      where
        x : ℕ
        x = link_at f p

        on : Result Scan Refusal → ℕ → Index
        on s n = after_scan s n (λ upper. indexed f r (next_at x) upper n)

        go : (a b : Bool) (s : Result Scan Refusal)
            → ((upper : ℕ) → Same (chain_met f r behind (next_at x) upper most) left (indexed f r (next_at x) upper left) (indexed f r (next_at x) upper most))
            → Same (cond a [] (x ∷ cond b (chain_on s behind (λ upper. chain_met f r behind (next_at x) upper most)) [])) (suc left)
            (cond a (Err Gap) (cond b (on s left) (Err Breach)))
            (cond a (Err Gap) (cond b (on s most) (Err Breach)))
        go true b s ih = none_limited (of (Err Breach)) (suc left) (of (Err Gap))
        go false false s ih = inr (omega arith, refl)
        go false true (Ok (Covering e)) ih =
            one_more_lem (of (Err Breach)) x (behind e) left (of (covered_by e left)) (of (covered_by e most)) (covered e left most (omega (arith, h)))
        go false true (Ok (Passed upper)) ih =
            one_more_lem (of (Err Breach)) x (chain_met f r behind (next_at x) upper most) left (of (indexed f r (next_at x) upper left)) (of (indexed f r (next_at x) upper most)) (ih upper)
        go false true (Err v) ih = inr (omega arith, refl)

    lowered_limited : (n : ℕ) (e : Range) (left most : ℕ) → left ≤ most → Same (lower_records n f r behind e) left (lowered n f r e left) (lowered n f r e most)
    unfolding lowered lower_records
    lowered_limited zero e left most h = go (index_at f e.link)
      where
        go : (a : Bool) → Same (cond a [] (behind e)) left (cond a (Err Breach) (covered_by e left)) (cond a (Err Breach) (covered_by e most))
        go true = none_limited (of (Err Breach)) left (of (Err Breach))
        go false = covered e left most h
    lowered_limited (suc n) e left most h =
        go (index_at f e.link) (leb 1 left) refl (leb 1 most) refl (lower_met f e.link) (lower_scan f r e) (λ d. lowered_limited n d (left - 1) (most - 1))
      where
        some : (o : ℕ) (l : List ℕ) (x y : Index) → 1 ≤ left → Same l (left - 1) x y → Same (o ∷ l) left x y
        some o l x y s (inl (a, q)) = inl (omega arith, q)
        some o l x y s (inr (a, q)) = inr (omega arith, q)

        on : Bool → Bool → Result Scan Refusal → ℕ → Index
        on b c s m = cond (b && c) (after_lower s (λ d. lowered n f r d (m - 1))) (Err Breach)

        go : (a b : Bool) → leb 1 left ≡ b → (d : Bool) → leb 1 most ≡ d → (c : Bool) (s : Result Scan Refusal)
            → ((d : Range) → left - 1 ≤ most - 1 → Same (lower_records n f r behind d) (left - 1) (lowered n f r d (left - 1)) (lowered n f r d (most - 1)))
            → Same (cond a (e.link ∷ cond c (lower_on s (lower_records n f r behind)) []) (behind e)) left (cond a (on b c s left) (covered_by e left)) (cond a (on d c s most) (covered_by e most))
        go false b l d m c s ih = covered e left most h
        go true false l d m c s ih = inl (omega (arith, leb-false 1 left l), refl)
        go true true l false m c s ih = absurd (omega (arith, h, leb-true 1 left l, leb-false 1 most m))
        go true true l true m false s ih = inr (omega (arith, leb-true 1 left l), refl)
        go true true l true m true (Ok (Covering d)) ih =
            some e.link (lower_records n f r behind d) (lowered n f r d (left - 1)) (lowered n f r d (most - 1)) (leb-true 1 left l) (ih d (omega (arith, h)))
        go true true l true m true (Ok (Passed floor)) ih = inr (omega (arith, leb-true 1 left l), refl)
        go true true l true m true (Err v) ih = inr (omega (arith, leb-true 1 left l), refl)

-- ---- TO A RECORD, and its levels
module _ (f : List ℕ) (v : ℕ) (r : ℤ) (left most : ℕ) (h : left ≤ most) where
  pub record_limited : (bytes : ℕ) → Limited (Err Breach) (record_way_met f v r most) left (record_way f v bytes r left) (record_way f v bytes r most)
  unfolding record_way values_met
  record_limited bytes = go (record_number f v r)
    where
      values : (q : ℕ) (e : Range) (left most : ℕ) → left ≤ most → Limited (Err Breach) (values_behind e) left (values_named f q bytes e left) (values_named f q bytes e most)
      values q e left most h = met (leb 1 left) refl (leb 1 most) refl (lands_on f 7 e.link && eqb (vvr_rule f e.link (e.last - e.first + 1) bytes) 0)
        where
          is : Bool → Bool → Result ℕ Refusal
          is b c = cond (b && c) (Ok (record_at e q bytes)) (Err Breach)

          met : (b : Bool) → leb 1 left ≡ b → (d : Bool) → leb 1 most ≡ d → (c : Bool) → Limited (Err Breach) (values_behind e) left (is b c) (is d c)
          met false l d m c = inl (omega (arith, leb-false 1 left l), refl)
          met true l false m c = absurd (omega (arith, h, leb-true 1 left l, leb-false 1 most m))
          met true l true m c = inr (omega (arith, leb-true 1 left l), refl)

      go : (n : Option ℕ) → Limited (Err Breach) (record_met f v values_behind most n) left (values_by f v bytes left n) (values_by f v bytes most n)
      go (Some q) =
          indexed_limited (λ s. values_of f q bytes (lowest_of f q s)) f q (lower_records levels_below f q values_behind)
          (λ e left most h. lowered_limited (values_of f q bytes) f q values_behind (values q) levels_below e left most h) left most (head_of_index v) 0 h
      go None = none_limited (Err Breach) left (Err NoNumber)

  pub levels_limited : Limited (Err Breach) (levels_way_met f v r most) left (levels_way f v r left) (levels_way f v r most)
  unfolding levels_way
  levels_limited = go (record_number f v r)
    where
      go : (n : Option ℕ) → Limited (Err Breach) (record_met f v none_behind most n) left (levels_by f v left n) (levels_by f v most n)
      go (Some q) =
          indexed_limited (levels_of f q) f q (lower_records levels_below f q none_behind)
          (λ e left most h. lowered_limited (levels_told f q e) f q none_behind (λ d left most h. none_limited (Err Breach) left (levels_told f q e (covered_by d left))) levels_below e left most h)
          left most (head_of_index v) 0 h
      go None = none_limited (Err Breach) left (Err NoNumber)

-- ---- OF A FILE THAT OPENS
module _ {X : Type 0} (of : Way → X) (f : List ℕ) (opens : opened f ≡ true) (left most : ℕ) (h : left ≤ most) where
  module _ (behind : ℕ → ℕ → List ℕ)
      (found : (o left most : ℕ) → left ≤ most → Limited (of (Err Breach)) (behind o most) left (of (met_at o left)) (of (met_at o most)))
    where
      pub variable_limited : (k n : ℤ)
          → Limited (of (Err Breach)) (variable_met (body_of f) k n behind most) left (of (variable_within left f k n)) (of (variable_within most f k n))
      variable_limited k n = rw opens (go (of_kinds 3 8 k))
        where
          go : (b : Bool)
              → Limited (of (Err Breach)) (cond b (place_met (body_of f) (kind_among 3 8 k) n behind most) []) left
              (of (cond b (place_within left f (kind_among 3 8 k) n) (Err NoSuch)))
              (of (cond b (place_within most f (kind_among 3 8 k) n) (Err NoSuch)))
          go true = place_limited of (body_of f) (kind_among 3 8 k) behind found n left most h
          go false = none_limited (of (Err Breach)) left (of (Err NoSuch))

      pub attribute_limited : (n : ℤ)
          → Limited (of (Err Breach)) (place_met (body_of f) 4 n behind most) left (of (attribute_within left f n)) (of (attribute_within most f n))
      attribute_limited n = rw opens (place_limited of (body_of f) 4 behind found n left most h)

  pub entry_limited : ((o left most : ℕ) → of (met_at o left) ≡ of (met_at o most)) → (a k : ℤ) (w : Wanted)
      → Limited (of (Err Breach)) (entry_met (body_of f) a k w most) left (of (entry_within left f a k w)) (of (entry_within most f a k w))
  entry_limited same a k w = rw opens (go (of_kinds 5 9 k))
    where
      t : ℕ
      t = kind_among 5 9 k

      go : (b : Bool)
          → Limited (of (Err Breach)) (cond b (place_met (body_of f) 4 a (entries_met (body_of f) t w) most) []) left
          (of (cond b (entries_of (body_of f) t w (place_within left f 4 a)) (Err NoSuch)))
          (of (cond b (entries_of (body_of f) t w (place_within most f 4 a)) (Err NoSuch)))
      go true =
          place_limited (λ s. of (entries_of (body_of f) t w s)) (body_of f) 4 (entries_met (body_of f) t w)
          (λ d left most h. sought_limited of (body_of f) t w (λ e rest. []) (λ o left most h. inr (omega arith, same o most left)) left most (head_of_entries d t) 0 h) a left most h
      go false = none_limited (of (Err Breach)) left (of (Err NoSuch))

-- Where a way along a list ends, of every file: at the record that is wanted, at the end of the list, at a breach or at the limit of records
-- met. Assumes nothing.
use mathlib.Core.Path.{◌≡◌, refl, sym, ◌∙◌, subst}
use mathlib.Core.Logic.{◌≢◌, ◌⊎◌, inl, inr}
use mathlib.Core.Bool.{Bool, true, false, cond, true≢false}
use mathlib.Core.List.{List, [], ◌∷◌, ◌++◌}
use Prim.Native.Nat.{ℕ, zero, suc, ◌+◌, ◌≤◌, ◌<◌}
use native.Mathlib.Nat.{add-zero}
use native.Mathlib.Omega.{arith}
use lib.Dec.{ltb, eqb}
use lib.IntN.{ℤ, pos, negsuc}
use lib.ListN.{length}
use borrow.Author.Tests.{ltb-true, ltb-false, eqb-true, eqb-false, le-leb}
use Rattle.format.specs.Fields.{link_at}
use Rattle.records.specs.Layout.{next_at}
use Rattle.lookup.specs.Lists.{met_at, Way, meets, wanted_at, over_of, last_link, sought, head_of_list, place_way}
use Rattle.lookup.specs.Limit.{list_met, place_met}
use Rattle.lookup.specs.declared.refusals.Refusal.{Refusal}
use Rattle.lookup.specs.declared.refusals.Refusal.TheVariants.{Breach, NoSuch}
use Rattle.lookup.specs.declared.lists.Wanted.{Wanted}
use Rattle.lookup.specs.declared.lists.Wanted.TheVariants.{Place}
use Rattle.demands.specs.Acceptance.{◌∈◌, Each, Linked}
use Rattle.read_theorems.specs.Reading.{nth_record}
use Rattle.read_theorems.specs.Causes.{RecordMet, ListOver, ListBroken, NotListed, NumberBroken}
use Rattle.std.specs.Prelude.{Ok, Err}

-- a way that stops does so for one of two reasons: what it goes along is over, with that refusal; or 20, by a breach or, where `left` records
-- may be met, by more
abbrev pub StopsFor : Refusal → Type 0 → Type 0 → List ℕ → ℕ → Refusal → Type 0
StopsFor over Over Broken met left m = ((m ≡ over) × Over) ⊎ ((m ≡ Breach) × ((left < length met) ⊎ Broken))

-- with other reasons, after one more record
pub stops_more : (over : Refusal) (A B C D : Type 0) (o : ℕ) (met : List ℕ) (left : ℕ) (m : Refusal) → (A → C) → (B → D) → StopsFor over A B met left m
    → StopsFor over C D (o ∷ met) (suc left) m
stops_more over A B C D o met left m g h (inl (e, a)) = inl (e, g a)
stops_more over A B C D o met left m g h (inr (e, inl l)) = inr (e, inl (omega (arith, l)))
stops_more over A B C D o met left m g h (inr (e, inr b)) = inr (e, inr (h b))

-- and one that finds its record has met so many before it
abbrev pub WayEnds : Refusal → Type 0 → Type 0 → (ℕ → ℕ → List ℕ) → List ℕ → ℕ → Way → Type 0
WayEnds over Over Broken behind met left (Ok o) = length met + o.left ≡ length (behind o.at o.left) + left
WayEnds over Over Broken behind met left (Err m) = StopsFor over Over Broken met left m

ends_so : (over : Refusal) (A B C D : Type 0) (behind : ℕ → ℕ → List ℕ) (met : List ℕ) (left : ℕ) (s : Way) → (A → C) → (B → D)
    → WayEnds over A B behind met left s → WayEnds over C D behind met left s
ends_so over A B C D behind met left (Ok o) g h e = e
ends_so over A B C D behind met left (Err m) g h (inl (e, a)) = inl (e, g a)
ends_so over A B C D behind met left (Err m) g h (inr (e, inl l)) = inr (e, inl l)
ends_so over A B C D behind met left (Err m) g h (inr (e, inr b)) = inr (e, inr (h b))

module _ (f : List ℕ) (t : ℕ) (w : Wanted) where
  -- ---- along the list from the link at p, at the place i: xs to its end, none of them wanted
  abbrev Passed : ℕ → ℕ → List ℕ → Type 0
  Passed p i [] = link_at f p ≡ 0
  Passed p i (x ∷ xs) = (link_at f p ≡ x) × RecordMet f t x × (wanted_at f w i x ≡ false) × Passed (next_at x) (suc i) xs

  passed_linked : (xs : List ℕ) (p i : ℕ) → Passed p i xs → Linked f (λ x. x) p xs
  passed_linked [] p i h = h
  passed_linked (x ∷ xs) p i h = (h.0, passed_linked xs (next_at x) (suc i) h.3)

  passed_met : (xs : List ℕ) (p i : ℕ) → Passed p i xs → (x : ℕ) → x ∈ xs → RecordMet f t x
  passed_met [] p i h x m = absurd m
  passed_met (y ∷ ys) p i h x (inl e) = subst (RecordMet f t) (sym e) h.1
  passed_met (y ∷ ys) p i h x (inr m) = passed_met ys (next_at y) (suc i) h.3 x m

  passed_over : (xs : List ℕ) (p i : ℕ) → Passed p i xs → ListOver f t p xs
  passed_over xs p i h = record { linked = passed_linked xs p i h; met = passed_met xs p i h }

  passed_none : (earlier later : List ℕ) (x p i : ℕ) → Passed p i (earlier ++ (x ∷ later)) → wanted_at f w (i + length earlier) x ≡ false
  passed_none [] later x p i h = rw (add-zero i) h.2
  passed_none (y ∷ ys) later x p i h =
      let e : i + suc (length ys) ≡ suc i + length ys = omega arith in
      rw e (passed_none ys later x (next_at y) (suc i) h.3)

  passed_each : (xs : List ℕ) (p : ℕ) → Passed p 0 xs → Each xs (λ earlier x. wanted_at f w (length earlier) x ≡ false)
  passed_each xs p h earlier later x e =
      let z : 0 + length earlier ≡ length earlier = omega arith in
      subst (λ (i : ℕ). wanted_at f w i x ≡ false) z (passed_none earlier later x p 0 (subst (Passed p 0) e h))

  -- ---- to the n-th, the first that is not met
  abbrev Breaks : ℕ → ℕ → ℕ → Type 0
  Breaks p i zero = (link_at f p ≢ 0) × (meets f t (link_at f p) ≡ false)
  Breaks p i (suc n) = RecordMet f t (link_at f p) × (wanted_at f w i (link_at f p) ≡ false) × Breaks (next_at (link_at f p)) (suc i) n

  breaks_met : (n p i : ℕ) → Breaks p i n → (h : ℕ) → h < n → RecordMet f t (nth_record f p h)
  breaks_met zero p i b h l = absurd (omega arith)
  breaks_met (suc n) p i b zero l = b.0
  breaks_met (suc n) p i b (suc h) l = breaks_met n (next_at (link_at f p)) (suc i) b.2 h (omega arith)

  breaks_passed : (n p i : ℕ) → Breaks p i n → (h : ℕ) → h < n → wanted_at f w (i + h) (nth_record f p h) ≡ false
  breaks_passed zero p i b h l = absurd (omega arith)
  breaks_passed (suc n) p i b zero l = rw (add-zero i) b.1
  breaks_passed (suc n) p i b (suc h) l =
      let e : i + suc h ≡ suc i + h = omega arith in
      rw e (breaks_passed n (next_at (link_at f p)) (suc i) b.2 h (omega arith))

  breaks_at : (n p i : ℕ) → Breaks p i n → (nth_record f p n ≢ 0) × (meets f t (nth_record f p n) ≡ false)
  breaks_at zero p i b = b
  breaks_at (suc n) p i b = breaks_at n (next_at (link_at f p)) (suc i) b.2

  list_broken : (p : ℕ) → (n : ℕ) × Breaks p 0 n → ListBroken f t w p
  list_broken p (n, b) =
      let at = breaks_at n p 0 b in
      record {
        place = n;
        met = breaks_met n p 0 b;
        passed = λ h l. let z : 0 + h ≡ h = omega arith in subst (λ (i : ℕ). wanted_at f w i (nth_record f p h) ≡ false) z (breaks_passed n p 0 b h l);
        named = at.0;
        broken = λ e. true≢false (sym e ∙ at.1);
      }

  -- ---- THE WAY, and the records met on it
  module _ (behind : ℕ → ℕ → List ℕ) where
    abbrev Ends : ℕ → ℕ → List ℕ → ℕ → Way → Type 0
    Ends p i = WayEnds (over_of t) ((xs : List ℕ) × Passed p i xs) ((n : ℕ) × Breaks p i n) behind

    sought_ends : (left p i : ℕ) → Ends p i (list_met f t w behind p i left) left (sought f t w p i left)
    unfolding sought last_link list_met
    sought_ends zero p i = go (eqb (link_at f p) 0) refl
      where
        go : (b : Bool) → eqb (link_at f p) 0 ≡ b → Ends p i (cond b [] (link_at f p ∷ [])) 0 (Err (cond b (over_of t) Breach))
        go true e = inl (refl, ([], eqb-true (link_at f p) 0 e))
        go false e = inr (refl, inl (omega arith))
    sought_ends (suc left) p i =
        go (eqb o 0) refl (meets f t o) refl (wanted_at f w i o) refl (sought f t w (next_at o) (suc i) left) (list_met f t w behind (next_at o) (suc i) left)
        (sought_ends left (next_at o) (suc i))
      where
        o : ℕ
        o = link_at f p

        go : (a : Bool) → eqb o 0 ≡ a → (b : Bool) → meets f t o ≡ b → (c : Bool) → wanted_at f w i o ≡ c → (s : Way) (l : List ℕ) → Ends (next_at o) (suc i) l left s
            → Ends p i (cond a [] (o ∷ cond b (cond c (behind o left) l) [])) (suc left) (cond a (Err (over_of t)) (cond b (cond c (met_at o left) s) (Err Breach)))
        go true e b m c d s l h = inl (refl, ([], eqb-true o 0 e))
        go false e false m c d s l h = inr (refl, inr (0, (eqb-false o 0 e, m)))
        go false e true m true d s l h = omega arith
        go false e true m false d (Ok q) l h = omega (arith, h)
        go false e true m false d (Err v) l h =
            stops_more (over_of t) _ _ _ _ o l left v (λ x. (o ∷ x.0, (refl, m, d, x.1))) (λ x. (suc x.0, (m, d, x.1))) h

    -- in the words of the statement
    pub list_ends : (left p : ℕ)
        → WayEnds (over_of t) ((xs : List ℕ) × ListOver f t p xs × Each xs (λ earlier x. wanted_at f w (length earlier) x ≡ false)) (ListBroken f t w p) behind
        (list_met f t w behind p 0 left) left (sought f t w p 0 left)
    list_ends left p =
        ends_so (over_of t) _ _ _ _ behind (list_met f t w behind p 0 left) left (sought f t w p 0 left)
        (λ x. (x.0, passed_over x.0 p 0 x.1, passed_each x.0 p x.1)) (list_broken p) (sought_ends left p 0)

-- ---- a list of the GDR
module _ (f : List ℕ) (t : ℕ) (over : over_of t ≡ NoSuch) (behind : ℕ → ℕ → List ℕ) where
  -- none of them has the wanted place
  few : (n : ℕ) (xs : List ℕ) (p i : ℕ) → i ≤ n → Passed f t (Place n) p i xs → i + length xs ≤ n
  few n [] p i l h = omega (arith, l)
  few n (x ∷ xs) p i l h =
      let next : suc i ≤ n = next_below (eqb-false i n h.2) in
      omega (arith, few n xs (next_at x) (suc i) next h.3)
    where
      next_below : (i ≡ n → ⊥) → suc i ≤ n
      next_below d = go (ltb i n) refl
        where
          go : (b : Bool) → ltb i n ≡ b → suc i ≤ n
          go true e = ltb-true i n e
          go false e = absurd (d (omega (arith, l, ltb-false i n e)))

  pub place_ends : (n : ℤ) (left : ℕ) → WayEnds NoSuch (NotListed f t n) (NumberBroken f t n) behind (place_met f t n behind left) left (place_way f t n left)
  unfolding place_way
  place_ends (pos n) left =
      subst (λ (m : Refusal). WayEnds m (NotListed f t (pos n)) (NumberBroken f t (pos n)) behind (place_met f t (pos n) behind left) left (place_way f t (pos n) left)) over
      (ends_so (over_of t) _ _ _ _ behind (place_met f t (pos n) behind left) left (place_way f t (pos n) left)
      (λ x. inr (x.0, passed_over f t (Place n) x.0 (head_of_list f t) 0 x.1, omega (arith, few n x.0 (head_of_list f t) 0 (omega arith) x.1)))
      (λ x. (le-leb 0 n (omega arith), list_broken f t (Place n) (head_of_list f t) x)) (sought_ends f t (Place n) behind left (head_of_list f t) 0))
  place_ends (negsuc n) left = inl (refl, inl refl)

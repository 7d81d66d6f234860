-- The lowest entries of an index that keeps the rules of acceptance: the first that covers a record is the one that a lookup comes to, and
-- its level is how far down it lies. Assumes nothing.
use mathlib.Core.Path.{◌≡◌, refl, sym, ap, ◌∙◌, subst}
use mathlib.Core.Logic.{◌≢◌, inl, inr}
use mathlib.Core.Bool.{Bool, true, false, cond, and-false}
use mathlib.Core.List.{List, [], ◌∷◌, ◌++◌}
use Prim.Native.Nat.{ℕ, zero, suc, ◌+◌, ◌≤◌}
use native.Mathlib.Nat.{add-zero}
use native.Mathlib.Omega.{arith}
use lib.Dec.{leb}
use lib.ListN.{length}
use borrow.Author.Tests.{le-leb, lt-leb}
use Rattle.format.specs.Fields.{link_at}
use Rattle.records.specs.Layout.{next_at, head_of_index}
use Rattle.records.specs.Tree.{Slot, slots_of, used_entries, first_of, last_of, levels_below, flat, names_index, lower_slots, lowest, lowest_entries}
use Rattle.records.specs.declared.index.Range.{Range}
use Rattle.lookup.specs.Entries.{records}
use Rattle.reader.specs.Questions.{Reply}
use Rattle.demands.specs.Acceptance.{◌∈◌, Linked}
use Rattle.demands.proofs.Splits.{split_in}
use Rattle.demands.proofs.Lowest.{Rises}
use Rattle.read_theorems.specs.Reading.{CoveredBy, WayDown, last_entry, IndexWay}
use Rattle.read_theorems.specs.Answering.{first_that, covers, Levelled, levelled_under, levelled_entries}
use Rattle.read_theorems.proofs.Down.{in_flat, out_flat, covers_is, Reached}
use Rattle.read_theorems.proofs.Indexes.{Free}
use Rattle.read_theorems.proofs.AnsweringLists.{first_none}

-- ---- things with a slot each, whose ranges rise: the first that covers a number
module _ {X : Type 0} (f : List ℕ) (slot : X → Slot) where
  abbrev pub slots : List X → List Slot
  slots [] = []
  slots (x ∷ xs) = slot x ∷ slots xs

  pub slots_join : (xs ys : List X) → slots (xs ++ ys) ≡ slots xs ++ slots ys
  slots_join [] ys = refl
  slots_join (x ∷ xs) ys = ap (λ (l : List Slot). slot x ∷ l) (slots_join xs ys)

  pub in_slots : (xs : List X) (x : X) → x ∈ xs → slot x ∈ slots xs
  in_slots [] x m = absurd m
  in_slots (y ∷ ys) x (inl e) = inl (ap slot e)
  in_slots (y ∷ ys) x (inr m) = inr (in_slots ys x m)

  module _ (r : ℕ) where
    after : (xs : List X) (floor : ℕ) (x : X) → Rises f floor (slots xs) → x ∈ xs → CoveredBy f r (slot x) → floor ≤ r
    after [] floor x h m c = absurd m
    after (y ∷ ys) floor x h (inl e) c = let z : first_of f (slot x) ≡ first_of f (slot y) = ap (λ (x : X). first_of f (slot x)) e in omega (arith, h.0, c.first, z)
    after (y ∷ ys) floor x h (inr m) c = omega (arith, h.0, h.1, after ys (last_of f (slot y) + 1) x h.2 m c)

    pub first_covers : (other : Reply) (of : X → Reply) (xs : List X) (floor : ℕ) (x : X) → Rises f floor (slots xs) → x ∈ xs → CoveredBy f r (slot x)
        → first_that other (λ x. covers f r (slot x)) xs of ≡ of x
    first_covers other of [] floor x h m c = absurd m
    first_covers other of (y ∷ ys) floor x h (inl e) c =
        let d = subst (λ (x : X). CoveredBy f r (slot x)) e c in
        rw (le-leb (first_of f (slot y)) r d.first, le-leb r (last_of f (slot y)) d.last) (ap of (sym e))
    first_covers other of (y ∷ ys) floor x h (inr m) c =
        let a = after ys (last_of f (slot y) + 1) x h.2 m c in
        rw (lt-leb r (last_of f (slot y)) (omega (arith, a)), and-false (leb (first_of f (slot y)) r)) (first_covers other of ys (last_of f (slot y) + 1) x h.2 m c)

    pub none_covers : (other : Reply) (of : X → Reply) (xs : List X) → Free f r (slots xs) → first_that other (λ x. covers f r (slot x)) xs of ≡ other
    none_covers other of xs free = first_none other of (λ x. covers f r (slot x)) xs (λ x m. go x (covers f r (slot x)) refl (free (slot x) (in_slots xs x m)))
      where
        go : (x : X) (b : Bool) → covers f r (slot x) ≡ b → (CoveredBy f r (slot x) → ⊥) → covers f r (slot x) ≡ false
        go x true e h = absurd (h (covers_is f r (slot x) e))
        go x false e h = e

-- each slot by itself
pub own_slots : (f : List ℕ) (ss : List Slot) → slots f (λ s. s) ss ≡ ss
own_slots f [] = refl
own_slots f (s ∷ ss) = ap (λ (l : List Slot). s ∷ l) (own_slots f ss)

module _ (f : List ℕ) where
  -- ---- the lowest entries with their levels are the lowest entries
  abbrev slots_in : List Levelled → List Slot
  slots_in = slots f (λ l. l.slot)

  flat_levelled : (of : Slot → List Levelled) (to : Slot → List Slot) → ((s : Slot) → slots_in (of s) ≡ to s) → (ss : List Slot) → slots_in (flat of ss) ≡ flat to ss
  flat_levelled of to h [] = refl
  flat_levelled of to h (s ∷ ss) = slots_join f (λ l. l.slot) (of s) (flat of ss) ∙ rw (h s, flat_levelled of to h ss)

  under_levelled : (n at : ℕ) (s : Slot) → slots_in (levelled_under f at n s) ≡ lowest f n s
  under_levelled zero at s = refl
  under_levelled (suc n) at s = go (names_index f s) (flat_levelled (levelled_under f (suc at) n) (lowest f n) (under_levelled n (suc at)) (lower_slots f s))
    where
      go : (b : Bool) → slots_in (flat (levelled_under f (suc at) n) (lower_slots f s)) ≡ flat (lowest f n) (lower_slots f s)
          → slots_in (cond b (flat (levelled_under f (suc at) n) (lower_slots f s)) (record { slot = s; level = at } ∷ []))
          ≡ cond b (flat (lowest f n) (lower_slots f s)) (s ∷ [])
      go true e = e
      go false e = refl

  pub levelled_slots : (xs : List ℕ) → slots f (λ l. l.slot) (levelled_entries f xs) ≡ lowest_entries f xs
  levelled_slots xs = flat_levelled (levelled_under f 1 levels_below) (lowest f levels_below) (under_levelled levels_below 1) (used_entries f xs)

  -- the last entry of a way down has the level of its depth
  last_levelled : (r n at : ℕ) (s : Slot) (ts : List Slot) → WayDown f r s ts → length ts ≤ n
      → ◌∈◌ {X = Levelled} (record { slot = last_entry s ts; level = at + length ts }) (levelled_under f at n s)
  last_levelled r zero at s [] d h = inl (ap (λ (l : ℕ). record { slot = s; level = l }) (add-zero at))
  last_levelled r zero at s (t ∷ ts) d h = absurd (omega arith)
  last_levelled r (suc n) at s [] d h = rw d (inl (ap (λ (l : ℕ). record { slot = s; level = l }) (add-zero at)))
  last_levelled r (suc n) at s (t ∷ ts) d h =
      let q = d.1 in
      let deep : at + suc (length ts) ≡ suc at + length ts = omega arith in
      rw (d.0.named, deep)
      (in_flat (levelled_under f (suc at) n) (lower_slots f s) t (record { slot = last_entry t ts; level = suc at + length ts })
      (split_in (lower_slots f s) q.earlier q.later t q.split) (last_levelled r n (suc at) t ts d.2 (omega arith)))

  -- ---- the VXRs that a way meets are those of the chain
  records_in : (xs : List ℕ) (p many : ℕ) → Linked f (λ x. x) p xs → ((x : ℕ) → x ∈ records f p many → x ≢ 0) → (y : ℕ) → y ∈ records f p many → y ∈ xs
  records_in xs p zero l h y m = absurd m
  records_in [] p (suc many) l h y m = absurd (h (link_at f p) (inl refl) l)
  records_in (x ∷ xs) p (suc many) l h y (inl e) = inl (e ∙ l.0)
  records_in (x ∷ xs) p (suc many) l h y (inr m) =
      inr (records_in xs (next_at (link_at f p)) many (subst (λ (o : ℕ). Linked f (λ x. x) (next_at o) xs) (sym l.0) l.1) (λ z i. h z (inr i)) y m)

  module _ (v : ℕ) (xs : List ℕ) (linked : Linked f (λ x. x) (head_of_index v) xs) where
    top_in : (r : ℕ) (w : IndexWay f v r) → w.top ∈ used_entries f xs
    top_in r w =
        let c = w.first in
        let vxrs = records f (head_of_index v) w.many in
        let i = out_flat (slots_of f) vxrs w.top (split_in (used_entries f vxrs) c.earlier c.later w.top c.split) in
        in_flat (slots_of f) xs i.0 w.top (records_in xs (head_of_index v) w.many linked (λ x m z. omega (arith, (w.rules x m).lands.start)) i.0 i.1) i.2

    pub reached_in : (r : ℕ) (d : Range) (m : ℕ) (w : Reached f v r d m) → w.slot ∈ lowest_entries f xs
    reached_in r d m w = in_flat (lowest f levels_below) (used_entries f xs) w.way.top w.slot (top_in r w.way) w.is_lowest

    pub levelled_in : (r : ℕ) (w : IndexWay f v r)
        → ◌∈◌ {X = Levelled} (record { slot = last_entry w.top w.below; level = 1 + length w.below }) (levelled_entries f xs)
    levelled_in r w =
        in_flat (levelled_under f 1 levels_below) (used_entries f xs) w.top (record { slot = last_entry w.top w.below; level = 1 + length w.below })
        (top_in r w) (last_levelled r levels_below 1 w.top w.below w.down w.few)

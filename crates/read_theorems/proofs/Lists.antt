-- The ways along the lists of an accepted file: they find the records that the rules of acceptance name, or come to a list's end.
-- Assumes nothing.
use mathlib.Core.Path.{◌≡◌, refl, ap}
use mathlib.Core.Logic.{◌≢◌, inl, inr}
use mathlib.Core.Bool.{Bool, true, false, cond}
use mathlib.Core.List.{List, [], ◌∷◌, ◌++◌}
use Prim.Native.Nat.{ℕ, zero, suc, ◌+◌, ◌≤◌}
use native.Mathlib.Nat.{add-zero}
use native.Mathlib.Omega.{arith}
use lib.ListN.{length}
use borrow.Author.Tests.{ne_eqb}
use Rattle.records.specs.Layout.{next_at}
use Rattle.lookup.specs.Lists.{met_at, Way, meets, wanted_at, over_of, last_link, sought}
use Rattle.lookup.specs.declared.refusals.Refusal.{Refusal}
use Rattle.lookup.specs.declared.lists.Wanted.{Wanted}
use Rattle.demands.specs.Acceptance.{◌∈◌, Each, Linked}
use Rattle.std.specs.Prelude.{Ok, Err}

module _ {X : Type 0} (f : List ℕ) (t : ℕ) (w : Wanted) (at : X → ℕ) where
  -- the record found at o is one of xs, the wanted one and the first; rest more may be met
  pub record FoundIn (i left : ℕ) (xs : List X) (o rest : ℕ) : Type 0 where
    pub earlier : List X
    pub here : X
    pub later : List X
    pub split : xs ≡ earlier ++ (here ∷ later)
    pub is : o ≡ at here
    pub wanted : wanted_at f w (i + length earlier) o ≡ true
    pub first : Each earlier (λ before x. wanted_at f w (i + length before) (at x) ≡ false)
    pub spent : left ≡ rest + suc (length earlier)

  -- none of xs is the wanted one
  pub record NoneIn (i : ℕ) (xs : List X) (v : Refusal) : Type 0 where
    pub number : v ≡ over_of t
    pub none : Each xs (λ earlier x. wanted_at f w (i + length earlier) (at x) ≡ false)

  abbrev pub OnList : ℕ → ℕ → List X → Way → Type 0
  OnList i left xs (Ok o) = FoundIn i left xs o.at o.left
  OnList i left xs (Err v) = NoneIn i xs v

  no_split : (earlier later : List X) (x : X) → [] ≡ earlier ++ (x ∷ later) → ⊥
  no_split [] later x e = let z : ◌≡◌ {A = ℕ} 0 1 = cc in absurd (omega arith)
  no_split (y ∷ ys) later x e = let z : ◌≡◌ {A = ℕ} 0 1 = cc in absurd (omega arith)

  none_more : (i : ℕ) (x : X) (xs : List X) → wanted_at f w i (at x) ≡ false → Each xs (λ earlier y. wanted_at f w (suc i + length earlier) (at y) ≡ false)
      → Each (x ∷ xs) (λ earlier y. wanted_at f w (i + length earlier) (at y) ≡ false)
  none_more i x xs h n [] later y e = let q : x ≡ y = cc in rw (add-zero i, ← q) h
  none_more i x xs h n (z ∷ earlier) later y e =
      let q : xs ≡ earlier ++ (y ∷ later) = cc in
      let s : i + suc (length earlier) ≡ suc i + length earlier = omega arith in
      rw s (n earlier later y q)

  pub list_way : (xs : List X) (p i left : ℕ) → Linked f at p xs → ((x : X) → x ∈ xs → (at x ≢ 0) × (meets f t (at x) ≡ true)) → length xs ≤ left
      → OnList i left xs (sought f t w p i left)
  unfolding sought last_link
  list_way [] p i zero l h n = rw l (record { number = refl; none = λ earlier later x e. absurd (no_split earlier later x e) })
  list_way [] p i (suc left) l h n = rw l (record { number = refl; none = λ earlier later x e. absurd (no_split earlier later x e) })
  list_way (x ∷ xs) p i zero l h n = absurd (omega arith)
  list_way (x ∷ xs) p i (suc left) l h n =
      let m = h x (inl refl) in
      rw (l.0, ne_eqb (at x) 0 m.0, m.1)
      (go (wanted_at f w i (at x)) refl (sought f t w (next_at (at x)) (suc i) left) (list_way xs (next_at (at x)) (suc i) left l.1 (λ y j. h y (inr j)) (omega arith)))
    where
      go : (b : Bool) → wanted_at f w i (at x) ≡ b → (s : Way) → OnList (suc i) left xs s → OnList i (suc left) (x ∷ xs) (cond b (met_at (at x) left) s)
      go true e s a = record { earlier = []; here = x; later = xs; split = refl; is = refl; wanted = rw (add-zero i) e; first = λ earlier later y q. absurd (no_split earlier later y q); spent = omega arith }
      go false e (Ok o) a = record {
        earlier = x ∷ a.earlier;
        here = a.here;
        later = a.later;
        split = ap (λ (l : List X). x ∷ l) a.split;
        is = a.is;
        wanted = let q : i + suc (length a.earlier) ≡ suc i + length a.earlier = omega arith in rw q a.wanted;
        first = none_more i x a.earlier e a.first;
        spent = omega (arith, a.spent);
      }
      go false e (Err v) a = record { number = a.number; none = none_more i x xs e a.none }

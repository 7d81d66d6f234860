-- What the last step of the walk finds among the starts: no record in use that is not claimed, or the first one. Assumes nothing.
use mathlib.Core.Path.{◌≡◌, refl, sym, ap, ◌∙◌}
use mathlib.Core.Bool.{Bool, true, false, cond, not, ◌&&◌, ◌||◌, true≢false, or-true}
use mathlib.Core.List.{List, [], ◌∷◌}
use Prim.Native.Nat.{ℕ, ◌+◌, ◌≤◌, ◌<◌}
use native.Mathlib.Omega.{arith}
use lib.Dec.{eqb}
use borrow.Author.Tests.{eqb-true, eq-eqb}
use Rattle.format.specs.Fields.{end_of}
use Rattle.records.specs.Rules.{size_at}
use Rattle.marks.specs.Marks.{found}
use Rattle.marks.specs.Marks.{Found}
use Rattle.faults.specs.Fault.{fault_at}
use Rattle.demands.proofs.Claims.{mem, in_use, Tiles, fits, first_in, Looks}

-- ---- a search
module _ (test : ℕ → Bool) (e : ℕ) where
  none_reads : (ss : List ℕ) → (first_in test ss e).number ≡ 0 → (s : ℕ) → mem s ss ≡ true → test s ≡ false
  none_reads [] z s i = absurd (true≢false (sym i))
  none_reads (x ∷ ss) z s i = go (test x) refl z (eqb s x) refl i (λ z i. none_reads ss z s i)
    where
      go : (b : Bool) → test x ≡ b → (cond b (found 13 x) (first_in test ss e)).number ≡ 0 → (q : Bool) → eqb s x ≡ q → (q || mem s ss) ≡ true
          → ((first_in test ss e).number ≡ 0 → mem s ss ≡ true → test s ≡ false) → test s ≡ false
      go true t z q d i ih = absurd (omega arith)
      go false t z true d i ih = rw (eqb-true s x d) t
      go false t z false d i ih = ih z i

  none_makes : (ss : List ℕ) → ((s : ℕ) → mem s ss ≡ true → test s ≡ false) → first_in test ss e ≡ found 0 e
  none_makes [] h = refl
  none_makes (x ∷ ss) h = rw (h x (rw (eq-eqb x x refl))) (none_makes ss (λ s i. h s (rw (i, or-true))))

-- the starts of a tiling lie from its own on
tiles_from : (f ss : List ℕ) (o s : ℕ) → Tiles f o ss → mem s ss ≡ true → o ≤ s
tiles_from f [] o s t i = absurd (true≢false (sym i))
tiles_from f (x ∷ ss) o s t i = go (eqb s x) refl i (tiles_from f ss (o + size_at f o) s t.2)
  where
    go : (q : Bool) → eqb s x ≡ q → (q || mem s ss) ≡ true → (mem s ss ≡ true → o + size_at f o ≤ s) → o ≤ s
    go true d i ih = let e : s ≡ o = eqb-true s x d ∙ t.0 in omega arith
    go false d i ih = let h = ih i in omega arith

-- p is the first of ss for which the test passes
pub record First (test : ℕ → Bool) (ss : List ℕ) (p : ℕ) : Type 0 where
  pub there : mem p ss ≡ true
  pub passes : test p ≡ true
  pub earlier : (s : ℕ) → mem s ss ≡ true → s < p → test s ≡ false

module _ (f : List ℕ) (test : ℕ → Bool) where
  first_reads : (ss : List ℕ) (o p : ℕ) → Tiles f o ss → (first_in test ss (end_of f)).number ≡ 13 → (first_in test ss (end_of f)).at ≡ p → First test ss p
  first_reads [] o p t z a = absurd (omega arith)
  first_reads (x ∷ ss) o p t z a = go (test x) refl z a (first_reads ss (o + size_at f o) p t.2)
    where
      go : (b : Bool) → test x ≡ b → (cond b (found 13 x) (first_in test ss (end_of f))).number ≡ 13 → (cond b (found 13 x) (first_in test ss (end_of f))).at ≡ p
          → ((first_in test ss (end_of f)).number ≡ 13 → (first_in test ss (end_of f)).at ≡ p → First test ss p) → First test (x ∷ ss) p
      go true u z a ih =
          record {
            there = rw (eq-eqb p x (sym a));
            passes = rw a at u;
            earlier = λ s i l. let h = tiles_from f (x ∷ ss) o s t i in let y = t.0 in absurd (omega arith);
          }
      go false u z a ih =
          let r = ih z a in
          record { there = rw (r.there, or-true); passes = r.passes; earlier = λ s i l. at s l (eqb s x) refl i (r.earlier s) }
        where
          at : (s : ℕ) → s < p → (q : Bool) → eqb s x ≡ q → (q || mem s ss) ≡ true → (mem s ss ≡ true → s < p → test s ≡ false) → test s ≡ false
          at s l true d i ih = rw (eqb-true s x d) u
          at s l false d i ih = ih i l

  first_makes : (ss : List ℕ) (o p : ℕ) → Tiles f o ss → First test ss p → first_in test ss (end_of f) ≡ found 13 p
  first_makes [] o p t r = absurd (true≢false (sym r.there))
  first_makes (x ∷ ss) o p t r = go (eqb p x) refl r.there (first_makes ss (o + size_at f o) p t.2)
    where
      go : (q : Bool) → eqb p x ≡ q → (q || mem p ss) ≡ true → (First test ss p → first_in test ss (end_of f) ≡ found 13 p)
          → cond (test x) (found 13 x) (first_in test ss (end_of f)) ≡ found 13 p
      go true d i ih = let e = eqb-true p x d in rw (← e, r.passes)
      go false d i ih =
          let g = fits f o t.1 in
          let w = g.wide in
          let h = tiles_from f ss (o + size_at f o) p t.2 i in
          let y = t.0 in
          rw (r.earlier x (rw (eq-eqb x x refl)) (omega arith)) (ih (record { there = i; passes = r.passes; earlier = λ s j l. r.earlier s (rw (j, or-true)) l }))

-- ---- the last step
module _ (f starts : List ℕ) (claimed : ℕ → Bool) where
  abbrev pub unclaimed : ℕ → Bool
  unclaimed s = in_use f s && not (claimed s)

  pub in_use_claimed : (s : ℕ) → unclaimed s ≡ false → in_use f s ≡ true → claimed s ≡ true
  in_use_claimed s e u = go (in_use f s) (claimed s) e u
    where
      go : (a b : Bool) → (a && not b) ≡ false → a ≡ true → b ≡ true
      go true true e u = refl
      go true false e u = sym e
      go false b e u = absurd (true≢false (sym u))

  pub claimed_closed : (s : ℕ) → (in_use f s ≡ true → claimed s ≡ true) → unclaimed s ≡ false
  claimed_closed s h = go (in_use f s) (claimed s) h
    where
      go : (a b : Bool) → (a ≡ true → b ≡ true) → (a && not b) ≡ false
      go true true h = refl
      go true false h = sym (h refl)
      go false b h = refl

  -- with 0 all that are in use are claimed
  pub all_reads : (p : ℕ) → Looks f starts 0 p claimed → (s : ℕ) → mem s starts ≡ true → in_use f s ≡ true → claimed s ≡ true
  all_reads p l s i u = in_use_claimed s (none_reads unclaimed (end_of f) starts l.0 s i) u

  pub all_makes : ((s : ℕ) → mem s starts ≡ true → in_use f s ≡ true → claimed s ≡ true) → Looks f starts 0 0 claimed
  unfolding fault_at
  all_makes h = let q = none_makes unclaimed (end_of f) starts (λ s i. claimed_closed s (h s i)) in (ap (λ (x : Found). x.number) q, refl)

  -- with 13 the location is the first that is in use and not claimed
  pub first_left : (p : ℕ) → Tiles f 8 starts → Looks f starts 13 p claimed → First unclaimed starts p
  unfolding fault_at
  first_left p t l = first_reads f unclaimed starts 8 p t l.0 l.1

  pub left_first : (p : ℕ) → Tiles f 8 starts → First unclaimed starts p → Looks f starts 13 p claimed
  unfolding fault_at
  left_first p t r = let q = first_makes f unclaimed starts 8 p t r in (ap (λ (x : Found). x.number) q, ap (λ (x : Found). x.at) q)

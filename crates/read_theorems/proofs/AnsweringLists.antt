-- What is made of a record of a list, by its place or the first that passes a test; kinds. Assumes nothing.
use mathlib.Core.Path.{◌≡◌, refl, sym, ap, ◌∙◌}
use mathlib.Core.Logic.{◌⊎◌, inl, inr}
use mathlib.Core.Bool.{Bool, true, false, cond, ◌||◌, true≢false}
use mathlib.Core.List.{List, [], ◌∷◌, ◌++◌}
use Prim.Native.Nat.{ℕ, zero, suc, ◌+◌, ◌≤◌}
use native.Mathlib.Omega.{arith}
use lib.IntN.{ℤ, pos, negsuc}
use lib.ListN.{length}
use lib.Signed.{le_z}
use borrow.Author.Tests.{eqb-true, le-leb}
use Rattle.format.specs.Fields.{eq_z, is_at, nat_or}
use Rattle.records.specs.Layout.{entry_num_at}
use Rattle.lookup.specs.Lists.{of_kinds, kind_among}
use Rattle.lookup.specs.declared.refusals.Refusal.{Refusal}
use Rattle.lookup.specs.declared.refusals.Refusal.TheVariants.{NoSuch, NoNumber}
use Rattle.lookup.specs.declared.lists.Wanted.{Wanted}
use Rattle.lookup.specs.declared.lists.Wanted.TheVariants.{Place, Number}
use Rattle.reader.specs.Questions.{Reply, Refused}
use Rattle.demands.specs.Acceptance.{◌∈◌, Each}
use Rattle.demands.proofs.Splits.{each_in}
use Rattle.read_theorems.specs.Answering.{at_place, first_that, numbered, of_kind, wanted_of}
use Rattle.read_theorems.proofs.Lists.{FoundIn, NoneIn}
use Rattle.read_theorems.proofs.Accepted.{none_placed}

module _ {X : Type 0} (other : Reply) (of : X → Reply) where
  -- ---- by place
  at_split : (earlier later : List X) (x : X) → at_place other (earlier ++ (x ∷ later)) (length earlier) of ≡ of x
  at_split [] later x = refl
  at_split (y ∷ earlier) later x = at_split earlier later x

  pub at_past : (xs : List X) (n : ℕ) → length xs ≤ n → at_place other xs n of ≡ other
  at_past [] n h = refl
  at_past (x ∷ xs) zero h = absurd (omega arith)
  at_past (x ∷ xs) (suc n) h = at_past xs n (omega arith)

  -- ---- by a test
  first_split : (test : X → Bool) (earlier later : List X) (x : X) → Each earlier (λ before y. test y ≡ false) → test x ≡ true
      → first_that other test (earlier ++ (x ∷ later)) of ≡ of x
  first_split test [] later x n h = rw h
  first_split test (y ∷ earlier) later x n h =
      rw (n [] earlier y refl) (first_split test earlier later x (λ before after z e. n (y ∷ before) after z (ap (λ (l : List X). y ∷ l) e)) h)

  pub first_none : (test : X → Bool) (xs : List X) → ((x : X) → x ∈ xs → test x ≡ false) → first_that other test xs of ≡ other
  first_none test [] n = refl
  first_none test (x ∷ xs) n = rw (n x (inl refl)) (first_none test xs (λ y m. n y (inr m)))

-- ---- a record that was found on a list, and a list without it
module _ {X : Type 0} (f : List ℕ) (t : ℕ) (at : X → ℕ) (left : ℕ) (xs : List X) where
  pub placed_found : (n o rest : ℕ) (a : FoundIn f t (Place n) at 0 left xs o rest) (other : Reply) (of : X → Reply) → at_place other xs n of ≡ of a.here
  placed_found n o rest a other of =
      let place : n ≡ length a.earlier = omega (arith, eqb-true (0 + length a.earlier) n a.wanted) in
      rw (a.split, place) (at_split other of a.earlier a.later a.here)

  pub numbered_found : (j : ℤ) (o rest : ℕ) → le_z (pos 0) j ≡ true → (a : FoundIn f t (Place (nat_or 0 j)) at 0 left xs o rest) (of : X → Reply)
      → numbered xs j of ≡ of a.here
  numbered_found (pos n) o rest h a of = placed_found n o rest a (Refused NoSuch) of
  numbered_found (negsuc n) o rest h a of = absurd (true≢false (sym h))

pub numbered_none : {X : Type 0} (xs : List X) (j : ℤ) → (le_z (pos 0) j ≡ false) ⊎ (length xs ≤ nat_or 0 j) → (of : X → Reply) → numbered xs j of ≡ Refused NoSuch
numbered_none xs (negsuc n) h of = refl
numbered_none xs (pos n) (inl h) of = absurd (true≢false (sym (le-leb 0 n (omega arith)) ∙ h))
numbered_none xs (pos n) (inr h) of = at_past (Refused NoSuch) of xs n h

-- ---- an entry that is wanted
module _ (f : List ℕ) (t left : ℕ) (es : List ℕ) (of : ℕ → Reply) where
  pub wanted_found : (w : Wanted) (o rest : ℕ) → FoundIn f t w (λ e. e) 0 left es o rest → wanted_of f es w of ≡ of o
  wanted_found (Place n) o rest a = rw a.is (placed_found f t (λ e. e) left es n o rest a (Refused NoNumber) of)
  wanted_found (Number n) o rest a =
      rw (a.split, a.is)
      (first_split (Refused NoNumber) of (λ e. is_at f (entry_num_at e) n) a.earlier a.later a.here a.first (rw (← a.is) a.wanted))

  pub wanted_none : (w : Wanted) (m : Refusal) → NoneIn f t w (λ e. e) 0 es m → wanted_of f es w of ≡ Refused NoNumber
  wanted_none (Place n) m a = at_past (Refused NoNumber) of es n (omega (arith, none_placed es 0 n (omega arith) a.none))
  wanted_none (Number n) m a =
      first_none (Refused NoNumber) of (λ e. is_at f (entry_num_at e) n) es (each_in (λ e. is_at f (entry_num_at e) n ≡ false) es a.none)

-- ---- one of two kinds
module _ (a b : ℕ) (k : ℤ) (of : ℕ → Reply) where
  pub kind_one : of_kinds a b k ≡ true → of_kind a b k of ≡ of (kind_among a b k)
  kind_one = go (eq_z k (pos a)) (eq_z k (pos b))
    where
      go : (x y : Bool) → (x || y) ≡ true → cond x (of a) (cond y (of b) (Refused NoSuch)) ≡ of (cond x a b)
      go true y e = refl
      go false true e = refl
      go false false e = absurd (true≢false (sym e))

  pub kind_none : of_kinds a b k ≡ false → of_kind a b k of ≡ Refused NoSuch
  kind_none = go (eq_z k (pos a)) (eq_z k (pos b))
    where
      go : (x y : Bool) → (x || y) ≡ false → cond x (of a) (cond y (of b) (Refused NoSuch)) ≡ Refused NoSuch
      go true y e = absurd (true≢false e)
      go false true e = absurd (true≢false e)
      go false false e = refl

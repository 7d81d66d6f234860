-- Kinds as they are asked for. Assumes nothing.
use mathlib.Core.Path.{◌≡◌, refl, sym, ◌∙◌}
use mathlib.Core.Bool.{Bool, true, false, cond, ◌||◌}
use mathlib.Core.List.{List}
use Prim.Native.Nat.{ℕ}
use borrow.Author.Tests.{eq-eqb, ne_eqb}
use lib.IntN.{ℤ, pos}
use mir.Syntax.{w64}
use mir.Val.{SFits, of_z}
use Rattle.format.specs.Fields.{eq_z}
use Rattle.format.proofs.SignedTests.{equal_is}
use Rattle.lookup.specs.Lists.{Way, opened, of_kinds, kind_among, kind_asked}
use Rattle.lookup.specs.declared.refusals.Refusal.{Refusal}
use Rattle.lookup.specs.declared.refusals.Refusal.TheVariants.{Breach, NoSuch}
use Rattle.std.specs.Prelude.{Result, Ok, Err}

-- a number asked for is n, or is not
module _ (x : ℤ) (n : ℕ) (f : SFits w64 x) (g : SFits w64 (pos n)) where
  pub is_kind : of_z w64 x ≡ of_z w64 (pos n) → eq_z x (pos n) ≡ true
  is_kind e = sym (equal_is w64 x (pos n) f g) ∙ eq-eqb _ _ e

  pub no_kind : (of_z w64 x ≡ of_z w64 (pos n) → ⊥) → eq_z x (pos n) ≡ false
  no_kind e = sym (equal_is w64 x (pos n) f g) ∙ ne_eqb _ _ e

-- a kind is one of the two exactly if it is the one taken for it
pub among_is : (a b : ℕ) (k : ℤ) → of_kinds a b k ≡ eq_z k (pos (kind_among a b k))
among_is a b k = go (eq_z k (pos a)) refl
  where
    go : (c : Bool) → eq_z k (pos a) ≡ c → (c || eq_z k (pos b)) ≡ eq_z k (pos (cond c a b))
    go true e = sym e
    go false e = refl

-- a question for a record of one of two kinds, by what is asked for
module _ (f : List ℕ) (a b : ℕ) (k : ℤ) (s : Way) where
  abbrev asked : Bool → Bool → Way
  asked o c = cond o (cond c s (Err NoSuch)) (Err Breach)

  abbrev kind : Bool → Bool → Result ℕ Refusal
  kind o c = cond o (cond c (Ok (kind_among a b k)) (Err NoSuch)) (Err Breach)

  pub asked_wrong : (r : Refusal) → Err r ≡ kind_asked f a b k → Err r ≡ asked (opened f) (of_kinds a b k)
  asked_wrong r e = go (opened f) (of_kinds a b k) e
    where
      go : (o c : Bool) → Err r ≡ kind o c → Err r ≡ asked o c
      go true true h = cc
      go true false h = cc
      go false c h = cc

  pub asked_right : (t : ℕ) → Ok t ≡ kind_asked f a b k → (t ≡ kind_among a b k) × (s ≡ asked (opened f) (of_kinds a b k))
  asked_right t e = go (opened f) (of_kinds a b k) e
    where
      go : (o c : Bool) → Ok t ≡ kind o c → (t ≡ kind_among a b k) × (s ≡ asked o c)
      go true true h = (cc, refl)
      go true false h = cc
      go false c h = cc

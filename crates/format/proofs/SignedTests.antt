-- Tests of signed numbers for equality, as the code makes them, once for every width: a signed local is read back from its bits at each use. Assumes nothing.
use mathlib.Core.Path.{◌≡◌, refl, sym, ap, ◌∙◌}
use mathlib.Core.Bool.{Bool, true, false, true≢false}
use borrow.Author.Tests.{eq-eqb, eqb-true}
use lib.Dec.{eqb}
use lib.IntN.{ℤ, pos, negsuc}
use mir.Syntax.{Width}
use mir.Val.{SFits, to_z, of_z}
use mir.Facts.{to_z-of_z}
use Rattle.format.specs.Fields.{eq_z}

pub eq_z_same : (x : ℤ) → eq_z x x ≡ true
eq_z_same (pos n) = eq-eqb n n refl
eq_z_same (negsuc n) = eq-eqb n n refl

pub eq_z_true : (x y : ℤ) → eq_z x y ≡ true → x ≡ y
eq_z_true (pos a) (pos b) e = ap pos (eqb-true a b e)
eq_z_true (pos a) (negsuc b) e = absurd (true≢false (sym e))
eq_z_true (negsuc a) (pos b) e = absurd (true≢false (sym e))
eq_z_true (negsuc a) (negsuc b) e = ap negsuc (eqb-true a b e)

module _ (w : Width) (x y : ℤ) (f : SFits w x) (g : SFits w y) where
  same_bits : of_z w x ≡ of_z w y → x ≡ y
  same_bits e = sym (to_z-of_z {w = w} f) ∙ ap (to_z w) e ∙ to_z-of_z {w = w} g

  pub equal_is : eqb (of_z w x) (of_z w y) ≡ eq_z x y
  equal_is = go (eqb (of_z w x) (of_z w y)) refl (eq_z x y) refl
    where
      go : (a : Bool) → eqb (of_z w x) (of_z w y) ≡ a → (b : Bool) → eq_z x y ≡ b → a ≡ b
      go true p true q = refl
      go false p false q = refl
      go true p false q = absurd (true≢false (sym (eq_z_same y) ∙ rw (same_bits (eqb-true _ _ p)) at q))
      go false p true q = absurd (true≢false (sym (eq-eqb _ _ (ap (of_z w) (eq_z_true x y q))) ∙ p))

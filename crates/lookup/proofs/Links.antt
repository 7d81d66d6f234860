-- One link of a list. Assumes nothing.
use mathlib.Core.Path.{◌≡◌, refl, ap, ◌∙◌}
use mathlib.Core.Bool.{true, false}
use mathlib.Core.List.{List}
use lib.ListN.{length}
use Prim.Native.Nat.{ℕ, suc, ◌+◌, ◌-◌, ◌≤◌, ◌<◌}
use native.Mathlib.Numerals.{add-one}
use native.Mathlib.Omega.{arith}
use borrow.Author.Tests.{eq-eqb, ne_eqb}
use lib.IntN.{ℤ, pos, negsuc}
use Rattle.format.specs.Fields.{link_at}
use Rattle.records.specs.Layout.{next_at}
use Rattle.format.specs.Numbers.{natural_of}
use Rattle.lookup.specs.Lists.{met_at, meets, wanted_at, over_of, last_link, sought, head_of_list, place_way}
use Rattle.lookup.specs.declared.refusals.Refusal.TheVariants.{Breach, NoSuch}
use Rattle.lookup.specs.declared.lists.Wanted.{Wanted}
use Rattle.lookup.specs.declared.lists.Wanted.TheVariants.{Place}
use Rattle.std.specs.Prelude.{Some, None, Err}

-- what was asked of the list from link on is still asked, from the link at p, at the place i, with left more records to be met
pub record StillSought (f : List ℕ) (t : ℕ) (w : Wanted) (link allowed p i left : ℕ) : Type 0 where
  pub lies : p + 4 ≤ length f
  pub same : sought f t w link 0 allowed ≡ sought f t w p i left

module _ {f : List ℕ} {t : ℕ} {w : Wanted} {link allowed p i left : ℕ} (q : StillSought f t w link allowed p i left) where
  -- the link at p names o, and a record may be met
  module _ {o : ℕ} (e : o ≡ link_at f p) (some : 0 < left) where
    one_link : sought f t w link 0 allowed ≡ sought f t w p i (suc (left - 1))
    one_link = let one : left ≡ suc (left - 1) = omega (arith, some) in q.same ∙ ap (sought f t w p i) one

    pub over_here : o ≡ 0 → sought f t w link 0 allowed ≡ Err (over_of t)
    unfolding sought
    over_here z = one_link ∙ simp (← e, eq-eqb o 0 z)

    module _ (n : o ≡ 0 → ⊥) where
      pub broken_here : meets f t o ≡ false → sought f t w link 0 allowed ≡ Err Breach
      unfolding sought
      broken_here z = one_link ∙ simp (← e, ne_eqb o 0 n, z)

      module _ (m : meets f t o ≡ true) where
        pub found_here : wanted_at f w i o ≡ true → sought f t w link 0 allowed ≡ met_at o (left - 1)
        unfolding sought
        found_here z = one_link ∙ simp (← e, ne_eqb o 0 n, m, z)

        pub goes_on : wanted_at f w i o ≡ false → sought f t w link 0 allowed ≡ sought f t w (next_at o) (i + 1) (left - 1)
        unfolding sought
        goes_on z = one_link ∙ simp (← e, ne_eqb o 0 n, m, z, add-one i)

  -- no more records may be met
  pub none_left : left ≡ 0 → sought f t w link 0 allowed ≡ Err (last_link f t p)
  unfolding sought
  none_left z = let last : sought f t w p i left ≡ Err (last_link f t p) = rw z in q.same ∙ last

-- a place below 0, and any other
pub place_below : (f : List ℕ) (t : ℕ) (n : ℤ) (left : ℕ) → natural_of n ≡ None → place_way f t n left ≡ Err NoSuch
unfolding place_way
place_below f t (pos n) left e = cc
place_below f t (negsuc n) left e = refl

pub place_at : (f : List ℕ) (t : ℕ) (n : ℤ) (left place : ℕ) → natural_of n ≡ Some place → place_way f t n left ≡ sought f t (Place place) (head_of_list f t) 0 left
unfolding place_way
place_at f t (pos n) left place e = let is : n ≡ place = cc in rw is
place_at f t (negsuc n) left place e = cc

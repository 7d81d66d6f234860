-- The walk's last step, one record after the other. Assumes nothing.
use mathlib.Core.Path.{◌≡◌, sym, ap, ◌∙◌}
use mathlib.Core.Bool.{true, false}
use mathlib.Core.List.{List}
use lib.ListN.{length}
use Prim.Native.Nat.{ℕ, suc, ◌+◌, ◌-◌, ◌≤◌, ◌<◌}
use native.Mathlib.Omega.{arith}
use borrow.Author.Tests.{eq-eqb, ne_eqb, lt-ltb, le-ltb}
use Rattle.format.specs.Fields.{end_of}
use Rattle.records.specs.Rules.{size_at}
use Rattle.marks.specs.Marks.{found, left_of, left_from, followed_at, unclaimed_at}

-- what is found of all records is what is found from o on, in n records
pub record StillLeft (f m : List ℕ) (o n : ℕ) : Type 0 where
  pub near : o ≤ length f + 8
  pub same : left_of f m ≡ left_from f m n o

module _ {f m : List ℕ} {o n : ℕ} (q : StillLeft f m o n) where
  module _ (some : 0 < n) {end : ℕ} (is : end ≡ end_of f) where
    more : left_of f m ≡ left_from f m (suc (n - 1)) o
    more = let up : n ≡ suc (n - 1) = omega (arith, some) in q.same ∙ ap (λ (k : ℕ). left_from f m k o) up

    pub at_end : o ≡ end → found 0 o ≡ left_of f m
    unfolding left_from
    at_end e = rw (more, eq-eqb o (end_of f) (e ∙ is))

    module _ (e : o ≡ end → ⊥) where
      pub past_end : end < o + 8 → found 20 o ≡ left_of f m
      unfolding left_from
      past_end k = rw (more, ne_eqb o (end_of f) (λ z. e (z ∙ sym is)), lt-ltb (end_of f) (o + 8) (rw is at k))

      module _ (k : o + 8 ≤ end) where
        pub not_claimed : unclaimed_at f m o ≡ true → found 13 o ≡ left_of f m
        unfolding left_from
        not_claimed u = rw (more, ne_eqb o (end_of f) (λ z. e (z ∙ sym is)), le-ltb (end_of f) (o + 8) (rw is at k), u)

        pub not_followed : unclaimed_at f m o ≡ false → followed_at f o ≡ false → found 20 o ≡ left_of f m
        unfolding left_from
        not_followed u l = rw (more, ne_eqb o (end_of f) (λ z. e (z ∙ sym is)), le-ltb (end_of f) (o + 8) (rw is at k), u, l)

        pub next_one : unclaimed_at f m o ≡ false → followed_at f o ≡ true → left_of f m ≡ left_from f m (n - 1) (o + size_at f o)
        unfolding left_from
        next_one u l = more ∙ rw (ne_eqb o (end_of f) (λ z. e (z ∙ sym is)), le-ltb (end_of f) (o + 8) (rw is at k), u, l)

  pub none_left : n ≤ 0 → found 20 o ≡ left_of f m
  unfolding left_from
  none_left h = let z : n ≡ 0 = omega arith in rw (q.same, z)

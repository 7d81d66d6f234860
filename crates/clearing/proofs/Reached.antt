-- Records one after the other: one more, one that is too short or does not fit, none left. Assumes nothing.
use mathlib.Core.Path.{◌≡◌, ap, ◌∙◌}
use mathlib.Core.List.{List}
use Prim.Native.Nat.{ℕ, suc, ◌+◌, ◌≤◌, ◌<◌}
use native.Mathlib.Omega.{arith}
use lib.ListN.{length, get_or, drop, drop_of_length-le}
use lib.Seq.{drop-cons}
use borrow.Author.Tests.{le-ltb, lt-ltb, le-leb, lt-leb}
use Rattle.marks.specs.Marks.{cleared}
use Rattle.clearing.specs.Clearing.{reached}

-- the marks m are m₀ with those before at cleared, and the sizes from i on lead on from at as all do from 0
pub record StillClears (m₀ sizes m : List ℕ) (at i : ℕ) : Type 0 where
  pub within : at ≤ length m₀
  pub long : length m ≡ length m₀
  pub marks : m ≡ cleared m₀ 0 at
  pub same : reached (length m₀) sizes 0 ≡ reached (length m₀) (drop i sizes) at

module _ {m₀ sizes m : List ℕ} {at i : ℕ} (q : StillClears m₀ sizes m at i) where
  module _ (h : i < length sizes) where
    pub too_short : get_or sizes i 0 < 8 → reached (length m₀) sizes 0 ≡ at
    unfolding reached
    too_short short = q.same ∙ rw (drop-cons sizes i 0 h, lt-ltb (get_or sizes i 0) 8 short)

    module _ (long : 8 ≤ get_or sizes i 0) where
      pub not_fitting : length m₀ < at + get_or sizes i 0 → reached (length m₀) sizes 0 ≡ at
      unfolding reached
      not_fitting passes =
          let n = get_or sizes i 0 in
          q.same ∙ rw (drop-cons sizes i 0 h, le-ltb n 8 long, lt-leb (at + n) (length m₀) passes)

      pub one_more_lem : at + get_or sizes i 0 ≤ length m₀ → reached (length m₀) sizes 0 ≡ reached (length m₀) (drop (i + 1) sizes) (at + get_or sizes i 0)
      unfolding reached
      one_more_lem fits =
          let n = get_or sizes i 0 in
          let up : suc i ≡ i + 1 = omega arith in
          q.same
          ∙ rw (drop-cons sizes i 0 h, le-ltb n 8 long, le-leb (at + n) (length m₀) fits) (ap (λ (k : ℕ). reached (length m₀) (drop k sizes) (at + n)) up)

  pub none_left : length sizes ≤ i → reached (length m₀) sizes 0 ≡ at
  unfolding reached
  none_left h = q.same ∙ rw (drop_of_length-le sizes h)

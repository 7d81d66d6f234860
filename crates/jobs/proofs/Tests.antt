-- Laws of the tests of a round. Assumes nothing.
use mathlib.Core.Path.{◌≡◌, refl, sym, ◌∙◌, ap}
use mathlib.Core.Bool.{Bool, true, false, ◌||◌, or-false, or_assoc, true≢false}
use mathlib.Core.List.{List, [], ◌∷◌}
use Prim.Native.Nat.{ℕ, zero, suc, ◌+◌, ◌≤◌, ◌<◌}
use native.Mathlib.Numerals.{add-one}
use native.Mathlib.Omega.{arith}
use lib.ListN.{length, get_or}
use borrow.Author.Count.{below_more}
use Rattle.std.specs.List.{list_any}
use Rattle.std.proofs.lemmas.Bool.Decides.{nat_tests}
use Rattle.format.proofs.Tests.{neither}
use Rattle.jobs.specs.declared.parts.Part.{Part}
use Rattle.jobs.specs.declared.parts.Parts.{Parts}
use Rattle.jobs.specs.Parts.{inside, outside, overlap, clash, any_to, any_outside, any_clash, refused_of}

-- ---- parts
pub outside_not : (p : Parts) (files marks : ℕ) → outside p files marks ≡ false
    → (p.file.from + p.file.len ≤ files) × (p.marks.from + p.marks.len ≤ marks)
unfolding outside inside
outside_not p files marks h = grind (arith, nat_tests)

pub overlap_swap : (p r : Part) → overlap p r ≡ overlap r p
unfolding overlap
overlap_swap p r = grind (arith, nat_tests)

-- ---- some number below n
pub none_more : (t : ℕ → Bool) (k : ℕ) → any_to t k ≡ false → t k ≡ false → any_to t (k + 1) ≡ false
unfolding any_to
none_more t k a b = rw (add-one, a, b)

pub none_at : (t : ℕ → Bool) (n k : ℕ) → any_to t n ≡ false → k < n → t k ≡ false
unfolding any_to
none_at t zero k h l = absurd (omega arith)
none_at t (suc n) k h l =
    let e = neither (any_to t n) (t n) h in
    below_more (λ i. t i ≡ false) n (λ i. none_at t n i e.0) e.1 k (omega arith)

pub found : (t : ℕ → Bool) (k n : ℕ) → t k ≡ true → k < n → any_to t n ≡ true
found t k n a l = by (any_to t n) refl
  where
    by : (b : Bool) → any_to t n ≡ b → b ≡ true
    by true e = refl
    by false e = absurd (true≢false (sym a ∙ none_at t n k e l))

pub any_same : (t u : ℕ → Bool) (n : ℕ) → ((k : ℕ) → k < n → t k ≡ u k) → any_to t n ≡ any_to u n
unfolding any_to
any_same t u zero h = refl
any_same t u (suc n) h = let a = any_same t u n (λ k l. h k (omega arith)) in let b = h n (omega arith) in rw (a, b)

-- the first of them first
first_of : (t : ℕ → Bool) (n : ℕ) → any_to t (suc n) ≡ t 0 || any_to (λ k. t (suc k)) n
unfolding any_to
first_of t zero = sym (or-false (t 0))
first_of t (suc n) = ap (λ (b : Bool). b || t (suc n)) (first_of t n) ∙ or_assoc (t 0) (any_to (λ k. t (suc k)) n) (t (suc n))

-- an element of a list
pub any_listed : {X : Type 0} (t : X → Bool) (d : X) (xs : List X) → list_any t xs ≡ any_to (λ k. t (get_or xs k d)) (length xs)
unfolding any_to
any_listed t d [] = refl
any_listed t d (x ∷ xs) = ap (λ (b : Bool). t x || b) (any_listed t d xs) ∙ sym (first_of (λ k. t (get_or (x ∷ xs) k d)) (length xs))

-- the test of a round hangs on the parts of the first n jobs alone
pub refused_by_parts : (p r : ℕ → Parts) (n files marks q : ℕ) → ((k : ℕ) → k < n → p k ≡ r k) → refused_of p n files marks q ≡ refused_of r n files marks q
unfolding refused_of
refused_by_parts p r n files marks q h =
    let a : any_outside p n files marks ≡ any_outside r n files marks = any_same _ _ n (λ k l. rw (h k l)) in
    let b : any_clash p n ≡ any_clash r n =
    any_same _ _ n (λ k l. any_same (λ i. clash (p i) (p k)) (λ i. clash (r i) (r k)) k (λ i g. rw (h i (omega arith), h k l))) in
    rw (a, b)

-- ---- a round that is not refused
module _ (p : ℕ → Parts) (n files marks q : ℕ) (runs : refused_of p n files marks q ≡ false) where
  pub runs_some : 0 < q
  unfolding refused_of
  runs_some = grind (arith, nat_tests)

  pub runs_inside : any_outside p n files marks ≡ false
  unfolding refused_of
  runs_inside = grind (arith, nat_tests)

  pub runs_apart : any_clash p n ≡ false
  unfolding refused_of
  runs_apart = grind (arith, nat_tests)

-- When a round is refused. Assumes nothing.
use mathlib.Core.Path.{◌≡◌, refl, sym, ◌∙◌, ap}
use mathlib.Core.Logic.{◌↔◌, ◌⊎◌, inl, inr}
use mathlib.Core.Bool.{Bool, true, false, true≢false}
use mathlib.Core.List.{List}
use Prim.Native.Nat.{ℕ, zero, suc, ◌+◌, ◌<◌, max}
use native.Mathlib.Omega.{arith}
use lib.ListN.{length}
use lib.IntN.{pos, negsuc}
use Rattle.std.proofs.lemmas.Bool.Decides.{nat_tests}
use Rattle.format.proofs.Tests.{either}
use Rattle.jobs.specs.declared.parts.Part.{Part}
use Rattle.jobs.specs.declared.parts.Parts.{Parts}
use Rattle.jobs.specs.Parts.{inside, outside, overlap, clash, clash_before, any_to, any_outside, any_clash, refused_of}
use Rattle.jobs.specs.Turns.{Window, parts_at, turns_to, Rounded, rounded}
use Rattle.jobs.proofs.Tests.{found}
use Rattle.jobs.proofs.Turning.{round_stops, round_goes}
use Rattle.round_theorems.specs.Rounds.{Share, round_from, SomeOutside, SomeOverlap, NotRefused, Refusals}

-- ---- tests
-- which number below n it is
some_at : (t : ℕ → Bool) (n : ℕ) → any_to t n ≡ true → (k : ℕ) × ((k < n) × (t k ≡ true))
unfolding any_to
some_at t zero h = absurd (true≢false (sym h))
some_at t (suc n) h = elim (either (any_to t n) (t n) h) [ inl e ↦ let s = some_at t n e in (s.0, (omega (arith, s.1.0), s.1.1)) | inr e ↦ (n, (omega arith, e)) ]

-- ---- parts
outside_is : (p : Parts) (files marks : ℕ) → (outside p files marks ≡ true) ↔ ((files < p.file.from + p.file.len) ⊎ (marks < p.marks.from + p.marks.len))
unfolding outside inside
outside_is p files marks = (λ h. grind (arith, nat_tests), λ h. grind (arith, nat_tests))

overlap_is : (p r : Part) → (overlap p r ≡ true) ↔ Share p r
unfolding overlap
overlap_is p r = (
  λ h. (max p.from r.from, grind (arith, nat_tests)),
  λ s. let a = s.1.0 in let b = s.1.1 in grind (arith, nat_tests),
)

clash_is : (p r : Parts) → (clash p r ≡ true) ↔ (Share p.file r.file ⊎ Share p.marks r.marks)
unfolding clash
clash_is p r = let a = overlap_is p.file r.file in let b = overlap_is p.marks r.marks in (λ h. grind (arith, nat_tests), λ s. grind (arith, nat_tests))

-- ---- the test of a round over all rows
module _ (f : List ℕ) (q : ℕ) (w : Window) where
  abbrev at : ℕ → Parts
  at k = parts_at w.rows k

  abbrev n : ℕ
  n = length w.rows

  abbrev pub tested : Bool
  tested = refused_of at n (length f) (length w.marks) q

  abbrev Cases : Type 0
  Cases = (q ≡ 0) ⊎ ((8 < length w.rows) ⊎ (SomeOutside f w ⊎ SomeOverlap w))

  outside_when : (any_outside at n (length f) (length w.marks) ≡ true) ↔ SomeOutside f w
  outside_when = (
    λ h. let s = some_at (λ k. outside (at k) (length f) (length w.marks)) n h in (s.0, (s.1.0, (outside_is (at s.0) (length f) (length w.marks)).0 s.1.1)),
    λ s. found (λ k. outside (at k) (length f) (length w.marks)) s.0 n ((outside_is (at s.0) (length f) (length w.marks)).1 s.1.1) s.1.0,
  )

  overlap_when : (any_clash at n ≡ true) ↔ SomeOverlap w
  overlap_when = (
    λ h.
        let s = some_at (clash_before at) n h in
        let t = some_at (λ i. clash (at i) (at s.0)) s.0 s.1.1 in
        (t.0, (s.0, (t.1.0, (s.1.0, (clash_is (at t.0) (at s.0)).0 t.1.1)))),
    λ s.
        let k = s.1.0 in
        found (clash_before at) k n (found (λ i. clash (at i) (at k)) s.0 k ((clash_is (at s.0) (at k)).1 s.1.1.1.1) s.1.1.0) s.1.1.1.0,
  )

  tested_when : (tested ≡ true) ↔ Cases
  unfolding refused_of
  tested_when = let a = outside_when in let b = overlap_when in (λ h. grind (arith, nat_tests), λ c. grind (arith, nat_tests))

  pub stops : tested ≡ true → round_from f q w ≡ rounded (pos 24) w
  stops e = sym (round_stops f w n q e)

  pub goes : tested ≡ false → round_from f q w ≡ rounded (negsuc 0) (turns_to f q w n)
  goes e = sym (round_goes f w n q (turns_to f q w n) e refl)

  -- a round that answers 24 was refused by the test
  by_test : (b : Bool) → tested ≡ b → (round_from f q w).answer ≡ pos 24 → b ≡ true
  by_test true e h = refl
  by_test false e h = let d : negsuc 0 ≡ pos 24 = sym (ap (λ (z : Rounded). z.answer) (goes e)) ∙ h in cc

  of_24 : (round_from f q w).answer ≡ pos 24 → tested ≡ true
  of_24 h = by_test tested refl h

  pub not_tested : NotRefused f q w → tested ≡ false
  not_tested runs = by tested refl
    where
      by : (b : Bool) → tested ≡ b → b ≡ false
      by true e = absurd (runs (ap (λ (z : Rounded). z.answer) (stops e)))
      by false e = refl

pub refusals : Refusals
refusals f q w = record {
  exactly = (λ h. (tested_when f q w).0 (of_24 f q w h), λ c. ap (λ (z : Rounded). z.answer) (stops f q w ((tested_when f q w).1 c)));
  unchanged = λ h. ap (λ (z : Rounded). z.window) (stops f q w (of_24 f q w h));
}

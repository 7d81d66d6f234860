-- A grant in two parts. Assumes nothing.
use mathlib.Core.Path.{◌≡◌, refl, sym, ap, ◌∙◌}
use mathlib.Core.Logic.{◌≢◌, inl, inr}
use mathlib.Core.Bool.{Bool, true, false, true≢false}
use mathlib.Core.List.{List}
use Prim.Native.Nat.{ℕ, ◌+◌}
use native.Mathlib.Nat.{zero-add}
use native.Mathlib.Omega.{arith}
use lib.ListN.{length}
use lib.Dec.{eqb}
use borrow.Author.Tests.{eqb-true, eqb-false}
use lib.IntN.{pos}
use Rattle.states.specs.declared.state.State.{State}
use Rattle.checker.specs.Step.{conf, Run, run_of}
use Rattle.states.specs.Stages.{finished, answer_of, location_in}
use Rattle.states.specs.Saved.{state_length, load}
use Rattle.checker.specs.Grant.{Granted, granted, worked, grant_by, grant_of}
use Rattle.checker.proofs.PlainRuns.{run_add}
use Rattle.states.proofs.Loads.{load_is}
use Rattle.checker.proofs.Cases.{Case, idles, refuses, works, case_of, right_length, wrong_length, idle}
use Rattle.checker.proofs.Sound.{Own, loaded_sound, sound_run, sound_works}
use Rattle.grants.specs.Promises.{and_then, SplitsAlike}

module _ (f m l : List ℕ) (a b : ℕ) (right : length l ≡ state_length) where
  abbrev s : State
  s = load l

  -- one that works goes on working
  whole : finished s.stage ≡ false → a ≢ 0 → Own f s.length m → grant_of f m l (a + b) ≡ worked (run_of f (conf s m) (a + b))
  whole o z w = right_length f m l (a + b) right ∙ go (case_of f m l (a + b) s)
    where
      go : Case f m l (a + b) s → grant_by f m l (a + b) s ≡ worked (run_of f (conf s m) (a + b))
      go (idles g (inl e)) = absurd (true≢false (sym e ∙ o))
      go (idles g (inr e)) = absurd (z (omega arith))
      go (refuses g o u) = absurd (true≢false (sym u ∙ w))
      go (works g o z w) = g

  -- and from where it is so does the other
  parts : Own f s.length m → and_then f (worked (run_of f (conf s m) a)) b ≡ worked (run_of f (conf s m) (a + b))
  parts w =
      let c = conf s m in
      let r = run_of f c a in
      let h = sound_run (Own f) f c (loaded_sound f s m (load_is l) w) a in
      rw (sound_works f r.at h b) (sym (ap (λ (r : Run). worked r) (run_add f c a b)))

  split_case : (grant_of f m l a).answer ≢ pos 21 → Case f m l a s → grant_of f m l (a + b) ≡ and_then f (grant_of f m l a) b
  split_case ok (idles g (inl e)) =
      let all : (n : ℕ) → grant_of f m l n ≡ granted (answer_of s.stage) (location_in s.stage) 0 l m = λ n. right_length f m l n right ∙ idle f m l n s (inl e) in
      rw (all a, all b) (all (a + b))
  split_case ok (idles g (inr e)) =
      let same : a + b ≡ b = omega arith in
      rw (right_length f m l a right ∙ g, zero-add, same)
  split_case ok (refuses g o w) = absurd (ok (ap (λ (r : Granted). r.answer) (right_length f m l a right ∙ g)))
  split_case ok (works g o z w) = whole o z w ∙ sym (rw (right_length f m l a right ∙ g) (parts w))

pub splits_alike : SplitsAlike
splits_alike f m l a b ok = go (eqb (length l) state_length) refl
  where
    go : (t : Bool) → eqb (length l) state_length ≡ t → grant_of f m l (a + b) ≡ and_then f (grant_of f m l a) b
    go true h = let e = eqb-true (length l) state_length h in split_case f m l a b e ok (case_of f m l a (load l))
    go false h = let e = eqb-false (length l) state_length h in rw (wrong_length f m l a e, wrong_length f m l b e) (wrong_length f m l (a + b) e)

-- What a grant leaves is told again by its state; and so for a row. Assumes nothing.
use mathlib.Core.Path.{◌≡◌, refl, sym, ◌∙◌, ap, subst}
use mathlib.Core.Logic.{◌≢◌, ◌⊎◌, inl, inr}
use mathlib.Core.Bool.{true, false, true≢false}
use mathlib.Core.List.{List}
use Prim.Native.Nat.{ℕ, zero, suc}
use lib.ListN.{length}
use lib.IntN.{pos, negsuc}
use Rattle.states.specs.declared.state.Stage.{Stage}
use Rattle.states.specs.declared.state.Stage.TheVariants.{Fresh, Sweep, Walking, Done, OutOfRange}
use Rattle.states.specs.declared.state.State.{State}
use Rattle.checker.specs.Step.{conf, run_of}
use Rattle.states.specs.Stages.{finished, answer_of, location_in}
use Rattle.states.specs.Saved.{state_length, save, load}
use Rattle.states.specs.Bounds.{Loaded}
use Rattle.checker.specs.Grant.{Granted, grant_by, grant_of}
use Rattle.states.proofs.Loads.{load_is, load_save, length_save, not_21}
use Rattle.checker.proofs.Granting.{running_location}
use Rattle.checker.proofs.PlainRuns.{made_all}
use Rattle.checker.proofs.Cases.{Case, idles, refuses, works, case_of, right_length}
use Rattle.checker.proofs.Sound.{Own as OwnFile, loaded_sound, sound_run, sound_loaded}
use Rattle.grants.specs.Promises.{comes_back}
use Rattle.grants.proofs.Any.{every_grant}
use Rattle.round_theorems.specs.Rounds.{rounds_of, Own, own_of, grant_alone, grants_alone, AnyJobs}
use Rattle.round_theorems.proofs.Rounds.{alone_is}

-- a stage is finished, or it answers -1
ends_or_runs : (g : Stage) → ((answer_of g ≢ negsuc 0) × (finished g ≡ true)) ⊎ ((answer_of g ≡ negsuc 0) × (finished g ≡ false))
ends_or_runs Fresh = inr (refl, refl)
ends_or_runs (Sweep o) = inr (refl, refl)
ends_or_runs (Walking w up) = inr (refl, refl)
ends_or_runs (Done v p) = inl (λ d. cc, refl)
ends_or_runs OutOfRange = inr (refl, refl)

has_verdict : (g : Stage) → answer_of g ≢ negsuc 0 → finished g ≡ true
has_verdict g e = elim (ends_or_runs g) [ inl a ↦ a.1 | inr a ↦ absurd (e a.0) ]

pub not_running : (g : Stage) → finished g ≡ true → answer_of g ≢ negsuc 0
not_running g e = elim (ends_or_runs g) [ inl a ↦ a.0 | inr a ↦ absurd (true≢false (sym e ∙ a.1)) ]

is_running : (g : Stage) → answer_of g ≡ negsuc 0 → finished g ≡ false
is_running g e = elim (ends_or_runs g) [ inl a ↦ absurd (a.0 e) | inr a ↦ a.1 ]

not_21_running : pos 21 ≢ negsuc 0
not_21_running e = cc

-- the state that a grant of n leaves has its length, its location, and its answer unless that is 21; with -1 it made n steps
record Told (n : ℕ) (g : Granted) : Type 0 where
  count : length g.state ≡ state_length
  location : location_in (load g.state).stage ≡ g.location
  answer : g.answer ≢ pos 21 → answer_of (load g.state).stage ≡ g.answer
  ended : finished (load g.state).stage ≡ true → (g.answer ≢ negsuc 0) × (g.answer ≢ pos 21)
  spent : g.answer ≡ negsuc 0 → g.steps ≡ n

module _ (f m l : List ℕ) (n : ℕ) (right : length l ≡ state_length) where
  abbrev s : State
  s = load l

  at_loaded : OwnFile f s.length m → Loaded (run_of f (conf s m) n).at.state.length (run_of f (conf s m) n).at.state.stage
  at_loaded w = sound_loaded (OwnFile f) f (run_of f (conf s m) n).at (sound_run (OwnFile f) f (conf s m) (loaded_sound f s m (load_is l) w) n)

  at_run : OwnFile f s.length m → load (save (run_of f (conf s m) n).at.state) ≡ (run_of f (conf s m) n).at.state
  at_run w = load_save (run_of f (conf s m) n).at.state (at_loaded w)

  -- a finished stage that loads answers neither -1 nor 21
  neither : (t : State) → Loaded t.length t.stage → finished t.stage ≡ true → (answer_of t.stage ≢ negsuc 0) × (answer_of t.stage ≢ pos 21)
  neither t h e = (not_running t.stage e, not_21 t.length t.stage h)

  by_case : Case f m l n s → Told n (grant_by f m l n s)
  by_case (idles e c) = subst (Told n) (sym e) (record { count = right; location = refl; answer = λ no_21. refl; ended = neither s (load_is l); spent = none_left c })
    where
      none_left : (finished s.stage ≡ true) ⊎ (n ≡ 0) → answer_of s.stage ≡ negsuc 0 → 0 ≡ n
      none_left (inl d) a = absurd (not_running s.stage d a)
      none_left (inr d) a = sym d
  by_case (refuses e o w) =
      subst (Told n) (sym e) (record {
        count = right;
        location = running_location s.stage o;
        answer = λ no_21. absurd (no_21 refl);
        ended = λ e. absurd (true≢false (sym e ∙ o));
        spent = λ a. absurd (not_21_running a);
      })
  by_case (works e o z w) =
      let d = at_run w in
      subst (Told n) (sym e) (record {
        count = length_save (run_of f (conf s m) n).at.state;
        location = ap (λ (t : State). location_in t.stage) d;
        answer = λ no_21. ap (λ (t : State). answer_of t.stage) d;
        ended = λ e. neither (run_of f (conf s m) n).at.state (at_loaded w) (sym (ap (λ (t : State). finished t.stage) d) ∙ e);
        spent = λ a. made_all f (conf s m) n (is_running (run_of f (conf s m) n).at.state.stage a);
      })

  told : Told n (grant_of f m l n)
  told = subst (Told n) (sym (right_length f m l n right)) (by_case (case_of f m l n s))

-- ---- a job by itself
module _ (q : ℕ) (o : Own) (right : length o.state ≡ state_length) where
  abbrev at : ℕ → Own
  at r = grants_alone q o r

  counts : (r : ℕ) → length (at r).state ≡ state_length
  unfolding grants_alone
  counts zero = right
  counts (suc r) = (told (at r).file (at r).marks (at r).state q (counts r)).count

  told_at : (r : ℕ) → Told q (grant_of (at r).file (at r).marks (at r).state q)
  told_at r = told (at r).file (at r).marks (at r).state q (counts r)

  number_at : (r : ℕ) → comes_back (at (suc r)).answer ≡ true
  unfolding grants_alone
  number_at r = (every_grant (at r).file (at r).marks (at r).state q).number

  verdict_at : (r : ℕ) → (at (suc r)).answer ≢ negsuc 0 → (at (suc r)).answer ≢ pos 21
      → (finished (load (at (suc r)).state).stage ≡ true) × (answer_of (load (at (suc r)).state).stage ≡ (at (suc r)).answer)
  unfolding grants_alone
  verdict_at r running other =
      let e = (told_at r).answer other in
      (has_verdict (load (at (suc r)).state).stage (λ d. running (sym e ∙ d)), e)

  ended_at : (r : ℕ) → finished (load (at (suc r)).state).stage ≡ true → ((at (suc r)).answer ≢ negsuc 0) × ((at (suc r)).answer ≢ pos 21)
  unfolding grants_alone
  ended_at r e = (told_at r).ended e

  spent_at : (r : ℕ) → (at (suc r)).answer ≡ negsuc 0 → (grant_of (at r).file (at r).marks (at r).state q).steps ≡ q
  unfolding grants_alone
  spent_at r e = (told_at r).spent e

  sent_away_at : (r : ℕ) → (at (suc r)).answer ≡ pos 21 → (grant_of (at r).file (at r).marks (at r).state q).steps ≡ 0
  unfolding grants_alone
  sent_away_at r e = ap (λ (g : Granted). g.steps) ((every_grant (at r).file (at r).marks (at r).state q).turned_away e)

  location_at : (r : ℕ) (x y : List ℕ) → (grant_of x y (at (suc r)).state 0).location ≡ (grant_of (at r).file (at r).marks (at r).state q).location
  unfolding grants_alone
  location_at r x y = ap (λ (g : Granted). g.location) ((every_grant x y (at (suc r)).state 0).of_none (counts (suc r)) refl) ∙ (told_at r).location

  repeats_at : finished (load o.state).stage ≡ true → (r : ℕ) → at (suc r) ≡ record { file = o.file; marks = o.marks; state = o.state; answer = answer_of (load o.state).stage }
  unfolding grants_alone
  repeats_at e r = by r
    where
      left : Granted → Own
      left g = record { file = o.file; marks = g.marks; state = g.state; answer = g.answer }

      once : left (grant_of o.file o.marks o.state q) ≡ record { file = o.file; marks = o.marks; state = o.state; answer = answer_of (load o.state).stage }
      once = ap left ((every_grant o.file o.marks o.state q).repeats right e)

      by : (n : ℕ) → grant_alone q (at n) ≡ record { file = o.file; marks = o.marks; state = o.state; answer = answer_of (load o.state).stage }
      by zero = once
      by (suc n) = ap (grant_alone q) (by n) ∙ once

pub any_jobs : AnyJobs
any_jobs f q w k runs h right = record {
  number = λ r. ap (λ (z : Own). comes_back z.answer) (is (suc r)) ∙ number_at q o right r;
  repeats = λ r e. is (suc r) ∙ repeats_at q o right e r;
  verdict = λ r running other. subst (λ (z : Own). Verdict z) (sym (is (suc r))) (verdict_at q o right r) running other;
  unfinished = λ r e. subst (λ (z : Own). Ended z) (sym (is (suc r))) (ended_at q o right r) e;
  spent = λ r e. ap (λ (z : Own). (grant_of z.file z.marks z.state q).steps) (is r) ∙ spent_at q o right r (sym (ap (λ (z : Own). z.answer) (is (suc r))) ∙ e);
  sent_away = λ r e. ap (λ (z : Own). (grant_of z.file z.marks z.state q).steps) (is r) ∙ sent_away_at q o right r (sym (ap (λ (z : Own). z.answer) (is (suc r))) ∙ e);
  location = λ r x y. ap (λ (z : Own). (grant_of x y z.state 0).location) (is (suc r)) ∙ location_at q o right r x y ∙ sym (ap (λ (z : Own). (grant_of z.file z.marks z.state q).location) (is r));
}
  where
    o : Own
    o = own_of f w k

    is : (r : ℕ) → own_of f (rounds_of f q w r) k ≡ grants_alone q o r
    is r = alone_is f q w runs k r h

    Verdict : Own → Type 0
    Verdict z = z.answer ≢ negsuc 0 → z.answer ≢ pos 21 → (finished (load z.state).stage ≡ true) × (answer_of (load z.state).stage ≡ z.answer)

    Ended : Own → Type 0
    Ended z = finished (load z.state).stage ≡ true → (z.answer ≢ negsuc 0) × (z.answer ≢ pos 21)

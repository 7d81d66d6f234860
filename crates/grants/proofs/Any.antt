-- A grant on any state. Assumes nothing.
use mathlib.Core.Path.{◌≡◌, refl, ap, ◌∙◌}
use mathlib.Core.Logic.{◌⊎◌, inl, inr}
use mathlib.Core.Bool.{Bool, true, false}
use mathlib.Core.List.{List}
use Prim.Native.Nat.{ℕ, ◌+◌, ◌≤◌, ◌<◌}
use native.Mathlib.Omega.{arith}
use lib.ListN.{length, get_or, set, length-set}
use lib.Seq.{get_or-set_other}
use lib.Dec.{eqb}
use borrow.Author.Tests.{eqb-true, eqb-false}
use lib.IntN.{ℤ, pos}
use Rattle.records.specs.Rules.{size_at}
use Rattle.marks.specs.Marks.{start_at}
use Rattle.walk.specs.Levels.{pushed}
use Rattle.walk.specs.Walk.{walk_step}
use Rattle.walk.specs.declared.positions.Levels.{Levels}
use Rattle.walk.specs.declared.positions.Step as T
use Rattle.walk.specs.declared.positions.Step.TheVariants.{Over, End, Take, Down, Up}
use Rattle.records.specs.Opening.{file_end, body_of}
use Rattle.records.proofs.Bodies.{body_length, body_le}
use Rattle.states.specs.declared.state.Stage.{Stage}
use Rattle.states.specs.declared.state.Stage.TheVariants.{Fresh, Sweep, Walking, Done, OutOfRange}
use Rattle.states.specs.declared.state.State.{State}
use Rattle.checker.specs.Step.{Conf, conf, walking, step_of, run_of}
use Rattle.states.specs.Stages.{done, finished, answer_of, location_in}
use Rattle.states.specs.Saved.{state_length, save, load}
use Rattle.checker.specs.Grant.{Granted, granted, grant_by, grant_of}
use Rattle.checker.proofs.Verdicts.{verdict_0}
use Rattle.checker.proofs.Outcomes.{StepGoes, Goes, step_by_lem}
use Rattle.checker.proofs.Passed.{tiled, started, marked_length, marked_other}
use Rattle.checker.proofs.PlainRuns.{run_keeps, made_le}
use Rattle.states.proofs.Loads.{load_is, load_save, length_save, not_21, accepted_is}
use Rattle.checker.proofs.Sound.{SoundBy, Sound, Own, sound_step, sound_run, sound_loaded, loaded_sound}
use Rattle.checker.proofs.Cases.{Case, idles, refuses, works, case_of, right_length, wrong_length, idle}
use Rattle.faults.proofs.Locations.{saved_none}
use Rattle.grants.specs.Promises.{comes_back, has_location, EveryGrant}
use Rattle.grants.proofs.Answers.{answer_comes, no_location}

-- ---- marks outside the records of the file are kept
module _ (f m : List ℕ) (i : ℕ) (out : (i < 8) ⊎ (file_end f ≤ i)) where
  record Same (c : Conf) : Type 0 where
    count : length c.marks ≡ length m
    mark : get_or c.marks i 0 ≡ get_or m i 0

  abbrev Kept : Conf → Type 0
  Kept c = Sound (Own f) f c × Same c

  same_step : (c : Conf) → finished c.state.stage ≡ false → Kept c → Kept (step_of f c)
  same_step c o k = (
    sound_step (Own f) f c o k.0,
    step_by_lem Same f m' n (λ v p t. record { count = h.count; mark = h.mark }) c.state.stage o (goes c.state.stage k.0.sound),
  )
    where
      h : Same c
      h = k.1

      b : List ℕ
      b = body_of f

      ends : length b ≡ file_end f
      ends = body_length f

      m' : List ℕ
      m' = c.marks

      n : ℕ
      n = c.state.length

      apart : (t : ℕ) → (i < 8) ⊎ (file_end f ≤ i) → 8 ≤ t → t < length b → i ≡ t → ⊥
      apart t (inl a) h c e = omega arith
      apart t (inr a) h c e = omega (arith, ends)

      claimed : (t : ℕ) (s : State) → start_at b m' t ≡ true → Same (conf s (set m' t 2))
      claimed t s e =
          let a = started b m' t e in
          record { count = length-set m' t 2 ∙ h.count; mark = get_or-set_other m' t i 2 0 (λ e. apart t out a.0 a.1 e) ∙ h.mark }

      step : (up : Levels) (t : T.Step) → StepGoes Same b m' n up t
      step up (Over w v) = record { count = h.count; mark = h.mark }
      step up (End v) = tt
      step up (Take w early t typed late) = λ e. claimed t (walking n w up) e.start
      step up (Down w t typed l) = λ e. claimed t (walking n w (pushed l up)) e.start
      step up (Up w) = record { count = h.count; mark = h.mark }

      aside : (o s : ℕ) → 8 ≤ o → o + s ≤ length b → (i < 8) ⊎ (file_end f ≤ i) → (i < o) ⊎ (o + s ≤ i)
      aside o s a d (inl h) = inl (omega arith)
      aside o s a d (inr h) = inr (omega (arith, ends))

      goes : (s : Stage) → SoundBy (Own f) f n m' s → Goes Same f m' n s
      goes Fresh g = λ e. record { count = h.count; mark = h.mark }
      goes (Sweep o) g = λ e.
          let t = tiled b o e in
          let a = g.0 in
          let less = body_le f in
          let fits : o + size_at b o ≤ length m' = omega arith in
          record {
            count = marked_length m' o (size_at b o) fits ∙ h.count;
            mark = marked_other m' o (size_at b o) fits (omega arith) i (aside o (size_at b o) g.1 t.1 out) ∙ h.mark;
          }
      goes (Walking w up) g = step up (walk_step b up w)
      goes (Done v p) g = tt
      goes OutOfRange g = tt

  same_run : (s : State) → Sound (Own f) f (conf s m) → (k : ℕ) → Same (run_of f (conf s m) k).at
  same_run s h k = (run_keeps f Kept same_step (conf s m) (h, record { count = refl; mark = refl }) k).1

-- ---- all of it
module _ (f m l : List ℕ) (n : ℕ) where
  record Fine (r : Granted) : Type 0 where
    few : r.steps ≤ n
    number : comes_back r.answer ≡ true
    placed : has_location r.answer ≡ false → r.location ≡ 0
    accepted : r.answer ≡ pos 0 → (length r.state ≡ state_length) × (load r.state ≡ done 0 0)
    away : r.answer ≡ pos 21 → r ≡ granted (pos 21) 0 0 l m
    count : length r.marks ≡ length m
    mark : (i : ℕ) → (i < 8) ⊎ (file_end f ≤ i) → get_or r.marks i 0 ≡ get_or m i 0

  -- a grant that changes nothing
  fine_still : (a : ℤ) (p : ℕ) → comes_back a ≡ true → (has_location a ≡ false → p ≡ 0) → (a ≡ pos 0 → (length l ≡ state_length) × (load l ≡ done 0 0))
      → Fine (granted a p 0 l m)
  fine_still a p t k h = record { few = omega arith; number = t; placed = k; accepted = h; away = λ e. turned e; count = refl; mark = λ i o. refl }
    where
      turned : a ≡ pos 21 → granted a p 0 l m ≡ granted (pos 21) 0 0 l m
      turned e = let y : p ≡ 0 = k (rw e) in rw (e, y)

  fine_case : length l ≡ state_length → Case f m l n (load l) → Fine (grant_by f m l n (load l))
  fine_case e (idles g w) =
      rw g (fine_still (answer_of (load l).stage) (location_in (load l).stage) (answer_comes (load l).length (load l).stage (load_is l)) (no_location (load l).length (load l).stage (load_is l)) (λ a. (e, accepted_is (load l) (load_is l) a)))
  fine_case e (refuses g o w) = rw g (fine_still (pos 21) 0 refl (λ e. refl) (λ a. let z : ◌≡◌ {A = ℕ} 21 0 = cc in absurd (omega arith)))
  fine_case e (works g o z w) =
      let s = load l in
      let r = run_of f (conf s m) n in
      let h = loaded_sound f s m (load_is l) w in
      let d = sound_loaded (Own f) f r.at (sound_run (Own f) f (conf s m) h n) in
      rw g (record {
        few = made_le f (conf s m) n;
        number = answer_comes r.at.state.length r.at.state.stage d;
        placed = no_location r.at.state.length r.at.state.stage d;
        accepted = λ a. (
          length_save r.at.state,
          ap (λ (s : State). load (save s)) (accepted_is r.at.state d a) ∙ load_save (done 0 0) (refl, record { verdict = verdict_0; located = saved_none 0 }),
        );
        away = λ a. absurd (not_21 r.at.state.length r.at.state.stage d a);
        count = (same_run f m 0 (inl (omega arith)) s h n).count;
        mark = λ i out. (same_run f m i out s h n).mark;
      })

  fine_grant : Fine (grant_of f m l n)
  fine_grant = go (eqb (length l) state_length) refl
    where
      go : (b : Bool) → eqb (length l) state_length ≡ b → Fine (grant_of f m l n)
      go true h = let e = eqb-true (length l) state_length h in rw (right_length f m l n e) (fine_case e (case_of f m l n (load l)))
      go false h =
          rw (wrong_length f m l n (eqb-false (length l) state_length h))
          (fine_still (pos 20) 0 refl (λ e. refl) (λ a. let z : ◌≡◌ {A = ℕ} 20 0 = cc in absurd (omega arith)))

pub every_grant : EveryGrant
every_grant f m l n =
    let g = fine_grant f m l n in
    record {
      at_most = g.few;
      number = g.number;
      no_location = g.placed;
      other_length = wrong_length f m l n;
      of_none = λ e z. right_length f m l n e ∙ idle f m l n (load l) (inr z);
      repeats = λ e o. right_length f m l n e ∙ idle f m l n (load l) (inl o);
      turned_away = g.away;
      marks_count = g.count;
      marks_low = λ i h. g.mark i (inl (omega arith));
      marks_beyond = λ i h. g.mark i (inr (omega arith));
    }

-- whatever state is lent, a grant that answers 0 leaves one finished as accepted
pub accepted_is_finished : (f m l : List ℕ) (n : ℕ)
    → (grant_of f m l n).answer ≡ pos 0
    → (length (grant_of f m l n).state ≡ state_length) × (load (grant_of f m l n).state ≡ done 0 0)
accepted_is_finished f m l n = (fine_grant f m l n).accepted

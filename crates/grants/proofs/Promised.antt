-- Demand 3, for every file, marks and list of grants. Assumes nothing.
use mathlib.Core.Path.{◌≡◌, refl, sym, ap, ◌∙◌}
use mathlib.Core.Logic.{◌↔◌, ◌⊎◌, inl, inr}
use mathlib.Core.Bool.{true, false, true≢false}
use mathlib.Core.Option.{Option, none, some, none-ne-some}
use mathlib.Core.List.{List, [], ◌∷◌, ◌++◌}
use Prim.Native.Nat.{ℕ, ◌+◌, min}
use native.Mathlib.Nat.{add-zero}
use native.Mathlib.Omega.{arith}
use lib.IntN.{ℤ, pos}
use Rattle.states.specs.declared.state.State.{State}
use Rattle.checker.specs.Step.{Conf, conf, Run, run_of, plain_run}
use Rattle.states.specs.Stages.{fresh, finished, answer_of, location_in}
use Rattle.states.specs.Saved.{save, load}
use Rattle.checker.specs.Grant.{Granted, granted, worked, grant_by, grant_of}
use Rattle.checker.proofs.PlainRuns.{after, run_add, run_none, run_over, run_made, made_min, made_le}
use Rattle.states.proofs.Loads.{load_save, length_save, not_21, done_0}
use Rattle.grants.proofs.Answers.{not_refused}
use Rattle.checker.proofs.Cases.{Case, idles, refuses, works, case_of, right_length}
use Rattle.checker.proofs.Sound.{Sound, Own, sound_run, sound_loaded, sound_fresh, loaded_sound, sound_works}
use Rattle.grants.proofs.Any.{accepted_is_finished}
use Rattle.grants.specs.Lists.{Grant, Played, begun, lent_file, lent_marks, kept_marks, next_of, joined, play_from, play, FairNext, FairFrom, Fair}
use Rattle.grants.specs.Promises.{step_limit, InTime, run_length, Promise, Demand3}
use Rattle.states.specs.Bounds.{Loaded}

kept_same : (o : Option (List ℕ × List ℕ)) (m : List ℕ) → kept_marks m o (lent_marks m o) ≡ m
kept_same none m = refl
kept_same (some o) m = refl

module _ (f m : List ℕ) where
  abbrev P : ℕ → Run
  P k = plain_run f m k

  -- where the check is, if the grants so far hold k steps
  abbrev state_at : ℕ → State
  state_at k = (P k).at.state

  abbrev marks_at : ℕ → List ℕ
  marks_at k = (P k).at.marks

  abbrev answer_at : ℕ → ℤ
  answer_at k = answer_of (state_at k).stage

  abbrev location_at : ℕ → ℕ
  location_at k = location_in (state_at k).stage

  record Inv (q : Played) : Type 0 where
    i_steps : q.steps ≡ (P q.held).made
    i_state : q.state ≡ save (state_at q.held)
    i_marks : q.marks ≡ marks_at q.held
    i_answer : q.answer ≡ answer_at q.held
    i_location : q.location ≡ location_at q.held

  -- all along the plain run
  sound_at : (k : ℕ) → Sound (Own f) f (P k).at
  sound_at k = sound_run (Own f) f (conf fresh m) (sound_fresh (Own f) f m) k

  loaded_at : (k : ℕ) → Loaded (state_at k).length (state_at k).stage
  loaded_at k = sound_loaded (Own f) f (P k).at (sound_at k)

  loads : (k : ℕ) → load (save (state_at k)) ≡ state_at k
  loads k = load_save (state_at k) (loaded_at k)

  -- ---- what the next grant of a fair list comes to
  data Outcome (q : Played) (g : Grant) : Type 0 where
    went_on : g.other ≡ none → next_of f q g ≡ worked (run_of f (P q.held).at g.number) → Outcome q g
    idled : next_of f q g ≡ granted (answer_of (state_at q.held).stage) (location_in (state_at q.held).stage) 0 q.state (lent_marks q.marks g.other)
        → run_of f (P q.held).at g.number ≡ record { at = (P q.held).at; made = 0 } → Outcome q g
    sent : next_of f q g ≡ granted (pos 21) 0 0 q.state (lent_marks q.marks g.other) → finished (state_at q.held).stage ≡ false → Outcome q g

  next_at : (q : Played) (g : Grant) → Inv q
      → next_of f q g ≡ grant_by (lent_file f g.other) (lent_marks q.marks g.other) q.state g.number (state_at q.held)
  unfolding next_of
  next_at q g i =
      let f' = lent_file f g.other in
      let m' = lent_marks q.marks g.other in
      let l = save (state_at q.held) in
      rw i.i_state
      (right_length f' m' l g.number (length_save (state_at q.held))
      ∙ ap (λ (s : State). grant_by f' m' l g.number s) (loads q.held))

  -- one lent the list's own file and marks
  next_own : (q : Played) (g : Grant) → Inv q → g.other ≡ none → next_of f q g ≡ worked (run_of f (P q.held).at g.number)
  unfolding next_of
  next_own q g i e = rw (e, i.i_state, i.i_marks) (sound_works f (P q.held).at (sound_at q.held) g.number)

  outcome : (q : Played) (g : Grant) → Inv q → FairNext f q g → Outcome q g
  outcome q g i (inl e) = went_on e (next_own q g i e)
  outcome q g i (inr why) = go (case_of f' m' q.state g.number s) why
    where
      f' : List ℕ
      f' = lent_file f g.other

      m' : List ℕ
      m' = lent_marks q.marks g.other

      s : State
      s = state_at q.held

      go : Case f' m' q.state g.number s
          → (g.number ≡ 0) ⊎ ((finished (load q.state).stage ≡ true) ⊎ ((next_of f q g).answer ≡ pos 21))
          → Outcome q g
      go (idles h (inl e)) w = idled (next_at q g i ∙ h) (run_over f (P q.held).at g.number e)
      go (idles h (inr e)) w = idled (next_at q g i ∙ h) (run_none f (P q.held).at g.number e)
      go (refuses h o u) w = sent (next_at q g i ∙ h) o
      go (works h o z u) (inl e) = absurd (z e)
      go (works h o z u) (inr (inl e)) =
          let same : load q.state ≡ s = ap load i.i_state ∙ loads q.held in
          absurd (true≢false (sym e ∙ ap (λ (s : State). finished s.stage) same ∙ o))
      go (works h o z u) (inr (inr e)) =
          let r = run_of f' (conf s m') g.number in
          let d = sound_loaded (Own f') f' r.at (sound_run (Own f') f' (conf s m') (loaded_sound f' s m' (loaded_at q.held) u) g.number) in
          absurd (not_21 r.at.state.length r.at.state.stage d (rw (next_at q g i ∙ h) at e))

  -- ---- each grant keeps the invariant
  inv_next : (q : Played) (g : Grant) → Inv q → Outcome q g → Inv (joined q g (next_of f q g))
  inv_next q g i (went_on e w) =
      let r = run_of f (P q.held).at g.number in
      let a : P (q.held + g.number) ≡ after (P q.held).made r = run_add f (conf fresh m) q.held g.number in
      let d = not_refused r.at.state.length r.at.state.stage (sound_loaded (Own f) f r.at (sound_run (Own f) f (P q.held).at (sound_at q.held) g.number)) in
      rw (w, d) (record {
        i_steps = rw (a, i.i_steps);
        i_state = ap (λ (r : Run). save r.at.state) (sym a);
        i_marks = rw e (ap (λ (r : Run). r.at.marks) (sym a));
        i_answer = ap (λ (r : Run). answer_of r.at.state.stage) (sym a);
        i_location = ap (λ (r : Run). location_in r.at.state.stage) (sym a);
      })
  inv_next q g i (idled w s) =
      let a : P (q.held + g.number) ≡ P q.held =
      run_add f (conf fresh m) q.held g.number ∙ rw (s, add-zero) in
      let d = not_refused (state_at q.held).length (state_at q.held).stage (loaded_at q.held) in
      rw (w, d) (record {
        i_steps = omega (arith, i.i_steps, ap (λ (r : Run). r.made) a);
        i_state = i.i_state ∙ ap (λ (r : Run). save r.at.state) (sym a);
        i_marks = kept_same g.other q.marks ∙ i.i_marks ∙ ap (λ (r : Run). r.at.marks) (sym a);
        i_answer = ap (λ (r : Run). answer_of r.at.state.stage) (sym a);
        i_location = ap (λ (r : Run). location_in r.at.state.stage) (sym a);
      })
  inv_next q g i (sent w o) =
      rw w (record {
        i_steps = omega (arith, i.i_steps);
        i_state = i.i_state;
        i_marks = kept_same g.other q.marks ∙ i.i_marks;
        i_answer = i.i_answer;
        i_location = i.i_location;
      })

  inv_from : (q : Played) (gs : List Grant) → Inv q → FairFrom f q gs → Inv (play_from f q gs)
  unfolding play_from FairFrom
  inv_from q [] i fair = i
  inv_from q (g ∷ gs) i fair = inv_from (joined q g (next_of f q g)) gs (inv_next q g i (outcome q g i fair.0)) fair.1

  inv_begun : Inv (begun m)
  unfolding run_of
  inv_begun = record { i_steps = refl; i_state = refl; i_marks = refl; i_answer = refl; i_location = refl }

  inv_play : (gs : List Grant) → Fair f m gs → Inv (play f m gs)
  inv_play gs fair = inv_from (begun m) gs inv_begun fair

  -- ---- the promise
  fair_split : (q : Played) (before : List Grant) (g : Grant) (rest : List Grant)
      → FairFrom f q (before ++ (g ∷ rest))
      → FairFrom f q before × FairNext f (play_from f q before) g
  unfolding FairFrom play_from
  fair_split q [] g rest h = (tt, h.0)
  fair_split q (x ∷ before) g rest h = let r = fair_split (joined q x (next_of f q x)) before g rest h.1 in ((h.0, r.0), r.1)

  module _ (q : Played) (i : Inv q) where
    same_run : P q.steps ≡ P q.held
    same_run = ap (λ (n : ℕ). P n) i.i_steps ∙ run_made f (conf fresh m) q.held

    steps_min : InTime f m → q.steps ≡ min q.held (run_length f m)
    steps_min in_time = i.i_steps ∙ made_min f (conf fresh m) q.held (step_limit f) in_time

    single_is : grant_of f m (save fresh) q.steps ≡ granted q.answer q.location q.steps q.state q.marks
    unfolding run_of
    single_is =
        let a : grant_of f m (save fresh) q.steps ≡ worked (P q.steps) = sound_works f (conf fresh m) (sound_fresh (Own f) f m) q.steps in
        let b : worked (P q.steps) ≡ worked (P q.held) = ap (λ (r : Run). worked r) same_run in
        let d : worked (P q.held) ≡ granted q.answer q.location q.steps q.state q.marks = cc in
        a ∙ b ∙ d

    same_accepts : (a b : ℤ) → a ≡ b → (a ≡ pos 0) ↔ (b ≡ pos 0)
    same_accepts a b e = (λ h. sym e ∙ h, λ h. e ∙ h)

    -- a grant that makes no step leaves the plain run where it was
    none_made : {a : ℤ} {p : ℕ} {l n : List ℕ} (g : Grant) → next_of f q g ≡ granted a p 0 l n → answer_at (q.steps + (next_of f q g).steps) ≡ answer_at q.held
    none_made g w =
        ap (λ (x : Granted). answer_at (q.steps + x.steps)) w
        ∙ ap (λ (k : ℕ). answer_at k) (add-zero q.steps)
        ∙ ap (λ (r : Run). answer_of r.at.state.stage) same_run

    next_accepts : (g : Grant) → Outcome q g → ((next_of f q g).answer ≡ pos 0) ↔ (answer_at (q.steps + (next_of f q g).steps) ≡ pos 0)
    next_accepts g (went_on e w) =
        let r = run_of f (P q.held).at g.number in
        let a : (P (q.steps + r.made)).at ≡ r.at =
        ap (λ (x : Run). x.at) (run_add f (conf fresh m) q.steps r.made)
        ∙ ap (λ (x : Run). (run_of f x.at r.made).at) same_run
        ∙ ap (λ (x : Run). x.at) (run_made f (P q.held).at g.number) in
        same_accepts (next_of f q g).answer (answer_at (q.steps + (next_of f q g).steps))
        (ap (λ (x : Granted). x.answer) w
        ∙ ap (λ (x : Conf). answer_of x.state.stage) (sym a)
        ∙ ap (λ (x : Granted). answer_at (q.steps + x.steps)) (sym w))
    next_accepts g (idled w s) =
        same_accepts (next_of f q g).answer (answer_at (q.steps + (next_of f q g).steps)) (ap (λ (x : Granted). x.answer) w ∙ sym (none_made g w))
    next_accepts g (sent w o) = (
      λ h. let z : ◌≡◌ {A = ℤ} (pos 21) (pos 0) = sym (ap (λ (x : Granted). x.answer) w) ∙ h in let y : ◌≡◌ {A = ℕ} 21 0 = cc in absurd (omega arith),
      λ h. absurd (true≢false (sym (ap finished (done_0 (state_at q.held).stage (sym (none_made g w) ∙ h))) ∙ o)),
    )

    next_others : (g : Grant) (lent : List ℕ × List ℕ) → Outcome q g → g.other ≡ some lent → (next_of f q g).marks ≡ lent.1
    next_others g lent (went_on e w) h = absurd (none-ne-some lent (sym e ∙ h))
    next_others g lent (idled w s) h = rw (w, h)
    next_others g lent (sent w o) h = rw (w, h)

pub every_list : (f m : List ℕ) → InTime f m → (gs : List Grant) → Fair f m gs → Promise f m gs
every_list f m in_time gs fair =
    let i = inv_play f m gs fair in
    let q = play f m gs in
    record {
      steps_add = steps_min f m q i in_time;
      verdict_is = i.i_answer ∙ ap (λ (r : Run). answer_of r.at.state.stage) (sym (same_run f m q i));
      location_is = i.i_location ∙ ap (λ (r : Run). location_in r.at.state.stage) (sym (same_run f m q i));
      marks_are = i.i_marks ∙ ap (λ (r : Run). r.at.marks) (sym (same_run f m q i));
      state_is = i.i_state ∙ ap (λ (r : Run). save r.at.state) (sym (same_run f m q i));
      single = single_is f m q i;
      ends = in_time;
      short = made_le f (conf fresh m) (step_limit f);
      accepts = λ before g rest e. next_accepts f m (play f m before) (ahead before g rest e).0 g (ahead before g rest e).1;
      others = λ before g rest lent e h. next_others f m (play f m before) (ahead before g rest e).0 g lent (ahead before g rest e).1 h;
    }
  where
    ahead : (before : List Grant) (g : Grant) (rest : List Grant)
        → gs ≡ before ++ (g ∷ rest)
        → Inv f m (play f m before) × Outcome f m (play f m before) g
    ahead before g rest e =
        let s = fair_split f m (begun m) before g rest (rw e at fair) in
        let i = inv_play f m before s.0 in
        (i, outcome f m (play f m before) g i s.1)

-- once the plain run ends in time over every file and marks
pub demand_3 : ((f m : List ℕ) → InTime f m) → Demand3
demand_3 in_time = record { lists = λ f m gs fair. every_list f m (in_time f m) gs fair; accepted = accepted_is_finished }

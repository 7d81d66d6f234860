-- The states that a grant works on: what every step keeps of them, and that each is loaded as it was saved. Assumes nothing.
use mathlib.Core.Path.{◌≡◌, refl, sym, ap, ◌∙◌}
use mathlib.Core.Logic.{◌≢◌, inl, inr}
use mathlib.Core.Bool.{Bool, true, false, cond, not, true≢false, and-false, ◌&&◌, ◌||◌}
use mathlib.Core.List.{List}
use Prim.Native.Nat.{ℕ, ◌+◌, ◌≤◌}
use native.Mathlib.Omega.{arith}
use lib.ListN.{length, set, length-set}
use lib.Dec.{ltb, leb, eqb}
use borrow.Author.Tests.{leb-true, ltb-false, eqb-true, le-leb, le-ltb, eq-eqb, ne_eqb}
use Rattle.format.specs.Fields.{end_of}
use Rattle.records.specs.Rules.{size_at}
use Rattle.records.specs.Opening.{too_long, body_of}
use Rattle.format.proofs.Tests.{both}
use Rattle.records.proofs.Opens.{opening_passes}
use Rattle.records.proofs.Bodies.{body_le}
use Rattle.marks.specs.Marks.{marked}
use Rattle.walk.specs.Bounds.{Within}
use Rattle.walk.specs.Levels.{no_levels, room_below}
use Rattle.walk.specs.Walk.{walk_step}
use Rattle.walk.specs.declared.positions.Levels.{Levels}
use Rattle.walk.specs.declared.positions.Walk.TheVariants.{Start}
use Rattle.walk.specs.declared.positions.Step as T
use Rattle.walk.specs.declared.positions.Step.TheVariants.{Over, End, Take, Down, Up}
use Rattle.walk.proofs.Closed.{start_within, within_in, in_within, NextWithin, step_within}
use Rattle.states.specs.declared.state.Stage.{Stage}
use Rattle.states.specs.declared.state.Stage.TheVariants.{Fresh, Sweep, Walking, Done, OutOfRange}
use Rattle.states.specs.declared.state.State.{State}
use Rattle.checker.specs.Step.{Conf, conf, Run, step_of, run_of}
use Rattle.states.specs.Stages.{fresh, finished}
use Rattle.states.specs.Saved.{save, length_range, walk_range, levels_stand, level_list, levels_range}
use Rattle.checker.specs.Grant.{other_file, worked, grant_by, grant_of}
use Rattle.checker.proofs.Placed.{NextPlaced, step_placed}
use Rattle.checker.proofs.Above.{Above, top_above, range_above, above_range, pushed_there, popped_there}
use Rattle.states.proofs.LevelLists.{levels_small}
use Rattle.checker.proofs.Outcomes.{StepGoes, Goes, step_by_lem}
use Rattle.checker.proofs.Passed.{opened, tiled, marked_length}
use Rattle.checker.proofs.PlainRuns.{run_none, run_over, run_keeps}
use Rattle.states.proofs.Loads.{load_save, length_save}
use Rattle.checker.proofs.Cases.{Case, idles, refuses, works, case_of, right_length}
use Rattle.states.specs.Bounds.{IsOutcome, Loaded}

-- ---- a check that goes on
-- the opening has noted the file's length, and the marks are long enough
abbrev pub Noted : List ℕ → ℕ → List ℕ → Type 0
Noted f n m = (n ≡ length f) × (372 ≤ length f) × (length f ≤ 2147483647) × (length f ≤ length m)

-- before the opening and after the end no length is noted; Odd is said of a strange state, which no step leads to
abbrev pub SoundBy : (ℕ → List ℕ → Type 0) → List ℕ → ℕ → List ℕ → Stage → Type 0
SoundBy Odd f n m Fresh = n ≡ 0
SoundBy Odd f n m (Sweep o) = Noted f n m × (8 ≤ o) × (o ≤ 2147483647)
SoundBy Odd f n m (Walking w up) = Noted f n m × Within w × Above up w
SoundBy Odd f n m (Done v p) = (n ≡ 0) × IsOutcome v p
SoundBy Odd f n m OutOfRange = Odd n m

pub record Sound (Odd : ℕ → List ℕ → Type 0) (f : List ℕ) (c : Conf) : Type 0 where
  pub sound : SoundBy Odd f c.state.length c.marks c.state.stage

-- no other file and marks are lent
abbrev pub Own : List ℕ → ℕ → List ℕ → Type 0
Own f n m = other_file f m n ≡ false

not_long : (f : List ℕ) → too_long f ≡ false → length f ≤ 2147483647
unfolding too_long
not_long f e = ltb-false 2147483647 (length f) e

module _ (Odd : ℕ → List ℕ → Type 0) (f : List ℕ) where
  pub sound_step : (c : Conf) → finished c.state.stage ≡ false → Sound Odd f c → Sound Odd f (step_of f c)
  sound_step c o h =
      step_by_lem (Sound Odd f) f m n (λ v p t. record { sound = (refl, t) }) c.state.stage o (goes c.state.stage h.sound)
    where
      m : List ℕ
      m = c.marks

      b : List ℕ
      b = body_of f

      n : ℕ
      n = c.state.length

      claimed : (t : ℕ) → Noted f n m → Noted f n (set m t 2)
      claimed t a = (a.0, a.1, a.2, rw (length-set m t 2) a.3)

      step : (up : Levels) (t : T.Step)
          → Noted f n m
          → levels_stand (level_list up) ≡ true
          → NextWithin t
          → NextPlaced up.a t
          → StepGoes (Sound Odd f) b m n up t
      step up (Over w v) a e b p = record { sound = (a, b, record { there = e; placed = p }) }
      step up (End v) a e b p = tt
      step up (Take w early t typed late) a e b p =
          λ x. record { sound = (claimed t a, b, record { there = e; placed = p x.early_passed x.late_passed }) }
      step up (Down w t typed l) a e b p =
          λ x. record { sound = (claimed t a, b.0, record { there = pushed_there up l b.1 b.2 e; placed = p }) }
      step up (Up w) a e b p = record { sound = (a, b, record { there = popped_there up e; placed = p up.b }) }

      swept : (m : List ℕ) (o : ℕ) → Noted f n m → 8 ≤ o → o ≤ 2147483647 → (b : Bool)
          → SoundBy Odd f n m (cond b (Walking Start no_levels) (Sweep o))
      swept m o a b d true = (a, start_within, top_above)
      swept m o a b d false = (a, b, d)

      goes : (s : Stage) → SoundBy Odd f n m s → Goes (Sound Odd f) f m n s
      goes Fresh g = λ e.
          let p = opened f m e in
          record { sound = ((refl, (opening_passes f p.2).least, not_long f p.0, p.1), omega arith, omega arith) }
      goes (Sweep o) g = λ e.
          let t = tiled b o e in
          let a = g.0 in
          let less = body_le f in
          let fits : o + size_at b o ≤ length m = omega arith in
          let l : length (marked m o (size_at b o)) ≡ length m = marked_length m o (size_at b o) fits in
          let next = o + size_at b o in
          let noted : Noted f n (marked m o (size_at b o)) = (a.0, a.1, a.2, rw l a.3) in
          record { sound = swept (marked m o (size_at b o)) next noted (omega arith) (omega arith) (eqb next (end_of b)) }
      goes (Walking w up) g =
          let near = up.a in
          let room = room_below up in
          let there = g.2.there in
          step up (walk_step b up w) g.0 there
          (step_within b near room w (levels_small up there).0 g.1).next_within (step_placed b near room w g.2.placed).next_keeps
      goes (Done v p) g = tt
      goes OutOfRange g = tt

  pub sound_run : (c : Conf) → Sound Odd f c → (k : ℕ) → Sound Odd f (run_of f c k).at
  sound_run c h k = run_keeps f (Sound Odd f) sound_step c h k

  in_length : (n : ℕ) (m : List ℕ) → Noted f n m → length_range n ≡ true
  in_length n m h = rw (le-leb 372 n (omega arith), le-leb n 2147483647 (omega arith))

  -- its numbers are those that a load gives
  sound_stage : (n : ℕ) (m : List ℕ) (s : Stage) → SoundBy Odd f n m s → Loaded n s
  sound_stage n m Fresh h = rw h
  sound_stage n m (Sweep o) h = rw (in_length n m h.0, le-leb 8 o h.1, le-leb o 2147483647 h.2)
  sound_stage n m (Walking w up) h = rw (in_length n m h.0, within_in w h.1) (above_range up w h.2)
  sound_stage n m (Done v p) h = h
  sound_stage n m OutOfRange h = tt

  pub sound_loaded : (c : Conf) → Sound Odd f c → Loaded c.state.length c.state.stage
  sound_loaded c h = sound_stage c.state.length c.marks c.state.stage h.sound

pub sound_fresh : (Odd : ℕ → List ℕ → Type 0) (f m : List ℕ) → Sound Odd f (conf fresh m)
sound_fresh Odd f m = record { sound = refl }

module _ (f : List ℕ) where
  -- a file and marks that are not others, of a check that has noted a length
  own_lent : (m : List ℕ) (n : ℕ) → n ≢ 0 → Own f n m → (n ≡ length f) × (n ≤ length m)
  unfolding other_file
  own_lent m n z e = go (eqb n (length f)) refl (ltb (length m) n) refl (rw (ne_eqb n 0 z) at e)
    where
      go : (a : Bool) → eqb n (length f) ≡ a → (b : Bool) → ltb (length m) n ≡ b → (not a || b) ≡ false → (n ≡ length f) × (n ≤ length m)
      go true h false l e = (eqb-true n (length f) h, ltb-false (length m) n l)
      go true h true l e = absurd (true≢false e)
      go false h b l e = absurd (true≢false e)

  noted_lent : (n : ℕ) (m : List ℕ) → length_range n ≡ true → Own f n m → Noted f n m
  noted_lent n m h e =
      let r = both (leb 372 n) (leb n 2147483647) h in
      let low : 372 ≤ n = leb-true 372 n r.0 in
      let high : n ≤ 2147483647 = leb-true n 2147483647 r.1 in
      let own = own_lent m n (omega arith) e in
      (own.0, omega arith, omega arith, omega arith)

  loaded_by : (n : ℕ) (m : List ℕ) (s : Stage) → Loaded n s → Own f n m → SoundBy (Own f) f n m s
  loaded_by n m Fresh h e = eqb-true n 0 h
  loaded_by n m (Sweep o) h e =
      let p = both (length_range n && leb 8 o) (leb o 2147483647) h in
      let q = both (length_range n) (leb 8 o) p.0 in
      (noted_lent n m q.0 e, leb-true 8 o q.1, leb-true o 2147483647 p.1)
  loaded_by n m (Walking w up) h e =
      let p = both (length_range n && walk_range w) (levels_range up w) h in
      let q = both (length_range n) (walk_range w) p.0 in
      (noted_lent n m q.0 e, in_within w q.1, range_above up w p.1)
  loaded_by n m (Done v p) h e = h
  loaded_by n m OutOfRange h e = e

  -- whatever numbers were loaded, made up or not, the check goes on with its own file and marks
  pub loaded_sound : (s : State) (m : List ℕ) → Loaded s.length s.stage → Own f s.length m → Sound (Own f) f (conf s m)
  loaded_sound s m h e = record { sound = loaded_by s.length m s.stage h e }

  noted_own : (n : ℕ) (m : List ℕ) → Noted f n m → Own f n m
  unfolding other_file
  noted_own n m h = rw (eq-eqb n (length f) h.0, le-ltb (length m) n (omega arith)) (and-false (not (eqb n 0)))

  pub sound_own : (n : ℕ) (m : List ℕ) (s : Stage) → SoundBy (Own f) f n m s → Own f n m
  unfolding other_file
  sound_own n m Fresh h = rw h
  sound_own n m (Sweep o) h = noted_own n m h.0
  sound_own n m (Walking w up) h = noted_own n m h.0
  sound_own n m (Done v p) h = rw h.0
  sound_own n m OutOfRange h = h

  -- a grant on its numbers works, be it of 0 or after the end
  pub sound_works : (c : Conf) → Sound (Own f) f c → (n : ℕ) → grant_of f c.marks (save c.state) n ≡ worked (run_of f c n)
  sound_works c h n =
      right_length f m l n (length_save s)
      ∙ ap (λ (s : State). grant_by f m l n s) (load_save s (sound_loaded (Own f) f c h))
      ∙ go (case_of f m l n s)
    where
      m : List ℕ
      m = c.marks

      s : State
      s = c.state

      l : List ℕ
      l = save s

      go : Case f m l n s → grant_by f m l n s ≡ worked (run_of f c n)
      go (idles g (inl e)) = g ∙ sym (ap (λ (r : Run). worked r) (run_over f c n e))
      go (idles g (inr e)) = g ∙ sym (ap (λ (r : Run). worked r) (run_none f c n e))
      go (refuses g o w) = absurd (true≢false (sym w ∙ sound_own s.length m s.stage h.sound))
      go (works g o z w) = g

-- A step that refuses changes no mark. Assumes nothing.
use mathlib.Core.Path.{◌≡◌, sym, ap, ◌∙◌, refl}
use mathlib.Core.Bool.{Bool, true, false, cond, true≢false}
use mathlib.Core.List.{List}
use Prim.Native.Nat.{ℕ, ◌+◌}
use lib.Dec.{eqb}
use Rattle.format.specs.Fields.{end_of}
use Rattle.records.specs.Rules.{size_at}
use Rattle.walk.specs.Levels.{no_levels}
use Rattle.walk.specs.Walk.{walk_step}
use Rattle.walk.specs.declared.positions.Levels.{Levels}
use Rattle.walk.specs.declared.positions.Step as T
use Rattle.walk.specs.declared.positions.Step.TheVariants.{Over, End, Take, Down, Up}
use Rattle.walk.specs.declared.positions.Walk.TheVariants.{Start}
use Rattle.records.specs.Opening.{body_of}
use Rattle.states.specs.declared.state.Stage.{Stage}
use Rattle.states.specs.declared.state.Stage.TheVariants.{Fresh, Sweep, Walking, Done, OutOfRange}
use Rattle.checker.specs.Step.{Conf, swept_to, step_by}
use Rattle.states.specs.Stages.{finished}
use Rattle.checker.proofs.Outcomes.{StepGoes, step_by_lem}
use Rattle.grants.specs.Promises.{RefusalKeepsMarks}

swept_goes : (f : List ℕ) (o : ℕ) → finished (swept_to f o) ≡ false
swept_goes f o = go (eqb o (end_of f))
  where
    go : (b : Bool) → finished (cond b (Walking Start no_levels) (Sweep o)) ≡ false
    go true = refl
    go false = refl

done_marks : (f m : List ℕ) (n v p : ℕ) → (step_by f m n (Done v p)).marks ≡ m
unfolding step_by
done_marks f m n v p = refl

pub refusal_keeps_marks : RefusalKeepsMarks
refusal_keeps_marks f m n s v p e z = go s e
  where
    P : Conf → Type 0
    P c = (c.state.stage ≡ Done v p) → c.marks ≡ m

    step : (up : Levels) (t : T.Step) → StepGoes P (body_of f) m n up t
    step up (Over w v) = λ e. refl
    step up (End v) = tt
    step up (Take w early t typed late) = λ h e. absurd (true≢false (sym (ap finished e)))
    step up (Down w t typed l) = λ h e. absurd (true≢false (sym (ap finished e)))
    step up (Up w) = λ e. refl

    go : (s : Stage) → (step_by f m n s).state.stage ≡ Done v p → (step_by f m n s).marks ≡ m
    go Fresh e = step_by_lem P f m n (λ v p t e. refl) Fresh refl (λ h e. refl) e
    go (Sweep o) e =
        step_by_lem P f m n (λ v p t e. refl) (Sweep o) refl
        (λ h e. absurd (true≢false (sym (ap finished e) ∙ swept_goes (body_of f) (o + size_at (body_of f) o)))) e
    go (Walking w up) e = step_by_lem P f m n (λ v p t e. refl) (Walking w up) refl (step up (walk_step (body_of f) up w)) e
    go (Done u q) e = done_marks f m n u q
    go OutOfRange e = step_by_lem P f m n (λ v p t e. refl) OutOfRange refl tt e

-- The numbers that a step can refuse with are verdicts. Assumes nothing.
use mathlib.Core.Path.{◌≡◌, refl}
use mathlib.Core.Bool.{Bool, true, cond, not}
use mathlib.Core.List.{List, [], ◌∷◌}
use Prim.Native.Nat.{ℕ, zero, suc, ◌+◌}
use lib.ListN.{length}
use lib.Dec.{ltb, leb, eqb}
use Rattle.format.specs.Fields.{end_of}
use Rattle.records.specs.Rules.{size_at}
use Rattle.records.specs.Opening.{too_long, opening}
use Rattle.records.specs.Tiles.{tile}
use Rattle.records.proofs.Opens.{opening_has}
use Rattle.records.proofs.Tiled.{tile_has}
use Rattle.format.specs.Numbers.{first, unless}
use Rattle.walk.specs.Walk.{walk_step_by}
use Rattle.walk.specs.declared.positions.Level.{Level}
use Rattle.walk.specs.declared.positions.Walk as W
use Rattle.walk.specs.declared.positions.Step as T
use Rattle.marks.specs.Marks.{unclaimed_at, followed_at, found, left_from, left_of}
use Rattle.marks.specs.Marks.{Found}
use Rattle.states.specs.Saved.{verdict_range}
use Rattle.states.specs.Bounds.{IsVerdict}
use Rattle.checker.specs.Step.{open_number}
use Rattle.format.proofs.Tests.{cond_keeps}
use Rattle.format.proofs.Numbers.{All, first_has}
use Rattle.checker.proofs.Numbers.{StepHas, step_has}

-- what both branches have, a test between them has
verdict_cond : (b : Bool) {x y : ℕ} → IsVerdict x → IsVerdict y → IsVerdict (cond b x y)
verdict_cond b p q = cond_keeps IsVerdict b p q

verdict : (v : ℕ) → verdict_range v ≡ true → IsVerdict v
verdict v e = record { in_range = e }

pub verdict_0 : IsVerdict 0
verdict_0 = verdict 0 refl

pub verdict_20 : IsVerdict 20
verdict_20 = verdict 20 refl

pub verdict_first : (vs : List ℕ) → All IsVerdict vs → IsVerdict (first vs)
verdict_first vs h = first_has IsVerdict verdict_0 vs h

abbrev pub StepVerdicts : T.Step → Type 0
StepVerdicts t = StepHas IsVerdict IsVerdict (λ o. IsVerdict) t

module _ (f : List ℕ) where
  verdict_opening : IsVerdict (opening f)
  verdict_opening = opening_has f IsVerdict verdict_0 (verdict 3 refl) (verdict 4 refl) (verdict 5 refl) (verdict 14 refl) (verdict 6 refl)

  pub verdict_open : (m : List ℕ) → IsVerdict (open_number f m)
  unfolding open_number
  verdict_open m =
      verdict_first (unless 1 (not (too_long f)) ∷ unless 2 (leb (length f) (length m)) ∷ opening f ∷ []) (
        verdict_cond (not (too_long f)) verdict_0 (verdict 1 refl),
        (verdict_cond (leb (length f) (length m)) verdict_0 (verdict 2 refl), (verdict_opening, tt)),
      )

  pub verdict_tile : (o : ℕ) → IsVerdict (tile f (end_of f) o)
  verdict_tile o = tile_has f (end_of f) o IsVerdict verdict_0 (verdict 7 refl) (verdict 14 refl)

  -- ---- the end of the walk
  record FoundVerdict (x : Found) : Type 0 where
    number_verdict : IsVerdict x.number

  left_from_lem : (m : List ℕ) (n o : ℕ) → FoundVerdict (left_from f m n o)
  unfolding left_from
  left_from_lem m zero o = record { number_verdict = verdict_20 }
  left_from_lem m (suc n) o =
      let cut : FoundVerdict (found 20 o) = record { number_verdict = verdict_20 } in
      cond_keeps FoundVerdict (eqb o (end_of f)) (record { number_verdict = verdict_0 })
      (cond_keeps FoundVerdict (ltb (end_of f) (o + 8)) cut
      (cond_keeps FoundVerdict (unclaimed_at f m o) (record { number_verdict = verdict 13 refl }) (cond_keeps FoundVerdict (followed_at f o) (left_from_lem m n (o + size_at f o)) cut)))

  pub verdict_left : (m : List ℕ) → IsVerdict (left_of f m).number
  unfolding left_of
  verdict_left m = (left_from_lem m (length f) 8).number_verdict

  pub step_verdicts : (near : Level) (room : Bool) (w : W.Walk) → StepVerdicts (walk_step_by f near room w)
  step_verdicts near room w =
      let all : (v : ℕ) → verdict_range v ≡ true → (o : ℕ) → IsVerdict v = λ v e o. verdict v e in
      step_has f IsVerdict IsVerdict (λ o. IsVerdict) verdict_0 (verdict 12 refl) verdict_20 verdict_0 (verdict 11 refl) (verdict 12 refl) verdict_20 (all 0 refl) (all 8 refl) (all 10 refl)
      (all 11 refl) (λ o e. verdict 14 refl) (all 20 refl) (λ o e. verdict 23 refl) near room w

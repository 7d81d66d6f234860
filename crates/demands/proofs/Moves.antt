-- The numbers of a step of the walk: before the place of a link is looked at 12 and 20 alone, at the end of a list 11, 12 and 20, and
-- never 7 or 13; 14 of a record with Flags bit 2 alone, and 23 of an index record. Assumes nothing.
use mathlib.Core.Path.{◌≡◌, refl}
use mathlib.Core.Logic.{◌≢◌, ◌⊎◌, inl, inr}
use mathlib.Core.Bool.{true, false, true≢false, ◌||◌}
use mathlib.Core.List.{List, [], ◌∷◌}
use Prim.Native.Nat.{ℕ, ◌+◌}
use native.Mathlib.Omega.{arith}
use lib.Dec.{eqb}
use Rattle.format.specs.Fields.{bit_at}
use Rattle.format.specs.Numbers.{unless}
use Rattle.format.proofs.Tests.{cond_keeps}
use Rattle.format.proofs.Numbers.{first_has}
use Rattle.records.specs.Index.{index_at}
use lib.ListN.{get_or}
use Rattle.marks.specs.Marks.{start_at}
use Rattle.walk.specs.Levels.{room_below}
use Rattle.walk.specs.Walk.{walk_step}
use Rattle.walk.specs.declared.positions.Levels.{Levels}
use Rattle.walk.specs.declared.positions.Step as T
use Rattle.walk.specs.declared.positions.Step.TheVariants.{Over, End, Take, Down, Up}
use Rattle.checker.specs.Step.{link_number}
use Rattle.checker.proofs.Numbers.{StepHas, step_has}
use Rattle.demands.proofs.Positions.{Position, Move, passes, stops, takes, move_by, move_of}

-- the numbers before the place of a link is looked at
abbrev pub Early : ℕ → Type 0
Early v = (v ≡ 0) ⊎ ((v ≡ 12) ⊎ (v ≡ 20))

-- those of a list's end
abbrev pub AtEnd : ℕ → Type 0
AtEnd v = (v ≡ 11) ⊎ Early v

-- all are others than these
abbrev pub Other : ℕ → Type 0
Other v = (eqb v 7 || eqb v 13) ≡ false

pub not_7 : (v : ℕ) → Other v → v ≢ 7
not_7 v h e = true≢false (rw e at h)

pub not_13 : (v : ℕ) → Other v → v ≢ 13
not_13 v h e = true≢false (rw e at h)

-- those of a link to t
pub record OfTarget (f : List ℕ) (t v : ℕ) : Type 0 where
  pub other : Other v
  pub flagged : v ≡ 14 → bit_at f (t + 28) 4 ≡ true
  pub deep : v ≡ 23 → index_at f t ≡ true

-- one that is neither 14 nor 23
pub plain_number : (f : List ℕ) (t v : ℕ) → Other v → v ≢ 14 → v ≢ 23 → OfTarget f t v
plain_number f t v o a b = record { other = o; flagged = λ e. absurd (a e); deep = λ e. absurd (b e) }

abbrev MoveNumbers : List ℕ → Move → Type 0
MoveNumbers f (passes v p) = AtEnd v
MoveNumbers f (stops v) = AtEnd v
MoveNumbers f (takes b t k l p) = Early b × OfTarget f t k × OfTarget f t l

pub record MoveHas (f : List ℕ) (t : Move) : Type 0 where
  pub has : MoveNumbers f t

none : (f : List ℕ) (t : ℕ) → OfTarget f t 0
none f t = plain_number f t 0 refl (λ e. omega arith) (λ e. omega arith)

move_has : (f : List ℕ) (up : Levels) (t : T.Step) → StepHas Early AtEnd (OfTarget f) t → MoveHas f (move_by up t)
move_has f up (Over w v) h = record { has = h.has }
move_has f up (End v) h = record { has = h.has }
move_has f up (Take w early t typed late) h = record { has = h.has }
move_has f up (Down w t typed l) h = record { has = (inl refl, h.has, none f t) }
move_has f up (Up w) h = record { has = inr (inl refl) }

pub move_numbers : (f : List ℕ) (p : Position) → MoveHas f (move_of f p)
move_numbers f p =
    move_has f p.up (walk_step f p.up p.walk)
    (step_has f Early AtEnd (OfTarget f) (inl refl) (inr (inl refl)) (inr (inr refl)) (inr (inl refl)) (inl refl) (inr (inr (inl refl))) (inr (inr (inr refl)))
    (none f) (λ t. plain_number f t 8 refl (λ e. omega arith) (λ e. omega arith)) (λ t. plain_number f t 10 refl (λ e. omega arith) (λ e. omega arith))
    (λ t. plain_number f t 11 refl (λ e. omega arith) (λ e. omega arith)) (λ t h. record { other = refl; flagged = λ e. h; deep = λ e. absurd (omega arith) })
    (λ t. plain_number f t 20 refl (λ e. omega arith) (λ e. omega arith)) (λ t h. record { other = refl; flagged = λ e. absurd (omega arith); deep = λ e. h })
    p.up.a (room_below p.up) p.walk)

early_other : (v : ℕ) → Early v → Other v
early_other v (inl e) = rw e
early_other v (inr (inl e)) = rw e
early_other v (inr (inr e)) = rw e

pub end_other : (v : ℕ) → AtEnd v → Other v
end_other v (inl e) = rw e
end_other v (inr e) = early_other v e

pub early_target : (f : List ℕ) (t v : ℕ) → Early v → OfTarget f t v
early_target f t v (inl e) = plain_number f t v (rw e) (λ z. omega arith) (λ z. omega arith)
early_target f t v (inr (inl e)) = plain_number f t v (rw e) (λ z. omega arith) (λ z. omega arith)
early_target f t v (inr (inr e)) = plain_number f t v (rw e) (λ z. omega arith) (λ z. omega arith)

-- so is the number of the link
pub link_target : (f m : List ℕ) (b t y l : ℕ) → Early b × OfTarget f t y × OfTarget f t l → OfTarget f t (link_number f m b t y l)
unfolding link_number
link_target f m b t y l h =
    let at : (v : ℕ) → Other v → v ≢ 14 → v ≢ 23 → OfTarget f t v = plain_number f t in
    first_has (OfTarget f t) (none f t) (b ∷ unless 8 (start_at f m t) ∷ y ∷ unless 9 (eqb (get_or m t 0) 1) ∷ l ∷ []) (
      early_target f t b h.0,
      (
        cond_keeps (OfTarget f t) (start_at f m t) (none f t) (at 8 refl (λ e. omega arith) (λ e. omega arith)),
        (h.1, (cond_keeps (OfTarget f t) (eqb (get_or m t 0) 1) (none f t) (at 9 refl (λ e. omega arith) (λ e. omega arith)), (h.2, tt))),
      ),
    )

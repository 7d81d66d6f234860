-- The first number that is not 0: 0 stands for no refusal. Assumes nothing.
use mathlib.Core.Path.{◌≡◌, refl, sym, ◌∙◌}
use mathlib.Core.Bool.{Bool, true, false}
use mathlib.Core.List.{List, [], ◌∷◌}
use Prim.Native.Nat.{ℕ, zero, suc}
use native.Mathlib.Omega.{arith}
use lib.ListN.{get_or}
use Rattle.format.specs.Numbers.{first, unless}

pub unless_zero : (v : ℕ) (b : Bool) → unless (suc v) b ≡ 0 → b ≡ true
unless_zero v true e = refl
unless_zero v false e = absurd (omega arith)

-- ---- the first is 0 exactly if all are
abbrev pub AllZero : List ℕ → Type 0
AllZero [] = Unit {0}
AllZero (v ∷ []) = v ≡ 0
AllZero (v ∷ w ∷ vs) = (v ≡ 0) × AllZero (w ∷ vs)

-- the number at a place of the list
pub zeros : (vs : List ℕ) → first vs ≡ 0 → (i : ℕ) → get_or vs i 0 ≡ 0
zeros [] e i = refl
zeros (zero ∷ vs) e zero = refl
zeros (zero ∷ vs) e (suc i) = zeros vs e i
zeros (suc v ∷ vs) e i = absurd (omega arith)

pub first_zeros : (vs : List ℕ) → AllZero vs → first vs ≡ 0
first_zeros [] h = refl
first_zeros (v ∷ []) h = rw h
first_zeros (v ∷ w ∷ vs) h = rw h.0 (first_zeros (w ∷ vs) h.1)

-- ---- what 0 and all of them have, the first has
abbrev pub All : (ℕ → Type 0) → List ℕ → Type 0
All Q [] = Unit {0}
All Q (v ∷ vs) = Q v × All Q vs

pub first_has : (Q : ℕ → Type 0) → Q 0 → (vs : List ℕ) → All Q vs → Q (first vs)
first_has Q z [] h = z
first_has Q z (zero ∷ vs) h = first_has Q z vs h.1
first_has Q z (suc v ∷ vs) h = h.0

-- ---- number by number
pub first_some : {v : ℕ} → (v ≡ 0 → ⊥) → (vs : List ℕ) → first (v ∷ vs) ≡ v
first_some {v = zero} h vs = absurd (h refl)
first_some {v = suc w} h vs = refl

pub first_none : {v : ℕ} → v ≡ 0 → (vs : List ℕ) → first (v ∷ vs) ≡ first vs
first_none e vs = rw e

pub first_last : (v : ℕ) → first (v ∷ []) ≡ v
first_last zero = refl
first_last (suc v) = refl

-- of two numbers
pub by_two : (a b : ℕ) {w : ℕ} → a ≡ 0 → w ≡ b → w ≡ first (a ∷ b ∷ [])
by_two a b g k = k ∙ sym (first_last b) ∙ sym (first_none g (b ∷ []))

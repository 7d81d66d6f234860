-- Tests that came out a certain way: what each part of them says. Assumes nothing.
use mathlib.Core.Path.{◌≡◌, refl, sym, ◌∙◌}
use mathlib.Core.Logic.{◌⊎◌, inl, inr}
use mathlib.Core.Bool.{Bool, true, false, cond, true≢false, ◌&&◌, ◌||◌}
use mathlib.Core.List.{List, [], ◌∷◌}
use Prim.Native.Nat.{ℕ, zero, suc}
use native.Mathlib.Omega.{arith}
use lib.ListN.{get_or}

pub not_both : (b : Bool) → b ≡ true → b ≡ false → ⊥
not_both b e h = true≢false (sym e ∙ h)

pub both : (a b : Bool) → (a && b) ≡ true → (a ≡ true) × (b ≡ true)
both true b e = (refl, e)
both false b e = absurd (true≢false (sym e))

pub neither : (a b : Bool) → (a || b) ≡ false → (a ≡ false) × (b ≡ false)
neither false false e = (refl, refl)
neither false true e = absurd (true≢false e)
neither true b e = absurd (true≢false e)

pub either : (a b : Bool) → (a || b) ≡ true → (a ≡ true) ⊎ (b ≡ true)
either true b e = inl refl
either false b e = inr e

pub or_left : (a b : Bool) → a ≡ true → (a || b) ≡ true
or_left a b e = rw e

pub or_right : (a b : Bool) → b ≡ true → (a || b) ≡ true
or_right true b e = refl
or_right false b e = e

-- ---- a chain of tests holds exactly if each does
abbrev conj_from : Bool → List Bool → Bool
conj_from a [] = a
conj_from a (b ∷ bs) = conj_from (a && b) bs

abbrev pub conj : List Bool → Bool
conj [] = true
conj (a ∷ bs) = conj_from a bs

abbrev pub AllTrue : List Bool → Type 0
AllTrue [] = Unit {0}
AllTrue (a ∷ []) = a ≡ true
AllTrue (a ∷ b ∷ bs) = (a ≡ true) × AllTrue (b ∷ bs)

chain_head : (a : Bool) (bs : List Bool) → conj_from a bs ≡ true → a ≡ true
chain_head a [] e = e
chain_head a (b ∷ bs) e = (both a b (chain_head (a && b) bs e)).0

chain_tail : (a b : Bool) (bs : List Bool) → conj_from (a && b) bs ≡ true → conj_from b bs ≡ true
chain_tail true b bs e = e
chain_tail false b bs e = absurd (true≢false (sym (chain_head false bs e)))

chain_each : (a : Bool) (bs : List Bool) → conj_from a bs ≡ true → (i : ℕ) → get_or (a ∷ bs) i true ≡ true
chain_each a bs e zero = chain_head a bs e
chain_each a [] e (suc i) = refl
chain_each a (b ∷ bs) e (suc i) = chain_each b bs (chain_tail a b bs e) i

all_chain : (a : Bool) (bs : List Bool) → AllTrue (a ∷ bs) → conj_from a bs ≡ true
all_chain a [] h = h
all_chain a (b ∷ bs) h = rw h.0 (all_chain b bs h.1)

-- the test at a place of the chain
pub every : (bs : List Bool) → conj bs ≡ true → (i : ℕ) → get_or bs i true ≡ true
every [] e i = refl
every (a ∷ bs) e i = chain_each a bs e i

pub chain : (bs : List Bool) → AllTrue bs → conj bs ≡ true
chain [] h = refl
chain (a ∷ bs) h = all_chain a bs h

-- ---- a choice
-- what each branch has where the test leads to it, the choice has
pub cond_cases : {A : Type 0} (P : A → Type 0) (b : Bool) {x y : A} → (b ≡ true → P x) → (b ≡ false → P y) → P (cond b x y)
cond_cases P true p q = p refl
cond_cases P false p q = q refl

-- what both branches have, a test between them has
pub cond_keeps : {A : Type 0} (P : A → Type 0) (b : Bool) {x y : A} → P x → P y → P (cond b x y)
cond_keeps P true p q = p
cond_keeps P false p q = q

-- a number that is 0 comes from the branch that is not a refusal
pub cond_left : (b : Bool) (v w : ℕ) → cond b w (suc v) ≡ 0 → (b ≡ true) × (w ≡ 0)
cond_left true v w e = (refl, e)
cond_left false v w e = absurd (omega arith)

pub cond_right : (b : Bool) (v w : ℕ) → cond b (suc v) w ≡ 0 → (b ≡ false) × (w ≡ 0)
cond_right true v w e = absurd (omega arith)
cond_right false v w e = (refl, e)

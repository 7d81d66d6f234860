-- What a load makes of numbers, and of those of a save. Assumes nothing.
use mathlib.Core.Path.{◌≡◌, refl, sym, ap, ◌∙◌, subst}
use mathlib.Core.Bool.{Bool, true, false, cond, true≢false, ◌&&◌}
use mathlib.Core.List.{List, [], ◌∷◌, ◌++◌}
use Prim.Native.Nat.{ℕ, suc, ◌+◌, ◌-◌}
use native.Mathlib.Omega.{arith}
use lib.ListN.{length, get_or, length-append}
use lib.Dec.{eqb, eqb-suc-zero}
use borrow.Author.Tests.{eq-eqb}
use lib.IntN.{pos}
use Rattle.walk.specs.declared.positions.Levels.{Levels}
use Rattle.walk.specs.declared.positions.Walk as W
use Rattle.walk.specs.declared.positions.Walk.TheVariants.{Start, Vars, Chain, Entry, Attrs, Entries, Unused}
use Rattle.states.specs.declared.state.Stage.{Stage}
use Rattle.states.specs.declared.state.Stage.TheVariants.{Fresh, Sweep, Walking, Done, OutOfRange}
use Rattle.states.specs.declared.state.State.{State}
use Rattle.states.specs.Stages.{done, answer_of, location_in}
use Rattle.states.specs.Saved.{state_length, save_stage, levels_in, save_levels, save_numbers, save}
use Rattle.states.specs.Saved.{stage_range, stage_by, checked, verdict_range, load}
use Rattle.std.specs.Cmp.Lexicographic.{pointwise}
use Rattle.format.proofs.Tests.{both}
use Rattle.faults.specs.Fault.{fault_at, anywhere, saved_location}
use Rattle.faults.proofs.Locations.{saved_fault}
use Rattle.states.specs.Bounds.{VerdictFits, IsOutcome, Loaded}

abbrev pub at : ℕ → Stage → State
at n s = record { length = n; stage = s }

pub ranged_fits : (l : ℕ) (g : Stage) → stage_range l g ≡ true → VerdictFits g
ranged_fits l Fresh e = tt
ranged_fits l (Sweep o) e = tt
ranged_fits l (Walking w up) e = tt
ranged_fits l (Done v p) e = absurd (true≢false (sym e))
ranged_fits l OutOfRange e = tt

-- ---- what a load makes of any numbers
loaded_range : (n : ℕ) (g : Stage) → stage_range n g ≡ true → Loaded n g
loaded_range n Fresh e = e
loaded_range n (Sweep o) e = e
loaded_range n (Walking w up) e = e
loaded_range n (Done v p) e = absurd (true≢false (sym e))
loaded_range n OutOfRange e = tt

checked_loaded : (s : List ℕ) (n : ℕ) (g : Stage) → Loaded n (checked s n g)
checked_loaded s n g = go (stage_range n g && same) refl
  where
    same : Bool
    same = pointwise eqb (save_numbers n g) s

    go : (b : Bool) → (stage_range n g && same) ≡ b → Loaded n (cond b g OutOfRange)
    go true e = loaded_range n g (both (stage_range n g) same e).0
    go false e = tt

record IsLoaded (s : State) : Type 0 where
  loaded : Loaded s.length s.stage

pub load_is : (l : List ℕ) → Loaded (load l).length (load l).stage
unfolding load
load_is l = (go (eqb (get_or l 0 0) 0) (verdict_range (get_or l 0 0 - 1)) refl).loaded
  where
    go : (a b : Bool)
        → verdict_range (get_or l 0 0 - 1) ≡ b
        → IsLoaded
        (cond a (at (get_or l 1 0) (checked l (get_or l 1 0) (stage_by l (get_or l 2 0))))
        (cond b (done (get_or l 0 0 - 1) (saved_location (get_or l 0 0 - 1) (get_or l 33 0))) (at (get_or l 1 0) OutOfRange)))
    go true b e = record { loaded = checked_loaded l (get_or l 1 0) (stage_by l (get_or l 2 0)) }
    go false true e = record { loaded = (refl, record { verdict = record { in_range = e }; located = saved_fault (anywhere (get_or l 33 0)) (get_or l 0 0 - 1) }) }
    go false false e = record { loaded = tt }

-- ---- of the numbers of a save it makes the state again
same_own : (l : List ℕ) → pointwise eqb l l ≡ true
same_own [] = refl
same_own (x ∷ xs) = rw (eq-eqb x x refl, same_own xs)

module _ (n : ℕ) where
  self : (g : Stage) → stage_range n g ≡ true → ◌≡◌ {A = State} (at n (checked (save_numbers n g) n g)) (at n g)
  self g h = rw (h, same_own (save_numbers n g))

  load_walk : (w : W.Walk) (up : Levels) → stage_range n (Walking w up) ≡ true → load (save_numbers n (Walking w up)) ≡ at n (Walking w up)
  unfolding load stage_by
  load_walk Start up h = self (Walking Start up) h
  load_walk (Vars k p i g) up h = self (Walking (Vars k p i g) up) h
  load_walk (Chain u p x floor true) up h = self (Walking (Chain u p x floor true) up) h
  load_walk (Chain u p x floor false) up h = self (Walking (Chain u p x floor false) up) h
  load_walk (Entry u x i floor true) up h = self (Walking (Entry u x i floor true) up) h
  load_walk (Entry u x i floor false) up h = self (Walking (Entry u x i floor false) up) h
  load_walk (Attrs p i) up h = self (Walking (Attrs p i) up) h
  load_walk (Entries k a i p e g) up h = self (Walking (Entries k a i p e g) up) h
  load_walk (Unused p b) up h = self (Walking (Unused p b) up) h

  load_done : (v p : ℕ) → IsOutcome v p → load (save_numbers n (Done v p)) ≡ done v p
  unfolding load
  load_done v p t =
      let less : suc v - 1 ≡ v = omega arith in
      rw (eqb-suc-zero v, less, t.verdict.in_range, t.located)

  load_stage : (g : Stage) → Loaded n g → load (save_numbers n g) ≡ at n g
  unfolding load stage_by
  load_stage Fresh h = self Fresh h
  load_stage (Sweep o) h = self (Sweep o) h
  load_stage (Walking w up) h = load_walk w up h
  load_stage (Done v p) h = load_done v p h.1 ∙ ap (λ (k : ℕ). at k (Done v p)) (sym h.0)
  load_stage OutOfRange h = refl

  length_stage : (g : Stage) → length (save_stage n g) ≡ 12
  length_stage Fresh = refl
  length_stage (Sweep o) = refl
  length_stage (Walking w up) = refl
  length_stage (Done v p) = refl
  length_stage OutOfRange = refl

pub load_save : (s : State) → Loaded s.length s.stage → load (save s) ≡ s
unfolding save
load_save s h = load_stage s.length s.stage h

pub length_save : (s : State) → length (save s) ≡ state_length
unfolding save
length_save s =
    let g = s.stage in
    length-append (save_stage s.length g) (save_levels (levels_in g) ++ (location_in g ∷ [])) ∙ ap (λ (k : ℕ). k + 22) (length_stage s.length g)

-- ---- a finished check has a verdict that is never 21, and notes no length
pub not_21 : (n : ℕ) (g : Stage) → Loaded n g → answer_of g ≡ pos 21 → ⊥
not_21 n Fresh h e = let z : ◌≡◌ {A = ℕ} 0 1 = cc in omega arith
not_21 n (Sweep o) h e = let z : ◌≡◌ {A = ℕ} 0 1 = cc in omega arith
not_21 n (Walking w up) h e = let z : ◌≡◌ {A = ℕ} 0 1 = cc in omega arith
not_21 n (Done v p) h e = let z : v ≡ 21 = cc in true≢false (sym (rw z at h.1.verdict.in_range))
not_21 n OutOfRange h e = let z : ◌≡◌ {A = ℕ} 0 1 = cc in omega arith

pub done_0 : (g : Stage) → answer_of g ≡ pos 0 → g ≡ Done 0 (location_in g)
done_0 Fresh e = cc
done_0 (Sweep o) e = cc
done_0 (Walking w up) e = cc
done_0 (Done v p) e = let z : v ≡ 0 = cc in rw z
done_0 OutOfRange e = cc

pub accepted_is : (s : State) → Loaded s.length s.stage → answer_of s.stage ≡ pos 0 → s ≡ done 0 0
unfolding fault_at
accepted_is s h e =
    let d = done_0 s.stage e in
    let z : Loaded s.length (Done 0 (location_in s.stage)) = subst (Loaded s.length) d h in
    let p : 0 ≡ location_in s.stage = z.1.located in
    ap (λ (k : ℕ). at k s.stage) z.0 ∙ ap (λ (g : Stage). at 0 g) d ∙ ap (λ (k : ℕ). done 0 k) (sym p)

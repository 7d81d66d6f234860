-- Laws of the plain run from any state. Assumes nothing.
use mathlib.Core.Path.{◌≡◌, refl, sym, ap, ◌∙◌}
use mathlib.Core.Bool.{Bool, true, false, true≢false}
use mathlib.Core.List.{List}
use Prim.Native.Nat.{ℕ, zero, suc, ◌+◌, ◌≤◌, min}
use native.Mathlib.Nat.{add-zero, add-suc}
use native.Mathlib.Numerals.{add-one}
use native.Mathlib.Omega.{arith}
use Rattle.checker.specs.Step.{Conf, Run, step_of, onward, run_of}
use Rattle.states.specs.Stages.{finished}

-- a run that goes on after another: where it is, and the steps of both
abbrev pub after : ℕ → Run → Run
after n r = record { at = r.at; made = n + r.made }

module _ (f : List ℕ) where
  abbrev pub over : Conf → Bool
  over c = finished c.state.stage

  -- a step after another run is the step, after it
  onward_after : (n : ℕ) (r : Run) → onward f (after n r) ≡ after n (onward f r)
  onward_after n r = go (over r.at) refl
    where
      go : (b : Bool) → over r.at ≡ b → onward f (after n r) ≡ after n (onward f r)
      go true e = rw e
      go false e = rw (e, add-suc)

  -- the run of a and b steps is that of b steps from where that of a steps is
  pub run_add : (c : Conf) (a b : ℕ) → run_of f c (a + b) ≡ after (run_of f c a).made (run_of f (run_of f c a).at b)
  unfolding run_of
  run_add c a zero = rw (add-zero a, add-zero (run_of f c a).made)
  run_add c a (suc b) = rw (add-suc, run_add c a b) (onward_after (run_of f c a).made (run_of f (run_of f c a).at b))

  pub run_none : (c : Conf) (n : ℕ) → n ≡ 0 → run_of f c n ≡ record { at = c; made = 0 }
  unfolding run_of
  run_none c n e = rw e

  -- a finished check stays
  pub run_over : (c : Conf) (k : ℕ) → over c ≡ true → run_of f c k ≡ record { at = c; made = 0 }
  unfolding run_of
  run_over c zero e = refl
  run_over c (suc k) e = rw (run_over c k e, e)

  -- what each step keeps, a run keeps
  pub run_keeps : (Q : Conf → Type 0) → ((c : Conf) → over c ≡ false → Q c → Q (step_of f c)) → (c : Conf) → Q c → (k : ℕ) → Q (run_of f c k).at
  unfolding run_of
  run_keeps Q s c q zero = q
  run_keeps Q s c q (suc k) = go (over (run_of f c k).at) refl (run_keeps Q s c q k)
    where
      go : (b : Bool) → over (run_of f c k).at ≡ b → Q (run_of f c k).at → Q (run_of f c (suc k)).at
      go true e h = rw e h
      go false e h = rw e (s (run_of f c k).at e h)

  pub made_le : (c : Conf) (k : ℕ) → (run_of f c k).made ≤ k
  unfolding run_of
  made_le c zero = omega arith
  made_le c (suc k) = go (over (run_of f c k).at) refl (made_le c k)
    where
      go : (b : Bool) → over (run_of f c k).at ≡ b → (run_of f c k).made ≤ k → (run_of f c (suc k)).made ≤ suc k
      go true e h = rw e (omega arith)
      go false e h = rw e (omega arith)

  -- a run that is not over has made all its steps
  pub made_all : (c : Conf) (k : ℕ) → over (run_of f c k).at ≡ false → (run_of f c k).made ≡ k
  unfolding run_of
  made_all c zero e = refl
  made_all c (suc k) e = go (over (run_of f c k).at) refl (made_all c k)
    where
      go : (b : Bool) → over (run_of f c k).at ≡ b → (over (run_of f c k).at ≡ false → (run_of f c k).made ≡ k) → (run_of f c (suc k)).made ≡ suc k
      go true h ih = absurd (true≢false (sym h ∙ (rw h at e)))
      go false h ih = rw h (ap suc (ih h))

  -- one step more
  pub run_next : (c : Conf) (k : ℕ) → run_of f c (k + 1) ≡ onward f (run_of f c k)
  unfolding run_of
  run_next c k = rw add-one

  -- after the end nothing changes
  pub stays : (c : Conf) (i j : ℕ) → over (run_of f c i).at ≡ true → run_of f c (i + j) ≡ run_of f c i
  stays c i j e = rw (run_add c i j, run_over (run_of f c i).at j e, add-zero)

  -- two runs that are over are one
  one_end : (c : Conf) (a b : ℕ) → over (run_of f c a).at ≡ true → over (run_of f c b).at ≡ true → run_of f c a ≡ run_of f c b
  one_end c a b e h = sym (stays c a b e) ∙ ap (λ (n : ℕ). run_of f c n) (omega arith) ∙ stays c b a h

  -- the steps that were made lead where the run is
  pub run_made : (c : Conf) (k : ℕ) → run_of f c (run_of f c k).made ≡ run_of f c k
  unfolding run_of
  run_made c zero = refl
  run_made c (suc k) = go (over (run_of f c k).at) refl (run_made c k)
    where
      go : (b : Bool)
          → over (run_of f c k).at ≡ b
          → run_of f c (run_of f c k).made ≡ run_of f c k
          → run_of f c (run_of f c (suc k)).made ≡ run_of f c (suc k)
      go true e h = rw e h
      go false e h = rw (e, h, e)

  -- k steps are the smaller of k and the length of the run
  pub made_min : (c : Conf) (k b : ℕ) → over (run_of f c b).at ≡ true → (run_of f c k).made ≡ min k (run_of f c b).made
  made_min c k b e = go (over (run_of f c k).at) refl
    where
      go : (t : Bool) → over (run_of f c k).at ≡ t → (run_of f c k).made ≡ min k (run_of f c b).made
      go true h = let s : (run_of f c k).made ≡ (run_of f c b).made = ap (λ (r : Run). r.made) (one_end c k b h e) in omega (arith, made_le c k)
      go false h =
          let s : (run_of f c (b + k)).made ≡ (run_of f c b).made = ap (λ (r : Run). r.made) (stays c b k e) in
          let t : (run_of f c (k + b)).made ≡ (run_of f c k).made + (run_of f (run_of f c k).at b).made = ap (λ (r : Run). r.made) (run_add c k b) in
          let u : (run_of f c (b + k)).made ≡ (run_of f c (k + b)).made = ap (λ (n : ℕ). (run_of f c n).made) (omega arith) in
          omega (arith, made_all c k h)

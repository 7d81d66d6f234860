-- Rounds, of which the first is not refused, and what a job has after them. Assumes nothing.
use mathlib.Core.Path.{◌≡◌, refl, sym, ◌∙◌, ap, subst}
use mathlib.Core.Bool.{false}
use mathlib.Core.List.{List}
use Prim.Native.Nat.{ℕ, zero, suc, ◌≤◌, ◌<◌}
use native.Mathlib.Omega.{arith}
use lib.ListN.{length, get_or}
use Rattle.jobs.specs.declared.parts.Parts.{Parts}
use Rattle.jobs.specs.Turns.{Window, parts_at, turns_to, Rounded}
use Rattle.jobs.proofs.Tests.{refused_by_parts}
use Rattle.round_theorems.specs.Rounds.{In, rounds_of, NotRefused, Own, own_of, grant_alone, grants_alone, Rounds, Isolated}
use Rattle.round_theorems.proofs.Window.{Same, same_refl, same_trans, Fit, fit_of, to_same, to_own, to_else}
use Rattle.round_theorems.proofs.Refusals.{tested, goes, not_tested}

-- ---- one round
module _ (f : List ℕ) (q : ℕ) where
  -- the test sees the parts and the lengths alone
  tested_same : (w v : Window) → Same w v → tested f q v ≡ tested f q w
  tested_same w v s =
      rw (s.rows_count, s.marks_count) (refused_by_parts (parts_at v.rows) (parts_at w.rows) (length w.rows) (length f) (length w.marks) q (λ k l. s.parts k))

  all : (w : Window) → length w.rows ≤ length w.rows
  all w = omega arith

  -- ---- rounds
  module _ (w : Window) (runs : NotRefused f q w) where
    abbrev at : ℕ → Window
    at r = rounds_of f q w r

    kept : (r : ℕ) → Same w (at r) × (tested f q (at r) ≡ false)
    unfolding rounds_of
    kept zero = (same_refl w, not_tested f q w runs)
    kept (suc r) =
        let k = kept r in
        let v = at r in
        let s = to_same f q v (fit_of f v q k.1) (length v.rows) (all v) in
        let e = ap (λ (z : Rounded). z.window) (goes f q v k.1) in
        let t : Same w (at (suc r)) = subst (Same w) (sym e) (same_trans w v (turns_to f q v (length v.rows)) k.0 s) in
        (t, tested_same w (at (suc r)) t ∙ not_tested f q w runs)

    next_is : (r : ℕ) → at (suc r) ≡ turns_to f q (at r) (length (at r).rows)
    unfolding rounds_of
    next_is r = ap (λ (z : Rounded). z.window) (goes f q (at r) (kept r).1)

    fits : (r : ℕ) → Fit f (at r)
    fits r = fit_of f (at r) q (kept r).1

    pub alone_is : (k r : ℕ) → k < length w.rows → own_of f (at r) k ≡ grants_alone q (own_of f w k) r
    unfolding rounds_of grants_alone
    alone_is k zero h = refl
    alone_is k (suc r) h =
        let hk : k < length (at r).rows = rw (kept r).0.rows_count h in
        ap (λ (v : Window). own_of f v k) (next_is r) ∙ to_own f q (at r) (fits r) (length (at r).rows) (all (at r)) k hk ∙ ap (grant_alone q) (alone_is k r h)

    else_is : (i r : ℕ) → ((k : ℕ) → k < length w.rows → In i (parts_at w.rows k).marks → ⊥) → get_or (at r).marks i 0 ≡ get_or w.marks i 0
    unfolding rounds_of
    else_is i zero free = refl
    else_is i (suc r) free =
        let s = (kept r).0 in
        ap (λ (v : Window). get_or v.marks i 0) (next_is r)
        ∙ to_else f q (at r) (fits r) i (λ k h g. let hk : k < length w.rows = rw s.rows_count at h in free k hk (subst (λ (z : Parts). In i z.marks) (s.parts k) g))
        (length (at r).rows) (all (at r))
        ∙ else_is i r free

pub rounds : Rounds
rounds f q w runs = record {
  goes_on = λ r. ap (λ (z : Rounded). z.answer) (goes f q (rounds_of f q w r) (kept f q w runs r).1);
  alone = λ k r h. alone_is f q w runs k r h;
  rows_count = λ r. (kept f q w runs r).0.rows_count;
  owners = λ k r. (kept f q w runs r).0.owners k;
  parts = λ k r. (kept f q w runs r).0.parts k;
  marks_count = λ r. (kept f q w runs r).0.marks_count;
  marks_else = λ i r free. else_is f q w runs i r free;
}

-- the last answer is never looked at
same_alone : (q : ℕ) (o u : Own) → o.file ≡ u.file → o.marks ≡ u.marks → o.state ≡ u.state → (r : ℕ) → grants_alone q o (suc r) ≡ grants_alone q u (suc r)
unfolding grants_alone
same_alone q o u a b c zero = rw (a, b, c)
same_alone q o u a b c (suc r) = ap (grant_alone q) (same_alone q o u a b c r)

pub isolated : Isolated
isolated f g q w v i k rw' rv hi hk a b c r = alone_is f q w rw' i (suc r) hi ∙ same_alone q (own_of f w i) (own_of g v k) a b c r ∙ sym (alone_is g q v rv k (suc r) hk)

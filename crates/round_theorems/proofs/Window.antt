-- A turn gives one job what a grant by itself gives it, and changes nothing else; and so do the turns of a round. Assumes nothing.
use mathlib.Core.Path.{◌≡◌, refl, sym, ◌∙◌, ap, subst}
use mathlib.Core.Logic.{◌⊎◌, inl, inr, ◌≢◌}
use mathlib.Core.Bool.{false}
use mathlib.Core.List.{List}
use Prim.Native.Nat.{ℕ, zero, suc, ◌+◌, ◌≤◌, ◌<◌}
use native.Mathlib.Omega.{arith}
use lib.ListN.{length, get_or, set, length-set}
use lib.Seq.{get_or-set_same, get_or-set_other}
use borrow.Author.Count.{below_more}
use Rattle.checker.specs.Grant.{Granted, grant_of}
use Rattle.grants.proofs.Any.{every_grant}
use Rattle.jobs.specs.declared.parts.Part.{Part}
use Rattle.jobs.specs.declared.parts.Parts.{Parts}
use Rattle.jobs.specs.declared.turns.Job.{Job}
use Rattle.jobs.specs.Parts.{part_of, with_part, outside, overlap, clash, clash_before, refused_of}
use Rattle.jobs.specs.Turns.{row_after, job_turn, Window, window, no_row, row_at, parts_at, turn_at, turns_to}
use Rattle.format.proofs.Tests.{neither}
use Rattle.jobs.proofs.Tests.{outside_not, none_at, runs_inside, runs_apart, overlap_swap}
use Rattle.jobs.proofs.Turning.{set_keeps}
use Rattle.jobs.proofs.Areas.{part_length, with_part_length, part_same, part_other, with_part_else}
use Rattle.round_theorems.specs.Rounds.{In, Own, own_of, grant_alone}

-- ---- windows of the same shape
pub record Same (w v : Window) : Type 0 where
  pub rows_count : length v.rows ≡ length w.rows
  pub marks_count : length v.marks ≡ length w.marks
  pub owners : (k : ℕ) → (row_at v.rows k).owner ≡ (row_at w.rows k).owner
  pub parts : (k : ℕ) → parts_at v.rows k ≡ parts_at w.rows k

pub same_refl : (w : Window) → Same w w
same_refl w = record { rows_count = refl; marks_count = refl; owners = λ k. refl; parts = λ k. refl }

pub same_trans : (w v u : Window) → Same w v → Same v u → Same w u
same_trans w v u a b = record {
  rows_count = b.rows_count ∙ a.rows_count;
  marks_count = b.marks_count ∙ a.marks_count;
  owners = λ k. b.owners k ∙ a.owners k;
  parts = λ k. b.parts k ∙ a.parts k;
}

-- ---- a window whose round is not refused: every part in its area, no two marks parts overlap
module _ (f : List ℕ) where
  pub record Fit (w : Window) : Type 0 where
    pub inside : (i : ℕ) → i < length w.rows → outside (parts_at w.rows i) (length f) (length w.marks) ≡ false
    pub apart : (i k : ℕ) → i < length w.rows → k < length w.rows → i ≢ k → overlap (parts_at w.rows i).marks (parts_at w.rows k).marks ≡ false

  fit_same : (w v : Window) → Same w v → Fit w → Fit v
  fit_same w v s fit = record {
    inside = λ i h. let g : i < length w.rows = rw s.rows_count at h in rw (s.parts i, s.marks_count) (fit.inside i g);
    apart = λ i k h g ne.
        let hi : i < length w.rows = rw s.rows_count at h in
        let hk : k < length w.rows = rw s.rows_count at g in
        rw (s.parts i, s.parts k) (fit.apart i k hi hk ne);
  }

  module _ (w : Window) (q : ℕ) (runs : refused_of (parts_at w.rows) (length w.rows) (length f) (length w.marks) q ≡ false) where
    abbrev at : ℕ → Parts
    at i = parts_at w.rows i

    earlier : (i k : ℕ) → i < k → k < length w.rows → overlap (at i).marks (at k).marks ≡ false
    unfolding clash
    earlier i k l h =
        let e = none_at (clash_before at) (length w.rows) k (runs_apart at _ _ _ _ runs) h in
        (neither (overlap (at i).file (at k).file) (overlap (at i).marks (at k).marks) (none_at (λ x. clash (at x) (at k)) k i e l)).1

    apart_by : (i k : ℕ) → i < length w.rows → k < length w.rows → (i < k) ⊎ (k < i) → overlap (at i).marks (at k).marks ≡ false
    apart_by i k hi hk (inl l) = earlier i k l hk
    apart_by i k hi hk (inr l) = overlap_swap (at i).marks (at k).marks ∙ earlier k i l hi

    pub fit_of : Fit w
    fit_of = record {
      inside = λ i h. none_at (λ x. outside (at x) (length f) (length w.marks)) (length w.rows) i (runs_inside at _ _ _ _ runs) h;
      apart = λ i k hi hk ne. apart_by i k hi hk (grind arith);
    }

  -- ---- one turn
  module _ (q : ℕ) (w : Window) (fit : Fit w) (i : ℕ) (h : i < length w.rows) where
    abbrev j : Job
    j = row_at w.rows i

    abbrev p : Part
    p = j.parts.marks

    abbrev g : Granted
    g = grant_of (part_of j.parts.file f) (part_of p w.marks) j.state q

    abbrev next : Window
    next = window (set w.rows i (row_after j g)) (with_part p w.marks g.marks)

    in_area : p.from + p.len ≤ length w.marks
    in_area = (outside_not j.parts (length f) (length w.marks) (fit.inside i h)).1

    left : length g.marks ≡ p.len
    left = (every_grant (part_of j.parts.file f) (part_of p w.marks) j.state q).marks_count ∙ part_length p w.marks in_area

    row_here : row_at next.rows i ≡ row_after j g
    row_here = get_or-set_same w.rows i (row_after j g) no_row h

    row_there : (k : ℕ) → k ≢ i → row_at next.rows k ≡ row_at w.rows k
    row_there k ne = get_or-set_other w.rows i k (row_after j g) no_row ne

    next_same : Same w next
    next_same = record {
      rows_count = length-set w.rows i (row_after j g);
      marks_count = with_part_length p w.marks g.marks in_area left;
      owners = λ k. set_keeps (λ (z : Job). z.owner) w.rows i (row_after j g) no_row refl k;
      parts = λ k. set_keeps (λ (z : Job). z.parts) w.rows i (row_after j g) no_row refl k;
    }

    turn_same : Same w (turn_at f q w i)
    unfolding job_turn
    turn_same = next_same

    abbrev own_by_lem : Job → List ℕ → Own
    own_by_lem z m = record { file = part_of z.parts.file f; marks = part_of z.parts.marks m; state = z.state; answer = z.answer }

    -- the job has what its grant leaves
    turn_own : own_of f (turn_at f q w i) i ≡ grant_alone q (own_of f w i)
    unfolding job_turn
    turn_own =
        ap (λ (z : Job). own_by_lem z next.marks) row_here
        ∙ ap (λ (m : List ℕ). record { file = part_of j.parts.file f; marks = m; state = g.state; answer = g.answer }) (part_same p w.marks g.marks in_area left)

    -- another has what it had
    turn_other : (k : ℕ) → k < length w.rows → k ≢ i → own_of f (turn_at f q w i) k ≡ own_of f w k
    unfolding job_turn
    turn_other k l ne =
        ap (λ (z : Job). own_by_lem z next.marks) (row_there k ne)
        ∙ ap (λ (m : List ℕ). record { file = part_of (row_at w.rows k).parts.file f; marks = m; state = (row_at w.rows k).state; answer = (row_at w.rows k).answer })
        (part_other p w.marks g.marks in_area left (parts_at w.rows k).marks (fit.apart i k h l (λ e. ne (sym e))))

    not_in : (x : ℕ) → (In x p → ⊥) → (x < p.from) ⊎ (p.from + p.len ≤ x)
    not_in x free = grind arith

    -- a mark outside its part stays
    turn_else : (x : ℕ) → (In x p → ⊥) → get_or (turn_at f q w i).marks x 0 ≡ get_or w.marks x 0
    unfolding job_turn
    turn_else x free = with_part_else p w.marks g.marks in_area left x (not_in x free)

  -- ---- the turns of the first n jobs
  module _ (q : ℕ) (w : Window) (fit : Fit w) where
    abbrev to : ℕ → Window
    to n = turns_to f q w n

    pub to_same : (n : ℕ) → n ≤ length w.rows → Same w (to n)
    unfolding turns_to
    to_same zero l = same_refl w
    to_same (suc n) l =
        let s = to_same n (omega arith) in
        let h : n < length (to n).rows = rw s.rows_count (omega arith) in
        same_trans w (to n) (to (suc n)) s (turn_same q (to n) (fit_same w (to n) s fit) n h)

    to_fit : (n : ℕ) → n ≤ length w.rows → Fit (to n)
    to_fit n l = fit_same w (to n) (to_same n l) fit

    here : (n : ℕ) → n < length w.rows → n < length (to n).rows
    here n l = rw (to_same n (omega arith)).rows_count l

    -- a job whose turn is to come has what it had
    to_rest : (n : ℕ) → n ≤ length w.rows → (k : ℕ) → n ≤ k → k < length w.rows → own_of f (to n) k ≡ own_of f w k
    unfolding turns_to
    to_rest zero l k g h = refl
    to_rest (suc n) l k g h =
        let hk : k < length (to n).rows = rw (to_same n (omega arith)).rows_count h in
        turn_other q (to n) (to_fit n (omega arith)) n (here n (omega arith)) k hk (λ e. omega arith) ∙ to_rest n (omega arith) k (omega arith) h

    -- a job whose turn is over has what its grant leaves of what it had at first
    pub to_own : (n : ℕ) → n ≤ length w.rows → (k : ℕ) → k < n → own_of f (to n) k ≡ grant_alone q (own_of f w k)
    unfolding turns_to
    to_own zero l k h = absurd (omega arith)
    to_own (suc n) l k h =
        below_more (λ i. own_of f (turn_at f q (to n) n) i ≡ grant_alone q (own_of f w i)) n
        (λ i g. turn_other q (to n) (to_fit n (omega arith)) n (here n (omega arith)) i (rw (to_same n (omega arith)).rows_count (omega arith)) (λ e. omega arith) ∙ to_own n (omega arith) i g)
        (turn_own q (to n) (to_fit n (omega arith)) n (here n (omega arith)) ∙ ap (grant_alone q) (to_rest n (omega arith) n (omega arith) (omega arith)))
        k (omega arith)

    -- a mark in no job's part stays
    pub to_else : (x : ℕ) → ((k : ℕ) → k < length w.rows → In x (parts_at w.rows k).marks → ⊥) → (n : ℕ) → n ≤ length w.rows → get_or (to n).marks x 0 ≡ get_or w.marks x 0
    unfolding turns_to
    to_else x free zero l = refl
    to_else x free (suc n) l =
        turn_else q (to n) (to_fit n (omega arith)) n (here n (omega arith)) x
        (λ g. free n (omega arith) (subst (λ (z : Parts). In x z.marks) ((to_same n (omega arith)).parts n) g)) ∙ to_else x free n (omega arith)

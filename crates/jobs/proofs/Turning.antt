-- Laws of a job's turn and of turns in order. Assumes nothing.
use mathlib.Core.Path.{◌≡◌, refl, ◌∙◌, ap}
use mathlib.Core.Bool.{Bool, true, false, cond, or-true}
use mathlib.Core.List.{List, [], ◌∷◌, ◌++◌}
use Prim.Native.Nat.{ℕ, zero, suc, ◌+◌, ◌-◌, ◌≤◌, ◌<◌}
use native.Mathlib.Numerals.{add-one}
use native.Mathlib.Omega.{arith}
use lib.ListN.{length, get_or, set, take, drop, length-set, get_or-append, take-append-drop}
use lib.IntN.{ℤ, pos, negsuc}
use lib.Seq.{length-take-le, get_or-take}
use lib.Dec.{eqb}
use borrow.Author.Tests.{lt-ltb}
use Rattle.std.proofs.lemmas.List.{set-append_left}
use Rattle.jobs.specs.declared.parts.Part.{Part}
use Rattle.jobs.specs.declared.parts.Parts.{Parts}
use Rattle.jobs.specs.declared.turns.Job.{Job}
use Rattle.checker.specs.Grant.{Granted, grant_of}
use Rattle.jobs.specs.Parts.{outside, clash, clash_before, any_to, any_outside, refused_of}
use Rattle.jobs.specs.Turns.{row_after, JobTurned, job_turned, job_turn, Window, window, no_row, row_at, parts_at, turn_at, turns_to, Rounded, rounded, round_of}
use Rattle.jobs.proofs.Tests.{none_at, outside_not, any_same, refused_by_parts}

back : (a n : ℕ) → (a + n) - a ≡ n
back a n = omega arith

-- a part as the code takes it: from a up to a + n
abbrev cut : Part → List ℕ → List ℕ
cut p s = take ((p.from + p.len) - p.from) (drop p.from s)

pub turn_is : (f m : List ℕ) (j : Job) (q : ℕ) (g : Granted)
    → g ≡ grant_of (cut j.parts.file f) (cut j.parts.marks m) j.state q
    → job_turned (row_after j g) (take j.parts.marks.from m ++ (g.marks ++ drop ((j.parts.marks.from + j.parts.marks.len) - j.parts.marks.from) (drop j.parts.marks.from m))) ≡ job_turn f m j q
unfolding job_turn
turn_is f m j q g e =
    let a = back j.parts.file.from j.parts.file.len in
    let b = back j.parts.marks.from j.parts.marks.len in
    rw (← (rw (a, b) at e), b)

pub turns_more : (f : List ℕ) (q : ℕ) (w : Window) (js : List Job) (m : List ℕ) (i : ℕ) (t : JobTurned)
    → window js m ≡ turns_to f q w i
    → t ≡ job_turn f m (row_at js i) q
    → window (set js i t.row) t.marks ≡ turns_to f q w (i + 1)
unfolding turns_to
turns_more f q w js m i t e g = rw (add-one, ← e, g)

-- ---- parts stay
-- what a stored element has in common with the one before it stays, wherever it is looked for
pub set_keeps : {A B : Type 0} (h : A → B) (l : List A) (i : ℕ) (a d : A) → h a ≡ h (get_or l i d) → (k : ℕ) → h (get_or (set l i a) k d) ≡ h (get_or l k d)
set_keeps h [] i a d e k = refl
set_keeps h (x ∷ l) zero a d e zero = e
set_keeps h (x ∷ l) zero a d e (suc k) = refl
set_keeps h (x ∷ l) (suc i) a d e zero = refl
set_keeps h (x ∷ l) (suc i) a d e (suc k) = set_keeps h l i a d e k

turn_parts : (f : List ℕ) (q : ℕ) (w : Window) (i k : ℕ) → parts_at (turn_at f q w i).rows k ≡ parts_at w.rows k
unfolding job_turn
turn_parts f q w i k = set_keeps (λ (j : Job). j.parts) w.rows i _ no_row refl k

turns_parts : (f : List ℕ) (q : ℕ) (w : Window) (n k : ℕ) → parts_at (turns_to f q w n).rows k ≡ parts_at w.rows k
unfolding turns_to
turns_parts f q w zero k = refl
turns_parts f q w (suc n) k = turn_parts f q (turns_to f q w n) n k ∙ turns_parts f q w n k

-- where the turns of the first i rows are made, row i lies in its areas if all rows did at first
pub turn_fits : (f : List ℕ) (q : ℕ) (w : Window) (n : ℕ) → any_outside (parts_at w.rows) n (length f) (length w.marks) ≡ false
    → (js : List Job) (m : List ℕ) (i : ℕ) → i < n → window js m ≡ turns_to f q w i → length m ≡ length w.marks
    → ((parts_at js i).file.from + (parts_at js i).file.len ≤ length f) × ((parts_at js i).marks.from + (parts_at js i).marks.len ≤ length m)
turn_fits f q w n none js m i h e s =
    let r : parts_at js i ≡ parts_at w.rows i = ap (λ (v : Window). parts_at v.rows i) e ∙ turns_parts f q w i i in
    outside_not (parts_at js i) (length f) (length m) (rw (r, s) (none_at (λ k. outside (parts_at w.rows k) (length f) (length w.marks)) n i none h))

-- a clash with one of the first i rows
pub shares_before : (js : List Job) (i : ℕ) (b : Bool) → b ≡ any_to (λ k. clash (parts_at (take i js) k) (parts_at js i)) (length (take i js)) → i ≤ length js
    → b ≡ clash_before (parts_at js) i
shares_before js i b e h =
    let l : length (take i js) ≡ i = length-take-le i js h in
    let f : any_to (λ k. clash (parts_at (take i js) k) (parts_at js i)) i ≡ clash_before (parts_at js) i =
    any_same _ _ i (λ k g. ap (λ (j : Job). clash j.parts (parts_at js i)) (get_or-take i js k no_row g)) in
    e ∙ ap (any_to (λ k. clash (parts_at (take i js) k) (parts_at js i))) l ∙ f

-- ---- a round
pub too_many : (p : ℕ → Parts) (n files marks q : ℕ) → 8 < n → refused_of p n files marks q ≡ true
unfolding refused_of
too_many p n files marks q h = rw (lt-ltb 8 n h) (or-true (eqb q 0))

pub round_stops : (f : List ℕ) (w : Window) (n q : ℕ) → refused_of (parts_at w.rows) n (length f) (length w.marks) q ≡ true → rounded (pos 24) w ≡ round_of f w n q
unfolding round_of
round_stops f w n q h = rw h

pub round_goes : (f : List ℕ) (w : Window) (n q : ℕ) (v : Window) → refused_of (parts_at w.rows) n (length f) (length w.marks) q ≡ false
    → v ≡ turns_to f q w n → rounded (negsuc 0) v ≡ round_of f w n q
unfolding round_of
round_goes f w n q v h e = rw h (ap (rounded (negsuc 0)) e)

-- ---- a round over the first rows of a list, with others behind them
abbrev behind : List Job → Window → Window
behind tail w = window (w.rows ++ tail) w.marks

turn_front : (f : List ℕ) (q : ℕ) (tail : List Job) (w : Window) (i : ℕ) → i < length w.rows → turn_at f q (behind tail w) i ≡ behind tail (turn_at f q w i)
turn_front f q tail w i h = rw (get_or-append w.rows tail no_row i h) (rw (set-append_left w.rows tail i (job_turn f w.marks (row_at w.rows i) q).row h))

module _ (f : List ℕ) (q : ℕ) (js tail : List Job) (m : List ℕ) where
  abbrev first : Window
  first = window js m

  turns_count : (n : ℕ) → length (turns_to f q first n).rows ≡ length js
  unfolding turns_to
  turns_count zero = refl
  turns_count (suc n) = length-set (turns_to f q first n).rows n _ ∙ turns_count n

  turns_front : (n : ℕ) → n ≤ length js → turns_to f q (behind tail first) n ≡ behind tail (turns_to f q first n)
  unfolding turns_to
  turns_front zero h = refl
  turns_front (suc n) h =
      let here : n < length (turns_to f q first n).rows = rw (turns_count n) h in
      rw (turns_front n (omega arith)) (turn_front f _ tail (turns_to f q first n) n here)

  abbrev with_tail : Rounded → Rounded
  with_tail r = rounded r.answer (behind tail r.window)

  round_front : with_tail (round_of f first (length js) q) ≡ round_of f (behind tail first) (length js) q
  unfolding round_of
  round_front =
      rw (
        refused_by_parts (parts_at (js ++ tail)) (parts_at js) (length js) (length f) (length m) q
            (λ k h. ap (λ (j : Job). j.parts) (get_or-append js tail no_row k h)),
        turns_front (length js) (omega arith),
      )
      (by (refused_of (parts_at js) (length js) (length f) (length m) q))
    where
      by : (b : Bool) → with_tail (cond b (rounded (pos 24) first) (rounded (negsuc 0) (turns_to f q first (length js))))
          ≡ cond b (rounded (pos 24) (behind tail first)) (rounded (negsuc 0) (behind tail (turns_to f q first (length js))))
      by true = refl
      by false = refl

pub round_of_first : (f : List ℕ) (js : List Job) (m : List ℕ) (n q : ℕ) (a : ℤ) (ks : List Job) (v : List ℕ) → n ≤ length js
    → rounded a (window ks v) ≡ round_of f (window (take n js) m) (length (take n js)) q
    → rounded a (window (ks ++ drop n js) v) ≡ round_of f (window js m) n q
round_of_first f js m n q a ks v h e =
    let c : length (take n js) ≡ n = length-take-le n js h in
    let r = ap (with_tail f q (take n js) (drop n js) m) e ∙ round_front f q (take n js) (drop n js) m in
    rw (c, take-append-drop n js) at r

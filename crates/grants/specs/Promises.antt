-- What grants promise: a list of them from fresh, and each by itself on any state. Assumes nothing.
use Rattle.std.specs.Prelude.{◌≡◌, ◌↔◌, ◌≢◌, Bool, true, false, ◌&&◌, ◌||◌, List, ◌∷◌, ◌++◌, ℕ, ◌+◌, ◌/◌, ◌≤◌, ◌<◌, min, length, get_or, leb, eqb, ℤ, pos, negsuc}
use Rattle.std.proofs.Math.Option.{some}
use Rattle.records.specs.Opening.{file_end, Unpadded}
use Rattle.states.specs.declared.state.Stage.{Stage}
use Rattle.states.specs.declared.state.Stage.TheVariants.{Done, OutOfRange}
use Rattle.checker.specs.Step.{step_by, plain_run}
use Rattle.states.specs.Stages.{done, fresh, finished, answer_of, location_in}
use Rattle.states.specs.Saved.{state_length, save, load}
use Rattle.checker.specs.Grant.{Granted, granted, grant_of}
use Rattle.grants.specs.Lists.{Grant, next_of, play, Fair}

-- the steps within which the plain run over a file is finished, whatever the file and the first marks say
abbrev pub step_limit : List ℕ → ℕ
step_limit f = length f / 4 + 1

abbrev pub InTime : List ℕ → List ℕ → Type 0
InTime f m = finished (plain_run f m (step_limit f)).at.state.stage ≡ true

-- the plain run's length: the steps that it makes until it is finished
abbrev pub run_length : List ℕ → List ℕ → ℕ
run_length f m = (plain_run f m (step_limit f)).made

-- what is promised of a list of grants from fresh over the list's file f and marks m
pub record Promise (f m : List ℕ) (gs : List Grant) : Type 0 where
  -- 9.3: "A grant makes as many steps as it has or as remain, and reports that number": the reported steps add up to the smaller of what
  -- the grants not refused with 21 hold and the plain run's length
  pub steps_add : (play f m gs).steps ≡ min (play f m gs).held (run_length f m)
  -- 9.12: "A list's verdict is what its last grant not refused with 21 answers, or -1 if there is none; the plain run's is its finishing
  -- step's number, and -1 before that step": the two are one after that many steps
  pub verdict_is : (play f m gs).answer ≡ answer_of (plain_run f m (play f m gs).steps).at.state.stage
  -- 11.1: "Every refusal of a grant, a repeated one too, carries the file offset of the record at fault": so is the location
  pub location_is : (play f m gs).location ≡ location_in (plain_run f m (play f m gs).steps).at.state.stage
  -- 9.13: "state and marks after each step are the step rules'": so are the list's
  pub marks_are : (play f m gs).marks ≡ (plain_run f m (play f m gs).steps).at.marks
  pub state_is : (play f m gs).state ≡ save (plain_run f m (play f m gs).steps).at.state
  -- 9.13: "one claim about the list, not one for each grant": a single grant of that many steps from fresh gives this verdict and this
  -- location, as many steps, this state and these marks
  pub single : grant_of f m (save fresh) (play f m gs).steps
      ≡ granted (play f m gs).answer (play f m gs).location (play f m gs).steps (play f m gs).state (play f m gs).marks
  -- 1.9: "The check ends within length/4 + 1 steps": so does the plain run
  pub ends : InTime f m
  pub short : run_length f m ≤ step_limit f
  -- 2.1: "accepted", 0: a grant of the list answers it exactly if the plain run accepts within the steps made by then
  pub accepts : (before : List Grant) (g : Grant) (after : List Grant)
      → gs ≡ before ++ (g ∷ after)
      → ((next_of f (play f m before) g).answer ≡ pos 0)
      ↔ (answer_of (plain_run f m ((play f m before).steps + (next_of f (play f m before) g).steps)).at.state.stage ≡ pos 0)
  -- 9.11: "may be lent others, which stay unchanged": no grant writes to a file, and marks that are not the list's come back as lent
  pub others : (before : List Grant) (g : Grant) (after : List Grant) (lent : List ℕ × List ℕ)
      → gs ≡ before ++ (g ∷ after)
      → g.other ≡ some lent
      → (next_of f (play f m before) g).marks ≡ lent.1

-- DEMAND 3
pub record Demand3 : Type 0 where
  -- 1.8: "Whatever the list of grants, steps, verdict, location, marks and state are those of the plain run"
  pub lists : (f m : List ℕ) (gs : List Grant) → Fair f m gs → Promise f m gs
  -- 1.10: "nothing unfinished ever reads as accepted": whatever state is lent, made up or not, a grant that answers 0 leaves one finished
  -- as accepted
  pub accepted : (f m l : List ℕ) (n : ℕ)
      → (grant_of f m l n).answer ≡ pos 0
      → (length (grant_of f m l n).state ≡ state_length) × (load (grant_of f m l n).state ≡ done 0 0)

-- 9.9: "A saved number outside its range, which no fresh check leaves": the saved numbers of every state that a fresh check comes to are
-- read again as that state
abbrev pub FreshInRange : Type 0
FreshInRange =
    (f m : List ℕ) (k : ℕ)
    → (load (save (plain_run f m k).at.state) ≡ (plain_run f m k).at.state) × ((plain_run f m k).at.state.stage ≢ OutOfRange)

-- 2.5: "-1, 0 to 14, 20, 21 and 23"
abbrev pub comes_back : ℤ → Bool
comes_back (pos v) = leb v 14 || (eqb v 20 || (eqb v 21 || eqb v 23))
comes_back (negsuc n) = eqb n 0

-- the numbers that 11.2 names a record for
abbrev pub has_location : ℤ → Bool
has_location (pos v) = leb 7 v && leb v 14 || eqb v 23
has_location (negsuc n) = false

-- A GRANT on any state whatever, made up or not; 9.8: "A state made up by the caller is stepped by the same rules"
pub record AnyState (f m l : List ℕ) (n : ℕ) : Type 0 where
  -- 9.3: "A grant makes as many steps as it has or as remain"
  pub at_most : (grant_of f m l n).steps ≤ n
  -- 1.5: "A refusal is one number of the table"
  pub number : comes_back (grant_of f m l n).answer ≡ true
  -- 11.2: "0 for the others"
  pub no_location : has_location (grant_of f m l n).answer ≡ false → (grant_of f m l n).location ≡ 0
  -- 9.7: "A state of another length than 34 is 20 in 0 steps, and neither it nor the marks change"
  pub other_length : length l ≢ state_length → grant_of f m l n ≡ granted (pos 20) 0 0 l m
  -- 9.4: "a grant of 0 does nothing, and 21 is not looked for"
  pub of_none : length l ≡ state_length → n ≡ 0 → grant_of f m l n ≡ granted (answer_of (load l).stage) (location_in (load l).stage) 0 l m
  -- 9.5: "A finished state repeats its verdict in 0 steps, whatever is lent", and its location: "a repeated one too" (11.1)
  pub repeats : length l ≡ state_length
      → finished (load l).stage ≡ true
      → grant_of f m l n ≡ granted (answer_of (load l).stage) (location_in (load l).stage) 0 l m
  -- 9.6: "21 changes neither state nor marks, makes 0 steps and does not finish the check"
  pub turned_away : (grant_of f m l n).answer ≡ pos 21 → grant_of f m l n ≡ granted (pos 21) 0 0 l m
  -- 9.2: "Marks 0 to 7 and beyond the file's end are never written", "Bytes and marks from eof on are neither judged nor written" (6.6); none
  -- is added or lost
  pub marks_count : length (grant_of f m l n).marks ≡ length m
  pub marks_low : (i : ℕ) → i < 8 → get_or (grant_of f m l n).marks i 0 ≡ get_or m i 0
  pub marks_beyond : (i : ℕ) → file_end f ≤ i → get_or (grant_of f m l n).marks i 0 ≡ get_or m i 0

abbrev pub EveryGrant : Type 0
EveryGrant = (f m l : List ℕ) (n : ℕ) → AnyState f m l n

-- what a grant of n gives after another has given r, the same file lent, with the steps of both
abbrev pub and_then : List ℕ → Granted → ℕ → Granted
and_then f r n =
    let t = grant_of f r.marks r.state n in
    granted t.answer t.location (r.steps + t.steps) t.state t.marks

-- A GRANT in two parts is the grant, on any state whatever, made up or not: the same answer, location, state and marks, and the steps add
-- up. A first part refused with 21 is set aside, since a second of 0 then answers -1: "21 is not looked for" (9.4); 9.14: "Splitting a
-- grant in two makes no difference"
abbrev pub SplitsAlike : Type 0
SplitsAlike = (f m l : List ℕ) (a b : ℕ) → (grant_of f m l a).answer ≢ pos 21 → grant_of f m l (a + b) ≡ and_then f (grant_of f m l a) b

-- 9.1: "A refusing step .. finishes the check and changes no mark"
abbrev pub RefusalKeepsMarks : Type 0
RefusalKeepsMarks =
    (f m : List ℕ) (n : ℕ) (s : Stage) (v p : ℕ) → (step_by f m n s).state.stage ≡ Done v p → v ≢ 0 → (step_by f m n s).marks ≡ m

-- what two grants give back is the same, of the marks those below e
pub record Alike (e : ℕ) (r s : Granted) : Type 0 where
  pub answer : r.answer ≡ s.answer
  pub location : r.location ≡ s.location
  pub steps : r.steps ≡ s.steps
  pub state : r.state ≡ s.state
  pub marks : (i : ℕ) → i < e → get_or r.marks i 0 ≡ get_or s.marks i 0

-- THE PADDING CANNOT MATTER: behind the bytes b, whose eof is their number, stand p or as many others q, up to 511. With marks of one number
-- that agree below eof every grant is the same on any state whatever, made up or not; and so is a list of grants, which is one (`single`).
-- 6.6: "Bytes and marks from eof on are neither judged nor written"
abbrev pub PaddingIdle : Type 0
PaddingIdle =
    (b p q m o l : List ℕ) (n : ℕ)
    → Unpadded b
    → length p ≡ length q
    → length p ≤ 511
    → length m ≡ length o
    → ((i : ℕ) → i < length b → get_or m i 0 ≡ get_or o i 0)
    → Alike (length b) (grant_of (b ++ p) m l n) (grant_of (b ++ q) o l n)

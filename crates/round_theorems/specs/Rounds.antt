-- FILES BY TURNS: statements about rounds of jobs (section 12 of docs/RULES.md). Assumes nothing.
use Rattle.std.specs.Prelude.{◌≡◌, ◌↔◌, ◌≢◌, ◌⊎◌, true, List, ℕ, zero, suc, ◌+◌, ◌*◌, ◌-◌, ◌/◌, ◌≤◌, ◌<◌, length, get_or, ℤ, pos, negsuc}
use Rattle.checker.specs.Step.{Conf, plain_run}
use Rattle.states.specs.Stages.{fresh, finished, answer_of, location_in}
use Rattle.states.specs.Saved.{state_length, save, load}
use Rattle.checker.specs.Grant.{Granted, grant_of}
use Rattle.grants.specs.Promises.{comes_back}
use Rattle.demands.specs.Acceptance.{Accepted}
use Rattle.jobs.specs.declared.parts.Part.{Part}
use Rattle.jobs.specs.Parts.{part_of}
use Rattle.jobs.specs.Turns.{Window, row_at, parts_at, Rounded, round_of}

-- ---- REFUSED WITH 24

-- byte i of an area lies in a part
abbrev pub In : ℕ → Part → Type 0
In i p = (p.from ≤ i) × (i < p.from + p.len)

-- two parts have a byte in common
abbrev pub Share : Part → Part → Type 0
Share p r = (i : ℕ) × (In i p × In i r)

-- a round over all rows of a window
abbrev pub round_from : List ℕ → ℕ → Window → Rounded
round_from f q w = round_of f w (length w.rows) q

-- 12.4: "parts outside an area": a row has one, of the file area or of the marks area
abbrev pub SomeOutside : List ℕ → Window → Type 0
SomeOutside f w =
    (k : ℕ)
    × ((k < length w.rows)
    × ((length f < (parts_at w.rows k).file.from + (parts_at w.rows k).file.len)
    ⊎ (length w.marks < (parts_at w.rows k).marks.from + (parts_at w.rows k).marks.len)))

-- 12.4: "overlapping parts of nonzero length": two rows have some
abbrev pub SomeOverlap : Window → Type 0
SomeOverlap w =
    (i : ℕ)
    × ((k : ℕ)
    × ((i < k)
    × ((k < length w.rows)
    × (Share (parts_at w.rows i).file (parts_at w.rows k).file ⊎ Share (parts_at w.rows i).marks (parts_at w.rows k).marks))))

-- 12.4: "q of 0, more than eight jobs, parts outside an area or overlapping parts of nonzero length: refused with 24, nothing changed"
pub record Refusal (f : List ℕ) (q : ℕ) (w : Window) : Type 0 where
  pub exactly : ((round_from f q w).answer ≡ pos 24) ↔ ((q ≡ 0) ⊎ ((8 < length w.rows) ⊎ (SomeOutside f w ⊎ SomeOverlap w)))
  pub unchanged : (round_from f q w).answer ≡ pos 24 → (round_from f q w).window ≡ w

abbrev pub Refusals : Type 0
Refusals = (f : List ℕ) (q : ℕ) (w : Window) → Refusal f q w

-- ---- ROUNDS

-- r rounds, "with one q and the areas and rows untouched between rounds" (12.6)
unfoldable pub rounds_of : List ℕ → ℕ → Window → ℕ → Window
rounds_of f q w zero = w
rounds_of f q w (suc r) = (round_from f q (rounds_of f q w r)).window

-- the first round is not refused with 24; by `goes_on` then none is
abbrev pub NotRefused : List ℕ → ℕ → Window → Type 0
NotRefused f q w = (round_from f q w).answer ≢ pos 24

-- what is a job's own: what stands in its part of the file area and of the marks area, its state and its last answer
pub record Own : Type 0 where
  pub file : List ℕ
  pub marks : List ℕ
  pub state : List ℕ
  pub answer : ℤ

abbrev pub own_of : List ℕ → Window → ℕ → Own
own_of f w k =
    let j = row_at w.rows k in
    record { file = part_of j.parts.file f; marks = part_of j.parts.marks w.marks; state = j.state; answer = j.answer }

-- and after r rounds
abbrev pub own_after : List ℕ → ℕ → Window → ℕ → ℕ → Own
own_after f q w k r = own_of f (rounds_of f q w r) k

-- a grant of q steps to a job by itself, with no other job near; what it leaves the job; and r of them
abbrev pub grant_to : ℕ → Own → Granted
grant_to q o = grant_of o.file o.marks o.state q

abbrev pub grant_alone : ℕ → Own → Own
grant_alone q o = let g = grant_to q o in record { file = o.file; marks = g.marks; state = g.state; answer = g.answer }

unfoldable pub grants_alone : ℕ → Own → ℕ → Own
grants_alone q o zero = o
grants_alone q o (suc r) = grant_alone q (grants_alone q o r)

-- what is promised of rounds where the first is not refused, whatever rows, states, files and marks
pub record RoundsKept (f : List ℕ) (q : ℕ) (w : Window) : Type 0 where
  -- no later round is refused: each "answers -1" (12.3)
  pub goes_on : (r : ℕ) → (round_from f q (rounds_of f q w r)).answer ≡ negsuc 0
  -- 12.6: "each job's verdicts and marks depend on its own part, its own row and q only": after r rounds its own is what r grants of q
  -- steps to it alone make of it
  pub alone : (k r : ℕ) → k < length w.rows → own_after f q w k r ≡ grants_alone q (own_of f w k) r
  -- 12.5: "A round changes nothing else": not the number of rows, an owner or a part, nor the number of marks or a mark in no job's part
  pub rows_count : (r : ℕ) → length (rounds_of f q w r).rows ≡ length w.rows
  pub owners : (k r : ℕ) → (row_at (rounds_of f q w r).rows k).owner ≡ (row_at w.rows k).owner
  pub parts : (k r : ℕ) → parts_at (rounds_of f q w r).rows k ≡ parts_at w.rows k
  pub marks_count : (r : ℕ) → length (rounds_of f q w r).marks ≡ length w.marks
  pub marks_else : (i r : ℕ)
      → ((k : ℕ) → k < length w.rows → In i (parts_at w.rows k).marks → ⊥)
      → get_or (rounds_of f q w r).marks i 0 ≡ get_or w.marks i 0

abbrev pub Rounds : Type 0
Rounds = (f : List ℕ) (q : ℕ) (w : Window) → NotRefused f q w → RoundsKept f q w

-- TWO WINDOWS in which a job has the same file, marks and state, wherever its parts lie, whoever owns it, whatever it answered last and
-- whatever its neighbours hold: after each round it has the same, and the same answer
abbrev pub Isolated : Type 0
Isolated =
    (f g : List ℕ) (q : ℕ) (w v : Window) (i k : ℕ)
    → NotRefused f q w
    → NotRefused g q v
    → i < length w.rows
    → k < length v.rows
    → (own_of f w i).file ≡ (own_of g v k).file
    → (own_of f w i).marks ≡ (own_of g v k).marks
    → (own_of f w i).state ≡ (own_of g v k).state
    → (r : ℕ) → own_after f q w i (suc r) ≡ own_after g q v k (suc r)

-- ---- A ROW, made up or not: what a grant promises, read per job

-- what is promised of job k of a window whose first round is not refused, with a state of 34 numbers (10.1); 12.9: "with -1 a job made
-- q steps, with 21 none"
pub record AnyJob (f : List ℕ) (q : ℕ) (w : Window) (k : ℕ) : Type 0 where
  -- a row's answer is a number that comes back from a check
  pub number : (r : ℕ) → comes_back (own_after f q w k (suc r)).answer ≡ true
  -- 12.3: "a finished one its verdict", and nothing else of its own changes
  pub repeats : (r : ℕ)
      → finished (load (own_of f w k).state).stage ≡ true
      → own_after f q w k (suc r)
      ≡ record { file = (own_of f w k).file; marks = (own_of f w k).marks; state = (own_of f w k).state; answer = answer_of (load (own_of f w k).state).stage }
  -- a row that answers neither -1 nor 21 is finished, with that verdict: so nothing unfinished ever reads as accepted
  pub verdict : (r : ℕ)
      → (own_after f q w k (suc r)).answer ≢ negsuc 0
      → (own_after f q w k (suc r)).answer ≢ pos 21
      → (finished (load (own_after f q w k (suc r)).state).stage ≡ true)
      × (answer_of (load (own_after f q w k (suc r)).state).stage ≡ (own_after f q w k (suc r)).answer)
  -- and one that answers either of them is not finished
  pub unfinished : (r : ℕ)
      → finished (load (own_after f q w k (suc r)).state).stage ≡ true
      → ((own_after f q w k (suc r)).answer ≢ negsuc 0) × ((own_after f q w k (suc r)).answer ≢ pos 21)
  -- 9.3: "A grant makes as many steps as it has or as remain": with -1 the turn made all q, with 21 none
  pub spent : (r : ℕ)
      → (own_after f q w k (suc r)).answer ≡ negsuc 0
      → (grant_to q (own_after f q w k r)).steps ≡ q
  pub sent_away : (r : ℕ)
      → (own_after f q w k (suc r)).answer ≡ pos 21
      → (grant_to q (own_after f q w k r)).steps ≡ 0
  -- the location that its grant gave, which no row holds, is given by a grant of 0 on its state, whatever file x and marks y are lent
  pub location : (r : ℕ) (x y : List ℕ)
      → (grant_of x y (own_after f q w k (suc r)).state 0).location
      ≡ (grant_to q (own_after f q w k r)).location

abbrev pub AnyJobs : Type 0
AnyJobs =
    (f : List ℕ) (q : ℕ) (w : Window) (k : ℕ)
    → NotRefused f q w
    → k < length w.rows
    → length (row_at w.rows k).state ≡ state_length
    → AnyJob f q w k

-- ---- A JOB BEGUN FRESH

-- 12.7: "(its length / 4 rounded down + 1) / q rounds, rounded up", of a job of so many bytes
abbrev pub rounds_within : ℕ → ℕ → ℕ
rounds_within n q = ((n / 4 + 1) + (q - 1)) / q

-- rounded up: the fewest rounds that grant so many steps
abbrev pub RoundedUp : Type 0
RoundedUp = (n q r : ℕ) → 0 < q → (rounds_within n q ≤ r) ↔ (n / 4 + 1 ≤ r * q)

-- where the plain run over a job's own file and marks is after the steps of r rounds
abbrev pub plain_at : Own → ℕ → ℕ → Conf
plain_at o q r = (plain_run o.file o.marks (r * q)).at

-- what is promised of job k of a window whose first round is not refused, where it is begun fresh
pub record FreshJob (f : List ℕ) (q : ℕ) (w : Window) (k : ℕ) : Type 0 where
  -- 12.8: "Demands 2 and 3 are read per job": after r rounds its state and marks are the plain run's after r * q steps, and so is its
  -- answer
  pub state_is : (r : ℕ) → (own_after f q w k r).state ≡ save (plain_at (own_of f w k) q r).state
  pub marks_are : (r : ℕ) → (own_after f q w k r).marks ≡ (plain_at (own_of f w k) q r).marks
  pub answer_is : (r : ℕ) → (own_after f q w k (suc r)).answer ≡ answer_of (plain_at (own_of f w k) q (suc r)).state.stage
  -- and so is the location, by a grant of 0 on its state, whatever file x and marks y are lent
  pub location_is : (r : ℕ) (x y : List ℕ)
      → (grant_of x y (own_after f q w k r).state 0).location ≡ location_in (plain_at (own_of f w k) q r).state.stage
  -- 12.7: "ends within (its length / 4 rounded down + 1) / q rounds, rounded up": its state is finished, and its answer is a verdict
  pub ends : (r : ℕ)
      → rounds_within (parts_at w.rows k).file.len q ≤ r
      → (finished (load (own_after f q w k r).state).stage ≡ true) × ((own_after f q w k r).answer ≢ negsuc 0)
  -- demand 2 per job: with marks as long as its file the answer is then 0 exactly if the file obeys the rules
  pub accepts : (r : ℕ)
      → rounds_within (parts_at w.rows k).file.len q ≤ r
      → (parts_at w.rows k).file.len ≤ (parts_at w.rows k).marks.len
      → ((own_after f q w k r).answer ≡ pos 0) ↔ Accepted (own_of f w k).file

abbrev pub FreshJobs : Type 0
FreshJobs =
    (f : List ℕ) (q : ℕ) (w : Window) (k : ℕ)
    → NotRefused f q w
    → k < length w.rows
    → (row_at w.rows k).state ≡ save fresh
    → FreshJob f q w k

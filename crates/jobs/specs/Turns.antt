-- A job's turn, and a round (section 12 of docs/RULES.md). Assumes nothing.
use Rattle.std.specs.Prelude.{ℕ, zero, suc, cond, List, [], length, get_or, set, ℤ, pos, negsuc}
use Rattle.jobs.specs.declared.parts.Part.{Part}
use Rattle.jobs.specs.declared.parts.Parts.{Parts}
use Rattle.jobs.specs.declared.turns.Job.{Job}
use Rattle.checker.specs.Grant.{Granted, grant_of}
use Rattle.jobs.specs.Parts.{part_of, with_part, no_parts, refused_of}

-- 12.3: "each row takes its grant's answer", and the state that its grant leaves; owner and parts stay; 12.2: "A row is owner, last answer,
-- the job's part of the file area and of the marks area, and its saved state"
abbrev pub row_after : Job → Granted → Job
row_after j g = record { owner = j.owner; answer = g.answer; parts = j.parts; state = g.state }

-- a row and the marks area
pub record JobTurned : Type 0 where
  pub row : Job
  pub marks : List ℕ

abbrev pub job_turned : Job → List ℕ → JobTurned
job_turned j m = record { row = j; marks = m }

-- a job's turn: "a grant of the same q steps" (12.3) over its own parts of the file area f and of the marks area m. On a finished state a
-- grant repeats the verdict: "a finished one its verdict" (12.3)
unfoldable pub job_turn : List ℕ → List ℕ → Job → ℕ → JobTurned
job_turn f m j q =
    let own : Part = j.parts.marks in
    let g = grant_of (part_of j.parts.file f) (part_of own m) j.state q in
    job_turned (row_after j g) (with_part own m g.marks)

-- 12.1: "Up to eight jobs share a window": the rows of the list, and the marks area
pub record Window : Type 0 where
  pub rows : List Job
  pub marks : List ℕ

abbrev pub window : List Job → List ℕ → Window
window js m = record { rows = js; marks = m }

-- the row at a place of the list; past its end an empty one
abbrev pub no_row : Job
no_row = record { owner = 0; answer = pos 0; parts = no_parts; state = [] }

abbrev pub row_at : List Job → ℕ → Job
row_at js i = get_or js i no_row

abbrev pub parts_at : List Job → ℕ → Parts
parts_at js i = (row_at js i).parts

-- job i's turn, and the turns of the first n jobs, "in list order" (12.3)
abbrev pub turn_at : List ℕ → ℕ → Window → ℕ → Window
turn_at f q w i = let t = job_turn f w.marks (row_at w.rows i) q in window (set w.rows i t.row) t.marks

unfoldable pub turns_to : List ℕ → ℕ → Window → ℕ → Window
turns_to f q w zero = w
turns_to f q w (suc n) = turn_at f q (turns_to f q w n) n

-- what a round gives back: its answer and the window
pub record Rounded : Type 0 where
  pub answer : ℤ
  pub window : Window

abbrev pub rounded : ℤ → Window → Rounded
rounded a w = record { answer = a; window = w }

-- A ROUND over the first n rows, which are all rows of a lent list, or n of eight by value: "refused with 24, nothing changed" (12.4); or
-- "every unfinished job a grant of the same q steps, in list order, and answers -1" (12.3)
unfoldable pub round_of : List ℕ → Window → ℕ → ℕ → Rounded
round_of f w n q =
    cond (refused_of (parts_at w.rows) n (length f) (length w.marks) q) (rounded (pos 24) w) (rounded (negsuc 0) (turns_to f q w n))

-- Lists of grants. Assumes nothing.
use Rattle.std.specs.Prelude.{◌≡◌, ◌⊎◌, Bool, true, cond, List, [], ◌∷◌, ℕ, ◌+◌, ℤ, pos, negsuc}
use Rattle.std.proofs.Math.Option.{Option, none, some}
use Rattle.format.specs.Fields.{eq_z}
use Rattle.states.specs.Stages.{finished, fresh}
use Rattle.states.specs.Saved.{save, load}
use Rattle.checker.specs.Grant.{Granted, grant_of}

-- a grant of a list: its number of steps and, where it is not lent the list's own file and marks, what it is lent instead
pub record Grant : Type 0 where
  pub number : ℕ
  pub other : Option (List ℕ × List ℕ)

-- what a list of grants has come to: the state; the list's marks; the steps reported, added up; the numbers of the grants not refused with
-- 21, added up; 9.12: "what its last grant not refused with 21 answers, or -1 if there is none", and its location
pub record Played : Type 0 where
  pub state : List ℕ
  pub marks : List ℕ
  pub steps : ℕ
  pub held : ℕ
  pub answer : ℤ
  pub location : ℕ

-- 10.1: "Fresh, the state to begin with"
abbrev pub begun : List ℕ → Played
begun m = record { state = save fresh; marks = m; steps = 0; held = 0; answer = negsuc 0; location = 0 }

abbrev pub lent_file : List ℕ → Option (List ℕ × List ℕ) → List ℕ
lent_file f none = f
lent_file f (some o) = o.0

abbrev pub lent_marks : List ℕ → Option (List ℕ × List ℕ) → List ℕ
lent_marks m none = m
lent_marks m (some o) = o.1

-- the list's marks after a grant: what it leaves where they were lent, and as they were where others were
abbrev pub kept_marks : List ℕ → Option (List ℕ × List ℕ) → List ℕ → List ℕ
kept_marks m none left = left
kept_marks m (some o) left = m

-- what the next grant of a list over the file f gives back
unfoldable pub next_of : List ℕ → Played → Grant → Granted
next_of f q g = grant_of (lent_file f g.other) (lent_marks q.marks g.other) q.state g.number

abbrev pub refused21 : ℤ → Bool
refused21 a = eq_z a (pos 21)

abbrev pub joined : Played → Grant → Granted → Played
joined q g r =
    record {
      state = r.state;
      marks = kept_marks q.marks g.other r.marks;
      steps = q.steps + r.steps;
      held = cond (refused21 r.answer) q.held (q.held + g.number);
      answer = cond (refused21 r.answer) q.answer r.answer;
      location = cond (refused21 r.answer) q.location r.location;
    }

unfoldable pub play_from : List ℕ → Played → List Grant → Played
play_from f q [] = q
play_from f q (g ∷ gs) = play_from f (joined q g (next_of f q g)) gs

-- a list of grants from fresh, over the list's file and marks
abbrev pub play : List ℕ → List ℕ → List Grant → Played
play f m gs = play_from f (begun m) gs

-- 9.11: "A list's grants are lent the same file and marks ..; those of 0, after the end or refused with 21 may be lent others"
abbrev pub FairNext : List ℕ → Played → Grant → Type 0
FairNext f q g =
    (g.other ≡ none) ⊎ ((g.number ≡ 0) ⊎ ((finished (load q.state).stage ≡ true) ⊎ ((next_of f q g).answer ≡ pos 21)))

unfoldable pub FairFrom : List ℕ → Played → List Grant → Type 0
FairFrom f q [] = Unit {0}
FairFrom f q (g ∷ gs) = FairNext f q g × FairFrom f (joined q g (next_of f q g)) gs

abbrev pub Fair : List ℕ → List ℕ → List Grant → Type 0
Fair f m gs = FairFrom f (begun m) gs

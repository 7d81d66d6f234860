-- A job begun fresh: rounds of q steps take it where the plain run over its own parts is after as many steps. Assumes nothing.
use mathlib.Core.Path.{◌≡◌, refl, sym, ◌∙◌, ap, subst}
use mathlib.Core.Logic.{◌↔◌, ◌≢◌}
use mathlib.Core.Bool.{true}
use mathlib.Core.List.{List}
use Prim.Native.Nat.{ℕ, zero, suc, ◌+◌, ◌*◌, ◌-◌, ◌/◌, ◌≤◌, ◌<◌}
use native.Mathlib.Nat.{div-add-mod', mod-lt, div-lt_iff_lt-mul, mul-le-mul_right, zero-mul, suc-mul}
use native.Mathlib.Omega.{arith}
use lib.ListN.{length}
use lib.IntN.{pos, negsuc}
use Rattle.states.specs.declared.state.State.{State}
use Rattle.checker.specs.Step.{Conf, Run, conf, run_of, plain_run}
use Rattle.states.specs.Stages.{fresh, finished, answer_of, location_in}
use Rattle.states.specs.Saved.{save, load}
use Rattle.checker.specs.Grant.{Granted, grant_of, worked}
use Rattle.states.proofs.Loads.{load_save, length_save}
use Rattle.checker.proofs.PlainRuns.{run_add}
use Rattle.checker.proofs.Sound.{Sound, Own as OwnFile, sound_run, sound_loaded, sound_works, sound_fresh}
use Rattle.grants.proofs.Any.{every_grant}
use Rattle.demands.specs.Acceptance.{Accepted}
use Rattle.demands.specs.Demands.{end_stage}
use Rattle.demands.proofs.EndsWithin.{ends_within, one_end_only}
use Rattle.demands.proofs.Demand2.{demand_2}
use Rattle.jobs.specs.Turns.{Window, row_at, parts_at}
use Rattle.jobs.proofs.Tests.{outside_not, runs_some}
use Rattle.jobs.proofs.Areas.{part_length}
use Rattle.round_theorems.specs.Rounds.{Own, own_of, grants_alone, rounds_of, NotRefused, rounds_within, RoundedUp, plain_at, FreshJobs}
use Rattle.round_theorems.proofs.Window.{fit_of}
use Rattle.round_theorems.proofs.Refusals.{not_tested}
use Rattle.round_theorems.proofs.Rounds.{alone_is}
use Rattle.round_theorems.proofs.Jobs.{not_running}

-- ---- rounded up
pub rounded_up : RoundedUp
rounded_up n q r h = (covers, least)
  where
    l : ℕ
    l = n / 4 + 1

    covers : rounds_within n q ≤ r → l ≤ r * q
    covers g =
        let d = div-add-mod' (l + (q - 1)) q in
        let m = mod-lt (l + (q - 1)) h in
        let k : rounds_within n q * q ≤ r * q = mul-le-mul_right q g in
        omega (arith, d, m, k, h)

    least : l ≤ r * q → rounds_within n q ≤ r
    least g =
        let below : (l + (q - 1)) / q < suc r = (div-lt_iff_lt-mul {k = q} {x = l + (q - 1)} {y = suc r} h).1 (rw (suc-mul r q) (omega arith)) in
        omega arith

-- a job z of the file p has the state and the marks of c
record StandsAt (p : List ℕ) (c : Conf) (z : Own) : Type 0 where
  file : z.file ≡ p
  state : z.state ≡ save c.state
  marks : z.marks ≡ c.marks

-- ---- the job's own, o, begun fresh
module _ (o : Own) (q : ℕ) where
  abbrev p : List ℕ
  p = o.file

  abbrev at : ℕ → Conf
  at r = plain_at o q r

  sound : (r : ℕ) → Sound (OwnFile p) p (at r)
  sound r = sound_run (OwnFile p) p (conf fresh o.marks) (sound_fresh (OwnFile p) p o.marks) (r * q)

  next : (r : ℕ) → (run_of p (at r) q).at ≡ at (suc r)
  next r = sym (ap (λ (k : ℕ). (plain_run p o.marks k).at) (suc-mul r q) ∙ ap (λ (z : Run). z.at) (run_add p (conf fresh o.marks) (r * q) q))

  first : at 0 ≡ conf fresh o.marks
  unfolding run_of
  first = ap (λ (k : ℕ). (plain_run p o.marks k).at) (zero-mul q)

  granted_at : (z : Own) (r : ℕ) → StandsAt p (at r) z → grant_of z.file z.marks z.state q ≡ worked (run_of p (at r) q)
  granted_at z r s = rw (s.file, s.marks, s.state) (sound_works p (at r) (sound r) q)

  module _ (begun : o.state ≡ save fresh) where
    steps : (r : ℕ) → StandsAt p (at r) (grants_alone q o r)
    unfolding grants_alone
    steps zero =
        record { file = refl; state = begun ∙ ap (λ (c : Conf). save c.state) (sym first); marks = ap (λ (c : Conf). c.marks) (sym first) }
    steps (suc r) =
        let s = steps r in
        let g = granted_at (grants_alone q o r) r s in
        record {
          file = s.file;
          state = ap (λ (z : Granted). z.state) g ∙ ap (λ (c : Conf). save c.state) (next r);
          marks = ap (λ (z : Granted). z.marks) g ∙ ap (λ (c : Conf). c.marks) (next r);
        }

    answers : (r : ℕ) → (grants_alone q o (suc r)).answer ≡ answer_of (at (suc r)).state.stage
    unfolding grants_alone
    answers r = ap (λ (z : Granted). z.answer) (granted_at (grants_alone q o r) r (steps r)) ∙ ap (λ (c : Conf). answer_of c.state.stage) (next r)

  loads : (r : ℕ) → load (save (at r).state) ≡ (at r).state
  loads r = load_save (at r).state (sound_loaded (OwnFile p) p (at r) (sound r))

  -- a grant of 0 tells where the run is
  told : (l : List ℕ) (r : ℕ) → l ≡ save (at r).state → (x y : List ℕ) → (grant_of x y l 0).location ≡ location_in (at r).state.stage
  told l r e x y =
      ap (λ (g : Granted). g.location) ((every_grant x y l 0).of_none (rw e (length_save (at r).state)) refl)
      ∙ ap (λ (s : State). location_in s.stage) (ap load e ∙ loads r)

  module _ (some : 0 < q) (r : ℕ) (enough : rounds_within (length p) q ≤ r) where
    ended : finished (at r).state.stage ≡ true
    ended = ends_within p o.marks (r * q) ((rounded_up (length p) q r some).0 enough)

    at_end : (at r).state.stage ≡ end_stage p o.marks
    at_end = one_end_only p o.marks (r * q) ended

    -- it is at least one round
    one_more_lem : (n : ℕ) → r ≡ n → (m : ℕ) × (r ≡ suc m)
    one_more_lem zero e =
        let l = (rounded_up (length p) q r some).0 enough in
        let z : r * q ≡ 0 = rw e (zero-mul q) in
        absurd (omega (arith, l, z))
    one_more_lem (suc m) e = (m, e)

module _ (f : List ℕ) (q : ℕ) (w : Window) (k : ℕ) (runs : NotRefused f q w) (h : k < length w.rows) (begun : (row_at w.rows k).state ≡ save fresh) where
  abbrev own : Own
  own = own_of f w k

  abbrev after : ℕ → Own
  after r = own_of f (rounds_of f q w r) k

  -- its file and its marks are as long as its parts
  abbrev fits : ((parts_at w.rows k).file.from + (parts_at w.rows k).file.len ≤ length f) × ((parts_at w.rows k).marks.from + (parts_at w.rows k).marks.len ≤ length w.marks)
  fits = outside_not (parts_at w.rows k) (length f) (length w.marks) ((fit_of f w q (not_tested f q w runs)).inside k h)

  file_length : length own.file ≡ (parts_at w.rows k).file.len
  file_length = part_length (parts_at w.rows k).file f fits.0

  marks_length : length own.marks ≡ (parts_at w.rows k).marks.len
  marks_length = part_length (parts_at w.rows k).marks w.marks fits.1

  some : 0 < q
  some = runs_some (parts_at w.rows) (length w.rows) (length f) (length w.marks) q (not_tested f q w runs)

  state : (r : ℕ) → (after r).state ≡ save (plain_at own q r).state
  state r = ap (λ (z : Own). z.state) (alone_is f q w runs k r h) ∙ (steps own q begun r).state

  answer : (r : ℕ) → (after (suc r)).answer ≡ answer_of (plain_at own q (suc r)).state.stage
  answer r = ap (λ (z : Own). z.answer) (alone_is f q w runs k (suc r) h) ∙ answers own q begun r

  module _ (r : ℕ) (enough : rounds_within (parts_at w.rows k).file.len q ≤ r) where
    enough_for : rounds_within (length own.file) q ≤ r
    enough_for = subst (λ (n : ℕ). rounds_within n q ≤ r) (sym file_length) enough

    last : (after r).answer ≡ answer_of (plain_at own q r).state.stage
    last =
        let n = one_more_lem own q some r enough_for r refl in
        ap (λ (x : ℕ). (after x).answer) n.1 ∙ answer n.0 ∙ ap (λ (x : ℕ). answer_of (plain_at own q x).state.stage) (sym n.1)

    ends_there : (finished (load (after r).state).stage ≡ true) × ((after r).answer ≢ negsuc 0)
    ends_there =
        let e = ended own q some r enough_for in (
          ap (λ (s : State). finished s.stage) (ap load (state r) ∙ loads own q r) ∙ e,
          λ d. not_running (plain_at own q r).state.stage e (sym last ∙ d),
        )

    accepts_there : (parts_at w.rows k).file.len ≤ (parts_at w.rows k).marks.len → ((after r).answer ≡ pos 0) ↔ Accepted own.file
    accepts_there l =
        let e = last ∙ ap answer_of (at_end own q some r enough_for) in
        let m : length own.file ≤ length own.marks = rw (file_length, marks_length) l in
        let d = demand_2.run own.file own.marks m in
        (λ a. d.0 (sym e ∙ a), λ a. e ∙ d.1 a)

pub fresh_jobs : FreshJobs
fresh_jobs f q w k runs h begun = record {
  state_is = λ r. state f q w k runs h begun r;
  marks_are = λ r. ap (λ (z : Own). z.marks) (alone_is f q w runs k r h) ∙ (steps (own_of f w k) q begun r).marks;
  answer_is = λ r. answer f q w k runs h begun r;
  location_is = λ r x y. told (own_of f w k) q (own_of f (rounds_of f q w r) k).state r (state f q w k runs h begun r) x y;
  ends = λ r l. ends_there f q w k runs h begun r l;
  accepts = λ r l m. accepts_there f q w k runs h begun r l m;
}

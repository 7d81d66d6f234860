use Rattle.std.proofs.Common.{◌≡◌, ◌∙◌, sym, ap}
use mir.Syntax.{w32}
use mir.Facts.{to_z-of_z}
use Rattle.states.specs.Saved.{load}
use Rattle.states.specs.Bounds.{VerdictFits}
use Rattle.states.proofs.Loads.{load_is}
use Rattle.checker.specs.Bounds.{GoesOn}
use Rattle.checker.specs.Grant.{worked}
use Rattle.checker.proofs.Loop.{left_loaded, loads_on}
use Rattle.checker.proofs.Cases.{wrong_length}
use Rattle.checker.proofs.Fits.{loaded_fits}
use Rattle.checker.proofs.Granting.{idles, differs, works}
use Rattle.checker.proofs.grants.grant.Goals.{After-load_state-s, After-run-ran, Else-other_file}
use Rattle.checker.proofs.grants.grant.Goals as goal

pub returns-in_default : goal.returns-in_default
returns-in_default c =
    let a = c.args in
    sym (wrong_length a.file.now a.marks.now a.state.now a.grant c.in_default.ensures.cases)

-- the state that was loaded, of the numbers that were given
loaded : (c : After-load_state-s) → c.load_state-s.result ≡ load c.args.state.now
loaded c = rw c.in-Some.ensures.cases.same at c.load_state-s.ensures

pub answer-requires : goal.answer-requires
answer-requires c =
    let s = load c.args.state.now in
    rw (loaded (goal.at.answer-requires c).After-load_state-s) (loaded_fits s.length s.stage (load_is c.args.state.now))

pub returns-then-is_finished-grant : goal.returns-then-is_finished-grant
returns-then-is_finished-grant c =
    let a = c.args in
    let numbers = c.in-Some.ensures.cases in
    let idle = rw c.is_finished.ensures at c.if-is_finished-grant.true in
    rw (to_z-of_z {w = w32} (record { sfits = c.answer.type_inv }), c.answer.ensures, c.from.ensures, c.location_in.ensures, numbers.same)
    (sym (idles a.file.now a.marks.now a.state.now a.grant numbers.long _ (loaded (goal.at.returns-then-is_finished-grant c).After-load_state-s) idle))

pub returns-then-other_file : goal.returns-then-other_file
returns-then-other_file c =
    let a = c.args in
    let numbers = c.in-Some.ensures.cases in
    let on = rw c.is_finished.ensures at c.if-is_finished-grant.false in
    rw numbers.same
    (sym (differs a.file.now a.marks.now a.state.now a.grant numbers.long _ (loaded (goal.at.returns-then-other_file c).After-load_state-s) on (sym c.if-other_file.ensures)))

-- it goes on over this file and these marks
goes_on : (c : Else-other_file) → GoesOn c.args.file.now c.args.marks.now c.load_state-s.result
goes_on c = loads_on _ c.load_state-s.ensures c.other_file.ensures c.if-other_file.false

pub run-ran-requires : goal.run-ran-requires
run-ran-requires c = goes_on (goal.at.run-ran-requires c).Else-other_file

-- so what the run leaves of it has such a verdict too
left_fits : (c : After-run-ran) → VerdictFits c.run-ran.result.state.stage
left_fits c =
    let t = c.run-ran.result.state in
    loaded_fits t.length t.stage (left_loaded (loads_on _ c.load_state-s.ensures c.other_file.ensures c.if-other_file.false) _ _ _ _ c.run-ran.ensures)

pub save_state-requires : goal.save_state-requires
save_state-requires c = left_fits (goal.at.save_state-requires c).After-run-ran

pub answer-requires-2 : goal.answer-requires-2
answer-requires-2 c = left_fits (goal.at.answer-requires-2 c).After-run-ran

pub returns : goal.returns
returns c =
    let a = c.args in
    let on = rw c.is_finished.ensures at c.if-is_finished-grant.false in
    rw (to_z-of_z {w = w32} (record { sfits = c.answer-2.type_inv }), c.answer-2.ensures, c.from-2.ensures, c.location_in-2.ensures, c.save_state.ensures)
    (ap worked c.run-ran.ensures
    ∙ sym (works a.file.now a.marks.now a.state.now a.grant c.in-Some.ensures.cases.long _ (loaded (goal.at.returns c).After-load_state-s) on (sym c.if-other_file.ensures)))

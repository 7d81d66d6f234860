use Rattle.std.proofs.Common.{refl, sym, ap, ◌∙◌, arith}
use mathlib.Core.Bool.{true≢false}
use Rattle.states.specs.declared.state.State.{State}
use Rattle.states.specs.Stages.{finished}
use Rattle.checker.specs.Step.{conf, step_by, done_by}
use Rattle.faults.specs.declared.fault.Involved.{Involved}
use Rattle.checker.proofs.Loop.{at_first, once_of, sweep_lent, steps_made}
use Rattle.checker.proofs.runs.run_stage.Goals as goal

pub run_sweep-requires : goal.run_sweep-requires
run_sweep-requires c =
    let e = c.in-Sweep.is in
    (sweep_lent c.requires.0 e, e, c.requires.1)

pub returns-in-Fresh : goal.returns-in-Fresh
returns-in-Fresh c =
    let first = at_first c.args.f.now.bytes.now c.args.s c.args.m.now in
    steps_made c.requires.1 (once_of first c.in-Fresh.is refl c.«open».ensures)

pub returns-in-Done : goal.returns-in-Done
returns-in-Done c =
    let a = c.args in
    record {
      run = at_first a.f.now.bytes.now a.s a.m.now;
      some = λ e. absurd (true≢false (sym (ap finished c.in-Done.is) ∙ e));
      most = omega arith;
    }

pub returns-in-OutOfRange : goal.returns-in-OutOfRange
unfolding step_by
returns-in-OutOfRange c =
    let m = c.args.m.now in
    let first = at_first c.args.f.now.bytes.now c.args.s m in
    let over = ap (λ (r : State). conf r m) (c.refused.ensures ∙ ap (λ (r : Involved). done_by r 20) c.none_involved.ensures) in
    steps_made c.requires.1 (once_of first c.in-OutOfRange.is refl over)

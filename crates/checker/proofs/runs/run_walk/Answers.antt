use Rattle.std.proofs.Common.{◌≡◌, refl, sym, ◌∙◌, arith}
use Rattle.variables.specs.Vdr.{variable_told}
use Rattle.walk.specs.Levels.{levels_after}
use Rattle.states.specs.declared.state.Stage.TheVariants.{Walking}
use Rattle.checker.specs.Bounds.{went_to}
use Rattle.walk.proofs.Variables.{known_is, next_is}
use Rattle.checker.proofs.Knowing.{known_step}
use Rattle.checker.proofs.Parts.{lent_body}
use Rattle.checker.proofs.Loop.{WalkedOnce, walk_first, walk_once, same_level, walk_ready, steps_made}
use Rattle.checker.proofs.runs.run_walk.Goals.{After-settle-went}
use Rattle.checker.proofs.runs.run_walk.Goals as goal

pub loop-k-init : goal.loop-k-init
loop-k-init c =
    (rw c.known-v.ensures (known_is _ c.args.from), walk_first c.requires.1)

pub step-t-requires : goal.step-t-requires
step-t-requires c =
    let l = c.loop-k in
    let r = walk_ready c.requires.0 l.invariant.1 refl in
    (r.1, rw c.next_variable-v.ensures (next_is _ l.w (variable_told l.v) l.invariant.0), r.2.0)

pub settle-went-requires : goal.settle-went-requires
settle-went-requires c =
    let l = c.loop-k in
    let f = c.args.f.now in
    let r = walk_ready c.requires.0 l.invariant.1 refl in
    lent_body f.bytes.now l.m f.body.now f.ends r.0

-- what the step leaves is where the plain run stands after one step more
once : (c : After-settle-went) →
    let l = c.loop-k in
    let a = c.args in
    WalkedOnce a.f.now.bytes.now a.s a.m.now l.m c.settle-went.new.m l.k (Walking l.w a.up)
    (went_to a.s.length (levels_after a.up c.step-t.result) c.settle-went.result)
once c =
    walk_once c.loop-k.invariant.1 c.args.f.now.ends c.room_below-room.ensures c.step-t.ensures
    c.settle-went.result c.settle-went.ensures

pub returns-in_default : goal.returns-in_default
returns-in_default c =
    rw c.stopped.ensures (steps_made c.loop-k-test.true (once (goal.at.returns-in_default c).After-settle-went).one_more)

pub returns-then-changes_level : goal.returns-then-changes_level
returns-then-changes_level c =
    rw c.stopped-then-changes_level.ensures (steps_made c.loop-k-test.true (rw c.in-On.is at (once (goal.at.returns-then-changes_level c).After-settle-went).one_more))

pub loop-k-preserved : goal.loop-k-preserved
loop-k-preserved c =
    let a = c.args in let l = c.loop-k in
    let same = same_level a.up c.step-t.result (sym c.changes_level.ensures ∙ c.if-changes_level.false) in
    let g = c.in-On.is in
    let k = c.next_variable-v in
    let one = once (goal.at.loop-k-preserved c).After-settle-went in
    let known = known_step a.f.now.bytes.now (variable_told k.result) _ a.f.now.ends l.m a.s.length l.w a.up
    (rw k.ensures (next_is _ l.w (variable_told l.v) l.invariant.0)) _ _ (rw (same, g) at one.stepped_to) _ _ refl in
    (known, rw (same, g) at one.one_more)

pub returns : goal.returns
returns c =
    let all : c.loop-k.k ≡ c.args.n = omega arith in
    record { run = rw (← all) c.loop-k.invariant.1; some = λ _. c.requires.2; most = omega arith }

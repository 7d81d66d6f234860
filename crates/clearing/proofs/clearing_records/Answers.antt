use native.Mathlib.Omega.{arith}
use mathlib.Core.Path.{◌≡◌, refl, sym, ◌∙◌}
use Prim.Native.Nat.{◌+◌, ◌≤◌}
use lib.ListN.{length, get_or}
use Rattle.marks.specs.Marks.{cleared}
use Rattle.marks.proofs.Parts.{cleared_none, cleared_on, cleared_length}
use Rattle.clearing.proofs.Reached.{one_more_lem, too_short, not_fitting, none_left}
use borrow.Author.Rules.{rules}
use Rattle.clearing.proofs.clearing_records.Goals as goal

pub loop-n-init : goal.loop-n-init
loop-n-init c = record { within = search rules; long = refl; marks = sym (cleared_none _ _); same = refl }

pub returns-then-n-lt8 : goal.returns-then-n-lt8
returns-then-n-lt8 c =
    let l = c.loop-n in
    (sym (too_short l.invariant c.loop-n-test.true c.if-n-lt8.true), l.invariant.marks)

pub returns-then-m-at : goal.returns-then-m-at
returns-then-m-at c =
    let l = c.loop-n in
    (sym (not_fitting l.invariant c.loop-n-test.true c.if-n-lt8.false (omega arith)), l.invariant.marks)

pub loop-n-preserved : goal.loop-n-preserved
loop-n-preserved c =
    let l = c.loop-n in
    let a = c.args in
    let m = a.m.now in
    let n = get_or a.sizes.now l.n-index 0 in
    let fit : l.at + n ≤ length m = omega arith in
    let marks : c.clear_one.new.m ≡ cleared m 0 (l.at + n) =
    c.clear_one.ensures ∙ rw l.invariant.marks (cleared_on m 0 l.at l.at n (l.at + n) (omega arith) refl (omega arith)) in
    record {
      within = fit;
      long = rw marks (cleared_length m 0 (l.at + n) (omega arith));
      marks = marks;
      same = one_more_lem l.invariant c.loop-n-test.true c.if-n-lt8.false fit;
    }

pub returns : goal.returns
returns c = let l = c.loop-n in (sym (none_left l.invariant c.loop-n-test.false), l.invariant.marks)

use mathlib.Core.Path.{◌≡◌, sym, ap, ◌∙◌}
use Prim.Native.Nat.{◌+◌, ◌-◌, ◌<◌}
use native.Mathlib.Nat.{sub-zero}
use native.Mathlib.Omega.{arith}
use Rattle.std.specs.Prelude.{Err}
use Rattle.lookup.proofs.Links.{over_here, broken_here, found_here, goes_on, none_left}
use Rattle.lookup.proofs.lists.seek.Goals as goal

pub loop-i-init : goal.loop-i-init
loop-i-init c = record { lies = omega (arith, c.requires); same = rw sub-zero }

pub returns-then-o-eq0 : goal.returns-then-o-eq0
returns-then-o-eq0 c =
    let some : 0 < c.args.allowed - c.loop-i.i = omega arith in
    ap Err c.over.ensures ∙ sym (over_here c.loop-i.invariant c.link_at-o.ensures.0 some c.if-o-eq0.true)

pub returns-then-not-is_met : goal.returns-then-not-is_met
returns-then-not-is_met c =
    let some : 0 < c.args.allowed - c.loop-i.i = omega arith in
    sym (broken_here c.loop-i.invariant c.link_at-o.ensures.0 some c.if-o-eq0.false (sym c.is_met.ensures.told ∙ c.if-not-is_met.true))

pub is_wanted-requires : goal.is_wanted-requires
is_wanted-requires c = omega (arith, c.is_met.ensures.lies c.if-not-is_met.false)

pub returns-then-is_wanted : goal.returns-then-is_wanted
returns-then-is_wanted c =
    let some : 0 < c.args.allowed - c.loop-i.i = omega arith in
    let met = sym c.is_met.ensures.told ∙ c.if-not-is_met.false in
    sym (found_here c.loop-i.invariant c.link_at-o.ensures.0 some c.if-o-eq0.false met (sym c.is_wanted.ensures ∙ c.if-is_wanted.true))

pub loop-i-preserved : goal.loop-i-preserved
loop-i-preserved c =
    let some : 0 < c.args.allowed - c.loop-i.i = omega arith in
    let met = sym c.is_met.ensures.told ∙ c.if-not-is_met.false in
    let other = sym c.is_wanted.ensures ∙ c.if-is_wanted.false in
    let fewer : c.args.allowed - (c.loop-i.i + 1) ≡ c.args.allowed - c.loop-i.i - 1 = omega arith in
    record {
      lies = omega (arith, c.is_met.ensures.lies c.if-not-is_met.false);
      same = rw fewer (goes_on c.loop-i.invariant c.link_at-o.ensures.0 some c.if-o-eq0.false met other);
    }

pub returns : goal.returns
returns c =
    let none : c.args.allowed - c.loop-i.i ≡ 0 = omega (arith, c.loop-i-test.false) in
    ap Err c.last_link.ensures ∙ sym (none_left c.loop-i.invariant none)

use Rattle.std.proofs.Common.{◌≡◌, ◌-◌, ◌+◌, length, sym, ◌∙◌, arith}
use Rattle.marks.specs.Marks.{left_of}
use Rattle.marks.proofs.Onward.{at_end, past_end, not_claimed, not_followed, next_one, none_left}
use Rattle.marks.proofs.left.Goals as goal

pub loop-init : goal.loop-init
unfolding left_of
loop-init c = let all : length c.args.f.now - 0 ≡ length c.args.f.now = omega arith in record { near = omega arith; same = rw all }

pub returns-then-o-end : goal.returns-then-o-end
returns-then-o-end c = c.found_at.ensures ∙ at_end c.loop.invariant (omega arith) c.end-end.ensures.0 c.if-o-end.true

pub returns-then-end-o : goal.returns-then-end-o
returns-then-end-o c =
    c.found_at-then-end-o.ensures ∙ past_end c.loop.invariant (omega arith) c.end-end.ensures.0 c.if-o-end.false c.if-end-o.true

pub returns-then-is_unclaimed : goal.returns-then-is_unclaimed
returns-then-is_unclaimed c =
    c.found_at-then-is_unclaimed.ensures
    ∙ not_claimed c.loop.invariant (omega arith) c.end-end.ensures.0 c.if-o-end.false c.if-end-o.false (sym c.is_unclaimed.ensures ∙ c.if-is_unclaimed.true)

pub returns-then-not-is_followed : goal.returns-then-not-is_followed
returns-then-not-is_followed c =
    c.found_at-then-not-is_followed.ensures
    ∙ not_followed c.loop.invariant (omega arith) c.end-end.ensures.0 c.if-o-end.false c.if-end-o.false
    (sym c.is_unclaimed.ensures ∙ c.if-is_unclaimed.false) (sym c.is_followed.ensures.0 ∙ c.if-not-is_followed.true)

pub loop-preserved : goal.loop-preserved
loop-preserved c =
    let l = c.loop in
    let f = c.args.f.now in
    let t = c.if-not-is_followed.false in
    let onward = next_one l.invariant (omega arith) c.end-end.ensures.0 c.if-o-end.false c.if-end-o.false (sym c.is_unclaimed.ensures ∙ c.if-is_unclaimed.false) (sym c.is_followed.ensures.0 ∙ t) in
    let fewer : length f - l.counter - 1 ≡ length f - (l.counter + 1) = omega arith in
    record {
      near = omega (arith, c.is_followed.ensures.1 t, c.nat_at.ensures.0);
      same = onward ∙ rw (c.nat_at.ensures.0, fewer);
    }

pub returns : goal.returns
returns c = c.found_at-2.ensures ∙ none_left c.loop.invariant (omega arith)

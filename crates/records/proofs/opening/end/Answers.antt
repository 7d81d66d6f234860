use mathlib.Core.Path.{◌≡◌, sym, ◌∙◌, ap}
use mathlib.Core.Bool.{true≢false}
use Prim.Native.Nat.{ℕ}
use mathlib.Core.List.{List}
use native.Mathlib.Omega.{arith}
use Rattle.records.specs.Opening.{gdr_at, eof_of, eof_right}
use Rattle.records.proofs.Opens.{window}
use Rattle.records.proofs.Bodies.{eof_right_lem, ends_at, ends_with}
use Rattle.records.proofs.opening.end.Goals.{After-link_at-g, After-nat_at-eof}
use Rattle.records.proofs.opening.end.Goals as goal

-- the file that is lent, the GDR's offset as it was read of it, and eof
abbrev file : After-link_at-g → List ℕ
file c = c.args.f.now

gdr_read : (c : After-link_at-g) → c.link_at-g.result ≡ gdr_at (file c)
unfolding gdr_at
gdr_read c = c.link_at-g.ensures.0

eof_read : (c : After-nat_at-eof) → let f = c.args.f.now in c.nat_at-eof.result ≡ eof_of f (gdr_at f)
unfolding gdr_at eof_of
eof_read c = c.nat_at-eof.ensures.0 ∙ ap (λ (k : ℕ). eof_of c.args.f.now k) c.link_at-g.ensures.0

pub returns-then-length-lt60 : goal.returns-then-length-lt60
returns-then-length-lt60 c = (sym (ends_with c.args.f.now (λ a. omega (arith, a.gdr, a.within, c.if-length-lt60.true))), omega arith)

pub returns-then-length-g : goal.returns-then-length-g
returns-then-length-g c = (sym (ends_with (file (goal.at.returns-then-length-g c).After-link_at-g) (λ a. omega (arith, a.gdr, a.within, gdr_read (goal.at.returns-then-length-g c).After-link_at-g, c.if-length-g.true))), omega arith)

pub returns-then-eof-g : goal.returns-then-eof-g
returns-then-eof-g c =
    (sym (ends_with (file (goal.at.returns-then-eof-g c).After-link_at-g) (λ a. omega (arith, a.gdr, a.within, gdr_read (goal.at.returns-then-eof-g c).After-link_at-g, eof_read (goal.at.returns-then-eof-g c).After-nat_at-eof, c.if-eof-g.true))), omega arith)

pub returns-then-not-eof_right : goal.returns-then-not-eof_right
returns-then-not-eof_right c =
    let f = file (goal.at.returns-then-not-eof_right c).After-link_at-g in
    let wrong = ap (λ (k : ℕ). eof_right f k) (sym (eof_read (goal.at.returns-then-not-eof_right c).After-nat_at-eof)) ∙ sym c.eof_right.ensures ∙ c.if-not-eof_right.true in
    (sym (ends_with f (λ a. true≢false (sym (eof_right_lem f a) ∙ wrong))), omega arith)

pub returns : goal.returns
returns c =
    let f = file (goal.at.returns c).After-link_at-g in
    let g = gdr_read (goal.at.returns c).After-link_at-g in let eof = eof_read (goal.at.returns c).After-nat_at-eof in
    let w = window f _ (sym c.eof_right.ensures ∙ c.if-not-eof_right.false) in
    (eof ∙ sym (ends_at f (record { gdr = omega (arith, g, eof, c.if-eof-g.false); within = omega (arith, w.0, eof); near = omega (arith, w.1, eof) })), w.0)

use borrow.Author.Rules.{rules}
use mathlib.Core.Path.{◌≡◌, ◌∙◌}
use Prim.Native.Nat.{ℕ}
use native.Mathlib.Omega.{arith}
use Rattle.std.specs.List.{fold}
use lib.ListN.{take, drop}
use Rattle.format.proofs.Widths.{shift_in, big_fold, big_lt}
use Rattle.format.proofs.bytes.big.Goals as goal

pub returns : goal.returns
returns c =
    let a = c.args in
    let bytes = λ (i : ℕ). (c.type_inv.s i).fits in
    let e : c.fold.result ≡ fold shift_in 0 (take a.n (drop a.at a.s.now)) = search rules in
    let is = e ∙ big_fold a.s.now a.at a.n bytes c.requires.1 in
    (is, omega (arith, is, big_lt a.s.now a.at a.n bytes))

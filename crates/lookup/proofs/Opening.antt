-- What a file that opens has. Assumes nothing.
use mathlib.Core.Path.{◌≡◌, sym, subst}
use mathlib.Core.Bool.{true, false, not}
use mathlib.Core.List.{List}
use Prim.Native.Nat.{ℕ}
use native.Mathlib.Omega.{arith}
use lib.Dec.{eqb}
use lib.ListN.{length}
use borrow.Author.Tests.{ltb-false, eqb-true, not-true}
use Rattle.records.specs.Opening.{too_long, gdr_at, opening, body_of}
use Rattle.format.proofs.Tests.{both}
use Rattle.records.proofs.Opens.{opening_passes, gdr_parts}
use Rattle.records.proofs.Bodies.{body_le, opening_body}
use Rattle.lookup.specs.Lists.{opened}
use Rattle.lookup.specs.Bounds.{Opened}

module _ (f : List ℕ) where
  -- the part before the end opens as the file does
  pub opens_inside : too_long f ≡ false → opening f ≡ 0 → Opened f (body_of f)
  unfolding too_long
  opens_inside s e =
      let b = body_of f in
      let p = opening_passes b (opening_body f e) in
      let g = gdr_parts b (gdr_at b) p.gdr in
      let n = ltb-false 2147483647 (length f) s in
      record { short = omega arith; part = body_le f; long = p.least; gdr = omega (arith, g.size, g.inside, g.eof) }

  pub opened_parts : opened f ≡ true → (too_long f ≡ false) × (opening f ≡ 0)
  unfolding opened
  opened_parts e =
      let a = both (not (too_long f)) (eqb (opening f) 0) e in
      (not-true (too_long f) a.0, eqb-true (opening f) 0 a.1)

  pub opened_inside : opened f ≡ true → Opened f (body_of f)
  opened_inside e = let a = opened_parts e in opens_inside a.0 a.1

-- b is that part
pub opened_part : (f b : List ℕ) → b ≡ body_of f → Opened f (body_of f) → Opened f b
opened_part f b e o = subst (Opened f) (sym e) o

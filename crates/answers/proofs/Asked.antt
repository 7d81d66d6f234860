-- A record that a way has found lies in a file whose length an offset can say. Assumes nothing.
use mathlib.Core.Path.{◌≡◌, sym, subst}
use mathlib.Core.List.{List}
use Prim.Native.Nat.{ℕ, ◌+◌, ◌≤◌}
use native.Mathlib.Omega.{arith}
use lib.IntN.{ℤ}
use lib.ListN.{length}
use Rattle.records.specs.Opening.{body_of}
use Rattle.lookup.specs.Lists.{kind_among, variable_way, entry_way}
use Rattle.lookup.specs.Bounds.{Opened}
use Rattle.lookup.specs.declared.lists.Wanted.{Wanted}
use Rattle.lookup.specs.declared.lists.Met.{Met as MetRecord}
use Rattle.std.specs.Prelude.{Ok}
use Rattle.lookup.proofs.Sought.{Finds}
use Rattle.lookup.proofs.Found.{Met, variable_finds, entry_finds, variable_inside, entry_inside}
use Rattle.answers.specs.Bounds.{Inside}

-- in a file, whose part before its end is b
module _ (f b : List ℕ) (part : b ≡ body_of f) where
  inside : (o n : ℕ) → Opened f (body_of f) → o + n ≤ length (body_of f) → Inside b o n
  inside o n h e =
      subst (λ l. Inside l o n) (sym part)
      (record { short = omega (arith, h.short, h.part); long = omega (arith, h.long); bytes = e })

  pub variable_in : (k n : ℤ) (m : MetRecord) → variable_way f k n ≡ Ok m → Inside b m.at 128
  variable_in k n m e =
      let g = subst (Finds (Met f (kind_among 3 8 k))) e (variable_finds f k n) in
      inside m.at 128 g.file (variable_inside (body_of f) m.at k g.met)

  pub entry_in : (a k : ℤ) (w : Wanted) (m : MetRecord) → entry_way f a k w ≡ Ok m → Inside b m.at 48
  entry_in a k w m e =
      let g = subst (Finds (Met f (kind_among 5 9 k))) e (entry_finds f a k w) in
      inside m.at 48 g.file (entry_inside (body_of f) m.at k g.met)

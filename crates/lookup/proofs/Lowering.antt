-- One level of a lookup, and how many there are. Assumes nothing.
use mathlib.Core.Path.{◌≡◌, refl, sym, ap, ◌∙◌}
use mathlib.Core.Bool.{Bool, true, false, cond, ◌&&◌, and-false}
use mathlib.Core.List.{List}
use Prim.Native.Nat.{ℕ, zero, suc, ◌+◌, ◌-◌, ◌≤◌}
use native.Mathlib.Omega.{arith}
use lib.Dec.{leb}
use borrow.Author.Tests.{leb-true, le-leb, lt-leb}
use Rattle.records.specs.Index.{used_at, index_at}
use Rattle.records.specs.Tree.{levels_below}
use Rattle.records.specs.declared.index.Range.{Range}
use Rattle.lookup.specs.Indexes.{covered_by, Index, scanned, lower_met, lower_scan, after_lower, lowered, levels_there, levels_from}
use Rattle.lookup.specs.declared.refusals.Refusal.TheVariants.{Breach}
use Rattle.lookup.specs.declared.indexes.Scan.{Scan}
use Rattle.lookup.specs.declared.indexes.Scan.TheVariants.{Covering, Passed}
use Rattle.std.specs.Prelude.{Result, Ok, Err, IfOk}
use Rattle.lookup.specs.declared.refusals.Refusal.{Refusal}

-- the entry names no index record
pub lowest_here : (k : ℕ) (f : List ℕ) (r : ℕ) (e : Range) (left : ℕ) → index_at f e.link ≡ false → covered_by e left ≡ lowered k f r e left
unfolding lowered
lowest_here zero f r e left h = rw h
lowest_here (suc k) f r e left h = rw h

-- a ninth level
pub too_deep : (k : ℕ) (f : List ℕ) (r : ℕ) (e : Range) (left : ℕ) → k ≡ 0 → index_at f e.link ≡ true → Err Breach ≡ lowered k f r e left
unfolding lowered
too_deep k f r e left z h = rw (z, h)

module _ (k : ℕ) (f : List ℕ) (r : ℕ) (e : Range) (left : ℕ) (some : k ≡ 0 → ⊥) (h : index_at f e.link ≡ true) where
  level : lowered k f r e left
      ≡ cond (leb 1 left && lower_met f e.link)
      (after_lower (lower_scan f r e) (λ d. lowered (k - 1) f r d (left - 1)))
      (Err Breach)
  unfolding lowered
  level = ap (λ (n : ℕ). lowered n f r e left) up ∙ rw h
    where
      up : k ≡ suc (k - 1)
      up = omega arith

  pub none_left : left ≡ 0 → Err Breach ≡ lowered k f r e left
  none_left z = sym (level ∙ rw (lt-leb 1 left (omega arith)))

  pub not_met : lower_met f e.link ≡ false → Err Breach ≡ lowered k f r e left
  not_met m = sym (level ∙ rw (m, and-false (leb 1 left)))

  -- the record is met, and s is what its entries say
  pub one_down : (left ≡ 0 → ⊥) → lower_met f e.link ≡ true → (u : ℕ) → u ≡ used_at f e.link → (s : Result Scan Refusal)
      → s ≡ scanned f e.link r e.last u 0 e.first
      → lowered k f r e left ≡ after_lower s (λ d. lowered (k - 1) f r d (left - 1))
  one_down z m u v s q =
      level ∙ rw (m, le-leb 1 left (omega arith), sym (q ∙ ap (λ (w : ℕ). scanned f e.link r e.last w 0 e.first) v))

-- ---- how many levels: each below the first takes one of the records that may be met
abbrev Counted : ℕ → ℕ → Index → Type 0
Counted m left i = IfOk i (λ d. d.left + m ≡ suc left)

levels_counted : (n : ℕ) (f : List ℕ) (r : ℕ) (e : Range) (left : ℕ) → Counted (levels_from n f r e) left (lowered n f r e left)
unfolding lowered levels_from
levels_counted zero f r e left = go (index_at f e.link)
  where
    go : (b : Bool) → Counted 1 left (cond b (Err Breach) (covered_by e left))
    go true = tt
    go false = omega arith
levels_counted (suc n) f r e left =
    go (index_at f e.link) (leb 1 left) (lower_met f e.link) (lower_scan f r e) refl (λ d. levels_counted n f r d (left - 1))
  where
    up : (m : ℕ) (s : Index) → 1 ≤ left → Counted m (left - 1) s → Counted (1 + m) left s
    up m (Ok d) l h = omega arith
    up m (Err v) l h = tt

    go : (a b c : Bool) (s : Result Scan Refusal) → leb 1 left ≡ b → ((d : Range) → Counted (levels_from n f r d) (left - 1) (lowered n f r d (left - 1)))
        → Counted (cond a (1 + levels_there s (λ d. levels_from n f r d)) 1) left
        (cond a (cond (b && c) (after_lower s (λ d. lowered n f r d (left - 1))) (Err Breach)) (covered_by e left))
    go false b c s l h = omega arith
    go true false c s l h = tt
    go true true false s l h = tt
    go true true true (Ok (Covering d)) l h = up (levels_from n f r d) (lowered n f r d (left - 1)) (leb-true 1 left l) (h d)
    go true true true (Ok (Passed floor)) l h = tt
    go true true true (Err v) l h = tt

levels_few : (n : ℕ) (f : List ℕ) (r : ℕ) (e : Range) → (1 ≤ levels_from n f r e) × (levels_from n f r e ≤ suc n)
unfolding levels_from
levels_few zero f r e = (omega arith, omega arith)
levels_few (suc n) f r e = go (index_at f e.link) (lower_scan f r e) (λ d. (levels_few n f r d).1)
  where
    go : (b : Bool) (s : Result Scan Refusal) → ((d : Range) → levels_from n f r d ≤ suc n)
        → let m = cond b (1 + levels_there s (λ d. levels_from n f r d)) 1 in (1 ≤ m) × (m ≤ suc (suc n))
    go false s h = (omega arith, omega arith)
    go true (Ok (Covering d)) h = (omega arith, omega (arith, h d))
    go true (Ok (Passed floor)) h = (omega arith, omega arith)
    go true (Err v) h = (omega arith, omega arith)

-- so they are known from how many may be met before and after
pub levels_known : (f : List ℕ) (r : ℕ) (e d : Range) (left after : ℕ) → covered_by d after ≡ lowered levels_below f r e left
    → (after ≤ left) × (left - after + 1 ≡ levels_from levels_below f r e) × (left - after + 1 ≤ 8)
levels_known f r e d left after q =
    let counted : after + levels_from levels_below f r e ≡ suc left = rw (sym q) at (levels_counted levels_below f r e left) in
    let few = levels_few levels_below f r e in
    (omega (arith, counted, few.0), omega (arith, counted, few.0), omega (arith, counted, few.1))

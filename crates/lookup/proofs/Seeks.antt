-- An index chain, one VXR at a time. Assumes nothing.
use mathlib.Core.Path.{◌≡◌, sym, ap, ◌∙◌}
use mathlib.Core.Bool.{true, false, cond}
use mathlib.Core.List.{List}
use lib.ListN.{length}
use Prim.Native.Nat.{ℕ, suc, ◌+◌, ◌-◌, ◌≤◌, ◌<◌}
use native.Mathlib.Omega.{arith}
use borrow.Author.Tests.{eq-eqb, ne_eqb}
use lib.Dec.{eqb}
use Rattle.format.specs.Fields.{link_at}
use Rattle.records.specs.Layout.{next_at, head_of_index}
use Rattle.records.specs.Index.{used_at, no_limit}
use Rattle.lookup.specs.declared.refusals.Refusal.TheVariants.{Breach, Gap}
use Rattle.lookup.specs.declared.indexes.Scan.{Scan}
use Rattle.lookup.specs.Indexes.{Index, scanned, index_met, after_scan, last_index, indexed}
use Rattle.std.specs.Prelude.{Result, Err}
use Rattle.lookup.specs.declared.refusals.Refusal.{Refusal}

-- what was asked of the chain of the VDR at v is still asked, from the link at p, with ranges from floor on and left more records to be met
pub record StillSeeks (f : List ℕ) (v r allowed p floor left : ℕ) : Type 0 where
  pub lies : p + 4 ≤ length f
  pub small : floor ≤ 2147483648
  pub same : indexed f r (head_of_index v) 0 allowed ≡ indexed f r p floor left

module _ {f : List ℕ} {v r allowed p floor left : ℕ} (q : StillSeeks f v r allowed p floor left) where
  -- the link x was read, and a record may be met
  module _ {x : ℕ} (is : x ≡ link_at f p) (some : 0 < left) where
    abbrev linked : ℕ → ℕ → Index
    linked n y =
        cond (eqb y 0) (Err Gap)
        (cond (index_met f y) (after_scan (scanned f y r no_limit (used_at f y) 0 floor) n (λ upper. indexed f r (next_at y) upper n)) (Err Breach))

    first_linked : indexed f r (head_of_index v) 0 allowed ≡ linked (left - 1) x
    unfolding indexed
    first_linked = let one : left ≡ suc (left - 1) = omega (arith, some) in q.same ∙ ap (indexed f r p floor) one ∙ ap (linked (left - 1)) (sym is)

    pub seek_over : x ≡ 0 → Err Gap ≡ indexed f r (head_of_index v) 0 allowed
    seek_over z = sym (first_linked ∙ simp (eq-eqb x 0 z))

    module _ (link : x ≡ 0 → ⊥) where
      pub seek_unmet : index_met f x ≡ false → Err Breach ≡ indexed f r (head_of_index v) 0 allowed
      seek_unmet m = sym (first_linked ∙ simp (ne_eqb x 0 link, m))

      -- the VXR is met, and s is what its entries say
      pub seek_met : index_met f x ≡ true → {u : ℕ} → u ≡ used_at f x → {s : Result Scan Refusal} → s ≡ scanned f x r no_limit u 0 floor
          → indexed f r (head_of_index v) 0 allowed ≡ after_scan s (left - 1) (λ upper. indexed f r (next_at x) upper (left - 1))
      seek_met m used e =
          first_linked ∙ (simp (ne_eqb x 0 link, m))
          ∙ ap (λ (t : Result Scan Refusal). after_scan t (left - 1) (λ upper. indexed f r (next_at x) upper (left - 1)))
          (sym (e ∙ ap (λ (w : ℕ). scanned f x r no_limit w 0 floor) used))

  pub seek_last : left ≡ 0 → Err (last_index f p) ≡ indexed f r (head_of_index v) 0 allowed
  unfolding indexed
  seek_last h = let last : Err (last_index f p) ≡ indexed f r p floor left = rw h in last ∙ sym q.same

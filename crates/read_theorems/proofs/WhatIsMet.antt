-- What the reader meets is what keeps the rules of acceptance. Assumes nothing.
use mathlib.Core.Path.{◌≡◌, refl, subst}
use mathlib.Core.Logic.{◌↔◌, ◌⊎◌, inl, inr}
use mathlib.Core.Bool.{Bool, true, false, cond}
use mathlib.Core.List.{List, [], ◌∷◌}
use Prim.Native.Nat.{ℕ, ◌≤◌}
use native.Mathlib.Omega.{arith}
use lib.Dec.{eqb}
use borrow.Author.Tests.{eqb-true, eq-eqb}
use Rattle.format.specs.Fields.{link_at}
use Rattle.format.proofs.Tests.{both}
use Rattle.format.proofs.FieldRanges.{end_is}
use Rattle.records.specs.Layout.{next_at}
use Rattle.records.specs.Rules.{size_at}
use Rattle.records.specs.Opening.{gdr_at, body_of}
use Rattle.records.specs.Index.{vxr_rule}
use Rattle.records.proofs.Judged.{Reach}
use Rattle.records.proofs.Fielded.{adr_law, adr_fields, aedr_law, aedr_fields, vxr_law, vxr_fields}
use Rattle.records.proofs.Opens.{GdrParts, gdr_parts, opening_passes}
use Rattle.records.proofs.Bodies.{opening_body}
use Rattle.variables.proofs.Rule.{carried_makes, vdr_bytes}
use Rattle.lookup.specs.Lists.{meets}
use Rattle.lookup.specs.Indexes.{index_met, lower_met}
use Rattle.lookup.proofs.Opening.{opened_parts}
use Rattle.lookup.proofs.Kept.{Lies, lies_lands, parts_meet, kept_attribute, kept_entry, kept_variable}
use Rattle.demands.specs.Acceptance.{◌∈◌}
use Rattle.demands.proofs.Records.{Stands}
use Rattle.demands.proofs.VariableFacts.{exact_size, parts_make}
use Rattle.read_theorems.specs.Reading.{Lands, Kept}
use Rattle.read_theorems.specs.Causes.{MetRight, MetIsKept}
use Rattle.read_theorems.proofs.Rules.{meets_kept, index_kept}
use Rattle.read_theorems.proofs.Shown.{pad_behind}

module _ (f : List ℕ) where
  -- a record that lands, and is as long as the bytes of its fields
  pub lands_lies : (t o : ℕ) → Lands f t o → 8 ≤ size_at f o → Lies f t o
  lands_lies t o l w = record { placed = l.start; begins = omega (arith, l.inside, w, end_is f); typed = l.typed; inside = omega (arith, l.inside, end_is f) }

  lands_reach : (t o n : ℕ) → Lands f t o → 4 ≤ n → n ≤ size_at f o → Reach f o n
  lands_reach t o n l w h = record { begins = omega (arith, l.inside, end_is f); holds = h; lies = omega (arith, l.inside, end_is f) }

  kept_adr : (o : ℕ) → Kept f 4 o → meets f 4 o ≡ true
  kept_adr o k =
      let right = k.adr refl in
      let size = ((adr_fields f o).0 right).size in
      parts_meet f 4 o (lands_lies 4 o k.lands (omega (arith, size)))
      (kept_attribute f o ((adr_law f o).1 (record { reach = lands_reach 4 o 116 k.lands (omega arith) (omega (arith, size)); right = right })))

  kept_aedr : (b : Bool) (o : ℕ) → Kept f (cond b 5 9) o → meets f (cond b 5 9) o ≡ true
  kept_aedr b o k =
      let right = k.aedr (among b) in
      let size = ((aedr_fields f o).0 right).size in
      parts_meet f (cond b 5 9) o (lands_lies (cond b 5 9) o k.lands (omega (arith, size)))
      (kept_entry f o b ((aedr_law f o).1 (record { reach = lands_reach (cond b 5 9) o 48 k.lands (omega arith) (omega (arith, size)); right = right })))
    where
      among : (b : Bool) → (◌≡◌ {A = ℕ} (cond b 5 9) 5) ⊎ (◌≡◌ {A = ℕ} (cond b 5 9) 9)
      among true = inl refl
      among false = inr refl

  kept_vdr : GdrParts f (gdr_at f) → (b : Bool) (o : ℕ) → Kept f (cond b 3 8) o → meets f (cond b 3 8) o ≡ true
  kept_vdr g b o k =
      let t : ℕ = cond b 3 8 in
      let v = k.vdr (among b) in
      let wide : 128 ≤ size_at f o = omega (arith, exact_size f t o v.exact, pad_behind f t o) in
      let s : Stands f o = record { placed = k.lands.start; wide = omega (arith, wide); inside = omega (arith, k.lands.inside, end_is f) } in
      let p = parts_make f t o g s v.fields v.count v.exact v.dimensions v.bytes in
      parts_meet f t o (lands_lies t o k.lands (omega (arith, wide)))
      (kept_variable f o b (carried_makes f o (lands_reach t o 32 k.lands (omega arith) (omega (arith, wide))) v.carried) (vdr_bytes f t o p).0)
    where
      among : (b : Bool) → (◌≡◌ {A = ℕ} (cond b 3 8) 3) ⊎ (◌≡◌ {A = ℕ} (cond b 3 8) 8)
      among true = inl refl
      among false = inr refl

  kept_vxr : (x : ℕ) → Kept f 6 x → index_met f x ≡ true
  unfolding index_met
  kept_vxr x k =
      let right = k.vxr refl in
      let size = ((vxr_fields f x).0 right).size in
      rw (
        lies_lands f 6 x (lands_lies 6 x k.lands (omega (arith, size))),
        eq-eqb (vxr_rule f x) 0 ((vxr_law f x).1 (record { reach = lands_reach 6 x 20 k.lands (omega arith) (omega (arith, size)); right = right })),
      )

  lower_both : (x : ℕ) → (lower_met f x ≡ true) ↔ (Kept f 6 x × (link_at f (next_at x) ≡ 0))
  unfolding lower_met
  lower_both x = (
    λ e. let a = both (index_met f x) (eqb (link_at f (next_at x)) 0) e in (index_kept f x a.0, eqb-true (link_at f (next_at x)) 0 a.1),
    λ k. rw (kept_vxr x k.0, eq-eqb (link_at f (next_at x)) 0 k.1),
  )

  met_right : GdrParts f (gdr_at f) → MetRight f
  met_right g = record { listed = listed; vxr = λ x. (index_kept f x, kept_vxr x); lower = lower_both }
    where
      at : (t u o : ℕ) → t ≡ u → (Kept f u o → meets f u o ≡ true) → Kept f t o → meets f t o ≡ true
      at t u o e h k = rw e (h (subst (λ (u : ℕ). Kept f u o) e k))

      back : (t o : ℕ) → t ∈ (3 ∷ 8 ∷ 4 ∷ 5 ∷ 9 ∷ []) → Kept f t o → meets f t o ≡ true
      back t o (inl e) = at t 3 o e (kept_vdr g true o)
      back t o (inr (inl e)) = at t 8 o e (kept_vdr g false o)
      back t o (inr (inr (inl e))) = at t 4 o e (kept_adr o)
      back t o (inr (inr (inr (inl e)))) = at t 5 o e (kept_aedr true o)
      back t o (inr (inr (inr (inr (inl e))))) = at t 9 o e (kept_aedr false o)
      back t o (inr (inr (inr (inr (inr e))))) = absurd e

      other : (t : ℕ) → t ∈ (3 ∷ 8 ∷ 4 ∷ 5 ∷ 9 ∷ []) → t ≡ 6 → ⊥
      other t (inl e) i = omega arith
      other t (inr (inl e)) i = omega arith
      other t (inr (inr (inl e))) i = omega arith
      other t (inr (inr (inr (inl e)))) i = omega arith
      other t (inr (inr (inr (inr (inl e))))) i = omega arith
      other t (inr (inr (inr (inr (inr e))))) i = e

      listed : (t o : ℕ) → t ∈ (3 ∷ 8 ∷ 4 ∷ 5 ∷ 9 ∷ []) → (meets f t o ≡ true) ↔ Kept f t o
      listed t o i = (meets_kept f t o (other t i), back t o i)

-- THE THEOREM
pub met_is_kept : MetIsKept
met_is_kept f e = let b = body_of f in met_right b (gdr_parts b (gdr_at b) (opening_passes b (opening_body f (opened_parts f e).1)).gdr)

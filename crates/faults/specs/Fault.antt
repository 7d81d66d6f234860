-- THE LOCATION of a refusal: section 11 of docs/RULES.md. Assumes nothing.
use Rattle.std.specs.Prelude.{ℕ, Bool, cond, not, ◌&&◌, ◌||◌, eqb}
use Rattle.faults.specs.declared.fault.Involved.{Involved}

-- what a step involves: nothing at the opening; the offset that is swept; the holder of a link that ends a list; holder and target of a link
-- that claims a record; at the end of the walk the record where the look for an unclaimed one stopped
abbrev pub none_involved : Involved
none_involved = record { holder = 0; target = 0; swept = 0; unclaimed = 0 }

abbrev pub sweeping : ℕ → Involved
sweeping o = record { holder = 0; target = 0; swept = o; unclaimed = 0 }

abbrev pub ending : ℕ → Involved
ending h = record { holder = h; target = 0; swept = 0; unclaimed = 0 }

abbrev pub claiming : ℕ → ℕ → Involved
claiming h t = record { holder = h; target = t; swept = 0; unclaimed = 0 }

abbrev pub leaving : ℕ → Involved
leaving o = record { holder = 0; target = 0; swept = 0; unclaimed = o }

-- 11.2: "on a claim": there is a target. None is at 0: a link to 0, or to no record, is 8
abbrev pub claims : Involved → Bool
claims r = not (eqb r.target 0)

-- WHICH RECORD, FOR WHICH NUMBER: "the record holding the link for 8, 9, 11 at a list end, 12; the target for 10, 23, and 14 and 11 on a
-- claim; the swept offset for 7 and for 14 in the sweep; the first unclaimed record for 13; 0 for the others" (11.2)
unfoldable pub fault_at : Involved → ℕ → ℕ
fault_at r v =
    cond (eqb v 8 || eqb v 9 || eqb v 12 || eqb v 11 && not (claims r)) r.holder
    (cond (eqb v 10 || eqb v 23 || (eqb v 14 || eqb v 11) && claims r) r.target
    (cond (eqb v 7 || eqb v 14) r.swept
    (cond (eqb v 13) r.unclaimed 0)))

-- what a finished check says again: p, whichever record is there, unless a refusal with v has no location
abbrev pub anywhere : ℕ → Involved
anywhere p = record { holder = p; target = p; swept = p; unclaimed = p }

abbrev pub saved_location : ℕ → ℕ → ℕ
saved_location v p = fault_at (anywhere p) v

-- Laws of the location of a refusal. Assumes nothing.
use mathlib.Core.Path.{◌≡◌, refl}
use mathlib.Core.Bool.{Bool, true, false, cond, not, ◌&&◌, ◌||◌}
use Prim.Native.Nat.{ℕ}
use lib.Dec.{eqb}
use Rattle.faults.specs.Fault.{claims, fault_at, anywhere, saved_location}
use Rattle.faults.specs.declared.fault.Involved.{Involved}

-- the choice among the records, by the tests of the number; k says whether the link claims a record
abbrev chosen : Bool → Bool → Bool → Bool → Bool → Bool → Bool → Involved → ℕ
chosen a e b x c d k r =
    cond (a || e && not k) r.holder (cond (b || (x || e) && k) r.target (cond (c || x) r.swept (cond d r.unclaimed 0)))

-- where every record is at p, or at 0 if none is chosen, p is chosen, whether the link claims one or not
again : (a e b x c d j k : Bool) (r : Involved) → chosen a e b x c d j (anywhere (chosen a e b x c d k r)) ≡ chosen a e b x c d k r
again true e b x c d j k r = refl
again false true b x c d false k r = refl
again false true true x c d true k r = refl
again false true false true c d true k r = refl
again false true false false c d true k r = refl
again false false true x c d j k r = refl
again false false false true c d true k r = refl
again false false false true true d false k r = refl
again false false false true false d false k r = refl
again false false false false true d j k r = refl
again false false false false false true j k r = refl
again false false false false false false j k r = refl

-- a location that a step gives is said again
pub saved_fault : (r : Involved) (v : ℕ) → saved_location v (fault_at r v) ≡ fault_at r v
unfolding fault_at
saved_fault r v =
    again (eqb v 8 || eqb v 9 || eqb v 12) (eqb v 11) (eqb v 10 || eqb v 23) (eqb v 14) (eqb v 7) (eqb v 13) (claims (anywhere (fault_at r v))) (claims r) r

-- 0 is said again with every number
pub saved_none : (v : ℕ) → saved_location v 0 ≡ 0
unfolding fault_at
saved_none v =
    none (eqb v 8 || eqb v 9 || eqb v 12 || eqb v 11 && not (claims (anywhere 0))) (eqb v 10 || eqb v 23 || (eqb v 14 || eqb v 11) && claims (anywhere 0))
    (eqb v 7 || eqb v 14) (eqb v 13)
  where
    none : (a b c d : Bool) → ◌≡◌ {A = ℕ} (cond a 0 (cond b 0 (cond c 0 (cond d 0 0)))) 0
    none true b c d = refl
    none false true c d = refl
    none false false true d = refl
    none false false false true = refl
    none false false false false = refl

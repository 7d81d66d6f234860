-- The parts of the two areas that are a job's own, and when a round is refused (section 12 of docs/RULES.md). Assumes nothing.
use Rattle.std.specs.Prelude.{ℕ, zero, suc, ◌+◌, Bool, false, not, ◌&&◌, ◌||◌, List, ◌++◌, take, drop, leb, ltb, eqb}
use Rattle.jobs.specs.declared.parts.Part.{Part}
use Rattle.jobs.specs.declared.parts.Parts.{Parts}

-- what stands in a part of an area; and the area with ys in that part
abbrev pub part_of : Part → List ℕ → List ℕ
part_of p s = take p.len (drop p.from s)

abbrev pub with_part : Part → List ℕ → List ℕ → List ℕ
with_part p s ys = take p.from s ++ (ys ++ drop p.len (drop p.from s))

-- empty parts at the areas' beginnings
abbrev pub no_parts : Parts
no_parts = record { file = record { from = 0; len = 0 }; marks = record { from = 0; len = 0 } }

-- a part lies in an area of length n; one of length 0 lies anywhere from 0 to n
unfoldable pub inside : Part → ℕ → Bool
inside p n = leb (p.from + p.len) n

-- 12.4: "parts outside an area"
unfoldable pub outside : Parts → ℕ → ℕ → Bool
outside p files marks = not (inside p.file files) || not (inside p.marks marks)

-- 12.4: "overlapping parts of nonzero length": each begins before the other ends
unfoldable pub overlap : Part → Part → Bool
overlap p r = (not (eqb p.len 0) && not (eqb r.len 0)) && (ltb p.from (r.from + r.len) && ltb r.from (p.from + p.len))

-- in the file area, or in the marks area
unfoldable pub clash : Parts → Parts → Bool
clash p r = overlap p.file r.file || overlap p.marks r.marks

-- some number below n has it
unfoldable pub any_to : (ℕ → Bool) → ℕ → Bool
any_to t zero = false
any_to t (suc n) = any_to t n || t n

-- of jobs whose parts p gives by their place in the list: one of the first n has a part outside its area
abbrev pub any_outside : (ℕ → Parts) → ℕ → ℕ → ℕ → Bool
any_outside p n files marks = any_to (λ i. outside (p i) files marks) n

-- an earlier job has parts that overlap those of job i; and so for one of the first n
abbrev pub clash_before : (ℕ → Parts) → ℕ → Bool
clash_before p i = any_to (λ k. clash (p k) (p i)) i

abbrev pub any_clash : (ℕ → Parts) → ℕ → Bool
any_clash p n = any_to (clash_before p) n

-- 12.4: "q of 0, more than eight jobs, parts outside an area or overlapping parts of nonzero length: refused with 24": n jobs, areas of these
-- lengths
unfoldable pub refused_of : (ℕ → Parts) → ℕ → ℕ → ℕ → ℕ → Bool
refused_of p n files marks q = eqb q 0 || (ltb 8 n || (any_outside p n files marks || any_clash p n))

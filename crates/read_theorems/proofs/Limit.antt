-- THE LIMIT OF RECORDS MET, of every file. Assumes nothing.
use mathlib.Core.Path.{◌≡◌, refl, sym, ap, ◌∙◌}
use mathlib.Core.Logic.{inl, inr}
use mathlib.Core.Bool.{Bool, true, false, cond}
use mathlib.Core.List.{List}
use Prim.Native.Nat.{ℕ, ◌+◌, ◌/◌, ◌≤◌}
use native.Mathlib.Omega.{arith}
use lib.Dec.{eqb}
use lib.IntN.{ℤ}
use lib.ListN.{length}
use Rattle.records.specs.Opening.{gdr_at, body_of}
use Rattle.variables.specs.Vdr.{variable_of, shape_of}
use Rattle.lookup.specs.Lists.{met_at, Way, opened, allowance, kind_among, variable_way, attribute_way, entry_way}
use Rattle.lookup.specs.Indexes.{record_way, levels_way}
use Rattle.lookup.specs.Limit.{variable_met, place_met, record_way_met, levels_way_met, variable_within, attribute_within}
use Rattle.lookup.specs.declared.refusals.Refusal.{Refusal}
use Rattle.lookup.specs.declared.refusals.Refusal.TheVariants.{Breach}
use Rattle.lookup.proofs.Opening.{opened_inside}
use Rattle.lookup.proofs.Limit.{Limited, limited_map, none_limited, record_limited, levels_limited, variable_limited, attribute_limited, entry_limited}
use Rattle.answers.specs.Answers.{in_values, in_variable, value_read, entry_value, pad_read}
use Rattle.descriptors.specs.Descriptors.{gdr_size, padding, file_field_in, file_field, dimension_size, variable_field, attribute_field, entry_field, variable_dimensions, variable_size, variable_variance, levels_field, variable_levels, variable_name, attribute_name}
use Rattle.reader.specs.Questions.{Question, ask_value, ask_entry, ask_pad, ask_file, ask_dimension, ask_variable, ask_attribute, ask_entry_field, ask_size, ask_variance, ask_levels, ask_variable_name, ask_attribute_name, Refused, of_read, of_field, answer_to}
use Rattle.read_theorems.specs.Refusing.{Subject, TheFile, AVariable, AnAttribute, AnEntry, ARecord, about}
use Rattle.read_theorems.specs.Limit.{way_within, file_on, answer_on, answer_within, none_met, met_behind, LimitKept, LimitExact}
use Rattle.std.specs.Prelude.{Ok, Err}

-- ---- THE WAY OF A FILE is the one that its length allows
abbrev pub way_of : List ℕ → Question → Way
way_of f q = way_within (allowance f) f (about q)

module _ (f : List ℕ) where
  pub answer_within_lem : (q : Question) → answer_to f q ≡ answer_on f q (way_of f q)
  unfolding value_read entry_value pad_read file_field dimension_size variable_field attribute_field entry_field variable_dimensions variable_size variable_variance variable_levels variable_name attribute_name variable_way attribute_way entry_way
  answer_within_lem (ask_value k n r is x) = refl
  answer_within_lem (ask_entry a k w x) = refl
  answer_within_lem (ask_pad k n x) = refl
  answer_within_lem (ask_file what) = go (opened f)
    where
      go : (b : Bool)
          → let x = cond b (cond (eqb what 6) (Ok (padding f)) (file_field_in (body_of f) what)) (Err Breach) in
          of_field x ≡ file_on (cond b (met_at (gdr_at (body_of f)) (allowance f)) (Err Breach)) x
      go true = refl
      go false = refl
  answer_within_lem (ask_dimension d) = go (opened f)
    where
      go : (b : Bool)
          → let x = cond b (gdr_size (body_of f) d) (Err Breach) in
          of_field x ≡ file_on (cond b (met_at (gdr_at (body_of f)) (allowance f)) (Err Breach)) x
      go true = refl
      go false = refl
  answer_within_lem (ask_variable k n p) = refl
  answer_within_lem (ask_attribute n p) = refl
  answer_within_lem (ask_entry_field a k w p) = refl
  answer_within_lem (ask_size k n d) = refl
  answer_within_lem (ask_variance k n d) = refl
  answer_within_lem (ask_levels k n r) = refl
  answer_within_lem (ask_variable_name k n) = refl
  answer_within_lem (ask_attribute_name n) = refl

  -- a way that stopped is the answer
  pub answer_stopped : (q : Question) (v : Refusal) → answer_on f q (Err v) ≡ Refused v
  answer_stopped (ask_value k n r is x) v = refl
  answer_stopped (ask_entry a k w x) v = refl
  answer_stopped (ask_pad k n x) v = refl
  answer_stopped (ask_file what) v = refl
  answer_stopped (ask_dimension d) v = refl
  answer_stopped (ask_variable k n p) v = refl
  answer_stopped (ask_attribute n p) v = refl
  answer_stopped (ask_entry_field a k w p) v = refl
  answer_stopped (ask_size k n d) v = refl
  answer_stopped (ask_variance k n d) v = refl
  answer_stopped (ask_levels k n r) v = refl
  answer_stopped (ask_variable_name k n) v = refl
  answer_stopped (ask_attribute_name n) v = refl

  -- ---- a file that does not open is 20
  way_closed : opened f ≡ false → (left : ℕ) (s : Subject) → way_within left f s ≡ Err Breach
  way_closed shut left TheFile = rw shut
  way_closed shut left (AVariable k n) = rw shut
  way_closed shut left (AnAttribute n) = rw shut
  way_closed shut left (AnEntry a k w) = rw shut
  way_closed shut left (ARecord k n r) = rw shut

  pub closed : opened f ≡ false → (left : ℕ) (q : Question) → answer_within left f q ≡ Refused Breach
  closed shut left q = ap (answer_on f q) (way_closed shut left (about q)) ∙ answer_stopped q Breach

  -- ---- of one that opens
  module _ (opens : opened f ≡ true) (left most : ℕ) (h : left ≤ most) where
    abbrev Same : Question → Type 0
    Same q = Limited (Refused Breach) (met_behind most (body_of f) q) left (answer_within left f q) (answer_within most f q)

    -- where nothing more is met behind the VDR, ADR or AEDR
    abbrev Ends : Question → Type 0
    Ends q = (o left most : ℕ) → answer_on f q (met_at o left) ≡ answer_on f q (met_at o most)

    last : (q : Question) → Ends q → (o left most : ℕ) → left ≤ most
        → Limited (answer_on f q (Err Breach)) (none_met o most) left (answer_on f q (met_at o left)) (answer_on f q (met_at o most))
    last q same o left most h = inr (omega arith, same o most left)

    variable_same : (q : Question) → Ends q → (k n : ℤ)
        → Limited (answer_on f q (Err Breach)) (variable_met (body_of f) k n none_met most) left (answer_on f q (variable_within left f k n)) (answer_on f q (variable_within most f k n))
    variable_same q same k n = variable_limited (answer_on f q) f opens left most h none_met (last q same) k n

    attribute_same : (q : Question) → Ends q → (n : ℤ)
        → Limited (answer_on f q (Err Breach)) (place_met (body_of f) 4 n none_met most) left (answer_on f q (attribute_within left f n)) (answer_on f q (attribute_within most f n))
    attribute_same q same n = attribute_limited (answer_on f q) f opens left most h none_met (last q same) n

    limited : (q : Question) → Same q
    unfolding in_variable
    limited (ask_value k n r is x) =
        let b = body_of f in
        let t = kind_among 3 8 k in
        variable_limited (answer_on f (ask_value k n r is x)) f opens left most h (λ v left. record_way_met b v r left)
        (λ v left most h.
        limited_map (λ s. of_read (in_values b v (shape_of (variable_of b t v)) is x s)) (Err Breach) (record_way_met b v r most) left
        (record_way b v (variable_of b t v).bytes r left) (record_way b v (variable_of b t v).bytes r most)
        (record_limited b v r left most h (variable_of b t v).bytes)) k n
    limited (ask_entry a k w x) = entry_limited (answer_on f (ask_entry a k w x)) f opens left most h (λ o l m. refl) a k w
    limited (ask_pad k n x) = variable_same (ask_pad k n x) (λ o l m. refl) k n
    limited (ask_file what) = rw opens (none_limited (Refused Breach) left (of_field (file_field f what)))
    limited (ask_dimension d) = rw opens (none_limited (Refused Breach) left (of_field (dimension_size f d)))
    limited (ask_variable k n p) = variable_same (ask_variable k n p) (λ o l m. refl) k n
    limited (ask_attribute n p) = attribute_same (ask_attribute n p) (λ o l m. refl) n
    limited (ask_entry_field a k w p) = entry_limited (answer_on f (ask_entry_field a k w p)) f opens left most h (λ o l m. refl) a k w
    limited (ask_size k n d) = variable_same (ask_size k n d) (λ o l m. refl) k n
    limited (ask_variance k n d) = variable_same (ask_variance k n d) (λ o l m. refl) k n
    limited (ask_levels k n r) =
        let b = body_of f in
        variable_limited (answer_on f (ask_levels k n r)) f opens left most h (λ v left. levels_way_met b v r left)
        (λ v left most h.
        limited_map (λ s. of_field (levels_field s)) (Err Breach) (levels_way_met b v r most) left (levels_way b v r left) (levels_way b v r most)
        (levels_limited b v r left most h)) k n
    limited (ask_variable_name k n) = variable_same (ask_variable_name k n) (λ o l m. refl) k n
    limited (ask_attribute_name n) = attribute_same (ask_attribute_name n) (λ o l m. refl) n

  -- a file that opens allows the two, and behind them so many
  pub two_more : opened f ≡ true → allowance f + 2 ≡ length f / 8
  unfolding allowance
  two_more e = let p = opened_inside f e in omega (arith, p.part, p.long)

  kept : (q : Question) (count : ℕ) → allowance f ≤ count → LimitKept f q count
  kept q count h = go (opened f) refl
    where
      on : opened f ≡ true → Limited (Refused Breach) (met_behind count (body_of f) q) (allowance f) (answer_within (allowance f) f q) (answer_within count f q) → LimitKept f q count
      on e (inl (l, s)) = record { more = λ m. answer_within_lem q ∙ s; within = λ m. absurd (omega (arith, l, m, two_more e)) }
      on e (inr (l, s)) = record { more = λ m. absurd (omega (arith, l, m, two_more e)); within = λ m. answer_within_lem q ∙ sym s }

      go : (b : Bool) → opened f ≡ b → LimitKept f q count
      go true e = on e (limited e (allowance f) count h q)
      go false e = record { more = λ m. answer_within_lem q ∙ closed e (allowance f) q; within = λ m. answer_within_lem q ∙ closed e (allowance f) q ∙ sym (closed e count q) }

-- THE THEOREM
pub limit_exact : LimitExact
limit_exact f q = (answer_within_lem f q, kept f q)

-- DEMAND 2, its second half: of an accepted file every answer is that of its lists; so it is never 20, and no two lowest entries of an index
-- cover one record. Assumes nothing.
use mathlib.Core.Path.{◌≡◌, sym, ◌∙◌, subst}
use mathlib.Core.Logic.{◌⊎◌, inl, inr}
use mathlib.Core.Bool.{Bool, cond, ◌&&◌}
use mathlib.Core.List.{List, [], ◌∷◌}
use Prim.Native.Nat.{ℕ, zero, suc}
use lib.Dec.{eqb}
use lib.IntN.{ℤ, pos, negsuc}
use lib.ListN.{length}
use Rattle.std.specs.Prelude.{Option, Some, None}
use Rattle.format.specs.Fields.{eq_z, is_at, nat_at}
use Rattle.format.specs.Types.{type_of, kind_in}
use Rattle.format.specs.Encodings.{encoding_of, float_in}
use Rattle.format.proofs.Tests.{cond_keeps}
use Rattle.vax.specs.Rounding.{vax_at}
use Rattle.values.specs.Values.{is_vax, vax_kind}
use Rattle.records.specs.Layout.{r_dim_sizes_at, attr_name_at, entry_type_at, entry_num_at, entry_elements_at, data_type_at, var_name_at}
use Rattle.records.specs.Opening.{gdr_at, r_num_dims, body_of}
use Rattle.records.specs.Tree.{Slot, lowest_entries}
use Rattle.variables.specs.Vdr.{layout_of}
use Rattle.variables.specs.Place.{index_right}
use Rattle.lookup.specs.Indexes.{record_there, record_read}
use Rattle.lookup.specs.declared.refusals.Refusal.TheVariants.{Breach, NoSuch, NoNumber, Gap, OutOfRange, Operand}
use Rattle.lookup.specs.declared.lists.Wanted.{Wanted}
use Rattle.lookup.specs.declared.lists.Wanted.TheVariants.{Place, Number}
use Rattle.answers.specs.Offsets.{value_at, entry_at, pad_at}
use Rattle.answers.specs.Answers.{file_encoding, element_there}
use Rattle.descriptors.specs.Descriptors.{is_shown}
use Rattle.reader.specs.Questions.{Question, ask_value, ask_entry, ask_pad, ask_file, ask_dimension, ask_variable, ask_attribute, ask_entry_field, ask_size, ask_variance, ask_levels, ask_variable_name, ask_attribute_name, Reply, Value, Field, Name, Refused, answer_to}
use Rattle.demands.specs.Acceptance.{◌∈◌, Each, ListedVdr, Lists, IndexRight, VdrRight}
use Rattle.demands.proofs.NestedDemand.{NestedAccepted}
use Rattle.demands.proofs.Demand2.{lists_of, makes, obeys_body, lists_kept}
use Rattle.demands.proofs.Splits.{each_in}
use Rattle.demands.proofs.Lowest.{lowest_rise, covered_once}
use Rattle.read_theorems.specs.Reading.{question_right, pad_right, field_told, row_told, size_told, file_told}
use Rattle.read_theorems.specs.Answering.{at_place, first_that, numbered, of_kind, variables_of, of_variable, wanted_of, entries_of, of_entry, vax_told, element_in, covers, value_in, levelled_entries, levels_in, name_in, answer_in, Demand2Values, Never20, CoveredOnce}
use Rattle.read_theorems.proofs.AnsweringWays.{laid}
use Rattle.read_theorems.proofs.AnsweringFields.{variable_answer, attribute_answer, entry_field_answer, size_answer, variance_answer, variable_name_answer, attribute_name_answer, dimension_answer, file_answer}
use Rattle.read_theorems.proofs.AnsweringValues.{value_answer, entry_answer, pad_answer, levels_answer}

-- ---- THE ANSWERS
answers : (f : List ℕ) (n : NestedAccepted f) (starts : List ℕ) (q : Question) → answer_to f q ≡ answer_in f (laid f n starts) q
answers f n starts (ask_value k j r is x) = value_answer f n starts k j r is x
answers f n starts (ask_entry a k w x) = entry_answer f n starts a k w x
answers f n starts (ask_pad k j x) = pad_answer f n starts k j x
answers f n starts (ask_file what) = file_answer f n starts what
answers f n starts (ask_dimension d) = dimension_answer f n starts d
answers f n starts (ask_variable k j p) = variable_answer f n starts k j p
answers f n starts (ask_attribute j p) = attribute_answer f n starts j p
answers f n starts (ask_entry_field a k w p) = entry_field_answer f n starts a k w p
answers f n starts (ask_size k j d) = size_answer f n starts k j d
answers f n starts (ask_variance k j d) = variance_answer f n starts k j d
answers f n starts (ask_levels k j r) = levels_answer f n starts k j r
answers f n starts (ask_variable_name k j) = variable_name_answer f n starts k j
answers f n starts (ask_attribute_name j) = attribute_name_answer f n starts j

-- THE THEOREM
pub demand_2_values : Demand2Values
unfolding lists_of
demand_2_values f a q = subst (λ (l : Lists). answer_to f q ≡ answer_in f l q) (lists_kept f a) (answers f (makes f a) a.lists.starts q)

-- ---- NEVER 20: none of these answers is
abbrev Gives : Reply → Type 0
Gives (Value a) = Unit {0}
Gives (Field x) = Unit {0}
Gives (Name o n) = Unit {0}
Gives (Refused Breach) = ⊥
Gives (Refused NoSuch) = Unit {0}
Gives (Refused NoNumber) = Unit {0}
Gives (Refused Gap) = Unit {0}
Gives (Refused OutOfRange) = Unit {0}
Gives (Refused Operand) = Unit {0}

at_gives : {X : Type 0} (other : Reply) (of : X → Reply) → Gives other → ((x : X) → Gives (of x)) → (xs : List X) (n : ℕ) → Gives (at_place other xs n of)
at_gives other of h g [] n = h
at_gives other of h g (x ∷ xs) zero = g x
at_gives other of h g (x ∷ xs) (suc n) = at_gives other of h g xs n

first_gives : {X : Type 0} (other : Reply) (of : X → Reply) (test : X → Bool) → Gives other → ((x : X) → Gives (of x)) → (xs : List X)
    → Gives (first_that other test xs of)
first_gives other of test h g [] = h
first_gives other of test h g (x ∷ xs) = cond_keeps Gives (test x) (g x) (first_gives other of test h g xs)

numbered_gives : {X : Type 0} (xs : List X) (j : ℤ) (of : X → Reply) → ((x : X) → Gives (of x)) → Gives (numbered xs j of)
numbered_gives xs (pos n) of g = at_gives (Refused NoSuch) of tt g xs n
numbered_gives xs (negsuc n) of g = tt

kind_gives : (a b : ℕ) (k : ℤ) (of : ℕ → Reply) → ((t : ℕ) → Gives (of t)) → Gives (of_kind a b k of)
kind_gives a b k of g = cond_keeps Gives (eq_z k (pos a)) (g a) (cond_keeps Gives (eq_z k (pos b)) (g b) tt)

variable_gives : (l : Lists) (k j : ℤ) (of : ℕ → ListedVdr → Reply) → ((t : ℕ) (d : ListedVdr) → Gives (of t d)) → Gives (of_variable l k j of)
variable_gives l k j of g = kind_gives 3 8 k (λ t. numbered (variables_of l t) j (of t)) (λ t. numbered_gives (variables_of l t) j (of t) (g t))

wanted_gives : (f es : List ℕ) (w : Wanted) (of : ℕ → Reply) → ((e : ℕ) → Gives (of e)) → Gives (wanted_of f es w of)
wanted_gives f es (Place n) of g = at_gives (Refused NoNumber) of tt g es n
wanted_gives f es (Number n) of g = first_gives (Refused NoNumber) of (λ e. is_at f (entry_num_at e) n) tt g es

entry_gives : (f : List ℕ) (l : Lists) (j k : ℤ) (w : Wanted) (of : ℕ → ℕ → Reply) → ((t e : ℕ) → Gives (of t e)) → Gives (of_entry f l j k w of)
entry_gives f l j k w of g =
    kind_gives 5 9 k (λ t. numbered l.attributes j (λ d. wanted_of f (entries_of d t) w (of t)))
    (λ t. numbered_gives l.attributes j (λ d. wanted_of f (entries_of d t) w (of t)) (λ d. wanted_gives f (entries_of d t) w (of t) (g t)))

element_gives : (f : List ℕ) (right : Bool) (at t : ℕ) → Gives (element_in f right at t)
element_gives f right at t =
    let kind = kind_in (type_of (nat_at f t)) in
    let float = float_in (encoding_of (file_encoding f)) in
    cond_keeps Gives right (cond_keeps Gives (is_vax kind float) (vax (vax_at (vax_kind kind float) f at)) tt) tt
  where
    vax : (v : Option ℕ) → Gives (vax_told v at)
    vax (Some r) = tt
    vax None = tt

field_gives : (f : List ℕ) (t o p : ℕ) → Gives (field_told f t o p)
field_gives f t o p = cond_keeps Gives (is_shown t p) tt tt

row_gives : (f : List ℕ) (p n : ℕ) (d : ℤ) → Gives (row_told f p n d)
row_gives f p n d = cond_keeps Gives (index_right d n) tt tt

file_gives : (n : ℕ) (f : List ℕ) (rs zs ads : ℤ) (what : ℕ) → Gives (file_told n f rs zs ads what)
file_gives n f rs zs ads what = each (eqb what 0) _ _ (each (eqb what 1) _ _ (each (eqb what 2) _ _ (each (eqb what 3) _ _ (each (eqb what 4) _ _ (each (eqb what 5) _ _ (each (eqb what 6) _ _ tt))))))
  where
    each : (b : Bool) (x : ℤ) (s : Reply) → Gives s → Gives (cond b (Field x) s)
    each b x s g = cond_keeps Gives b tt g

value_gives : (f : List ℕ) (t : ℕ) (d : ListedVdr) (r : ℤ) (is : List ℤ) (x : ℤ) → Gives (value_in f t d r is x)
value_gives f t d r is x =
    let n = record_read f d.vdr r in
    let right = question_right f t d.vdr is x in
    let at : Slot → ℕ = λ s. value_at f t d.vdr s n is x in
    cond_keeps Gives (record_there f d.vdr r)
    (first_gives (Refused Gap) (λ s. element_in f right (at s) (data_type_at d.vdr)) (covers f n) tt (λ s. element_gives f right (at s) (data_type_at d.vdr)) (lowest_entries f d.vxrs))
    tt

levels_give : (f : List ℕ) (d : ListedVdr) (r : ℤ) → Gives (levels_in f d r)
levels_give f d r =
    cond_keeps Gives (record_there f d.vdr r)
    (first_gives (Refused Gap) (λ s. Field (pos s.level)) (λ s. covers f (record_read f d.vdr r) s.slot) tt (λ s. tt) (levelled_entries f d.vxrs)) tt

lists_give : (f : List ℕ) (l : Lists) (q : Question) → Gives (answer_in f l q)
lists_give f l (ask_value k j r is x) = variable_gives l k j (λ t d. value_in (body_of f) t d r is x) (λ t d. value_gives (body_of f) t d r is x)
lists_give f l (ask_entry a k w x) =
    let b = body_of f in
    entry_gives b l a k w (λ t e. element_in b (element_there b (entry_elements_at e) x) (entry_at b e x) (entry_type_at e))
    (λ t e. element_gives b (element_there b (entry_elements_at e) x) (entry_at b e x) (entry_type_at e))
lists_give f l (ask_pad k j x) =
    let b = body_of f in
    variable_gives l k j (λ t d. element_in b (pad_right b d.vdr x) (pad_at b d.vdr x) (data_type_at d.vdr))
    (λ t d. element_gives b (pad_right b d.vdr x) (pad_at b d.vdr x) (data_type_at d.vdr))
lists_give f l (ask_file what) =
    file_gives (length f) (body_of f) (pos (length l.r_variables)) (pos (length l.z_variables)) (pos (length l.attributes)) what
lists_give f l (ask_dimension d) = let b = body_of f in row_gives b (r_dim_sizes_at (gdr_at b)) (r_num_dims b (gdr_at b)) d
lists_give f l (ask_variable k j p) = variable_gives l k j (λ t d. field_told (body_of f) t d.vdr p) (λ t d. field_gives (body_of f) t d.vdr p)
lists_give f l (ask_attribute j p) = numbered_gives l.attributes j (λ d. field_told (body_of f) 4 d.adr p) (λ d. field_gives (body_of f) 4 d.adr p)
lists_give f l (ask_entry_field a k w p) = entry_gives (body_of f) l a k w (λ t e. field_told (body_of f) t e p) (λ t e. field_gives (body_of f) t e p)
lists_give f l (ask_size k j d) =
    let b = body_of f in
    variable_gives l k j (λ t v. size_told b t (layout_of b t v.vdr) d)
    (λ t v. let y = layout_of b t v.vdr in cond_keeps Gives (eqb t 8 && index_right d y.count) tt tt)
lists_give f l (ask_variance k j d) =
    let b = body_of f in
    variable_gives l k j (λ t v. let y = layout_of b t v.vdr in row_told b y.variances y.count d)
    (λ t v. let y = layout_of b t v.vdr in row_gives b y.variances y.count d)
lists_give f l (ask_levels k j r) = variable_gives l k j (λ t d. levels_in (body_of f) d r) (λ t d. levels_give (body_of f) d r)
lists_give f l (ask_variable_name k j) = variable_gives l k j (λ t d. name_in (body_of f) (var_name_at d.vdr)) (λ t d. tt)
lists_give f l (ask_attribute_name j) = numbered_gives l.attributes j (λ d. name_in (body_of f) (attr_name_at d.adr)) (λ d. tt)

pub never_20 : Never20
never_20 f a q e = subst Gives (sym (demand_2_values f a q) ∙ e) (lists_give f a.lists q)

-- ---- COVERED ONCE
listed_index : (f : List ℕ) (k : ℕ) (vs : List ListedVdr) → Each vs (λ earlier v. VdrRight f k (length earlier) v) → (d : ListedVdr) → d ∈ vs
    → IndexRight f k d.vdr d.vxrs
listed_index f k vs h = each_in (λ d. IndexRight f k d.vdr d.vxrs) vs (λ earlier later v e. (h earlier later v e).index)

pub covered_once_only : CoveredOnce
covered_once_only f a d m r s t i h c e = go m
  where
    one : (k : ℕ) → IndexRight (body_of f) k d.vdr d.vxrs → s ≡ t
    one k x =
        covered_once (body_of f) (lowest_entries (body_of f) d.vxrs) 0 r s t (lowest_rise (body_of f) k d.vdr d.vxrs x) i h c.first c.last e.first e.last

    go : (d ∈ a.lists.r_variables) ⊎ (d ∈ a.lists.z_variables) → s ≡ t
    go (inl m) = one 3 (listed_index (body_of f) 3 a.lists.r_variables (obeys_body f a).right.r_variables.right d m)
    go (inr m) = one 8 (listed_index (body_of f) 8 a.lists.z_variables (obeys_body f a).right.z_variables.right d m)

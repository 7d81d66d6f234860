-- THE ANSWERS OF AN ACCEPTED FILE, over its lists: no limit, and nothing is judged on the way. Sections 13 to 16 of docs/RULES.md. Assumes
-- nothing.
use Rattle.std.specs.Prelude.{◌≡◌, ◌≢◌, ◌⊎◌, Bool, cond, ◌&&◌, List, [], ◌∷◌, ℕ, zero, suc, ◌≤◌, length, leb, eqb, ℤ, pos, negsuc, Option, Some, None}
use Rattle.format.specs.Fields.{eq_z, is_at, nat_at}
use Rattle.format.specs.Types.{type_of, size_in, kind_in}
use Rattle.format.specs.Encodings.{encoding_of, order_in, float_in}
use Rattle.format.specs.declared.types.DataType.{DataType}
use Rattle.format.specs.declared.encodings.Encoding.{Encoding}
use Rattle.vax.specs.Rounding.{vax_at}
use Rattle.values.specs.Values.{raw_at, answer_of, is_vax, vax_kind, vax_given}
use Rattle.records.specs.Layout.{r_dim_sizes_at, attr_name_at, entry_type_at, entry_num_at, entry_elements_at, data_type_at, var_name_at}
use Rattle.records.specs.Opening.{gdr_at, r_num_dims, body_of}
use Rattle.records.specs.Tree.{Slot, used_entries, first_of, last_of, levels_below, flat, names_index, lower_slots, lowest_entries}
use Rattle.variables.specs.Vdr.{layout_of}
use Rattle.demands.specs.Acceptance.{◌∈◌, ListedVdr, ListedAdr, Lists, Accepted}
use Rattle.lookup.specs.Indexes.{record_there, record_read}
use Rattle.lookup.specs.Entries.{wholly, lowest_upto}
use Rattle.lookup.specs.declared.refusals.Refusal.TheVariants.{Breach, NoSuch, NoNumber, Gap, OutOfRange, Operand}
use Rattle.lookup.specs.declared.lists.Wanted.{Wanted}
use Rattle.lookup.specs.declared.lists.Wanted.TheVariants.{Place, Number}
use Rattle.answers.specs.Offsets.{value_at, entry_at, pad_at}
use Rattle.answers.specs.Answers.{file_encoding, element_there}
use Rattle.descriptors.specs.Descriptors.{until_nul}
use Rattle.reader.specs.Questions.{Question, ask_value, ask_entry, ask_pad, ask_file, ask_dimension, ask_variable, ask_attribute, ask_entry_field, ask_size, ask_variance, ask_levels, ask_variable_name, ask_attribute_name, Reply, Value, Field, Name, Refused, answer_to}
use Rattle.read_theorems.specs.Reading.{CoveredBy, question_right, pad_right, field_told, row_told, size_told, file_told}

-- ---- records of a list

-- 13.2: "the list from its head to the wanted place", counted from 0: what is made of the record there, or other where the list is over
abbrev pub at_place : {X : Type 0} → Reply → List X → ℕ → (X → Reply) → Reply
at_place other [] n of = other
at_place other (x ∷ xs) zero of = of x
at_place other (x ∷ xs) (suc n) of = at_place other xs n of

-- what is made of the first one that passes a test
abbrev pub first_that : {X : Type 0} → Reply → (X → Bool) → List X → (X → Reply) → Reply
first_that other test [] of = other
first_that other test (x ∷ xs) of = cond (test x) (of x) (first_that other test xs of)

-- 15 by 2.1: "no such variable or attribute"; 13.5: "a number of a variable or attribute below 0, is 15"
abbrev pub numbered : {X : Type 0} → List X → ℤ → (X → Reply) → Reply
numbered xs (pos n) of = at_place (Refused NoSuch) xs n of
numbered xs (negsuc n) of = Refused NoSuch

-- 13.5: "Kinds are record types 3, 8 for variables and 5, 9 for entries; any other .. is 15"
abbrev pub of_kind : ℕ → ℕ → ℤ → (ℕ → Reply) → Reply
of_kind a b k of = cond (eq_z k (pos a)) (of a) (cond (eq_z k (pos b)) (of b) (Refused NoSuch))

-- the VDR of a kind and a number
abbrev pub variables_of : Lists → ℕ → List ListedVdr
variables_of l t = cond (eqb t 3) l.r_variables l.z_variables

abbrev pub of_variable : Lists → ℤ → ℤ → (ℕ → ListedVdr → Reply) → Reply
of_variable l k n of = of_kind 3 8 k (λ t. numbered (variables_of l t) n (of t))

-- 16 by 2.1: "no such record or entry number"; 13.8: "by its number, the first that has it, or by its place in the list"
abbrev pub wanted_of : List ℕ → List ℕ → Wanted → (ℕ → Reply) → Reply
wanted_of f es (Place n) of = at_place (Refused NoNumber) es n of
wanted_of f es (Number n) of = first_that (Refused NoNumber) (λ e. is_at f (entry_num_at e) n) es of

abbrev pub entries_of : ListedAdr → ℕ → List ℕ
entries_of d t = cond (eqb t 5) d.gr_entries d.z_entries

abbrev pub of_entry : List ℕ → Lists → ℤ → ℤ → Wanted → (ℕ → ℕ → Reply) → Reply
of_entry f l a k w of = of_kind 5 9 k (λ t. numbered l.attributes a (λ d. wanted_of f (entries_of d t) w (of t)))

-- ---- values

-- 15.5: "The answer is a double"; 15.4: "it is the reserved operand, refused with 22"
abbrev pub vax_told : Option ℕ → ℕ → Reply
vax_told (Some r) at = Value (vax_given r at)
vax_told None at = Refused Operand

-- what data type and encoding make of the bytes at an offset
abbrev pub element_told : List ℕ → ℕ → Option DataType → Option Encoding → Reply
element_told f at d c =
    cond (is_vax (kind_in d) (float_in c)) (vax_told (vax_at (vax_kind (kind_in d) (float_in c)) f at) at)
    (Value (answer_of (kind_in d) (size_in d) (raw_at f at (size_in d) (order_in c)) at))

-- 18 by 2.1: "dimension index or element out of range, or wrong number of indices"; else the element at an offset, whose data type stands at t
abbrev pub element_in : List ℕ → Bool → ℕ → ℕ → Reply
element_in f right at t = cond right (element_told f at (type_of (nat_at f t)) (encoding_of (file_encoding f))) (Refused OutOfRange)

-- 13.7: "The index entry whose First..Last covers it"
abbrev pub covers : List ℕ → ℕ → Slot → Bool
covers f r s = leb (first_of f s) r && leb r (last_of f s)

-- 16 by 13.6: "A record number from 0 to MaxRec is looked up"; 17 by 13.10: "17 is over the lowest entries"
abbrev pub value_in : List ℕ → ℕ → ListedVdr → ℤ → List ℤ → ℤ → Reply
value_in f t d r is x =
    let v = d.vdr in
    let n = record_read f v r in
    cond (record_there f v r)
    (first_that (Refused Gap) (covers f n) (lowest_entries f d.vxrs) (λ s. element_in f (question_right f t v is x) (value_at f t v s n is x) (data_type_at v)))
    (Refused NoNumber)

-- ---- levels: the lowest entries under s, each with its level, where s is of level `at` and n levels may lie below it; 13.12: "1 where an
-- entry of the top chain names its values, and one more with each lower record"
pub record Levelled : Type 0 where
  pub slot : Slot
  pub level : ℕ

abbrev pub levelled_under : List ℕ → ℕ → ℕ → Slot → List Levelled
levelled_under f at zero s = record { slot = s; level = at } ∷ []
levelled_under f at (suc n) s = cond (names_index f s) (flat (levelled_under f (suc at) n) (lower_slots f s)) (record { slot = s; level = at } ∷ [])

abbrev pub levelled_entries : List ℕ → List ℕ → List Levelled
levelled_entries f xs = flat (levelled_under f 1 levels_below) (used_entries f xs)

abbrev pub levels_in : List ℕ → ListedVdr → ℤ → Reply
levels_in f d r =
    let v = d.vdr in
    cond (record_there f v r)
    (first_that (Refused Gap) (λ s. covers f (record_read f v r) s.slot) (levelled_entries f d.vxrs) (λ s. Field (pos s.level)))
    (Refused NoNumber)

-- ---- names

-- 16.4: "names up to the NUL", 64 bytes at most
abbrev pub name_in : List ℕ → ℕ → Reply
name_in f at = Name at (until_nul f at 64)

-- THE ANSWER to a question about a file with these lists
abbrev pub answer_in : List ℕ → Lists → Question → Reply
answer_in f l (ask_value k n r is x) = of_variable l k n (λ t d. value_in (body_of f) t d r is x)
answer_in f l (ask_entry a k w x) =
    let b = body_of f in
    of_entry b l a k w (λ t e. element_in b (element_there b (entry_elements_at e) x) (entry_at b e x) (entry_type_at e))
answer_in f l (ask_pad k n x) =
    let b = body_of f in
    of_variable l k n (λ t d. element_in b (pad_right b d.vdr x) (pad_at b d.vdr x) (data_type_at d.vdr))
-- 16.1: "counts (NrVars, NzVars, NumAttr)" are the lengths of the lists
answer_in f l (ask_file what) = file_told (length f) (body_of f) (pos (length l.r_variables)) (pos (length l.z_variables)) (pos (length l.attributes)) what
answer_in f l (ask_dimension d) = let b = body_of f in row_told b (r_dim_sizes_at (gdr_at b)) (r_num_dims b (gdr_at b)) d
answer_in f l (ask_variable k n p) = of_variable l k n (λ t d. field_told (body_of f) t d.vdr p)
answer_in f l (ask_attribute n p) = numbered l.attributes n (λ d. field_told (body_of f) 4 d.adr p)
answer_in f l (ask_entry_field a k w p) = of_entry (body_of f) l a k w (λ t e. field_told (body_of f) t e p)
answer_in f l (ask_size k n d) = of_variable l k n (λ t v. size_told (body_of f) t (layout_of (body_of f) t v.vdr) d)
answer_in f l (ask_variance k n d) =
    of_variable l k n (λ t v. let y = layout_of (body_of f) t v.vdr in row_told (body_of f) y.variances y.count d)
answer_in f l (ask_levels k n r) = of_variable l k n (λ t d. levels_in (body_of f) d r)
answer_in f l (ask_variable_name k n) = of_variable l k n (λ t d. name_in (body_of f) (var_name_at d.vdr))
answer_in f l (ask_attribute_name n) = numbered l.attributes n (λ d. name_in (body_of f) (attr_name_at d.adr))

-- DEMAND 2, its second half: "From an accepted file the reader gives the value that layout and encoding give, or the named refusal" (1.7)
abbrev pub Demand2Values : Type 0
Demand2Values = (f : List ℕ) (a : Accepted f) (q : Question) → answer_to f q ≡ answer_in f a.lists q

-- NEVER 20: "On an accepted file the reader never gives 20" (13.11)
abbrev pub Never20 : Type 0
Never20 = (f : List ℕ) → Accepted f → (q : Question) → answer_to f q ≢ Refused Breach

-- d is a variable of the lists, of either kind
abbrev pub ListedIn : Lists → ListedVdr → Type 0
ListedIn l d = (d ∈ l.r_variables) ⊎ (d ∈ l.z_variables)

-- COVERED ONCE: in an accepted file no two lowest entries of an index cover the same record number, so the first that covers is the only one
abbrev pub CoveredOnce : Type 0
CoveredOnce = (f : List ℕ) (a : Accepted f) (d : ListedVdr) → ListedIn a.lists d → (r : ℕ) (s t : Slot)
    → s ∈ lowest_entries (body_of f) d.vxrs → t ∈ lowest_entries (body_of f) d.vxrs → CoveredBy (body_of f) r s → CoveredBy (body_of f) r t
    → s ≡ t

-- THE LOWEST ENTRIES ARE ALL THERE: in an accepted file no breach ends those of an index
abbrev pub IndexesWhole : Type 0
IndexesWhole = (f : List ℕ) (a : Accepted f) (d : ListedVdr) → ListedIn a.lists d → (left : ℕ) → length d.vxrs ≤ left
    → lowest_upto (body_of f) d.vdr left ≡ wholly (lowest_entries (body_of f) d.vxrs)

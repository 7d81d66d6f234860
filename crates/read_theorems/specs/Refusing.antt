-- WHAT THE READER REFUSES, of every file: with which numbers, and in which order. Sections 2 and 13 of docs/RULES.md. Assumes nothing.
use Rattle.std.specs.Prelude.{◌≡◌, ◌⊎◌, Bool, true, false, ◌&&◌, List, [], ◌∷◌, ◌++◌, ℕ, ◌≤◌, length, leb, eqb, ℤ, pos}
use Rattle.std.specs.Int.Signed.{le_z}
use Rattle.format.specs.Fields.{nat_or}
use Rattle.records.specs.Layout.{head_of_index, entry_elements_at}
use Rattle.records.specs.Opening.{gdr_at, r_num_dims, body_of}
use Rattle.records.specs.Tree.{Slot, lowest_entries}
use Rattle.variables.specs.Vdr.{layout_of}
use Rattle.variables.specs.Place.{index_right}
use Rattle.demands.specs.Acceptance.{◌∈◌, Each, Linked}
use Rattle.lookup.specs.Refusals.{refusal_number, among, reader_order, order_of}
use Rattle.lookup.specs.Lists.{opened, wanted_at, head_of_list, head_of_entries, of_kinds, kind_among}
use Rattle.lookup.specs.Indexes.{record_there, record_read}
use Rattle.lookup.specs.declared.refusals.Refusal.{Refusal}
use Rattle.lookup.specs.declared.refusals.Refusal.TheVariants.{Breach, NoSuch, NoNumber, Gap, OutOfRange, Operand}
use Rattle.lookup.specs.declared.lists.Wanted.{Wanted}
use Rattle.answers.specs.Answers.{element_there}
use Rattle.descriptors.specs.Descriptors.{is_shown}
use Rattle.reader.specs.Questions.{Question, ask_value, ask_entry, ask_pad, ask_file, ask_dimension, ask_variable, ask_attribute, ask_entry_field, ask_size, ask_variance, ask_levels, ask_variable_name, ask_attribute_name, Refused, answer_to, call, call_of}
use Rattle.read_theorems.specs.Reading.{nth_record, CoveredBy, EntryFound, question_right, pad_right}

-- ---- WHAT A QUESTION IS ABOUT
pub data Subject : Type 0 where
  TheFile : Subject
  AVariable : (kind number : ℤ) → Subject
  AnAttribute : (number : ℤ) → Subject
  AnEntry : (attribute kind : ℤ) (wanted : Wanted) → Subject
  ARecord : (kind number rec : ℤ) → Subject

abbrev pub about : Question → Subject
about (ask_value k n r is x) = ARecord k n r
about (ask_entry a k w x) = AnEntry a k w
about (ask_pad k n x) = AVariable k n
about (ask_file what) = TheFile
about (ask_dimension d) = TheFile
about (ask_variable k n p) = AVariable k n
about (ask_attribute n p) = AnAttribute n
about (ask_entry_field a k w p) = AnEntry a k w
about (ask_size k n d) = AVariable k n
about (ask_variance k n d) = AVariable k n
about (ask_levels k n r) = ARecord k n r
about (ask_variable_name k n) = AVariable k n
about (ask_attribute_name n) = AnAttribute n

-- ---- WHICH REFUSALS a question can have: those that come on the way to what it is about, 13.2: "It stops where 15 (list over), 16 or 17 is
-- known"
abbrev pub way_refusals : Subject → List Refusal
way_refusals TheFile = Breach ∷ []
way_refusals (AVariable k n) = Breach ∷ NoSuch ∷ []
way_refusals (AnAttribute n) = Breach ∷ NoSuch ∷ []
way_refusals (AnEntry a k w) = Breach ∷ NoSuch ∷ NoNumber ∷ []
way_refusals (ARecord k n r) = Breach ∷ NoSuch ∷ NoNumber ∷ Gap ∷ []

-- and those of what is asked of it: an element, 14.2: "dimension index or element out of range", 15.4: "the reserved operand"; a field
abbrev pub element_refusals : List Refusal
element_refusals = OutOfRange ∷ Operand ∷ []

abbrev pub field_refusals : List Refusal
field_refusals = OutOfRange ∷ []

abbrev pub end_refusals : Question → List Refusal
end_refusals (ask_value k n r is x) = element_refusals
end_refusals (ask_entry a k w x) = element_refusals
end_refusals (ask_pad k n x) = element_refusals
end_refusals (ask_file what) = field_refusals
end_refusals (ask_dimension d) = field_refusals
end_refusals (ask_variable k n p) = field_refusals
end_refusals (ask_attribute n p) = field_refusals
end_refusals (ask_entry_field a k w p) = field_refusals
end_refusals (ask_size k n d) = field_refusals
end_refusals (ask_variance k n d) = field_refusals
end_refusals (ask_levels k n r) = []
end_refusals (ask_variable_name k n) = []
end_refusals (ask_attribute_name n) = []

abbrev pub refusals_of : Question → List Refusal
refusals_of q = way_refusals (about q) ++ end_refusals q

-- a refusal is one of these, its number is in the table, and the caller is told that number and keeps its own numbers; 1.5: "A refusal is one
-- number of the table of 2.1"; 2.4: "a refusal carries its number and no value"
pub record RefusedRight (f : List ℕ) (q : Question) (v : Refusal) : Type 0 where
  pub one : v ∈ refusals_of q
  pub number : among reader_order (refusal_number v) ≡ true
  pub kept : (before : List ℤ) → call_of (answer_to f q) before ≡ call (pos (refusal_number v)) before

abbrev pub EveryRefusal : Type 0
EveryRefusal = (f : List ℕ) (q : Question) (v : Refusal) → answer_to f q ≡ Refused v → RefusedRight f q v

-- ---- THE ORDER: "Of several refusals of the reader the first in the order 20, 15, 16, 17, 18, 22 is given" (2.3)

-- 15: a kind that is none of the two, a number below 0, or a list that is over before that place; f is the part before a file's end
abbrev pub NoneListed : List ℕ → ℕ → ℤ → Type 0
NoneListed f t n = (le_z (pos 0) n ≡ false) ⊎ ((xs : List ℕ) × Linked f (λ x. x) (head_of_list f t) xs × (length xs ≤ nat_or 0 n))

abbrev pub NoVariable : List ℕ → ℤ → ℤ → Type 0
NoVariable f k n = (of_kinds 3 8 k ≡ false) ⊎ NoneListed f (kind_among 3 8 k) n

-- the VDR or ADR of a number, where its list has one
abbrev pub numbered_at : List ℕ → ℕ → ℤ → ℕ
numbered_at f t n = nth_record f (head_of_list f t) (nat_or 0 n)

-- 16 of an entry: the list of entries is es, and none of them is wanted
abbrev pub NoneWanted : List ℕ → ℤ → ℤ → Wanted → Type 0
NoneWanted f a k w =
    (es : List ℕ) × Linked f (λ e. e) (head_of_entries (numbered_at f 4 a) (kind_among 5 9 k)) es × Each es (λ earlier e. wanted_at f w (length earlier) e ≡ false)

-- 17: the top chain of the index of the VDR at v is xs, and none of its lowest entries covers the record that r reads
abbrev pub NoneCovers : List ℕ → ℕ → ℤ → Type 0
NoneCovers f v r =
    (record_there f v r ≡ true) × (xs : List ℕ) × Linked f (λ x. x) (head_of_index v) xs
    × ((s : Slot) → s ∈ lowest_entries f xs → CoveredBy f (record_read f v r) s → ⊥)

-- 15 by 2.1: "no such variable or attribute"
abbrev pub NoSubject : List ℕ → Subject → Type 0
NoSubject f TheFile = ⊥
NoSubject f (AVariable k n) = NoVariable f k n
NoSubject f (AnAttribute n) = NoneListed f 4 n
NoSubject f (AnEntry a k w) = (of_kinds 5 9 k ≡ false) ⊎ NoneListed f 4 a
NoSubject f (ARecord k n r) = NoVariable f k n

-- 16 by 2.1: "no such record or entry number"
abbrev pub NoSuchNumber : List ℕ → Subject → Type 0
NoSuchNumber f TheFile = ⊥
NoSuchNumber f (AVariable k n) = ⊥
NoSuchNumber f (AnAttribute n) = ⊥
NoSuchNumber f (AnEntry a k w) = NoneWanted f a k w
NoSuchNumber f (ARecord k n r) = record_there f (numbered_at f (kind_among 3 8 k) n) r ≡ false

-- 17 by 2.1: "record number in a gap of the index"
abbrev pub InGap : List ℕ → Subject → Type 0
InGap f TheFile = ⊥
InGap f (AVariable k n) = ⊥
InGap f (AnAttribute n) = ⊥
InGap f (AnEntry a k w) = ⊥
InGap f (ARecord k n r) = NoneCovers f (numbered_at f (kind_among 3 8 k) n) r

-- the record at o is the VDR, ADR or AEDR that a question is about
abbrev pub SubjectAt : List ℕ → Subject → ℕ → Type 0
SubjectAt f TheFile o = Unit {0}
SubjectAt f (AVariable k n) o = numbered_at f (kind_among 3 8 k) n ≡ o
SubjectAt f (AnAttribute n) o = numbered_at f 4 n ≡ o
SubjectAt f (AnEntry a k w) o = EntryFound f a k w o
SubjectAt f (ARecord k n r) o = numbered_at f (kind_among 3 8 k) n ≡ o

-- 18 by 14.2: "dimension index or element out of range, or wrong number of indices"; by 16.2 and 16.3 a field or a dimension that is not
-- there: whether a question is right, of that record
abbrev pub right_of : List ℕ → Question → ℕ → Bool
right_of f (ask_value k n r is x) o = question_right f (kind_among 3 8 k) o is x
right_of f (ask_entry a k w x) o = element_there f (entry_elements_at o) x
right_of f (ask_pad k n x) o = pad_right f o x
right_of f (ask_file what) o = leb what 6
right_of f (ask_dimension d) o = index_right d (r_num_dims f (gdr_at f))
right_of f (ask_variable k n p) o = is_shown (kind_among 3 8 k) p
right_of f (ask_attribute n p) o = is_shown 4 p
right_of f (ask_entry_field a k w p) o = is_shown (kind_among 5 9 k) p
right_of f (ask_size k n d) o = eqb (kind_among 3 8 k) 8 && index_right d (layout_of f (kind_among 3 8 k) o).count
right_of f (ask_variance k n d) o = index_right d (layout_of f (kind_among 3 8 k) o).count
right_of f (ask_levels k n r) o = true
right_of f (ask_variable_name k n) o = true
right_of f (ask_attribute_name n) o = true

-- THE CASE that is named for a number holds of a question, whatever other does; f is a file, what is asked of it lies before its end
abbrev pub Due : List ℕ → Question → Refusal → Type 0
Due f q Breach = opened f ≡ false
Due f q NoSuch = NoSubject (body_of f) (about q)
Due f q NoNumber = NoSuchNumber (body_of f) (about q)
Due f q Gap = InGap (body_of f) (about q)
Due f q OutOfRange = (o : ℕ) × SubjectAt (body_of f) (about q) o × (right_of (body_of f) q o ≡ false)
-- 22 comes last: what could be given in its place is a value, and that a value is shown only of other bytes is said of each (`ElementShown`)
Due f q Operand = ⊥

-- where a case holds, the answer is its refusal or one that comes before it
abbrev pub OrderKept : Type 0
OrderKept = (f : List ℕ) (q : Question) (v : Refusal) → Due f q v → (w : Refusal) × (answer_to f q ≡ Refused w) × (order_of w ≤ order_of v)

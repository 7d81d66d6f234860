-- WHY A QUESTION IS REFUSED, of every file: the case that is named for each number, with all that was met on the way before it. Sections 2
-- and 13 of docs/RULES.md. Assumes nothing.
use Rattle.std.specs.Prelude.{◌≡◌, ◌≢◌, ◌↔◌, ◌⊎◌, true, false, List, [], ◌∷◌, ◌++◌, ℕ, zero, suc, ◌+◌, ◌-◌, ◌*◌, ◌/◌, ◌≤◌, ◌<◌, length, ℤ, pos}
use Rattle.std.specs.Int.Signed.{le_z}
use Rattle.format.specs.Fields.{nat_or, link_at}
use Rattle.records.specs.Layout.{next_at, head_of_index}
use Rattle.records.specs.Rules.{size_at}
use Rattle.records.specs.Opening.{body_of}
use Rattle.records.specs.Index.{no_limit}
use Rattle.records.specs.Tree.{Slot, used_entries, first_of, last_of, named_by, levels_below, names_index, lower_slots}
use Rattle.variables.specs.Vdr.{layout_of, record_bytes}
use Rattle.demands.specs.Acceptance.{◌∈◌, Each, Linked}
use Rattle.lookup.specs.Entries.{records}
use Rattle.lookup.specs.Lists.{opened, allowance, meets, wanted_at, head_of_list, head_of_entries, of_kinds, kind_among}
use Rattle.lookup.specs.Indexes.{record_there, record_read, index_met, lower_met}
use Rattle.lookup.specs.declared.refusals.Refusal.{Refusal}
use Rattle.lookup.specs.declared.refusals.Refusal.TheVariants.{Breach, NoSuch, NoNumber, Gap, OutOfRange, Operand}
use Rattle.lookup.specs.declared.lists.Wanted.{Wanted}
use Rattle.lookup.specs.declared.lists.Wanted.TheVariants.{Place}
use Rattle.reader.specs.Questions.{Question, ask_value, ask_entry, ask_pad, ask_file, ask_dimension, ask_variable, ask_attribute, ask_entry_field, ask_size, ask_variance, ask_levels, ask_variable_name, ask_attribute_name, Refused, answer_to}
use Rattle.read_theorems.specs.Reading.{nth_record, Lands, Kept, CoveredBy, Rise, FirstCovering, VariableFound, AttributeFound, Says}
use Rattle.read_theorems.specs.Refusing.{Subject, TheFile, AVariable, AnAttribute, AnEntry, ARecord, about}
use Rattle.read_theorems.specs.Limit.{met_for}

-- ---- LISTS. f is the part before a file's end

-- 13.4: "Each record met must meet its rule": the record of type t at o does
abbrev pub RecordMet : List ℕ → ℕ → ℕ → Type 0
RecordMet f t o = meets f t o ≡ true

-- 13.2: "It stops where 15 (list over), 16 or 17 is known": xs is the list of records of type t whose head link stands at p, to its end; 13.4:
-- "also in records passed over"
pub record ListOver (f : List ℕ) (t p : ℕ) (xs : List ℕ) : Type 0 where
  pub linked : Linked f (λ x. x) p xs
  pub met : (x : ℕ) → x ∈ xs → RecordMet f t x

-- 13.4: "Any breach is 20": the first record of that list that is not met; none before it is wanted
pub record ListBroken (f : List ℕ) (t : ℕ) (w : Wanted) (p : ℕ) : Type 0 where
  pub place : ℕ
  pub met : (h : ℕ) → h < place → RecordMet f t (nth_record f p h)
  pub passed : (h : ℕ) → h < place → wanted_at f w h (nth_record f p h) ≡ false
  pub named : nth_record f p place ≢ 0
  pub broken : RecordMet f t (nth_record f p place) → ⊥

-- ---- AN INDEX

-- 13.4: "Each record met must meet its rule": the VXR at x does; and as a lower record, 8.10: "A lower record has next 0"
abbrev pub VxrMet : List ℕ → ℕ → Type 0
VxrMet f x = index_met f x ≡ true

abbrev pub LowerVxrMet : List ℕ → ℕ → Type 0
LowerVxrMet f x = lower_met f x ≡ true

-- 13.7: "Index entries rise as in the check (8.8)": all of ss do, and none covers r
pub record NoneCovering (f : List ℕ) (r floor most : ℕ) (ss : List Slot) : Type 0 where
  pub rise : Rise f floor most ss
  pub none : (s : Slot) → s ∈ ss → CoveredBy f r s → ⊥

-- the first of ss that does not rise; none before it covers r
pub record FirstWrong (f : List ℕ) (r floor most : ℕ) (ss : List Slot) : Type 0 where
  pub earlier : List Slot
  pub slot : Slot
  pub later : List Slot
  pub split : ss ≡ earlier ++ (slot ∷ later)
  pub passed : NoneCovering f r floor most earlier
  pub wrong : Rise f floor most (earlier ++ (slot ∷ [])) → ⊥

-- 13.2: "the index chain to the covering entry or its end": the chain whose head link stands at p, with its entries from floor on, to its end
pub record ChainOver (f : List ℕ) (r p floor : ℕ) : Type 0 where
  pub chain : List ℕ
  pub linked : Linked f (λ x. x) p chain
  pub met : (x : ℕ) → x ∈ chain → VxrMet f x
  pub passed : NoneCovering f r floor no_limit (used_entries f chain)

-- to the first of its entries that covers r, s
pub record ChainCovers (f : List ℕ) (r p floor : ℕ) (s : Slot) : Type 0 where
  pub many : ℕ
  pub met : (x : ℕ) → x ∈ records f p many → VxrMet f x
  pub first : FirstCovering f r floor no_limit (used_entries f (records f p many)) s

-- to its first breach: an entry, or the VXR behind those that were met
pub record ChainBroken (f : List ℕ) (r p floor : ℕ) : Type 0 where
  pub many : ℕ
  pub met : (x : ℕ) → x ∈ records f p many → VxrMet f x
  pub breach : FirstWrong f r floor no_limit (used_entries f (records f p many))
      ⊎ (NoneCovering f r floor no_limit (used_entries f (records f p many)) × (nth_record f p many ≢ 0) × (VxrMet f (nth_record f p many) → ⊥))

-- 13.9: "A lookup goes down level by level, each with one level fewer left": from the entry s, below which n levels may lie, to one where End
-- holds
abbrev pub DownTo : List ℕ → ℕ → (ℕ → Slot → Type 0) → ℕ → Slot → Type 0
DownTo f r End zero s = End zero s
DownTo f r End (suc n) s =
    End (suc n) s
    ⊎ ((names_index f s ≡ true) × LowerVxrMet f (named_by f s)
    × (t : Slot) × FirstCovering f r (first_of f s) (last_of f s) (lower_slots f s) t × DownTo f r End n t)

-- along the chain of the VDR at v, and down
abbrev pub IndexTo : List ℕ → ℕ → ℕ → (ℕ → Slot → Type 0) → Type 0
IndexTo f v r End = (top : Slot) × ChainCovers f r (head_of_index v) 0 top × DownTo f r End levels_below top

-- 13.9: "A lower record that ends without covering is 17, after its entries are judged to the end": the one that s names
abbrev pub LowerOver : List ℕ → ℕ → ℕ → Slot → Type 0
LowerOver f r n s =
    (1 ≤ n) × (names_index f s ≡ true) × LowerVxrMet f (named_by f s) × NoneCovering f r (first_of f s) (last_of f s) (lower_slots f s)

-- 13.9: "A breach of 8.10 or 8.11, or a ninth level, is 20"
abbrev pub LowerBroken : List ℕ → ℕ → ℕ → Slot → Type 0
LowerBroken f r n s =
    (names_index f s ≡ true)
    × ((n ≡ 0) ⊎ ((LowerVxrMet f (named_by f s) → ⊥) ⊎ (LowerVxrMet f (named_by f s) × FirstWrong f r (first_of f s) (last_of f s) (lower_slots f s))))

-- 13.2: "then the VVR": the one that s names is of the VDR at v, of type t; 5.17: "Size is 8 + (Last - First + 1) × record bytes"
pub record ValuesMet (f : List ℕ) (t v : ℕ) (s : Slot) : Type 0 where
  pub lands : Lands f 7 (named_by f s)
  pub size : size_at f (named_by f s) ≡ 8 + (last_of f s - first_of f s + 1) * record_bytes f v (layout_of f t v)

abbrev pub ValuesBroken : List ℕ → ℕ → ℕ → ℕ → Slot → Type 0
ValuesBroken f t v n s = (names_index f s ≡ false) × (ValuesMet f t v s → ⊥)

-- ---- 15 by 2.1: "no such variable or attribute"

-- 13.5: "a number of a variable or attribute below 0"; or a list that is over before that place
abbrev pub NotListed : List ℕ → ℕ → ℤ → Type 0
NotListed f t n = (le_z (pos 0) n ≡ false) ⊎ ((xs : List ℕ) × ListOver f t (head_of_list f t) xs × (length xs ≤ nat_or 0 n))

-- 13.5: "Kinds are record types 3, 8 for variables and 5, 9 for entries; any other .. is 15"
abbrev pub SubjectMissing : List ℕ → Subject → Type 0
SubjectMissing f TheFile = ⊥
SubjectMissing f (AVariable k n) = (of_kinds 3 8 k ≡ false) ⊎ NotListed f (kind_among 3 8 k) n
SubjectMissing f (AnAttribute n) = NotListed f 4 n
SubjectMissing f (AnEntry a k w) = (of_kinds 5 9 k ≡ false) ⊎ NotListed f 4 a
SubjectMissing f (ARecord k n r) = (of_kinds 3 8 k ≡ false) ⊎ NotListed f (kind_among 3 8 k) n

-- ---- 16 by 2.1: "no such record or entry number"

-- 13.8: "16 at the list's end"; 13.6: "Any other is 16"
abbrev pub NumberMissing : List ℕ → Subject → Type 0
NumberMissing f TheFile = ⊥
NumberMissing f (AVariable k n) = ⊥
NumberMissing f (AnAttribute n) = ⊥
NumberMissing f (AnEntry a k w) =
    (of_kinds 5 9 k ≡ true) × (d : ℕ) × AttributeFound f a d
    × (es : List ℕ) × ListOver f (kind_among 5 9 k) (head_of_entries d (kind_among 5 9 k)) es × Each es (λ earlier e. wanted_at f w (length earlier) e ≡ false)
NumberMissing f (ARecord k n r) = (v : ℕ) × VariableFound f k n v × (record_there f v r ≡ false)

-- ---- 17 by 2.1: "record number in a gap of the index"

-- 13.7: "17 exactly if no used entry does"
abbrev pub InIndexGap : List ℕ → Subject → Type 0
InIndexGap f TheFile = ⊥
InIndexGap f (AVariable k n) = ⊥
InIndexGap f (AnAttribute n) = ⊥
InIndexGap f (AnEntry a k w) = ⊥
InIndexGap f (ARecord k n r) =
    (v : ℕ) × VariableFound f k n v × (record_there f v r ≡ true)
    × (ChainOver f (record_read f v r) (head_of_index v) 0 ⊎ IndexTo f v (record_read f v r) (LowerOver f (record_read f v r)))

-- ---- 20 by 13.4: "Any breach is 20"

-- on the way along a list of the GDR to a number
abbrev pub NumberBroken : List ℕ → ℕ → ℤ → Type 0
NumberBroken f t n = (le_z (pos 0) n ≡ true) × ListBroken f t (Place (nat_or 0 n)) (head_of_list f t)

-- to the VDR, the ADR or the AEDR
abbrev pub SubjectBroken : List ℕ → Subject → Type 0
SubjectBroken f TheFile = ⊥
SubjectBroken f (AVariable k n) = (of_kinds 3 8 k ≡ true) × NumberBroken f (kind_among 3 8 k) n
SubjectBroken f (AnAttribute n) = NumberBroken f 4 n
SubjectBroken f (AnEntry a k w) =
    (of_kinds 5 9 k ≡ true)
    × (NumberBroken f 4 a ⊎ ((d : ℕ) × AttributeFound f a d × ListBroken f (kind_among 5 9 k) w (head_of_entries d (kind_among 5 9 k))))
SubjectBroken f (ARecord k n r) = (of_kinds 3 8 k ≡ true) × NumberBroken f (kind_among 3 8 k) n

-- and through the index of a VDR that is found, to a record that is looked up
abbrev pub IndexBroken : List ℕ → ℤ → ℤ → ℤ → (ℕ → ℕ → Slot → Type 0) → Type 0
IndexBroken f k n r Values =
    (v : ℕ) × VariableFound f k n v × (record_there f v r ≡ true)
    × (ChainBroken f (record_read f v r) (head_of_index v) 0
    ⊎ (IndexTo f v (record_read f v r) (LowerBroken f (record_read f v r)) ⊎ IndexTo f v (record_read f v r) (Values v)))

-- 13.12: "What the lowest entry names is not met": of levels the VVR is not judged
abbrev pub RecordBroken : List ℕ → Question → Type 0
RecordBroken f (ask_value k n r is x) = IndexBroken f k n r (λ v. ValuesBroken f (kind_among 3 8 k) v)
RecordBroken f (ask_entry a k w x) = ⊥
RecordBroken f (ask_pad k n x) = ⊥
RecordBroken f (ask_file what) = ⊥
RecordBroken f (ask_dimension d) = ⊥
RecordBroken f (ask_variable k n p) = ⊥
RecordBroken f (ask_attribute n p) = ⊥
RecordBroken f (ask_entry_field a k w p) = ⊥
RecordBroken f (ask_size k n d) = ⊥
RecordBroken f (ask_variance k n d) = ⊥
RecordBroken f (ask_levels k n r) = IndexBroken f k n r (λ v m s. ⊥)
RecordBroken f (ask_variable_name k n) = ⊥
RecordBroken f (ask_attribute_name n) = ⊥

-- ---- THE CASE of each number; f is a file, what is asked of it lies before its end
abbrev pub Cause : List ℕ → Question → Refusal → Type 0
-- 13.1: "A file refused 1, 3, 4, 5, 14 or 6 at opening is 20"; 13.3: "More than length/8 records met"
Cause f q Breach =
    (opened f ≡ false)
    ⊎ ((opened f ≡ true) × ((length f / 8 < length (met_for (allowance f) f q)) ⊎ (SubjectBroken (body_of f) (about q) ⊎ RecordBroken (body_of f) q)))
Cause f q NoSuch = (opened f ≡ true) × SubjectMissing (body_of f) (about q)
Cause f q NoNumber = (opened f ≡ true) × NumberMissing (body_of f) (about q)
Cause f q Gap = (opened f ≡ true) × InIndexGap (body_of f) (about q)
Cause f q OutOfRange = Says (length f) (body_of f) q (Refused OutOfRange)
Cause f q Operand = Says (length f) (body_of f) q (Refused Operand)

abbrev pub RefusedForCause : Type 0
RefusedForCause = (f : List ℕ) (q : Question) (v : Refusal) → answer_to f q ≡ Refused v → Cause f q v

-- ---- WHAT IS MET, in the terms of the rules of acceptance; f is the part before the end of a file that opens
pub record MetRight (f : List ℕ) : Type 0 where
  -- a VDR, an ADR or an AEDR
  pub listed : (t o : ℕ) → t ∈ (3 ∷ 8 ∷ 4 ∷ 5 ∷ 9 ∷ []) → RecordMet f t o ↔ Kept f t o
  pub vxr : (x : ℕ) → VxrMet f x ↔ Kept f 6 x
  -- 8.10: "A lower record has next 0"
  pub lower : (x : ℕ) → LowerVxrMet f x ↔ (Kept f 6 x × (link_at f (next_at x) ≡ 0))

abbrev pub MetIsKept : Type 0
MetIsKept = (f : List ℕ) → opened f ≡ true → MetRight (body_of f)

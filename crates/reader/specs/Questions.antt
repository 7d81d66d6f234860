-- WHAT THE READER IS ASKED AND WHAT IT ANSWERS: a question for each exported call, and one answer to each. Sections 13 to 16 of
-- docs/RULES.md. Assumes nothing.
use Rattle.std.specs.Prelude.{ℕ, List, [], ◌∷◌, ℤ, pos, Result, Ok, Err}
use Rattle.values.specs.Values.{kind_of}
use Rattle.values.specs.declared.value.Answer.{Answer}
use Rattle.lookup.specs.Refusals.{refusal_number}
use Rattle.lookup.specs.declared.refusals.Refusal.{Refusal}
use Rattle.lookup.specs.declared.lists.Wanted.{Wanted}
use Rattle.answers.specs.Answers.{value_read, entry_value, pad_read}
use Rattle.descriptors.specs.Descriptors.{file_field, dimension_size, variable_field, attribute_field, entry_field, variable_size, variable_variance, variable_levels, variable_name, attribute_name}
use Rattle.descriptors.specs.declared.Name.{Name as NameRead}

-- A QUESTION, with the numbers that a caller gives
pub data Question : Type 0 where
  -- 14.1: "A variable's value is asked by kind, number, record, indices and element"
  ask_value : (kind number rec : ℤ) (indices : List ℤ) (element : ℤ) → Question
  -- 14.1: "an entry's by attribute, kind, entry number (or place) and element"
  ask_entry : (attribute kind : ℤ) (wanted : Wanted) (element : ℤ) → Question
  -- 14.2: "A pad value is given as elements"
  ask_pad : (kind number element : ℤ) → Question
  -- 16.1: "majority (1 row, 0 column), encoding, counts (NrVars, NzVars, NumAttr), rVariable dimensions"
  ask_file : (what : ℕ) → Question
  ask_dimension : (dimension : ℤ) → Question
  -- 16.2: a field of a VDR, an ADR or an AEDR, by its offset in the record
  ask_variable : (kind number : ℤ) (field : ℕ) → Question
  ask_attribute : (number : ℤ) (field : ℕ) → Question
  ask_entry_field : (attribute kind : ℤ) (wanted : Wanted) (field : ℕ) → Question
  -- 16.3: the size and the variance of a dimension
  ask_size : (kind number dimension : ℤ) → Question
  ask_variance : (kind number dimension : ℤ) → Question
  -- 13.12: how many levels the index has on the way to a record
  ask_levels : (kind number rec : ℤ) → Question
  -- 16.4: "names up to the NUL"
  ask_variable_name : (kind number : ℤ) → Question
  ask_attribute_name : (number : ℤ) → Question

-- AN ANSWER: a value with its kind, bits and offset; a field; where a name stands, and its length; or a refusal
pub data Reply : Type 0 where
  Value : Answer → Reply
  Field : ℤ → Reply
  Name : (offset length : ℕ) → Reply
  Refused : Refusal → Reply

-- what a call reads, as an answer
abbrev pub replied : {A : Type 0} → (A → Reply) → Result A Refusal → Reply
replied of (Ok x) = of x
replied of (Err v) = Refused v

abbrev pub of_read : Result Answer Refusal → Reply
of_read r = replied Value r

abbrev pub of_field : Result ℤ Refusal → Reply
of_field r = replied Field r

abbrev pub of_name : Result NameRead Refusal → Reply
of_name r = replied (λ n. Name n.offset n.length) r

-- THE ANSWER to a question about a file
abbrev pub answer_to : List ℕ → Question → Reply
answer_to f (ask_value k n r is x) = of_read (value_read f k n r is x)
answer_to f (ask_entry a k w x) = of_read (entry_value f a k w x)
answer_to f (ask_pad k n x) = of_read (pad_read f k n x)
answer_to f (ask_file what) = of_field (file_field f what)
answer_to f (ask_dimension d) = of_field (dimension_size f d)
answer_to f (ask_variable k n p) = of_field (variable_field f k n p)
answer_to f (ask_attribute n p) = of_field (attribute_field f n p)
answer_to f (ask_entry_field a k w p) = of_field (entry_field f a k w p)
answer_to f (ask_size k n d) = of_field (variable_size f k n d)
answer_to f (ask_variance k n d) = of_field (variable_variance f k n d)
answer_to f (ask_levels k n r) = of_field (variable_levels f k n r)
answer_to f (ask_variable_name k n) = of_name (variable_name f k n)
answer_to f (ask_attribute_name n) = of_name (attribute_name f n)

-- ---- WHAT A CALL LEAVES to its caller: its number, and the caller's numbers, in the order of the call
pub record Call : Type 0 where
  pub number : ℤ
  pub numbers : List ℤ

abbrev pub call : ℤ → List ℤ → Call
call n ns = record { number = n; numbers = ns }

-- 0 by 2.1: "value given"; 14.5: "A value answer is one case per kind": kind and bits; 14.6: "With a value comes the file offset it was read
-- from"; 2.4: "a refusal carries its number and no value": the caller's numbers stay
abbrev pub call_of : Reply → List ℤ → Call
call_of (Value a) before = call (pos 0) (pos (kind_of a.value) ∷ pos a.bits ∷ pos a.offset ∷ [])
call_of (Field x) before = call (pos 0) (x ∷ [])
call_of (Name o n) before = call (pos 0) (pos o ∷ pos n ∷ [])
call_of (Refused v) before = call (pos (refusal_number v)) before

-- a caller's three numbers of a value, its number of a field, its two numbers of a name
abbrev pub three_numbers : ℕ → ℕ → ℕ → List ℤ
three_numbers kind bits offset = pos kind ∷ pos bits ∷ pos offset ∷ []

abbrev pub one_number : ℤ → List ℤ
one_number x = x ∷ []

abbrev pub two_numbers : ℕ → ℕ → List ℤ
two_numbers offset length = pos offset ∷ pos length ∷ []

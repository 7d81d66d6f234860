-- THE LIMIT OF RECORDS MET, of every file and every question: 20 where more are met than the length allows, and else no difference. Section
-- 13 of docs/RULES.md. Assumes nothing.
use Rattle.std.specs.Prelude.{◌≡◌, cond, List, [], ◌∷◌, ℕ, ◌/◌, ◌≤◌, ◌<◌, length, ℤ, Result, Ok, Err}
use Rattle.records.specs.Layout.{cdr_offset, attr_name_at, var_name_at}
use Rattle.records.specs.Opening.{gdr_at, body_of}
use Rattle.lookup.specs.Lists.{met_at, Way, opened, allowance, kind_among}
use Rattle.lookup.specs.Limit.{variable_within, attribute_within, entry_within, place_met, variable_met, entry_met, record_way_met, levels_way_met}
use Rattle.lookup.specs.declared.refusals.Refusal.{Refusal}
use Rattle.lookup.specs.declared.refusals.Refusal.TheVariants.{Breach}
use Rattle.answers.specs.Answers.{value_on, entry_on, pad_on}
use Rattle.descriptors.specs.Descriptors.{file_field, dimension_size, field_on, dimensions_on, size_on, variance_on, levels_on, name_on}
use Rattle.reader.specs.Questions.{Question, ask_value, ask_entry, ask_pad, ask_file, ask_dimension, ask_variable, ask_attribute, ask_entry_field, ask_size, ask_variance, ask_levels, ask_variable_name, ask_attribute_name, Reply, Refused, of_read, of_field, of_name, answer_to}
use Rattle.read_theorems.specs.Refusing.{Subject, TheFile, AVariable, AnAttribute, AnEntry, ARecord, about}

-- the way to the record that a question is about, where `left` records may be met behind CDR and GDR; of the file itself it is the GDR
abbrev pub way_within : ℕ → List ℕ → Subject → Way
way_within left f TheFile = cond (opened f) (met_at (gdr_at (body_of f)) left) (Err Breach)
way_within left f (AVariable k n) = variable_within left f k n
way_within left f (AnAttribute n) = attribute_within left f n
way_within left f (AnEntry a k w) = entry_within left f a k w
way_within left f (ARecord k n r) = variable_within left f k n

-- what is read of the file where that way has found the GDR
abbrev pub file_on : Way → Result ℤ Refusal → Reply
file_on (Ok o) x = of_field x
file_on (Err v) x = Refused v

-- what is read at the end of a way
abbrev pub answer_on : List ℕ → Question → Way → Reply
answer_on f (ask_value k n r is x) w = of_read (value_on (body_of f) (kind_among 3 8 k) r is x w)
answer_on f (ask_entry a k e x) w = of_read (entry_on (body_of f) x w)
answer_on f (ask_pad k n x) w = of_read (pad_on (body_of f) (kind_among 3 8 k) x w)
answer_on f (ask_file what) w = file_on w (file_field f what)
answer_on f (ask_dimension d) w = file_on w (dimension_size f d)
answer_on f (ask_variable k n p) w = of_field (field_on (body_of f) (kind_among 3 8 k) p w)
answer_on f (ask_attribute n p) w = of_field (field_on (body_of f) 4 p w)
answer_on f (ask_entry_field a k e p) w = of_field (field_on (body_of f) (kind_among 5 9 k) p w)
answer_on f (ask_size k n d) w = of_field (size_on (body_of f) (kind_among 3 8 k) d (dimensions_on (body_of f) (kind_among 3 8 k) w))
answer_on f (ask_variance k n d) w = of_field (variance_on (body_of f) d (dimensions_on (body_of f) (kind_among 3 8 k) w))
answer_on f (ask_levels k n r) w = of_field (levels_on (body_of f) r w)
answer_on f (ask_variable_name k n) w = of_name (name_on (body_of f) (var_name_at 0) w)
answer_on f (ask_attribute_name n) w = of_name (name_on (body_of f) (attr_name_at 0) w)

-- THE ANSWER where `left` records may be met behind CDR and GDR
abbrev pub answer_within : ℕ → List ℕ → Question → Reply
answer_within left f q = answer_on f q (way_within left f (about q))

-- THE RECORDS MET for a question, in order, behind CDR and GDR; f is the part before a file's end
abbrev pub none_met : ℕ → ℕ → List ℕ
none_met o count = []

abbrev pub met_behind : ℕ → List ℕ → Question → List ℕ
met_behind count f (ask_value k n r is x) = variable_met f k n (λ v left. record_way_met f v r left) count
met_behind count f (ask_entry a k w x) = entry_met f a k w count
met_behind count f (ask_pad k n x) = variable_met f k n none_met count
met_behind count f (ask_file what) = []
met_behind count f (ask_dimension d) = []
met_behind count f (ask_variable k n p) = variable_met f k n none_met count
met_behind count f (ask_attribute n p) = place_met f 4 n none_met count
met_behind count f (ask_entry_field a k w p) = entry_met f a k w count
met_behind count f (ask_size k n d) = variable_met f k n none_met count
met_behind count f (ask_variance k n d) = variable_met f k n none_met count
met_behind count f (ask_levels k n r) = variable_met f k n (λ v left. levels_way_met f v r left) count
met_behind count f (ask_variable_name k n) = variable_met f k n none_met count
met_behind count f (ask_attribute_name n) = place_met f 4 n none_met count

-- 13.3: "CDR and GDR and each record each time it is met"
abbrev pub met_for : ℕ → List ℕ → Question → List ℕ
met_for count f q = cdr_offset ∷ gdr_at (body_of f) ∷ met_behind count (body_of f) q

-- 13.3: "More than length/8 records met .. is 20"; else the answer is the one where `count` may be met, so the limit makes no difference
pub record LimitKept (f : List ℕ) (q : Question) (count : ℕ) : Type 0 where
  pub more : length f / 8 < length (met_for count f q) → answer_to f q ≡ Refused Breach
  pub within : length (met_for count f q) ≤ length f / 8 → answer_to f q ≡ answer_within count f q

-- 20 at the limit exactly if more than length/8 records would be met, counted as far as the length allows or any further
abbrev pub LimitExact : Type 0
LimitExact = (f : List ℕ) (q : Question) → (answer_to f q ≡ answer_within (allowance f) f q) × ((count : ℕ) → allowance f ≤ count → LimitKept f q count)

-- What an accepted file says of itself, fields, dimensions and names. Assumes nothing.
use mathlib.Core.Path.{◌≡◌, refl, sym, ap, ◌∙◌}
use mathlib.Core.Bool.{true, false}
use mathlib.Core.List.{List}
use Prim.Native.Nat.{ℕ, ◌+◌, ◌-◌}
use lib.IntN.{ℤ, pos}
use lib.ListN.{length}
use lib.Dec.{eqb}
use Rattle.format.specs.Fields.{field_at}
use Rattle.records.specs.Layout.{r_dim_sizes_at, attr_name_at, var_name_at}
use Rattle.records.specs.Opening.{gdr_at, r_num_dims, file_end, body_of}
use Rattle.records.proofs.Bodies.{body_length}
use Rattle.variables.specs.Vdr.{layout_of, variable_of}
use Rattle.variables.specs.Vdr.{Variable as VariableIs}
use Rattle.variables.proofs.Rule.{vdr_makes}
use Rattle.lookup.specs.Lists.{kind_among}
use Rattle.lookup.specs.declared.lists.Wanted.{Wanted}
use Rattle.descriptors.specs.Descriptors.{is_shown, field_on, variable_field, attribute_field, entry_field, dimension_size, dimensions_on, variable_dimensions, size_on, variable_size, variance_on, variable_variance, name_on, variable_name, attribute_name, file_field}
use Rattle.reader.specs.Questions.{ask_file, ask_dimension, ask_variable, ask_attribute, ask_entry_field, ask_size, ask_variance, ask_variable_name, ask_attribute_name, of_field, of_name, answer_to}
use Rattle.demands.proofs.NestedDemand.{NestedAccepted}
use Rattle.read_theorems.specs.Reading.{field_told, row_told, size_told}
use Rattle.read_theorems.specs.Answering.{name_in, answer_in}
use Rattle.read_theorems.proofs.Shown.{part, row_part, size_part, file_part}
use Rattle.read_theorems.proofs.Accepted.{opens, vars_count, attrs_count}
use Rattle.read_theorems.proofs.AnsweringWays.{laid, Variable, variable_asked, attribute_asked, entry_asked_lem}

module _ (f : List ℕ) (n : NestedAccepted f) (starts : List ℕ) where
  abbrev b : List ℕ
  b = body_of f

  -- the dimensions of a listed VDR
  dimensions_are : (k j : ℤ) (v rest : ℕ) (a : Variable f n starts k j v rest) → (variable_of b (kind_among 3 8 k) v).dimensions ≡ layout_of b (kind_among 3 8 k) v
  dimensions_are k j v rest a = ap (λ (u : VariableIs). u.dimensions) (vdr_makes b (kind_among 3 8 k) v a.parts)

  pub variable_answer : (k j : ℤ) (p : ℕ) → answer_to f (ask_variable k j p) ≡ answer_in f (laid f n starts) (ask_variable k j p)
  unfolding variable_field
  variable_answer k j p =
      variable_asked f n starts k j (λ s. of_field (field_on b (kind_among 3 8 k) p s)) (λ t d. field_told b t d.vdr p) refl
      (λ v rest e a. part (is_shown (kind_among 3 8 k) p) (field_at b (v + p)))

  pub attribute_answer : (j : ℤ) (p : ℕ) → answer_to f (ask_attribute j p) ≡ answer_in f (laid f n starts) (ask_attribute j p)
  unfolding attribute_field
  attribute_answer j p =
      attribute_asked f n starts j (λ s. of_field (field_on b 4 p s)) (λ d. field_told b 4 d.adr p) refl (λ d rest. part (is_shown 4 p) (field_at b (d.adr + p)))

  pub entry_field_answer : (j k : ℤ) (w : Wanted) (p : ℕ) → answer_to f (ask_entry_field j k w p) ≡ answer_in f (laid f n starts) (ask_entry_field j k w p)
  unfolding entry_field
  entry_field_answer j k w p =
      entry_asked_lem f n starts j k w (λ s. of_field (field_on b (kind_among 5 9 k) p s)) (λ t e. field_told b t e p) refl refl
      (λ e rest q. part (is_shown (kind_among 5 9 k) p) (field_at b (e + p)))

  pub size_answer : (k j d : ℤ) → answer_to f (ask_size k j d) ≡ answer_in f (laid f n starts) (ask_size k j d)
  unfolding variable_size variable_dimensions
  size_answer k j d =
      let t = kind_among 3 8 k in
      variable_asked f n starts k j (λ s. of_field (size_on b t d (dimensions_on b t s))) (λ t v. size_told b t (layout_of b t v.vdr) d) refl
      (λ v rest e a. rw (dimensions_are k j v rest a) (size_part b (eqb t 8) (layout_of b t v).sizes (layout_of b t v).count d))

  pub variance_answer : (k j d : ℤ) → answer_to f (ask_variance k j d) ≡ answer_in f (laid f n starts) (ask_variance k j d)
  unfolding variable_variance variable_dimensions
  variance_answer k j d =
      let t = kind_among 3 8 k in
      variable_asked f n starts k j (λ s. of_field (variance_on b d (dimensions_on b t s))) (λ t v. let y = layout_of b t v.vdr in row_told b y.variances y.count d) refl
      (λ v rest e a. let y = layout_of b t v in rw (dimensions_are k j v rest a) (row_part b y.variances y.count d))

  pub variable_name_answer : (k j : ℤ) → answer_to f (ask_variable_name k j) ≡ answer_in f (laid f n starts) (ask_variable_name k j)
  unfolding variable_name
  variable_name_answer k j =
      variable_asked f n starts k j (λ s. of_name (name_on b (var_name_at 0) s)) (λ t d. name_in b (var_name_at d.vdr)) refl (λ v rest e a. refl)

  pub attribute_name_answer : (j : ℤ) → answer_to f (ask_attribute_name j) ≡ answer_in f (laid f n starts) (ask_attribute_name j)
  unfolding attribute_name
  attribute_name_answer j = attribute_asked f n starts j (λ s. of_name (name_on b (attr_name_at 0) s)) (λ d. name_in b (attr_name_at d.adr)) refl (λ d rest. refl)

  pub dimension_answer : (d : ℤ) → answer_to f (ask_dimension d) ≡ answer_in f (laid f n starts) (ask_dimension d)
  unfolding dimension_size
  dimension_answer d = rw (opens f n) (row_part b (r_dim_sizes_at (gdr_at b)) (r_num_dims b (gdr_at b)) d)

  -- ---- what the file says of itself
  pub file_answer : (what : ℕ) → answer_to f (ask_file what) ≡ answer_in f (laid f n starts) (ask_file what)
  unfolding file_field
  file_answer what =
      let e : pos (length f - file_end f) ≡ pos (length f - length b) = ap (λ (m : ℕ). pos (length f - m)) (sym (body_length f)) in
      rw (opens f n) (file_part (length f) b what (pos (length f - file_end f)) e ∙ rw (vars_count f n true, vars_count f n false, attrs_count f n))

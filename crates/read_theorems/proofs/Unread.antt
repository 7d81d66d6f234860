-- PADDING UNREAD: two files of one length and one body are answered alike. Assumes nothing.
use mathlib.Core.Path.{◌≡◌, sym, ap, ◌∙◌}
use mathlib.Core.List.{List, ◌++◌}
use Prim.Native.Nat.{ℕ, ◌+◌}
use native.Mathlib.Omega.{arith}
use lib.IntN.{ℤ}
use lib.ListN.{length, length-append}
use Rattle.records.specs.Opening.{too_long, body_of}
use Rattle.records.proofs.Bodies.{opening_same, same_end, padded_body}
use Rattle.lookup.specs.Lists.{opened, allowance, variable_way, attribute_way, entry_way}
use Rattle.lookup.specs.declared.lists.Wanted.{Wanted}
use Rattle.answers.specs.Answers.{value_read, entry_value, pad_read}
use Rattle.descriptors.specs.Descriptors.{variable_field, attribute_field, entry_field, dimension_size, variable_dimensions, variable_size, variable_variance, variable_levels, variable_name, attribute_name, file_field}
use Rattle.reader.specs.Questions.{Question, ask_value, ask_entry, ask_pad, ask_file, ask_dimension, ask_variable, ask_attribute, ask_entry_field, ask_size, ask_variance, ask_levels, ask_variable_name, ask_attribute_name, answer_to}
use Rattle.read_theorems.specs.Reading.{PaddingUnread}

module _ (f g : List ℕ) (long : length f ≡ length g) (same : body_of f ≡ body_of g) where
  opened_same : opened f ≡ opened g
  unfolding opened too_long
  opened_same = rw (long, opening_same f g long same)

  allowance_same : allowance f ≡ allowance g
  unfolding allowance
  allowance_same = rw long

  -- ---- the ways
  variable_same : (k n : ℤ) → variable_way f k n ≡ variable_way g k n
  unfolding variable_way
  variable_same k n = rw (opened_same, same, allowance_same)

  attribute_same : (n : ℤ) → attribute_way f n ≡ attribute_way g n
  unfolding attribute_way
  attribute_same n = rw (opened_same, same, allowance_same)

  entry_same : (a k : ℤ) (w : Wanted) → entry_way f a k w ≡ entry_way g a k w
  unfolding entry_way
  entry_same a k w = rw (opened_same, same, allowance_same)

  -- ---- the answers
  pub same_answers : (q : Question) → answer_to f q ≡ answer_to g q
  unfolding value_read entry_value pad_read variable_field attribute_field entry_field dimension_size variable_dimensions variable_size variable_variance variable_levels variable_name attribute_name file_field
  same_answers (ask_value k n r is x) = rw (variable_same k n, same)
  same_answers (ask_entry b k w x) = rw (entry_same b k w, same)
  same_answers (ask_pad k n x) = rw (variable_same k n, same)
  same_answers (ask_file what) = rw (opened_same, long, same_end f g long same, same)
  same_answers (ask_dimension d) = rw (opened_same, same)
  same_answers (ask_variable k n p) = rw (variable_same k n, same)
  same_answers (ask_attribute n p) = rw (attribute_same n, same)
  same_answers (ask_entry_field b k w p) = rw (entry_same b k w, same)
  same_answers (ask_size k n d) = rw (variable_same k n, same)
  same_answers (ask_variance k n d) = rw (variable_same k n, same)
  same_answers (ask_levels k n r) = rw (variable_same k n, same)
  same_answers (ask_variable_name k n) = rw (variable_same k n, same)
  same_answers (ask_attribute_name n) = rw (attribute_same n, same)

-- THE THEOREM
pub padding_unread : PaddingUnread
padding_unread b p q u same few =
    let long : length (b ++ p) ≡ length (b ++ q) = length-append b p ∙ ap (λ (k : ℕ). length b + k) same ∙ sym (length-append b q) in
    same_answers (b ++ p) (b ++ q) long (padded_body b p u few ∙ sym (padded_body b q u (omega arith)))

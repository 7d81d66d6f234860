-- The reader's refusals, and the number of each. Section 2 of docs/RULES.md. Assumes nothing.
use Rattle.std.specs.Prelude.{◌≡◌, Bool, true, false, cond, ◌||◌, List, [], ◌∷◌, ℕ, suc, eqb}
use Rattle.values.specs.declared.value.Undecoded.{Undecoded}
use Rattle.values.specs.declared.value.Undecoded.TheVariants.{Reserved, Nothing}
use Rattle.lookup.specs.declared.refusals.Refusal.{Refusal}
use Rattle.lookup.specs.declared.refusals.Refusal.TheVariants.{Breach, NoSuch, NoNumber, Gap, OutOfRange, Operand}

-- THE NUMBERS, by 2.1
abbrev pub refusal_number : Refusal → ℕ
refusal_number Breach = 20
refusal_number NoSuch = 15
refusal_number NoNumber = 16
refusal_number Gap = 17
refusal_number OutOfRange = 18
refusal_number Operand = 22

-- why nothing was decoded; 15.4: "it is the reserved operand, refused with 22"; an element that is not before the file's end would be 20
abbrev pub refusal_of : Undecoded → Refusal
refusal_of Reserved = Operand
refusal_of Nothing = Breach

-- x is one of these numbers
abbrev pub among : List ℕ → ℕ → Bool
among [] x = false
among (y ∷ ys) x = eqb x y || among ys x

-- 2.3: "the order 20, 15, 16, 17, 18, 22": the reader's numbers of the table of 2.1
abbrev pub reader_order : List ℕ
reader_order = 20 ∷ 15 ∷ 16 ∷ 17 ∷ 18 ∷ 22 ∷ []

-- 1.5: "A refusal is one number of the table of 2.1"
abbrev pub InTable : Type 0
InTable = (v : Refusal) → among reader_order (refusal_number v) ≡ true

-- the place of a number in a list, from 0; the length of the list where it is not there
abbrev pub place_in : List ℕ → ℕ → ℕ
place_in [] x = 0
place_in (y ∷ ys) x = cond (eqb x y) 0 (suc (place_in ys x))

-- where a refusal comes in that order
abbrev pub order_of : Refusal → ℕ
order_of v = place_in reader_order (refusal_number v)

-- What the check refuses a file for, and the number of each refusal. Assumes nothing.
use Rattle.std.specs.Prelude.{ℕ, Result, Ok, Err}
use Rattle.records.specs.declared.breaches.Breach.{Breach}
use Rattle.records.specs.declared.breaches.Breach.TheVariants.{TooLong, ShortMarks, NoMagic, Compressed, Cdr, Gdr, Tile, Start, Again, Rule, Count, Range, Unclaimed, Uncarried, PastEnd, Depth}

-- 2.1: "file longer than 2,147,483,647 bytes .. marks shorter than the file .. first magic not CDF26002 hex .. second magic CCCC0001
-- (compressed) .. CDR breaks its rule .. GDR breaks its rule .. sweep: fewer than 8 bytes left .. link not to a record start .. record
-- claimed twice .. record's fields or size break its rule .. a list's count, numbering, maximum, tail or back link disagrees .. index ranges
-- disagree .. record in use never claimed .. not carried .. a field that a step needs past the file's end .. an index of more than eight
-- levels"
abbrev pub number_of : Breach → ℕ
number_of TooLong = 1
number_of ShortMarks = 2
number_of NoMagic = 3
number_of Compressed = 4
number_of Cdr = 5
number_of Gdr = 6
number_of Tile = 7
number_of Start = 8
number_of Again = 9
number_of Rule = 10
number_of Count = 11
number_of Range = 12
number_of Unclaimed = 13
number_of Uncarried = 14
number_of PastEnd = 20
number_of Depth = 23

-- the number that tells how a test went: 0 for none that fails
abbrev pub told : {A : Type 0} → Result A Breach → ℕ
told (Ok _) = 0
told (Err b) = number_of b

-- What a number that tells how a test went says of the test. Assumes nothing.
use Rattle.std.proofs.Common.{◌≡◌, ℕ, Bool, true, false, not, cond, refl, Result, Ok, Err, IfOk, IsErrAnd}
use Rattle.std.proofs.lemmas.Result.{err_from_is_err_and}
use lib.Dec.{ltb, leb}
use borrow.Author.Tests.{leb-true, leb-false, lt-ltb, le-ltb}
use Rattle.format.specs.Numbers.{unless}
use Rattle.records.specs.declared.breaches.Breach.{Breach}
use Rattle.records.specs.declared.breaches.Breach.TheVariants.{TooLong, ShortMarks, NoMagic, Compressed, Cdr, Gdr, Tile, Start, Again, Rule, Count, Range, Unclaimed, Uncarried, PastEnd, Depth}
use Rattle.records.specs.Breaches.{number_of, told}

-- no breach has the number 0
pub number_some : (b : Breach) → number_of b ≡ 0 → ⊥
number_some TooLong e = cc
number_some ShortMarks e = cc
number_some NoMagic e = cc
number_some Compressed e = cc
number_some Cdr e = cc
number_some Gdr e = cc
number_some Tile e = cc
number_some Start e = cc
number_some Again e = cc
number_some Rule e = cc
number_some Count e = cc
number_some Range e = cc
number_some Unclaimed e = cc
number_some Uncarried e = cc
number_some PastEnd e = cc
number_some Depth e = cc

-- a last test, either way round
pub last_test : (v m n : ℕ) → cond (ltb n m) v 0 ≡ unless v (leb m n)
last_test v m n = go (leb m n) refl
  where
    go : (b : Bool) → leb m n ≡ b → cond (ltb n m) v 0 ≡ cond b 0 v
    go true e = rw (le-ltb n m (leb-true m n e))
    go false e = rw (lt-ltb n m (leb-false m n e))

pub last_not : (v : ℕ) (b : Bool) → cond b v 0 ≡ unless v (not b)
last_not v true = refl
last_not v false = refl

-- what `?` gives back of a breach tells the same number
pub same_breach : {A : Type 0} (r : Result A Breach) (y : Breach) → IsErrAnd r (λ z. z ≡ y) → told r ≡ number_of y
same_breach r y h = let p = err_from_is_err_and r h in rw (p.1, p.2)

-- what holds where the number is 0 holds at Ok
pub if_told : {A : Type 0} (r : Result A Breach) {Fact : Type 0} → (told r ≡ 0 → Fact) → IfOk r (λ _. Fact)
if_told (Ok x) h = h refl
if_told (Err b) h = tt

-- Tests that are chained by `?`, and the first number that is not 0. Assumes nothing.
use Rattle.std.proofs.Common.{◌≡◌, ℕ, List, [], ◌∷◌, refl, sym, ◌∙◌, ap, Result, Ok, Err, IsErrAnd}
use Rattle.std.specs.Result.{result_and}
use Rattle.format.specs.Numbers.{first}
use Rattle.format.proofs.Numbers.{first_some, first_none, by_two}
use Rattle.records.specs.declared.breaches.Breach.{Breach}
use Rattle.records.specs.Breaches.{number_of, told}
use Rattle.records.proofs.Told.{number_some, same_breach}
use Rattle.variables.specs.declared.vdr.Shape.{Shape}
use Rattle.variables.specs.Vdr.{variable_told}

-- the first test failed, and `?` gave its breach back
pub stops_at : {A : Type 0} (r : Result A Breach) (y : Breach) → IsErrAnd r (λ z. z ≡ y) → {v : ℕ} → number_of y ≡ v → (vs : List ℕ)
    → told r ≡ first (v ∷ vs)
stops_at r y h {v} e vs = same_breach r y h ∙ e ∙ sym (first_some (λ z. number_some y (e ∙ z)) vs)

-- it passed
pub passed : (a : ℕ) → 0 ≡ a → (vs : List ℕ) → first vs ≡ first (a ∷ vs)
passed a e vs = sym (first_none (sym e) vs)

-- it passed, and the last test says the rest
pub goes_on : (a b : ℕ) {w : ℕ} → 0 ≡ a → w ≡ b → w ≡ first (a ∷ b ∷ [])
goes_on a b e k = by_two a b (sym e) k

-- two tests, of which the first that fails counts
module _ {A B : Type 0} where
  pub both_told : (r : Result A Breach) (s : Result B Breach) (vs : List ℕ) → first (told r ∷ told s ∷ vs) ≡ first (told (result_and r s) ∷ vs)
  both_told (Ok x) s vs = refl
  both_told (Err b) s vs = first_some (number_some b) (told s ∷ vs) ∙ sym (first_some (number_some b) vs)

  pub and_first : (r : Result A Breach) (s : Result B Breach) (t : Result B Breach) → t ≡ result_and r s → told t ≡ 0 → told r ≡ 0
  and_first (Ok x) s t k e = refl
  and_first (Err b) s t k e = absurd (number_some b (sym (ap told k) ∙ e))

  pub and_second : (r : Result A Breach) (s : Result B Breach) (t : Result B Breach) → t ≡ result_and r s → told t ≡ 0 → told s ≡ 0
  and_second (Ok x) s t k e = sym (ap told k) ∙ e
  and_second (Err b) s t k e = absurd (number_some b (sym (ap told k) ∙ e))

-- the number of a VDR's rule
pub fault_told : (s : Result Shape Breach) → told s ≡ (variable_told s).fault
fault_told (Ok s) = refl
fault_told (Err b) = refl

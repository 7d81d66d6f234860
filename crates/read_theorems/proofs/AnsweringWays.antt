-- ONE LAW FOR ALL QUESTIONS about a variable, an attribute or an entry of an accepted file: what is made of a way's end is what is made of
-- the listed record, or 15 or 16. Assumes nothing.
use mathlib.Core.Path.{◌≡◌, refl, sym, ap, ◌∙◌}
use mathlib.Core.Logic.{◌⊎◌, inl, inr}
use mathlib.Core.Bool.{Bool, true, false, cond}
use mathlib.Core.List.{List}
use Prim.Native.Nat.{ℕ}
use lib.IntN.{ℤ, pos}
use Rattle.format.specs.Fields.{eq_z, nat_or}
use Rattle.records.specs.Opening.{body_of}
use Rattle.lookup.specs.Lists.{met_at, Way, allowance, over_of, of_kinds, kind_among, variable_way, attribute_way, entry_way}
use Rattle.lookup.specs.declared.refusals.Refusal.{Refusal}
use Rattle.lookup.specs.declared.refusals.Refusal.TheVariants.{NoSuch, NoNumber}
use Rattle.lookup.specs.declared.lists.Wanted.{Wanted}
use Rattle.lookup.specs.declared.lists.Wanted.TheVariants.{Place}
use Rattle.reader.specs.Questions.{Reply, Refused}
use Rattle.demands.specs.Acceptance.{ListedVdr, ListedAdr, Lists}
use Rattle.demands.proofs.NestedDemand.{NestedAccepted}
use Rattle.read_theorems.specs.Answering.{numbered, variables_of, of_variable, wanted_of, entries_of, of_entry}
use Rattle.read_theorems.proofs.Lists.{OnList}
use Rattle.read_theorems.proofs.Ways.{VariableIn}
use Rattle.read_theorems.proofs.Accepted.{lay, vars_of, NoPlace, VariableOn, variable_on, AttributeOn, attribute_on, entries_in, EntryOn, entry_on}
use Rattle.read_theorems.proofs.AnsweringLists.{numbered_found, numbered_none, wanted_found, wanted_none, kind_one, kind_none}
use Rattle.std.specs.Prelude.{Ok, Err}

module _ (f : List ℕ) (n : NestedAccepted f) (starts : List ℕ) where
  abbrev body : List ℕ
  body = body_of f

  -- the lists of the file
  abbrev pub laid : Lists
  laid = record {
    starts = starts;
    r_variables = (lay f n).r_variables;
    z_variables = (lay f n).z_variables;
    attributes = (lay f n).attributes;
    unused = (lay f n).unused;
  }

  vars_same : (b : Bool) → variables_of laid (cond b 3 8) ≡ vars_of f n b
  vars_same true = refl
  vars_same false = refl

  entries_same : (b : Bool) (d : ListedAdr) → entries_of d (cond b 5 9) ≡ entries_in f n b d
  entries_same true d = refl
  entries_same false d = refl

  -- ---- variables
  abbrev pub Variable : ℤ → ℤ → ℕ → ℕ → Type 0
  Variable k j v rest = VariableIn body (kind_among 3 8 k) (Place (nat_or 0 j)) (allowance f) (vars_of f n (eq_z k (pos 3))) v rest

  pub variable_asked : (k j : ℤ) (F : Way → Reply) (G : ℕ → ListedVdr → Reply) → F (Err NoSuch) ≡ Refused NoSuch
      → ((v rest : ℕ) → variable_way f k j ≡ met_at v rest → (a : Variable k j v rest) → F (met_at v rest) ≡ G (kind_among 3 8 k) (record { vdr = v; vxrs = a.found.here.vxrs }))
      → F (variable_way f k j) ≡ of_variable laid k j G
  variable_asked k j F G stop found = go (variable_way f k j) refl (variable_on f n k j)
    where
      of : ℕ → Reply
      of t = numbered (variables_of laid t) j (G t)

      there : of_kinds 3 8 k ≡ true → of_variable laid k j G ≡ numbered (vars_of f n (eq_z k (pos 3))) j (G (kind_among 3 8 k))
      there e = kind_one 3 8 k of e ∙ ap (λ (vs : List ListedVdr). numbered vs j (G (kind_among 3 8 k))) (vars_same (eq_z k (pos 3)))

      none : (of_kinds 3 8 k ≡ false) ⊎ ((of_kinds 3 8 k ≡ true) × NoPlace f n (vars_of f n (eq_z k (pos 3))) j) → of_variable laid k j G ≡ Refused NoSuch
      none (inl e) = kind_none 3 8 k of e
      none (inr (e, h)) = there e ∙ numbered_none (vars_of f n (eq_z k (pos 3))) j h (G (kind_among 3 8 k))

      go : (s : Way) → variable_way f k j ≡ s → VariableOn f n k j s → F s ≡ of_variable laid k j G
      go (Ok v) e (kind, least, a) =
          found v.at v.left e a
          ∙ ap (λ (v : ℕ). G (kind_among 3 8 k) (record { vdr = v; vxrs = a.found.here.vxrs })) a.found.is
          ∙ sym (there kind ∙ numbered_found body (kind_among 3 8 k) (λ d. d.vdr) (allowance f) (vars_of f n (eq_z k (pos 3))) j v.at v.left least a.found (G (kind_among 3 8 k)))
      go (Err m) e (q, h) = ap (λ (m : Refusal). F (Err m)) q ∙ stop ∙ sym (none h)

  -- ---- attributes
  pub attribute_asked : (j : ℤ) (F : Way → Reply) (G : ListedAdr → Reply) → F (Err NoSuch) ≡ Refused NoSuch
      → ((d : ListedAdr) (rest : ℕ) → F (met_at d.adr rest) ≡ G d)
      → F (attribute_way f j) ≡ numbered laid.attributes j G
  attribute_asked j F G stop found = go (attribute_way f j) (attribute_on f n j)
    where
      go : (s : Way) → AttributeOn f n j s → F s ≡ numbered laid.attributes j G
      go (Ok o) (least, a) =
          ap (λ (d : ℕ). F (met_at d o.left)) a.found.is
          ∙ found a.found.here o.left
          ∙ sym (numbered_found body 4 (λ d. d.adr) (allowance f) laid.attributes j o.at o.left least a.found G)
      go (Err m) (q, h) = ap (λ (m : Refusal). F (Err m)) q ∙ stop ∙ sym (numbered_none laid.attributes j h G)

  -- ---- entries
  pub entry_asked_lem : (j k : ℤ) (w : Wanted) (F : Way → Reply) (G : ℕ → ℕ → Reply) → F (Err NoSuch) ≡ Refused NoSuch → F (Err NoNumber) ≡ Refused NoNumber
      → ((e rest : ℕ) → entry_way f j k w ≡ met_at e rest → F (met_at e rest) ≡ G (kind_among 5 9 k) e)
      → F (entry_way f j k w) ≡ of_entry body laid j k w G
  entry_asked_lem j k w F G stop lack found = go (entry_way f j k w) refl (entry_on f n j k w)
    where
      of : ℕ → Reply
      of t = numbered laid.attributes j (λ d. wanted_of body (entries_of d t) w (G t))

      none : (of_kinds 5 9 k ≡ false) ⊎ ((of_kinds 5 9 k ≡ true) × NoPlace f n laid.attributes j) → of_entry body laid j k w G ≡ Refused NoSuch
      none (inl e) = kind_none 5 9 k of e
      none (inr (e, h)) = kind_one 5 9 k of e ∙ numbered_none laid.attributes j h (λ d. wanted_of body (entries_of d (kind_among 5 9 k)) w (G (kind_among 5 9 k)))

      lacks : (b : Bool) → over_of (cond b 5 9) ≡ NoNumber
      lacks true = refl
      lacks false = refl

      among : (es : List ℕ) (left : ℕ) (s : Way) → entry_way f j k w ≡ s → OnList body (kind_among 5 9 k) w (λ e. e) 0 left es s
          → F s ≡ wanted_of body es w (G (kind_among 5 9 k))
      among es left (Ok e) q a = found e.at e.left q ∙ sym (wanted_found body (kind_among 5 9 k) left es (G (kind_among 5 9 k)) w e.at e.left a)
      among es left (Err m) q a =
          ap (λ (m : Refusal). F (Err m)) (a.number ∙ lacks (eq_z k (pos 5))) ∙ lack
          ∙ sym (wanted_none body (kind_among 5 9 k) left es (G (kind_among 5 9 k)) w m a)

      go : (s : Way) → entry_way f j k w ≡ s → EntryOn f n j k w s → F s ≡ of_entry body laid j k w G
      go s e (inl (q, h)) = ap F q ∙ stop ∙ sym (none h)
      go s e (inr (kind, a)) =
          let t = kind_among 5 9 k in
          let d = a.attribute.1.found.here in
          among (entries_in f n (eq_z k (pos 5)) d) a.left s e a.entry
          ∙ sym (kind_one 5 9 k of kind
          ∙ numbered_found body 4 (λ d. d.adr) (allowance f) laid.attributes j a.adr a.left a.attribute.0 a.attribute.1.found
          (λ d. wanted_of body (entries_of d t) w (G t))
          ∙ ap (λ (es : List ℕ). wanted_of body es w (G t)) (entries_same (eq_z k (pos 5)) d))

-- A walk of any kind: from one position it goes to another exactly under a rule, and claims on the way just what is said. Assumes nothing.
use mathlib.Core.Path.{◌≡◌, refl, sym, ap, ◌∙◌, subst}
use mathlib.Core.Logic.{◌↔◌}
use mathlib.Core.List.{List, [], ◌∷◌, ◌++◌, append_assoc}
use Prim.Native.Nat.{ℕ, zero, suc, ◌≤◌}
use native.Mathlib.Nat.{le_refl}
use native.Mathlib.Omega.{arith}

module _ {Position : Type 0} (Step : (Position → List ℕ → Type 0) → Position → List ℕ → Type 0) where
  -- from w the walk ends well within k steps, and claims cs
  abbrev pub Ends : ℕ → Position → List ℕ → Type 0
  Ends zero w cs = ⊥
  Ends (suc k) w cs = Step (Ends k) w cs

  pub record Went (R : Type 0) (c : List ℕ) (to : Position) (k : ℕ) (cs : List ℕ) : Type 0 where
    pub obeys : R
    pub left : ℕ
    pub rest : List ℕ
    pub fewer : left ≤ k
    pub split : cs ≡ c ++ rest
    pub ends : Ends left to rest

  pub record Goes (w : Position) (R : Type 0) (c : List ℕ) (to : Position) : Type 0 where
    pub reads : (k : ℕ) (cs : List ℕ) → Ends k w cs → Went R c to k cs
    pub makes : (k : ℕ) (cs : List ℕ) → R → Ends k to cs → (j : ℕ) × Ends j w (c ++ cs)

  pub stays : (w : Position) → Goes w (Unit {0}) [] w
  stays w = record {
    reads = λ k cs e. record { obeys = tt; left = k; rest = cs; fewer = le_refl k; split = refl; ends = e };
    makes = λ k cs o e. (k, e);
  }

  -- one way after another
  pub goes_on : {v w : Position} {R Q : Type 0} {c d : List ℕ} (u : Position) → Goes u R c v → (R → Goes v Q d w) → Goes u (R × Q) (c ++ d) w
  goes_on {v} {w} {R} {Q} {c} {d} u x y = record {
    reads = λ k cs e.
        let a = x.reads k cs e in
        let b = (y a.obeys).reads a.left a.rest a.ends in
        record {
          obeys = (a.obeys, b.obeys);
          left = b.left;
          rest = b.rest;
          fewer = omega (arith, a.fewer, b.fewer);
          split = join cs a.rest b.rest a.split b.split;
          ends = b.ends;
        };
    makes = λ k cs o e.
        let b = (y o.0).makes k cs o.1 e in
        let a = x.makes b.0 (d ++ cs) o.0 b.1 in
        (a.0, rw append_assoc a.1);
  }
    where
      join : (cs es z : List ℕ) → cs ≡ c ++ es → es ≡ d ++ z → cs ≡ (c ++ d) ++ z
      join cs es z f g = rw (f, g, append_assoc)

  -- the same way in other words
  pub goes_as : {u w : Position} {R Q : Type 0} {c d : List ℕ} → R ↔ Q → c ≡ d → Goes u R c w → Goes u Q d w
  goes_as {u} {w} {R} {Q} {c} {d} r e x = record {
    reads = λ k cs h.
        let a = x.reads k cs h in
        let split = a.split ∙ ap (λ (l : List ℕ). l ++ a.rest) e in
        record { obeys = r.0 a.obeys; left = a.left; rest = a.rest; fewer = a.fewer; split = split; ends = a.ends };
    makes = λ k cs o h. let s = x.makes k cs (r.1 o) h in (s.0, subst (λ (l : List ℕ). Ends s.0 u (l ++ cs)) e s.1);
  }

  -- a position by another name
  pub goes_from : {u v w : Position} {R : Type 0} {c : List ℕ} → u ≡ v → Goes v R c w → Goes u R c w
  goes_from {u} {v} {w} {R} {c} e x = subst (λ (p : Position). Goes p R c w) (sym e) x

  pub goes_to : {u v w : Position} {R : Type 0} {c : List ℕ} → v ≡ w → Goes u R c v → Goes u R c w
  goes_to {u} {v} {w} {R} {c} e x = subst (λ (p : Position). Goes u R c p) e x

  -- a link that is taken
  pub takes_link : {v : Position} {R : Type 0} (u : Position) (t : ℕ)
      → ((k : ℕ) (cs : List ℕ) → Step (Ends k) u cs ↔ (R × (ds : List ℕ) × (cs ≡ t ∷ ds) × Ends k v ds)) → Goes u R (t ∷ []) v
  takes_link {v} {R} u t steps = record { reads = reads; makes = λ k cs o e. (suc k, (steps k (t ∷ cs)).1 (o, cs, refl, e)) }
    where
      reads : (k : ℕ) (cs : List ℕ) → Ends k u cs → Went R (t ∷ []) v k cs
      reads zero cs e = absurd e
      reads (suc k) cs e =
          let g = (steps k cs).0 e in
          record { obeys = g.0; left = k; rest = g.1; fewer = omega arith; split = g.2; ends = g.3 }

  -- a zero link
  pub passes_link : {v : Position} (u : Position) → ((k : ℕ) (cs : List ℕ) → Step (Ends k) u cs ↔ Ends k v cs) → Goes u (Unit {0}) [] v
  passes_link {v} u steps = record { reads = reads; makes = λ k cs o e. (suc k, (steps k cs).1 e) }
    where
      reads : (k : ℕ) (cs : List ℕ) → Ends k u cs → Went (Unit {0}) [] v k cs
      reads zero cs e = absurd e
      reads (suc k) cs e = record { obeys = tt; left = k; rest = cs; fewer = omega arith; split = refl; ends = (steps k cs).0 e }

  -- no way at all
  pub goes_nowhere : {v : Position} {R : Type 0} (u : Position) (c : List ℕ) → ((k : ℕ) (cs : List ℕ) → Step (Ends k) u cs → ⊥) → (R → ⊥) → Goes u R c v
  goes_nowhere {v} {R} u c steps none = record { reads = reads; makes = λ k cs o e. absurd (none o) }
    where
      reads : (k : ℕ) (cs : List ℕ) → Ends k u cs → Went R c v k cs
      reads zero cs e = absurd e
      reads (suc k) cs e = absurd (steps k cs e)

-- Fields that no rule is placed on have no findings: those of an II after 15, those of an IP but 2, 3 and 25, all after 25, and all of a
-- line of no kind.
-- Assumes nothing.
use mathlib.Core.Path.{◌≡◌, refl, sym, ap, ◌∙◌}
use mathlib.Core.Bool.{Bool, true, false}
use mathlib.Core.List.{List, [], ◌∷◌, ◌++◌, append_assoc}
use Prim.Native.Nat.{ℕ, zero, suc, ◌+◌, ◌-◌, ◌≤◌, ◌<◌}
use native.Mathlib.Nat.{zero-add}
use native.Mathlib.Numerals.{sub-one}
use native.Mathlib.Omega.{arith}
use borrow.Author.Tests.{ne_eqb, lt-leb, le-ltb, leb-true, leb-false}
use lib.Dec.{T, ltb, leb}
use Rattle.house.specs.Text.{within}
use Rattle.lines.specs.Records.{IV, IH, IP, II, IE, IN, IA, IF}
use Rattle.rules_definitions.specs.Forms.{table}
use Rattle.rules_definitions.specs.Seen.{Setting, Seen}
use Rattle.rules_definitions.specs.Rules.{Place, rules, rules_in, rules_of, broken_at}
use Rattle.rules_definitions.specs.Findings.{found, fields_findings}
use Rattle.rules.specs.Fields.{last_field}
use Rattle.rules.proofs.PlacedLaws.{places_pass, lies_in, past, no_place_lem, no_rule}

-- the fields that some rule is placed on, by kind
abbrev pub iv_fields : List ℕ
iv_fields = 2 ∷ []

abbrev pub ih_fields : List ℕ
ih_fields = 2 ∷ 3 ∷ []

abbrev pub ip_fields : List ℕ
ip_fields = 2 ∷ 3 ∷ 25 ∷ []

abbrev pub ii_fields : List ℕ
ii_fields = 2 ∷ 3 ∷ 4 ∷ 5 ∷ 6 ∷ 8 ∷ 9 ∷ 10 ∷ 11 ∷ 12 ∷ 13 ∷ 14 ∷ 15 ∷ []

abbrev pub ie_fields : List ℕ
ie_fields = 2 ∷ 3 ∷ 4 ∷ 5 ∷ []

abbrev pub in_fields : List ℕ
in_fields = 2 ∷ 3 ∷ 4 ∷ 5 ∷ 6 ∷ 7 ∷ 8 ∷ []

abbrev pub ia_fields : List ℕ
ia_fields = 2 ∷ 3 ∷ 4 ∷ []

abbrev pub if_fields : List ℕ
if_fields = 2 ∷ 3 ∷ []

-- each a computed test of all places
module _ (s : Setting) where
  pub iv_places : T (places_pass (lies_in IV iv_fields) (rules_of s))
  unfolding rules_of rules_in rules table
  iv_places = tt

  pub ih_places : T (places_pass (lies_in IH ih_fields) (rules_of s))
  unfolding rules_of rules_in rules table
  ih_places = tt

  pub ip_places : T (places_pass (lies_in IP ip_fields) (rules_of s))
  unfolding rules_of rules_in rules table
  ip_places = tt

  pub ii_places : T (places_pass (lies_in II ii_fields) (rules_of s))
  unfolding rules_of rules_in rules table
  ii_places = tt

  pub ie_places : T (places_pass (lies_in IE ie_fields) (rules_of s))
  unfolding rules_of rules_in rules table
  ie_places = tt

  pub in_places : T (places_pass (lies_in IN in_fields) (rules_of s))
  unfolding rules_of rules_in rules table
  in_places = tt

  pub ia_places : T (places_pass (lies_in IA ia_fields) (rules_of s))
  unfolding rules_of rules_in rules table
  ia_places = tt

  pub if_places : T (places_pass (lies_in IF if_fields) (rules_of s))
  unfolding rules_of rules_in rules table
  if_places = tt

  kinds_pass : T (places_pass (λ (p : Place). within IV IF p.kind) (rules_of s))
  unfolding rules_of rules_in rules table
  kinds_pass = tt

  first_pass : T (places_pass (λ (p : Place). ltb 1 p.field) (rules_of s))
  unfolding rules_of rules_in rules table
  first_pass = tt

  last_pass : T (places_pass (λ (p : Place). leb p.field (last_field p.kind)) (rules_of s))
  unfolding rules_of rules_in rules table last_field
  last_pass = tt

  most_pass : T (places_pass (λ (p : Place). leb p.field 25) (rules_of s))
  unfolding rules_of rules_in rules table
  most_pass = tt

module _ (s : Setting) (v : Seen) where
  -- a line of no kind
  pub kind_blank : (f : ℕ) → within IV IF v.line.kind ≡ false → broken_at s v f ≡ []
  kind_blank f h = no_place_lem s v (λ (p : Place). within IV IF p.kind) v.line.kind f refl (kinds_pass s) h

  -- a field after the 25th, of any kind
  pub field_blank : (f : ℕ) → 25 < f → broken_at s v f ≡ []
  field_blank f h = no_place_lem s v (λ (p : Place). leb p.field 25) v.line.kind f refl (most_pass s) (lt-leb f 25 h)

  -- the first field
  pub first_blank : (f : ℕ) → f ≤ 1 → broken_at s v f ≡ []
  first_blank f h = no_place_lem s v (λ (p : Place). ltb 1 p.field) v.line.kind f refl (first_pass s) (le-ltb 1 f h)

  -- those after the last that a rule is placed on
  pub last_blank : (k f : ℕ) → v.line.kind ≡ k → last_field k < f → broken_at s v f ≡ []
  last_blank k f e h = no_place_lem s v (λ (p : Place). leb p.field (last_field p.kind)) k f e (last_pass s) (lt-leb f (last_field k) h)

  pub ip_blank : (f : ℕ) → v.line.kind ≡ IP → (f ≡ 2 → ⊥) → (f ≡ 3 → ⊥) → (f ≡ 25 → ⊥) → broken_at s v f ≡ []
  ip_blank f k n2 n3 n25 = no_rule s v IP f ip_fields k (ip_places s) (simp (ne_eqb f 2 n2, ne_eqb f 3 n3, ne_eqb f 25 n25))

  pub ii_blank : (f : ℕ) → v.line.kind ≡ II → 15 < f → broken_at s v f ≡ []
  ii_blank f k h = no_rule s v II f ii_fields k (ii_places s) (past 15 f ii_fields tt h)

  -- so many fields from one on, of which none has a finding
  pub blank_run : (n f m : ℕ) → ((g : ℕ) → f ≤ g → g < f + m → broken_at s v g ≡ []) → fields_findings s n v f m ≡ []
  unfolding fields_findings found
  blank_run n f zero h = refl
  blank_run n f (suc m) h =
      rw (h f (omega arith) (omega arith)) (blank_run n (f + 1) m (λ g a b. h g (omega arith) (omega arith)))

  -- a run of fields in two
  pub run_append : (n f a b : ℕ) → fields_findings s n v f (a + b) ≡ fields_findings s n v f a ++ fields_findings s n v (f + a) b
  unfolding fields_findings
  run_append n f zero b = let z : f + 0 ≡ f = omega arith in rw (zero-add, z)
  run_append n f (suc a) b =
      let e : f + 1 + a ≡ f + suc a = omega arith in
      let d : suc a + b ≡ suc (a + b) = omega arith in
      rw (d, run_append n (f + 1) a b, e, append_assoc)

  -- fields without a finding are passed over, as many as there are of them
  pub blank_skip : (n f a m : ℕ) → ((g : ℕ) → f ≤ g → g < f + a → broken_at s v g ≡ []) → fields_findings s n v f m ≡ fields_findings s n v (f + a) (m - a)
  blank_skip n f a m h = go (leb a m) refl
    where
      go : (b : Bool) → leb a m ≡ b → fields_findings s n v f m ≡ fields_findings s n v (f + a) (m - a)
      go true e =
          let q : a ≤ m = leb-true a m e in
          let d : m ≡ a + (m - a) = omega arith in
          ap (fields_findings s n v f) d ∙ run_append n f a (m - a) ∙ rw (blank_run n f a h)
      go false e =
          let q : m < a = leb-false a m e in
          let d : m - a ≡ 0 = omega arith in
          blank_run n f m (λ g i j. h g i (omega arith)) ∙ rw d (sym (blank_run n (f + a) 0 (λ g i j. absurd (omega arith))))

  -- one field, and those after it
  pub fields_on : (n f left : ℕ) → 0 < left → fields_findings s n v f left ≡ found n f (broken_at s v f) ++ fields_findings s n v (f + 1) (left - 1)
  unfolding fields_findings
  fields_on n f zero h = absurd (omega arith)
  fields_on n f (suc left) h = rw sub-one

-- What each need of the functions on the fields of an II and of an IE asks.
-- Assumes nothing.
use mathlib.Core.Path.{◌≡◌}
use mathlib.Core.Bool.{Bool, false}
use Prim.Native.Nat.{ℕ}
use borrow.Author.Rules.{rules}
use Rattle.house.specs.Text.{Text, is_empty, pad}
use Rattle.book.specs.declared.Sections.{Sections}
use Rattle.rules_definitions.specs.Codes.{is_site, is_method, reason_read}
use Rattle.rules_definitions.specs.Rules.{site_wrong, method_wrong}
use Rattle.rules_forms.specs.FieldLeaves.{lowest_in}
use Rattle.rules_fields.specs.declared.Day.{Day}
use Rattle.rules_fields.specs.declared.Facts.{Facts}
use Rattle.rules_fields.specs.Fields.{broken, rules4and5_of, rules16to18_at, code_by, rule9_by, rule10_by, rule11_by, rule12_by, rule13_by, rule15_by, ii4_type, ii8_vaccine, ii9_site, ii10_method, ii11_reason, ii12_dosage, ii13_dosage_type, ie4_antigen}
use Rattle.rules_fields.proofs.CodeNeeds.{reason_lacks, antigen_lacks}

module _ (x : Bool) (t u : Text) (a b c : ℕ) where
  pub site_is : a ≡ lowest_in 4 x 9 t (rules4and5_of (is_empty t) (is_site t) false) → (w : Bool) → w ≡ site_wrong t u → b ≡ rule9_by w t u → c ≡ rule10_by x t 10 u
      → broken a b c ≡ ii9_site x t u
  unfolding ii9_site
  site_is p w o q r = rw (p, q, o, r)

  pub method_is : a ≡ lowest_in 4 x 10 u (rules4and5_of (is_empty u) (is_method u) false) → (w : Bool) → w ≡ method_wrong t u → b ≡ rule9_by w t u → c ≡ rule10_by x u 9 t
      → broken a b c ≡ ii10_method x t u
  unfolding ii10_method
  method_is p w o q r = rw (p, q, o, r)

  pub dosage_is : a ≡ lowest_in 4 x 12 t 0 → b ≡ rule10_by x t 13 u → broken a b 0 ≡ ii12_dosage x t u
  unfolding ii12_dosage
  dosage_is p q = rw (p, q)

  module _ (book : Text) (q : Sections) (day : Day) where
    pub reason_is : (r : Text) → r ≡ pad 2 (reason_read t) → a ≡ code_by 4 x 11 t r book q day → b ≡ rule11_by 4 t r u book q day
        → broken a b 0 ≡ ii11_reason x t u book q day
    unfolding ii11_reason
    reason_is r w y z = rw (y, z, w)

    pub dosage_type_is : a ≡ code_by 4 x 13 t t book q day → b ≡ rule10_by x t 12 u → broken a b 0 ≡ ii13_dosage_type x t u book q day
    unfolding ii13_dosage_type
    dosage_type_is y z = rw (y, z)

module _ (t : Text) (a b c : ℕ) where
  pub type_is : (facts : Facts) → a ≡ lowest_in 4 false 4 t 0 → b ≡ rules16to18_at facts.inb t facts.live → broken a b 0 ≡ ii4_type t facts
  unfolding ii4_type
  type_is facts x y = rw (x, y)

  pub vaccine_is : (differ repeated : Bool) (book : Text) (q : Sections) (day : Day) → a ≡ code_by 4 false 8 t t book q day
      → b ≡ rule13_by differ → c ≡ rule15_by repeated → broken a b c ≡ ii8_vaccine t differ book q day repeated
  unfolding ii8_vaccine
  vaccine_is differ repeated book q day x y z = rw (x, y, z)

  pub antigen_is_lem : (again : Bool) (vaccine book : Text) (q : Sections) (day : Day) → a ≡ code_by 5 false 4 t t book q day
      → b ≡ rule11_by 5 t t vaccine book q day → c ≡ rule12_by again → broken a b c ≡ ie4_antigen t vaccine again book q day
  unfolding ie4_antigen
  antigen_is_lem again vaccine book q day x y z = rw (x, y, z)

pub ruleset for_parts = (rules, reason_lacks, antigen_lacks, type_is, vaccine_is, site_is, method_is, reason_is, dosage_is, dosage_type_is, antigen_is_lem)

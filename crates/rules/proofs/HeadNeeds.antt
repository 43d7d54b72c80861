-- What each need of the function on an IE's fields asks.
-- Assumes nothing.
use mathlib.Core.Path.{◌≡◌, refl, sym, ap, ◌∙◌}
use mathlib.Core.Logic.{inl}
use mathlib.Core.Bool.{Bool, false, cond}
use mathlib.Core.List.{List, []}
use Prim.Native.Nat.{ℕ, ◌≤◌}
use native.Mathlib.Omega.{arith}
use borrow.Author.Rules.{rules}
use Rattle.house.specs.Text.{Text}
use Rattle.lines_fields.specs.Marks.{judged_in}
use Rattle.lines_fields.specs.Inside.{part}
use Rattle.lines.specs.Records.{IE}
use Rattle.book.specs.Book.{code_text}
use Rattle.rules_definitions.specs.Forms.{text}
use Rattle.rules_definitions.specs.Seen.{Setting, Seen}
use Rattle.rules_definitions.specs.Codes.{book_kind, code_read, code_in, pair_kind, pair_in}
use Rattle.rules_definitions.specs.Rules.{broken_at}
use Rattle.rules_forms.specs.TextLeaves.{value_of}
use Rattle.rules_forms.specs.FieldLeaves.{lowest_in}
use Rattle.rules_forms.proofs.SoundLaws.{ie_2}
use Rattle.rules_plain.specs.PlainFields.{rule7_by, rule6_by}
use Rattle.rules_fields.specs.declared.Broken.{Broken}
use Rattle.rules_fields.specs.declared.Day.{Day}
use Rattle.rules_fields.specs.Fields.{broken, pair_field, rule11_by, ie4_antigen}
use Rattle.rules.specs.declared.By.{By}
use Rattle.rules.specs.declared.Here.{Here}
use Rattle.rules.specs.Inside.{listed}
use Rattle.rules.specs.Fields.{ii_day, Told, Judges}
use Rattle.rules.proofs.ToldLaws.{kind_told, ie_asked, judges_rest, judges_at}
use Rattle.rules.proofs.LowestLaws.{rules1_and_2_broken, rule7_number_broken, rule6_uli_broken}
use Rattle.rules.proofs.CodeLaws.{rules4_and_5_low, rule11_pair_seen}
use Rattle.rules.proofs.AtLaws.{pair_number, at_ie_2, at_ie_3, at_ie_4, at_ie_rest}

pub three_same : (a a2 b b2 c c2 : ℕ) → a ≡ a2 → b ≡ b2 → c ≡ c2 → listed (broken a b c) ≡ listed (broken a2 b2 c2)
three_same a a2 b b2 c c2 p q r = rw (p, q, r)

module _ (file : Text) (marks : List ℕ) (h : Here) (book : Text) (by : By) (k : h.kind ≡ 5) where
  module _ (s : Setting) (v : Seen) (w : Told file marks h book by s v) (t : Text) (e : t ≡ text v.line 4) where
    kind_ie : v.line.kind ≡ IE
    kind_ie = kind_told file marks h book by s v w 5 k

    abbrev D : Day
    D = ii_day h.day h.historical by.today

    rule11_4 : (vaccine : Text) → text v.head 8 ≡ vaccine → rule11_by IE t t vaccine book by.sections D ≡ pair_number s v IE 4 2 8
    unfolding book_kind pair_field pair_kind code_in code_read pair_in
    rule11_4 vaccine he =
        rule11_pair_seen s v by book D w.looks (ie_asked file marks h book by s v w kind_ie) IE 4 2 t 8 t vaccine e he (ap (λ (u : Text). code_text 2 u []) (sym e))
        (ap (λ (n : ℕ). code_text (pair_kind n) (text v.head 8) (code_read n v.line 4)) kind_ie ∙ rw (he, ← e))

    at_4 : (vaccine : Text) → text v.head 8 ≡ vaccine → listed (ie4_antigen t vaccine h.again book by.sections D) ≡ broken_at s v 4
    unfolding ie4_antigen book_kind code_read
    at_4 vaccine he =
        three_same _ _ _ _ _ _ (rules4_and_5_low s v by book D w.looks (ie_asked file marks h book by s v w kind_ie) IE 4 2 t false e (inl refl) refl refl) (rule11_4 vaccine he)
        (ap (λ (u : Bool). cond u 12 0) (sym (w.again_is kind_ie)))
        ∙ sym (at_ie_4 s v kind_ie)

  module _ (f : ℕ) (b : Broken) (t : Text) (d : t ≡ judged_in file marks f) where
    pub need_ie_4 : f ≡ 4 → (vaccine : Text) (day : Day) → vaccine ≡ part file h.vaccine.start h.vaccine.end
        → day ≡ ii_day h.day h.historical by.today → b ≡ ie4_antigen t vaccine h.again book by.sections day → Judges file marks h book by f b
    need_ie_4 e vaccine day c q p =
        judges_at file marks h book by f b t d 4 (omega arith) e
        (λ s v w u. rw (p, q) (at_4 s v w t u vaccine (w.vaccine_is (rw (kind_told file marks h book by s v w 5 k)) ∙ sym c)))

    module _ (x : ℕ) (p : b ≡ broken x 0 0) where
      pub need_ie_2 : f ≡ 2 → x ≡ lowest_in 5 false 2 t (rule7_by (value_of t) h.place) → Judges file marks h book by f b
      need_ie_2 e z =
          judges_at file marks h book by f b t d 2 (omega arith) e
          (λ s v w u. rw (p, z) (rule7_number_broken s v t 5 h.place u (ie_2 v.line) w.place_is refl (at_ie_2 s v (kind_told file marks h book by s v w 5 k))))

      pub need_ie_3 : f ≡ 3 → (q : Text) → q ≡ part file h.uli.start h.uli.end → x ≡ lowest_in 5 false 3 t (rule6_by t q) → Judges file marks h book by f b
      need_ie_3 e q c z =
          judges_at file marks h book by f b t d 3 (omega arith) e
          (λ s v w u. rw (p, z) (rule6_uli_broken s v t 5 q u (w.uli_is ∙ sym c) refl (at_ie_3 s v (kind_told file marks h book by s v w 5 k))))

      pub need_ie_rest : f ≤ 28 → (f ≡ 2 → ⊥) → (f ≡ 3 → ⊥) → (f ≡ 4 → ⊥) → x ≡ lowest_in 5 false f t 0 → Judges file marks h book by f b
      need_ie_rest l n2 n3 n4 z =
          judges_rest file marks h book by f b t d l
          (λ s v w u. rw (p, z) (rules1_and_2_broken s v t 5 f false u (inl refl) (at_ie_rest s v f (kind_told file marks h book by s v w 5 k) n2 n3 n4)))

pub ruleset for_judge_ie = (rules, need_ie_2, need_ie_3, need_ie_4, need_ie_rest)

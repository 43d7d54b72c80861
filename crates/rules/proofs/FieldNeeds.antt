-- What each need of the functions on the fields of a record asks that is no II and no IE.
-- Assumes nothing.
use mathlib.Core.Path.{◌≡◌, refl, sym, ◌∙◌}
use mathlib.Core.Logic.{inl}
use mathlib.Core.Bool.{Bool, true, false}
use mathlib.Core.List.{List}
use Prim.Native.Nat.{ℕ, ◌≤◌}
use native.Mathlib.Omega.{arith}
use borrow.Author.Rules.{rules}
use borrow.Author.Tests.{ne_eqb}
use Rattle.std.specs.Prelude.{Option, unwrap_or}
use Rattle.std.specs.Option.{is_some}
use Rattle.house.specs.Text.{Text}
use Rattle.lines_fields.specs.Marks.{judged_in}
use Rattle.lines_fields.specs.Inside.{part}
use Rattle.rules_definitions.specs.Codes.{book_kind, code_read}
use Rattle.rules_forms.specs.TextLeaves.{value_of}
use Rattle.rules_forms.specs.FieldLeaves.{lowest_in}
use Rattle.rules_forms.proofs.SoundLaws.{ip_2, in_2, in_5, ia_2}
use Rattle.rules_plain.specs.PlainFields.{rule7_by, rule6_by, rule8_today_by, rule8_by, rule3_by}
use Rattle.rules_fields.specs.declared.Broken.{Broken}
use Rattle.rules_fields.specs.declared.Day.{Day}
use Rattle.rules_fields.specs.Fields.{broken, any_end, code_by}
use Rattle.rules.specs.declared.By.{By}
use Rattle.rules.specs.declared.Here.{Here}
use Rattle.rules.specs.Fields.{day_until, ii_day, Judges}
use Rattle.rules.proofs.ToldLaws.{kind_told, in_asked, ia_asked, judges_rest, judges_at}
use Rattle.rules.proofs.LowestLaws.{rules1_and_2_broken, rule7_number_broken, rule6_uli_broken, rule8_date_broken, rule8_birth_broken, rule3_version_broken}
use Rattle.rules.proofs.CodeLaws.{rules4_and_5_broken}
use Rattle.rules.proofs.AtLaws.{at_iv_rest, at_ip_2, at_ip_rest, at_in_2, at_in_3, at_in_5, at_in_6, at_in_rest, at_ia_2, at_ia_3, at_ia_4, at_ia_rest, at_other}

-- day_until
pub until_is : (day : Option ℕ) (until n : ℕ) (b : Bool) → b ≡ is_some day → n ≡ unwrap_or day 0 → ◌≡◌ {A = Day} (record { sound = b; number = n; until = until }) (day_until day until)
until_is day until n b c d = rw (c, d)

pub ruleset for_day_until = (rules, until_is)

-- ii_day
module _ (day : Option ℕ) (historical : Bool) (today : ℕ) (r : Day) where
  pub day_with_h : historical ≡ true → r ≡ day_until day any_end → r ≡ ii_day day historical today
  day_with_h h e = e ∙ rw h

  pub day_without_h : historical ≡ false → r ≡ day_until day today → r ≡ ii_day day historical today
  day_without_h h e = e ∙ rw h

pub ruleset for_ii_day = (rules, day_with_h, day_without_h)

module _ (file : Text) (marks : List ℕ) (h : Here) (f : ℕ) (b : Broken) (t : Text) (d : t ≡ judged_in file marks f) (x : ℕ) (p : b ≡ broken x 0 0) where
  -- judge_plain
  pub need_plain : f ≤ 28 → (h.kind ≡ 1 → ⊥) → (h.kind ≡ 3 → ⊥) → (h.kind ≡ 4 → ⊥) → (h.kind ≡ 5 → ⊥) → (h.kind ≡ 6 → ⊥) → (h.kind ≡ 7 → ⊥)
      → x ≡ lowest_in h.kind false f t 0 → (book : Text) (by : By) → Judges file marks h book by f b
  need_plain l n1 n3 n4 n5 n6 n7 z book by =
      judges_rest file marks h book by f b t d l
      (λ s v w u.
      rw (p, z)
      (rules1_and_2_broken s v t h.kind f false u (inl (rw (ne_eqb h.kind 4 n4))) (at_other s v h.kind f (kind_told file marks h book by s v w h.kind refl) n1 n3 n4 n5 n6 n7)))

  -- judge_iv
  module _ (k : h.kind ≡ 1) where
    pub need_iv_2 : f ≡ 2 → x ≡ lowest_in 1 false 2 t (rule3_by t) → (book : Text) (by : By) → Judges file marks h book by f b
    need_iv_2 e z book by =
        judges_at file marks h book by f b t d 2 (omega arith) e (λ s v w u. rw (p, z) (rule3_version_broken s v t u (kind_told file marks h book by s v w 1 k)))

    pub need_iv_rest : f ≤ 28 → (f ≡ 2 → ⊥) → x ≡ lowest_in 1 false f t 0 → (book : Text) (by : By) → Judges file marks h book by f b
    need_iv_rest l n2 z book by =
        judges_rest file marks h book by f b t d l
        (λ s v w u. rw (p, z) (rules1_and_2_broken s v t 1 f false u (inl refl) (at_iv_rest s v f (kind_told file marks h book by s v w 1 k) n2)))

  -- judge_ip
  module _ (by : By) (k : h.kind ≡ 3) where
    pub need_ip_2 : f ≡ 2 → x ≡ lowest_in 3 false 2 t (rule7_by (value_of t) h.place) → (book : Text) → Judges file marks h book by f b
    need_ip_2 e z book =
        judges_at file marks h book by f b t d 2 (omega arith) e
        (λ s v w u. rw (p, z) (rule7_number_broken s v t 3 h.place u (ip_2 v.line) w.place_is refl (at_ip_2 s v (kind_told file marks h book by s v w 3 k))))

    pub need_ip_25 : f ≡ 25 → x ≡ lowest_in 3 false 25 t (rule8_today_by t by.today) → (book : Text) → Judges file marks h book by f b
    need_ip_25 e z book =
        judges_at file marks h book by f b t d 25 (omega arith) e
        (λ s v w u. rw (p, z) (rule8_birth_broken s v t by.today u w.looks.today_is (kind_told file marks h book by s v w 3 k)))

    pub need_ip_rest : f ≤ 28 → (f ≡ 2 → ⊥) → (f ≡ 25 → ⊥) → x ≡ lowest_in 3 false f t 0 → (book : Text) → Judges file marks h book by f b
    need_ip_rest l n2 n25 z book =
        judges_rest file marks h book by f b t d l
        (λ s v w u. rw (p, z) (rules1_and_2_broken s v t 3 f false u (inl refl) (at_ip_rest s v f (kind_told file marks h book by s v w 3 k) n2 n25)))

pub ruleset for_judge_plain = (rules, need_plain)

pub ruleset for_judge_iv = (rules, need_iv_2, need_iv_rest)

pub ruleset for_judge_ip = (rules, need_ip_2, need_ip_25, need_ip_rest)

module _ (file : Text) (marks : List ℕ) (h : Here) (book : Text) (by : By) (f : ℕ) (b : Broken) (t : Text) (d : t ≡ judged_in file marks f) (x : ℕ) (p : b ≡ broken x 0 0) where
  -- judge_in
  module _ (k : h.kind ≡ 6) where
    pub need_in_2 : f ≡ 2 → x ≡ lowest_in 6 false 2 t (rule7_by (value_of t) h.place) → Judges file marks h book by f b
    need_in_2 e z =
        judges_at file marks h book by f b t d 2 (omega arith) e
        (λ s v w u. rw (p, z) (rule7_number_broken s v t 6 h.place u (in_2 v.line) w.place_is refl (at_in_2 s v (kind_told file marks h book by s v w 6 k))))

    pub need_in_3 : f ≡ 3 → (q : Text) → q ≡ part file h.uli.start h.uli.end → x ≡ lowest_in 6 false 3 t (rule6_by t q) → Judges file marks h book by f b
    need_in_3 e q c z =
        judges_at file marks h book by f b t d 3 (omega arith) e
        (λ s v w u. rw (p, z) (rule6_uli_broken s v t 6 q u (w.uli_is ∙ sym c) refl (at_in_3 s v (kind_told file marks h book by s v w 6 k))))

    pub need_in_5 : f ≡ 5 → x ≡ lowest_in 6 false 5 t (rule8_by t by.today h.born) → Judges file marks h book by f b
    need_in_5 e z =
        judges_at file marks h book by f b t d 5 (omega arith) e
        (λ s v w u.
        rw (p, z)
        (rule8_date_broken s v t 6 5 by.today h.born u (in_5 v.line) w.looks.today_is w.born_is refl (at_in_5 s v (kind_told file marks h book by s v w 6 k))))

    pub need_in_6 : f ≡ 6 → (day : Day) → day ≡ day_until h.day any_end → x ≡ code_by 6 false 6 t t book by.sections day → Judges file marks h book by f b
    unfolding code_read book_kind
    need_in_6 e day c z =
        judges_at file marks h book by f b t d 6 (omega arith) e
        (λ s v w u.
        let o = kind_told file marks h book by s v w 6 k in
        rw (p, z, c) (rules4_and_5_broken s v by book _ w.looks (in_asked file marks h book by s v w o) 6 6 6 false t u (inl refl) refl refl (at_in_6 s v o)))

    pub need_in_rest : f ≤ 28 → (f ≡ 2 → ⊥) → (f ≡ 3 → ⊥) → (f ≡ 5 → ⊥) → (f ≡ 6 → ⊥) → x ≡ lowest_in 6 false f t 0 → Judges file marks h book by f b
    need_in_rest l n2 n3 n5 n6 z =
        judges_rest file marks h book by f b t d l
        (λ s v w u. rw (p, z) (rules1_and_2_broken s v t 6 f false u (inl refl) (at_in_rest s v f (kind_told file marks h book by s v w 6 k) n2 n3 n5 n6)))

  -- judge_ia
  module _ (k : h.kind ≡ 7) where
    pub need_ia_2 : f ≡ 2 → x ≡ lowest_in 7 false 2 t (rule7_by (value_of t) h.place) → Judges file marks h book by f b
    need_ia_2 e z =
        judges_at file marks h book by f b t d 2 (omega arith) e
        (λ s v w u. rw (p, z) (rule7_number_broken s v t 7 h.place u (ia_2 v.line) w.place_is refl (at_ia_2 s v (kind_told file marks h book by s v w 7 k))))

    pub need_ia_3 : f ≡ 3 → (q : Text) → q ≡ part file h.uli.start h.uli.end → x ≡ lowest_in 7 false 3 t (rule6_by t q) → Judges file marks h book by f b
    need_ia_3 e q c z =
        judges_at file marks h book by f b t d 3 (omega arith) e
        (λ s v w u. rw (p, z) (rule6_uli_broken s v t 7 q u (w.uli_is ∙ sym c) refl (at_ia_3 s v (kind_told file marks h book by s v w 7 k))))

    pub need_ia_4 : f ≡ 4 → (day : Day) → day ≡ day_until h.day any_end → x ≡ code_by 7 false 4 t t book by.sections day → Judges file marks h book by f b
    unfolding code_read book_kind
    need_ia_4 e day c z =
        judges_at file marks h book by f b t d 4 (omega arith) e
        (λ s v w u.
        let o = kind_told file marks h book by s v w 7 k in
        rw (p, z, c) (rules4_and_5_broken s v by book _ w.looks (ia_asked file marks h book by s v w o) 7 4 2 false t u (inl refl) refl refl (at_ia_4 s v o)))

    pub need_ia_rest : f ≤ 28 → (f ≡ 2 → ⊥) → (f ≡ 3 → ⊥) → (f ≡ 4 → ⊥) → x ≡ lowest_in 7 false f t 0 → Judges file marks h book by f b
    need_ia_rest l n2 n3 n4 z =
        judges_rest file marks h book by f b t d l
        (λ s v w u. rw (p, z) (rules1_and_2_broken s v t 7 f false u (inl refl) (at_ia_rest s v f (kind_told file marks h book by s v w 7 k) n2 n3 n4)))

pub ruleset for_judge_in = (rules, need_in_2, need_in_3, need_in_5, need_in_6, need_in_rest)

pub ruleset for_judge_ia = (rules, need_ia_2, need_ia_3, need_ia_4, need_ia_rest)

-- What each need of the function on an II's fields asks.
-- Assumes nothing.
use mathlib.Core.Path.{◌≡◌, refl, sym, ap, ◌∙◌, subst}
use mathlib.Core.Logic.{inl, inr}
use mathlib.Core.Bool.{Bool, true, false, cond}
use mathlib.Core.List.{List}
use Prim.Native.Nat.{ℕ, ◌≤◌}
use native.Mathlib.Omega.{arith}
use borrow.Author.Rules.{rules}
use Rattle.house.specs.Text.{Text, is_empty, pad}
use Rattle.lines_fields.specs.Marks.{judged_in}
use Rattle.lines_fields.specs.Inside.{part}
use Rattle.lines.specs.Records.{Rec, II}
use Rattle.book.specs.Book.{code_text}
use Rattle.rules_definitions.specs.Forms.{text, is_relaxed}
use Rattle.rules_definitions.specs.Seen.{Setting, Seen}
use Rattle.rules_definitions.specs.Codes.{is_site, is_method, book_kind, reason_read, code_read, code_in, pair_kind, pair_in}
use Rattle.rules_definitions.specs.Rules.{broken_at}
use Rattle.rules_forms.specs.TextLeaves.{value_of}
use Rattle.rules_forms.specs.FieldLeaves.{lowest, lowest_in}
use Rattle.rules_forms.proofs.FieldLaws.{given_in_lem, lacks_in_lem}
use Rattle.rules_forms.proofs.SoundLaws.{ii_2, ii_6}
use Rattle.rules_plain.specs.PlainFields.{rule7_by, rule6_by, rule8_by, rule14_by}
use Rattle.rules_fields.specs.declared.Broken.{Broken}
use Rattle.rules_fields.specs.declared.Day.{Day}
use Rattle.rules_fields.specs.Fields.{broken, rules4and5_of, rules16to18_at, code_by, pair_field, rule10_by, rule11_by, ii4_type, ii8_vaccine, ii9_site, ii10_method, ii11_reason, ii12_dosage, ii13_dosage_type}
use Rattle.rules.specs.declared.By.{By}
use Rattle.rules.specs.declared.Here.{Here}
use Rattle.rules.specs.Inside.{listed}
use Rattle.rules.specs.Fields.{ii_day, AskedOn, Blocked, Told, Judges, relaxed_in}
use Rattle.rules.proofs.ToldLaws.{text_told, relaxed_told, kind_told, ii_asked, judges_rest, judges_at}
use Rattle.rules.proofs.LowestLaws.{low, one_broken, rules1_and_2_broken, rule7_number_broken, rule6_uli_broken, rule8_date_broken}
use Rattle.rules.proofs.CodeLaws.{code_of, rules4_and_5_seen, rule11_pair_seen, rules4_and_5_low, rules4_and_5_broken}
use Rattle.rules.proofs.ReasonLaws.{reason_code, reason_pair}
use Rattle.rules.proofs.HeadNeeds.{three_same}
use Rattle.rules.proofs.AtLaws.{code_number, pair_number, lack_number, at_ii_2, at_ii_3, rules16_to_18_ii4, at_ii_6, at_ii_8, at_ii_9, at_ii_10, at_ii_11, at_ii_12, at_ii_13, at_ii_14, at_ii_15, at_ii_rest}

live_only : (t : Text) (i x y : Bool) → (i ≡ true → y ≡ x) → rules16to18_at i t x ≡ rules16to18_at i t y
unfolding rules16to18_at
live_only t true x y h = rw (h refl)
live_only t false x y h = refl

module _ (file : Text) (marks : List ℕ) (h : Here) (book : Text) (by : By) (x : Bool) (rx : x ≡ relaxed_in file marks) (k : h.kind ≡ 4)
    (day : Day) (ds : day ≡ ii_day h.day h.historical by.today) where
  module _ (s : Setting) (v : Seen) (w : Told file marks h book by s v) where
    abbrev L : Rec
    L = v.line

    kind_ii : v.line.kind ≡ II
    kind_ii = kind_told file marks h book by s v w 4 k

    relaxed_ii : x ≡ is_relaxed v.line
    relaxed_ii = rx ∙ relaxed_told file marks h book by s v w

    day_ii : AskedOn day s v
    day_ii = subst (λ (d : Day). AskedOn d s v) (sym ds) (ii_asked file marks h book by s v w kind_ii)

    bl : Blocked h v
    bl = w.blocked kind_ii

    vaccine_ii : (q : Text) → q ≡ part file h.vaccine.start h.vaccine.end → text v.head 8 ≡ q
    vaccine_ii q c = w.vaccine_is (rw kind_ii) ∙ sym c

    low_ii : (f : ℕ) (t : Text) → t ≡ text v.line f → (later : Text → ℕ) → lowest_in II x f t (later t) ≡ lowest II v.line f (later (text v.line f))
    low_ii f t e later = low II f x L t e (inr relaxed_ii) (later t) ∙ ap (λ (u : Text). lowest II L f (later u)) e

    lack_ii : (f g : ℕ) (t u : Text) → t ≡ text v.line f → u ≡ text v.line g → rule10_by x t g u ≡ lack_number v.line f g
    lack_ii f g t u d e = rw (d, e, lacks_in_lem L f g, relaxed_ii)

    code_ii : (f of : ℕ) (t : Text) → t ≡ text v.line f → book_kind II f ≡ of → code_read II v.line f ≡ text v.line f
        → code_by II x f t t book by.sections day ≡ lowest II v.line f (code_number s v II f of)
    code_ii f of t e o r = rules4_and_5_low s v by book day w.looks day_ii II f of t x e (inr relaxed_ii) o r

    at_4 : (t : Text) → t ≡ text v.line 4 → listed (ii4_type t h.facts) ≡ broken_at s v 4
    unfolding ii4_type
    at_4 t e =
        three_same _ _ _ _ _ _ (low II 4 false L t e (inl refl) 0)
        (ap (λ (i : Bool). rules16to18_at i t h.facts.live) (sym bl.inb_is) ∙ live_only t v.in_block h.facts.live v.live bl.live_is ∙ rw e) refl
        ∙ sym (rules16_to_18_ii4 s v kind_ii)

    at_8 : (t : Text) → t ≡ text v.line 8 → listed (ii8_vaccine t h.differ book by.sections day h.facts.repeated) ≡ broken_at s v 8
    unfolding ii8_vaccine book_kind code_read
    at_8 t e =
        three_same _ _ _ _ _ _ (rules4_and_5_low s v by book day w.looks day_ii II 8 1 t false e (inl refl) refl refl) (ap (λ (u : Bool). cond u 13 0) (sym bl.differ_is)) (rw bl.repeated_is)
        ∙ sym (at_ii_8 s v kind_ii)

    module _ (t u : Text) where
      at_9 : t ≡ text v.line 9 → u ≡ text v.line 10 → listed (ii9_site x t u) ≡ broken_at s v 9
      unfolding ii9_site
      at_9 d e =
          three_same _ _ _ _ _ _ (low_ii 9 t d (λ (y : Text). rules4and5_of (is_empty y) (is_site y) false))
          (rw (d, e, given_in_lem II L 9, given_in_lem II L 10)) (lack_ii 9 10 t u d e)
          ∙ sym (at_ii_9 s v kind_ii)

      at_10 : t ≡ text v.line 9 → u ≡ text v.line 10 → listed (ii10_method x t u) ≡ broken_at s v 10
      unfolding ii10_method
      at_10 d e =
          three_same _ _ _ _ _ _ (low_ii 10 u e (λ (y : Text). rules4and5_of (is_empty y) (is_method y) false))
          (rw (d, e, given_in_lem II L 9, given_in_lem II L 10)) (lack_ii 10 9 u t e d)
          ∙ sym (at_ii_10 s v kind_ii)

      at_12 : t ≡ text v.line 12 → u ≡ text v.line 13 → listed (ii12_dosage x t u) ≡ broken_at s v 12
      unfolding ii12_dosage
      at_12 d e = three_same _ _ _ _ _ _ (low_ii 12 t d (λ (y : Text). 0)) (lack_ii 12 13 t u d e) refl ∙ sym (at_ii_12 s v kind_ii)

      at_13 : t ≡ text v.line 13 → u ≡ text v.line 12 → listed (ii13_dosage_type x t u book by.sections day) ≡ broken_at s v 13
      unfolding ii13_dosage_type book_kind code_read
      at_13 d e = three_same _ _ _ _ _ _ (code_ii 13 5 t d refl refl) (lack_ii 13 12 t u d e) refl ∙ sym (at_ii_13 s v kind_ii)

    -- the reason
    code_11 : (t : Text) → t ≡ text v.line 11 → code_by II x 11 t (pad 2 (reason_read t)) book by.sections day ≡ lowest II v.line 11 (code_number s v II 11 3)
    unfolding book_kind code_in code_read
    code_11 t e =
        low_ii 11 t e (λ (u : Text). code_of 3 (pad 2 (reason_read u)) book by.sections day u)
        ∙ reason_code book by.sections day L
        ∙ ap (lowest II L 11) (rules4_and_5_seen s v by book day w.looks day_ii II 11 3 (reason_read (text L 11)) refl)

    pair_11 : (t q : Text) → t ≡ text v.line 11 → text v.head 8 ≡ q → rule11_by II t (pad 2 (reason_read t)) q book by.sections day ≡ pair_number s v II 11 3 7
    unfolding book_kind pair_field pair_kind code_in code_read pair_in
    pair_11 t q e he =
        reason_pair book by.sections day t q
        ∙ rule11_pair_seen s v by book day w.looks day_ii II 11 3 (reason_read t) 7 t q e he (rw e)
        (ap (λ (n : ℕ). code_text (pair_kind n) (text v.head 8) (code_read n v.line 11)) kind_ii ∙ rw (he, e))

    at_11 : (t q : Text) → t ≡ text v.line 11 → text v.head 8 ≡ q → listed (ii11_reason x t q book by.sections day) ≡ broken_at s v 11
    unfolding ii11_reason
    at_11 t q e he = three_same _ _ _ _ _ _ (code_11 t e) (pair_11 t q e he) refl ∙ sym (at_ii_11 s v kind_ii)

    at_15 : (t : Text) → t ≡ text v.line 15 → listed (broken (lowest_in II x 15 t (rule14_by h.again)) 0 0) ≡ broken_at s v 15
    at_15 t e =
        one_broken s v 15 _ _
        (low_ii 15 t e (λ (u : Text). rule14_by h.again) ∙ ap (λ (u : Bool). lowest II L 15 (cond u 14 0)) (sym bl.again_is))
        (at_ii_15 s v kind_ii)

  module _ (f : ℕ) (b : Broken) (t : Text) (d : t ≡ judged_in file marks f) where
    pub need_ii_4 : f ≡ 4 → b ≡ ii4_type t h.facts → Judges file marks h book by f b
    need_ii_4 e p = judges_at file marks h book by f b t d 4 (omega arith) e (λ s v w c. rw p (at_4 s v w t c))

    pub need_ii_8 : f ≡ 8 → b ≡ ii8_vaccine t h.differ book by.sections day h.facts.repeated → Judges file marks h book by f b
    need_ii_8 e p = judges_at file marks h book by f b t d 8 (omega arith) e (λ s v w c. rw p (at_8 s v w t c))

    module _ (u : Text) where
      pub need_ii_9 : f ≡ 9 → u ≡ judged_in file marks 10 → b ≡ ii9_site x t u → Judges file marks h book by f b
      need_ii_9 e g p =
          judges_at file marks h book by f b t d 9 (omega arith) e (λ s v w c. rw p (at_9 s v w t u c (g ∙ text_told file marks h book by s v w 10 (omega arith))))

      pub need_ii_10 : f ≡ 10 → u ≡ judged_in file marks 9 → b ≡ ii10_method x u t → Judges file marks h book by f b
      need_ii_10 e g p =
          judges_at file marks h book by f b t d 10 (omega arith) e (λ s v w c. rw p (at_10 s v w u t (g ∙ text_told file marks h book by s v w 9 (omega arith)) c))

      pub need_ii_11 : f ≡ 11 → u ≡ part file h.vaccine.start h.vaccine.end → b ≡ ii11_reason x t u book by.sections day → Judges file marks h book by f b
      need_ii_11 e g p = judges_at file marks h book by f b t d 11 (omega arith) e (λ s v w c. rw p (at_11 s v w t u c (vaccine_ii s v w u g)))

      pub need_ii_12 : f ≡ 12 → u ≡ judged_in file marks 13 → b ≡ ii12_dosage x t u → Judges file marks h book by f b
      need_ii_12 e g p =
          judges_at file marks h book by f b t d 12 (omega arith) e (λ s v w c. rw p (at_12 s v w t u c (g ∙ text_told file marks h book by s v w 13 (omega arith))))

      pub need_ii_13 : f ≡ 13 → u ≡ judged_in file marks 12 → b ≡ ii13_dosage_type x t u book by.sections day → Judges file marks h book by f b
      need_ii_13 e g p =
          judges_at file marks h book by f b t d 13 (omega arith) e (λ s v w c. rw p (at_13 s v w t u c (g ∙ text_told file marks h book by s v w 12 (omega arith))))

    module _ (n : ℕ) (p : b ≡ broken n 0 0) where
      pub need_ii_2 : f ≡ 2 → n ≡ lowest_in 4 false 2 t (rule7_by (value_of t) h.place) → Judges file marks h book by f b
      need_ii_2 e z =
          judges_at file marks h book by f b t d 2 (omega arith) e
          (λ s v w c. rw (p, z) (rule7_number_broken s v t 4 h.place c (ii_2 v.line) w.place_is refl (at_ii_2 s v (kind_ii s v w))))

      pub need_ii_3 : f ≡ 3 → (q : Text) → q ≡ part file h.uli.start h.uli.end → n ≡ lowest_in 4 false 3 t (rule6_by t q) → Judges file marks h book by f b
      need_ii_3 e q g z =
          judges_at file marks h book by f b t d 3 (omega arith) e (λ s v w c. rw (p, z) (rule6_uli_broken s v t 4 q c (w.uli_is ∙ sym g) refl (at_ii_3 s v (kind_ii s v w))))

      pub need_ii_6 : f ≡ 6 → n ≡ lowest_in 4 false 6 t (rule8_by t by.today h.born) → Judges file marks h book by f b
      need_ii_6 e z =
          judges_at file marks h book by f b t d 6 (omega arith) e
          (λ s v w c.
          rw (p, z) (rule8_date_broken s v t 4 6 by.today h.born c (ii_6 v.line) w.looks.today_is w.born_is refl (at_ii_6 s v (kind_ii s v w))))

      pub need_ii_14 : f ≡ 14 → n ≡ code_by 4 x 14 t t book by.sections day → Judges file marks h book by f b
      unfolding book_kind code_read
      need_ii_14 e z =
          judges_at file marks h book by f b t d 14 (omega arith) e
          (λ s v w c.
          rw (p, z) (rules4_and_5_broken s v by book day w.looks (day_ii s v w) 4 14 4 x t c (inr (relaxed_ii s v w)) refl refl (at_ii_14 s v (kind_ii s v w))))

      pub need_ii_15 : f ≡ 15 → n ≡ lowest_in 4 x 15 t (rule14_by h.again) → Judges file marks h book by f b
      need_ii_15 e z = judges_at file marks h book by f b t d 15 (omega arith) e (λ s v w c. rw (p, z) (at_15 s v w t c))

      pub need_ii_rest : f ≤ 28 → (f ≡ 2 → ⊥) → (f ≡ 3 → ⊥) → (f ≡ 4 → ⊥) → (f ≡ 6 → ⊥) → (f ≡ 8 → ⊥) → (f ≡ 9 → ⊥) → (f ≡ 10 → ⊥) → (f ≡ 11 → ⊥) → (f ≡ 12 → ⊥)
          → (f ≡ 13 → ⊥) → (f ≡ 14 → ⊥) → (f ≡ 15 → ⊥) → n ≡ lowest_in 4 x f t 0 → Judges file marks h book by f b
      need_ii_rest l n2 n3 n4 n6 n8 n9 n10 n11 n12 n13 n14 n15 z =
          judges_rest file marks h book by f b t d l
          (λ s v w c.
          rw (p, z) (rules1_and_2_broken s v t 4 f x c (inr (relaxed_ii s v w)) (at_ii_rest s v f (kind_ii s v w) n2 n3 n4 n6 n8 n9 n10 n11 n12 n13 n14 n15)))

pub ruleset for_judge_ii = (rules, need_ii_2, need_ii_3, need_ii_4, need_ii_6, need_ii_8, need_ii_9, need_ii_10, need_ii_11, need_ii_12, need_ii_13, need_ii_14, need_ii_15, need_ii_rest)

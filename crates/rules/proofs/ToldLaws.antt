-- What a line's marks tell of what is seen from it: the texts of its fields, and whether its event is relaxed.
-- Assumes nothing.
use mathlib.Core.Path.{◌≡◌, refl, sym, ap, ◌∙◌}
use mathlib.Core.Bool.{true, cond}
use mathlib.Core.List.{List}
use Prim.Native.Nat.{ℕ, ◌≤◌}
use native.Mathlib.Omega.{arith}
use Rattle.house.specs.Text.{Text, within}
use Rattle.lines_fields.specs.Lines.{line_of}
use Rattle.lines_fields.specs.Marks.{judged_in}
use Rattle.lines_fields.proofs.MarkLaws.{marked_judged}
use Rattle.lines.specs.Records.{Rec, II, IE, IN, IA}
use Rattle.rules_definitions.specs.Forms.{text, is_relaxed}
use Rattle.rules_definitions.specs.Contexts.{head_kind}
use Rattle.rules_definitions.specs.Seen.{Setting, Seen}
use Rattle.rules_definitions.specs.Codes.{allows_ended}
use Rattle.rules_definitions.specs.Rules.{broken_at}
use Rattle.rules_forms.proofs.FieldLaws.{text_is, relaxed_is}
use Rattle.rules_fields.specs.declared.Broken.{Broken}
use Rattle.rules.specs.declared.By.{By}
use Rattle.rules.specs.declared.Here.{Here}
use Rattle.rules.specs.Inside.{listed}
use Rattle.rules_fields.specs.Fields.{any_end}
use Rattle.rules.specs.Fields.{day_until, ii_day, AskedOn, Told, Judges, relaxed_in}
use lib.ListN.{drop}

module _ (file : Text) (marks : List ℕ) (h : Here) (book : Text) (by : By) where
  module _ (s : Setting) (v : Seen) (w : Told file marks h book by s v) where
    pub text_told : (f : ℕ) → f ≤ 28 → judged_in file marks f ≡ text v.line f
    text_told f l =
        ap (λ (m : List ℕ). judged_in file m f) w.marked
        ∙ marked_judged file h.at f w.inside l
        ∙ sym (text_is (line_of (drop h.at file)).text f)
        ∙ ap (λ (r : Rec). text r f) (sym w.line_is)

    pub relaxed_told : relaxed_in file marks ≡ is_relaxed v.line
    unfolding relaxed_in
    relaxed_told =
        rw (text_told 5 (omega arith), text_told 18 (omega arith), text_told 19 (omega arith), text_told 20 (omega arith)) (sym (relaxed_is v.line))

    pub kind_told : (k : ℕ) → h.kind ≡ k → v.line.kind ≡ k
    kind_told k e = sym w.kind_is ∙ e

    -- on what day its codes are asked about: of an II and its IE by II 5, of an IN and its IA with any end
    module _ (j : ℕ) (e : v.line.kind ≡ j) (n : within II IA j ≡ true) (u : ℕ) where
      asked : u ≡ cond (allows_ended v) any_end s.today → AskedOn (day_until h.day u) s v
      asked p = record { day_is = w.day_is (ap (within II IA) e ∙ n); until_is = p }

    pub ii_asked : v.line.kind ≡ II → AskedOn (ii_day h.day h.historical by.today) s v
    unfolding allows_ended head_kind
    ii_asked e = asked II e refl _ (rw (e, w.historical_is (rw e), w.looks.today_is))

    pub ie_asked : v.line.kind ≡ IE → AskedOn (ii_day h.day h.historical by.today) s v
    unfolding allows_ended head_kind
    ie_asked e = asked IE e refl _ (rw (e, w.historical_is (rw e), w.looks.today_is))

    pub in_asked : v.line.kind ≡ IN → AskedOn (day_until h.day any_end) s v
    unfolding allows_ended head_kind
    in_asked e = asked IN e refl _ (rw e)

    pub ia_asked : v.line.kind ≡ IA → AskedOn (day_until h.day any_end) s v
    unfolding allows_ended head_kind
    ia_asked e = asked IA e refl _ (rw e)

  -- by the text of the field itself
  module _ (f : ℕ) (b : Broken) (t : Text) (d : t ≡ judged_in file marks f) where
    pub judges_rest : f ≤ 28 → ((s : Setting) (v : Seen) → Told file marks h book by s v → t ≡ text v.line f → listed b ≡ broken_at s v f)
        → Judges file marks h book by f b
    judges_rest l g = record { are = λ s v w. g s v w (d ∙ text_told s v w f l) }

    pub judges_at : (n : ℕ) → n ≤ 28 → f ≡ n → ((s : Setting) (v : Seen) → Told file marks h book by s v → t ≡ text v.line n → listed b ≡ broken_at s v n)
        → Judges file marks h book by f b
    judges_at n l e g = record { are = λ s v w. rw e (g s v w (d ∙ ap (judged_in file marks) e ∙ text_told s v w n l)) }

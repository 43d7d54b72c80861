-- The lowest rule at a field by its text is the lowest by its line; and so are rules 3, 6, 7 and 8 after it.
-- Assumes nothing.
use mathlib.Core.Path.{◌≡◌, refl, sym, ap, ◌∙◌}
use mathlib.Core.Logic.{◌⊎◌, inl, inr}
use mathlib.Core.Bool.{Bool, true, false, not, cond, ◌&&◌}
use Prim.Native.Nat.{ℕ}
use native.Mathlib.Omega.{arith}
use borrow.Author.Tests.{le-ltb}
use lib.Dec.{eqb, ltb}
use Rattle.house.specs.Text.{Text, bytes, same, within, run, number, is_digit}
use Rattle.house.proofs.Small.{both}
use Rattle.dates.specs.Dates.{is_date}
use Rattle.lines.specs.Records.{Rec, IV, IP, II}
use Rattle.rules_definitions.specs.Forms.{text, count_form, is_number, is_relaxed, is_missing, is_misformed, is_sound}
use Rattle.rules_definitions.specs.Seen.{Setting, Seen}
use Rattle.rules_definitions.specs.Rules.{after_today, before_birth, broken_at}
use Rattle.rules_forms.specs.TextLeaves.{value_of}
use Rattle.rules_forms.specs.FieldLeaves.{lowest, lowest_in}
use Rattle.rules_forms.proofs.TextLaws.{value_run}
use Rattle.rules_forms.proofs.FieldLaws.{lowest_of, lowest_either}
use Rattle.rules_forms.proofs.SoundLaws.{ip_25 as ip-25-sound}
use Rattle.rules_plain.specs.PlainFields.{rule7_by, rule6_by, rule8_today_by, born_of, rule8_by, rule3_by}
use Rattle.rules_plain.proofs.PlainLaws.{rule6_uli_later}
use Rattle.rules_fields.specs.Fields.{broken}
use Rattle.rules.specs.Inside.{listed}
use Rattle.rules.proofs.AtLaws.{PlainAt, NumberAt, UliAt, DateAt, version_at, at_ip_25}

-- no relaxed event counts at the field, or this is whether the event is one
abbrev pub Loose : ℕ → ℕ → Bool → Rec → Type 0
Loose k f x l = (eqb k II && within 9 15 f ≡ false) ⊎ (x ≡ is_relaxed l)

pub low : (k f : ℕ) (x : Bool) (l : Rec) (t : Text) → t ≡ text l f → Loose k f x l → (n : ℕ) → lowest_in k x f t n ≡ lowest k l f n
low k f x l t d (inl h) n = lowest_either k f t n x (is_relaxed l) h ∙ lowest_of k l t f n (is_relaxed l) d refl
low k f x l t d (inr h) n = lowest_of k l t f n x d h

-- a later rule's number counts only at a sound field
pub low_same : (k : ℕ) (l : Rec) (f m n : ℕ) → (is_sound k l f ≡ true → m ≡ n) → lowest k l f m ≡ lowest k l f n
unfolding lowest is_sound
low_same k l f m n h = go (is_missing k l f) (is_misformed k l f) h
  where
    go : (a b : Bool) → (not a && not b ≡ true → m ≡ n) → cond a 1 (cond b 2 m) ≡ cond a 1 (cond b 2 n)
    go true b h = refl
    go false true h = refl
    go false false h = h refl

flip : (b : Bool) (n : ℕ) → cond b 0 n ≡ cond (not b) n 0
flip true n = refl
flip false n = refl

-- at most five digits are read whole
value_is : (t : Text) → is_number t ≡ true → value_of t ≡ number t
unfolding is_number count_form
value_is t h = value_run t 1 5 (omega arith) (omega arith) (both (run 1 5 is_digit t) (ltb 0 (number t)) h).0

-- a day lies before the day of birth exactly if IP 25 is sound and after it
born_before : (n : ℕ) (ip : Rec) → ltb n (born_of ip) ≡ is_sound IP ip 25 && ltb n (number (text ip 25))
unfolding born_of
born_before n ip = go (is_sound IP ip 25)
  where
    go : (t : Bool) → ltb n (cond t (number (text ip 25)) 0) ≡ t && ltb n (number (text ip 25))
    go true = refl
    go false = le-ltb n 0 (omega arith)

-- one number at a field
pub one_broken : (s : Setting) (v : Seen) (f m n : ℕ) → m ≡ n → broken_at s v f ≡ listed (broken n 0 0) → listed (broken m 0 0) ≡ broken_at s v f
one_broken s v f m n e h = rw e (sym h)

module _ (s : Setting) (v : Seen) (t : Text) where
  abbrev L : Rec
  L = v.line

  -- rules 1 and 2 alone
  pub rules1_and_2_broken : (k f : ℕ) (x : Bool) → t ≡ text v.line f → Loose k f x v.line → PlainAt s v k f → listed (broken (lowest_in k x f t 0) 0 0) ≡ broken_at s v f
  rules1_and_2_broken k f x d w h = one_broken s v f _ _ (low k f x L t d w 0) h

  -- rule 7
  pub rule7_number_broken : (k place : ℕ) → t ≡ text v.line 2 → is_sound k v.line 2 ≡ is_number (text v.line 2) → v.place ≡ place → eqb k II && within 9 15 2 ≡ false
      → NumberAt s v k → listed (broken (lowest_in k false 2 t (rule7_by (value_of t) place)) 0 0) ≡ broken_at s v 2
  unfolding rule7_by
  rule7_number_broken k place d n p w h =
      one_broken s v 2 _ _
      (low k 2 false L t d (inl w) (rule7_by (value_of t) place)
      ∙ low_same k L 2 _ _ (λ z. rw (d, value_is (text L 2) (sym n ∙ z), p) (flip (eqb (number (text L 2)) place) 7))) h

  -- rule 6
  pub rule6_uli_broken : (k : ℕ) (uli : Text) → t ≡ text v.line 3 → text v.ip 3 ≡ uli → eqb k II && within 9 15 3 ≡ false
      → UliAt s v k → listed (broken (lowest_in k false 3 t (rule6_by t uli)) 0 0) ≡ broken_at s v 3
  rule6_uli_broken k uli d u w h =
      one_broken s v 3 _ _
      (low k 3 false L t d (inl w) (rule6_by t uli) ∙ ap (lowest k L 3) (rw (d, ← u) (rule6_uli_later L v.ip))) h

  -- rule 8
  pub rule8_date_broken : (k f today born : ℕ) → t ≡ text v.line f → is_sound k v.line f ≡ is_date (text v.line f) → s.today ≡ today → born_of v.ip ≡ born → eqb k II && within 9 15 f ≡ false
      → DateAt s v k f → listed (broken (lowest_in k false f t (rule8_by t today born)) 0 0) ≡ broken_at s v f
  unfolding rule8_by after_today before_birth
  rule8_date_broken k f today born d n a b w h =
      one_broken s v f _ _
      (low k f false L t d (inl w) (rule8_by t today born)
      ∙ low_same k L f _ _ (λ z. rw (d, sym n ∙ z, ← a, ← b, born_before (number (text L f)) v.ip))) h

  pub rule8_birth_broken : (today : ℕ) → t ≡ text v.line 25 → s.today ≡ today → v.line.kind ≡ IP
      → listed (broken (lowest_in IP false 25 t (rule8_today_by t today)) 0 0) ≡ broken_at s v 25
  unfolding rule8_today_by after_today
  rule8_birth_broken today d a k =
      one_broken s v 25 _ _
      (low IP 25 false L t d (inl refl) (rule8_today_by t today)
      ∙ low_same IP L 25 _ _ (λ z. rw (d, sym (ip-25-sound L) ∙ z, ← a))) (at_ip_25 s v k)

  -- rule 3
  pub rule3_version_broken : t ≡ text v.line 2 → v.line.kind ≡ IV → listed (broken (lowest_in IV false 2 t (rule3_by t)) 0 0) ≡ broken_at s v 2
  unfolding rule3_by
  rule3_version_broken d k =
      one_broken s v 2 _ _
      (low IV 2 false L t d (inl refl) (rule3_by t) ∙ ap (lowest IV L 2) (rw d (flip (same (text L 2) (bytes "7.2")) 3))) (version_at s v k)

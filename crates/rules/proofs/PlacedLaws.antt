-- Where the rules are placed: which of them stand at a field of a kind, each list computed; and that none stands at the other fields.
-- Assumes nothing.
use mathlib.Core.Path.{◌≡◌, refl, sym, ap, ◌∙◌, subst}
use mathlib.Core.Bool.{Bool, true, false, not, cond, ◌&&◌, ◌||◌}
use mathlib.Core.List.{List, [], ◌∷◌, map}
use Prim.Native.Nat.{ℕ, ◌<◌}
use native.Mathlib.Omega.{arith}
use borrow.Author.Tests.{eqb-true, eq-eqb, ne_eqb}
use lib.Dec.{T, eqb, leb, leb→le}
use lib.ListN.{drop}
use Rattle.house.specs.Text.{Text, any, all, those}
use Rattle.house.proofs.Facts.{both, is_true}
use Rattle.house.proofs.Small.{clash}
use Rattle.lines.specs.Records.{Rec, IV, IP, II, IE, IN, IA}
use Rattle.rules_definitions.specs.Forms.{text, Row, table, form_in, form_of, judged_in, is_judged, is_missing, is_misformed}
use Rattle.rules_definitions.specs.Seen.{Setting, Seen}
use Rattle.rules_definitions.specs.Rules.{Place, at, Numbered, numbered, form_places, rule1, rule2, rule3_places, rule3, rule4_places, rule4, rule5_places, rule5, rule6_places, rule6, rule7_places, rule7, rule8_places, rule8, rule9_places, rule9, rule10_places, rule10, rule11_places, rule11, rule12_places, rule12, rule13_places, rule13, rule14_places, rule14, rule15_places, rule15, ledger_places, rule16, rule17, rule18, rules, rules_in, rules_of, is_placed, rules_at, broken_by, broken_at}
use Rattle.rules_forms.specs.FieldLeaves.{lowest}
use Rattle.rules.specs.Fields.{is_later, later_at}

-- THE RULES AT A FIELD

-- rules 1 and 2, and these
abbrev pub forms : List Numbered → List Numbered
forms xs = numbered 1 form_places rule1 ∷ numbered 2 form_places rule2 ∷ xs

abbrev pub number_rules : List Numbered
number_rules = numbered 7 rule7_places rule7 ∷ []

abbrev pub uli_rules : List Numbered
uli_rules = numbered 6 rule6_places rule6 ∷ []

abbrev pub date_rules : List Numbered
date_rules = numbered 8 rule8_places rule8 ∷ []

abbrev pub code_rules : List Numbered → List Numbered
code_rules xs = numbered 4 rule4_places rule4 ∷ numbered 5 rule5_places rule5 ∷ xs

module _ (s : Setting) where
  pub rules_iv_2 : rules_at s IV 2 ≡ forms (numbered 3 rule3_places rule3 ∷ [])
  unfolding rules_at rules_of rules_in rules table
  rules_iv_2 = refl

  pub rules_ip_2 : rules_at s IP 2 ≡ forms number_rules
  unfolding rules_at rules_of rules_in rules table
  rules_ip_2 = refl

  pub rules_ip_25 : rules_at s IP 25 ≡ forms date_rules
  unfolding rules_at rules_of rules_in rules table
  rules_ip_25 = refl

  pub rules_ii_2 : rules_at s II 2 ≡ forms number_rules
  unfolding rules_at rules_of rules_in rules table
  rules_ii_2 = refl

  pub rules_ii_3 : rules_at s II 3 ≡ forms uli_rules
  unfolding rules_at rules_of rules_in rules table
  rules_ii_3 = refl

  pub rules_ii_4 : rules_at s II 4 ≡ forms (numbered 16 ledger_places rule16 ∷ numbered 17 ledger_places rule17 ∷ numbered 18 ledger_places rule18 ∷ [])
  unfolding rules_at rules_of rules_in rules table
  rules_ii_4 = refl

  pub rules_ii_6 : rules_at s II 6 ≡ forms date_rules
  unfolding rules_at rules_of rules_in rules table
  rules_ii_6 = refl

  pub rules_ii_8 : rules_at s II 8 ≡ forms (code_rules (numbered 13 rule13_places rule13 ∷ numbered 15 rule15_places rule15 ∷ []))
  unfolding rules_at rules_of rules_in rules table
  rules_ii_8 = refl

  pub rules_ii_9 : rules_at s II 9 ≡ forms (numbered 4 rule4_places rule4 ∷ numbered 9 rule9_places rule9 ∷ numbered 10 rule10_places rule10 ∷ [])
  unfolding rules_at rules_of rules_in rules table
  rules_ii_9 = refl

  pub rules_ii_10 : rules_at s II 10 ≡ forms (numbered 4 rule4_places rule4 ∷ numbered 9 rule9_places rule9 ∷ numbered 10 rule10_places rule10 ∷ [])
  unfolding rules_at rules_of rules_in rules table
  rules_ii_10 = refl

  pub rules_ii_11 : rules_at s II 11 ≡ forms (code_rules (numbered 11 rule11_places rule11 ∷ []))
  unfolding rules_at rules_of rules_in rules table
  rules_ii_11 = refl

  pub rules_ii_12 : rules_at s II 12 ≡ forms (numbered 10 rule10_places rule10 ∷ [])
  unfolding rules_at rules_of rules_in rules table
  rules_ii_12 = refl

  pub rules_ii_13 : rules_at s II 13 ≡ forms (code_rules (numbered 10 rule10_places rule10 ∷ []))
  unfolding rules_at rules_of rules_in rules table
  rules_ii_13 = refl

  pub rules_ii_14 : rules_at s II 14 ≡ forms (code_rules [])
  unfolding rules_at rules_of rules_in rules table
  rules_ii_14 = refl

  pub rules_ii_15 : rules_at s II 15 ≡ forms (numbered 14 rule14_places rule14 ∷ [])
  unfolding rules_at rules_of rules_in rules table
  rules_ii_15 = refl

  pub rules_ie_2 : rules_at s IE 2 ≡ forms number_rules
  unfolding rules_at rules_of rules_in rules table
  rules_ie_2 = refl

  pub rules_ie_3 : rules_at s IE 3 ≡ forms uli_rules
  unfolding rules_at rules_of rules_in rules table
  rules_ie_3 = refl

  pub rules_ie_4 : rules_at s IE 4 ≡ forms (code_rules (numbered 11 rule11_places rule11 ∷ numbered 12 rule12_places rule12 ∷ []))
  unfolding rules_at rules_of rules_in rules table
  rules_ie_4 = refl

  pub rules_in_2 : rules_at s IN 2 ≡ forms number_rules
  unfolding rules_at rules_of rules_in rules table
  rules_in_2 = refl

  pub rules_in_3 : rules_at s IN 3 ≡ forms uli_rules
  unfolding rules_at rules_of rules_in rules table
  rules_in_3 = refl

  pub rules_in_5 : rules_at s IN 5 ≡ forms date_rules
  unfolding rules_at rules_of rules_in rules table
  rules_in_5 = refl

  pub rules_in_6 : rules_at s IN 6 ≡ forms (code_rules [])
  unfolding rules_at rules_of rules_in rules table
  rules_in_6 = refl

  pub rules_ia_2 : rules_at s IA 2 ≡ forms number_rules
  unfolding rules_at rules_of rules_in rules table
  rules_ia_2 = refl

  pub rules_ia_3 : rules_at s IA 3 ≡ forms uli_rules
  unfolding rules_at rules_of rules_in rules table
  rules_ia_3 = refl

  pub rules_ia_4 : rules_at s IA 4 ≡ forms (code_rules [])
  unfolding rules_at rules_of rules_in rules table
  rules_ia_4 = refl

-- WHERE NO RULE IS PLACED

-- every place of the rules passes a test
abbrev pub places_pass : (Place → Bool) → List Numbered → Bool
places_pass q xs = all (λ (x : Numbered). all q x.places) xs

module _ (q : Place → Bool) (k f : ℕ) (h : q (at k f) ≡ false) where
  unplaced : (ps : List Place) → T (all q ps) → any (λ (p : Place). eqb k p.kind && eqb f p.field) ps ≡ false
  unplaced [] t = refl
  unplaced (p ∷ ps) t =
      let u = both (q p) (all q ps) t in
      go (eqb k p.kind) (eqb f p.field) refl refl u.0 (unplaced ps u.1)
    where
      go : (a b : Bool) → eqb k p.kind ≡ a → eqb f p.field ≡ b → T (q p) → any (λ (p : Place). eqb k p.kind && eqb f p.field) ps ≡ false
          → (a && b) || any (λ (p : Place). eqb k p.kind && eqb f p.field) ps ≡ false
      go true true e g t z =
          absurd
          (subst T h
          (subst (λ (m : ℕ). T (q (at k m))) (sym (eqb-true f p.field g)) (subst (λ (m : ℕ). T (q (at m p.field))) (sym (eqb-true k p.kind e)) t)))
      go true false e g t z = z
      go false b e g t z = z

  -- a place that does not pass has none of them
  pub none_placed : (xs : List Numbered) → T (places_pass q xs) → those (is_placed k f) xs ≡ []
  none_placed [] t = refl
  none_placed (x ∷ xs) t =
      let u = both (all q x.places) (places_pass q xs) t in
      rw (unplaced x.places u.0, none_placed xs u.1)

-- a place of kind k is at one of these fields
abbrev pub lies_in : ℕ → List ℕ → Place → Bool
lies_in k fs p = not (eqb p.kind k) || any (eqb p.field) fs

lies_not : (k f : ℕ) (fs : List ℕ) → any (eqb f) fs ≡ false → lies_in k fs (at k f) ≡ false
lies_not k f fs h = rw (eq-eqb k k refl, h)

-- a field after all of these is none of them
pub past : (n f : ℕ) (fs : List ℕ) → T (all (λ (m : ℕ). leb m n) fs) → n < f → any (eqb f) fs ≡ false
past n f [] t h = refl
past n f (m ∷ fs) t h =
    let u = both (leb m n) (all (λ (m : ℕ). leb m n) fs) t in
    let l = leb→le m n u.0 in
    rw (ne_eqb f m (λ e. omega arith), past n f fs u.1 h)

module _ (s : Setting) (v : Seen) where
  -- if every rule's places pass a test, a field that does not pass it has no finding
  pub no_place_lem : (q : Place → Bool) (k f : ℕ) → v.line.kind ≡ k → T (places_pass q (rules_of s)) → q (at k f) ≡ false → broken_at s v f ≡ []
  unfolding broken_at rules_at
  no_place_lem q k f e t h =
      ap (λ (n : ℕ). broken_by s v f (those (is_placed n f) (rules_of s))) e ∙ ap (broken_by s v f) (none_placed q k f h (rules_of s) t)

  -- if every place at kind k is at one of these fields, another field of it has no finding
  pub no_rule : (k f : ℕ) (fs : List ℕ) → v.line.kind ≡ k → T (places_pass (lies_in k fs) (rules_of s)) → any (eqb f) fs ≡ false → broken_at s v f ≡ []
  no_rule k f fs e t h = no_place_lem (lies_in k fs) k f e t (lies_not k f fs h)

-- RULES 1 AND 2

-- they are placed at each field that is judged
pub rows_placed : (k f : ℕ) (rs : List Row) → any (λ (p : Place). eqb k p.kind && eqb f p.field) (map (λ (r : Row). at r.kind r.field) rs) ≡ judged_in rs k f
rows_placed k f [] = refl
rows_placed k f (r ∷ rs) = ap (λ (b : Bool). (eqb k r.kind && eqb f r.field) || b) (rows_placed k f rs)

rows_form : (k f : ℕ) (t : Text) (rs : List Row) → judged_in rs k f ≡ false → form_in rs k f t ≡ true
rows_form k f t [] h = refl
rows_form k f t (r ∷ rs) h = go (eqb k r.kind && eqb f r.field) h (rows_form k f t rs)
  where
    go : (b : Bool) → b || judged_in rs k f ≡ false → (judged_in rs k f ≡ false → form_in rs k f t ≡ true) → cond b (r.form t) (form_in rs k f t) ≡ true
    go true h rec = clash (cc)
    go false h rec = rec h

-- and find nothing where they are not
pub not_judged : (k : ℕ) (l : Rec) (f : ℕ) → judged_in table k f ≡ false → lowest k l f 0 ≡ 0
unfolding lowest is_missing is_misformed is_judged form_of
not_judged k l f h = rw (h, rows_form k f (text l f) table h)

-- THE LATER RULES

pub those_later : (p : Numbered → Bool) (xs : List Numbered) → T (all is_later xs) → those is_later (those p xs) ≡ those p xs
those_later p [] t = refl
those_later p (x ∷ xs) t = let u = both (is_later x) (all is_later xs) t in go (is_true (is_later x) u.0) (those_later p xs u.1) (p x)
  where
    go : is_later x ≡ true → those is_later (those p xs) ≡ those p xs → (b : Bool) → those is_later (cond b (x ∷ those p xs) (those p xs)) ≡ cond b (x ∷ those p xs) (those p xs)
    go e h true = rw (e, h)
    go e h false = h

drop_two : (p : Numbered → Bool) (xs : List Numbered) → T (all is_later xs) → those is_later (those p (forms xs)) ≡ those p xs
drop_two p xs t = go (p (numbered 1 form_places rule1)) (p (numbered 2 form_places rule2)) (those_later p xs t)
  where
    go : (a b : Bool) → those is_later (those p xs) ≡ those p xs
        → those is_later (cond a (numbered 1 form_places rule1 ∷ cond b (numbered 2 form_places rule2 ∷ those p xs) (those p xs)) (cond b (numbered 2 form_places rule2 ∷ those p xs) (those p xs))) ≡ those p xs
    go true true h = h
    go true false h = h
    go false true h = h
    go false false h = h

module _ (s : Setting) (v : Seen) (f : ℕ) where
  -- the later rules at a field
  pub later_at_lem : (k : ℕ) (xs : List Numbered) → v.line.kind ≡ k → rules_at s k f ≡ forms xs → later_at s v f ≡ broken_by s v f (those is_later xs)
  unfolding later_at
  later_at_lem k xs e h =
      ap (λ (n : ℕ). broken_by s v f (those is_later (rules_at s n f))) e ∙ ap (λ (ys : List Numbered). broken_by s v f (those is_later ys)) h

  -- none of them
  pub later_none : (q : Place → Bool) (k : ℕ) → v.line.kind ≡ k → T (places_pass q (drop 2 (rules_of s))) → q (at k f) ≡ false → later_at s v f ≡ []
  unfolding later_at rules_at rules_of rules_in rules
  later_none q k e t h =
      ap (λ (n : ℕ). broken_by s v f (those is_later (those (is_placed n f) rules))) e
      ∙ ap (broken_by s v f) (drop_two (is_placed k f) (drop 2 rules) tt ∙ none_placed q k f h (drop 2 rules) t)

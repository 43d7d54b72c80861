-- Rules 1 and 2 at a field, which are never both broken; and what the later rules that are placed at it come to.
-- Assumes nothing.
use mathlib.Core.Path.{◌≡◌, refl, sym, ap, ◌∙◌}
use mathlib.Core.Bool.{Bool, true, false, not, cond, ◌&&◌, ◌||◌}
use mathlib.Core.List.{List, [], ◌∷◌, ◌++◌}
use Prim.Native.Nat.{ℕ}
use borrow.Author.Tests.{ne_eqb}
use lib.Dec.{T, eqb}
use lib.ListN.{drop}
use Rattle.house.specs.Text.{bytes, same, any, all, those, number, is_empty}
use Rattle.house.proofs.Small.{clash}
use Rattle.lines.specs.Records.{Rec, IV, IP, II, IE, IN, IA}
use Rattle.rules_definitions.specs.Forms.{text, table, form_of, is_judged, is_optional, is_missing, is_misformed, is_sound, is_given}
use Rattle.rules_definitions.specs.Seen.{Setting, Seen}
use Rattle.rules_definitions.specs.Blocks.{adds, changes, deletes}
use Rattle.rules_definitions.specs.Codes.{is_site, is_method, book_kind, code_in, is_known, day_is_sound, is_in_force}
use Rattle.rules_definitions.specs.Rules.{Place, form_places, Numbered, numbered, rule1, rule2, rule3, rule4, rule5, rule6, rule7, rule8, rule9, rule10, rule11, rule12, rule13, rule14, rule15, rule16, rule17, rule18, asks, after_today, before_birth, same_lot, rules, rules_in, rules_of, is_placed, rules_at, broken_by, broken_at}
use Rattle.rules.specs.Inside.{some}
use Rattle.rules_forms.specs.FieldLeaves.{lowest}
use Rattle.rules_fields.specs.Fields.{rules4and5_of}
use Rattle.rules.specs.Fields.{is_later, later_at}
use Rattle.rules.proofs.PlacedLaws.{forms, lies_in, rows_placed, not_judged, those_later, later_at_lem, later_none, rules_iv_2, rules_ip_2, rules_ip_25, rules_ii_2, rules_ii_3, rules_ii_4, rules_ii_6, rules_ii_8, rules_ii_9, rules_ii_10, rules_ii_11, rules_ii_12, rules_ii_13, rules_ii_14, rules_ii_15, rules_ie_2, rules_ie_3, rules_ie_4, rules_in_2, rules_in_3, rules_in_5, rules_in_6, rules_ia_2, rules_ia_3, rules_ia_4}

abbrev pub when : Bool → ℕ → List ℕ
when p n = cond p (n ∷ []) []

pub one_rule : (n : ℕ) → eqb n 0 ≡ false → (p : Bool) → when p n ≡ some (cond p n 0)
one_rule n h true = simp h
one_rule n h false = refl

-- RULES 1 AND 2

-- never both
missing_empty : (k : ℕ) (l : Rec) (f : ℕ) → is_missing k l f ≡ true → is_misformed k l f ≡ false
unfolding is_missing is_misformed
missing_empty k l f = go (is_judged k f) (is_optional k l f) (form_of k f (text l f)) (is_empty (text l f))
  where
    go : (j o ok e : Bool) → (j && not o && e) ≡ true → (not ok && not e) ≡ false
    go j o true e h = refl
    go j o false true h = refl
    go true true false false h = clash (cc)
    go true false false false h = clash (cc)
    go false o false false h = clash (cc)

split : (m n : Bool) (rest : List ℕ) → (m ≡ true → n ≡ false) → when m 1 ++ (when n 2 ++ rest) ≡ some (cond m 1 (cond n 2 0)) ++ rest
split true n rest h = rw (h refl)
split false true rest h = refl
split false false rest h = refl

module _ (s : Setting) (v : Seen) (f : ℕ) where
  abbrev Here : Numbered → Bool
  Here = is_placed v.line.kind f

  first_two : (xs : List Numbered) → T (all is_later xs)
      → broken_by s v f (those Here (forms xs)) ≡ some (lowest v.line.kind v.line f 0) ++ broken_by s v f (those is_later (those Here (forms xs)))
  unfolding rule1 rule2 lowest
  first_two xs t = go (Here (numbered 1 form_places rule1)) refl (those_later Here xs t)
    where
      go : (b : Bool) → Here (numbered 1 form_places rule1) ≡ b → those is_later (those Here xs) ≡ those Here xs
          → broken_by s v f (cond b (numbered 1 form_places rule1 ∷ cond b (numbered 2 form_places rule2 ∷ those Here xs) (those Here xs)) (cond b (numbered 2 form_places rule2 ∷ those Here xs) (those Here xs)))
          ≡ some (lowest v.line.kind v.line f 0)
          ++ broken_by s v f (those is_later (cond b (numbered 1 form_places rule1 ∷ cond b (numbered 2 form_places rule2 ∷ those Here xs) (those Here xs)) (cond b (numbered 2 form_places rule2 ∷ those Here xs) (those Here xs))))
      go true e h =
          ap (λ (ys : List Numbered). broken_by s v f (forms ys)) (sym h)
          ∙ split (is_missing v.line.kind v.line f) (is_misformed v.line.kind v.line f) (broken_by s v f (those is_later (those Here xs))) (missing_empty v.line.kind v.line f)
      go false e h =
          ap (broken_by s v f) (sym h)
          ∙ ap (λ (n : ℕ). some n ++ broken_by s v f (those is_later (those Here xs))) (sym (not_judged v.line.kind v.line f (sym (rows_placed v.line.kind f table) ∙ e)))

  pub broken_split : broken_at s v f ≡ some (lowest v.line.kind v.line f 0) ++ later_at s v f
  unfolding broken_at later_at rules_at rules_of rules_in rules
  broken_split = first_two (drop 2 rules) tt

-- a later rule that asks for a sound field takes the place of none
module _ (k : ℕ) (l : Rec) (f : ℕ) (rest : List ℕ) where
  pub sound_later : (p : Bool) (n : ℕ) → eqb n 0 ≡ false
      → some (lowest k l f 0) ++ (when (is_sound k l f && p) n ++ rest) ≡ some (lowest k l f (cond p n 0)) ++ rest
  unfolding lowest is_sound
  sound_later p n h = go (is_missing k l f) (is_misformed k l f) p
    where
      go : (m w p : Bool) → some (cond m 1 (cond w 2 0)) ++ (when (not m && not w && p) n ++ rest) ≡ some (cond m 1 (cond w 2 (cond p n 0))) ++ rest
      go true w p = refl
      go false true p = refl
      go false false true = rw h
      go false false false = refl

  -- rules 4 and 5, of a code that is known or not, out of force or not
  pub rules4_and_5_later : (known out : Bool)
      → some (lowest k l f 0) ++ (when (is_given k l f && not (is_given k l f && known)) 4 ++ (when (is_given k l f && known && out) 5 ++ rest))
      ≡ some (lowest k l f (rules4and5_of (is_empty (text l f)) known out)) ++ rest
  unfolding lowest is_given is_sound rules4and5_of
  rules4_and_5_later known out = go (is_missing k l f) (is_misformed k l f) (is_empty (text l f)) known out
    where
      go : (m w e known out : Bool)
          → some (cond m 1 (cond w 2 0)) ++ (when (not m && not w && not e && not (not m && not w && not e && known)) 4 ++ (when (not m && not w && not e && known && out) 5 ++ rest))
          ≡ some (cond m 1 (cond w 2 (cond e 0 (cond known (cond out 5 0) 4)))) ++ rest
      go true w e known out = refl
      go false true e known out = refl
      go false false true known out = refl
      go false false false true true = refl
      go false false false true false = refl
      go false false false false out = refl

  -- rule 4 alone, of a site or a method
  pub rule4_site_later : (known : Bool)
      → some (lowest k l f 0) ++ (when (is_given k l f && not (is_given k l f && known)) 4 ++ rest) ≡ some (lowest k l f (rules4and5_of (is_empty (text l f)) known false)) ++ rest
  unfolding lowest is_given is_sound rules4and5_of
  rule4_site_later known = go (is_missing k l f) (is_misformed k l f) (is_empty (text l f)) known
    where
      go : (m w e known : Bool)
          → some (cond m 1 (cond w 2 0)) ++ (when (not m && not w && not e && not (not m && not w && not e && known)) 4 ++ rest)
          ≡ some (cond m 1 (cond w 2 (cond e 0 (cond known 0 4)))) ++ rest
      go true w e known = refl
      go false true e known = refl
      go false false true known = refl
      go false false false true = refl
      go false false false false = refl

-- THE LATER RULES, BY KIND AND FIELD

-- a rule that asks for a sound field
abbrev pub sounds : Rec → ℕ → ℕ → Bool → ℕ → List ℕ
sounds l k f p n = when (is_sound k l f && p) n ++ []

-- rules 4 and 5 of a code that is known or not, out of force or not; rule 4 of a site or a method
abbrev pub codes : Rec → ℕ → ℕ → Bool → Bool → List ℕ → List ℕ
codes l k f known out rest = when (is_given k l f && not (is_given k l f && known)) 4 ++ (when (is_given k l f && known && out) 5 ++ rest)

abbrev pub sites : Rec → ℕ → Bool → List ℕ → List ℕ
sites l f known rest = when (is_given II l f && not (is_given II l f && known)) 4 ++ rest

-- rules 16 to 18, by the type
abbrev pub ledgers : Bool → Bool → Bool → Bool → Bool → List ℕ
ledgers inb a c d live = when (inb && a && live) 16 ++ (when (inb && c && not live) 17 ++ (when (inb && d && not live) 18 ++ []))

module _ (s : Setting) (v : Seen) where
  abbrev L : Rec
  L = v.line

  pub rule3_iv2 : v.line.kind ≡ IV → later_at s v 2 ≡ when (is_given IV L 2 && not (same (text L 2) (bytes "7.2"))) 3 ++ []
  unfolding rule3
  rule3_iv2 k = later_at_lem s v 2 IV _ k (rules_iv_2 s) ∙ rw k

  pub ip_2 : v.line.kind ≡ IP → later_at s v 2 ≡ sounds L IP 2 (not (eqb (number (text L 2)) v.place)) 7
  unfolding rule7
  ip_2 k = later_at_lem s v 2 IP _ k (rules_ip_2 s) ∙ rw k

  pub ip_25 : v.line.kind ≡ IP → later_at s v 25 ≡ sounds L IP 25 (after_today s v 25 || false) 8
  unfolding rule8
  ip_25 k = later_at_lem s v 25 IP _ k (rules_ip_25 s) ∙ rw k

  pub ii_2 : v.line.kind ≡ II → later_at s v 2 ≡ sounds L II 2 (not (eqb (number (text L 2)) v.place)) 7
  unfolding rule7
  ii_2 k = later_at_lem s v 2 II _ k (rules_ii_2 s) ∙ rw k

  pub ii_3 : v.line.kind ≡ II → later_at s v 3 ≡ sounds L II 3 (is_sound IP v.ip 3 && not (same (text L 3) (text v.ip 3))) 6
  unfolding rule6
  ii_3 k = later_at_lem s v 3 II _ k (rules_ii_3 s) ∙ rw k

  pub ii_4 : v.line.kind ≡ II → later_at s v 4 ≡ ledgers v.in_block (same (text L 4) adds) (same (text L 4) changes) (same (text L 4) deletes) v.live
  unfolding rule16 rule17 rule18 asks
  ii_4 k = later_at_lem s v 4 II _ k (rules_ii_4 s) ∙ rw k

  pub ii_6 : v.line.kind ≡ II → later_at s v 6 ≡ sounds L II 6 (after_today s v 6 || before_birth v 6) 8
  unfolding rule8
  ii_6 k = later_at_lem s v 6 II _ k (rules_ii_6 s) ∙ rw k

  pub ii_8 : v.line.kind ≡ II → later_at s v 8 ≡ codes L II 8 (s.known 1 (code_in II L 8)) (day_is_sound v && not (is_in_force s v 1 (code_in II L 8))) (when (rule13 s v 8) 13 ++ (when (rule15 s v 8) 15 ++ []))
  unfolding rule4 rule5 is_known book_kind
  ii_8 k = later_at_lem s v 8 II _ k (rules_ii_8 s) ∙ rw k

  pub ii_9 : v.line.kind ≡ II → later_at s v 9 ≡ sites L 9 (is_site (text L 9)) (when (rule9 s v 9) 9 ++ (when (rule10 s v 9) 10 ++ []))
  unfolding rule4 is_known
  ii_9 k = later_at_lem s v 9 II _ k (rules_ii_9 s) ∙ rw k

  pub ii_10 : v.line.kind ≡ II → later_at s v 10 ≡ sites L 10 (is_method (text L 10)) (when (rule9 s v 10) 9 ++ (when (rule10 s v 10) 10 ++ []))
  unfolding rule4 is_known
  ii_10 k = later_at_lem s v 10 II _ k (rules_ii_10 s) ∙ rw k

  pub ii_11 : v.line.kind ≡ II → later_at s v 11 ≡ codes L II 11 (s.known 3 (code_in II L 11)) (day_is_sound v && not (is_in_force s v 3 (code_in II L 11))) (when (rule11 s v 11) 11 ++ [])
  unfolding rule4 rule5 is_known book_kind
  ii_11 k = later_at_lem s v 11 II _ k (rules_ii_11 s) ∙ rw k

  pub ii_12 : v.line.kind ≡ II → later_at s v 12 ≡ when (rule10 s v 12) 10 ++ []
  ii_12 k = later_at_lem s v 12 II _ k (rules_ii_12 s)

  pub ii_13 : v.line.kind ≡ II → later_at s v 13 ≡ codes L II 13 (s.known 5 (code_in II L 13)) (day_is_sound v && not (is_in_force s v 5 (code_in II L 13))) (when (rule10 s v 13) 10 ++ [])
  unfolding rule4 rule5 is_known book_kind
  ii_13 k = later_at_lem s v 13 II _ k (rules_ii_13 s) ∙ rw k

  pub ii_14 : v.line.kind ≡ II → later_at s v 14 ≡ codes L II 14 (s.known 4 (code_in II L 14)) (day_is_sound v && not (is_in_force s v 4 (code_in II L 14))) ([])
  unfolding rule4 rule5 is_known book_kind
  ii_14 k = later_at_lem s v 14 II _ k (rules_ii_14 s) ∙ rw k

  pub ii_15 : v.line.kind ≡ II → later_at s v 15 ≡ sounds L II 15 (any (same_lot L) v.block) 14
  unfolding rule14
  ii_15 k = later_at_lem s v 15 II _ k (rules_ii_15 s) ∙ rw k

  pub ie_2 : v.line.kind ≡ IE → later_at s v 2 ≡ sounds L IE 2 (not (eqb (number (text L 2)) v.place)) 7
  unfolding rule7
  ie_2 k = later_at_lem s v 2 IE _ k (rules_ie_2 s) ∙ rw k

  pub ie_3 : v.line.kind ≡ IE → later_at s v 3 ≡ sounds L IE 3 (is_sound IP v.ip 3 && not (same (text L 3) (text v.ip 3))) 6
  unfolding rule6
  ie_3 k = later_at_lem s v 3 IE _ k (rules_ie_3 s) ∙ rw k

  pub ie_4 : v.line.kind ≡ IE → later_at s v 4 ≡ codes L IE 4 (s.known 2 (code_in IE L 4)) (day_is_sound v && not (is_in_force s v 2 (code_in IE L 4))) (when (rule11 s v 4) 11 ++ (when (rule12 s v 4) 12 ++ []))
  unfolding rule4 rule5 is_known book_kind
  ie_4 k = later_at_lem s v 4 IE _ k (rules_ie_4 s) ∙ rw k

  pub in_2 : v.line.kind ≡ IN → later_at s v 2 ≡ sounds L IN 2 (not (eqb (number (text L 2)) v.place)) 7
  unfolding rule7
  in_2 k = later_at_lem s v 2 IN _ k (rules_in_2 s) ∙ rw k

  pub in_3 : v.line.kind ≡ IN → later_at s v 3 ≡ sounds L IN 3 (is_sound IP v.ip 3 && not (same (text L 3) (text v.ip 3))) 6
  unfolding rule6
  in_3 k = later_at_lem s v 3 IN _ k (rules_in_3 s) ∙ rw k

  pub in_5 : v.line.kind ≡ IN → later_at s v 5 ≡ sounds L IN 5 (after_today s v 5 || before_birth v 5) 8
  unfolding rule8
  in_5 k = later_at_lem s v 5 IN _ k (rules_in_5 s) ∙ rw k

  pub in_6 : v.line.kind ≡ IN → later_at s v 6 ≡ codes L IN 6 (s.known 6 (code_in IN L 6)) (day_is_sound v && not (is_in_force s v 6 (code_in IN L 6))) ([])
  unfolding rule4 rule5 is_known book_kind
  in_6 k = later_at_lem s v 6 IN _ k (rules_in_6 s) ∙ rw k

  pub ia_2 : v.line.kind ≡ IA → later_at s v 2 ≡ sounds L IA 2 (not (eqb (number (text L 2)) v.place)) 7
  unfolding rule7
  ia_2 k = later_at_lem s v 2 IA _ k (rules_ia_2 s) ∙ rw k

  pub ia_3 : v.line.kind ≡ IA → later_at s v 3 ≡ sounds L IA 3 (is_sound IP v.ip 3 && not (same (text L 3) (text v.ip 3))) 6
  unfolding rule6
  ia_3 k = later_at_lem s v 3 IA _ k (rules_ia_3 s) ∙ rw k

  pub ia_4 : v.line.kind ≡ IA → later_at s v 4 ≡ codes L IA 4 (s.known 2 (code_in IA L 4)) (day_is_sound v && not (is_in_force s v 2 (code_in IA L 4))) ([])
  unfolding rule4 rule5 is_known book_kind
  ia_4 k = later_at_lem s v 4 IA _ k (rules_ia_4 s) ∙ rw k

  pub iv_rest : (f : ℕ) → v.line.kind ≡ IV → (f ≡ 2 → ⊥) → later_at s v f ≡ []
  unfolding rules_of rules_in rules
  iv_rest f k n2 = later_none s v f (lies_in IV (2 ∷ [])) IV k tt (simp (ne_eqb f 2 n2))

  pub ip_rest : (f : ℕ) → v.line.kind ≡ IP → (f ≡ 2 → ⊥) → (f ≡ 25 → ⊥) → later_at s v f ≡ []
  unfolding rules_of rules_in rules
  ip_rest f k n2 n25 = later_none s v f (lies_in IP (2 ∷ 25 ∷ [])) IP k tt (simp (ne_eqb f 2 n2, ne_eqb f 25 n25))

  pub ii_rest : (f : ℕ) → v.line.kind ≡ II → (f ≡ 2 → ⊥) → (f ≡ 3 → ⊥) → (f ≡ 4 → ⊥) → (f ≡ 6 → ⊥) → (f ≡ 8 → ⊥) → (f ≡ 9 → ⊥) → (f ≡ 10 → ⊥) → (f ≡ 11 → ⊥) → (f ≡ 12 → ⊥) → (f ≡ 13 → ⊥) → (f ≡ 14 → ⊥) → (f ≡ 15 → ⊥) → later_at s v f ≡ []
  unfolding rules_of rules_in rules
  ii_rest f k n2 n3 n4 n6 n8 n9 n10 n11 n12 n13 n14 n15 = later_none s v f (lies_in II (2 ∷ 3 ∷ 4 ∷ 6 ∷ 8 ∷ 9 ∷ 10 ∷ 11 ∷ 12 ∷ 13 ∷ 14 ∷ 15 ∷ [])) II k tt (simp (ne_eqb f 2 n2, ne_eqb f 3 n3, ne_eqb f 4 n4, ne_eqb f 6 n6, ne_eqb f 8 n8, ne_eqb f 9 n9, ne_eqb f 10 n10, ne_eqb f 11 n11, ne_eqb f 12 n12, ne_eqb f 13 n13, ne_eqb f 14 n14, ne_eqb f 15 n15))

  pub ie_rest : (f : ℕ) → v.line.kind ≡ IE → (f ≡ 2 → ⊥) → (f ≡ 3 → ⊥) → (f ≡ 4 → ⊥) → later_at s v f ≡ []
  unfolding rules_of rules_in rules
  ie_rest f k n2 n3 n4 = later_none s v f (lies_in IE (2 ∷ 3 ∷ 4 ∷ [])) IE k tt (simp (ne_eqb f 2 n2, ne_eqb f 3 n3, ne_eqb f 4 n4))

  pub in_rest : (f : ℕ) → v.line.kind ≡ IN → (f ≡ 2 → ⊥) → (f ≡ 3 → ⊥) → (f ≡ 5 → ⊥) → (f ≡ 6 → ⊥) → later_at s v f ≡ []
  unfolding rules_of rules_in rules
  in_rest f k n2 n3 n5 n6 = later_none s v f (lies_in IN (2 ∷ 3 ∷ 5 ∷ 6 ∷ [])) IN k tt (simp (ne_eqb f 2 n2, ne_eqb f 3 n3, ne_eqb f 5 n5, ne_eqb f 6 n6))

  pub ia_rest : (f : ℕ) → v.line.kind ≡ IA → (f ≡ 2 → ⊥) → (f ≡ 3 → ⊥) → (f ≡ 4 → ⊥) → later_at s v f ≡ []
  unfolding rules_of rules_in rules
  ia_rest f k n2 n3 n4 = later_none s v f (lies_in IA (2 ∷ 3 ∷ 4 ∷ [])) IA k tt (simp (ne_eqb f 2 n2, ne_eqb f 3 n3, ne_eqb f 4 n4))

  -- kinds without later rules
  pub other_rest : (f : ℕ) → (v.line.kind ≡ IV → ⊥) → (v.line.kind ≡ IP → ⊥) → (v.line.kind ≡ II → ⊥) → (v.line.kind ≡ IE → ⊥) → (v.line.kind ≡ IN → ⊥) → (v.line.kind ≡ IA → ⊥) → later_at s v f ≡ []
  unfolding rules_of rules_in rules
  other_rest f n1 n3 n4 n5 n6 n7 =
      later_none s v f (λ (p : Place). any (eqb p.kind) (IV ∷ IP ∷ II ∷ IE ∷ IN ∷ IA ∷ [])) v.line.kind refl tt
      (simp (ne_eqb _ 1 n1, ne_eqb _ 3 n3, ne_eqb _ 4 n4, ne_eqb _ 5 n5, ne_eqb _ 6 n6, ne_eqb _ 7 n7))

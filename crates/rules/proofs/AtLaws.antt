-- The rules that are broken at a field, as up to three numbers.
-- Assumes nothing.
use mathlib.Core.Path.{◌≡◌, refl, sym, ap, ◌∙◌}
use mathlib.Core.Bool.{Bool, true, false, not, cond, ◌&&◌, ◌||◌}
use mathlib.Core.List.{[], ◌++◌, append-nil}
use Prim.Native.Nat.{ℕ}
use lib.Dec.{eqb}
use Rattle.house.specs.Text.{Text, bytes, order_of, same, any, number, is_empty}
use Rattle.house.proofs.Facts.{of_true}
use Rattle.house.proofs.Decisions.{same_is}
use Rattle.lines.specs.Records.{Rec, IV, IP, II, IE, IN, IA}
use Rattle.rules_definitions.specs.Forms.{text, anything, table, form_of, is_judged, is_optional, is_relaxed, is_missing, is_misformed, is_sound, is_given}
use Rattle.rules_definitions.specs.Blocks.{adds, changes, deletes}
use Rattle.rules_definitions.specs.Seen.{Setting, Seen}
use Rattle.rules_definitions.specs.Codes.{is_site, is_method, code_in, day_is_sound, is_in_force, pair_in}
use Rattle.rules_definitions.specs.Rules.{rule9, rule10, rule11, rule12, rule13, rule15, after_today, before_birth, site_wrong, method_wrong, partner_of, lacks, same_antigen, counts_sound, sets_differ, same_lot, broken_at}
use Rattle.rules_forms.specs.FieldLeaves.{lowest}
use Rattle.rules.specs.Inside.{some, listed}
use Rattle.rules_fields.specs.Fields.{broken, rules4and5_of, rules16to18_at}
use Rattle.rules.specs.Fields.{later_at}
use Rattle.rules.proofs.Collapse.{when, one_rule, broken_split, sound_later, rules4_and_5_later, rule4_site_later, sounds, codes, sites, ledgers, rule3_iv2, iv_rest, ip_2, ip_25, ip_rest, ii_2, ii_3, ii_4, ii_6, ii_8, ii_9, ii_10, ii_11, ii_12, ii_13, ii_14, ii_15, ii_rest, ie_2, ie_3, ie_4, ie_rest, in_2, in_3, in_5, in_6, in_rest, ia_2, ia_3, ia_4, ia_rest, other_rest}
use Rattle.rules.proofs.RuleLaws.{rule11_ii11, rule11_ie4, rule12_ie4}

-- at most two more rules, none of which is rule 0
two_more : (p q : Bool) (m n : ℕ) → eqb m 0 ≡ false → eqb n 0 ≡ false → when p m ++ (when q n ++ []) ≡ some (cond p m 0) ++ some (cond q n 0)
two_more p q m n h k = rw (one_rule m h p, one_rule n k q, append-nil)

one_more : (p : Bool) (m : ℕ) → eqb m 0 ≡ false → when p m ++ [] ≡ some (cond p m 0) ++ some 0
one_more p m h = rw (one_rule m h p)

module _ (s : Setting) (v : Seen) (k f : ℕ) (e : v.line.kind ≡ k) where
  abbrev l : Rec
  l = v.line

  at_split : broken_at s v f ≡ some (lowest k l f 0) ++ later_at s v f
  at_split = broken_split s v f ∙ ap (λ (n : ℕ). some (lowest n v.line f 0) ++ later_at s v f) e

  -- no later rule
  pub plain_at_lem : later_at s v f ≡ [] → broken_at s v f ≡ listed (broken (lowest k l f 0) 0 0)
  unfolding listed
  plain_at_lem h = at_split ∙ rw h

  -- one later rule, which asks for nothing
  pub more_at : (p : Bool) (m : ℕ) → eqb m 0 ≡ false → later_at s v f ≡ when p m ++ [] → broken_at s v f ≡ listed (broken (lowest k l f 0) (cond p m 0) 0)
  unfolding listed
  more_at p m z h = at_split ∙ rw (h, one_more p m z)

  -- one that asks for a sound field
  pub sound_at_lem : (p : Bool) (m : ℕ) → eqb m 0 ≡ false → later_at s v f ≡ sounds l k f p m → broken_at s v f ≡ listed (broken (lowest k l f (cond p m 0)) 0 0)
  unfolding listed
  sound_at_lem p m z h = at_split ∙ rw h (sound_later k l f [] p m z)

  -- a code's rules, and up to two more
  module _ (known out : Bool) where
    pub code_at : later_at s v f ≡ codes l k f known out [] → broken_at s v f ≡ listed (broken (lowest k l f (rules4and5_of (is_empty (text l f)) known out)) 0 0)
    unfolding listed
    code_at h = at_split ∙ rw h (rules4_and_5_later k l f [] known out)

    pub code_more : (p : Bool) (m : ℕ) → eqb m 0 ≡ false → later_at s v f ≡ codes l k f known out (when p m ++ [])
        → broken_at s v f ≡ listed (broken (lowest k l f (rules4and5_of (is_empty (text l f)) known out)) (cond p m 0) 0)
    unfolding listed
    code_more p m z h = at_split ∙ rw h (rules4_and_5_later k l f (when p m ++ []) known out ∙ rw (one_more p m z))

    pub code_two : (p q : Bool) (m n : ℕ) → eqb m 0 ≡ false → eqb n 0 ≡ false → later_at s v f ≡ codes l k f known out (when p m ++ (when q n ++ []))
        → broken_at s v f ≡ listed (broken (lowest k l f (rules4and5_of (is_empty (text l f)) known out)) (cond p m 0) (cond q n 0))
    unfolding listed
    code_two p q m n z w h = at_split ∙ rw h (rules4_and_5_later k l f (when p m ++ (when q n ++ [])) known out ∙ rw (two_more p q m n z w))

-- a site's or a method's rules, and two more
pub site_two : (s : Setting) (v : Seen) (f : ℕ) → v.line.kind ≡ II → (known p q : Bool) (m n : ℕ) → eqb m 0 ≡ false → eqb n 0 ≡ false
    → later_at s v f ≡ sites v.line f known (when p m ++ (when q n ++ []))
    → broken_at s v f ≡ listed (broken (lowest II v.line f (rules4and5_of (is_empty (text v.line f)) known false)) (cond p m 0) (cond q n 0))
unfolding listed
site_two s v f e known p q m n z w h =
    at_split s v II f e ∙ rw h (rule4_site_later II v.line f (when p m ++ (when q n ++ [])) known ∙ rw (two_more p q m n z w))

-- IV 2: no version is both given and sound where the field is empty
pub version_at : (s : Setting) (v : Seen) → v.line.kind ≡ IV
    → broken_at s v 2 ≡ listed (broken (lowest IV v.line 2 (cond (not (same (text v.line 2) (bytes "7.2"))) 3 0)) 0 0)
unfolding listed lowest is_given is_sound is_missing is_misformed is_judged is_optional form_of table anything
version_at s v e = at_split s v IV 2 e ∙ rw (rule3_iv2 s v e) (go (is_empty (text v.line 2)) (not (same (text v.line 2) (bytes "7.2"))))
  where
    go : (e p : Bool) → some (cond e 1 0) ++ (when (not e && true && not e && p) 3 ++ []) ≡ some (cond e 1 (cond p 3 0)) ++ []
    go true p = refl
    go false true = refl
    go false false = refl

-- II 4: no type is two
ledger_rules : (inb a c d live : Bool) → (c ≡ true → d ≡ false) → ledgers inb a c d live ≡ some (cond inb (cond live (cond a 16 0) (cond c 17 (cond d 18 0))) 0) ++ []
ledger_rules false a c d live h = refl
ledger_rules true true true d true h = rw (h refl)
ledger_rules true true false true true h = refl
ledger_rules true true false false true h = refl
ledger_rules true false true d true h = rw (h refl)
ledger_rules true false false true true h = refl
ledger_rules true false false false true h = refl
ledger_rules true true true d false h = rw (h refl)
ledger_rules true true false true false h = refl
ledger_rules true true false false false h = refl
ledger_rules true false true d false h = rw (h refl)
ledger_rules true false false true false h = refl
ledger_rules true false false false false h = refl

one_type : (t : Text) → same t changes ≡ true → same t deletes ≡ false
unfolding same order_of
one_type t h = rw (same_is t changes (of_true (same t changes) h))

pub rules16_to_18_ii4 : (s : Setting) (v : Seen) → v.line.kind ≡ II
    → broken_at s v 4 ≡ listed (broken (lowest II v.line 4 0) (rules16to18_at v.in_block (text v.line 4) v.live) 0)
unfolding listed rules16to18_at
rules16_to_18_ii4 s v e =
    at_split s v II 4 e
    ∙ rw (ii_4 s v e, ledger_rules v.in_block (same (text v.line 4) adds) (same (text v.line 4) changes) (same (text v.line 4) deletes) v.live (one_type (text v.line 4)))

-- FIELD BY FIELD: WHAT IS BROKEN THERE (of IV 2 and II 4, above)

-- rules 4 and 5 of a code of the book's kind `of`
abbrev pub code_number : Setting → Seen → ℕ → ℕ → ℕ → ℕ
code_number s v k f of = rules4and5_of (is_empty (text v.line f)) (s.known of (code_in k v.line f)) (day_is_sound v && not (is_in_force s v of (code_in k v.line f)))

-- rule 11 of that code, with the vaccine
abbrev pub pair_number : Setting → Seen → ℕ → ℕ → ℕ → ℕ → ℕ
pair_number s v k f of pair =
    cond
    ((is_given II v.head 8 && s.known 1 (code_in II v.head 8)) && (is_given k v.line f && s.known of (code_in k v.line f))
    && (not (s.known pair (pair_in v f)) || (day_is_sound v && not (is_in_force s v pair (pair_in v f))))) 11 0

-- rule 10
abbrev pub lack_number : Rec → ℕ → ℕ → ℕ
lack_number l f other = cond (lacks l f other && is_relaxed l) 10 0

-- rules 1 and 2 alone
abbrev pub PlainAt : Setting → Seen → ℕ → ℕ → Type 0
PlainAt s v k f = broken_at s v f ≡ listed (broken (lowest k v.line f 0) 0 0)

-- and rule 7, 6 or 8
abbrev pub NumberAt : Setting → Seen → ℕ → Type 0
NumberAt s v k = broken_at s v 2 ≡ listed (broken (lowest k v.line 2 (cond (not (eqb (number (text v.line 2)) v.place)) 7 0)) 0 0)

abbrev pub UliAt : Setting → Seen → ℕ → Type 0
UliAt s v k =
    broken_at s v 3 ≡ listed (broken (lowest k v.line 3 (cond (is_sound IP v.ip 3 && not (same (text v.line 3) (text v.ip 3))) 6 0)) 0 0)

abbrev pub DateAt : Setting → Seen → ℕ → ℕ → Type 0
DateAt s v k f = broken_at s v f ≡ listed (broken (lowest k v.line f (cond (after_today s v f || before_birth v f) 8 0)) 0 0)

-- and rules 4 and 5
abbrev pub CodeAt : Setting → Seen → ℕ → ℕ → ℕ → Type 0
CodeAt s v k f of = broken_at s v f ≡ listed (broken (lowest k v.line f (code_number s v k f of)) 0 0)

or-false : (b : Bool) → b || false ≡ b
or-false true = refl
or-false false = refl

module _ (s : Setting) (v : Seen) where
  abbrev L : Rec
  L = v.line

  pub at_iv_rest : (f : ℕ) → v.line.kind ≡ IV → (f ≡ 2 → ⊥) → PlainAt s v IV f
  at_iv_rest f k n2 = plain_at_lem s v IV f k (iv_rest s v f k n2)

  pub at_ip_2 : v.line.kind ≡ IP → NumberAt s v IP
  at_ip_2 k = sound_at_lem s v IP 2 k _ 7 refl (ip_2 s v k)

  pub at_ip_25 : v.line.kind ≡ IP → broken_at s v 25 ≡ listed (broken (lowest IP L 25 (cond (after_today s v 25) 8 0)) 0 0)
  at_ip_25 k =
      sound_at_lem s v IP 25 k (after_today s v 25 || false) 8 refl (ip_25 s v k)
      ∙ ap (λ (b : Bool). listed (broken (lowest IP L 25 (cond b 8 0)) 0 0)) (or-false (after_today s v 25))

  pub at_ip_rest : (f : ℕ) → v.line.kind ≡ IP → (f ≡ 2 → ⊥) → (f ≡ 25 → ⊥) → PlainAt s v IP f
  at_ip_rest f k n2 n25 = plain_at_lem s v IP f k (ip_rest s v f k n2 n25)

  pub at_ii_2 : v.line.kind ≡ II → NumberAt s v II
  at_ii_2 k = sound_at_lem s v II 2 k _ 7 refl (ii_2 s v k)

  pub at_ii_3 : v.line.kind ≡ II → UliAt s v II
  at_ii_3 k = sound_at_lem s v II 3 k _ 6 refl (ii_3 s v k)

  pub at_ii_6 : v.line.kind ≡ II → DateAt s v II 6
  at_ii_6 k = sound_at_lem s v II 6 k _ 8 refl (ii_6 s v k)

  pub at_ii_8 : v.line.kind ≡ II
      → broken_at s v 8
      ≡ listed
      (broken (lowest II L 8 (code_number s v II 8 1))
      (cond (v.not_first && (counts_sound v.own && (counts_sound v.first && sets_differ v.own v.first))) 13 0) (cond v.repeated 15 0))
  unfolding rule13 rule15
  at_ii_8 k = code_two s v II 8 k _ _ (rule13 s v 8) (rule15 s v 8) 13 15 refl refl (ii_8 s v k)

  pub at_ii_9 : v.line.kind ≡ II
      → broken_at s v 9
      ≡ listed
      (broken (lowest II L 9 (rules4and5_of (is_empty (text L 9)) (is_site (text L 9)) false))
      (cond (site_wrong (text L 9) (text L 10) && (is_given II L 9 && is_given II L 10)) 9 0) (lack_number L 9 10))
  unfolding rule9 rule10 partner_of
  at_ii_9 k = site_two s v 9 k (is_site (text L 9)) (rule9 s v 9) (rule10 s v 9) 9 10 refl refl (ii_9 s v k)

  pub at_ii_10 : v.line.kind ≡ II
      → broken_at s v 10
      ≡ listed
      (broken (lowest II L 10 (rules4and5_of (is_empty (text L 10)) (is_method (text L 10)) false))
      (cond (method_wrong (text L 9) (text L 10) && (is_given II L 9 && is_given II L 10)) 9 0) (lack_number L 10 9))
  unfolding rule9 rule10 partner_of
  at_ii_10 k = site_two s v 10 k (is_method (text L 10)) (rule9 s v 10) (rule10 s v 10) 9 10 refl refl (ii_10 s v k)

  pub at_ii_11 : v.line.kind ≡ II → broken_at s v 11 ≡ listed (broken (lowest II L 11 (code_number s v II 11 3)) (pair_number s v II 11 3 7) 0)
  at_ii_11 k =
      code_more s v II 11 k _ _ (rule11 s v 11) 11 refl (ii_11 s v k)
      ∙ ap (λ (b : Bool). listed (broken (lowest II L 11 (code_number s v II 11 3)) (cond b 11 0) 0)) (rule11_ii11 s v k)

  pub at_ii_12 : v.line.kind ≡ II → broken_at s v 12 ≡ listed (broken (lowest II L 12 0) (lack_number L 12 13) 0)
  unfolding rule10 partner_of
  at_ii_12 k = more_at s v II 12 k (rule10 s v 12) 10 refl (ii_12 s v k)

  pub at_ii_13 : v.line.kind ≡ II → broken_at s v 13 ≡ listed (broken (lowest II L 13 (code_number s v II 13 5)) (lack_number L 13 12) 0)
  unfolding rule10 partner_of
  at_ii_13 k = code_more s v II 13 k _ _ (rule10 s v 13) 10 refl (ii_13 s v k)

  pub at_ii_14 : v.line.kind ≡ II → CodeAt s v II 14 4
  at_ii_14 k = code_at s v II 14 k _ _ (ii_14 s v k)

  pub at_ii_15 : v.line.kind ≡ II → broken_at s v 15 ≡ listed (broken (lowest II L 15 (cond (any (same_lot L) v.block) 14 0)) 0 0)
  at_ii_15 k = sound_at_lem s v II 15 k _ 14 refl (ii_15 s v k)

  pub at_ii_rest : (f : ℕ) → v.line.kind ≡ II → (f ≡ 2 → ⊥) → (f ≡ 3 → ⊥) → (f ≡ 4 → ⊥) → (f ≡ 6 → ⊥) → (f ≡ 8 → ⊥) → (f ≡ 9 → ⊥) → (f ≡ 10 → ⊥) → (f ≡ 11 → ⊥) → (f ≡ 12 → ⊥) → (f ≡ 13 → ⊥) → (f ≡ 14 → ⊥) → (f ≡ 15 → ⊥)
      → PlainAt s v II f
  at_ii_rest f k n2 n3 n4 n6 n8 n9 n10 n11 n12 n13 n14 n15 = plain_at_lem s v II f k (ii_rest s v f k n2 n3 n4 n6 n8 n9 n10 n11 n12 n13 n14 n15)

  pub at_ie_2 : v.line.kind ≡ IE → NumberAt s v IE
  at_ie_2 k = sound_at_lem s v IE 2 k _ 7 refl (ie_2 s v k)

  pub at_ie_3 : v.line.kind ≡ IE → UliAt s v IE
  at_ie_3 k = sound_at_lem s v IE 3 k _ 6 refl (ie_3 s v k)

  pub at_ie_4 : v.line.kind ≡ IE
      → broken_at s v 4
      ≡ listed (broken (lowest IE L 4 (code_number s v IE 4 2)) (pair_number s v IE 4 2 8) (cond (is_sound IE L 4 && any (same_antigen L) v.antigens) 12 0))
  at_ie_4 k =
      code_two s v IE 4 k _ _ (rule11 s v 4) (rule12 s v 4) 11 12 refl refl (ie_4 s v k)
      ∙ ap (λ (b : Bool). listed (broken (lowest IE L 4 (code_number s v IE 4 2)) (cond b 11 0) (cond (rule12 s v 4) 12 0))) (rule11_ie4 s v k)
      ∙ ap (λ (b : Bool). listed (broken (lowest IE L 4 (code_number s v IE 4 2)) (pair_number s v IE 4 2 8) (cond b 12 0))) (rule12_ie4 s v k)

  pub at_ie_rest : (f : ℕ) → v.line.kind ≡ IE → (f ≡ 2 → ⊥) → (f ≡ 3 → ⊥) → (f ≡ 4 → ⊥) → PlainAt s v IE f
  at_ie_rest f k n2 n3 n4 = plain_at_lem s v IE f k (ie_rest s v f k n2 n3 n4)

  pub at_in_2 : v.line.kind ≡ IN → NumberAt s v IN
  at_in_2 k = sound_at_lem s v IN 2 k _ 7 refl (in_2 s v k)

  pub at_in_3 : v.line.kind ≡ IN → UliAt s v IN
  at_in_3 k = sound_at_lem s v IN 3 k _ 6 refl (in_3 s v k)

  pub at_in_5 : v.line.kind ≡ IN → DateAt s v IN 5
  at_in_5 k = sound_at_lem s v IN 5 k _ 8 refl (in_5 s v k)

  pub at_in_6 : v.line.kind ≡ IN → CodeAt s v IN 6 6
  at_in_6 k = code_at s v IN 6 k _ _ (in_6 s v k)

  pub at_in_rest : (f : ℕ) → v.line.kind ≡ IN → (f ≡ 2 → ⊥) → (f ≡ 3 → ⊥) → (f ≡ 5 → ⊥) → (f ≡ 6 → ⊥) → PlainAt s v IN f
  at_in_rest f k n2 n3 n5 n6 = plain_at_lem s v IN f k (in_rest s v f k n2 n3 n5 n6)

  pub at_ia_2 : v.line.kind ≡ IA → NumberAt s v IA
  at_ia_2 k = sound_at_lem s v IA 2 k _ 7 refl (ia_2 s v k)

  pub at_ia_3 : v.line.kind ≡ IA → UliAt s v IA
  at_ia_3 k = sound_at_lem s v IA 3 k _ 6 refl (ia_3 s v k)

  pub at_ia_4 : v.line.kind ≡ IA → CodeAt s v IA 4 2
  at_ia_4 k = code_at s v IA 4 k _ _ (ia_4 s v k)

  pub at_ia_rest : (f : ℕ) → v.line.kind ≡ IA → (f ≡ 2 → ⊥) → (f ≡ 3 → ⊥) → (f ≡ 4 → ⊥) → PlainAt s v IA f
  at_ia_rest f k n2 n3 n4 = plain_at_lem s v IA f k (ia_rest s v f k n2 n3 n4)

  -- kinds without later rules
  pub at_other : (k f : ℕ) → v.line.kind ≡ k → (k ≡ IV → ⊥) → (k ≡ IP → ⊥) → (k ≡ II → ⊥) → (k ≡ IE → ⊥) → (k ≡ IN → ⊥) → (k ≡ IA → ⊥) → PlainAt s v k f
  at_other k f e n1 n3 n4 n5 n6 n7 =
      plain_at_lem s v k f e
      (other_rest s v f (λ z. n1 (sym e ∙ z)) (λ z. n3 (sym e ∙ z)) (λ z. n4 (sym e ∙ z)) (λ z. n5 (sym e ∙ z)) (λ z. n6 (sym e ∙ z)) (λ z. n7 (sym e ∙ z)))

-- The rules: where each is placed, and apart from that its test, whether it is broken at field f of what is seen from a line.
-- "Later rules are judged only where the fields that they read are sound."
-- Assumes nothing.
use Rattle.std.specs.Prelude.{ℕ, Bool, not, cond, ◌&&◌, ◌||◌, List, [], ◌∷◌, ◌++◌, map, eqb, ltb}
use Rattle.house.specs.Text.{Text, bytes, same, any, all, those, number, is_empty}
use Rattle.lines.specs.Records.{Rec, IV, IP, II, IE, IN, IA}
use Rattle.rules_definitions.specs.Forms.{text, Row, table, is_count, is_relaxed, is_missing, is_misformed, is_sound, is_given}
use Rattle.rules_definitions.specs.Blocks.{adds, changes, deletes}
use Rattle.rules_definitions.specs.Seen.{Setting, Seen}
use Rattle.rules_definitions.specs.Codes.{book_kind, code_in, is_known, day_is_sound, is_in_force, pair_kind, pair_in}

-- field f of a record of kind k
pub record Place : Type 0 where
  pub kind : ℕ
  pub field : ℕ

abbrev pub at : ℕ → ℕ → Place
at k f = record { kind = k; field = f }

-- a rule's test, asked where the rule is placed
abbrev pub Rule : Type 0
Rule = Setting → Seen → ℕ → Bool

abbrev pub sound : Seen → ℕ → Bool
sound v f = is_sound v.line.kind v.line f

-- rules 1 and 2 are placed at each field that has a form
abbrev pub form_places : List Place
form_places = map (λ (r : Row). at r.kind r.field) table

-- "1 mandatory and empty."
unfoldable pub rule1 : Rule
rule1 s v f = is_missing v.line.kind v.line f

-- "2 not of its form."
unfoldable pub rule2 : Rule
rule2 s v f = is_misformed v.line.kind v.line f

-- "3 version is not 7.2 (so IV 2 has only rules 1 and 3)."
abbrev pub rule3_places : List Place
rule3_places = at IV 2 ∷ []

unfoldable pub rule3 : Rule
rule3 s v f = is_given IV v.line 2 && not (same (text v.line 2) (bytes "7.2"))

-- "4 code unknown, at its field (II 8 to 11, 13 and 14, IE 4, IN 6, IA 4)."
abbrev pub rule4_places : List Place
rule4_places = at II 8 ∷ at II 9 ∷ at II 10 ∷ at II 11 ∷ at II 13 ∷ at II 14 ∷ at IE 4 ∷ at IN 6 ∷ at IA 4 ∷ []

unfoldable pub rule4 : Rule
rule4 s v f = is_given v.line.kind v.line f && not (is_known s v.line.kind v.line f)

-- "5 code known, not in force on the record's date (II 6, also for its IE; IN 5, also for its IA)." At the fields of rule 4 whose code is
-- the book's: a site and a method have no dates. In force is as document 02's request 1 reads it (`is_in_force`).
abbrev pub rule5_places : List Place
rule5_places = at II 8 ∷ at II 11 ∷ at II 13 ∷ at II 14 ∷ at IE 4 ∷ at IN 6 ∷ at IA 4 ∷ []

unfoldable pub rule5 : Rule
rule5 s v f =
    is_known s v.line.kind v.line f
    && (day_is_sound v && not (is_in_force s v (book_kind v.line.kind f) (code_in v.line.kind v.line f)))

-- "6 at field 3: ULI differs from its IP's."
abbrev pub rule6_places : List Place
rule6_places = at II 3 ∷ at IE 3 ∷ at IN 3 ∷ at IA 3 ∷ []

unfoldable pub rule6 : Rule
rule6 s v f = sound v 3 && (is_sound IP v.ip 3 && not (same (text v.line 3) (text v.ip 3)))

-- "7 at field 2: the number is not its place among IP, II, IE, IN and IA lines, from 1."
abbrev pub rule7_places : List Place
rule7_places = at IP 2 ∷ at II 2 ∷ at IE 2 ∷ at IN 2 ∷ at IA 2 ∷ []

unfoldable pub rule7 : Rule
rule7 s v f = sound v 2 && not (eqb (number (text v.line 2)) v.place)

-- "8 at IP 25, II 6 or IN 5: date after today; at II 6 or IN 5 also: date before its IP 25. Each test is judged alone, with one
-- finding for both."
abbrev pub rule8_places : List Place
rule8_places = at IP 25 ∷ at II 6 ∷ at IN 5 ∷ []

unfoldable pub after_today : Setting → Seen → ℕ → Bool
after_today s v f = ltb s.today (number (text v.line f))

unfoldable pub before_birth : Seen → ℕ → Bool
before_birth v f = is_sound IP v.ip 25 && ltb (number (text v.line f)) (number (text v.ip 25))

unfoldable pub rule8 : Rule
rule8 s v f = sound v f && (after_today s v f || (not (eqb v.line.kind IP) && before_birth v f))

-- "9 at II 9: method PO without site MO, or IN without NO; at II 10: site MO without PO, or NO without IN; both fields present."
abbrev pub rule9_places : List Place
rule9_places = at II 9 ∷ at II 10 ∷ []

-- x is a, and y is not b
unfoldable pub without : Text → Text → Text → Text → Bool
without x a y b = same x a && not (same y b)

unfoldable pub site_wrong : Text → Text → Bool
site_wrong site method = without method (bytes "PO") site (bytes "MO") || without method (bytes "IN") site (bytes "NO")

unfoldable pub method_wrong : Text → Text → Bool
method_wrong site method = without site (bytes "MO") method (bytes "PO") || without site (bytes "NO") method (bytes "IN")

unfoldable pub rule9 : Rule
rule9 s v f =
    cond (eqb f 9) (site_wrong (text v.line 9) (text v.line 10)) (method_wrong (text v.line 9) (text v.line 10))
    && (is_given II v.line 9 && is_given II v.line 10)

-- "10 in a relaxed event, site without method or dosage without its type, or the reverse, placed on the empty one."
abbrev pub rule10_places : List Place
rule10_places = at II 9 ∷ at II 10 ∷ at II 12 ∷ at II 13 ∷ []

-- site and method, dosage and its type
unfoldable pub partner_of : ℕ → ℕ
partner_of f = cond (eqb f 9) 10 (cond (eqb f 10) 9 (cond (eqb f 12) 13 12))

unfoldable pub lacks : Rec → ℕ → ℕ → Bool
lacks l f other = is_empty (text l f) && is_given II l other

unfoldable pub rule10 : Rule
rule10 s v f = lacks v.line f (partner_of f) && is_relaxed v.line

-- "11 at II 11 or IE 4: the pair with the vaccine is absent from the book, or not in force on II 6; judged if both codes are known,
-- and with an unsound date only for absence." In force as for rule 5.
abbrev pub rule11_places : List Place
rule11_places = at II 11 ∷ at IE 4 ∷ []

unfoldable pub rule11 : Rule
rule11 s v f =
    (is_known s II v.head 8 && is_known s v.line.kind v.line f)
    && (not (s.known (pair_kind v.line.kind) (pair_in v f))
    || (day_is_sound v && not (is_in_force s v (pair_kind v.line.kind) (pair_in v f))))

-- "12 at IE 4: antigen already given in this II."
abbrev pub rule12_places : List Place
rule12_places = at IE 4 ∷ []

unfoldable pub same_antigen : Rec → Rec → Bool
same_antigen l p = same (text l 4) (text p 4)

unfoldable pub rule12 : Rule
rule12 s v f = sound v 4 && any (same_antigen v.line) v.antigens

-- "13 at II 8: its antigens with counts, as numbers, are not the set that the block's first II has; judged if all those IE fields are
-- sound."
abbrev pub rule13_places : List Place
rule13_places = at II 8 ∷ []

-- an IE's count as a number; 0 where it is not sound, and then rule 13 is not judged
unfoldable pub dose_of : Rec → ℕ
dose_of l = cond (is_count (text l 5)) (number (text l 5)) 0

unfoldable pub same_count : Rec → Rec → Bool
same_count l p = same_antigen l p && eqb (dose_of l) (dose_of p)

unfoldable pub all_in : List Rec → List Rec → Bool
all_in ls ps = all (λ (l : Rec). any (same_count l) ps) ls

unfoldable pub counts_sound : List Rec → Bool
counts_sound ls = all (λ (l : Rec). is_sound IE l 4 && is_sound IE l 5) ls

unfoldable pub sets_differ : List Rec → List Rec → Bool
sets_differ own first = not (all_in own first && all_in first own)

unfoldable pub rule13 : Rule
rule13 s v f = v.not_first && (counts_sound v.own && (counts_sound v.first && sets_differ v.own v.first))

-- "14 at II 15: an earlier II of the block has the same lot (two empty lots are the same)."
abbrev pub rule14_places : List Place
rule14_places = at II 15 ∷ []

unfoldable pub same_lot : Rec → Rec → Bool
same_lot l p = is_sound II p 15 && same (text l 15) (text p 15)

unfoldable pub rule14 : Rule
rule14 s v f = sound v 15 && any (same_lot v.line) v.block

-- "15 at II 8, on each II: an earlier block names the event."
abbrev pub rule15_places : List Place
rule15_places = at II 8 ∷ []

unfoldable pub rule15 : Rule
rule15 s v f = v.repeated

-- "At II 4, against the ledger as lent: 16 adds a live event, 17 changes one not live, 18 deletes one not live."
abbrev pub ledger_places : List Place
ledger_places = at II 4 ∷ []

unfoldable pub asks : Seen → Text → Bool
asks v type = v.in_block && same (text v.line 4) type

unfoldable pub rule16 : Rule
rule16 s v f = asks v adds && v.live

unfoldable pub rule17 : Rule
rule17 s v f = asks v changes && not v.live

unfoldable pub rule18 : Rule
rule18 s v f = asks v deletes && not v.live

-- The rules by number, each with its places and its test

pub record Numbered : Type 0 where
  pub number : ℕ
  pub places : List Place
  pub broken : Rule

abbrev pub numbered : ℕ → List Place → Rule → Numbered
numbered n places r = record { number = n; places = places; broken = r }

unfoldable pub rules : List Numbered
rules =
    numbered 1 form_places rule1
    ∷ numbered 2 form_places rule2
    ∷ numbered 3 rule3_places rule3
    ∷ numbered 4 rule4_places rule4
    ∷ numbered 5 rule5_places rule5
    ∷ numbered 6 rule6_places rule6
    ∷ numbered 7 rule7_places rule7
    ∷ numbered 8 rule8_places rule8
    ∷ numbered 9 rule9_places rule9
    ∷ numbered 10 rule10_places rule10
    ∷ numbered 11 rule11_places rule11
    ∷ numbered 12 rule12_places rule12
    ∷ numbered 13 rule13_places rule13
    ∷ numbered 14 rule14_places rule14
    ∷ numbered 15 rule15_places rule15
    ∷ numbered 16 ledger_places rule16
    ∷ numbered 17 ledger_places rule17
    ∷ numbered 18 ledger_places rule18
    ∷ []

-- the rules of a profile. (Change requests 5 and 11 add to them here.)
unfoldable pub rules_in : ℕ → List Numbered
rules_in profile = rules

-- the rules that a file is judged by
unfoldable pub rules_of : Setting → List Numbered
rules_of s = rules_in s.profile

-- a rule is placed at field f of a record of kind k
abbrev pub is_placed : ℕ → ℕ → Numbered → Bool
is_placed k f x = any (λ (p : Place). eqb k p.kind && eqb f p.field) x.places

-- the rules that are placed there, in order
unfoldable pub rules_at : Setting → ℕ → ℕ → List Numbered
rules_at s k f = those (is_placed k f) (rules_of s)

-- rule r is placed at field f, and broken there
unfoldable pub is_broken : Setting → Seen → ℕ → ℕ → Bool
is_broken s v f r = any (λ (x : Numbered). eqb x.number r && x.broken s v f) (rules_at s v.line.kind f)

-- the numbers of those of the rules that are broken at field f, in order
abbrev pub broken_by : Setting → Seen → ℕ → List Numbered → List ℕ
broken_by s v f [] = []
broken_by s v f (x ∷ xs) = cond (x.broken s v f) (x.number ∷ []) [] ++ broken_by s v f xs

unfoldable pub broken_at : Setting → Seen → ℕ → List ℕ
broken_at s v f = broken_by s v f (rules_at s v.line.kind f)

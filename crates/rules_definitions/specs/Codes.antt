-- Codes in fields: which fields hold one, how the book writes it, whether it is known, and whether it is in force.
-- Assumes nothing.
use Rattle.std.specs.Prelude.{ℕ, Bool, true, not, cond, ◌&&◌, ◌||◌, List, [], ◌∷◌, eqb}
use Rattle.house.specs.Text.{Text, bytes, one_of, number}
use Rattle.lines.specs.Records.{Rec, II, IE, IN, IA}
use Rattle.book.specs.Book.{code_text, vaccine, antigen, reason, manufacturer, dosage_type, reason_not, with_reason, with_antigen}
use Rattle.rules_definitions.specs.Forms.{text, is_historical, is_sound, is_given}
use Rattle.rules_definitions.specs.Contexts.{head_kind}
use Rattle.rules_definitions.specs.Seen.{Setting, Seen}

-- "Sites (000, Table 14)". "Case counts." Document 02, request 2: "grouped by arm, leg, gluteal and other"
abbrev pub arm_sites : List Text
arm_sites = bytes "LA" ∷ bytes "LAF" ∷ bytes "LAL" ∷ bytes "LAU" ∷ bytes "RA" ∷ bytes "RAF" ∷ bytes "RAL" ∷ bytes "RAU" ∷ []

abbrev pub leg_sites : List Text
leg_sites = bytes "LL" ∷ bytes "LLL" ∷ bytes "LLU" ∷ bytes "RL" ∷ bytes "RLL" ∷ bytes "RLU" ∷ []

abbrev pub gluteal_sites : List Text
gluteal_sites = bytes "LDG" ∷ bytes "LG" ∷ bytes "LVG" ∷ bytes "RDG" ∷ bytes "RG" ∷ bytes "RVG" ∷ []

abbrev pub other_sites : List Text
other_sites = bytes "MO" ∷ bytes "MS" ∷ bytes "NO" ∷ bytes "OTH" ∷ bytes "VE" ∷ bytes "WO" ∷ bytes "UNK" ∷ []

unfoldable pub is_site : Text → Bool
is_site t = one_of arm_sites t || one_of leg_sites t || one_of gluteal_sites t || one_of other_sites t

-- "Methods (Table 15)"
unfoldable pub is_method : Text → Bool
is_method t =
    one_of
    (bytes "G" ∷ bytes "ID" ∷ bytes "IM" ∷ bytes "IN" ∷ bytes "INF" ∷ bytes "IV" ∷ bytes "PO" ∷ bytes "SC" ∷ bytes "OTH" ∷ bytes "UNK" ∷ [])
    t

-- "Other codes come from the book.": the kind of entry that field f of a record of kind k names, or 0
unfoldable pub book_kind : ℕ → ℕ → ℕ
book_kind k f =
    cond (eqb k II && eqb f 8) vaccine
    (cond (eqb k II && eqb f 11) reason
    (cond (eqb k II && eqb f 13) dosage_type
    (cond (eqb k II && eqb f 14) manufacturer
    (cond (eqb k IE && eqb f 4) antigen
    (cond (eqb k IN && eqb f 6) reason_not
    (cond (eqb k IA && eqb f 4) antigen
    0))))))

-- "read as two digits (a leading blank becomes zero)"
unfoldable pub reason_read : Text → Text
reason_read [] = []
reason_read (a ∷ []) = 48 ∷ a ∷ []
reason_read (a ∷ b ∷ t) = cond (eqb a 32) 48 a ∷ b ∷ t

-- a field's code as read
unfoldable pub code_read : ℕ → Rec → ℕ → Text
code_read k l f = cond (eqb k II && eqb f 11) (reason_read (text l f)) (text l f)

-- as the book writes it
unfoldable pub code_in : ℕ → Rec → ℕ → Text
code_in k l f = code_text (book_kind k f) (code_read k l f) []

-- the field is given, and its code is one of the paper's sites or methods, or of the book's
unfoldable pub is_known : Setting → ℕ → Rec → ℕ → Bool
is_known s k l f =
    is_given k l f
    && cond (eqb k II && eqb f 9) (is_site (text l f))
    (cond (eqb k II && eqb f 10) (is_method (text l f))
    (s.known (book_kind k f) (code_in k l f)))

-- "the record's date (II 6, also for its IE; IN 5, also for its IA)"
unfoldable pub day_field : ℕ → ℕ
day_field k = cond (eqb k II) 6 5

unfoldable pub day_is_sound : Seen → Bool
day_is_sound v = is_sound (head_kind v.line.kind) v.head (day_field (head_kind v.line.kind))

unfoldable pub record_day : Seen → ℕ
record_day v = number (text v.head (day_field (head_kind v.line.kind)))

-- Document 02, request 1: "for an II and its IE, a code or pair whose end is before today is in force only if II 5 is H (an unsound one is not
-- H, and the rules are still judged) and the old test holds too. An end on or after today is judged as before, and IN and IA records keep the
-- old test, having no indicator."

-- codes and pairs of the record may have an end before today: of an II and its IE only if II 5 is H
unfoldable pub allows_ended : Seen → Bool
allows_ended v = cond (eqb (head_kind v.line.kind) II) (is_historical (text v.head 5)) true

-- a code or pair is in force for the record of a line
unfoldable pub is_in_force : Setting → Seen → ℕ → Text → Bool
is_in_force s v k code = s.in_force_lem (record_day v) k code && (allows_ended v || not (s.ended s.today k code))

-- a vaccine with its reason at II 11, with its antigen at IE 4: the kind of the pair, and the pair as the book writes it
unfoldable pub pair_kind : ℕ → ℕ
pair_kind k = cond (eqb k II) with_reason with_antigen

unfoldable pub pair_in : Seen → ℕ → Text
pair_in v f = code_text (pair_kind v.line.kind) (text v.head 8) (code_read v.line.kind v.line f)

-- The forms of fields: which fields are judged, by what form, which are mandatory, and when a field is sound.
-- Assumes nothing.
use Rattle.std.specs.Prelude.{ℕ, Bool, true, false, not, cond, ◌&&◌, ◌||◌, List, [], ◌∷◌, length, get_or, eqb, ltb}
use Rattle.house.specs.Text.{Text, bytes, any, front, after_front, is_empty, same, one_of, within, is_digit, is_letter, is_letter_or_digit, is_graphic, is_blank, run, number}
use Rattle.dates.specs.Dates.{is_date}
use Rattle.lines.specs.Marks.{judged_text}
use Rattle.lines.specs.Records.{Rec, IV, IH, IP, II, IE, IN, IA, IF}

-- the text of field f as judged, counted from 1; empty where the line has none
unfoldable pub field_in : List Text → ℕ → Text
field_in fs f = judged_text (get_or ([] ∷ fs) f [])

abbrev pub text : Rec → ℕ → Text
text l f = field_in l.fields f

-- The forms, of texts that are not empty

-- "IV 2: `7.2`" is rule 3's, and "IF 3: not empty" is rule 1's: no form is asked of either
unfoldable pub anything : Text → Bool
anything t = true

-- "IH 2: 1 to 3 letters or digits"
unfoldable pub is_prefix : Text → Bool
is_prefix t = run 1 3 is_letter_or_digit t

-- "IH 3: 1 to 10"
unfoldable pub is_batch : Text → Bool
is_batch t = run 1 10 is_letter_or_digit t

-- "IF 2: 1 to 10 digits"
unfoldable pub is_total : Text → Bool
is_total t = run 1 10 is_digit t

-- so many digits at most, at least 1 as a number
unfoldable pub count_form : ℕ → Text → Bool
count_form most t = run 1 most is_digit t && ltb 0 (number t)

-- "Field 2 of IP, II, IE, IN, IA: 1 to 5 digits, at least 1."
unfoldable pub is_number : Text → Bool
is_number t = count_form 5 t

-- "Field 3: the ULI, nine digits."
unfoldable pub is_uli : Text → Bool
is_uli t = run 9 9 is_digit t

-- "II 4 and IN 4: A, C or D."
unfoldable pub is_type : Text → Bool
is_type t = one_of (bytes "A" ∷ bytes "C" ∷ bytes "D" ∷ []) t

-- "II 5: empty or H."
unfoldable pub is_historical : Text → Bool
is_historical t = same t (bytes "H")

-- "II 8, IE 4, IA 4: 1 to 20 bytes in 33..126."
unfoldable pub is_code : Text → Bool
is_code t = run 1 20 is_graphic t

-- "II 9 site, 1 to 4 letters"
unfoldable pub is_site_text : Text → Bool
is_site_text t = run 1 4 is_letter t

-- "10 method, 1 to 3"
unfoldable pub is_method_text : Text → Bool
is_method_text t = run 1 3 is_letter t

-- "II 11 reason: one or two digits, or a blank and a digit"
unfoldable pub is_reason : Text → Bool
is_reason [] = false
is_reason (a ∷ []) = is_digit a
is_reason (a ∷ b ∷ []) = (is_digit a || is_blank a) && is_digit b
is_reason (a ∷ b ∷ c ∷ t) = false

-- nothing, or a point and one or two digits
unfoldable pub is_fraction : Text → Bool
is_fraction [] = true
is_fraction (b ∷ t) = eqb b 46 && run 1 2 is_digit t

-- "II 12 dosage: 1 to 6 digits, then perhaps a point and one or two digits; above 0": some digit is not 0
unfoldable pub is_dosage : Text → Bool
is_dosage t = within 1 6 (length (front is_digit t)) && (is_fraction (after_front is_digit t) && any (within 49 57) t)

-- "13 dosage type, 1 to 4"
unfoldable pub is_dosage_type : Text → Bool
is_dosage_type t = run 1 4 is_letter t

-- "14 manufacturer, 1 to 3"
unfoldable pub is_manufacturer : Text → Bool
is_manufacturer t = run 1 3 is_letter t

unfoldable pub lot_byte : ℕ → Bool
lot_byte b = is_letter_or_digit b || eqb b 45

-- "II 15 lot: 1 to 20 letters, digits or dashes."
unfoldable pub is_lot : Text → Bool
is_lot t = run 1 20 lot_byte t

-- "IE 5: 1 or 2 digits, at least 1."
unfoldable pub is_count : Text → Bool
is_count t = count_form 2 t

-- "IN 6: 1 to 3 letters."
unfoldable pub is_reason_not : Text → Bool
is_reason_not t = run 1 3 is_letter t

-- "IN 7: 1 to 4 digits."
unfoldable pub is_organization : Text → Bool
is_organization t = run 1 4 is_digit t

-- "IN 8: empty, or 1 or 2 letters or digits."
unfoldable pub is_grade : Text → Bool
is_grade t = run 1 2 is_letter_or_digit t

-- The table of the forms, a row for each field that is judged

pub record Row : Type 0 where
  pub kind : ℕ
  pub field : ℕ
  pub form : Text → Bool

abbrev row : ℕ → ℕ → (Text → Bool) → Row
row k f form = record { kind = k; field = f; form = form }

unfoldable pub table : List Row
table =
    row IV 2 anything
    ∷ row IH 2 is_prefix
    ∷ row IH 3 is_batch
    ∷ row IF 2 is_total
    ∷ row IF 3 anything
    ∷ row IP 2 is_number
    ∷ row IP 3 is_uli
    ∷ row IP 25 is_date
    ∷ row II 2 is_number
    ∷ row II 3 is_uli
    ∷ row II 4 is_type
    ∷ row II 5 is_historical
    ∷ row II 6 is_date
    ∷ row II 8 is_code
    ∷ row II 9 is_site_text
    ∷ row II 10 is_method_text
    ∷ row II 11 is_reason
    ∷ row II 12 is_dosage
    ∷ row II 13 is_dosage_type
    ∷ row II 14 is_manufacturer
    ∷ row II 15 is_lot
    ∷ row IE 2 is_number
    ∷ row IE 3 is_uli
    ∷ row IE 4 is_code
    ∷ row IE 5 is_count
    ∷ row IN 2 is_number
    ∷ row IN 3 is_uli
    ∷ row IN 4 is_type
    ∷ row IN 5 is_date
    ∷ row IN 6 is_reason_not
    ∷ row IN 7 is_organization
    ∷ row IN 8 is_grade
    ∷ row IA 2 is_number
    ∷ row IA 3 is_uli
    ∷ row IA 4 is_code
    ∷ []

abbrev pub form_in : List Row → ℕ → ℕ → Text → Bool
form_in [] k f t = true
form_in (r ∷ rs) k f t = cond (eqb k r.kind && eqb f r.field) (r.form t) (form_in rs k f t)

-- the text is of the form of field f of a record of kind k; "Fields not listed are carried unjudged."
unfoldable pub form_of : ℕ → ℕ → Text → Bool
form_of k f t = form_in table k f t

abbrev pub judged_in : List Row → ℕ → ℕ → Bool
judged_in [] k f = false
judged_in (r ∷ rs) k f = (eqb k r.kind && eqb f r.field) || judged_in rs k f

unfoldable pub is_judged : ℕ → ℕ → Bool
is_judged k f = judged_in table k f

-- "a relaxed event: II 5 is exactly H, or 20 is not empty, or 18 is neither empty nor AB, or 18 is empty and 19 is not. This test reads
-- the bytes, sound or not."
unfoldable pub relaxed_by : List Text → Bool
relaxed_by fs =
    same (field_in fs 5) (bytes "H")
    || (not (is_empty (field_in fs 20))
    || ((not (is_empty (field_in fs 18)) && not (same (field_in fs 18) (bytes "AB")))
    || (is_empty (field_in fs 18) && not (is_empty (field_in fs 19)))))

abbrev pub is_relaxed : Rec → Bool
is_relaxed l = relaxed_by l.fields

-- "All of these are mandatory except II 5 and IN 8, and except II 9 to 15 in a relaxed event"
unfoldable pub is_optional : ℕ → Rec → ℕ → Bool
is_optional k l f = (eqb k II && eqb f 5) || (eqb k IN && eqb f 8) || (eqb k II && within 9 15 f && is_relaxed l)

-- Judged as a field of a record of kind k, which is the kind that the line should have: a line that is not there has every field empty

unfoldable pub is_missing : ℕ → Rec → ℕ → Bool
is_missing k l f = is_judged k f && not (is_optional k l f) && is_empty (text l f)

unfoldable pub is_misformed : ℕ → Rec → ℕ → Bool
is_misformed k l f = not (form_of k f (text l f)) && not (is_empty (text l f))

-- "A field is sound if rules 1 and 2 find nothing in it." "An optional empty field is sound"
unfoldable pub is_sound : ℕ → Rec → ℕ → Bool
is_sound k l f = not (is_missing k l f) && not (is_misformed k l f)

-- sound, and not an optional empty field, which "meets no code rule"
unfoldable pub is_given : ℕ → Rec → ℕ → Bool
is_given k l f = is_sound k l f && not (is_empty (text l f))

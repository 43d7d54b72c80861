-- The rules that are broken at a field with later rules, as up to three numbers, 0 for none. Each is of texts as judged: the field's own, and
-- those of the fields that it goes with; and, for an II, of whether it is a relaxed event.
-- Assumes nothing.
use Rattle.std.specs.Prelude.{ℕ, Bool, false, not, cond, ◌&&◌, ◌||◌, [], eqb}
use Rattle.house.specs.Text.{Text, same, is_empty, pad}
use Rattle.lines.specs.Records.{II, IE}
use Rattle.book.specs.declared.Sections.{Sections}
use Rattle.book.specs.Book.{code_text}
use Rattle.rules_definitions.specs.Blocks.{adds, changes, deletes}
use Rattle.rules_definitions.specs.Codes.{book_kind, is_site, is_method, reason_read, pair_kind}
use Rattle.rules_definitions.specs.Rules.{site_wrong, method_wrong}
use Rattle.rules_forms.specs.FieldLeaves.{lowest_in, given_in, lacks_in}
use Rattle.rules_fields.specs.declared.Broken.{Broken}
use Rattle.rules_fields.specs.declared.Day.{Day}
use Rattle.rules_fields.specs.declared.Facts.{Facts}
use Rattle.book.specs.LookUp.{known_by, in_force_until_by}

abbrev pub broken : ℕ → ℕ → ℕ → Broken
broken a b c = record { a = a; b = b; c = c }

-- rules 4 and 5 at a sound field: unless it is empty, its code is known or not, and is out of force or not
unfoldable pub rules4and5_of : Bool → Bool → Bool → ℕ
rules4and5_of empty known out = cond empty 0 (cond known (cond out 5 0) 4)

-- no end is before this day
abbrev pub any_end : ℕ
any_end = 0

-- on a day that is sound, no entry of this kind and code, as the book writes it, is in force with an end that is late enough
abbrev pub is_out : ℕ → Text → Text → Sections → Day → Bool
is_out of code book q day = day.sound && not (in_force_until_by book q day.number day.until of code)

-- rules 4 and 5 of a code of a kind of the book that is given
abbrev pub rules4and5_by : ℕ → Text → Text → Sections → Day → ℕ
rules4and5_by of code book q day =
    rules4and5_of false (known_by book q of (code_text of code [])) (is_out of (code_text of code []) book q day)

-- a pair of codes is absent from the book, or out of force on a day that is sound
abbrev pub is_pair_wrong : ℕ → Text → Text → Text → Sections → Day → Bool
is_pair_wrong pair a b book q day =
    not (known_by book q pair (code_text pair a b)) || is_out pair (code_text pair a b) book q day

-- rules 16 to 18, by the type
unfoldable pub rules16to18_at : Bool → Text → Bool → ℕ
rules16to18_at inb type live = cond inb (cond live (cond (same type adds) 16 0) (cond (same type changes) 17 (cond (same type deletes) 18 0))) 0

-- rules 1, 2, 4 and 5 at field f of a record of kind k with text t, read as this code
abbrev pub code_by : ℕ → Bool → ℕ → Text → Text → Text → Sections → Day → ℕ
code_by k relaxed f t code book q day =
    lowest_in k relaxed f t
    (rules4and5_of (is_empty t) (known_by book q (book_kind k f) (code_text (book_kind k f) code [])) (is_out (book_kind k f) (code_text (book_kind k f) code []) book q day))

-- field f of a record of kind k, with text t read as this code, is given, and the book has its code
abbrev pub code_known_by : ℕ → ℕ → Text → Text → Text → Sections → Bool
code_known_by k f t code book q = given_in k f t && known_by book q (book_kind k f) (code_text (book_kind k f) code [])

-- the field whose code goes with the vaccine: II 11 or IE 4
unfoldable pub pair_field : ℕ → ℕ
pair_field k = cond (eqb k II) 11 4

-- a field with text t and this verdict on its code has no pair to be wrong: the book lacks its code, or it is empty
unfoldable pub unpaired_by : ℕ → Text → Bool
unpaired_by a t = eqb a 4 || is_empty t

-- rule 11 at II 11 or IE 4 with text t, read as this code, and this vaccine
abbrev pub rule11_by : ℕ → Text → Text → Text → Text → Sections → Day → ℕ
rule11_by k t code vaccine book q day =
    cond
    (code_known_by II 8 vaccine vaccine book q && code_known_by k (pair_field k) t code book q && is_pair_wrong (pair_kind k) vaccine code book q day)
    11 0

-- rule 10 at a field with text t, which goes with another one, of this text
abbrev pub rule10_by : Bool → Text → ℕ → Text → ℕ
rule10_by relaxed t other u = cond (lacks_in t other u && relaxed) 10 0

-- rule 9, by whether one of site and method is wrong for the other; at II 9, and at II 10
abbrev pub rule9_by : Bool → Text → Text → ℕ
rule9_by wrong site method = cond (wrong && (given_in II 9 site && given_in II 10 method)) 9 0

abbrev pub rule9_at_site : Text → Text → ℕ
rule9_at_site site method = rule9_by (site_wrong site method) site method

abbrev pub rule9_at_method : Text → Text → ℕ
rule9_at_method site method = rule9_by (method_wrong site method) site method

-- rules 12, 13 and 15, each by whether it is broken
abbrev pub rule12_by : Bool → ℕ
rule12_by again = cond again 12 0

abbrev pub rule13_by : Bool → ℕ
rule13_by differ = cond differ 13 0

abbrev pub rule15_by : Bool → ℕ
rule15_by repeated = cond repeated 15 0

-- IE 4
unfoldable pub ie4_antigen : Text → Text → Bool → Text → Sections → Day → Broken
ie4_antigen t vaccine again book q day =
    broken (code_by IE false 4 t t book q day) (rule11_by IE t t vaccine book q day) (rule12_by again)

-- II 4
unfoldable pub ii4_type : Text → Facts → Broken
ii4_type t facts = broken (lowest_in II false 4 t 0) (rules16to18_at facts.inb t facts.live) 0

-- II 8
unfoldable pub ii8_vaccine : Text → Bool → Text → Sections → Day → Bool → Broken
ii8_vaccine t differ book q day repeated =
    broken (code_by II false 8 t t book q day) (rule13_by differ) (rule15_by repeated)

-- II 9
unfoldable pub ii9_site : Bool → Text → Text → Broken
ii9_site relaxed site method =
    broken (lowest_in II relaxed 9 site (rules4and5_of (is_empty site) (is_site site) false))
    (rule9_at_site site method) (rule10_by relaxed site 10 method)

-- II 10
unfoldable pub ii10_method : Bool → Text → Text → Broken
ii10_method relaxed site method =
    broken (lowest_in II relaxed 10 method (rules4and5_of (is_empty method) (is_method method) false))
    (rule9_at_method site method) (rule10_by relaxed method 9 site)

-- II 11, its reason as two bytes
unfoldable pub ii11_reason : Bool → Text → Text → Text → Sections → Day → Broken
ii11_reason relaxed t vaccine book q day =
    broken (code_by II relaxed 11 t (pad 2 (reason_read t)) book q day) (rule11_by II t (pad 2 (reason_read t)) vaccine book q day) 0

-- II 12
unfoldable pub ii12_dosage : Bool → Text → Text → Broken
ii12_dosage relaxed t type = broken (lowest_in II relaxed 12 t 0) (rule10_by relaxed t 13 type) 0

-- II 13
unfoldable pub ii13_dosage_type : Bool → Text → Text → Text → Sections → Day → Broken
ii13_dosage_type relaxed t dosage book q day = broken (code_by II relaxed 13 t t book q day) (rule10_by relaxed t 12 dosage) 0

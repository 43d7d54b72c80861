-- Working definitions: what a function that judges a field is told, and what it says. No public contract rests on this page.
-- Assumes nothing.
use Rattle.std.specs.Prelude.{ℕ, ◌+◌, ◌≤◌, ◌≡◌, Bool, true, cond, ◌&&◌, List, length, drop, eqb, ltb, Option, unwrap_or}
use Rattle.std.specs.Option.{is_some}
use Rattle.house.specs.Text.{Text, any, those, within}
use Rattle.lines_fields.specs.Lines.{line_of}
use Rattle.lines_fields.specs.Marks.{marks_at, marked_count, judged_in}
use Rattle.lines_fields.specs.Inside.{part}
use Rattle.lines.specs.Records.{IV, IH, IP, II, IE, IN, IA, IF, rec_of}
use Rattle.rules_definitions.specs.Forms.{text, is_sound, is_historical}
use Rattle.rules_definitions.specs.Seen.{Setting, Seen}
use Rattle.rules_definitions.specs.Codes.{day_is_sound, record_day, allows_ended}
use Rattle.rules_definitions.specs.Rules.{same_antigen, counts_sound, sets_differ, same_lot, Numbered, rules_at, broken_by, broken_at}
use Rattle.rules_definitions.specs.Findings.{fields_findings}
use Rattle.rules_forms.specs.FieldLeaves.{relaxed_if}
use Rattle.rules_plain.specs.PlainFields.{born_of}
use Rattle.rules_fields.specs.declared.Broken.{Broken}
use Rattle.rules_fields.specs.declared.Day.{Day}
use Rattle.book.specs.LookUp.{known_by, in_force_by, ended_by}
use Rattle.rules_fields.specs.Fields.{any_end}
use Rattle.rules.specs.declared.By.{By}
use Rattle.rules.specs.declared.Here.{Here}
use Rattle.rules.specs.Inside.{kept, keep, listed}

-- a rule after the first two
abbrev pub is_later : Numbered → Bool
is_later x = ltb 2 x.number

-- those of the later rules that are placed at a field and broken there
unfoldable pub later_at : Setting → Seen → ℕ → List ℕ
later_at s v f = broken_by s v f (those is_later (rules_at s v.line.kind f))

-- WHAT IS TOLD OF WHAT IS SEEN FROM A LINE, AND OF WHAT THE FILE IS JUDGED BY

-- the record's day
pub record DayIs (sound : Bool) (number : ℕ) (v : Seen) : Type 0 where
  pub sound_is : day_is_sound v ≡ sound
  pub number_is : sound ≡ true → record_day v ≡ number

-- the day of a record, whose codes are not to have ended before another
abbrev pub day_until : Option ℕ → ℕ → Day
day_until day until = record { sound = is_some day; number = unwrap_or day 0; until = until }

-- the day of an II, by whether II 5 is H
abbrev pub ii_day : Option ℕ → Bool → ℕ → Day
ii_day day historical today = day_until day (cond historical any_end today)

-- the record's day, and the day that its codes are not to have ended before
pub record AskedOn (day : Day) (s : Setting) (v : Seen) : Type 0 where
  pub day_is : DayIs day.sound day.number v
  pub until_is : day.until ≡ cond (allows_ended v) any_end s.today

-- today, and what look-ups in the book say
pub record Looks (by : By) (book : Text) (s : Setting) : Type 0 where
  pub today_is : s.today ≡ by.today
  pub known_is : s.known ≡ known_by book by.sections
  pub force_is : s.in_force_lem ≡ in_force_by book by.sections
  pub ended_is : s.ended ≡ ended_by book by.sections

-- what an II shows of its block: whether an earlier II of it has its lot, and whether its antigens differ from those of the first
pub record Blocked (h : Here) (v : Seen) : Type 0 where
  pub inb_is : v.in_block ≡ h.facts.inb
  pub again_is : any (same_lot v.line) v.block ≡ h.again
  pub differ_is : v.not_first && (counts_sound v.own && (counts_sound v.first && sets_differ v.own v.first)) ≡ h.differ
  pub repeated_is : v.repeated ≡ h.facts.repeated
  pub live_is : v.in_block ≡ true → v.live ≡ h.facts.live

-- all that a line's fields are judged by
pub record Told (file : Text) (marks : List ℕ) (h : Here) (book : Text) (by : By) (s : Setting) (v : Seen) : Type 0 where
  pub looks : Looks by book s
  pub inside : h.at ≤ length file
  pub marked : marks ≡ marks_at file h.at
  pub line_is : v.line ≡ rec_of (line_of (drop h.at file)).text
  pub kind_is : h.kind ≡ v.line.kind
  pub place_is : v.place ≡ h.place
  pub uli_is : text v.ip 3 ≡ part file h.uli.start h.uli.end
  pub born_is : born_of v.ip ≡ h.born
  pub day_is : within II IA v.line.kind ≡ true → DayIs (is_some h.day) (unwrap_or h.day 0) v
  pub historical_is : within II IE v.line.kind ≡ true → is_historical (text v.head 5) ≡ h.historical
  pub vaccine_is : within II IE v.line.kind ≡ true → text v.head 8 ≡ part file h.vaccine.start h.vaccine.end
  pub again_is : v.line.kind ≡ IE → is_sound IE v.line 4 && any (same_antigen v.line) v.antigens ≡ h.again
  pub blocked : v.line.kind ≡ II → Blocked h v

-- WHAT IS SAID OF A FIELD

-- r are the rules that are broken at field f
pub record Judges (file : Text) (marks : List ℕ) (h : Here) (book : Text) (by : By) (f : ℕ) (r : Broken) : Type 0 where
  pub are : (s : Setting) (v : Seen) → Told file marks h book by s v → listed r ≡ broken_at s v f

-- no rule at a record of kind k asks anything of the book
pub record Bookless (k : ℕ) : Type 0 where
  pub no_ii_lem : k ≡ II → ⊥
  pub no_ie : k ≡ IE → ⊥
  pub no_in : k ≡ IN → ⊥
  pub no_ia : k ≡ IA → ⊥

-- the most findings of a line: three at each of its 28 fields
abbrev pub line_most : ℕ
line_most = 84

-- the findings of all fields of a line are put to the others
pub record JudgesLine (file : Text) (marks : List ℕ) (h : Here) (book : Text) (by : By) (count : ℕ) (area : Text) (r : ℕ) (after : Text) : Type 0 where
  pub are : (s : Setting) (v : Seen) → Told file marks h book by s v → kept r after ≡ keep (fields_findings s h.n v 1 (length v.line.fields)) (kept count area)
  pub few : r ≤ count + line_most

-- the event of the II with these marks is relaxed
unfoldable pub relaxed_in : Text → List ℕ → Bool
relaxed_in file marks = relaxed_if (judged_in file marks 5) (judged_in file marks 18) (judged_in file marks 19) (judged_in file marks 20)

-- THE FIELDS OF A LINE ONE AFTER THE OTHER

-- the last field of a record of kind k that a rule is placed on
unfoldable pub last_field : ℕ → ℕ
last_field k =
    cond (eqb k IV) 2
    (cond (eqb k IH) 3
    (cond (eqb k IP) 25
    (cond (eqb k II) 15
    (cond (eqb k IE) 5
    (cond (eqb k IN) 8
    (cond (eqb k IA) 4
    (cond (eqb k IF) 3
    0)))))))

-- the last that is judged, of a line that has so many
unfoldable pub last_of : ℕ → ℕ → ℕ
last_of k n = cond (ltb n (last_field k)) n (last_field k)

-- the field that is judged after field f: of an IP none between 3 and 25
unfoldable pub next_field : ℕ → ℕ → ℕ
next_field k f = cond (eqb k IP && eqb f 3) 25 (f + 1)

-- the findings of the fields of a line up to the last that is judged, each by a function, are put to the others
pub record JudgesFields (post : ℕ → Broken → Type 0) (h : Here) (last count : ℕ) (area : Text) (r : ℕ) (after : Text) : Type 0 where
  pub line_is : (file : Text) (marks : List ℕ) (book : Text) (by : By) → last ≡ last_of h.kind (marked_count marks)
      → ((f : ℕ) (b : Broken) → f ≤ 28 → post f b → Judges file marks h book by f b) → JudgesLine file marks h book by count area r after

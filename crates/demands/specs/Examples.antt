-- The examples at the edges that document 01 marks P, as one list of tests.
-- Assumes nothing.
use Rattle.std.specs.Prelude.{ℕ, ◌≡◌, Bool, true, not, ◌&&◌, List, [], ◌∷◌, ◌++◌, replicate}
use Prim.Native.String.{String}
use Rattle.house.specs.Text.{Text, bytes, same, all}
use Rattle.dates.specs.Dates.{is_date, is_day}
use Rattle.house.specs.Key.{key_of}
use Rattle.lines.specs.Records.{Rec, II, rec_of}
use Rattle.rules.specs.Forms.{is_sound}
use Rattle.rules.specs.Codes.{code_read}
use Rattle.rules.specs.FileE.{file_of, book_e, file_with, four, six, seven, file_e}
use Rattle.answers.specs.Answers.{Lent, Outcome, check, numbers_of}

-- the file that deletes what File E adds
unfoldable pub file_d : Text
file_d =
    file_with "II|2|123456789|D||20220901||TESTV|LA|IM|50|0.5|ML|GSK|L1||||||||"
    "II|4|123456789|D||20220901||TESTV|LA|IM|50|0.5|ML|GSK|L2||||||||"
    seven

-- so many bytes of a free slot or of a findings area
abbrev pub zeros : ℕ → Text
zeros n = replicate n 0

-- the event of a day that the examples' patient and vaccine name
abbrev pub event_on : String → Text
event_on day = key_of (bytes "123456789") (bytes day) (bytes "TESTV")

-- with book E, "Today 20220930", and room for two findings and a byte
abbrev pub lent_e : Text → Text → Lent
lent_e file ledger = record { today = 20220930; file = file; book = book_e; ledger = ledger; area = zeros 13 }

abbrev pub on : Text → Text → Outcome
on file ledger = check (lent_e file ledger)

-- the answer's numbers, the ledger and the findings area are these
abbrev pub gives : Outcome → List ℕ → Text → Text → Bool
gives o numbers ledger area = same (numbers_of o.answer) numbers && (same o.ledger ledger && same o.area area)

-- the bytes of a finding
abbrev finding : ℕ → ℕ → ℕ → Text
finding line field rule = rule ∷ line ∷ 0 ∷ 0 ∷ 0 ∷ field ∷ []

abbrev accepted_as : ℕ → ℕ → ℕ → List ℕ
accepted_as added changed deleted = 0 ∷ 0 ∷ 0 ∷ 0 ∷ added ∷ changed ∷ deleted ∷ 0 ∷ []

abbrev found_as : ℕ → List ℕ
found_as n = 6 ∷ 0 ∷ 0 ∷ n ∷ 0 ∷ 0 ∷ 0 ∷ 0 ∷ []

abbrev shape_as : ℕ → ℕ → List ℕ
shape_as line cause = 5 ∷ line ∷ cause ∷ 0 ∷ 0 ∷ 0 ∷ 0 ∷ 0 ∷ []

-- "P1 File E: answer 0, one added."
unfoldable pub p1 : Bool
p1 = gives (on file_e (zeros 38)) (accepted_as 1 0 0) (1 ∷ event_on "20220901") (zeros 13)

-- "P2 lot L1 on line 6: one finding, 6/15/14."
unfoldable pub p2 : Bool
p2 =
    gives (on (file_with four "II|4|123456789|A||20220901||TESTV|LA|IM|50|0.5|ML|GSK|L1||||||||" seven) (zeros 38)) (found_as 1) (zeros 38)
    (finding 6 15 14 ++ zeros 7)

-- "P3 count 2 on line 7: 6/8/13"
unfoldable pub p3 : Bool
p3 = gives (on (file_with four six "IE|5|123456789|TESTA|2|") (zeros 38)) (found_as 1) (zeros 38) (finding 6 8 13 ++ zeros 7)

-- "count 01: accepted."
unfoldable pub p3_01 : Bool
p3_01 = gives (on (file_with four six "IE|5|123456789|TESTA|01|") (zeros 38)) (accepted_as 1 0 0) (1 ∷ event_on "20220901") (zeros 13)

-- "P4 File E again on the ledger it left: findings 4/4/16 and 6/4/16."
unfoldable pub p4 : Bool
p4 =
    gives (on file_e (on file_e (zeros 38)).ledger) (found_as 2) (1 ∷ event_on "20220901")
    (finding 4 4 16 ++ finding 6 4 16 ++ zeros 1)

-- "P5 zero slots: FULL."
unfoldable pub p5 : Bool
p5 = gives (on file_e []) (7 ∷ 0 ∷ 0 ∷ 0 ∷ 0 ∷ 0 ∷ 0 ∷ 0 ∷ []) [] (zeros 13)

-- "P6 empty file: SHAPE, line 1, cause 7."
unfoldable pub p6 : Bool
p6 = gives (on [] (zeros 38)) (shape_as 1 7) (zeros 38) (zeros 13)

-- "P7 20240229 is a date, 20230229 isn't."
unfoldable pub p7 : Bool
p7 = is_date (bytes "20240229") && is_day 20240229 && not (is_date (bytes "20230229")) && not (is_day 20230229)

-- an II with this reason and this dosage
abbrev ii_with : String → String → Rec
ii_with reason dosage =
    rec_of (bytes "II|2|123456789|A||20220901||TESTV|LA|IM|" ++ bytes reason ++ bytes "|" ++ bytes dosage ++ bytes "|ML|GSK|L1||||||||")

abbrev dosage_sound : String → Bool
dosage_sound t = is_sound II (ii_with "50" t) 12

-- "P8 dosages 0.01 and 999999.99 are sound; 0.00, 1000000 and .5 aren't."
unfoldable pub p8 : Bool
p8 = dosage_sound "0.01" && dosage_sound "999999.99" && not (dosage_sound "0.00") && not (dosage_sound "1000000") && not (dosage_sound ".5")

-- the reason of an II as read
abbrev read_as : String → Text
read_as t = code_read II (ii_with t "0.5") 11

abbrev reason_sound : String → Bool
reason_sound t = is_sound II (ii_with t "0.5") 11

-- "P9 reasons "2" and " 2" read 02; two blanks are unsound."
unfoldable pub p9 : Bool
p9 =
    reason_sound "2"
    && reason_sound " 2"
    && same (read_as "2") (bytes "02")
    && same (read_as " 2") (bytes "02")
    && not (reason_sound "  ")

-- "P10 PO with LA: II 9 rule 9 only."
unfoldable pub p10 : Bool
p10 =
    gives (on (file_with four "II|4|123456789|A||20220901||TESTV|LA|PO|50|0.5|ML|GSK|L2||||||||" seven) (zeros 38)) (found_as 1) (zeros 38)
    (finding 6 9 9 ++ zeros 7)

-- "P11 one slot, live X; a file deletes X and adds Y: accepted.", whichever stands first
unfoldable pub p11 : Bool
p11 =
    gives
    (on (file_with four "II|4|123456789|D||20220801||TESTV|LA|IM|50|0.5|ML|GSK|L2||||||||" seven) (1 ∷ event_on "20220801"))
    (accepted_as 1 0 1)
    (1 ∷ event_on "20220901")
    (zeros 13)
    && gives
    (on (file_with "II|2|123456789|D||20220801||TESTV|LA|IM|50|0.5|ML|GSK|L1||||||||" six seven) (1 ∷ event_on "20220801"))
    (accepted_as 1 0 1)
    (1 ∷ event_on "20220901")
    (zeros 13)

-- "P12 an IF without its LF: cause 1."
unfoldable pub p12 : Bool
p12 = gives (on (file_of ("IV|7.2|" ∷ "IH|10|000001|" ∷ []) ++ bytes "IF|3|0|") (zeros 38)) (shape_as 3 1) (zeros 38) (zeros 13)

unfoldable pub cases : List Bool
cases = p1 ∷ p2 ∷ p3 ∷ p3_01 ∷ p4 ∷ p5 ∷ p6 ∷ p7 ∷ p8 ∷ p9 ∷ p10 ∷ p11 ∷ p12 ∷ []

-- Every case holds of the definitions.
abbrev pub CasesHold : Type 0
CasesHold = all (λ (b : Bool). b) cases ≡ true

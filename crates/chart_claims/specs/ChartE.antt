-- The chart that document 01's File E is written from, and cases that the prover computes.
-- Assumes nothing.
use Rattle.std.specs.Prelude.{ℕ, ◌+◌, ◌-◌, ◌≡◌, Bool, true, ◌&&◌, List, [], ◌∷◌, ◌++◌, length, replicate, eqb}
use Prim.Native.String.{String}
use Rattle.house.specs.Text.{Text, bytes, all, same, pad}
use Rattle.lines.specs.Lines.{pipe}
use Rattle.rules_definitions.specs.FileE.{file_of, file_e}
use Rattle.chart_definitions.specs.Charts.{record_kind, widths_of}
use Rattle.chart_definitions.specs.Submissions.{request, Written, write}

-- CHARTS

-- fields "padded with blanks to the lengths" given; those that are not named are empty
abbrev pub padded : List ℕ → List String → Text
padded [] ss = []
padded (w ∷ ws) [] = pad w [] ++ padded ws []
padded (w ∷ ws) (s ∷ ss) = pad w (bytes s) ++ padded ws ss

-- "one byte of kind .. then the fields from field 3 on"
abbrev pub charted : ℕ → List String → Text
charted b ss = b ∷ padded (widths_of (record_kind b)) ss

-- File E's patient
abbrev pub patient : Text
patient =
    charted 1
    ("123456789" ∷ "" ∷ "" ∷ "" ∷ "" ∷ "SMITH" ∷ "JOHN" ∷ "" ∷ "" ∷ "" ∷ "" ∷ "" ∷ "" ∷ "" ∷ "" ∷ "" ∷ "" ∷ "" ∷ "" ∷ "" ∷ "" ∷ "" ∷ "20150301" ∷ [])

-- an immunization: its vaccine, day and lot
abbrev pub dose : String → String → String → Text
dose vaccine day lot =
    charted 2 ("123456789" ∷ "A" ∷ "" ∷ day ∷ "" ∷ vaccine ∷ "LA" ∷ "IM" ∷ "50" ∷ "0.5" ∷ "ML" ∷ "GSK" ∷ lot ∷ [])

-- its antigen count
abbrev pub count : String → Text
count n = charted 3 ("123456789" ∷ "TESTA" ∷ n ∷ [])

-- two lots of File E's event
abbrev pub first : Text
first = dose "TESTV" "20220901" "L1" ++ count "1"

abbrev pub second : Text
second = dose "TESTV" "20220901" "L2" ++ count "2"

-- and another event
abbrev pub other : Text
other = dose "TESTV" "20220902" "L9" ++ count "3"

unfoldable pub chart_e : Text
chart_e = patient ++ first ++ dose "TESTV" "20220901" "L2" ++ count "1"

-- FILES: these lines between header and footer

abbrev pub file_from : List String → String → Text
file_from lines footer = file_of ("IV|7.2|" ∷ "IH|10|000001|" ∷ []) ++ file_of lines ++ file_of (footer ∷ [])

-- the lots of one event brought together, the other event behind them, and all numbered afresh
unfoldable pub file_together : Text
file_together =
    file_from
    ("IP|1|123456789|||||SMITH|JOHN||||||||||||||||20150301|||"
    ∷ "II|2|123456789|A||20220901||TESTV|LA|IM|50|0.5|ML|GSK|L1||||||||"
    ∷ "IE|3|123456789|TESTA|1|"
    ∷ "II|4|123456789|A||20220901||TESTV|LA|IM|50|0.5|ML|GSK|L2||||||||"
    ∷ "IE|5|123456789|TESTA|2|"
    ∷ "II|6|123456789|A||20220902||TESTV|LA|IM|50|0.5|ML|GSK|L9||||||||"
    ∷ "IE|7|123456789|TESTA|3|"
    ∷ [])
    "IF|10|0|"

-- the same lots under two IP of one ULI
unfoldable pub file_apart : Text
file_apart =
    file_from
    ("IP|1|123456789|||||SMITH|JOHN||||||||||||||||20150301|||"
    ∷ "II|2|123456789|A||20220901||TESTV|LA|IM|50|0.5|ML|GSK|L1||||||||"
    ∷ "IE|3|123456789|TESTA|1|"
    ∷ "II|4|123456789|A||20220902||TESTV|LA|IM|50|0.5|ML|GSK|L9||||||||"
    ∷ "IE|5|123456789|TESTA|3|"
    ∷ "IP|6|123456789|||||SMITH|JOHN||||||||||||||||20150301|||"
    ∷ "II|7|123456789|A||20220901||TESTV|LA|IM|50|0.5|ML|GSK|L2||||||||"
    ∷ "IE|8|123456789|TESTA|2|"
    ∷ [])
    "IF|11|0|"

-- two lots without a vaccine
unfoldable pub file_empty : Text
file_empty =
    file_from
    ("IP|1|123456789|||||SMITH|JOHN||||||||||||||||20150301|||"
    ∷ "II|2|123456789|A||20220901|||LA|IM|50|0.5|ML|GSK|L1||||||||"
    ∷ "IE|3|123456789|TESTA|1|"
    ∷ "II|4|123456789|A||20220901|||LA|IM|50|0.5|ML|GSK|L2||||||||"
    ∷ "IE|5|123456789|TESTA|2|"
    ∷ "II|6|123456789|A||20220902||TESTV|LA|IM|50|0.5|ML|GSK|L9||||||||"
    ∷ "IE|7|123456789|TESTA|3|"
    ∷ [])
    "IF|10|0|"

-- a refusal of vaccine, of a patient whose ULI was given with blanks
unfoldable pub file_refusal : Text
file_refusal =
    file_from
    ("IP|1|12 3|||||||||||||||||||||||||" ∷ "IN|2|123456789|A|20220901|REF|10||" ∷ "IA|3|123456789|TESTA|" ∷ "IA|4|123456789|TESTB|" ∷ []) "IF|7|0|"

-- CASES

-- an area of so many bytes
abbrev pub area_of : ℕ → Text
area_of n = replicate n 7

abbrev pub on : Text → Text → Written
on chart area = write (request (bytes "10") (bytes "000001") chart area)

abbrev pub gives : Written → ℕ → ℕ → Text → Bool
gives w answer long area = eqb w.answer answer && (eqb w.length long && same w.area area)

-- the chart gives the file, "and bytes past the file stay"
abbrev pub writes : Text → Text → Bool
writes chart file = gives (on chart (area_of (length file + 3))) 0 (length file) (file ++ area_of 3)

-- 8, and the area is untouched
abbrev pub refused_by : String → String → Text → Bool
refused_by prefix batch chart = gives (write (request (bytes prefix) (bytes batch) chart (area_of 9))) 8 0 (area_of 9)

abbrev pub is_refused : Text → Bool
is_refused chart = refused_by "10" "000001" chart

-- File E's chart gives File E
unfoldable pub e1 : Bool
e1 = writes chart_e file_e

-- an area just as long as the file
unfoldable pub e2 : Bool
e2 = gives (on chart_e (area_of (length file_e))) 0 (length file_e) file_e

-- one byte short: 9
unfoldable pub e3 : Bool
e3 = gives (on chart_e (area_of (length file_e - 1))) 9 0 (area_of (length file_e - 1))

-- lots of one event are brought together, each with its own antigen count
unfoldable pub e4 : Bool
e4 = writes (patient ++ first ++ other ++ second) file_together

-- so they are if the vaccine of one has blanks before it
unfoldable pub e5 : Bool
e5 = writes (patient ++ first ++ other ++ dose " TESTV" "20220901" "L2" ++ count "2") file_together

-- and if none has a vaccine
unfoldable pub e6 : Bool
e6 = writes (patient ++ dose "" "20220901" "L1" ++ count "1" ++ other ++ dose "" "20220901" "L2" ++ count "2") file_empty

-- under two IP of one ULI they are kept apart
unfoldable pub e7 : Bool
e7 = writes (patient ++ first ++ other ++ patient ++ second) file_apart

-- an IN with its IA; blanks at the ends of a field are not written, one inside is
unfoldable pub e8 : Bool
e8 =
    writes
    (charted 1 (" 12 3 " ∷ [])
    ++ charted 4 ("123456789" ∷ "A" ∷ "20220901" ∷ "REF" ∷ "10" ∷ [])
    ++ charted 5 ("123456789" ∷ "TESTA" ∷ [])
    ++ charted 5 ("123456789" ∷ "TESTB" ∷ []))
    file_refusal

-- no patient at all
unfoldable pub e9 : Bool
e9 = writes [] (file_from [] "IF|3|0|")

-- REFUSALS: 8

-- not in guideline order: an immunization without antigen count, an IP alone
unfoldable pub e10 : Bool
e10 = is_refused (patient ++ dose "TESTV" "20220901" "L1") && is_refused patient

-- a record cut short, an unknown kind
unfoldable pub e11 : Bool
e11 = is_refused (1 ∷ bytes "123456789") && (is_refused (patient ++ first ++ (6 ∷ [])) && is_refused (0 ∷ []))

-- an antigen count of this byte and a blank
abbrev pub counted : ℕ → Text
counted b = patient ++ dose "TESTV" "20220901" "L1" ++ (3 ∷ padded (9 ∷ 15 ∷ []) ("123456789" ∷ "TESTA" ∷ []) ++ (b ∷ 32 ∷ []))

-- "a byte outside 32..126" and a pipe; 32 and 126 are no such bytes (9 is the answer, as no area is lent)
unfoldable pub e12 : Bool
e12 =
    is_refused (counted 31)
    && (is_refused (counted 127)
    && (is_refused (counted pipe) && (eqb (on (counted 32) []).answer 9 && eqb (on (counted 126) []).answer 9)))

-- "a prefix or batch number not of its form": with a byte that is no letter or digit, or padded
unfoldable pub e13 : Bool
e13 = refused_by "1-" "000001" [] && refused_by "10" "000001 " []

unfoldable pub cases : List Bool
cases = e1 ∷ e2 ∷ e3 ∷ e4 ∷ e5 ∷ e6 ∷ e7 ∷ e8 ∷ e9 ∷ e10 ∷ e11 ∷ e12 ∷ e13 ∷ []

abbrev pub CasesHold : Type 0
CasesHold = all (λ (b : Bool). b) cases ≡ true

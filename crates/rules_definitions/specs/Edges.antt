-- Each rule at work: an edit of File E, of its book, of today or of the ledger that breaks it, with every finding due. One claim, computed.
-- (Document 01's own cases, which speak of whole answers, stand in demands/specs/Examples.antt.)
-- Assumes nothing.
use Rattle.std.specs.Prelude.{ℕ, ◌≡◌, Bool, true, false, ◌&&◌, List, [], ◌∷◌, ◌++◌, eqb}
use Prim.Native.String.{String}
use Rattle.house.specs.Text.{Text, bytes, all, pad}
use Rattle.house.specs.Key.{key_of}
use Rattle.book.specs.Book.{Entry, book_of, listed, listed_on, listed_ended}
use Rattle.ledger.specs.Ledger.{Event, is_among}
use Rattle.rules_definitions.specs.Seen.{Setting}
use Rattle.rules_definitions.specs.Findings.{Finding, findings_of}
use Rattle.rules_definitions.specs.FileE.{file_of, book_e, file_with, four, six, seven, file_e}

-- a finding due: line, field, rule
abbrev at : ℕ → ℕ → ℕ → Finding
at line field rule = record { line = line; field = field; rule = rule }

abbrev same_finding : Finding → Finding → Bool
same_finding x y = eqb x.line y.line && (eqb x.field y.field && eqb x.rule y.rule)

abbrev same_all : List Finding → List Finding → Bool
same_all [] [] = true
same_all [] (y ∷ ys) = false
same_all (x ∷ xs) [] = false
same_all (x ∷ xs) (y ∷ ys) = same_finding x y && same_all xs ys

abbrev setting_by : ℕ → List Entry → List Event → Setting
setting_by today book live = record { profile = 0; today = today; known = listed book; in_force_lem = listed_on book; ended = listed_ended book; live = is_among live }

-- the findings of a file, on a day, by a book, over live events, are these
abbrev gives : ℕ → Text → List Event → Text → List Finding → Bool
gives today book live file due = same_all (findings_of (setting_by today (book_of book) live) file) due

-- of File E with other lines
abbrev edited : Text → List Finding → Bool
edited file due = gives 20220930 book_e [] file due

abbrev event_e : Event
event_e = key_of (bytes "123456789") (bytes "20220901") (bytes "TESTV")

-- Book E with another end of the manufacturer, and with or without its pair of vaccine and reason
abbrev book_with : String → Text → Text
book_with end pair =
    1 ∷ pad 20 (bytes "TESTV") ++ bytes "20000101" ++ bytes "99999999"
    ++ (2 ∷ pad 20 (bytes "TESTA") ++ bytes "99999999")
    ++ (3 ∷ bytes "50" ++ bytes "99999999")
    ++ (4 ∷ bytes "GSK" ++ bytes end)
    ++ (5 ∷ pad 4 (bytes "ML") ++ bytes "99999999")
    ++ pair
    ++ (8 ∷ pad 20 (bytes "TESTV") ++ pad 20 (bytes "TESTA") ++ bytes "99999999")

abbrev with_reason : Text
with_reason = 7 ∷ pad 20 (bytes "TESTV") ++ bytes "50" ++ bytes "99999999"

-- File E with these lines between its IP and its IF
abbrev visits : List String → Text
visits ls = file_of (("IV|7.2|" ∷ "IH|10|000001|" ∷ "IP|1|123456789|||||SMITH|JOHN||||||||||||||||20150301|||" ∷ ls) ++ ("IF|8|0|" ∷ []))

-- nothing broken
unfoldable pub edge0 : Bool
edge0 = edited file_e []

-- an empty dosage
unfoldable pub edge1 : Bool
edge1 = edited (file_with "II|2|123456789|A||20220901||TESTV|LA|IM|50||ML|GSK|L1||||||||" six seven) (at 4 12 1 ∷ [])

-- a lot with an underscore
unfoldable pub edge2 : Bool
edge2 = edited (file_with "II|2|123456789|A||20220901||TESTV|LA|IM|50|0.5|ML|GSK|L_1||||||||" six seven) (at 4 15 2 ∷ [])

-- another version
unfoldable pub edge3 : Bool
edge3 = edited (file_of ("IV|7.20|" ∷ "IH|10|000001|" ∷ "IF|3|0|" ∷ [])) (at 1 2 3 ∷ [])

-- a manufacturer that the book has not, and a site that document 01 has not
unfoldable pub edge4 : Bool
edge4 = edited (file_with "II|2|123456789|A||20220901||TESTV|la|IM|50|0.5|ML|XYZ|L1||||||||" six seven) (at 4 9 4 ∷ at 4 14 4 ∷ [])

-- on the day of the visit, a manufacturer that ended the day before; on its last day it is in force
unfoldable pub edge5 : Bool
edge5 =
    gives 20220901 (book_with "20220831" with_reason) [] file_e (at 4 14 5 ∷ at 6 14 5 ∷ [])
    && gives 20220901 (book_with "20220901" with_reason) [] file_e []

-- another patient's ULI on an IE
unfoldable pub edge6 : Bool
edge6 = edited (file_with four six "IE|5|123456780|TESTA|1|") (at 7 3 6 ∷ [])

-- a number out of its place; 00005 is 5
unfoldable pub edge7 : Bool
edge7 =
    edited (file_with four six "IE|6|123456789|TESTA|1|") (at 7 2 7 ∷ [])
    && edited (file_with four six "IE|00005|123456789|TESTA|1|") []

-- a visit tomorrow; a visit before the birth, in a block of its own
unfoldable pub edge8 : Bool
edge8 =
    gives 20220831 book_e [] file_e (at 4 6 8 ∷ at 6 6 8 ∷ [])
    && edited (file_with "II|2|123456789|A||20150228||TESTV|LA|IM|50|0.5|ML|GSK|L1||||||||" six seven) (at 4 6 8 ∷ [])

-- method IN without site NO, and site MO without method PO
unfoldable pub edge9 : Bool
edge9 =
    edited (file_with "II|2|123456789|A||20220901||TESTV|LA|IN|50|0.5|ML|GSK|L1||||||||" six seven) (at 4 9 9 ∷ [])
    && edited (file_with "II|2|123456789|A||20220901||TESTV|MO|IM|50|0.5|ML|GSK|L1||||||||" six seven) (at 4 10 9 ∷ [])

-- in a relaxed event, a site without its method and a type without its dosage
unfoldable pub edge10 : Bool
edge10 =
    edited (file_with "II|2|123456789|A|H|20220901||TESTV|LA||50||ML|GSK|L1||||||||" six seven) (at 4 10 10 ∷ at 4 12 10 ∷ [])

-- a pair that the book has not
unfoldable pub edge11 : Bool
edge11 = gives 20220930 (book_with "99999999" []) [] file_e (at 4 11 11 ∷ at 6 11 11 ∷ [])

-- Document 02, request 1: codes and pairs that ended since the visit, at rules 5 and 11

-- Book E and a reason REF for no immunization, its vaccine with a start, its codes with one end and its pairs with another
abbrev book_ending : String → String → String → Text
book_ending start codes pairs =
    1 ∷ pad 20 (bytes "TESTV") ++ bytes start ++ bytes codes
    ++ (2 ∷ pad 20 (bytes "TESTA") ++ bytes codes)
    ++ (3 ∷ bytes "50" ++ bytes codes)
    ++ (4 ∷ bytes "GSK" ++ bytes codes)
    ++ (5 ∷ pad 4 (bytes "ML") ++ bytes codes)
    ++ (6 ∷ bytes "REF" ++ bytes codes)
    ++ (7 ∷ pad 20 (bytes "TESTV") ++ bytes "50" ++ bytes pairs)
    ++ (8 ∷ pad 20 (bytes "TESTV") ++ pad 20 (bytes "TESTA") ++ bytes pairs)

-- on 20220930, with these ends, the findings of an II with its IE, and of an IN of 20220901 with its IA, are these
abbrev ending : String → String → String → List Finding → Bool
ending codes pairs ii due =
    gives 20220930 (book_ending "20000101" codes pairs) []
    (visits (ii ∷ "IE|3|123456789|TESTA|1|" ∷ "IN|4|123456789|A|20220901|REF|1234||" ∷ "IA|5|123456789|TESTA|" ∷ []))
    due

-- the II of 20220901 with H, and with h
abbrev with_h : String
with_h = "II|2|123456789|A|H|20220901||TESTV|LA|IM|50|0.5|ML|GSK|L1||||||||"

abbrev unsound : String
unsound = "II|2|123456789|A|h|20220901||TESTV|LA|IM|50|0.5|ML|GSK|L1||||||||"

-- at each code of an II and its IE, and at each of their pairs; at no code of the IN and its IA
abbrev retired : List Finding
retired = at 4 8 5 ∷ at 4 11 5 ∷ at 4 11 11 ∷ at 4 13 5 ∷ at 4 14 5 ∷ at 5 4 5 ∷ at 5 4 11 ∷ []

-- an end yesterday, without H and with it
unfoldable pub end_yesterday : Bool
end_yesterday = ending "20220929" "20220929" four retired && ending "20220929" "20220929" with_h []

-- today
unfoldable pub end_today : Bool
end_today = ending "20220930" "20220930" four [] && ending "20220930" "20220930" with_h []

-- tomorrow
unfoldable pub end_tomorrow : Bool
end_tomorrow = ending "20221001" "20221001" four [] && ending "20221001" "20221001" with_h []

-- on the day of the visit
unfoldable pub end_that_day : Bool
end_that_day = ending "20220901" "20220901" four retired && ending "20220901" "20220901" with_h []

-- the day before the visit: H does not help, and the IN and its IA are judged by the day as before
unfoldable pub end_before : Bool
end_before = ending "20220831" "20220831" with_h (retired ++ (at 6 6 5 ∷ at 7 4 5 ∷ []))

-- yesterday, of codes alone and of pairs alone
unfoldable pub end_of_one : Bool
end_of_one =
    ending "20220929" "99999999" four (at 4 8 5 ∷ at 4 11 5 ∷ at 4 13 5 ∷ at 4 14 5 ∷ at 5 4 5 ∷ [])
    && ending "99999999" "20220929" four (at 4 11 11 ∷ at 5 4 11 ∷ [])

-- yesterday and today, with an unsound II 5: it is not H, and the rules are still judged
unfoldable pub end_unsound : Bool
end_unsound =
    ending "20220929" "20220929" unsound (at 4 5 2 ∷ retired) && ending "20220930" "20220930" unsound (at 4 5 2 ∷ [])

-- yesterday, with an unsound date: nothing is asked of the days of a code
unfoldable pub end_undated : Bool
end_undated = ending "20220929" "20220929" "II|2|123456789|A||20220931||TESTV|LA|IM|50|0.5|ML|GSK|L1||||||||" (at 4 6 2 ∷ [])

-- yesterday, of a change and of a delete
abbrev amending : String → Bool
amending ii = gives 20220930 (book_ending "20000101" "20220929" "20220929") (event_e ∷ []) (visits (ii ∷ "IE|3|123456789|TESTA|1|" ∷ [])) retired

unfoldable pub end_of_type : Bool
end_of_type =
    amending "II|2|123456789|C||20220901||TESTV|LA|IM|50|0.5|ML|GSK|L1||||||||"
    && amending "II|2|123456789|D||20220901||TESTV|LA|IM|50|0.5|ML|GSK|L1||||||||"

-- yesterday, of a vaccine that starts the day after the visit: H does not help
unfoldable pub end_not_begun : Bool
end_not_begun =
    gives 20220930 (book_ending "20220902" "20220929" "20220929") [] (visits (with_h ∷ "IE|3|123456789|TESTA|1|" ∷ [])) (at 4 8 5 ∷ [])

-- yesterday, of two II: each IE goes by its own
unfoldable pub end_by_its_ii : Bool
end_by_its_ii =
    gives 20220930 (book_ending "20000101" "20220929" "20220929") []
    (visits (four ∷ "IE|3|123456789|TESTA|1|" ∷ "II|4|123456789|A|H|20220902||TESTV|LA|IM|50|0.5|ML|GSK|L1||||||||" ∷ seven ∷ []))
    retired
    && gives 20220930 (book_ending "20000101" "99999999" "20220929") []
    (visits (with_h ∷ "IE|3|123456789|TESTA|1|" ∷ "II|4|123456789|A||20220902||TESTV|LA|IM|50|0.5|ML|GSK|L1||||||||" ∷ seven ∷ []))
    (at 6 11 11 ∷ at 7 4 11 ∷ [])

unfoldable pub ends : List Bool
ends =
    end_yesterday ∷ end_today ∷ end_tomorrow ∷ end_that_day ∷ end_before ∷ end_of_one ∷ end_unsound ∷ end_undated ∷ end_of_type ∷ end_not_begun
    ∷ end_by_its_ii ∷ []

-- an antigen twice in one II
unfoldable pub edge12 : Bool
edge12 =
    edited (visits (four ∷ "IE|3|123456789|TESTA|1|" ∷ "IE|4|123456789|TESTA|2|" ∷ [])) (at 6 4 12 ∷ [])

-- another count than the block's first II
unfoldable pub edge13 : Bool
edge13 = edited (file_with four six "IE|5|123456789|TESTA|2|") (at 6 8 13 ∷ []) && edited (file_with four six "IE|5|123456789|TESTA|01|") []

-- a lot scanned twice; 1 and 01 are two lots
unfoldable pub edge14 : Bool
edge14 =
    edited (file_with "II|2|123456789|A||20220901||TESTV|LA|IM|50|0.5|ML|GSK|1||||||||" "II|4|123456789|A||20220901||TESTV|LA|IM|50|0.5|ML|GSK|1||||||||" seven)
    (at 6 15 14 ∷ [])
    && edited
    (file_with "II|2|123456789|A||20220901||TESTV|LA|IM|50|0.5|ML|GSK|1||||||||" "II|4|123456789|A||20220901||TESTV|LA|IM|50|0.5|ML|GSK|01||||||||" seven)
    []

-- an event met again after another: each II of the later block; and under a second IP
unfoldable pub edge15 : Bool
edge15 =
    edited
    (visits
    (four
    ∷ "IE|3|123456789|TESTA|1|"
    ∷ "II|4|123456789|A||20220902||TESTV|LA|IM|50|0.5|ML|GSK|L2||||||||"
    ∷ "IE|5|123456789|TESTA|1|"
    ∷ "II|6|123456789|A||20220901||TESTV|LA|IM|50|0.5|ML|GSK|L3||||||||"
    ∷ "IE|7|123456789|TESTA|1|"
    ∷ "II|8|123456789|A||20220901||TESTV|LA|IM|50|0.5|ML|GSK|L4||||||||"
    ∷ "IE|9|123456789|TESTA|1|"
    ∷ []))
    (at 8 8 15 ∷ at 10 8 15 ∷ [])
    && edited
    (visits
    (four
    ∷ "IE|3|123456789|TESTA|1|"
    ∷ "IP|4|123456789|||||SMITH|JOHN||||||||||||||||20150301|||"
    ∷ "II|5|123456789|A||20220901||TESTV|LA|IM|50|0.5|ML|GSK|L2||||||||"
    ∷ "IE|6|123456789|TESTA|1|"
    ∷ []))
    (at 7 8 15 ∷ [])

-- an event that is live
unfoldable pub edge16 : Bool
edge16 = gives 20220930 book_e (event_e ∷ []) file_e (at 4 4 16 ∷ at 6 4 16 ∷ [])

-- a change and a delete of one that is not; of one that is, nothing is broken
abbrev asking : String → List Event → List Finding → Bool
asking line live due = gives 20220930 book_e live (visits (line ∷ "IE|3|123456789|TESTA|1|" ∷ [])) due

unfoldable pub edge17 : Bool
edge17 =
    asking "II|2|123456789|C||20220901||TESTV|LA|IM|50|0.5|ML|GSK|L1||||||||" [] (at 4 4 17 ∷ [])
    && asking "II|2|123456789|C||20220901||TESTV|LA|IM|50|0.5|ML|GSK|L1||||||||" (event_e ∷ []) []

unfoldable pub edge18 : Bool
edge18 =
    asking "II|2|123456789|D||20220901||TESTV|LA|IM|50|0.5|ML|GSK|L1||||||||" [] (at 4 4 18 ∷ [])
    && asking "II|2|123456789|D||20220901||TESTV|LA|IM|50|0.5|ML|GSK|L1||||||||" (event_e ∷ []) []

unfoldable pub edges : List Bool
edges =
    edge0 ∷ edge1 ∷ edge2 ∷ edge3 ∷ edge4 ∷ edge5 ∷ edge6 ∷ edge7 ∷ edge8 ∷ edge9 ∷ edge10 ∷ edge11 ∷ edge12 ∷ edge13 ∷ edge14
    ∷ edge15 ∷ edge16 ∷ edge17 ∷ edge18 ∷ ends

-- Every rule is at work in the definitions.
abbrev pub EdgesHold : Type 0
EdgesHold = all (λ (b : Bool). b) edges ≡ true

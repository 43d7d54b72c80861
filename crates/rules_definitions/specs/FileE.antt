-- Document 01's Book E and File E, for the examples.
-- Assumes nothing.
use Prim.Native.String.{String}
use Rattle.std.specs.Prelude.{List, [], ◌∷◌, ◌++◌}
use Rattle.house.specs.Text.{Text, bytes, joined, pad}
use Rattle.lines.specs.Lines.{LF}

-- a file of these lines
abbrev pub file_of : List String → Text
file_of ls = joined (λ (s : String). bytes s ++ (LF ∷ [])) ls

-- "Book E: vaccine TESTV from 20000101, antigen TESTA, reason 50, manufacturer GSK, dosage type ML, both pairs; all open."
unfoldable pub book_e : Text
book_e =
    1 ∷ pad 20 (bytes "TESTV") ++ bytes "20000101" ++ bytes "99999999"
    ++ (2 ∷ pad 20 (bytes "TESTA") ++ bytes "99999999")
    ++ (3 ∷ bytes "50" ++ bytes "99999999")
    ++ (4 ∷ bytes "GSK" ++ bytes "99999999")
    ++ (5 ∷ pad 4 (bytes "ML") ++ bytes "99999999")
    ++ (7 ∷ pad 20 (bytes "TESTV") ++ bytes "50" ++ bytes "99999999")
    ++ (8 ∷ pad 20 (bytes "TESTV") ++ pad 20 (bytes "TESTA") ++ bytes "99999999")

-- File E, with lines 4, 6 and 7 as given
abbrev pub file_with : String → String → String → Text
file_with four six seven =
    file_of
    ("IV|7.2|"
    ∷ "IH|10|000001|"
    ∷ "IP|1|123456789|||||SMITH|JOHN||||||||||||||||20150301|||"
    ∷ four
    ∷ "IE|3|123456789|TESTA|1|"
    ∷ six
    ∷ seven
    ∷ "IF|8|0|"
    ∷ [])

abbrev pub four : String
four = "II|2|123456789|A||20220901||TESTV|LA|IM|50|0.5|ML|GSK|L1||||||||"

abbrev pub six : String
six = "II|4|123456789|A||20220901||TESTV|LA|IM|50|0.5|ML|GSK|L2||||||||"

abbrev pub seven : String
seven = "IE|5|123456789|TESTA|1|"

unfoldable pub file_e : Text
file_e = file_with four six seven

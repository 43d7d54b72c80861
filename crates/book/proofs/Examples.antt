-- Book E of document 01, and what makes a book malformed, computed: one list under a single claim.
-- Assumes nothing.
use mathlib.Core.Path.{◌≡◌, refl}
use mathlib.Core.Bool.{Bool, true, not}
use mathlib.Core.List.{List, [], ◌∷◌, ◌++◌}
use Prim.Native.Nat.{ℕ}
use lib.Dec.{eqb}
use Rattle.house.specs.Text.{Text, bytes, all, order_of, below, same, is_digit, is_graphic, digits, number, graphic_len, is_padded}
use Rattle.dates.specs.Dates.{is_leap, days_in, is_day, is_date, is_end}
use Rattle.house.specs.Search.{binary_search}
use Rattle.book.specs.declared.Standing.{Standing}
use Rattle.book.specs.declared.Standing.TheVariants.{Unknown, OutOfForce, InForce}
use Rattle.book.specs.Book.{first_width, second_width, code_width, start_width, body_width, entry_of, entries_after, entries, code_of, dates_of, start_of, end_of, first_form, second_form, code_form, start_form, dates_form, body_form, entry_form, above, book_ok, started_by, in_force, ended_before, code_text, is_entry, listed, listed_such, listed_on, listed_ended, standing_of, bytes_before, sections_of}
use Rattle.book.specs.LookUp.{section_start, count_from, count_in, place_of, code_at, order_at, found_at, hash_of, code_hash, entry_hashed, named_in, searched_in, sought_in, found_in, known_by, in_force_by, ended_by, in_force_until_by, standing_by}

-- the entries of book E
abbrev testv : Text
testv = 1 ∷ bytes "TESTV               2000010199999999"

abbrev testa : Text
testa = 2 ∷ bytes "TESTA               99999999"

abbrev fifty : Text
fifty = 3 ∷ bytes "5099999999"

abbrev gsk : Text
gsk = 4 ∷ bytes "GSK99999999"

abbrev ml : Text
ml = 5 ∷ bytes "ML  99999999"

abbrev with_fifty : Text
with_fifty = 7 ∷ bytes "TESTV               5099999999"

abbrev with_testa : Text
with_testa = 8 ∷ bytes "TESTV               TESTA               99999999"

abbrev book_e : Text
book_e = testv ++ testa ++ fifty ++ gsk ++ ml ++ with_fifty ++ with_testa

-- a vaccine that ends, and one that starts after its end
abbrev ending : Text
ending = 1 ∷ bytes "ENDS                2000010120220930" ++ 1 ∷ bytes "NEVER               2022093020000101"

abbrev numbered : Standing → ℕ
numbered Unknown = 1
numbered OutOfForce = 2
numbered InForce = 3

-- the entries say it, and so does a look-up: on day d, where the end is not to be before day u
abbrev says_until : Text → ℕ → Text → Text → ℕ → ℕ → Standing → Bool
says_until s k a b d u t = eqb (numbered (standing_of (entries s) k (code_text k a b) d u)) (numbered t)

abbrev finds_until : Text → ℕ → Text → Text → ℕ → ℕ → Standing → Bool
finds_until s k a b d u t = eqb (numbered (standing_by s (sections_of s) k (code_text k a b) d u)) (numbered t)

-- on a day alone
abbrev says : Text → ℕ → Text → Text → ℕ → Standing → Bool
says s k a b d t = says_until s k a b d 0 t

abbrev finds : Text → ℕ → Text → Text → ℕ → Standing → Bool
finds s k a b d t = finds_until s k a b d 0 t

abbrev well_formed : List Text
well_formed = [] ∷ testv ∷ book_e ∷ ending ∷ (testv ++ (1 ∷ bytes "TESTVB              2000010199999999")) ∷ []

abbrev malformed : List Text
malformed =
    -- an unknown kind
    (0 ∷ bytes "5099999999")
    ∷ (9 ∷ bytes "5099999999")
    -- a short body, and bytes after the last entry
    ∷ (3 ∷ bytes "509999999")
    ∷ (fifty ++ 3 ∷ [])
    -- a code that is not padded: empty, a blank before it, a blank in it
    ∷ (4 ∷ bytes "   99999999")
    ∷ (4 ∷ bytes " GS99999999")
    ∷ (5 ∷ bytes "M L 99999999")
    -- a reason that is not two digits, alone and in a pair
    ∷ (3 ∷ bytes "5 99999999")
    ∷ (7 ∷ bytes "TESTV               A099999999")
    -- a start that is no date, an end that is none and not open
    ∷ (1 ∷ bytes "TESTV               2023022999999999")
    ∷ (1 ∷ bytes "TESTV               9999999999999999")
    ∷ (2 ∷ bytes "TESTA               99999998")
    ∷ (2 ∷ bytes "TESTA               20001301")
    -- an order that is not strict, by code and by kind
    ∷ (testv ++ testv)
    ∷ (testv ++ (1 ∷ bytes "TESTA               2000010199999999"))
    ∷ (testa ++ testv)
    ∷ []

abbrev cases : List Bool
cases =
    all book_ok well_formed
    ∷ all (λ (s : Text). not (book_ok s)) malformed
    ∷ says book_e 1 (bytes "TESTV") [] 20220901 InForce
    ∷ finds book_e 1 (bytes "TESTV") [] 20220901 InForce
    ∷ finds book_e 1 (bytes "TESTV") [] 20000101 InForce
    ∷ finds book_e 1 (bytes "TESTV") [] 19991231 OutOfForce
    ∷ finds book_e 1 (bytes "TEST") [] 20220901 Unknown
    ∷ finds book_e 1 (bytes "TESTV                X") [] 20220901 Unknown
    ∷ says book_e 1 (bytes "TESTV                X") [] 20220901 Unknown
    ∷ finds book_e 3 (bytes "50") [] 20220901 InForce
    ∷ finds book_e 6 (bytes "X") [] 20220901 Unknown
    ∷ finds book_e 7 (bytes "TESTV") (bytes "51") 20220901 Unknown
    ∷ finds book_e 8 (bytes "TESTV") (bytes "TESTA") 20220901 InForce
    ∷ says book_e 8 (bytes "TESTV") (bytes "TESTA") 20220901 InForce
    ∷ finds ending 1 (bytes "ENDS") [] 20220930 InForce
    ∷ finds ending 1 (bytes "ENDS") [] 20221001 OutOfForce
    ∷ finds ending 1 (bytes "NEVER") [] 20100101 OutOfForce
    ∷ finds_until ending 1 (bytes "ENDS") [] 20220901 20220930 InForce
    ∷ finds_until ending 1 (bytes "ENDS") [] 20220901 20221001 OutOfForce
    ∷ says_until ending 1 (bytes "ENDS") [] 20220901 20220930 InForce
    ∷ says_until ending 1 (bytes "ENDS") [] 20220901 20221001 OutOfForce
    ∷ finds_until book_e 1 (bytes "TESTV") [] 20220901 20991231 InForce
    ∷ []

pub book_e_lem : all (λ (b : Bool). b) cases ≡ true
unfolding order_of below same is_digit is_graphic digits number graphic_len is_padded is_leap days_in is_day is_date is_end binary_search first_width second_width code_width start_width body_width entry_of entries_after entries code_of dates_of start_of end_of first_form second_form code_form start_form dates_form body_form entry_form above book_ok started_by in_force ended_before code_text is_entry listed listed_such listed_on listed_ended standing_of bytes_before sections_of section_start count_from count_in place_of code_at order_at found_at hash_of code_hash entry_hashed named_in searched_in sought_in found_in known_by in_force_by ended_by in_force_until_by standing_by
book_e_lem = refl

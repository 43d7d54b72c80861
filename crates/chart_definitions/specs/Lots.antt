-- The order in which the records of a chart are written.
-- "Under each patient record the lots of one event (ULI, submission type, date and vaccine equal as written) are brought, with their antigen
-- counts, behind its first immunization, order otherwise kept"
-- Assumes nothing.
use Rattle.std.specs.Prelude.{Bool, false, not, cond, ◌&&◌, ◌||◌, List, [], ◌∷◌, ◌++◌}
use Rattle.house.specs.Text.{any, those, front, after_front, joined, same}
use Rattle.lines.specs.Records.{IP, II, IE}
use Rattle.chart_definitions.specs.Charts.{Charted, is_of, written_field}

-- LISTS OF ANYTHING

-- the list cut into pieces: one begins at each element that passes the test, and goes on to the next such; what stands before the first such
-- is dropped
abbrev pub pieces : {A : Type 0} → (A → Bool) → List A → List (List A)
pieces p [] = []
pieces p (x ∷ xs) = cond (p x) ((x ∷ front (λ y. not (p y)) xs) ∷ pieces p xs) (pieces p xs)

module _ {A : Type 0} (like : A → A → Bool) where
  -- those that are like none before them, where these have gone before
  abbrev pub firsts_after : List A → List A → List A
  firsts_after before [] = []
  firsts_after before (x ∷ xs) = cond (any (like x) before) (firsts_after (x ∷ before) xs) (x ∷ firsts_after (x ∷ before) xs)

  abbrev pub firsts : List A → List A
  firsts xs = firsts_after [] xs

  -- for each first, all that are like it, in the order given
  abbrev pub together : List A → List A
  together xs = joined (λ (x : A). those (like x) xs) (firsts xs)

-- RECORDS

-- "ULI, submission type, date and vaccine equal as written"
unfoldable pub equal_as_written : Charted → Charted → Bool
equal_as_written r q =
    same (written_field r 3) (written_field q 3)
    && (same (written_field r 4) (written_field q 4) && (same (written_field r 6) (written_field q 6) && same (written_field r 8) (written_field q 8)))

-- an immunization is an II with its IE: two are lots of one event if their II records say so
abbrev pub same_lots : List Charted → List Charted → Bool
same_lots (r ∷ rs) (q ∷ qs) = equal_as_written r q
same_lots (r ∷ rs) [] = false
same_lots [] qs = false

-- the records of immunizations
unfoldable pub of_immunization : Charted → Bool
of_immunization r = is_of II r || is_of IE r

-- the immunizations that such records are of
unfoldable pub immunizations : List Charted → List (List Charted)
immunizations rs = pieces (is_of II) rs

-- the records behind an IP: its immunizations, lots of one event together, and then the rest
unfoldable pub lots_together : List Charted → List Charted
lots_together rs =
    joined (λ (x : List Charted). x) (together same_lots (immunizations (front of_immunization rs))) ++ after_front of_immunization rs

-- a patient: an IP and the records behind it
abbrev pub patient_order : List Charted → List Charted
patient_order [] = []
patient_order (ip ∷ rs) = ip ∷ lots_together rs

-- "Under each patient record"
unfoldable pub in_writing_order : List Charted → List Charted
in_writing_order rs = joined patient_order (pieces (is_of IP) rs)

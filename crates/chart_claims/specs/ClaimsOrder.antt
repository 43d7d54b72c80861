-- What is claimed of the order of the records, as types; the proofs stand in proofs/. What is quoted here is from document 02, request 3.
-- Assumes nothing.
use Rattle.std.specs.Prelude.{◌≡◌, Bool, true, not, ◌&&◌, List, [], ◌∷◌, ◌++◌, map, take, drop}
use Rattle.house.specs.Text.{any, those, how_many, front, after_front, joined}
use Rattle.lines.specs.Records.{IH, IP}
use Rattle.chart_definitions.specs.Charts.{Charted, charted_in, is_of, ordered}
use Rattle.chart_definitions.specs.Lots.{pieces, firsts, together, same_lots, of_immunization, immunizations, patient_order}
use Rattle.chart_definitions.specs.Submissions.{Request, records_of, is_right}

-- the records that are written are those of the chart, each as often: whatever is asked of a record, as many are such
abbrev pub EachAsOften : Type 0
EachAsOften = (x : Request) → is_right x ≡ true → (p : Charted → Bool) → how_many p (records_of x) ≡ how_many p (charted_in x.chart)

-- "Under each patient record": the patients that are written are those of the chart, in the order given, each with its own records
abbrev pub PatientsKept : Type 0
PatientsKept =
    (x : Request) → is_right x ≡ true → pieces (is_of IP) (records_of x) ≡ map patient_order (pieces (is_of IP) (charted_in x.chart))

-- "order otherwise kept": the records that are of no immunization stand in the order given
abbrev pub OthersKept : Type 0
OthersKept =
    (x : Request) → is_right x ≡ true
    → those (λ (r : Charted). not (of_immunization r)) (records_of x) ≡ those (λ (r : Charted). not (of_immunization r)) (charted_in x.chart)

-- ARRANGED

module _ {A : Type 0} (like : A → A → Bool) where
  -- those that are alike stand next to each other: behind the first that is not like x, none is
  abbrev pub is_grouped : List A → Bool
  is_grouped [] = true
  is_grouped (x ∷ xs) = not (any (like x) (after_front (like x) xs)) && is_grouped xs

  -- ys is an arrangement of xs
  pub record Arranged (xs ys : List A) : Type 0 where
    -- "brought .. behind its first": those that are alike stand next to each other
    pub grouped : is_grouped ys ≡ true
    -- "order otherwise kept": those that are alike are the same ones, in the order given
    pub kept : (x : A) → those (like x) ys ≡ those (like x) xs
    -- and what each is brought behind stands in the order given
    pub firsts_kept : firsts like ys ≡ firsts like xs

-- PATIENTS

-- the records behind a patient's IP
abbrev pub behind : List Charted → List Charted
behind patient = drop 1 patient

-- its immunizations, each an II with its own IE
abbrev pub lots_of : List Charted → List (List Charted)
lots_of patient = immunizations (front of_immunization (behind patient))

-- and what stands behind them
abbrev pub rest_of : List Charted → List Charted
rest_of patient = after_front of_immunization (behind patient)

-- there is nothing else: a patient is its IP, its immunizations and the rest
abbrev pub Parted : List Charted → Type 0
Parted patient = take 1 patient ++ (joined (λ (x : List Charted). x) (lots_of patient) ++ rest_of patient) ≡ patient

-- A patient as given and as written, each an IP and the records behind it
pub record PatientWritten (given out : List Charted) : Type 0 where
  -- the IP is the same
  pub ip_same : take 1 out ≡ take 1 given
  -- "the lots of one event .. are brought, with their antigen counts, behind its first immunization, order otherwise kept"
  pub lots : Arranged same_lots (lots_of given) (lots_of out)
  -- "order otherwise kept": not immunized, and antigens not administered
  pub rest : rest_of out ≡ rest_of given
  -- and that is all of both
  pub given_parted : Parted given
  pub out_parted : Parted out

-- the lists are as long, and each element is in the relation to that at its place in the other
abbrev pub Pairwise : {A B : Type 0} → (A → B → Type 0) → List A → List B → Type 0
Pairwise r [] [] = Unit {0}
Pairwise r [] (y ∷ ys) = ⊥
Pairwise r (x ∷ xs) [] = ⊥
Pairwise r (x ∷ xs) (y ∷ ys) = r x y × Pairwise r xs ys

-- "Under each patient record": the patients of the chart, in the order given, and those that are written
abbrev pub PatientsWritten : Type 0
PatientsWritten =
    (x : Request) → is_right x ≡ true → Pairwise PatientWritten (pieces (is_of IP) (charted_in x.chart)) (pieces (is_of IP) (records_of x))

-- and no other order of records is such
abbrev pub OneOrder : Type 0
OneOrder =
    (x : Request) → is_right x ≡ true → (ws : List Charted) → ordered IH ws ≡ true
    → Pairwise PatientWritten (pieces (is_of IP) (charted_in x.chart)) (pieces (is_of IP) ws)
    → ws ≡ records_of x

-- What the definition says of `together` joins with this so: immunizations brought together are an arrangement of them, and there is no other.
-- So the immunizations of a patient as written are those of the patient as given, brought together.
abbrev pub LotsArranged : Type 0
LotsArranged = (rs : List Charted) → Arranged same_lots (immunizations rs) (together same_lots (immunizations rs))

abbrev pub OneArrangement : Type 0
OneArrangement = (rs : List Charted) (ys : List (List Charted)) → Arranged same_lots (immunizations rs) ys → ys ≡ together same_lots (immunizations rs)

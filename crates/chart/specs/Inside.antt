-- Working definitions: what the crate's own functions answer. No public contract rests on this page.
-- Assumes nothing.
use Rattle.std.specs.Prelude.{ℕ, ◌+◌, ◌-◌, ◌≤◌, ◌<◌, ◌≡◌, Bool, true, not, cond, ◌&&◌, ◌||◌, List, [], ◌∷◌, ◌++◌, eqb, ltb, leb, length, get_or, drop}
use Rattle.house.specs.Text.{Text, any, all, those, front, after_front, joined, same, adjacent}
use Rattle.house.specs.Numbers.{lesser_of}
use Rattle.writing.specs.Writing.{over_from, decimal}
use Rattle.lines.specs.Records.{IH, II, IE, IN, IA}
use Rattle.lines_words.specs.Words.{event_key, key_at, in_order}
use Rattle.chart_definitions.specs.Charts.{Charted, widths_of, body_width, charted_in, is_of, cut, well_formed, ordered}
use Rattle.chart_definitions.specs.Lots.{of_immunization, in_writing_order}
use Rattle.chart_definitions.specs.Submissions.{piped, line_text, type_text, records_text, version_fields, header_fields, footer_fields, request, file_of, is_right, file_most}
use Rattle.chart_records.specs.Reading.{record_end}
use Rattle.chart_records.specs.Inside.{charted_at}
use Rattle.chart.specs.declared.Spot.{Spot}

-- LINES

-- the fields of a record, each with its pipe
unfoldable pub fields_text : ℕ → Text → Text
fields_text k body = joined piped (cut (widths_of k) body)

-- its type and its number
unfoldable pub start_text : ℕ → ℕ → Text
start_text k n = piped (type_text k) ++ piped (decimal n)

-- RECORDS WRITTEN FROM A SPOT ON

abbrev pub spot_at : ℕ → ℕ → ℕ → Spot
spot_at at number pos = record { at = at; number = number; pos = pos }

-- there is room for their lines, and for their numbers
pub record Can (rs : List Charted) (from : Spot) (area : Text) : Type 0 where
  pub room : from.pos + length (records_text from.number rs) ≤ length area
  pub few : from.number ≤ from.pos

-- they are written, and so far writing has come; where it goes on in the chart is said apart
pub record Puts (rs : List Charted) (from to : Spot) (before after : Text) : Type 0 where
  pub area_is : after ≡ over_from from.pos (records_text from.number rs) before
  pub pos_is : to.pos ≡ from.pos + length (records_text from.number rs)
  pub number_is : to.number ≡ from.number + length rs

-- they are written, and these records come next in the chart
pub record PutsTo (s : Text) (rs next : List Charted) (from to : Spot) (before after : Text) : Type 0 where
  pub puts : Puts rs from to before after
  pub rest : charted_in (drop to.at s) ≡ next

-- of all that are to be written from a spot on, these are left
pub record Going (all : List Charted) (from : Spot) (before : Text) (left : List Charted) (number pos : ℕ) (area : Text) : Type 0 where
  pub area_on : over_from from.pos (records_text from.number all) before ≡ over_from pos (records_text number left) area
  pub pos_on : from.pos + length (records_text from.number all) ≡ pos + length (records_text number left)
  pub number_on : from.number + length all ≡ number + length left
  pub long : length area ≡ length before
  pub room_on : pos + length (records_text number left) ≤ length area
  pub few_on : number ≤ pos

-- a record of one of two kinds
unfoldable pub of_kinds : ℕ → ℕ → Charted → Bool
of_kinds a b r = is_of a r || is_of b r

-- a record stands at the position, and all from there on are well formed
unfoldable pub is_sound : Text → ℕ → Bool
is_sound s p = ltb p (length s) && all well_formed (charted_in (drop p s))

-- LOTS, by the positions of their II records

-- the II at a position and its IE
unfoldable pub shot_at : Text → ℕ → List Charted
shot_at s p = charted_at s p ∷ front (of_kinds IE IE) (charted_in (drop (record_end s p) s))

-- the positions of the II records, the first record being at a position, as long as immunizations stand there
unfoldable pub lot_places : ℕ → List Charted → List ℕ
lot_places at [] = []
lot_places at (r ∷ rs) =
    cond (is_of II r) (at ∷ lot_places (at + 1 + body_width r.kind) rs)
    (cond (is_of IE r) (lot_places (at + 1 + body_width r.kind) rs) [])

-- the event that the II at a position names
unfoldable pub event_at : Text → ℕ → Text
event_at s p = key_at event_key s p

-- of one event
abbrev pub like : (ℕ → Text) → ℕ → ℕ → Bool
like key p q = same (key p) (key q)

-- the lot at an index, among lots in the order of their events, is the first of its event
unfoldable pub leads : (ℕ → Text) → List ℕ → ℕ → Bool
leads key es i = cond (eqb i 0) true (not (like key (get_or es (i - 1) 0) (get_or es i 0)))

-- the lots from an index on, as long as they are of the event of lot p
unfoldable pub run_of : Text → List ℕ → ℕ → ℕ → List Charted
run_of s es i p = joined (shot_at s) (front (like (event_at s) p) (drop i es))

-- none of these that stands earlier is of its event
unfoldable pub is_first_of : (ℕ → Text) → List ℕ → ℕ → Bool
is_first_of key es p = not (any (λ (f : ℕ). ltb f p && like key p f) es)

-- of these lots: for each of xs that is the first of its event, all of them
unfoldable pub lots_of : Text → List ℕ → List ℕ → List Charted
lots_of s es xs =
    joined (shot_at s) (joined (λ (p : ℕ). those (like (event_at s) p) es) (those (is_first_of (event_at s) es) xs))

-- the immunizations from a position on, lots of one event together
unfoldable pub lots_in : Text → ℕ → List Charted
lots_in s at =
    let places = lot_places at (charted_in (drop at s)) in
    lots_of s (in_order (event_at s) places) places

unfoldable pub is_among : List ℕ → ℕ → Bool
is_among es p = any (eqb p) es

-- lots in the order of their events, a record at each
pub record Sorted (s : Text) (es : List ℕ) : Type 0 where
  pub from : List ℕ
  pub ascend : adjacent ltb from ≡ true
  pub sorted : es ≡ in_order (event_at s) from
  pub sound : all (is_sound s) es ≡ true

-- and those from a position on among them
pub record Ready (s : Text) (at : ℕ) (es : List ℕ) : Type 0 where
  pub lots : Sorted s es
  pub formed : all well_formed (charted_in (drop at s)) ≡ true
  pub among : all (is_among es) (lot_places at (charted_in (drop at s))) ≡ true
  pub short : length s < 4294967296

-- PATIENTS

-- so many II records are in a file at most: the line of one has 26 bytes at least
abbrev pub places_most : ℕ
places_most = 192307

-- what is written of the records that stand behind an IP from a position on, and the records behind these
unfoldable pub behind_at : Text → ℕ → List Charted
behind_at s at = lots_in s at ++ front (of_kinds IN IA) (after_front of_immunization (charted_in (drop at s)))

unfoldable pub rest_at : Text → ℕ → List Charted
rest_at s at = after_front (of_kinds IN IA) (after_front of_immunization (charted_in (drop at s)))

-- what is written of the patient whose IP is at a position
unfoldable pub patient_at : Text → ℕ → List Charted
patient_at s at = charted_at s at ∷ behind_at s (record_end s at)

-- the records from a position on are well formed, and there is room for the positions of the immunizations
pub record Behind (s : Text) (at : ℕ) (places : List ℕ) : Type 0 where
  pub formed : all well_formed (charted_in (drop at s)) ≡ true
  pub short : length s < 4294967296
  pub few : length (lot_places at (charted_in (drop at s))) ≤ length places

-- patients stand from a position on, and their lines are few enough
pub record Patients (s : Text) (at number : ℕ) (places : List ℕ) : Type 0 where
  pub formed : all well_formed (charted_in (drop at s)) ≡ true
  pub order : ordered IH (charted_in (drop at s)) ≡ true
  pub short : length s < 4294967296
  pub lines : length (records_text number (in_writing_order (charted_in (drop at s)))) ≤ file_most
  pub room : length places ≡ places_most

-- THE FILE

-- IV and IH
unfoldable pub head_text : Text → Text → Text
head_text prefix batch = line_text version_fields ++ line_text (header_fields prefix batch)

-- IF
unfoldable pub foot_text : ℕ → Text
foot_text count = line_text (footer_fields count)

-- the file is no longer than an area of so many bytes, nor than a file may be
unfoldable pub fits_room : Text → Text → Text → ℕ → Bool
fits_room prefix batch chart room = leb (length (file_of (request prefix batch chart []))) (lesser_of room file_most)

-- prefix, batch number and chart are right, and the file fits
pub record Fitting (prefix batch chart area : Text) : Type 0 where
  pub right : is_right (request prefix batch chart []) ≡ true
  pub fits : fits_room prefix batch chart (length area) ≡ true

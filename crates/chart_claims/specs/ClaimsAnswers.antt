-- What is claimed of the answer of writing, as types; the proofs stand in proofs/. What is quoted here is from document 02, request 3.
-- Assumes nothing.
use Rattle.std.specs.Prelude.{ℕ, ◌≤◌, ◌<◌, ◌≡◌, true, false, ◌⊎◌, length, get_or}
use Rattle.chart_definitions.specs.Submissions.{Request, RECORD, ROOM, file_most, file_of, is_right, write}

-- each says what the other says
abbrev pub Exactly : Type 0 → Type 0 → Type 0
Exactly a b = (a → b) × (b → a)

-- "at 0 the length is given and bytes past the file stay"
pub record FileWritten (x : Request) : Type 0 where
  pub long : (write x).length ≡ length (file_of x)
  pub fits : length (file_of x) ≤ length x.area
  pub most : length (file_of x) ≤ file_most
  pub file : (i : ℕ) → i < length (file_of x) → get_or (write x).area i 0 ≡ get_or (file_of x) i 0
  pub past : (i : ℕ) → length (file_of x) ≤ i → get_or (write x).area i 0 ≡ get_or x.area i 0
  pub same_length : length (write x).area ≡ length x.area

pub record Answered (x : Request) : Type 0 where
  -- there are no other answers
  pub one_of : ((write x).answer ≡ 0) ⊎ (((write x).answer ≡ RECORD) ⊎ ((write x).answer ≡ ROOM))
  -- "8 RECORD for chart bytes malformed, .., or a prefix or batch number not of its form"
  pub record_when : Exactly ((write x).answer ≡ RECORD) (is_right x ≡ false)
  -- "then 9 ROOM exactly when the finished file is longer than the lent area or than 5,000,000 bytes"
  pub room_when : Exactly ((write x).answer ≡ ROOM) ((is_right x ≡ true) × ((length x.area < length (file_of x)) ⊎ (file_most < length (file_of x))))
  -- "The area is untouched at both"
  pub refused : ((write x).answer ≡ 0 → ⊥) → ((write x).length ≡ 0) × ((write x).area ≡ x.area)
  pub written : (write x).answer ≡ 0 → FileWritten x

abbrev pub ExactlyWhen : Type 0
ExactlyWhen = (x : Request) → Answered x

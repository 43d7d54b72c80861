-- What is asked of each of some lines.
-- Assumes nothing.
use Rattle.std.specs.Prelude.{ℕ, Bool, true, false, cond, ◌&&◌, List, [], ◌∷◌, eqb, drop}
use Rattle.house.specs.Text.{Text, any, same, number}
use Rattle.lines_fields.specs.Lines.{fields_len}
use Rattle.lines.specs.Records.{Rec, II, IE, is_kind}
use Rattle.rules_definitions.specs.Forms.{text, is_sound, is_count}
use Rattle.rules_definitions.specs.Rules.{dose_of, same_count}

-- it gives this antigen
unfoldable pub antigen_is : Text → Rec → Bool
antigen_is t p = same t (text p 4)

-- it is an II with this lot
unfoldable pub lot_is : Text → Rec → Bool
lot_is t p = is_kind II p && (is_sound II p 15 && same t (text p 15))

-- a count as a number; 0 where it is not sound
unfoldable pub dose_in : Text → ℕ
dose_in t = cond (is_count t) (number t) 0

-- it gives this antigen this often
unfoldable pub count_is : Text → ℕ → Rec → Bool
count_is t n p = same t (text p 4) && eqb n (dose_of p)

-- a line's text from field 4 on
unfoldable pub from_antigen : Text → Text
from_antigen t = drop (fields_len 3 t) t

-- one of these gives its antigen as often
unfoldable pub count_in : List Rec → Rec → Bool
count_in ps l = any (same_count l) ps

-- these and those are as many, and each gives the antigen of the one at its place as often
unfoldable pub in_step : List Rec → List Rec → Bool
in_step [] [] = true
in_step [] (p ∷ ps) = false
in_step (l ∷ ls) [] = false
in_step (l ∷ ls) (p ∷ ps) = same_count l p && in_step ls ps

-- its antigen and its count are sound
unfoldable pub sound_count : Rec → Bool
sound_count l = is_sound IE l 4 && is_sound IE l 5

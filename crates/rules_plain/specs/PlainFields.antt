-- The later rules at a field that is sound, by its text.
-- Assumes nothing.
use Rattle.std.specs.Prelude.{ℕ, Bool, not, cond, ◌&&◌, ◌||◌, eqb, ltb}
use Rattle.house.specs.Text.{Text, bytes, same, number}
use Rattle.lines.specs.Records.{Rec, IP}
use Rattle.dates.specs.Dates.{is_date}
use Rattle.rules_definitions.specs.Forms.{text, is_uli, is_sound}

-- rule 7: a number that is not its place
unfoldable pub rule7_by : ℕ → ℕ → ℕ
rule7_by n place = cond (eqb n place) 0 7

-- rule 6: a ULI that is not this one, its IP's, which is sound
unfoldable pub rule6_by : Text → Text → ℕ
rule6_by t uli = cond (is_uli uli && not (same t uli)) 6 0

-- rule 8: a date after today
unfoldable pub rule8_today_by : Text → ℕ → ℕ
rule8_today_by t today = cond (is_date t && ltb today (number t)) 8 0

-- the day of birth that an IP gives, 0 where it gives none
unfoldable pub born_of : Rec → ℕ
born_of ip = cond (is_sound IP ip 25) (number (text ip 25)) 0

-- rule 8: a day after today or before the day of birth
unfoldable pub rule8_day_by : ℕ → ℕ → ℕ → ℕ
rule8_day_by n today born = cond (ltb today n || ltb n born) 8 0

-- rule 8: a date after today or before the day of birth
unfoldable pub rule8_by : Text → ℕ → ℕ → ℕ
rule8_by t today born = cond (is_date t && (ltb today (number t) || ltb (number t) born)) 8 0

-- rule 3: a version that is not 7.2
unfoldable pub rule3_by : Text → ℕ
rule3_by t = cond (same t (bytes "7.2")) 0 3

-- rule 14: an earlier II of the block has the lot
abbrev pub rule14_by : Bool → ℕ
rule14_by again = cond again 14 0

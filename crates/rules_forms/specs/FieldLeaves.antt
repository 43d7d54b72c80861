-- What the functions on fields answer where the rules' own definitions have no name for it: each is of texts as judged.
-- Assumes nothing.
use Rattle.std.specs.Prelude.{ℕ, Bool, not, cond, ◌&&◌, ◌||◌, eqb}
use Rattle.house.specs.Text.{Text, bytes, within, is_empty, same}
use Rattle.lines.specs.Records.{Rec, II, IN}
use Rattle.rules_definitions.specs.Forms.{form_of, is_judged, is_missing, is_misformed}

-- II 18 and 19 relax an event: "18 is neither empty nor AB, or 18 is empty and 19 is not"
unfoldable pub out_of_province : Text → Text → Bool
out_of_province province country =
    (not (is_empty province) && not (same province (bytes "AB"))) || (is_empty province && not (is_empty country))

-- an event with these texts of II 5, 18, 19 and 20 is relaxed
unfoldable pub relaxed_if : Text → Text → Text → Text → Bool
relaxed_if t5 t18 t19 t20 = same t5 (bytes "H") || (not (is_empty t20) || out_of_province t18 t19)

-- which of rules 1 and 2 is broken at field f of a line of kind k, and where neither is, a later one's number, or 0
unfoldable pub lowest : ℕ → Rec → ℕ → ℕ → ℕ
lowest k l f later = cond (is_missing k l f) 1 (cond (is_misformed k l f) 2 later)

-- The same of a field's text alone

-- field f of a record of kind k may be empty, an II being a relaxed event or not
unfoldable pub optional_in : ℕ → Bool → ℕ → Bool
optional_in k relaxed f = (eqb k II && eqb f 5) || (eqb k IN && eqb f 8) || (eqb k II && within 9 15 f && relaxed)

-- which of rules 1 and 2 is broken at field f of a record of kind k if this is its text, or a later one's number, or 0
unfoldable pub lowest_in : ℕ → Bool → ℕ → Text → ℕ → ℕ
lowest_in k relaxed f t later =
    cond (is_judged k f && not (optional_in k relaxed f) && is_empty t) 1 (cond (not (form_of k f t) && not (is_empty t)) 2 later)

-- it is sound
unfoldable pub sound_in : ℕ → Bool → ℕ → Text → Bool
sound_in k relaxed f t = eqb (lowest_in k relaxed f t 0) 0

-- it is sound and not empty
unfoldable pub given_in : ℕ → ℕ → Text → Bool
given_in k f t = not (is_empty t) && form_of k f t

-- rule 10: this text of a field of an II is empty, and the other field's text is given
unfoldable pub lacks_in : Text → ℕ → Text → Bool
lacks_in t other u = is_empty t && given_in II other u

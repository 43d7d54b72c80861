-- The entries of lines (`lines_words/specs/Words`): where their antigens or lots stand in the file, those that are sound, and with an antigen how
-- often it is given.
-- Assumes nothing.
use Rattle.std.specs.Prelude.{ℕ, ◌+◌, ◌*◌, cond, ◌&&◌, List, [], ◌∷◌, ◌++◌, eqb, leb, length, drop}
use Rattle.house.specs.Text.{Text, is_empty}
use Rattle.lines_fields.specs.Lines.{Line, lines_of, line_len, fields_len}
use Rattle.lines_fields.specs.Inside.{part}
use Rattle.lines_words.specs.Words.{place_bound}
use Rattle.lines.specs.Records.{II, IE, is_kind, rec_of}
use Rattle.rules_definitions.specs.Forms.{text, is_sound}
use Rattle.rules_definitions.specs.Rules.{dose_of}

-- what is gathered, by a number: antigens, antigens with their counts, lots
abbrev pub antigens : ℕ
antigens = 0

abbrev pub counted_antigens : ℕ
counted_antigens = 1

abbrev pub lots : ℕ
lots = 2

-- of a line with text t that starts at a position: none, or one
unfoldable pub antigen_entry : ℕ → ℕ → Text → List ℕ
antigen_entry count at t = cond (is_sound IE (rec_of t) 4) ((count * place_bound + (at + fields_len 3 t)) ∷ []) []

-- an empty lot stands at the end of its line's text, where no word starts, field or none
unfoldable pub lot_start : Text → ℕ
lot_start t = cond (is_empty (text (rec_of t) 15)) (length t) (fields_len 14 t)

unfoldable pub lot_entry : ℕ → Text → List ℕ
lot_entry at t = cond (is_kind II (rec_of t) && is_sound II (rec_of t) 15) ((at + lot_start t) ∷ []) []

unfoldable pub entry_of : ℕ → ℕ → Text → List ℕ
entry_of what at t =
    cond (eqb what antigens) (antigen_entry 0 at t)
    (cond (eqb what counted_antigens) (antigen_entry (dose_of (rec_of t)) at t)
    (lot_entry at t))

-- of the lines of a text that starts at a position
abbrev pub entries_from : ℕ → ℕ → Text → List Line → List ℕ
entries_from what at s [] = []
entries_from what at s (l ∷ ls) = entry_of what at l.text ++ entries_from what (at + line_len s) (drop (line_len s) s) ls

-- of the lines of a part of a file; none where the file is too long for places, or the part goes on past its end
unfoldable pub entries_in : ℕ → Text → ℕ → ℕ → List ℕ
entries_in what s from to =
    cond (leb (length s) place_bound && leb to (length s)) (entries_from what from (part s from to) (lines_of (part s from to))) []

-- What is claimed of the blocks of a written file, as a type; the proof stands in proofs/.
-- Assumes nothing.
use Rattle.std.specs.Prelude.{◌≡◌, Bool, true, not, ◌&&◌}
use Rattle.house.specs.Text.{any, front}
use Rattle.house.specs.Members.{In}
use Rattle.lines.specs.Records.{Rec, IP, II, is_kind}
use Rattle.rules_definitions.specs.Contexts.{Context, contexts_in}
use Rattle.rules_definitions.specs.Blocks.{is_in_block, joins, joins_open}
use Rattle.chart_definitions.specs.Submissions.{Request, file_of, is_right}

-- an earlier II under the line's IP is of its event and type
abbrev pub joins_earlier : Context → Bool
joins_earlier h = any (λ (p : Rec). is_kind II p && joins h.line p) (front (λ (p : Rec). not (is_kind IP p)) h.before)

-- the lots of one event under one IP stand in one block: an II of a block that joins an earlier one joins the block that is open before it
abbrev pub OneBlock : Type 0
OneBlock =
    (x : Request) → is_right x ≡ true → (h : Context) → In h (contexts_in (file_of x)) → is_in_block h.line ≡ true → joins_earlier h ≡ true
    → joins_open h.line h.before ≡ true

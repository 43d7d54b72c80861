-- Working definitions: one turn of the walk: a line judged, and the walk after it. No public contract rests on this page.
-- Assumes nothing.
use Rattle.std.specs.Prelude.{ℕ, ◌+◌, ◌*◌, ◌≤◌, ◌<◌, ◌≡◌, Bool, List, ◌∷◌, length, drop}
use Rattle.house.specs.Text.{Text, joined}
use Rattle.lines_fields.specs.Lines.{line_len}
use Rattle.lines.specs.Records.{recs}
use Rattle.rules_definitions.specs.Contexts.{contexts_from}
use Rattle.rules_definitions.specs.Blocks.{begins}
use Rattle.rules_definitions.specs.Seen.{Setting}
use Rattle.rules_definitions.specs.Findings.{Finding}
use Rattle.rules.specs.declared.State.{State}
use Rattle.rules.specs.Inside.{kept, keep}
use Rattle.rules.specs.Fields.{line_most}
use Rattle.rules.specs.Under.{line_findings_by}
use Rattle.rules.specs.Walk.{line_rec, lines_before, Holds, LookAt}

-- the walk at a line: where it starts, the state there, how many findings there are so far, and whether the line before begins a block
pub record Turn : Type 0 where
  pub at : ℕ
  pub st : State
  pub count : ℕ
  pub first : Bool

-- a walk has come to a line, and has not too many findings
pub record TurnAt (file : Text) (m : List ℕ) (t : Turn) : Type 0 where
  pub looks : LookAt file m t.at t.st
  pub few : t.count ≤ line_most * t.at

-- the findings of the lines from a position on, the first of them line n, rule 15 by a table
unfoldable pub rest_of : Setting → Text → Text → ℕ → ℕ → List Finding
rest_of s file table at n = joined (line_findings_by s file table) (contexts_from n (lines_before file at) (recs (drop at file)))

-- one turn of the walk: a line's findings are put to the others, and those from the next line on are left
pub record TurnIs (s : Setting) (file table : Text) (t : Turn) (area : Text) (r : Turn) (after : Text) : Type 0 where
  pub holds : Holds file r.at r.st
  pub next_is : r.at ≡ t.at + line_len (drop t.at file)
  pub on : t.at < r.at
  pub upto : r.at ≤ length file
  pub few : r.count ≤ line_most * r.at
  pub left : keep (rest_of s file table t.at t.st.n) (kept t.count area) ≡ keep (rest_of s file table r.at r.st.n) (kept r.count after)
  pub first_is : r.first ≡ begins (line_rec file t.at) (lines_before file t.at)
  pub before_is : line_rec file t.at ∷ lines_before file t.at ≡ lines_before file r.at

-- The findings of a file by a table that notes the blocks whose events were named before: by that of the file's own index they are the file's
-- findings (proofs/UnderLaws), and by one that is empty all of them but for rule 15.
-- Assumes nothing.
use Rattle.std.specs.Prelude.{Bool, ◌&&◌, List, length}
use Rattle.house.specs.Text.{Text, joined}
use Rattle.lines.specs.Records.{Rec}
use Rattle.rules_definitions.specs.Contexts.{Context, contexts_in}
use Rattle.rules_definitions.specs.Blocks.{is_in_block, before_block}
use Rattle.rules_definitions.specs.Seen.{Setting, Seen, seen_at}
use Rattle.rules_definitions.specs.Findings.{Finding, fields_findings}
use Rattle.rules_walk.specs.Firsts.{start_after}
use Rattle.rules_walk.specs.Repeats.{is_noted}

-- what is seen from a line, but for whether an earlier block names its event
unfoldable pub with_repeated : Bool → Seen → Seen
with_repeated repeated v =
    record {
      place = v.place;
      line = v.line;
      ip = v.ip;
      head = v.head;
      antigens = v.antigens;
      in_block = v.in_block;
      block = v.block;
      not_first = v.not_first;
      own = v.own;
      first = v.first;
      repeated = repeated;
      live = v.live;
    }

-- a table notes the start of the line's block
unfoldable pub repeated_by : Text → Text → Rec → List Rec → Bool
repeated_by file table l before = is_in_block l && is_noted table (start_after file (before_block l before))

-- what is seen from a line, by a table
abbrev pub seen_by : Setting → Text → Text → Context → Seen
seen_by s file table h = with_repeated (repeated_by file table h.line h.before) (seen_at s h)

unfoldable pub line_findings_by : Setting → Text → Text → Context → List Finding
line_findings_by s file table h = fields_findings s h.number (seen_by s file table h) 1 (length h.line.fields)

unfoldable pub findings_under : Setting → Text → Text → List Finding
findings_under s file table = joined (line_findings_by s file table) (contexts_in file)

-- What is claimed of the findings of a written file, as types; the proofs stand in proofs/. What is quoted here is from document 02,
-- request 3.
-- Assumes nothing.
use Rattle.std.specs.Prelude.{◌-◌, ◌≤◌, ◌≡◌, true, cond, List, [], length}
use Rattle.house.specs.Text.{joined}
use Rattle.rules_definitions.specs.Contexts.{Context, contexts_of, is_numbered}
use Rattle.rules_definitions.specs.Seen.{Setting, seen_at}
use Rattle.rules_definitions.specs.Findings.{Finding, fields_findings, line_findings, findings_of}
use Rattle.chart_definitions.specs.Charts.{charted_in}
use Rattle.chart_definitions.specs.Submissions.{Request, records_of, file_of, is_right}
use Rattle.chart_claims.specs.ClaimsRead.{submission_recs}

-- the lines of a written file, each in its context
abbrev pub lines_written : Request → List Context
lines_written x = contexts_of (submission_recs x.prefix x.batch (records_of x))

-- the findings of the file are those of these lines
abbrev pub FindingsOfRecords : Type 0
FindingsOfRecords = (s : Setting) (x : Request) → is_right x ≡ true → findings_of s (file_of x) ≡ joined (line_findings s) (lines_written x)

-- the findings of a chart record: those of its own fields, from field 3 on
unfoldable pub own_findings : Setting → Context → List Finding
own_findings s h = cond (is_numbered h.line) (fields_findings s h.number (seen_at s h) 3 (length h.line.fields - 2)) []

-- of all chart records, once so ordered
unfoldable pub chart_findings : Setting → Request → List Finding
chart_findings s x = joined (own_findings s) (lines_written x)

-- nothing else is found, of "the chart records, at most 99,999": not in IV, IH and IF, and not in the record types and numbers
abbrev pub FindingsOfChart : Type 0
FindingsOfChart =
    (s : Setting) (x : Request) → is_right x ≡ true → length (charted_in x.chart) ≤ 99999 → findings_of s (file_of x) ≡ chart_findings s x

-- "If the chart records, at most 99,999, break no rule once so ordered, the file has no finding."
abbrev pub NoFinding : Type 0
NoFinding =
    (s : Setting) (x : Request) → is_right x ≡ true → length (charted_in x.chart) ≤ 99999 → chart_findings s x ≡ [] → findings_of s (file_of x) ≡ []

-- The computed cases hold.
-- Assumes nothing.
use mathlib.Core.Path.{refl}
use Rattle.house.specs.Text.{order_of, same, is_digit, is_letter, is_letter_or_digit, run, pad}
use Rattle.blanks.specs.Blanks.{without_last_blanks, trimmed}
use Rattle.writing.specs.Writing.{decimal}
use Rattle.lines.specs.Shape.{is_one, follows}
use Rattle.rules_definitions.specs.Forms.{is_prefix, is_batch}
use Rattle.rules_definitions.specs.FileE.{file_e}
use Rattle.chart_definitions.specs.Charts.{record_kind, widths_of, body_width, charted_after, charted_in, written_fields, written_field, is_field_byte, well_formed, ordered, is_chart}
use Rattle.chart_definitions.specs.Lots.{equal_as_written, of_immunization, immunizations, lots_together, in_writing_order}
use Rattle.chart_definitions.specs.Submissions.{line_text, type_text, numbered_fields, record_text, records_text, submission_of, records_of, file_of, is_right, is_too_long, finished, write}
use Rattle.chart_claims.specs.ChartE.{chart_e, file_together, file_apart, file_empty, file_refusal, e1, e2, e3, e4, e5, e6, e7, e8, e9, e10, e11, e12, e13, cases, CasesHold}

pub cases_hold : CasesHold
unfolding order_of same is_digit is_letter is_letter_or_digit run pad without_last_blanks trimmed decimal is_one follows is_prefix is_batch file_e record_kind widths_of body_width charted_after charted_in written_fields written_field is_field_byte well_formed ordered is_chart equal_as_written of_immunization immunizations lots_together in_writing_order line_text type_text numbered_fields record_text records_text submission_of records_of file_of is_right is_too_long finished write chart_e file_together file_apart file_empty file_refusal e1 e2 e3 e4 e5 e6 e7 e8 e9 e10 e11 e12 e13 cases
cases_hold = refl

-- Each rule at work in the definitions: one claim, computed.
-- Assumes nothing.
use mathlib.Core.Path.{refl}
use Rattle.rules_definitions.specs.Edges.{EdgesHold}
use Rattle.dates.specs.Dates.{is_leap, days_in, is_day, is_date, is_end}
use Rattle.house.specs.Key.{key_of}
use Rattle.house.specs.Text.{order_of, below, same, is_digit, is_letter, is_letter_or_digit, is_graphic, run, digits, number, pad, graphic_len, is_padded}
use Rattle.lines.specs.Lines.{lf_next, ending_of, grow, by_ending, lines_of, line_of, text_len, line_len, lengthen, fields_of, field_of}
use Rattle.lines.specs.Records.{letter_kind, kind_of, record_of, count_of, rec_of, recs}
use Rattle.lines.specs.Shape.{is_one, follows, cause1, printable, cause2, pipe_last, cause3, cause4, cause5, cause6, cause_of, cause7, shape_from, shape_of}
use Rattle.book.specs.Book.{first_width, second_width, code_width, start_width, body_width, entries_after, entries, code_of, dates_of, start_of, end_of, first_form, second_form, code_form, start_form, dates_form, body_form, entry_form, above, book_ok, book_of, started_by, in_force, ended_before, code_text, is_entry, listed, listed_such, listed_on, listed_ended}
use Rattle.ledger.specs.Ledger.{slots_in, chop, slots, event_form, is_live_slot, is_free_slot, slot_form, slot_follows, ledger_ok, live_in, is_among, put_in_order, plus, less, events_after, ledger_with}
use Rattle.rules_definitions.specs.Blocks.{is_in_block, event_of, same_event, joins, block_in, begins, before_block, is_repeated, begins_block, events_of}
use Rattle.rules_definitions.specs.Codes.{is_site, is_method, book_kind, reason_read, code_read, code_in, is_known, day_field, day_is_sound, record_day, allows_ended, is_in_force, pair_kind, pair_in}
use Rattle.rules_definitions.specs.Edges.{edge0, edge1, edge2, edge3, edge4, edge5, edge6, edge7, edge8, edge9, edge10, edge11, edge12, edge13, edge14, edge15, edge16, edge17, edge18, end_yesterday, end_today, end_tomorrow, end_that_day, end_before, end_of_one, end_unsound, end_undated, end_of_type, end_not_begun, end_by_its_ii, ends, edges}
use Rattle.rules_definitions.specs.FileE.{book_e, file_e}
use Rattle.rules_definitions.specs.Findings.{found, fields_findings, line_findings, findings_of}
use Rattle.lines.specs.Marks.{judged_text}
use Rattle.rules_definitions.specs.Forms.{field_in, anything, is_prefix, is_batch, is_total, count_form, is_number, is_uli, is_type, is_historical, is_code, is_site_text, is_method_text, is_reason, is_fraction, is_dosage, is_dosage_type, is_manufacturer, lot_byte, is_lot, is_count, is_reason_not, is_organization, is_grade, table, form_of, is_judged, relaxed_by, is_optional, is_missing, is_misformed, is_sound, is_given}
use Rattle.rules_definitions.specs.Contexts.{contexts_of, contexts_in, no_rec, head_kind, head_of, is_numbered}
use Rattle.rules_definitions.specs.Rules.{rule1, rule2, rule3, rule4, rule5, rule6, rule7, after_today, before_birth, rule8, without, site_wrong, method_wrong, rule9, partner_of, lacks, rule10, rule11, same_antigen, rule12, dose_of, same_count, all_in, counts_sound, sets_differ, rule13, same_lot, rule14, rule15, asks, rule16, rule17, rule18, rules, rules_in, rules_of, rules_at, broken_at}
use Rattle.rules_definitions.specs.Seen.{seen_at}

pub edges_hold : EdgesHold
unfolding judged_text is_leap days_in is_day is_date is_end key_of order_of below same is_digit is_letter is_letter_or_digit is_graphic run digits number pad graphic_len is_padded lf_next ending_of grow by_ending lines_of line_of text_len line_len lengthen fields_of field_of letter_kind kind_of record_of count_of rec_of recs is_one follows cause1 printable cause2 pipe_last cause3 cause4 cause5 cause6 cause_of cause7 shape_from shape_of first_width second_width code_width start_width body_width entries_after entries code_of dates_of start_of end_of first_form second_form code_form start_form dates_form body_form entry_form above book_ok book_of started_by in_force ended_before code_text is_entry listed listed_such listed_on listed_ended slots_in chop slots event_form is_live_slot is_free_slot slot_form slot_follows ledger_ok live_in is_among put_in_order plus less events_after ledger_with is_in_block event_of same_event joins block_in begins before_block is_repeated begins_block events_of is_site is_method book_kind reason_read code_read code_in is_known day_field day_is_sound record_day allows_ended is_in_force pair_kind pair_in edge0 edge1 edge2 edge3 edge4 edge5 edge6 edge7 edge8 edge9 edge10 edge11 edge12 edge13 edge14 edge15 edge16 edge17 edge18 end_yesterday end_today end_tomorrow end_that_day end_before end_of_one end_unsound end_undated end_of_type end_not_begun end_by_its_ii ends edges book_e file_e found fields_findings line_findings findings_of field_in anything is_prefix is_batch is_total count_form is_number is_uli is_type is_historical is_code is_site_text is_method_text is_reason is_fraction is_dosage is_dosage_type is_manufacturer lot_byte is_lot is_count is_reason_not is_organization is_grade table form_of is_judged relaxed_by is_optional is_missing is_misformed is_sound is_given contexts_of contexts_in no_rec head_kind head_of is_numbered rule1 rule2 rule3 rule4 rule5 rule6 rule7 after_today before_birth rule8 without site_wrong method_wrong rule9 partner_of lacks rule10 rule11 same_antigen rule12 dose_of same_count all_in counts_sound sets_differ rule13 same_lot rule14 rule15 asks rule16 rule17 rule18 rules rules_in rules_of rules_at broken_at seen_at
edges_hold = refl

-- The cases that document 01 marks P hold, and what else of File E is computed.
-- Assumes nothing.
use mathlib.Core.Path.{◌≡◌, refl}
use mathlib.Core.Bool.{true}
use mathlib.Core.List.{List, [], ◌∷◌}
use lib.ListN.{length}
use lib.Dec.{leb}
use Rattle.house.specs.Text.{how_many}
use Rattle.lines.specs.Records.{IN, is_kind}
use Rattle.ledger.specs.Ledger.{Event}
use Rattle.rules.specs.Seen.{Setting}
use Rattle.rules.specs.Blocks.{adds, changes, deletes}
use Rattle.demands.specs.Examples.{CasesHold, on, zeros, event_on}
use Rattle.lines.specs.declared.Cause.TheVariants.{NoEnd}
use Rattle.answers.specs.declared.Refusal.TheVariants.{Shape}
use Rattle.dates.specs.Dates.{is_leap, days_in, is_day, is_date, is_end}
use Rattle.house.specs.Key.{key_of}
use Rattle.house.specs.Text.{order_of, below, same, is_digit, is_letter, is_letter_or_digit, is_graphic, run, digits, number, pad, graphic_len, is_padded}
use Rattle.lines.specs.Lines.{lf_next, ending_of, grow, by_ending, lines_of, line_of, text_len, line_len, lengthen, fields_of, field_of}
use Rattle.lines.specs.Marks.{judged_text}
use Rattle.lines.specs.Records.{letter_kind, kind_of, record_of, count_of, rec_of, recs}
use Rattle.lines.specs.Shape.{is_one, follows, cause1, printable, cause2, pipe_last, cause3, cause4, cause5, cause6, cause_of, cause7, shape_from, shape_of}
use Rattle.book.specs.Book.{first_width, second_width, code_width, start_width, body_width, entries_after, entries, code_of, dates_of, start_of, end_of, first_form, second_form, code_form, start_form, dates_form, body_form, entry_form, above, book_ok, book_of, started_by, in_force, ended_before, code_text, is_entry, listed, listed_such, listed_on, listed_ended}
use Rattle.ledger.specs.Ledger.{slots_in, chop, slots, event_form, is_live_slot, is_free_slot, slot_form, slot_follows, ledger_ok, live_in, is_among, put_in_order, plus, less, events_after, ledger_with}
use Rattle.rules.specs.Blocks.{is_in_block, event_of, same_event, joins, block_in, begins, before_block, is_repeated, begins_block, events_of}
use Rattle.rules.specs.Codes.{is_site, is_method, book_kind, reason_read, code_read, code_in, is_known, day_field, day_is_sound, record_day, allows_ended, is_in_force, pair_kind, pair_in}
use Rattle.rules.specs.FileE.{book_e, file_e}
use Rattle.rules.specs.Findings.{found, fields_findings, line_findings, findings_of, finding_bytes, area_after}
use Rattle.rules.specs.Forms.{field_in, anything, is_prefix, is_batch, is_total, count_form, is_number, is_uli, is_type, is_historical, is_code, is_site_text, is_method_text, is_reason, is_fraction, is_dosage, is_dosage_type, is_manufacturer, lot_byte, is_lot, is_count, is_reason_not, is_organization, is_grade, table, form_of, is_judged, relaxed_by, is_optional, is_missing, is_misformed, is_sound, is_given}
use Rattle.rules.specs.Contexts.{contexts_of, contexts_in, no_rec, head_kind, head_of, is_numbered}
use Rattle.rules.specs.Rules.{rule1, rule2, rule3, rule4, rule5, rule6, rule7, after_today, before_birth, rule8, without, site_wrong, method_wrong, rule9, partner_of, lacks, rule10, rule11, same_antigen, rule12, dose_of, same_count, all_in, counts_sound, sets_differ, rule13, same_lot, rule14, rule15, asks, rule16, rule17, rule18, rules, rules_in, rules_of, rules_at, broken_at}
use Rattle.rules.specs.Seen.{seen_at}
use Rattle.answers.specs.Answers.{accepting, setting_of, findings, added, changed, deleted, not_immunized, is_full, ledger_after, accepted, with_findings, roomed, judged, check, numbers_of, is_accepted, is_findings}
use Rattle.demands.specs.Examples.{file_d, p1, p2, p3, p3_01, p4, p5, p6, p7, p8, p9, p10, p11, p12, cases}
use Rattle.std.proofs.Common.{Ok, Err}

pub cases_hold : CasesHold
unfolding judged_text is_leap days_in is_day is_date is_end key_of order_of below same is_digit is_letter is_letter_or_digit is_graphic run digits number pad graphic_len is_padded lf_next ending_of grow by_ending lines_of line_of text_len line_len lengthen fields_of field_of letter_kind kind_of record_of count_of rec_of recs is_one follows cause1 printable cause2 pipe_last cause3 cause4 cause5 cause6 cause_of cause7 shape_from shape_of first_width second_width code_width start_width body_width entries_after entries code_of dates_of start_of end_of first_form second_form code_form start_form dates_form body_form entry_form above book_ok book_of started_by in_force ended_before code_text is_entry listed listed_such listed_on listed_ended slots_in chop slots event_form is_live_slot is_free_slot slot_form slot_follows ledger_ok live_in is_among put_in_order plus less events_after ledger_with is_in_block event_of same_event joins block_in begins before_block is_repeated begins_block events_of is_site is_method book_kind reason_read code_read code_in is_known day_field day_is_sound record_day allows_ended is_in_force pair_kind pair_in book_e file_e found fields_findings line_findings findings_of finding_bytes area_after field_in anything is_prefix is_batch is_total count_form is_number is_uli is_type is_historical is_code is_site_text is_method_text is_reason is_fraction is_dosage is_dosage_type is_manufacturer lot_byte is_lot is_count is_reason_not is_organization is_grade table form_of is_judged relaxed_by is_optional is_missing is_misformed is_sound is_given contexts_of contexts_in no_rec head_kind head_of is_numbered rule1 rule2 rule3 rule4 rule5 rule6 rule7 after_today before_birth rule8 without site_wrong method_wrong rule9 partner_of lacks rule10 rule11 same_antigen rule12 dose_of same_count all_in counts_sound sets_differ rule13 same_lot rule14 rule15 asks rule16 rule17 rule18 rules rules_in rules_of rules_at broken_at seen_at setting_of findings added changed deleted not_immunized is_full ledger_after accepted with_findings roomed judged check numbers_of is_accepted is_findings file_d p1 p2 p3 p3_01 p4 p5 p6 p7 p8 p9 p10 p11 p12 cases
cases_hold = refl

-- what a file with book E is judged by, over these live events
abbrev pub setting_e : List Event → Setting
setting_e live = record { profile = 0; today = 20220930; known = listed (book_of book_e); in_force_lem = listed_on (book_of book_e); ended = listed_ended (book_of book_e); live = is_among live }

-- What the definitions give for File E, for an empty file, and for the file that deletes what File E adds
pub record Computed : Type 0 where
  pub e_accepted : (on file_e (zeros 38)).answer ≡ accepting 1 0 0 0
  pub empty_refused : (on [] (zeros 38)).answer ≡ Err (Shape (record { line = 1; cause = NoEnd }))
  pub e_ledger : ledger_ok (zeros 38) ≡ true
  pub e_free : live_in (zeros 38) ≡ []
  pub e_adds : events_of adds (contexts_in file_e) ≡ event_on "20220901" ∷ []
  pub e_deletes : events_of deletes (contexts_in file_e) ≡ []
  pub day : is_day 20220930 ≡ true
  pub d_short : leb (length file_d) 5000000 ≡ true
  pub book : book_ok book_e ≡ true
  pub d_shape : shape_of file_d ≡ Ok tt
  pub d_findings : findings_of (setting_e (event_on "20220901" ∷ [])) file_d ≡ []
  pub d_adds : events_of adds (contexts_in file_d) ≡ []
  pub d_changes : events_of changes (contexts_in file_d) ≡ []
  pub d_deletes : events_of deletes (contexts_in file_d) ≡ event_on "20220901" ∷ []
  pub d_not_immunized : how_many (is_kind IN) (recs file_d) ≡ 0

pub computed : Computed
unfolding judged_text is_leap days_in is_day is_date is_end key_of order_of below same is_digit is_letter is_letter_or_digit is_graphic run digits number pad graphic_len is_padded lf_next ending_of grow by_ending lines_of line_of text_len line_len lengthen fields_of field_of letter_kind kind_of record_of count_of rec_of recs is_one follows cause1 printable cause2 pipe_last cause3 cause4 cause5 cause6 cause_of cause7 shape_from shape_of first_width second_width code_width start_width body_width entries_after entries code_of dates_of start_of end_of first_form second_form code_form start_form dates_form body_form entry_form above book_ok book_of started_by in_force ended_before code_text is_entry listed listed_such listed_on listed_ended slots_in chop slots event_form is_live_slot is_free_slot slot_form slot_follows ledger_ok live_in is_among put_in_order plus less events_after ledger_with is_in_block event_of same_event joins block_in begins before_block is_repeated begins_block events_of is_site is_method book_kind reason_read code_read code_in is_known day_field day_is_sound record_day allows_ended is_in_force pair_kind pair_in book_e file_e found fields_findings line_findings findings_of finding_bytes area_after field_in anything is_prefix is_batch is_total count_form is_number is_uli is_type is_historical is_code is_site_text is_method_text is_reason is_fraction is_dosage is_dosage_type is_manufacturer lot_byte is_lot is_count is_reason_not is_organization is_grade table form_of is_judged relaxed_by is_optional is_missing is_misformed is_sound is_given contexts_of contexts_in no_rec head_kind head_of is_numbered rule1 rule2 rule3 rule4 rule5 rule6 rule7 after_today before_birth rule8 without site_wrong method_wrong rule9 partner_of lacks rule10 rule11 same_antigen rule12 dose_of same_count all_in counts_sound sets_differ rule13 same_lot rule14 rule15 asks rule16 rule17 rule18 rules rules_in rules_of rules_at broken_at seen_at setting_of findings added changed deleted not_immunized is_full ledger_after accepted with_findings roomed judged check numbers_of is_accepted is_findings file_d p1 p2 p3 p3_01 p4 p5 p6 p7 p8 p9 p10 p11 p12 cases
computed =
    record {
      e_accepted = refl;
      empty_refused = refl;
      e_ledger = refl;
      e_free = refl;
      e_adds = refl;
      e_deletes = refl;
      day = refl;
      d_short = refl;
      book = refl;
      d_shape = refl;
      d_findings = refl;
      d_adds = refl;
      d_changes = refl;
      d_deletes = refl;
      d_not_immunized = refl;
    }

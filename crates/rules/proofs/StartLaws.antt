-- The state that the walk starts with shows the first line.
-- Assumes nothing.
use mathlib.Core.Path.{◌≡◌, refl, sym, ap, ◌∙◌}
use mathlib.Core.Bool.{false}
use mathlib.Core.List.{List, []}
use Prim.Native.Nat.{ℕ, zero, suc, ◌≤◌}
use native.Mathlib.Omega.{arith}
use Rattle.std.specs.Prelude.{Option, unwrap_or}
use Rattle.house.specs.Text.{Text, same, order_of}
use Rattle.house.proofs.Small.{clash}
use Rattle.dates.specs.Dates.{is_date}
use Rattle.lines_fields.specs.declared.Span.{Span}
use Rattle.lines_fields.specs.Lines.{lines_of, fields_of}
use Rattle.lines_fields.specs.Marks.{span}
use Rattle.lines_fields.proofs.MarkLaws.{judged_nil}
use Rattle.lines.specs.Records.{Rec, rec_of, recs}
use Rattle.lines.specs.Inside.{whole}
use Rattle.rules_definitions.specs.Forms.{field_in, text, is_historical}
use Rattle.rules_definitions.specs.Contexts.{no_rec}
use Rattle.rules.specs.Walk.{lines_before, LinesAre, day_of, OpenIs, Holds, no_day, no_open, start_state}
use Rattle.rules.proofs.WalkLaws.{no_recs}

pub no_lines : (file : Text) (at : ℕ) → LinesAre file at (span at at) []
no_lines file at = record { are = rw (no_recs file at); from = omega arith; upto = omega arith }

pub lines_on : (file : Text) (at next : ℕ) (p : Span) (ls : List Rec) → at ≤ next → LinesAre file at p ls → LinesAre file next p ls
lines_on file at next p ls h s = record { are = s.are; from = s.from; upto = omega (arith, s.upto) }

-- a line that is not there has no bytes, and gives no day
no_text : (f : ℕ) → text no_rec f ≡ []
unfolding no_rec rec_of field_in fields_of
no_text zero = judged_nil
no_text (suc f) = judged_nil

pub no_open_lem : (file : Text) → OpenIs file no_open no_rec
no_open_lem file = record { uli_is = no_text 3; kind_is = no_text 4; date_is = no_text 6; vaccine_is = no_text 8 }

no_day_lem : day_of [] ≡ no_day
unfolding day_of is_date
no_day_lem = refl

no_history : is_historical [] ≡ false
unfolding is_historical same order_of
no_history = refl

pub holds_start : (file : Text) → Holds file 0 start_state
unfolding lines_before recs lines_of whole
holds_start file =
    record {
      ended = λ m. refl;
      place_is = refl;
      known_is = record {
        uli_is = no_text 3;
        born_is = sym (ap (λ (t : Text). (unwrap_or (day_of t) 0)) (no_text 25) ∙ ap (λ (d : Option ℕ). unwrap_or d 0) no_day_lem);
        historical_is = sym (ap is_historical (no_text 5) ∙ no_history);
        vaccine_is = no_text 8;
        ii_day_is = sym (ap day_of (no_text 6) ∙ no_day_lem);
        in_day_is = sym (ap day_of (no_text 5) ∙ no_day_lem);
      };
      since_is = no_lines file 0;
      open_is = no_open_lem file;
      run_is = refl;
      run_in = omega arith;
      run_ended = λ m. refl;
      opened = λ z. clash (cc);
      many_is = refl;
      first_is = no_lines file 0;
      first_at = λ z. refl;
      not_immunized_is = refl;
      n_small = omega arith;
      place_small = omega arith;
      not_immunized_small = omega arith;
    }

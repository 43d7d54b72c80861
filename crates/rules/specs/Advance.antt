-- Working definitions: the state of the walk after a line. No public contract rests on this page.
-- Assumes nothing.
use Rattle.std.specs.Prelude.{ℕ, ◌+◌, Bool, cond, List, eqb, Option, unwrap_or}
use Rattle.house.specs.Text.{Text, within}
use Rattle.lines_fields.specs.declared.Span.{Span}
use Rattle.lines_fields.specs.Marks.{span, judged_span}
use Rattle.lines.specs.Records.{Rec, IP, II, IE, IN, IA}
use Rattle.rules_definitions.specs.Forms.{text}
use Rattle.rules.specs.declared.Open.{Open}
use Rattle.rules.specs.declared.Known.{Known}
use Rattle.rules.specs.declared.Block.{Block}
use Rattle.rules.specs.declared.State.{State}
use Rattle.rules.specs.declared.Here.{Here}
use Rattle.rules.specs.Walk.{rec_in, day_of, no_open}

-- By the line's marks and what is known of it

unfoldable pub next_place : ℕ → ℕ → ℕ
next_place place k = cond (within IP IA k) (place + 1) place

unfoldable pub next_uli : Text → List ℕ → ℕ → Span → Span
next_uli file m k was = cond (eqb k IP) (judged_span file m 3) was

unfoldable pub next_born : Rec → ℕ → ℕ → ℕ
next_born l k was = cond (eqb k IP) (unwrap_or (day_of (text l 25)) 0) was

-- the day of the nearest line of kind j
unfoldable pub next_day : ℕ → Option ℕ → ℕ → Option ℕ → Option ℕ
next_day j was k day = cond (eqb k j) day was

unfoldable pub next_since : ℕ → ℕ → ℕ → ℕ
next_since since k next = cond (eqb k IE) since next

abbrev pub open_in : Text → List ℕ → Open
open_in file m = record { uli = judged_span file m 3; kind = judged_span file m 4; date = judged_span file m 6; vaccine = judged_span file m 8 }

unfoldable pub next_open : Text → List ℕ → Open → ℕ → Bool → Open
next_open file m was k inb = cond (eqb k IE) was (cond inb (open_in file m) no_open)

unfoldable pub next_run : ℕ → ℕ → Bool → ℕ → ℕ → ℕ
next_run run k inb from next = cond (eqb k IE) run (cond inb from next)

unfoldable pub next_many : Bool → ℕ → Bool → Bool
next_many many k joined = cond (eqb k IE) many joined

unfoldable pub next_first : Span → Bool → ℕ → Bool → ℕ → Span
next_first first many k joined next = cond (eqb k IE) (cond many first (span first.start next)) (cond joined first (span next next))

unfoldable pub next_not_immunized : ℕ → ℕ → ℕ
next_not_immunized n k = cond (eqb k IN) (n + 1) n

unfoldable pub next_known : Text → List ℕ → Known → Here → Known
next_known file m was h =
    record {
      uli = next_uli file m h.kind was.uli;
      born = next_born (rec_in file m) h.kind was.born;
      historical = h.historical;
      vaccine = h.vaccine;
      ii_day = next_day II was.ii_day h.kind h.day;
      in_day = next_day IN was.in_day h.kind h.day;
    }

unfoldable pub next_block : Text → List ℕ → Block → Here → Block
next_block file m was h =
    record {
      last = next_open file m was.last h.kind h.facts.inb;
      run = next_run was.run h.kind h.facts.inb h.block h.next;
      many = next_many was.many h.kind h.facts.joined;
      first = next_first was.first was.many h.kind h.facts.joined h.next;
    }

unfoldable pub advanced : Text → List ℕ → State → Here → State
advanced file m st h =
    record {
      n = st.n + 1;
      place = next_place st.place h.kind;
      known = next_known file m st.known h;
      since = next_since st.since h.kind h.next;
      block = next_block file m st.block h;
      not_immunized = next_not_immunized st.not_immunized h.kind;
    }

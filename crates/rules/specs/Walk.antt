-- Working definitions: the walk over the lines, what its state says of the lines before, and what is known at a line. No public contract rests
-- on this page.
-- Assumes nothing.
use Rattle.std.specs.Prelude.{ℕ, suc, ◌+◌, ◌≤◌, ◌<◌, ◌≡◌, Bool, true, false, cond, ◌&&◌, List, reverse, length, get_or, take, drop, eqb, Option, Some, None, unwrap_or}
use Rattle.house.specs.Text.{Text, those, how_many, front, is_empty, same, number}
use Rattle.dates.specs.Dates.{is_date}
use Rattle.lines_fields.specs.declared.Span.{Span}
use Rattle.lines_fields.specs.Lines.{line_of, line_len}
use Rattle.lines_fields.specs.Marks.{mark_count, marks_at, span, judged_span}
use Rattle.lines.specs.Records.{Rec, IP, II, IE, IN, is_kind, rec_of, recs}
use Rattle.lines.specs.Inside.{whole}
use Rattle.lines_fields.specs.Inside.{part}
use Rattle.ledger.specs.Ledger.{found_in}
use Rattle.rules_walk.specs.Repeats.{is_noted}
use Rattle.rules_definitions.specs.Forms.{text, is_historical}
use Rattle.rules_definitions.specs.Contexts.{nearest, is_numbered}
use Rattle.rules_definitions.specs.Blocks.{is_in_block, event_of, nearest_of, open_after, has_second, first_open, before_open}
use Rattle.rules.specs.declared.Open.{Open}
use Rattle.rules.specs.declared.Known.{Known}
use Rattle.rules.specs.declared.State.{State}
use Rattle.rules.specs.declared.Read.{Read}
use Rattle.rules.specs.declared.BlockAt.{BlockAt}
use Rattle.rules.specs.declared.Here.{Here}
use Rattle.rules_fields.specs.declared.Facts.{Facts}

abbrev pub part_of : Text → Span → Text
part_of s p = part s p.start p.end

-- THE LINE THAT WAS READ

-- the line that marks are of, by the first of them
abbrev pub rec_in : Text → List ℕ → Rec
rec_in file m = rec_of (line_of (drop (get_or m 0 0) file)).text

-- they are the marks of a line of the file
pub record ReadIn (file : Text) (m : List ℕ) : Type 0 where
  pub inside : get_or m 0 0 ≤ length file
  pub marked : m ≡ marks_at file (get_or m 0 0)

-- the line that starts at a position
abbrev pub line_rec : Text → ℕ → Rec
line_rec file at = rec_of (line_of (drop at file)).text

-- they are those of a line that was read
pub record ReadAs (file : Text) (m : List ℕ) (r : Read) : Type 0 where
  pub less : r.at < length file
  pub marked : m ≡ marks_at file r.at
  pub next_is : r.next ≡ r.at + line_len (drop r.at file)
  pub kind_is : r.kind ≡ (line_rec file r.at).kind

-- THE STATE

-- the lines before a position, nearest first
unfoldable pub lines_before : Text → ℕ → List Rec
lines_before file at = reverse (recs (take at file))

-- the lines of a part of the file before a position, nearest first
pub record LinesAre (file : Text) (at : ℕ) (p : Span) (ls : List Rec) : Type 0 where
  pub are : ls ≡ reverse (recs (part_of file p))
  pub from : p.start ≤ p.end
  pub upto : p.end ≤ at

-- a day of this number, and none
abbrev pub one_day : ℕ → Option ℕ
one_day n = Some n

abbrev pub no_day : Option ℕ
no_day = None

-- the day that a text gives, if it is a date
unfoldable pub day_of : Text → Option ℕ
day_of t = cond (is_date t) (one_day (number t)) no_day

-- where fields 3, 4, 6 and 8 of a line stand
pub record OpenIs (file : Text) (o : Open) (l : Rec) : Type 0 where
  pub uli_is : text l 3 ≡ part_of file o.uli
  pub kind_is : text l 4 ≡ part_of file o.kind
  pub date_is : text l 6 ≡ part_of file o.date
  pub vaccine_is : text l 8 ≡ part_of file o.vaccine

-- what the nearest IP, II and IN before a line give
pub record KnownIs (file : Text) (before : List Rec) (k : Known) : Type 0 where
  pub uli_is : text (nearest IP before) 3 ≡ part_of file k.uli
  pub born_is : k.born ≡ unwrap_or (day_of (text (nearest IP before) 25)) 0
  pub historical_is : k.historical ≡ is_historical (text (nearest II before) 5)
  pub vaccine_is : text (nearest II before) 8 ≡ part_of file k.vaccine
  pub ii_day_is : k.ii_day ≡ day_of (text (nearest II before) 6)
  pub in_day_is : k.in_day ≡ day_of (text (nearest IN before) 5)

-- what the state at the start of a line says of the lines before it
pub record Holds (file : Text) (at : ℕ) (st : State) : Type 0 where
  -- but for a last line, which may have none, each line has its LF
  pub ended : at < length file → whole (take at file) ≡ true
  pub place_is : st.place ≡ suc (how_many is_numbered (lines_before file at))
  pub known_is : KnownIs file (lines_before file at) st.known
  pub since_is : LinesAre file at (span st.since at) (front (is_kind IE) (lines_before file at))
  pub open_is : OpenIs file st.block.last (nearest_of (open_after (lines_before file at)))
  pub run_is : open_after (lines_before file at) ≡ reverse (those (is_kind II) (recs (part file st.block.run at)))
  pub run_in : st.block.run ≤ at
  pub run_ended : st.block.run < length file → whole (take st.block.run file) ≡ true
  pub opened : is_empty (open_after (lines_before file at)) ≡ false → before_open (lines_before file at) ≡ lines_before file st.block.run
  pub many_is : st.block.many ≡ has_second (lines_before file at)
  pub first_is : LinesAre file at st.block.first (first_open (lines_before file at))
  pub first_at : st.block.many ≡ false → st.block.first.end ≡ at
  pub not_immunized_is : st.not_immunized ≡ how_many (is_kind IN) (lines_before file at)
  pub n_small : st.n ≤ at + 1
  pub place_small : st.place ≤ at + 1
  pub not_immunized_small : st.not_immunized ≤ at

-- of a line that is not there
abbrev pub no_open : Open
no_open = record { uli = span 0 0; kind = span 0 0; date = span 0 0; vaccine = span 0 0 }

abbrev pub start_state : State
start_state =
    record {
      n = 1;
      place = 1;
      known = record { uli = span 0 0; born = 0; historical = false; vaccine = span 0 0; ii_day = no_day; in_day = no_day };
      since = 0;
      block = record { last = no_open; run = 0; many = false; first = span 0 0 };
      not_immunized = 0;
    }

-- WHAT IS KNOWN AT A LINE

-- it is of one event and one type with the II whose fields stand there
unfoldable pub joins_open_by : Text → Rec → Open → Bool
joins_open_by file l o =
    same (text l 4) (part_of file o.kind)
    && (same (text l 3) (part_of file o.uli) && (same (text l 6) (part_of file o.date) && same (text l 8) (part_of file o.vaccine)))

-- whether it is in a block, whether it joins the open one, and where its block starts
unfoldable pub block_by : Text → Rec → ℕ → Open → ℕ → BlockAt
block_by file l at o run =
    record {
      inb = is_in_block l;
      joined = is_in_block l && joins_open_by file l o;
      from = cond (is_in_block l && joins_open_by file l o) run at;
    }

-- the table and the ledger are asked of a line in a block alone
unfoldable pub facts_by : Rec → Text → Text → ℕ → BlockAt → Facts
facts_by l table ledger n b =
    record {
      inb = b.inb;
      joined = b.joined;
      repeated = b.inb && is_noted table b.from;
      live = b.inb && found_in ledger n (event_of l);
    }

-- its II 5 is H
unfoldable pub historical_by : Rec → ℕ → Bool → Bool
historical_by l k was = cond (eqb k II) (is_historical (text l 5)) was

-- the vaccine of its II
unfoldable pub vaccine_by : Text → List ℕ → ℕ → Span → Span
vaccine_by file m k was = cond (eqb k II) (judged_span file m 8) was

-- the day of the record that it belongs to
unfoldable pub day_by : Rec → ℕ → Option ℕ → Option ℕ → Option ℕ
day_by l k ii-day in-day = cond (eqb k II) (day_of (text l 6)) (cond (eqb k IE) ii-day (cond (eqb k IN) (day_of (text l 5)) in-day))

-- the IE lines from a position on end at r
pub record OwnIs (file : Text) (from r : ℕ) : Type 0 where
  pub own_is : front (is_kind IE) (recs (drop from file)) ≡ recs (part file from r)
  pub own_from : from ≤ r
  pub own_in : r ≤ length file

-- those of an II that joins a block end at r
pub record OwnEnd (file : Text) (joined : Bool) (from r : ℕ) : Type 0 where
  pub joined_own : joined ≡ true → front (is_kind IE) (recs (drop from file)) ≡ recs (part file from r)
  pub own_in : r ≤ length file

-- what is known, by the line's marks, its kind, its block and facts, and where its IE lines end; nothing was asked of other lines yet
unfoldable pub here_with : Text → List ℕ → Read → State → BlockAt → Facts → ℕ → Here
here_with file m r st b facts own =
    record {
      kind = r.kind;
      historical = historical_by (rec_in file m) r.kind st.known.historical;
      n = st.n;
      place = st.place;
      at = r.at;
      next = r.next;
      uli = st.known.uli;
      born = st.known.born;
      vaccine = vaccine_by file m r.kind st.known.vaccine;
      day = day_by (rec_in file m) r.kind st.known.ii_day st.known.in_day;
      since = st.since;
      block = b.from;
      own = own;
      first = st.block.first;
      facts = facts;
      again = false;
      differ = false;
    }

-- the line that starts at a position, read
abbrev pub read_of : Text → ℕ → Read
read_of file at = record { at = at; next = at + line_len (drop at file); kind = (line_rec file at).kind }

-- its block, by the state
abbrev pub block_of : Text → ℕ → State → BlockAt
block_of file at st = block_by file (line_rec file at) at st.block.last st.block.run

-- what is known of the line that starts at a position, by the state there, a table and a ledger
pub record HereIs (file : Text) (at : ℕ) (st : State) (table ledger : Text) (live : ℕ) (h : Here) : Type 0 where
  pub exact : h ≡ here_with file (marks_at file at) (read_of file at) st (block_of file at st)
      (facts_by (line_rec file at) table ledger live (block_of file at st)) h.own
  pub own_is : OwnEnd file h.facts.joined h.next h.own

-- a line starts at a position, and the state is what it is there
pub record LookAt (file : Text) (m : List ℕ) (at : ℕ) (st : State) : Type 0 where
  pub holds : Holds file at st
  pub less : at < length file
  pub short : length file ≤ 5000000
  pub room : length m ≡ mark_count

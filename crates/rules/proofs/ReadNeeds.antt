-- What each need of the functions that read a line asks, and of those that tell what is known of it.
-- Assumes nothing.
use mathlib.Core.Path.{◌≡◌, refl, sym, ap, ◌∙◌, subst}
use mathlib.Core.Bool.{Bool, true, false}
use mathlib.Core.List.{List}
use Prim.Native.Nat.{ℕ, ◌+◌, ◌≤◌, ◌<◌}
use native.Mathlib.Nat.{add-zero}
use native.Mathlib.Omega.{arith}
use borrow.Author.Rules.{rules}
use borrow.Author.Tests.{le-leb}
use lib.ListN.{length, get_or, take, drop}
use Rattle.std.specs.Prelude.{Option}
use Rattle.house.specs.Text.{Text}
use Rattle.lines_fields.specs.declared.LineAt.{LineAt}
use Rattle.lines_fields.specs.declared.Span.{Span}
use Rattle.lines_fields.specs.Lines.{line_of, line_len, line_at, LineIs}
use Rattle.lines_fields.specs.Marks.{marks_at, marks_in}
use Rattle.lines_fields.specs.Inside.{part}
use Rattle.lines_fields.proofs.LineLaws.{line_is, at_next, at_text}
use Rattle.lines_fields.proofs.MarkLaws.{mark_at}
use Rattle.lines_fields.proofs.FieldLaws.{start_zero}
use Rattle.lines.specs.Records.{Rec, record_of, rec_of}
use Rattle.lines.specs.Inside.{whole}
use Rattle.lines.proofs.PartLaws.{ended_inside, whole_step}
use Rattle.rules.specs.declared.State.{State}
use Rattle.rules.specs.declared.Read.{Read}
use Rattle.rules.specs.declared.BlockAt.{BlockAt}
use Rattle.rules.specs.declared.Here.{Here}
use Rattle.rules_fields.specs.declared.Facts.{Facts}
use Rattle.rules.specs.Walk.{rec_in, ReadIn, ReadAs, read_of, line_rec, block_by, facts_by, historical_by, vaccine_by, day_by, OwnEnd, here_with, block_of, HereIs, Holds, LookAt}

-- THE LINE THAT WAS READ

module _ (file : Text) (m : List ℕ) (r : Read) (a : ReadAs file m r) where
  pub first_mark : get_or m 0 0 ≡ r.at
  unfolding marks_at
  first_mark = rw a.marked (mark_at r.at (line_of (drop r.at file)).text 0 (omega arith) ∙ rw (start_zero, add-zero))

  pub read_in : ReadIn file m
  read_in = record { inside = omega (arith, first_mark, a.less); marked = a.marked ∙ ap (marks_at file) (sym first_mark) }

  pub rec_is : rec_in file m ≡ line_rec file r.at
  rec_is = ap (λ (n : ℕ). rec_of (line_of (drop n file)).text) first_mark

  pub read_kind : r.kind ≡ (rec_in file m).kind
  read_kind = a.kind_is ∙ ap (λ (x : Rec). x.kind) (sym rec_is)

  -- the line as the reader of lines tells it
  pub line_of_lem : LineIs file r.at (line_at r.at (drop r.at file))
  line_of_lem = line_is file r.at (line_at r.at (drop r.at file)) refl

  next_of : r.next ≡ (line_at r.at (drop r.at file)).next
  unfolding line_at
  next_of = a.next_is

  pub read_next : r.next ≤ length file
  read_next = omega (arith, next_of, line_of_lem.within, a.less)

  pub read_ended : (st : State) → Holds file r.at st → r.next < length file → whole (take r.next file) ≡ true
  read_ended st h n =
      rw next_of
      (whole_step file r.at (line_at r.at (drop r.at file)) line_of_lem (ended_inside file r.at (line_at r.at (drop r.at file)) line_of_lem (omega (arith, next_of))) (h.ended a.less))

-- here_of
module _ (file : Text) (m : List ℕ) (r : Read) (st : State) (b : BlockAt) (fs : Facts) (own : ℕ) where
  pub here_is : (x : Bool) (v : Span) (d : Option ℕ) → x ≡ historical_by (rec_in file m) r.kind st.known.historical → v ≡ vaccine_by file m r.kind st.known.vaccine → d ≡ day_by (rec_in file m) r.kind st.known.ii_day st.known.in_day
      → ◌≡◌ {A = Here} (record {
        kind = r.kind;
        historical = x;
        n = st.n;
        place = st.place;
        at = r.at;
        next = r.next;
        uli = st.known.uli;
        born = st.known.born;
        vaccine = v;
        day = d;
        since = st.since;
        block = b.from;
        own = own;
        first = st.block.first;
        facts = fs;
        again = false;
        differ = false;
      }) (here_with file m r st b fs own)
  unfolding here_with
  here_is x v d o p q = rw (o, p, q)

  here_own : OwnEnd file fs.joined r.next own → OwnEnd file (here_with file m r st b fs own).facts.joined (here_with file m r st b fs own).next own
  unfolding here_with
  here_own o = o

pub ruleset for_here_of = (rules, read_in, read_next, read_ended, here_is)

-- see
module _ (file : Text) (m : List ℕ) (r : Read) (a : ReadAs file m r) (st : State) (table ledger : Text) (live : ℕ) (b : BlockAt) (fs : Facts) (y : Here) where
  pub see_is : b ≡ block_by file (rec_in file m) r.at st.block.last st.block.run → fs ≡ facts_by (rec_in file m) table ledger live b
      → y ≡ here_with file m r st b fs y.own → OwnEnd file fs.joined r.next y.own → HereIs file r.at st table ledger live y
  see_is p q z o = record { exact = is_here; own_is = own }
    where
      bb : b ≡ block_of file r.at st
      bb = p ∙ ap (λ (x : Rec). block_by file x r.at st.block.last st.block.run) (rec_is file m r a)

      ff : fs ≡ facts_by (line_rec file r.at) table ledger live (block_of file r.at st)
      ff = q ∙ ap (λ (x : Rec). facts_by x table ledger live b) (rec_is file m r a) ∙ ap (facts_by (line_rec file r.at) table ledger live) bb

      rr : r ≡ read_of file r.at
      rr = ap (λ (n : ℕ). record { at = r.at; next = n; kind = r.kind }) a.next_is ∙ ap (λ (k : ℕ). record { at = r.at; next = r.at + line_len (drop r.at file); kind = k }) a.kind_is

      is_here : y ≡ here_with file (marks_at file r.at) (read_of file r.at) st (block_of file r.at st) (facts_by (line_rec file r.at) table ledger live (block_of file r.at st)) y.own
      is_here =
          z
          ∙ ap (λ (x : List ℕ). here_with file x r st b fs y.own) a.marked
          ∙ ap (λ (x : Read). here_with file (marks_at file r.at) x st b fs y.own) rr
          ∙ ap (λ (x : BlockAt). here_with file (marks_at file r.at) (read_of file r.at) st x fs y.own) bb
          ∙ ap (λ (x : Facts). here_with file (marks_at file r.at) (read_of file r.at) st (block_of file r.at st) x y.own) ff

      own : OwnEnd file y.facts.joined y.next y.own
      own = subst (λ (x : Here). OwnEnd file x.facts.joined x.next y.own) (sym z) (here_own file m r st b fs y.own o)

pub ruleset for_see = (rules, read_in, read_kind, see_is)

-- read
module _ (file : Text) (at : ℕ) (less : at < length file) (short : length file ≤ 5000000) (m₀ m : List ℕ) (room : length m₀ ≡ 30) (e : m ≡ marks_in file at m₀) where
  marks_are : m ≡ marks_at file at
  unfolding marks_in
  marks_are = e ∙ rw (room, le-leb (length file) 4294967295 (omega arith), le-leb at (length file) (omega arith))

  pub read_is : (l : LineAt) (t : Text) (k : ℕ) → LineIs file at l → t ≡ part file at l.end → k ≡ record_of t → ReadAs file m (record { at = at; next = l.next; kind = k })
  unfolding rec_of
  read_is l t k is te ke =
      record { less = less; marked = marks_are; next_is = at_next file at l is; kind_is = ke ∙ ap record_of (te ∙ at_text file at l is) }

pub ruleset for_read = (rules, read_is)

-- look
module _ (file : Text) (at : ℕ) (m : List ℕ) (r : Read) (e : r.at ≡ at) (a : ReadAs file m r) where
  pub look_marks : m ≡ marks_at file at
  look_marks = a.marked ∙ ap (marks_at file) e

  pub look_holds : (st : State) → Holds file at st → Holds file r.at st
  look_holds st h = subst (λ (n : ℕ). Holds file n st) (sym e) h

  pub look_here : (st : State) (table ledger : Text) (live : ℕ) (h : Here) → HereIs file r.at st table ledger live h → HereIs file at st table ledger live h
  look_here st table ledger live h i = subst (λ (n : ℕ). HereIs file n st table ledger live h) e i

module _ (file : Text) (m : List ℕ) (at : ℕ) (st : State) (l : LookAt file m at st) where
  pub look_less : at < length file
  look_less = l.less

  pub look_short : length file ≤ 5000000
  look_short = l.short

  pub look_room : length m ≡ 30
  look_room = l.room

  pub look_held : Holds file at st
  look_held = l.holds

pub ruleset for_look = (rules, look_marks, look_holds, look_here, look_less, look_short, look_room, look_held)

-- What is known at a line, and the open block: what the state shows of them.
-- Assumes nothing.
use mathlib.Core.Path.{◌≡◌, refl, sym, ap, ◌∙◌, subst}
use mathlib.Core.Bool.{Bool, true, false, not, cond, ◌&&◌}
use mathlib.Core.List.{List, [], ◌∷◌, ◌++◌, reverse}
use Prim.Native.Nat.{ℕ, ◌≤◌, ◌<◌}
use native.Mathlib.Nat.{add-zero}
use native.Mathlib.Omega.{arith}
use lib.Dec.{T, eqb}
use lib.ListN.{length, get_or, take, drop}
use Rattle.house.specs.Text.{Text, same, those, is_empty}
use Rattle.house.proofs.Small.{both}
use Rattle.house.proofs.Facts.{of_true}
use Rattle.house.proofs.Decisions.{same_is}
use Rattle.lines_fields.specs.declared.LineAt.{LineAt}
use Rattle.lines_fields.specs.Lines.{line_of, line_at, LineIs, fields_of}
use Rattle.lines_fields.specs.Marks.{marks_at, judged_span}
use Rattle.lines_fields.specs.Inside.{part}
use Rattle.lines_fields.proofs.LineLaws.{line_is, at_text, at_past}
use Rattle.lines_fields.proofs.FieldLaws.{start_zero}
use Rattle.lines_fields.proofs.MarkLaws.{judged_nil, mark_at, marked_judged, span_is}
use Rattle.lines.specs.Records.{Rec, II, is_kind, rec_of, recs}
use Rattle.lines.specs.Inside.{whole}
use Rattle.lines.proofs.PartLaws.{ended_inside, whole_step}
use Rattle.rules_definitions.specs.Forms.{field_in, text, is_historical}
use Rattle.rules_definitions.specs.Contexts.{no_rec, nearest}
use Rattle.rules_definitions.specs.Blocks.{is_in_block, same_event, joins, nearest_of, block_in, open_after, before_open, before_block, begins}
use Rattle.rules_definitions.proofs.EventLaws.{named}
use Rattle.rules_forms.proofs.FieldLaws.{text_is}
use Rattle.rules.specs.declared.State.{State}
use Rattle.rules.specs.declared.Here.{Here}
use Rattle.rules.specs.Walk.{part_of, line_rec, rec_in, lines_before, Holds, joins_open_by, block_by, facts_by, historical_by, vaccine_by, day_by, here_with, HereIs}
use Rattle.rules.proofs.WalkLaws.{no_recs, recs_next, back_step, before_step}

-- THE OPEN BLOCK

-- a line in a block has a type, and a line that is not there has none: so what it joins is there
no_type : text no_rec 4 ≡ []
unfolding no_rec rec_of field_in fields_of
no_type = judged_nil

same_type : (l p : Rec) → joins l p ≡ true → T (same (text l 4) (text p 4))
unfolding joins
same_type l p j = of_true (same (text l 4) (text p 4)) (both (same (text l 4) (text p 4)) (same_event l p) j).0

pub joins_open_lem : (l : Rec) (os : List Rec) → is_in_block l ≡ true → joins l (nearest_of os) ≡ true → is_empty os ≡ false
joins_open_lem l [] i j =
    absurd
    (subst (λ (t : Text). T (not (is_empty t))) (same_is (text l 4) (text no_rec 4) (same_type l no_rec j) ∙ no_type)
    (named l (of_true (is_in_block l) i)).type_given)
joins_open_lem l (o ∷ os) i j = refl

-- THE LINE AT A POSITION

module _ (file : Text) (at : ℕ) (less : at < length file) where
  abbrev m : List ℕ
  m = marks_at file at

  pub its_mark : get_or (marks_at file at) 0 0 ≡ at
  unfolding marks_at
  its_mark = mark_at at (line_of (drop at file)).text 0 (omega arith) ∙ rw (start_zero, add-zero)

  pub its_rec : rec_in file (marks_at file at) ≡ line_rec file at
  its_rec = ap (λ (n : ℕ). rec_of (line_of (drop n file)).text) its_mark

  -- its fields, where its marks say that they stand
  pub its_field : (f : ℕ) → f ≤ 28 → text (line_rec file at) f ≡ part_of file (judged_span file (marks_at file at) f)
  its_field f l = text_is (line_of (drop at file)).text f ∙ sym (span_is file (marks_at file at) f ∙ marked_judged file at f (omega arith) l)

-- WHAT IS KNOWN AT IT

module _ (file : Text) (at : ℕ) (st : State) (h : Holds file at st) (less : at < length file) (table ledger : Text) (live : ℕ) (y : Here)
    (i : HereIs file at st table ledger live y) where
  abbrev L : Rec
  L = line_rec file at

  abbrev before : List Rec
  before = lines_before file at

  abbrev q : LineAt
  q = line_at at (drop at file)

  e : LineIs file at q
  e = line_is file at q refl

  next_of : y.next ≡ q.next
  unfolding line_at here_with
  next_of = ap (λ (z : Here). z.next) i.exact

  rec_of_lem : rec_of (part file at q.end) ≡ L
  rec_of_lem = ap rec_of (at_text file at q e)

  pub on : at < y.next
  on = omega (arith, next_of, at_past file at q e less)

  pub upto : y.next ≤ length file
  upto = omega (arith, next_of, e.within, less)

  pub step : lines_before file y.next ≡ line_rec file at ∷ lines_before file at
  step = rw next_of (before_step file at q e less (h.ended less) ∙ ap (λ (l : Rec). l ∷ before) rec_of_lem)

  pub back : (p : ℕ) → p ≤ at → reverse (recs (part file p y.next)) ≡ line_rec file at ∷ reverse (recs (part file p at))
  back p k = rw next_of (back_step file at q e less (h.ended less) p k ∙ ap (λ (l : Rec). l ∷ reverse (recs (part file p at))) rec_of_lem)

  pub rows : (p : ℕ) → p ≤ at → recs (part file p y.next) ≡ recs (part file p at) ++ (line_rec file at ∷ [])
  rows p k = rw next_of (recs_next file at q e less (h.ended less) p k ∙ ap (λ (l : Rec). recs (part file p at) ++ (l ∷ [])) rec_of_lem)

  pub ended : y.next < length file → whole (take y.next file) ≡ true
  ended n = rw next_of (whole_step file at q e (ended_inside file at q e (omega (arith, next_of))) (h.ended less))

  pub its_kind : y.kind ≡ (line_rec file at).kind
  unfolding here_with
  its_kind = ap (λ (z : Here). z.kind) i.exact

  pub kind_of_lem : (j : ℕ) → is_kind j (line_rec file at) ≡ eqb y.kind j
  kind_of_lem j = ap (λ (k : ℕ). eqb k j) (sym its_kind)

  joins_is : joins_open_by file L st.block.last ≡ joins L (nearest_of (open_after before))
  unfolding joins_open_by joins same_event
  joins_is = rw (← h.open_is.kind_is, ← h.open_is.uli_is, ← h.open_is.date_is, ← h.open_is.vaccine_is)

  pub inb_is : y.facts.inb ≡ is_in_block (line_rec file at)
  unfolding here_with facts_by block_by
  inb_is = ap (λ (z : Here). z.facts.inb) i.exact

  pub joined_is : y.facts.joined ≡ is_in_block (line_rec file at) && joins (line_rec file at) (nearest_of (open_after (lines_before file at)))
  unfolding here_with facts_by block_by
  joined_is = ap (λ (z : Here). z.facts.joined) i.exact ∙ rw joins_is

  pub from_is : y.block ≡ cond (is_in_block (line_rec file at) && joins (line_rec file at) (nearest_of (open_after (lines_before file at)))) st.block.run at
  unfolding here_with block_by
  from_is = ap (λ (z : Here). z.block) i.exact ∙ rw joins_is

  pub from_back : y.block ≤ at
  from_back = rw from_is (go (is_in_block L && joins L (nearest_of (open_after before))))
    where
      go : (t : Bool) → cond t st.block.run at ≤ at
      go true = h.run_in
      go false = omega arith

  -- the earlier II lines of its block
  pub block_is : block_in (line_rec file at) (open_after (lines_before file at)) ≡ reverse (those (is_kind II) (recs (part file y.block at)))
  unfolding block_in
  block_is = rw from_is (go (is_in_block L && joins L (nearest_of (open_after before))))
    where
      go : (t : Bool) → cond t (open_after before) [] ≡ reverse (those (is_kind II) (recs (part file (cond t st.block.run at) at)))
      go true = h.run_is
      go false = rw (no_recs file at)

  -- the lines before its block
  pub outside : before_block (line_rec file at) (lines_before file at) ≡ lines_before file y.block
  unfolding before_block
  outside = rw from_is (go (is_in_block L) (joins L (nearest_of (open_after before))) refl refl)
    where
      go : (i j : Bool) → is_in_block L ≡ i → joins L (nearest_of (open_after before)) ≡ j → cond (i && j) (before_open before) before ≡ lines_before file (cond (i && j) st.block.run at)
      go true true p r = h.opened (joins_open_lem L (open_after before) p r)
      go true false p r = refl
      go false j p r = refl

  pub before_ended : whole (take y.block file) ≡ true
  before_ended = rw from_is (go (is_in_block L && joins L (nearest_of (open_after before))))
    where
      go : (t : Bool) → whole (take (cond t st.block.run at) file) ≡ true
      go true = h.run_ended (omega (arith, h.run_in))
      go false = h.ended less

  -- it begins a block
  pub begins_is : (first : Bool) → first ≡ (y.facts.inb && not y.facts.joined) → first ≡ begins (line_rec file at) (lines_before file at)
  unfolding begins
  begins_is first f = f ∙ rw (inb_is, joined_is) (go (is_in_block L) (joins L (nearest_of (open_after before))))
    where
      go : (i j : Bool) → i && not (i && j) ≡ i && not j
      go true j = refl
      go false j = refl

  abbrev M : List ℕ
  M = marks_at file at

  pub historical_is : y.historical ≡ historical_by (line_rec file at) y.kind st.known.historical
  unfolding here_with
  historical_is =
      ap (λ (z : Here). z.historical) i.exact
      ∙ ap (λ (k : ℕ). historical_by (rec_in file M) k st.known.historical) (sym its_kind)
      ∙ ap (λ (l : Rec). historical_by l y.kind st.known.historical) (its_rec file at less)

  pub historical_step : y.historical ≡ is_historical (text (nearest II (lines_before file y.next)) 5)
  unfolding historical_by
  historical_step = rw (step, kind_of_lem II, historical_is) (go (eqb y.kind II))
    where
      go : (t : Bool) → cond t (is_historical (text (line_rec file at) 5)) st.known.historical ≡ is_historical (text (cond t (line_rec file at) (nearest II (lines_before file at))) 5)
      go true = refl
      go false = h.known_is.historical_is

  pub vaccine_is : y.vaccine ≡ vaccine_by file (marks_at file at) y.kind st.known.vaccine
  unfolding here_with
  vaccine_is = ap (λ (z : Here). z.vaccine) i.exact ∙ ap (λ (k : ℕ). vaccine_by file M k st.known.vaccine) (sym its_kind)

  pub day_is : y.day ≡ day_by (line_rec file at) y.kind st.known.ii_day st.known.in_day
  unfolding here_with
  day_is =
      ap (λ (z : Here). z.day) i.exact
      ∙ ap (λ (k : ℕ). day_by (rec_in file M) k st.known.ii_day st.known.in_day) (sym its_kind)
      ∙ ap (λ (l : Rec). day_by l y.kind st.known.ii_day st.known.in_day) (its_rec file at less)

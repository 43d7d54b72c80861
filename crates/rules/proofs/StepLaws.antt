-- One turn of the walk: the state after a line shows the next one.
-- Assumes nothing.
use mathlib.Core.Path.{◌≡◌, refl, sym, ap, ◌∙◌}
use mathlib.Core.Bool.{Bool, true, false, cond, ◌&&◌, ◌||◌}
use mathlib.Core.List.{List, [], ◌∷◌, ◌++◌, reverse, reverse-append, append-nil}
use Prim.Native.Nat.{ℕ, suc, ◌+◌, ◌≤◌, ◌<◌}
use native.Mathlib.Omega.{arith}
use borrow.Author.Tests.{eqb-true}
use lib.Dec.{eqb}
use lib.ListN.{length, take}
use Rattle.std.specs.Prelude.{unwrap_or}
use Rattle.house.specs.Text.{Text, those, how_many, front, is_empty, within}
use Rattle.house.proofs.Small.{both, clash}
use Rattle.lines_fields.specs.declared.Span.{Span}
use Rattle.lines_fields.specs.Marks.{marks_at, span, judged_span}
use Rattle.lines_fields.specs.Inside.{part}
use Rattle.lines.specs.Records.{Rec, IP, II, IE, IN, IA, is_kind, recs}
use Rattle.lines.specs.Inside.{whole}
use Rattle.ledger.proofs.AmongLaws.{those_append}
use Rattle.rules_definitions.specs.Forms.{text, is_sound}
use Rattle.rules_definitions.specs.Contexts.{nearest, is_numbered}
use Rattle.rules_definitions.specs.Blocks.{is_in_block, joins, nearest_of, block_in, open_after, has_second, first_open, before_open}
use Rattle.rules.specs.declared.State.{State}
use Rattle.rules.specs.declared.Here.{Here}
use Rattle.rules.specs.Walk.{part_of, line_rec, rec_in, lines_before, LinesAre, day_of, OpenIs, Holds, no_open, vaccine_by, day_by, HereIs}
use Rattle.rules.specs.Advance.{next_place, next_uli, next_born, next_day, next_since, open_in, next_open, next_run, next_many, next_first, next_not_immunized, next_known, next_block, advanced}
use Rattle.rules.proofs.WalkLaws.{no_recs}
use Rattle.rules.proofs.SeenLaws as seen
use Rattle.rules.proofs.SeenLaws.{joins_open_lem, its_rec, its_field}
use Rattle.rules.proofs.StartLaws.{no_lines, lines_on, no_open_lem}

module _ (file : Text) (at : ℕ) (st : State) (h : Holds file at st) (less : at < length file) (table ledger : Text) (live : ℕ) (y : Here)
    (i : HereIs file at st table ledger live y) where
  abbrev L : Rec
  L = line_rec file at

  abbrev before : List Rec
  before = lines_before file at

  abbrev M : List ℕ
  M = marks_at file at

  abbrev k : ℕ
  k = y.kind

  on : at < y.next
  on = seen.on file at st h less table ledger live y i

  step : lines_before file y.next ≡ L ∷ before
  step = seen.step file at st h less table ledger live y i

  back : (p : ℕ) → p ≤ at → reverse (recs (part file p y.next)) ≡ L ∷ reverse (recs (part file p at))
  back = seen.back file at st h less table ledger live y i

  kind_of_lem : (j : ℕ) → is_kind j L ≡ eqb k j
  kind_of_lem = seen.kind_of_lem file at st h less table ledger live y i

  inb_is : y.facts.inb ≡ is_in_block L
  inb_is = seen.inb_is file at st h less table ledger live y i

  joined_is : y.facts.joined ≡ is_in_block L && joins L (nearest_of (open_after before))
  joined_is = seen.joined_is file at st h less table ledger live y i

  from_is : y.block ≡ cond (is_in_block L && joins L (nearest_of (open_after before))) st.block.run at
  from_is = seen.from_is file at st h less table ledger live y i

  ended_step : y.next < length file → whole (take y.next file) ≡ true
  ended_step = seen.ended file at st h less table ledger live y i

  numbered_is : is_numbered L ≡ within IP IA k
  unfolding is_numbered
  numbered_is = ap (within IP IA) (sym (seen.its_kind file at st h less table ledger live y i))

  place_step : next_place st.place k ≡ suc (how_many is_numbered (lines_before file y.next))
  unfolding next_place
  place_step = rw (step, numbered_is, h.place_is) (go (within IP IA k))
    where
      go : (t : Bool) → cond t (suc (how_many is_numbered before) + 1) (suc (how_many is_numbered before)) ≡ suc (cond t (suc (how_many is_numbered before)) (how_many is_numbered before))
      go true = omega arith
      go false = refl

  not_immunized_step : next_not_immunized st.not_immunized k ≡ how_many (is_kind IN) (lines_before file y.next)
  unfolding next_not_immunized
  not_immunized_step = rw (step, kind_of_lem IN, h.not_immunized_is) (go (eqb k IN))
    where
      go : (t : Bool) → cond t (how_many (is_kind IN) before + 1) (how_many (is_kind IN) before) ≡ cond t (suc (how_many (is_kind IN) before)) (how_many (is_kind IN) before)
      go true = omega arith
      go false = refl

  -- what the nearest IP, II and IN give
  uli_step : text (nearest IP (lines_before file y.next)) 3 ≡ part_of file (next_uli file M k st.known.uli)
  unfolding next_uli
  uli_step = rw (step, kind_of_lem IP) (go (eqb k IP))
    where
      go : (t : Bool) → text (cond t L (nearest IP before)) 3 ≡ part_of file (cond t (judged_span file M 3) st.known.uli)
      go true = its_field file at less 3 (omega arith)
      go false = h.known_is.uli_is

  born_step : next_born (rec_in file M) k st.known.born ≡ unwrap_or (day_of (text (nearest IP (lines_before file y.next)) 25)) 0
  unfolding next_born
  born_step = rw (step, kind_of_lem IP, its_rec file at less) (go (eqb k IP))
    where
      go : (t : Bool) → cond t (unwrap_or (day_of (text L 25)) 0) st.known.born ≡ unwrap_or (day_of (text (cond t L (nearest IP before)) 25)) 0
      go true = refl
      go false = h.known_is.born_is

  vaccine_step : text (nearest II (lines_before file y.next)) 8 ≡ part_of file y.vaccine
  unfolding vaccine_by
  vaccine_step = rw (step, kind_of_lem II, seen.vaccine_is file at st h less table ledger live y i) (go (eqb k II))
    where
      go : (t : Bool) → text (cond t L (nearest II before)) 8 ≡ part_of file (cond t (judged_span file M 8) st.known.vaccine)
      go true = its_field file at less 8 (omega arith)
      go false = h.known_is.vaccine_is

  day_is : y.day ≡ day_by L k st.known.ii_day st.known.in_day
  day_is = seen.day_is file at st h less table ledger live y i

  ii_day_step : next_day II st.known.ii_day k y.day ≡ day_of (text (nearest II (lines_before file y.next)) 6)
  unfolding next_day day_by
  ii_day_step = rw (step, kind_of_lem II, day_is, h.known_is.ii_day_is) (go (eqb k II))
    where
      go : (t : Bool) → cond t (cond t (day_of (text L 6)) (cond (eqb k IE) (day_of (text (nearest II before) 6)) (cond (eqb k IN) (day_of (text L 5)) st.known.in_day))) (day_of (text (nearest II before) 6))
          ≡ day_of (text (cond t L (nearest II before)) 6)
      go true = refl
      go false = refl

  in_day_step : next_day IN st.known.in_day k y.day ≡ day_of (text (nearest IN (lines_before file y.next)) 5)
  unfolding next_day day_by
  in_day_step = rw (step, kind_of_lem IN, day_is, h.known_is.in_day_is) (go (eqb k II) (eqb k IE) (eqb k IN) refl refl refl)
    where
      go : (x z t : Bool) → eqb k II ≡ x → eqb k IE ≡ z → eqb k IN ≡ t
          → cond t (cond x (day_of (text L 6)) (cond z st.known.ii_day (cond t (day_of (text L 5)) (day_of (text (nearest IN before) 5))))) (day_of (text (nearest IN before) 5)) ≡ day_of (text (cond t L (nearest IN before)) 5)
      go true z true a b c = let m : k ≡ 4 = eqb-true k II a in let n : k ≡ 6 = eqb-true k IN c in absurd (omega (arith, m, n))
      go false true true a b c = let m : k ≡ 5 = eqb-true k IE b in let n : k ≡ 6 = eqb-true k IN c in absurd (omega (arith, m, n))
      go false false true a b c = refl
      go x z false a b c = refl

  since_step : LinesAre file y.next (span (next_since st.since k y.next) y.next) (front (is_kind IE) (lines_before file y.next))
  unfolding next_since
  since_step = rw (step, kind_of_lem IE) (go (eqb k IE))
    where
      go : (t : Bool) → LinesAre file y.next (span (cond t st.since y.next) y.next) (cond t (L ∷ front (is_kind IE) before) [])
      go true =
          record {
            are = sym (back st.since h.since_is.from ∙ ap (λ (ls : List Rec). L ∷ ls) (sym h.since_is.are));
            from = omega (arith, h.since_is.from, on);
            upto = omega arith;
          }
      go false = no_lines file y.next

  -- the open block
  abbrev opens : List Rec
  opens = open_after before

  open_is : open_after (lines_before file y.next) ≡ cond (eqb k IE) opens (cond y.facts.inb (L ∷ block_in L opens) [])
  open_is = rw (step, kind_of_lem IE, inb_is)

  those_step : (p : ℕ) → p ≤ at
      → reverse (those (is_kind II) (recs (part file p y.next))) ≡ reverse (those (is_kind II) (recs (part file p at)) ++ cond (is_kind II L) (L ∷ []) [])
  those_step p m = rw (seen.rows file at st h less table ledger live y i p m, those_append (is_kind II) (recs (part file p at)) (L ∷ []))

  those_ie : (p : ℕ) → p ≤ at → k ≡ IE → reverse (those (is_kind II) (recs (part file p y.next))) ≡ reverse (those (is_kind II) (recs (part file p at)))
  those_ie p m z = those_step p m ∙ rw (kind_of_lem II, z, append-nil)

  in_kind : is_in_block L ≡ true → is_kind II L ≡ true
  unfolding is_in_block
  in_kind m = (both (is_kind II L) (is_sound II L 3 && (is_sound II L 4 && (is_sound II L 6 && is_sound II L 8))) m).0

  those_ii : (p : ℕ) → p ≤ at → is_in_block L ≡ true
      → reverse (those (is_kind II) (recs (part file p y.next))) ≡ L ∷ reverse (those (is_kind II) (recs (part file p at)))
  those_ii p m z = those_step p m ∙ rw (in_kind z) (reverse-append (those (is_kind II) (recs (part file p at))) (L ∷ []))

  run_step : open_after (lines_before file y.next) ≡ reverse (those (is_kind II) (recs (part file (next_run st.block.run k y.facts.inb y.block y.next) y.next)))
  unfolding next_run
  run_step = rw open_is (go (eqb k IE) y.facts.inb refl refl)
    where
      go : (t u : Bool) → eqb k IE ≡ t → y.facts.inb ≡ u
          → cond t opens (cond u (L ∷ block_in L opens) []) ≡ reverse (those (is_kind II) (recs (part file (cond t st.block.run (cond u y.block y.next)) y.next)))
      go true u m n = h.run_is ∙ sym (those_ie st.block.run h.run_in (eqb-true k IE m))
      go false true m n =
          sym
          (those_ii y.block (seen.from_back file at st h less table ledger live y i) (sym inb_is ∙ n)
          ∙ ap (λ (ls : List Rec). L ∷ ls) (sym (seen.block_is file at st h less table ledger live y i)))
      go false false m n = sym (rw (no_recs file y.next))

  run_in : next_run st.block.run k y.facts.inb y.block y.next ≤ y.next
  unfolding next_run
  run_in = go (eqb k IE) y.facts.inb
    where
      go : (t u : Bool) → cond t st.block.run (cond u y.block y.next) ≤ y.next
      go true u = omega (arith, h.run_in, on)
      go false true = omega (arith, seen.from_back file at st h less table ledger live y i, on)
      go false false = omega arith

  run_ended : next_run st.block.run k y.facts.inb y.block y.next < length file → whole (take (next_run st.block.run k y.facts.inb y.block y.next) file) ≡ true
  unfolding next_run
  run_ended = go (eqb k IE) y.facts.inb
    where
      go : (t u : Bool) → cond t st.block.run (cond u y.block y.next) < length file → whole (take (cond t st.block.run (cond u y.block y.next)) file) ≡ true
      go true u = h.run_ended
      go false true = λ z. seen.before_ended file at st h less table ledger live y i
      go false false = ended_step

  here_open : OpenIs file (open_in file M) L
  here_open =
      record {
        uli_is = its_field file at less 3 (omega arith);
        kind_is = its_field file at less 4 (omega arith);
        date_is = its_field file at less 6 (omega arith);
        vaccine_is = its_field file at less 8 (omega arith);
      }

  last_step : OpenIs file (next_open file M st.block.last k y.facts.inb) (nearest_of (open_after (lines_before file y.next)))
  unfolding next_open
  last_step = rw open_is (go (eqb k IE) y.facts.inb)
    where
      go : (t u : Bool) → OpenIs file (cond t st.block.last (cond u (open_in file M) no_open)) (nearest_of (cond t opens (cond u (L ∷ block_in L opens) [])))
      go true u = h.open_is
      go false true = here_open
      go false false = no_open_lem file

  -- the lines before it
  opened_step : is_empty (open_after (lines_before file y.next)) ≡ false → before_open (lines_before file y.next) ≡ lines_before file (next_run st.block.run k y.facts.inb y.block y.next)
  unfolding next_run
  opened_step = rw (step, kind_of_lem IE, inb_is, from_is) (go (eqb k IE) (is_in_block L) (joins L (nearest_of opens)) refl refl)
    where
      go : (t i j : Bool) → is_in_block L ≡ i → joins L (nearest_of opens) ≡ j
          → is_empty (cond t opens (cond i (L ∷ block_in L opens) [])) ≡ false
          → cond (t || (i && j)) (before_open before) before ≡ lines_before file (cond t st.block.run (cond i (cond (i && j) st.block.run at) y.next))
      go true i j m n z = h.opened z
      go false true true m n z = h.opened (joins_open_lem L opens m n)
      go false true false m n z = refl
      go false false j m n z = clash (cc)

  many_step : next_many st.block.many k y.facts.joined ≡ has_second (lines_before file y.next)
  unfolding next_many
  many_step = rw (step, kind_of_lem IE, joined_is, h.many_is)

  abbrev first_by : Bool → Bool → Bool → Span
  first_by t u v = cond t (cond u st.block.first (span st.block.first.start y.next)) (cond v st.block.first (span y.next y.next))

  first_step : LinesAre file y.next (next_first st.block.first st.block.many k y.facts.joined y.next) (first_open (lines_before file y.next))
  unfolding next_first
  first_step = rw (step, kind_of_lem IE, ← joined_is, ← h.many_is) (go (eqb k IE) st.block.many y.facts.joined h.first_at)
    where
      go : (t u v : Bool) → (u ≡ false → st.block.first.end ≡ at)
          → LinesAre file y.next (first_by t u v) (cond t (cond u (first_open before) (L ∷ first_open before)) (cond v (first_open before) []))
      go true true v c = lines_on file at y.next st.block.first (first_open before) (omega (arith, on)) h.first_is
      go true false v c =
          record {
            are =
                sym
                (back st.block.first.start (omega (arith, h.first_is.from, h.first_is.upto))
                ∙ ap (λ (ls : List Rec). L ∷ ls) (sym (h.first_is.are ∙ ap (λ (n : ℕ). reverse (recs (part file st.block.first.start n))) (c refl))));
            from = omega (arith, h.first_is.from, h.first_is.upto, on);
            upto = omega arith;
          }
      go false u true c = lines_on file at y.next st.block.first (first_open before) (omega (arith, on)) h.first_is
      go false u false c = no_lines file y.next

  first_end : next_many st.block.many k y.facts.joined ≡ false → (next_first st.block.first st.block.many k y.facts.joined y.next).end ≡ y.next
  unfolding next_many next_first
  first_end = go (eqb k IE) st.block.many y.facts.joined
    where
      go : (t u v : Bool) → cond t u v ≡ false → (first_by t u v).end ≡ y.next
      go true true v z = clash (cc)
      go true false v z = refl
      go false u true z = clash (cc)
      go false u false z = refl

  grows : (t : Bool) (x z : ℕ) → x ≤ at + z → cond t (x + 1) x ≤ y.next + z
  grows true x z m = omega (arith, on)
  grows false x z m = omega (arith, on)

  pub holds_step : Holds file y.next (advanced file (marks_at file at) st y)
  unfolding advanced next_place next_not_immunized next_known next_block
  holds_step =
      record {
        ended = ended_step;
        place_is = place_step;
        known_is = record { uli_is = uli_step; born_is = born_step; historical_is = seen.historical_step file at st h less table ledger live y i; vaccine_is = vaccine_step; ii_day_is = ii_day_step; in_day_is = in_day_step };
        since_is = since_step;
        open_is = last_step;
        run_is = run_step;
        run_in = run_in;
        run_ended = run_ended;
        opened = opened_step;
        many_is = many_step;
        first_is = first_step;
        first_at = first_end;
        not_immunized_is = not_immunized_step;
        n_small = omega (arith, h.n_small, on);
        place_small = grows (within IP IA k) st.place 1 h.place_small;
        not_immunized_small = omega (arith, grows (eqb k IN) st.not_immunized 0 (omega (arith, h.not_immunized_small)));
      }

-- What is known at a line tells what the rules see from it.
-- Assumes nothing.
use mathlib.Core.Path.{◌≡◌, refl, sym, ap, ◌∙◌, subst}
use mathlib.Core.Bool.{Bool, true, false, cond, ◌&&◌}
use mathlib.Core.List.{List, reverse}
use Prim.Native.Nat.{ℕ, ◌≤◌, ◌<◌}
use native.Mathlib.Omega.{arith}
use borrow.Author.Tests.{eqb-true, eqb-false, leb-true}
use lib.Dec.{eqb, leb}
use lib.ListN.{length, drop}
use Rattle.std.specs.Prelude.{Option, unwrap_or}
use Rattle.std.specs.Option.{is_some}
use Rattle.house.specs.Text.{Text, number, within, any, those, front}
use Rattle.house.proofs.Small.{both, clash}
use Rattle.dates.specs.Dates.{is_date}
use Rattle.lines_fields.specs.declared.Span.{Span}
use Rattle.lines_fields.specs.Marks.{marks_at, judged_span}
use Rattle.lines_fields.specs.Inside.{part}
use Rattle.lines.specs.Records.{Rec, IP, II, IE, IN, IA, is_kind, recs}
use Rattle.ledger.specs.Ledger.{Event, found_in}
use Rattle.rules_definitions.specs.Forms.{text, is_historical, is_sound}
use Rattle.rules_definitions.specs.Contexts.{Context, nearest, head_kind, head_of}
use Rattle.rules_definitions.specs.Blocks.{is_in_block, event_of, open_after, block_in, before_block}
use Rattle.rules_definitions.specs.Seen.{Setting, Seen, seen_at}
use Rattle.rules_definitions.specs.Codes.{day_field, day_is_sound, record_day}
use Rattle.rules_definitions.specs.Rules.{same_antigen, counts_sound, sets_differ, same_lot}
use Rattle.rules_forms.proofs.SoundLaws.{ip_25, ii_6, in_5}
use Rattle.rules_lists.specs.Among.{lot_is}
use Rattle.rules_walk.specs.Firsts.{start_after}
use Rattle.rules_walk.specs.Repeats.{is_noted}
use Rattle.rules_walk.proofs.StartLaws.{start_upto}
use Rattle.rules.specs.declared.State.{State}
use Rattle.rules.specs.declared.Here.{Here}
use Rattle.rules.specs.declared.By.{By}
use Rattle.rules.specs.Under.{with_repeated, repeated_by, seen_by}
use Rattle.rules_plain.specs.PlainFields.{born_of}
use Rattle.rules.specs.Fields.{DayIs, Looks, Blocked, Told}
use Rattle.rules.specs.Walk.{part_of, line_rec, lines_before, one_day, no_day, day_of, Holds, facts_by, historical_by, vaccine_by, day_by, here_with, HereIs}
use Rattle.rules.specs.Questions.{antigen_again, AnswersAre, answered}
use Rattle.rules.proofs.AnswerLaws.{rule12_lines, rule13_lines, rule14_lines}
use Rattle.rules.proofs.SeenLaws as seen

-- the day of birth
born_is : (ip : Rec) → born_of ip ≡ unwrap_or (day_of (text ip 25)) 0
unfolding day_of born_of
born_is ip = rw (ip_25 ip) (go (is_date (text ip 25)))
  where
    go : (t : Bool) → cond t (number (text ip 25)) 0 ≡ unwrap_or (cond {A = Option ℕ} t (one_day (number (text ip 25))) no_day) 0
    go true = refl
    go false = refl

-- a date is sound, and its number is read
day_sound : (t : Text) → is_some (day_of t) ≡ is_date t
unfolding day_of
day_sound t = go (is_date t)
  where
    go : (b : Bool) → is_some (cond {A = Option ℕ} b (one_day (number t)) no_day) ≡ b
    go true = refl
    go false = refl

day_number : (t : Text) → is_some (day_of t) ≡ true → number t ≡ unwrap_or (day_of t) 0
unfolding day_of
day_number t = go (is_date t)
  where
    go : (b : Bool) → is_some (cond {A = Option ℕ} b (one_day (number t)) no_day) ≡ true
        → number t ≡ unwrap_or (cond {A = Option ℕ} b (one_day (number t)) no_day) 0
    go true e = refl
    go false e = clash (cc)

-- the day of the record that a line of kind k belongs to
module _ (v : Seen) (k j f : ℕ) (e : v.line.kind ≡ k) (a : head_kind k ≡ j) (b : day_field j ≡ f) (c : is_sound j v.head f ≡ is_date (text v.head f)) where
  dated : DayIs (is_some (day_of (text v.head f))) (unwrap_or (day_of (text v.head f)) 0) v
  unfolding day_is_sound record_day
  dated =
      record {
        sound_is = rw (e, a, b) (c ∙ sym (day_sound (text v.head f)));
        number_is = λ z. rw (e, a, b) (day_number (text v.head f) z);
      }

module _ (file : Text) (at : ℕ) (st : State) (h : Holds file at st) (less : at < length file) (table ledger : Text) (live : ℕ) (y : Here)
    (i : HereIs file at st table ledger live y) (s : Setting) where
  abbrev L : Rec
  L = line_rec file at

  abbrev before : List Rec
  before = lines_before file at

  abbrev k : ℕ
  k = y.kind

  -- the line in its context, and what is seen from it
  abbrev pub here : Context
  here = record { number = st.n; before = before; line = L; after = recs (drop y.next file) }

  abbrev pub view : Seen
  view = seen_by s file table here

  kind_is : L.kind ≡ k
  kind_is = sym (seen.its_kind file at st h less table ledger live y i)

  -- its head
  head_of_lem : head_of L before ≡ cond (eqb k IE) (nearest II before) (cond (eqb k IA) (nearest IN before) L)
  unfolding head_of
  head_of_lem = rw (seen.kind_of_lem file at st h less table ledger live y i IE, seen.kind_of_lem file at st h less table ledger live y i IA)

  head_ii : k ≡ 4 → L ≡ head_of L before
  head_ii m = sym (head_of_lem ∙ rw m)

  head_ie : k ≡ 5 → nearest II before ≡ head_of L before
  head_ie m = sym (head_of_lem ∙ rw m)

  head_in : k ≡ 6 → L ≡ head_of L before
  head_in m = sym (head_of_lem ∙ rw m)

  head_ia : k ≡ 7 → nearest IN before ≡ head_of L before
  head_ia m = sym (head_of_lem ∙ rw m)

  historical_told : within II IE k ≡ true → is_historical (text (head_of L before) 5) ≡ y.historical
  unfolding historical_by
  historical_told w =
      let p = both (leb 4 k) (leb k 5) w in
      rw (head_of_lem, seen.historical_is file at st h less table ledger live y i) (go (eqb k II) (eqb k IE) (eqb k IA) refl refl refl (leb-true 4 k p.0) (leb-true k 5 p.1))
    where
      go : (a b c : Bool) → eqb k II ≡ a → eqb k IE ≡ b → eqb k IA ≡ c → 4 ≤ k → k ≤ 5
          → is_historical (text (cond b (nearest II before) (cond c (nearest IN before) L)) 5) ≡ cond a (is_historical (text L 5)) st.known.historical
      go true true c p q r lo hi = let m : k ≡ 4 = eqb-true k 4 p in let n : k ≡ 5 = eqb-true k 5 q in absurd (omega (arith, m, n))
      go true false true p q r lo hi = let m : k ≡ 4 = eqb-true k 4 p in let n : k ≡ 7 = eqb-true k 7 r in absurd (omega (arith, m, n))
      go true false false p q r lo hi = refl
      go false true c p q r lo hi = sym h.known_is.historical_is
      go false false c p q r lo hi = absurd (omega (arith, eqb-false k 4 p, eqb-false k 5 q))

  vaccine_told : within II IE k ≡ true → text (head_of L before) 8 ≡ part_of file y.vaccine
  unfolding vaccine_by
  vaccine_told w =
      let p = both (leb 4 k) (leb k 5) w in
      rw (head_of_lem, seen.vaccine_is file at st h less table ledger live y i) (go (eqb k II) (eqb k IE) (eqb k IA) refl refl refl (leb-true 4 k p.0) (leb-true k 5 p.1))
    where
      go : (a b c : Bool) → eqb k II ≡ a → eqb k IE ≡ b → eqb k IA ≡ c → 4 ≤ k → k ≤ 5
          → text (cond b (nearest II before) (cond c (nearest IN before) L)) 8 ≡ part_of file (cond a (judged_span file (marks_at file at) 8) st.known.vaccine)
      go true true c p q r lo hi = let m : k ≡ 4 = eqb-true k 4 p in let n : k ≡ 5 = eqb-true k 5 q in absurd (omega (arith, m, n))
      go true false true p q r lo hi = let m : k ≡ 4 = eqb-true k 4 p in let n : k ≡ 7 = eqb-true k 7 r in absurd (omega (arith, m, n))
      go true false false p q r lo hi = seen.its_field file at less 8 (omega arith)
      go false true c p q r lo hi = h.known_is.vaccine_is
      go false false c p q r lo hi = absurd (omega (arith, eqb-false k 4 p, eqb-false k 5 q))

  day_told : within II IA k ≡ true → DayIs (is_some y.day) (unwrap_or y.day 0) view
  unfolding with_repeated seen_at head_kind day_field day_by
  day_told w =
      let p = both (leb 4 k) (leb k 7) w in
      go (eqb k II) (eqb k IE) (eqb k IN) refl refl refl (leb-true 4 k p.0) (leb-true k 7 p.1)
    where
      is : y.day ≡ day_by L k st.known.ii_day st.known.in_day
      is = seen.day_is file at st h less table ledger live y i

      by : (d : Text) (f : ℕ) → y.day ≡ day_of (text (head_of L before) f) → DayIs (is_some (day_of (text (head_of L before) f))) (unwrap_or (day_of (text (head_of L before) f)) 0) view → DayIs (is_some y.day) (unwrap_or y.day 0) view
      by d f e x = subst (λ (z : Option ℕ). DayIs (is_some z) (unwrap_or z 0) view) (sym e) x

      go : (a b c : Bool) → eqb k II ≡ a → eqb k IE ≡ b → eqb k IN ≡ c → 4 ≤ k → k ≤ 7 → DayIs (is_some y.day) (unwrap_or y.day 0) view
      go true b c p q r lo hi =
          let m : k ≡ 4 = eqb-true k 4 p in
          by (text L 6) 6 (is ∙ rw m (ap (λ (l : Rec). day_of (text l 6)) (head_ii m))) (dated view k 4 6 kind_is (rw m) refl (ii_6 (head_of L before)))
      go false true c p q r lo hi =
          let m : k ≡ 5 = eqb-true k 5 q in
          by (text L 6) 6 (is ∙ rw m (h.known_is.ii_day_is ∙ ap (λ (l : Rec). day_of (text l 6)) (head_ie m))) (dated view k 4 6 kind_is (rw m) refl (ii_6 (head_of L before)))
      go false false true p q r lo hi =
          let m : k ≡ 6 = eqb-true k 6 r in
          by (text L 5) 5 (is ∙ rw m (ap (λ (l : Rec). day_of (text l 5)) (head_in m))) (dated view k 6 5 kind_is (rw m) refl (in_5 (head_of L before)))
      go false false false p q r lo hi =
          let m : k ≡ 7 = omega (arith, eqb-false k 4 p, eqb-false k 5 q, eqb-false k 6 r) in
          by (text L 5) 5 (is ∙ rw m (h.known_is.in_day_is ∙ ap (λ (l : Rec). day_of (text l 5)) (head_ia m))) (dated view k 6 5 kind_is (rw m) refl (in_5 (head_of L before)))

  -- where its block starts
  start_is : start_after file (before_block L before) ≡ y.block
  unfolding lines_before
  start_is =
      ap (start_after file) (seen.outside file at st h less table ledger live y i)
      ∙ start_upto file y.block (omega (arith, seen.from_back file at st h less table ledger live y i)) (seen.before_ended file at st h less table ledger live y i)

  facts_repeated : y.facts.repeated ≡ y.facts.inb && is_noted table y.block
  unfolding here_with facts_by
  facts_repeated = ap (λ (z : Here). z.facts.repeated) i.exact ∙ sym (ap (λ (z : Here). z.facts.inb && is_noted table z.block) i.exact)

  facts_live : y.facts.live ≡ y.facts.inb && found_in ledger live (event_of L)
  unfolding here_with facts_by
  facts_live = ap (λ (z : Here). z.facts.live) i.exact ∙ sym (ap (λ (z : Here). z.facts.inb && found_in ledger live (event_of L)) i.exact)

  repeated_told : repeated_by file table L before ≡ y.facts.repeated
  unfolding repeated_by
  repeated_told = rw (start_is, ← seen.inb_is file at st h less table ledger live y i) (sym facts_repeated)

  live_told : s.live ≡ found_in ledger live → is_in_block L ≡ true → s.live (event_of L) ≡ y.facts.live
  live_told lv b = ap (λ (g : Event → Bool). g (event_of L)) lv ∙ sym (facts_live ∙ rw (seen.inb_is file at st h less table ledger live y i, b))

  -- the rest of it is as the state has it
  at_is : y.at ≡ at
  unfolding here_with
  at_is = ap (λ (z : Here). z.at) i.exact

  pub number_is : y.n ≡ st.n
  unfolding here_with
  number_is = ap (λ (z : Here). z.n) i.exact

  place_is : y.place ≡ st.place
  unfolding here_with
  place_is = ap (λ (z : Here). z.place) i.exact

  uli_is : y.uli ≡ st.known.uli
  unfolding here_with
  uli_is = ap (λ (z : Here). z.uli) i.exact

  birth_is : y.born ≡ st.known.born
  unfolding here_with
  birth_is = ap (λ (z : Here). z.born) i.exact

  since_is : y.since ≡ st.since
  unfolding here_with
  since_is = ap (λ (z : Here). z.since) i.exact

  first_is : y.first ≡ st.block.first
  unfolding here_with
  first_is = ap (λ (z : Here). z.first) i.exact

  its_line : L ≡ line_rec file y.at
  its_line = ap (line_rec file) (sym at_is)

  -- with the answers that were asked for
  module _ (again differ : Bool) (q : AnswersAre file y again differ) (book : Text) (by : By) (ls : Looks by book s) (lv : s.live ≡ found_in ledger live) where
    antigen_told : y.kind ≡ IE → is_sound IE view.line 4 && any (same_antigen view.line) view.antigens ≡ again
    unfolding with_repeated seen_at
    antigen_told k =
        rule12_lines L (part file y.since y.at) (front (is_kind IE) before)
        (h.since_is.are ∙ ap (λ (n : ℕ). reverse (recs (part file n at))) (sym since_is) ∙ ap (λ (n : ℕ). reverse (recs (part file y.since n))) (sym at_is))
        ∙ ap (λ (l : Rec). antigen_again (text l 4) (part file y.since y.at)) its_line
        ∙ sym (q.antigen_is_lem k)

    lot_told : y.kind ≡ II → any (same_lot view.line) view.block ≡ again
    unfolding with_repeated seen_at
    lot_told k =
        rule14_lines L (part file y.block y.at) (block_in L (open_after before))
        (seen.block_is file at st h less table ledger live y i ∙ ap (λ (n : ℕ). reverse (those (is_kind II) (recs (part file y.block n)))) (sym at_is))
        ∙ ap (λ (l : Rec). any (lot_is (text l 15)) (recs (part file y.block y.at))) its_line
        ∙ sym (q.lot_is_lem k)

    differ_told : y.kind ≡ II → view.not_first && (counts_sound view.own && (counts_sound view.first && sets_differ view.own view.first)) ≡ differ
    unfolding with_repeated seen_at
    differ_told k =
        rule13_lines view.not_first y.facts.joined (part file y.next y.own) (part_of file y.first) view.own view.first
        (sym (seen.joined_is file at st h less table ledger live y i)) i.own_is.joined_own
        (h.first_is.are ∙ ap (λ (p : Span). reverse (recs (part_of file p))) (sym first_is))
        ∙ sym (q.differ_is k)

    blocked : y.kind ≡ II → Blocked (answered y again differ) view
    unfolding with_repeated seen_at answered
    blocked k =
        record {
          inb_is = sym (seen.inb_is file at st h less table ledger live y i);
          again_is = lot_told k;
          differ_is = differ_told k;
          repeated_is = repeated_told;
          live_is = live_told lv;
        }

    pub told : Told file (marks_at file at) (answered y again differ) book by s view
    unfolding with_repeated seen_at answered
    told =
        record {
          looks = ls;
          inside = omega (arith, at_is);
          marked = ap (marks_at file) (sym at_is);
          line_is = ap (line_rec file) (sym at_is);
          kind_is = sym kind_is;
          place_is = sym (place_is ∙ h.place_is);
          uli_is = h.known_is.uli_is ∙ ap (part_of file) (sym uli_is);
          born_is = born_is (nearest IP before) ∙ sym (birth_is ∙ h.known_is.born_is);
          day_is = λ w. day_told (ap (within II IA) (sym kind_is) ∙ w);
          historical_is = λ w. historical_told (ap (within II IE) (sym kind_is) ∙ w);
          vaccine_is = λ w. vaccine_told (ap (within II IE) (sym kind_is) ∙ w);
          again_is = λ z. antigen_told (sym kind_is ∙ z);
          blocked = λ z. blocked (sym kind_is ∙ z);
        }

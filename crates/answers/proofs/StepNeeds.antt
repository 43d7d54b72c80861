-- What each need of the steps of the check asks.
-- Assumes nothing.
use mathlib.Core.Path.{◌≡◌, refl, sym, ap, ◌∙◌}
use mathlib.Core.Bool.{Bool, true, false, cond}
use mathlib.Core.List.{List, [], ◌∷◌}
use Prim.Native.Nat.{ℕ, zero, suc, ◌*◌, ◌/◌, ◌≤◌, ◌<◌}
use native.Mathlib.Omega.{arith}
use borrow.Author.Rules.{rules}
use borrow.Author.Tests.{lt-ltb, le-ltb, le-leb}
use lib.ListN.{length, take}
use Rattle.house.specs.Text.{Text, how_many, is_empty}
use Rattle.dates.specs.Dates.{is_day}
use Rattle.house.proofs.Small.{clash}
use Rattle.lines.specs.declared.Fault.{Fault}
use Rattle.lines.specs.Records.{IN, is_kind, recs}
use Rattle.lines.specs.Shape.{Shape, shape_of}
use Rattle.book.specs.declared.Sections.{Sections}
use Rattle.book.specs.Book.{Sound, valid_of as bookValid}
use Rattle.book.proofs.ValidLaws.{valid_sound, valid_bad}
use Rattle.ledger.proofs.EventLaws.{among_in}
use Rattle.ledger.specs.Ledger.{ledger_ok, live_in, valid_of as ledgerValid}
use Rattle.rules.specs.Findings.{Finding, area_after}
use Rattle.rules.specs.Firsts.{firsts_of, index_of, can_build, built_in}
use Rattle.rules.proofs.CleanLaws.{clean_file}
use Rattle.house.specs.Over.{over}
use Rattle.house.proofs.OverLaws.{over_taken, length_over}
use Rattle.rules.proofs.CountLaws.{index_size}
use Rattle.rules.proofs.SizeLaws.{blocks_size, capacity}
use Rattle.rules.specs.declared.By.{By}
use Rattle.rules.specs.declared.Judged.{Judged}
use Rattle.rules.specs.Judged.{findings_by, judged as judging, judged_of as judgedBy, judged_area}
use Rattle.rules.specs.Look.{book_in}
use Rattle.rules.proofs.SettingLaws.{setting_is}
use Rattle.answers.specs.declared.Refusal.TheVariants.{Date, Long, Book, Ledger, Shape as BadShape, Findings, Full}
use Rattle.answers.specs.Answers.{Answer, Lent, Outcome, lent, left, setting_of, findings, added, changed, deleted, not_immunized, is_full, ledger_after, refused, accepted, with_findings, roomed, judged, check}
use Rattle.answers.specs.Inside.{after_book, after_ledger, judged_of, Ready, Settles, Settling, Judges}
use Rattle.std.proofs.Common.{Option, Some, None, Ok, Err}

-- check
module _ (today : ℕ) (file book ledger area : Text) (d : Bool) (ed : d ≡ is_day today) where
  pub check_date : d ≡ false → left (Err Date) ledger area ≡ check (lent today file book ledger area)
  unfolding check
  check_date z = rw (← ed, z)

  module _ (zd : d ≡ true) where
    pub check_long : 5000000 < length file → left (Err Long) ledger area ≡ check (lent today file book ledger area)
    unfolding check
    check_long h = rw (← ed, zd, lt-ltb 5000000 (length file) h)

    module _ (h : length file ≤ 5000000) (v : Option Sections) (ev : v ≡ bookValid book) where
      pub check_book : v ≡ None → left (Err Book) ledger area ≡ check (lent today file book ledger area)
      unfolding check
      check_book z = rw (← ed, zd, le-ltb 5000000 (length file) h, valid_bad book v ev z)

      pub check_sound : (q : Sections) → v ≡ Some q → Sound book q
      check_sound q z = valid_sound book v ev q z

      pub check_on : (q : Sections) → v ≡ Some q → (o : Outcome) → o ≡ after_book (lent today file book ledger area) → o ≡ check (lent today file book ledger area)
      unfolding check after_book after_ledger
      check_on q z o e = rw (← ed, zd, le-ltb 5000000 (length file) h, (valid_sound book v ev q z).ok) e

pub ruleset for_check = (rules, check_date, check_long, check_book, check_sound, check_on)

-- from_ledger
module _ (today : ℕ) (file book ledger area : Text) (v : Option ℕ) (ev : v ≡ ledgerValid ledger) where
  ledger_says : (n : ℕ) → v ≡ Some n → (ledger_ok ledger ≡ true) × (n ≡ length (live_in ledger))
  unfolding ledgerValid
  ledger_says n z = go (ledger_ok ledger) refl (sym ev ∙ z)
    where
      go : (b : Bool) → ledger_ok ledger ≡ b → cond b (Some (length (live_in ledger))) None ≡ Some n → (ledger_ok ledger ≡ true) × (n ≡ length (live_in ledger))
      go true p r = (p, cc)
      go false p r = clash (cc)

  pub ledger_bad : v ≡ None → left (Err Ledger) ledger area ≡ after_book (lent today file book ledger area)
  unfolding after_book ledgerValid
  ledger_bad z = go (ledger_ok ledger) refl (sym ev ∙ z)
    where
      go : (b : Bool) → ledger_ok ledger ≡ b → cond b (Some (length (live_in ledger))) None ≡ None → left (Err Ledger) ledger area ≡ after_book (lent today file book ledger area)
      go true p r = clash (cc)
      go false p r = rw p

  module _ (n : ℕ) (z : v ≡ Some n) where
    pub ledger_ready : (q : Sections) → Sound book q → length file ≤ 5000000 → Ready (lent today file book ledger area) (record { today = today; sections = q; live = n })
    ledger_ready q s h = record { today_is = refl; book = s; short = h; ledger = (ledger_says n z).0; live_is = (ledger_says n z).1 }

    pub ledger_on : (o : Outcome) → o ≡ after_ledger (lent today file book ledger area) → o ≡ after_book (lent today file book ledger area)
    unfolding after_book
    ledger_on o e = rw (ledger_says n z).0 e

pub ruleset for_from_ledger = (rules, ledger_bad, ledger_ready, ledger_on)

-- from_shape
module _ (today : ℕ) (file book ledger area : Text) (s : Shape) (es : s ≡ shape_of file) where
  pub shape_fault : (fault : Fault) → s ≡ Err fault → left (Err (BadShape fault)) ledger area ≡ after_ledger (lent today file book ledger area)
  unfolding after_ledger
  shape_fault fault z = rw (← es, z)

  pub shape_right : s ≡ Ok tt → shape_of file ≡ Ok tt
  shape_right z = sym es ∙ z

  pub shape_on : s ≡ Ok tt → (o : Outcome) → o ≡ judged (lent today file book ledger area) → o ≡ after_ledger (lent today file book ledger area)
  unfolding after_ledger
  shape_on z o e = rw (← es, z) e

pub ruleset for_from_shape = (rules, shape_fault, shape_right, shape_on)

-- judging
take_none : {A : Type 0} (n : ℕ) → take {A = A} n [] ≡ []
take_none zero = refl
take_none (suc n) = refl

area_none : (area : Text) → area_after area [] ≡ area
unfolding area_after
area_none area = rw (take_none {A = Finding} (length area / 6))

-- the answer at FULL or ACCEPTED and the ledger after go by the file and the ledger alone
roomed_by : (file ledger : Text) (today : ℕ) (book area : Text) (a : Answer) (l : Text) → left a l [] ≡ roomed (lent 0 file [] ledger []) → left a l area ≡ roomed (lent today file book ledger area)
unfolding roomed accepted is_full ledger_after added changed deleted not_immunized
roomed_by file ledger today book area a l e =
    ap (λ (o : Outcome). left o.answer o.ledger area) e
    ∙ go (is_full (lent 0 file [] ledger []))
  where
    x : Lent
    x = lent 0 file [] ledger []

    go : (b : Bool) → left (cond b (refused x Full) (accepted x)).answer (cond b (refused x Full) (accepted x)).ledger area ≡ cond b (refused (lent today file book ledger area) Full) (accepted (lent today file book ledger area))
    go true = refl
    go false = refl

module _ (file : Text) (right : shape_of file ≡ Ok tt) (short : length file ≤ 5000000) where
  few : length (firsts_of file) ≤ 96154
  few = capacity file right short

  within : (k : ℕ) → length file ≤ 52 * k → length (firsts_of file) ≤ k
  within k size = omega (arith, blocks_size file right)

  can : (k : ℕ) → length file ≤ 52 * k → can_build file k ≡ true
  unfolding can_build
  can k size = rw (le-leb (length file) 5000000 short, le-leb (length (firsts_of file)) 96154 few, le-leb (length (firsts_of file)) k (within k size))

-- the bytes start with the book
module _ (today : ℕ) (file bytes ledger area : Text) (by : By) (ready : Ready (lent today file (book_in by bytes) ledger area) by) where
  by_look_up : findings_by file bytes by ledger ≡ findings (lent today file (book_in by bytes) ledger area)
  unfolding findings_by findings setting_of
  by_look_up = rw (setting_is by bytes ledger ready.book ready.ledger ready.live_is, ready.today_is)

  judged_is : shape_of file ≡ Ok tt → (k : ℕ) → length file ≤ 52 * k → (j : Option Judged) → j ≡ judgedBy file bytes by ledger k → j ≡ Some (judging (length (firsts_of file)) (length (findings (lent today file (book_in by bytes) ledger area))) (how_many (is_kind IN) (recs file)))
  unfolding judgedBy
  judged_is right k size j e = e ∙ rw (can file right ready.short k size, by_look_up)

-- judge_into
module _ (today : ℕ) (file bytes ledger area : Text) (j : Option Judged) (by : By) (k : ℕ) (ej : j ≡ judgedBy file bytes by ledger k) (size : length file ≤ 52 * k) (right : shape_of file ≡ Ok tt) (ready : Ready (lent today file (book_in by bytes) ledger area) by) where
  pub tally_is : (t : Judged) → j ≡ Some t → t ≡ judged_of (lent today file (book_in by bytes) ledger area)
  unfolding judged_of not_immunized
  tally_is t z = cc (judged_is today file bytes ledger area by ready right k size j ej)

  pub tally_never : j ≡ None → ⊥
  tally_never z = cc (judged_is today file bytes ledger area by ready right k size j ej)

module _ (today : ℕ) (file bytes ledger area : Text) (by : By) where
  pub tally_area : (area' : Text) (k : ℕ) → area' ≡ judged_area file bytes by ledger k area → length file ≤ 52 * k → shape_of file ≡ Ok tt → Ready (lent today file (book_in by bytes) ledger area) by → area' ≡ area_after area (findings (lent today file (book_in by bytes) ledger area))
  unfolding judged_area
  tally_area area' k e size right ready = e ∙ rw (can file right ready.short k size, by_look_up today file bytes ledger area by ready)

-- what a tally says
module _ (today : ℕ) (file book ledger area : Text) (t : Judged) (et : t ≡ judged_of (lent today file book ledger area)) where
  found_are : t.findings ≡ length (findings (lent today file book ledger area))
  unfolding judged_of
  found_are = ap (λ (u : Judged). u.findings) et

  blocks_are : t.blocks ≡ length (firsts_of file)
  unfolding judged_of
  blocks_are = ap (λ (u : Judged). u.blocks) et

  not_immunized_are : t.not_immunized ≡ how_many (is_kind IN) (recs file)
  unfolding judged_of not_immunized
  not_immunized_are = ap (λ (u : Judged). u.not_immunized) et

  no_findings : t.findings ≡ 0 → findings (lent today file book ledger area) ≡ []
  no_findings f = go (findings (lent today file book ledger area)) (sym found_are ∙ f)
    where
      go : (ys : List Finding) → length ys ≡ 0 → ys ≡ []
      go [] e = refl
      go (y ∷ ys) e = absurd (omega arith)

  module _ (room room' : List ℕ) (er : room' ≡ over (index_of file) room) (size : length file ≤ 52 * length room) (right : shape_of file ≡ Ok tt) (by : By) (ready : Ready (lent today file book ledger area) by) where
    index_long : length (index_of file) ≡ t.blocks
    index_long = index_size file ∙ sym blocks_are

    fits : length (index_of file) ≤ length room
    fits = omega (arith, index_size file, within file right ready.short (length room) size)

    room_part : t.blocks ≤ length room'
    room_part = omega (arith, ap length er, length_over (index_of file) room, index_long, fits)

    index_front : take t.blocks room' ≡ index_of file
    index_front = ap (take t.blocks) er ∙ over_taken (index_of file) room t.blocks index_long fits

    settles : t.findings ≡ 0 → Settles file ledger
    unfolding findings setting_of
    settles f =
        let k = clean_file (setting_of (lent today file book ledger area)) file (no_findings f) in
        record { ok = ready.ledger; adds_once = k.adds_once; deletes_once = k.deletes_once; were_live = λ e i. among_in (live_in ledger) e (k.deletes_live e i) }

    judges : Judges file ledger by.live t room'
    judges =
        record {
          part = room_part;
          settling =
              λ f.
              record {
                settles = settles f;
                live_is = ready.live_is;
                index_is = index_front;
                few = omega (arith, ap length index_front, index_size file, few file right ready.short);
                not_immunized_is = not_immunized_are;
              };
        }

-- judge_into
module _ (today : ℕ) (file bytes ledger area : Text) (j : Option Judged) (by : By) (room room' : List ℕ) (ej : j ≡ judgedBy file bytes by ledger (length room)) (er : room' ≡ built_in file room) (size : length file ≤ 52 * length room) (right : shape_of file ≡ Ok tt) (ready : Ready (lent today file (book_in by bytes) ledger area) by) where
  pub tally_judges : (t : Judged) → j ≡ Some t → Judges file ledger by.live t room'
  unfolding built_in
  tally_judges t z =
      judges today file (book_in by bytes) ledger area t (tally_is today file bytes ledger area j by (length room) ej size right ready t z) room room'
      (er ∙ rw (can file right ready.short (length room) size)) size right by ready

pub ruleset for_judge_into = (rules, tally_is, tally_never, tally_area, tally_judges)

-- judge_and_settle
module _ (today : ℕ) (file book ledger area : Text) (t : Judged) (et : t ≡ judged_of (lent today file book ledger area)) where
  module _ (area' : Text) (ea : area' ≡ area_after area (findings (lent today file book ledger area))) where
    pub with_findings_lem : (t.findings ≡ 0 → ⊥) → left (Err (Findings t.findings)) ledger area' ≡ judged (lent today file book ledger area)
    unfolding judged with_findings
    with_findings_lem f = go (findings (lent today file book ledger area)) (found_are today file book ledger area t et) ea
      where
        go : (ys : List Finding) → t.findings ≡ length ys → area' ≡ area_after area ys → left (Err (Findings t.findings)) ledger area' ≡ cond (is_empty ys) (roomed (lent today file book ledger area)) (left (Err (Findings (length ys))) ledger (area_after area ys))
        go [] e g = absurd (f e)
        go (y ∷ ys) e g = rw (← e, ← g)

    pub settled_on : (a : Answer) (l : Text) → t.findings ≡ 0 → left a l [] ≡ roomed (lent 0 file [] ledger []) → left a l area' ≡ judged (lent today file book ledger area)
    unfolding judged
    settled_on a l f e = let n = no_findings today file book ledger area t et f in rw (n, ea, n, area_none area) (roomed_by file ledger today book area a l e)

module _ (file ledger : Text) (live : ℕ) (t : Judged) (room : List ℕ) (g : Judges file ledger live t room) where
  pub judges_part : t.blocks ≤ length room
  judges_part = g.part

  pub judges_settling : t.findings ≡ 0 → Settling file ledger live (take t.blocks room) t.not_immunized
  judges_settling f = g.settling f

pub ruleset for_judge_and_settle = (rules, with_findings_lem, settled_on, judges_part, judges_settling)

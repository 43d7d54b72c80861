-- One call: what it does to the ledger and to the findings area.
-- Assumes nothing.
use Prim.Native.Nat.{◌+◌, ◌≤◌}
use native.Mathlib.Omega.{arith}
use mathlib.Core.Path.{◌≡◌, refl, sym, ap, ◌∙◌, subst}
use mathlib.Core.Bool.{Bool, true, false, not, cond}
use mathlib.Core.Logic.{◌⊎◌, ◌↔◌, inr, ⊎_elim}
use mathlib.Core.List.{List, []}
use lib.ListN.{length, get_or}
use lib.Dec.{T, ltb}
use Rattle.house.specs.Text.{Text, how_many, is_empty}
use Rattle.house.specs.Members.{In, Distinct}
use Rattle.house.proofs.Facts.{of_true, is_true}
use Rattle.house.proofs.Small.{clash}
use Rattle.dates.specs.Dates.{is_day}
use Rattle.lines.specs.Shape.{Shape, shape_of}
use Rattle.book.specs.Book.{book_ok}
use Rattle.ledger.specs.Ledger.{Event, slots_in, event_form, ledger_ok, live_in, events_after}
use Rattle.ledger.proofs.EventLaws.{among_in, in_among, in_after, after_in, count_after, count_every, every, up_after, Up, up_distinct, after_none}
use Rattle.ledger.proofs.WellFormedLaws.{AllLong, well_formed_lem, live_long, live_formed, live_up}
use Rattle.ledger.proofs.LedgerWithLaws.{with_length, live_with, with_ok}
use Rattle.rules.specs.Contexts.{contexts_in}
use Rattle.rules.specs.Findings.{area_after}
use Rattle.rules.specs.Claims.{Clean, AreaHolds}
use Rattle.rules.proofs.AreaLaws.{area_kept}
use Rattle.rules.proofs.CleanLaws.{clean_file}
use Rattle.answers.specs.declared.Refusal.TheVariants.{Date, Long, Book, Ledger, Shape as BadShape, Findings, Full}
use Rattle.answers.specs.Answers.{Answer, Lent, Outcome, file_most, setting_of, findings, added, changed, deleted, is_full, ledger_after, refused, accepted, with_findings, roomed, judged, shaped, check, numbers_of, is_accepted, is_findings}
use Rattle.demands.specs.Demands.{Demand1, Demand2, LedgerAfter, Unbroken, Room, Shapely, Due}
use Rattle.demands.proofs.AnswerLaws.{given_due, due_given, only_findings, unbroken_none}
use Rattle.std.proofs.Common.{Ok, Err}

-- What is left with each answer

-- the ledger and the area that go with an answer
abbrev Left : Lent → Outcome → Type 0
Left x o =
    (o.ledger ≡ cond (is_accepted o.answer) (ledger_after x) x.ledger)
    × (o.area ≡ cond (is_findings o.answer) (area_after x.area (findings x)) x.area)

judged_left : (x : Lent) → Left x (judged x)
unfolding judged roomed with_findings accepted is_accepted is_findings
judged_left x = go (is_empty (findings x)) (is_full x)
  where
    go : (a b : Bool) → Left x (cond a (cond b (refused x Full) (accepted x)) (with_findings x))
    go true true = (refl, refl)
    go true false = (refl, refl)
    go false b = (refl, refl)

shaped_left : (x : Lent) (s : Shape) → Left x (shaped x s)
unfolding is_accepted is_findings
shaped_left x (Ok u) = judged_left x
shaped_left x (Err fault) = (refl, refl)

check_left : (x : Lent) → Left x (check x)
unfolding check is_accepted is_findings
check_left x = go (is_day x.today) (ltb file_most (length x.file)) (book_ok x.book) (ledger_ok x.ledger)
  where
    go : (a b c d : Bool)
        → Left x
        (cond (not a) (refused x Date)
        (cond b (refused x Long) (cond (not c) (refused x Book) (cond (not d) (refused x Ledger) (shaped x (shape_of x.file))))))
    go false b c d = (refl, refl)
    go true true c d = (refl, refl)
    go true false false d = (refl, refl)
    go true false true false = (refl, refl)
    go true false true true = shaped_left x (shape_of x.file)

-- What acceptance means

pub record Accepts (x : Lent) : Type 0 where
  pub shapely : Shapely x
  pub unbroken : Unbroken x
  pub room : Room x

accepted_due : (x : Lent) (a : Answer) → Due x a → is_accepted a ≡ true → Accepts x
unfolding Due is_accepted
accepted_due x (Ok a) h e = record { shapely = h.0; unbroken = h.1; room = h.2 }
accepted_due x (Err r) h e = clash (cc)

pub accepts : (x : Lent) → is_accepted (check x).answer ≡ true → Accepts x
accepts x e = accepted_due x (check x).answer (given_due x) e

-- An accepted file

module _ (x : Lent) (a : Accepts x) where
  live : List Event
  live = live_in x.ledger

  after : List Event
  after = events_after (live_in x.ledger) (added x) (deleted x)

  lent_ok : T (ledger_ok x.ledger)
  lent_ok = of_true (ledger_ok x.ledger) a.shapely.lends.ledger

  clean : Clean (setting_of x) (contexts_in x.file)
  unfolding findings
  clean = clean_file (setting_of x) x.file (unbroken_none x a.unbroken)

  new : (e : Event) → In e (added x) → In e (live_in x.ledger) → ⊥
  unfolding added setting_of
  new e m k = clean.adds_new e m (in_among (live_in x.ledger) e k)

  pub was_live : (e : Event) → In e (deleted x) → In e (live_in x.ledger)
  unfolding deleted setting_of
  was_live e m = among_in (live_in x.ledger) e (clean.deletes_live e m)

  pub adds_once : Distinct (added x)
  unfolding added
  adds_once = clean.adds_once

  pub deletes_once : Distinct (deleted x)
  unfolding deleted
  deletes_once = clean.deletes_once

  changes_live : (e : Event) → In e (changed x) → In e (live_in x.ledger)
  unfolding changed setting_of
  changes_live e m = among_in (live_in x.ledger) e (clean.changes_live e m)

  change_kept : (e : Event) → In e (changed x) → In e (deleted x) → ⊥
  unfolding changed deleted
  change_kept e m k = clean.change_or_delete e m k

  formed : (e : Event) → In e (added x) → T (event_form e) × (length e ≡ 37)
  unfolding added
  formed e m = clean.adds_formed e m

  up : Up live
  unfolding live
  up = live_up x.ledger lent_ok

  -- how many of a sort
  counts : (p : Event → Bool) → how_many p after + how_many p (deleted x) ≡ how_many p (live_in x.ledger) + how_many p (added x)
  unfolding after live
  counts p = count_after p live (added x) (deleted x) (up_distinct live up) deletes_once was_live

  fits : length after ≤ slots_in x.ledger
  fits =
      omega (
        arith,
        a.room,
        counts every,
        count_every after,
        count_every (deleted x),
        count_every (live_in x.ledger),
        count_every (added x),
      )

  either_way : (q : Event → Type 0) → ((e : Event) → In e (added x) → q e) → ((e : Event) → In e (live_in x.ledger) → q e) → (e : Event) → In e after → q e
  unfolding after
  either_way q f g e m = ⊎_elim (f e) (λ k. g e k.0) (in_after (live_in x.ledger) (added x) (deleted x) e m)

  long : AllLong after
  long = either_way (λ (e : Event). length e ≡ 37) (λ e m. (formed e m).1) (live_long x.ledger lent_ok)

  all_formed : (e : Event) → In e after → T (event_form e)
  all_formed = either_way (λ (e : Event). T (event_form e)) (λ e m. (formed e m).0) (live_formed x.ledger lent_ok)

  after_live : live_in (ledger_after x) ≡ after
  unfolding ledger_after slots_in after
  after_live = live_with (length x.ledger) after (well_formed_lem x.ledger lent_ok).whole fits long

  pub after_length : length (ledger_after x) ≡ length x.ledger
  unfolding ledger_after slots_in after
  after_length = with_length (length x.ledger) after (well_formed_lem x.ledger lent_ok).whole fits long

  pub after_ok : T (ledger_ok (ledger_after x))
  unfolding ledger_after slots_in after live
  after_ok =
      let w = well_formed_lem x.ledger lent_ok in
      with_ok (length x.ledger) after w.whole w.most fits long all_formed (up_after live (added x) (deleted x) up adds_once new)

  pub after_counts : (p : Event → Bool) → how_many p (live_in (ledger_after x)) + how_many p (deleted x) ≡ how_many p (live_in x.ledger) + how_many p (added x)
  after_counts p = ap (λ (es : List Event). how_many p es + how_many p (deleted x)) after_live ∙ counts p

  pub after_members : (e : Event) → In e (live_in (ledger_after x)) ↔ (In e (added x) ⊎ (In e (live_in x.ledger) × (In e (deleted x) → ⊥)))
  unfolding after
  after_members e = (
    (λ m. in_after (live_in x.ledger) (added x) (deleted x) e (subst (λ (es : List Event). In e es) after_live m)),
    (λ m. subst (λ (es : List Event). In e es) (sym after_live) (after_in (live_in x.ledger) (added x) (deleted x) e m)),
  )

  changed_stays : (e : Event) → In e (changed x) → In e (live_in x.ledger) × In e (live_in (ledger_after x))
  changed_stays e m = (changes_live e m, (after_members e).1 (inr (changes_live e m, change_kept e m)))

  nothing_moves : added x ≡ [] → deleted x ≡ [] → live_in (ledger_after x) ≡ live_in x.ledger
  unfolding after
  nothing_moves p q = after_live ∙ rw (p, q) (after_none (live_in x.ledger))

  pub never_both : (e : Event) → In e (added x) → In e (deleted x) → ⊥
  never_both e m k = new e m (was_live e k)

-- DEMANDS 1 AND 2, AND THE LEDGER AFTER

left_ledger : (x : Lent) (o : Outcome) → Left x o → (b : Bool) → is_accepted o.answer ≡ b → o.ledger ≡ cond b (ledger_after x) x.ledger
left_ledger x o l b e = l.0 ∙ ap (λ (c : Bool). cond c (ledger_after x) x.ledger) e

pub accepted_ledger : (x : Lent) → is_accepted (check x).answer ≡ true → (check x).ledger ≡ ledger_after x
accepted_ledger x e = left_ledger x (check x) (check_left x) true e

pub refused_ledger : (x : Lent) → is_accepted (check x).answer ≡ false → (check x).ledger ≡ x.ledger
refused_ledger x e = left_ledger x (check x) (check_left x) false e

ledger_long : (x : Lent) → length (check x).ledger ≡ length x.ledger
ledger_long x = go (is_accepted (check x).answer) refl
  where
    go : (b : Bool) → is_accepted (check x).answer ≡ b → length (check x).ledger ≡ length x.ledger
    go true e = ap length (accepted_ledger x e) ∙ after_length x (accepts x e)
    go false e = ap length (refused_ledger x e)

found_area : (x : Lent) → is_findings (check x).answer ≡ true → (check x).area ≡ area_after x.area (findings x)
found_area x e = (check_left x).1 ∙ ap (λ (c : Bool). cond c (area_after x.area (findings x)) x.area) e

kept_area : (x : Lent) → is_findings (check x).answer ≡ false → (check x).area ≡ x.area
kept_area x e = (check_left x).1 ∙ ap (λ (c : Bool). cond c (area_after x.area (findings x)) x.area) e

number_most : (a : Answer) → get_or (numbers_of a) 0 8 ≤ 7
unfolding numbers_of
number_most (Ok a) = omega arith
number_most (Err Date) = omega arith
number_most (Err Long) = omega arith
number_most (Err Book) = omega arith
number_most (Err Ledger) = omega arith
number_most (Err (BadShape fault)) = omega arith
number_most (Err (Findings n)) = omega arith
number_most (Err Full) = omega arith

pub demand_1 : (x : Lent) → Demand1 x (check x)
demand_1 x =
    record {
      numbered = number_most (check x).answer;
      ledger_kept = refused_ledger x;
      area_kept = kept_area x;
      ledger_length = ledger_long x;
      area_length = go (is_findings (check x).answer) refl;
    }
  where
    go : (b : Bool) → is_findings (check x).answer ≡ b → length (check x).area ≡ length x.area
    go true e = ap length (found_area x e) ∙ (area_kept x.area (findings x)).same_length
    go false e = ap length (kept_area x e)

pub demand_2 : (x : Lent) → Demand2 x (check x)
demand_2 x =
    record {
      exactly = λ a. ((λ e. subst (Due x) e (given_due x)), (λ d. due_given x a d));
      area =
          λ e ys l.
          subst (λ (t : Text). AreaHolds x.area ys t)
          (ap (area_after x.area) (sym (only_findings x ys l)) ∙ sym (found_area x e))
          (area_kept x.area ys);
    }

pub ledger_after_lem : (x : Lent) → LedgerAfter x (check x)
ledger_after_lem x =
    record {
      kept = refused_ledger x;
      same_length = ledger_long x;
      in_form = λ e. ap ledger_ok (accepted_ledger x e) ∙ is_true (ledger_ok (ledger_after x)) (after_ok x (accepts x e));
      holds =
          λ e v.
          subst (λ (t : Text). In v (live_in t) ↔ (In v (added x) ⊎ (In v (live_in x.ledger) × (In v (deleted x) → ⊥)))) (sym (accepted_ledger x e))
          (after_members x (accepts x e) v);
      adds_once = λ e. adds_once x (accepts x e);
      deletes_once = λ e. deletes_once x (accepts x e);
      not_both = λ e. never_both x (accepts x e);
      change_stays =
          λ e v m.
          subst (λ (t : Text). In v (live_in x.ledger) × In v (live_in t)) (sym (accepted_ledger x e)) (changed_stays x (accepts x e) v m);
      change_alone = λ e p q. ap live_in (accepted_ledger x e) ∙ nothing_moves x (accepts x e) p q;
    }

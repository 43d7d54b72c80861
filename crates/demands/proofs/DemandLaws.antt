-- No second outcome meets what is demanded of a call, and the four useless checks do not meet what is demanded.
-- Assumes nothing.
use Prim.Native.Nat.{ℕ}
use native.Mathlib.Omega.{arith}
use mathlib.Core.Path.{◌≡◌, refl, sym, ap, ap₂, ◌∙◌, subst}
use mathlib.Core.Bool.{Bool, true, false, not, cond, ◌&&◌}
use mathlib.Core.Logic.{inl, ⊎_elim}
use mathlib.Core.List.{List, [], ◌∷◌, ◌++◌}
use lib.ListN.{length}
use borrow.Author.Tests.{leb-true}
use Rattle.house.specs.Text.{Text}
use Rattle.house.specs.Members.{In}
use Rattle.house.proofs.Facts.{both, either, of_true}
use Rattle.house.proofs.Small.{clash}
use Rattle.ledger.specs.Ledger.{Event, ledger_ok, live_in, is_among}
use Rattle.ledger.proofs.EventLaws.{among_in}
use Rattle.ledger.proofs.HeldLaws.{one_ledger}
use Rattle.rules.specs.Findings.{findings_of}
use Rattle.rules.specs.FileE.{file_e}
use Rattle.rules.proofs.AreaLaws.{one_area}
use Rattle.lines.specs.declared.Cause.TheVariants.{NoEnd}
use Rattle.answers.specs.declared.Refusal.TheVariants.{Shape}
use Rattle.answers.specs.Answers.{Answer, accepting, Lent, Outcome, left, setting_of, findings, added, changed, deleted, not_immunized, check, is_accepted, is_findings}
use Rattle.demands.specs.Runs.{Step, Run, added_by, deleted_by}
use Rattle.demands.specs.Examples.{file_d, zeros, event_on, lent_e}
use Rattle.demands.specs.Demands.{Demand1, Demand2, Demand3, LedgerAfter, OneOutcome, Due, Shapely, MeetsDemand3, Check, By, RefusesAll, Constant, NeverTouches, OnlyFirst, UselessShutOut}
use Rattle.demands.proofs.Cases.{setting_e, computed}
use Rattle.demands.proofs.AnswerLaws.{given_due, lists_findings, none_unbroken}
use Rattle.std.proofs.Common.{Err}

-- No second outcome

-- an answer that meets demand 2 is the definition's
pub one_answer : (x : Lent) (o : Outcome) → Demand2 x o → o.answer ≡ (check x).answer
one_answer x o d = (d.exactly (check x).answer).1 (given_due x)

-- answer, ledger and area are the whole of an outcome
pub same_outcome : (o p : Outcome) → o.answer ≡ p.answer → o.ledger ≡ p.ledger → o.area ≡ p.area → o ≡ p
same_outcome o p a l r = let q : left o.answer o.ledger o.area ≡ left p.answer p.ledger p.area = cc in q

module _ (x : Lent) (o p : Outcome) (d1 : Demand1 x o) (d2 : Demand2 x o) (la : LedgerAfter x o) (e1 : Demand1 x p) (e2 : Demand2 x p) (lb : LedgerAfter x p) where
  same_answer : o.answer ≡ p.answer
  same_answer = one_answer x o d2 ∙ sym (one_answer x p e2)

  same_area : o.area ≡ p.area
  same_area = go (is_findings o.answer) refl
    where
      go : (b : Bool) → is_findings o.answer ≡ b → o.area ≡ p.area
      go true e =
          one_area x.area (findings x) o.area p.area (d2.area e (findings x) (lists_findings x))
          (e2.area (ap is_findings (sym same_answer) ∙ e) (findings x) (lists_findings x))
      go false e = d1.area_kept e ∙ sym (e1.area_kept (ap is_findings (sym same_answer) ∙ e))

  same_ledger : o.ledger ≡ p.ledger
  same_ledger = go (is_accepted o.answer) refl
    where
      go : (b : Bool) → is_accepted o.answer ≡ b → o.ledger ≡ p.ledger
      go true e =
          let f = ap is_accepted (sym same_answer) ∙ e in
          one_ledger o.ledger p.ledger (of_true (ledger_ok o.ledger) (la.in_form e)) (of_true (ledger_ok p.ledger) (lb.in_form f))
          (la.same_length ∙ sym lb.same_length)
          (λ v m. (lb.holds f v).1 ((la.holds e v).0 m))
          (λ v m. (la.holds e v).1 ((lb.holds f v).0 m))
      go false e = la.kept e ∙ sym (lb.kept (ap is_accepted (sym same_answer) ∙ e))

pub one_outcome : OneOutcome
one_outcome x o p d1 d2 la e1 e2 lb =
    same_outcome o p (same_answer x o p d1 d2 la e1 e2 lb) (same_ledger x o p d1 d2 la e1 e2 lb) (same_area x o p d1 d2 la e1 e2 lb)

-- The four useless checks

module _ (c : Check) (d : (x : Lent) → Demand2 x (c x)) where
  c_answer : (x : Lent) (a : Answer) → (check x).answer ≡ a → (c x).answer ≡ a
  c_answer x a e = one_answer x (c x) (d x) ∙ e

  accepts_e : (c (lent_e file_e (zeros 38))).answer ≡ accepting 1 0 0 0
  accepts_e = c_answer (lent_e file_e (zeros 38)) (accepting 1 0 0 0) computed.e_accepted

  is_accepted_lem : (x : Lent) (a b e n : ℕ) → (c x).answer ≡ accepting a b e n → is_accepted (c x).answer ≡ true
  unfolding is_accepted
  is_accepted_lem x a b e n h = ap is_accepted h

  not_refusing : RefusesAll c → ⊥
  not_refusing r = clash (let h = is_accepted_lem (lent_e file_e (zeros 38)) 1 0 0 0 accepts_e in let k = r (lent_e file_e (zeros 38)) in cc)

  not_constant : Constant c → ⊥
  not_constant r =
      clash (let h = accepts_e in let k = c_answer (lent_e [] (zeros 38)) (Err (Shape (record { line = 1; cause = NoEnd }))) computed.empty_refused in let m = r (lent_e file_e (zeros 38)) (lent_e [] (zeros 38)) in cc)

  step : Lent → Step
  step x = record { lent = x; left = c x }

  accepted_adds : (x : Lent) → is_accepted (c x).answer ≡ true → added_by (step x) ≡ added x
  unfolding added_by step
  accepted_adds x e = ap (λ (b : Bool). cond b (added x) []) e

  accepted_deletes : (x : Lent) → is_accepted (c x).answer ≡ true → deleted_by (step x) ≡ deleted x
  unfolding deleted_by step
  accepted_deletes x e = ap (λ (b : Bool). cond b (deleted x) []) e

  -- a run that starts with File E on a free slot
  lent_e_lem : Lent
  lent_e_lem = lent_e file_e (zeros 38)

  first : Text
  first = (c lent_e_lem).ledger

  e_accepted : is_accepted (c lent_e_lem).answer ≡ true
  unfolding lent_e_lem
  e_accepted = is_accepted_lem lent_e_lem 1 0 0 0 accepts_e

  e_added : added_by (step lent_e_lem) ≡ event_on "20220901" ∷ []
  unfolding lent_e_lem added
  e_added = accepted_adds lent_e_lem e_accepted ∙ computed.e_adds

  e_deleted : deleted_by (step lent_e_lem) ≡ []
  unfolding lent_e_lem deleted
  e_deleted = accepted_deletes lent_e_lem e_accepted ∙ computed.e_deletes

  module _ (m : MeetsDemand3 (By c)) where
    e_run : Demand3 (zeros 38) (step lent_e_lem ∷ [])
    unfolding step lent_e_lem
    e_run = m (zeros 38) (step lent_e_lem ∷ []) (refl, refl, tt)

    one_live : length (live_in first) ≡ 1
    unfolding first step
    one_live =
        let r = e_run.overall computed.e_ledger computed.e_free in
        let p : length (added_by (step lent_e_lem) ++ []) ≡ 1 = ap (λ (es : List Event). length (es ++ [])) e_added in
        let q : length (deleted_by (step lent_e_lem) ++ []) ≡ 0 = ap (λ (es : List Event). length (es ++ [])) e_deleted in
        omega arith

    altered : first ≡ zeros 38 → ⊥
    altered t =
        let r : length (live_in first) ≡ 0 = ap (λ (l : Text). length (live_in l)) t ∙ ap length computed.e_free in
        omega (arith, one_live)

    touches : NeverTouches c → ⊥
    unfolding first lent_e_lem
    touches t = altered (t lent_e_lem)

    -- File E's event alone is live then
    only_e : (e : Event) → In e (live_in first) → e ≡ event_on "20220901"
    unfolding first step
    only_e e i =
        let t = (e_run.live_last e computed.e_ledger computed.e_free).0 i in
        let plus = added_by (step lent_e_lem) in
        let minus = deleted_by (step lent_e_lem) in
        ⊎_elim
        (λ k. ⊎_elim (λ q. q) (λ n. absurd n) (subst (λ (es : List Event). In e es) e_added (among_in plus e k)))
        (λ k. absurd (both (not (is_among minus e)) false k).1)
        (either (is_among plus e) (not (is_among minus e) && false) t)

    live_e : live_in first ≡ event_on "20220901" ∷ []
    live_e = go (live_in first) one_live only_e
      where
        go : (es : List Event) → length es ≡ 1 → ((e : Event) → In e es → e ≡ event_on "20220901") → es ≡ event_on "20220901" ∷ []
        go [] n h = clash (cc)
        go (e ∷ []) n h = ap (λ (z : Event). z ∷ []) (h e (inl refl))
        go (e ∷ f ∷ es) n h = absurd (omega arith)

    first_ok : ledger_ok first ≡ true
    unfolding first step
    first_ok = e_run.in_form computed.e_ledger

    second : Lent
    second = lent_e file_d first

    second_clean : findings second ≡ []
    unfolding findings setting_of second
    second_clean =
        ap (λ (es : List Event). findings_of (setting_e es) file_d) live_e ∙ computed.d_findings

    second_due : Due second (accepting 0 0 1 0)
    unfolding Due second added changed deleted not_immunized
    second_due =
        let a : length (added second) ≡ 0 = ap length computed.d_adds in
        let k : length (deleted second) ≡ 1 = ap length computed.d_deletes in
        let s : Shapely second =
        record {
          lends = record { day = computed.day; short = leb-true (length file_d) 5000000 computed.d_short; book = computed.book; ledger = first_ok };
          right = computed.d_shape;
        } in
        (s, none_unbroken second second_clean, omega (arith, one_live, a, k), a, ap length computed.d_changes, k, computed.d_not_immunized)

    second_accepted : is_accepted (c second).answer ≡ true
    second_accepted = is_accepted_lem second 0 0 1 0 (((d second).exactly (accepting 0 0 1 0)).1 second_due)

    d_added : added_by (step second) ≡ []
    unfolding added second
    d_added = accepted_adds second second_accepted ∙ computed.d_adds

    d_deleted : deleted_by (step second) ≡ event_on "20220901" ∷ []
    unfolding deleted second
    d_deleted = accepted_deletes second second_accepted ∙ computed.d_deletes

    goes_on : OnlyFirst c → ⊥
    unfolding first second step lent_e_lem
    goes_on f =
        let ss : List Step = step second ∷ [] in
        let run : Run (By c) (zeros 38) (step lent_e_lem ∷ ss) = (refl, refl, (refl, refl, tt)) in
        let r = (m (zeros 38) (step lent_e_lem ∷ ss) run).overall computed.e_ledger computed.e_free in
        let same = ap (λ (l : Text). length (live_in l)) (f (zeros 38) (step lent_e_lem) ss run e_accepted altered) in
        let plus : length (added_by (step lent_e_lem) ++ (added_by (step second) ++ [])) ≡ 1 = ap₂ (λ (x y : List Event). length (x ++ (y ++ []))) e_added d_added in
        let minus : length (deleted_by (step lent_e_lem) ++ (deleted_by (step second) ++ [])) ≡ 1 = ap₂ (λ (x y : List Event). length (x ++ (y ++ []))) e_deleted d_deleted in
        omega (arith, one_live)

pub useless_shut_out : UselessShutOut
useless_shut_out = record { refuses_all = not_refusing; constant = not_constant; never_touches = touches; only_first = goes_on }

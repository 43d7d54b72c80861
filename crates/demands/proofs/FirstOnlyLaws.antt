-- There is a check that applies only the first file of a run and meets demand 2: one with the definition's answers that alters only a ledger
-- with no live event.
-- Assumes nothing.
use mathlib.Core.Path.{◌≡◌, refl, sym, ap, ◌∙◌, subst}
use mathlib.Core.Bool.{Bool, true, false, cond}
use mathlib.Core.List.{List, [], ◌∷◌}
use mathlib.Core.Logic.{inl}
use Rattle.house.specs.Text.{Text, is_empty}
use Rattle.house.specs.Members.{In}
use Rattle.house.proofs.Facts.{of_true}
use Rattle.ledger.specs.Ledger.{Event, ledger_ok, live_in}
use Rattle.ledger.proofs.HeldLaws.{one_ledger}
use Rattle.house.proofs.Small.{clash}
use Rattle.rules.specs.FileE.{file_e}
use Rattle.answers.specs.Answers.{Lent, Outcome, left, added, check, is_accepted}
use Rattle.demands.specs.Examples.{zeros, event_on, lent_e}
use Rattle.demands.specs.Runs.{Step, Run, ledger_after_run}
use Rattle.demands.specs.Demands.{Demand2, Check, By, OnlyFirst, OnlyFirstThere}
use Rattle.demands.proofs.Cases.{computed}
use Rattle.demands.proofs.FileLaws.{demand_2, ledger_after_lem, accepts}

abbrev first_only : Check
first_only x = left (check x).answer (cond (is_empty (live_in x.ledger)) (check x).ledger x.ledger) (check x).area

meets_2 : (x : Lent) → Demand2 x (first_only x)
meets_2 x = record { exactly = (demand_2 x).exactly; area = (demand_2 x).area }

none : (es : List Event) → is_empty es ≡ true → (e : Event) → In e es → ⊥
none [] h e m = m
none (f ∷ es) h e m = clash (cc)

stays : (ledger : Text) (ss : List Step) → is_empty (live_in ledger) ≡ false → Run (By first_only) ledger ss → ledger_after_run ledger ss ≡ ledger
stays ledger [] n r = refl
stays ledger (s ∷ ss) n r =
    let x = s.lent in
    let e : s.left.ledger ≡ ledger =
    ap (λ (o : Outcome). o.ledger) r.1
    ∙ ap (λ (b : Bool). cond b (check x).ledger x.ledger) (ap (λ (t : Text). is_empty (live_in t)) r.0 ∙ n)
    ∙ r.0 in
    stays s.left.ledger ss (ap (λ (t : Text). is_empty (live_in t)) e ∙ n) r.2 ∙ e

only : OnlyFirst first_only
only ledger s ss r acc alt = stays s.left.ledger ss (go (is_empty (live_in x.ledger)) (is_empty (live_in s.left.ledger)) refl refl) r.2
  where
    x : Lent
    x = s.lent

    is : s.left.ledger ≡ cond (is_empty (live_in x.ledger)) (check x).ledger x.ledger
    is = ap (λ (o : Outcome). o.ledger) r.1

    was : is_accepted (check x).answer ≡ true
    was = ap (λ (o : Outcome). is_accepted o.answer) (sym r.1) ∙ acc

    go : (a b : Bool) → is_empty (live_in x.ledger) ≡ a → is_empty (live_in s.left.ledger) ≡ b → b ≡ false
    go a false p q = refl
    go false true p q = absurd (alt (is ∙ ap (λ (b : Bool). cond b (check x).ledger x.ledger) p ∙ r.0))
    go true true p q =
        let la = ledger_after_lem x in
        let same : s.left.ledger ≡ (check x).ledger = is ∙ ap (λ (b : Bool). cond b (check x).ledger x.ledger) p in
        absurd (alt (same ∙ one_ledger (check x).ledger x.ledger (of_true (ledger_ok (check x).ledger) (la.in_form was)) (of_true (ledger_ok x.ledger) (accepts x was).shapely.lends.ledger)
        la.same_length (λ v m. absurd (none (live_in (check x).ledger) (ap (λ (t : Text). is_empty (live_in t)) (sym same) ∙ q) v m)) (λ v m. absurd (none (live_in x.ledger) p v m)) ∙ r.0))

-- it applies File E on a free slot
file_e_lem : Lent
file_e_lem = lent_e file_e (zeros 38)

e_accepted : is_accepted (check file_e_lem).answer ≡ true
unfolding file_e_lem is_accepted
e_accepted = ap is_accepted computed.e_accepted

e_live : In (event_on "20220901") (live_in (check file_e_lem).ledger)
unfolding file_e_lem added
e_live =
    ((ledger_after_lem (lent_e file_e (zeros 38))).holds e_accepted (event_on "20220901")).1
    (inl (subst (λ (es : List Event). In (event_on "20220901") es) (sym computed.e_adds) (inl refl)))

applied : (first_only file_e_lem).ledger ≡ file_e_lem.ledger → ⊥
unfolding file_e_lem
applied z =
    let is : (first_only (lent_e file_e (zeros 38))).ledger ≡ (check (lent_e file_e (zeros 38))).ledger =
    ap (λ (es : List Event). cond (is_empty es) (check (lent_e file_e (zeros 38))).ledger (zeros 38)) computed.e_free in
    let free : is_empty (live_in (check (lent_e file_e (zeros 38))).ledger) ≡ true =
    ap (λ (t : Text). is_empty (live_in t)) (sym is ∙ z) ∙ ap is_empty computed.e_free in
    none (live_in (check (lent_e file_e (zeros 38))).ledger) free (event_on "20220901") e_live

pub only_first_there : OnlyFirstThere
only_first_there = (first_only, meets_2, only, (file_e_lem, e_accepted, applied))

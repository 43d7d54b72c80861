-- Runs of calls: demand 3.
-- Assumes nothing.
use Prim.Native.Nat.{◌+◌}
use native.Mathlib.Omega.{arith}
use mathlib.Core.Path.{◌≡◌, refl, sym, ap, ◌∙◌, subst}
use mathlib.Core.Bool.{Bool, true, false, not, cond, ◌&&◌, ◌||◌}
use mathlib.Core.Logic.{◌⊎◌, ◌↔◌, inl, inr, ⊎_elim}
use mathlib.Core.List.{List, [], ◌∷◌}
use lib.Dec.{T, T_not, not_T}
use Rattle.house.specs.Text.{Text, how_many}
use Rattle.house.specs.Members.{In}
use Rattle.house.proofs.Facts.{both, both_of, either, left_of, right_of, of_true, is_true, bool_ext}
use Rattle.house.proofs.Members.{count_append}
use Rattle.ledger.specs.Ledger.{Event, ledger_ok, live_in, is_among}
use Rattle.ledger.proofs.EventLaws.{among_in, in_among, every, count_every}
use Rattle.answers.specs.Answers.{Lent, Outcome, check, added, deleted, is_accepted}
use Rattle.demands.specs.Runs.{Step, Promise, Run, ledger_after_run, added_by, deleted_by, all_added, all_deleted, last_added, is_of}
use Rattle.demands.specs.Demands.{MeetsDemand3}
use Rattle.demands.proofs.FileLaws.{accepts, accepted_ledger, refused_ledger, after_ok, after_counts, after_members}

-- One call

-- what a call does to the live events, with those that it adds and deletes
record Moves (live after plus minus : List Event) : Type 0 where
  counts : (p : Event → Bool) → how_many p after + how_many p minus ≡ how_many p live + how_many p plus
  members : (e : Event) → In e after ↔ (In e plus ⊎ (In e live × (In e minus → ⊥)))

still : (live : List Event) → Moves live live [] []
still live =
    record {
      counts = λ p. refl;
      members = λ e. ((λ m. inr (m, λ k. k)), (λ m. ⊎_elim (λ k. absurd k) (λ k. k.0) m));
    }

module _ (x : Lent) where
  moves_if : (b : Bool) → is_accepted (check x).answer ≡ b → Moves (live_in x.ledger) (live_in (check x).ledger) (cond b (added x) []) (cond b (deleted x) [])
  moves_if true e =
      subst (λ (t : Text). Moves (live_in x.ledger) (live_in t) (added x) (deleted x)) (sym (accepted_ledger x e))
      (record { counts = after_counts x (accepts x e); members = after_members x (accepts x e) })
  moves_if false e = subst (λ (t : Text). Moves (live_in x.ledger) (live_in t) [] []) (sym (refused_ledger x e)) (still (live_in x.ledger))

  ok_if : (b : Bool) → is_accepted (check x).answer ≡ b → T (ledger_ok x.ledger) → T (ledger_ok (check x).ledger)
  ok_if true e ok = subst (λ (t : Text). T (ledger_ok t)) (sym (accepted_ledger x e)) (after_ok x (accepts x e))
  ok_if false e ok = subst (λ (t : Text). T (ledger_ok t)) (sym (refused_ledger x e)) ok

-- a step of a run that leaves what the definition leaves
module _ (ledger : Text) (s : Step) (from : s.lent.ledger ≡ ledger) (e : s.left ≡ check s.lent) where
  moves : Moves (live_in ledger) (live_in s.left.ledger) (added_by s) (deleted_by s)
  unfolding added_by deleted_by
  moves =
      let x = s.lent in
      subst (λ (t : Text). Moves (live_in t) (live_in s.left.ledger) (added_by s) (deleted_by s)) from
      (subst
      (λ (o : Outcome). Moves (live_in x.ledger) (live_in o.ledger) (cond (is_accepted o.answer) (added x) []) (cond (is_accepted o.answer) (deleted x) []))
      (sym e)
      (moves_if x (is_accepted (check x).answer) refl))

  leaves_ok : T (ledger_ok ledger) → T (ledger_ok s.left.ledger)
  leaves_ok ok =
      subst (λ (o : Outcome). T (ledger_ok o.ledger)) (sym e)
      (ok_if s.lent (is_accepted (check s.lent).answer) refl (subst (λ (t : Text). T (ledger_ok t)) (sym from) ok))

  -- after the step, an event is live if the step added it, or if it was live and the step did not delete it
  step_live : (v : Event) → is_among (live_in s.left.ledger) v ≡ (is_among (added_by s) v || (not (is_among (deleted_by s) v) && is_among (live_in ledger) v))
  step_live v = bool_ext (is_among after v) (is_among plus v || (not (is_among minus v) && is_among live v)) there back
    where
      live : List Event
      live = live_in ledger

      after : List Event
      after = live_in s.left.ledger

      plus : List Event
      plus = added_by s

      minus : List Event
      minus = deleted_by s

      there : T (is_among after v) → T (is_among plus v || (not (is_among minus v) && is_among live v))
      there t =
          ⊎_elim (λ m. left_of (is_among plus v) (not (is_among minus v) && is_among live v) (in_among plus v m))
          (λ m.
          right_of (is_among plus v) (not (is_among minus v) && is_among live v)
          (both_of (not (is_among minus v)) (is_among live v) (not_T (is_among minus v) (λ k. m.1 (among_in minus v k))) (in_among live v m.0)))
          ((moves.members v).0 (among_in after v t))

      back : T (is_among plus v || (not (is_among minus v) && is_among live v)) → T (is_among after v)
      back t =
          in_among after v
          ((moves.members v).1
          (⊎_elim (λ k. inl (among_in plus v k))
          (λ k.
          let p = both (not (is_among minus v)) (is_among live v) k in
          inr (among_in live v p.1, λ m. T_not (is_among minus v) p.0 (in_among minus v m)))
          (either (is_among plus v) (not (is_among minus v) && is_among live v) t)))

-- A run

-- of calls that leave what the definition leaves
module _ (promise : Promise) (same : (x : Lent) (o : Outcome) → promise x o → o ≡ check x) where
  module _ (p : Event → Bool) where
    run_counts : (ledger : Text) (ss : List Step) → Run promise ledger ss
        → how_many p (live_in (ledger_after_run ledger ss)) + how_many p (all_deleted ss) ≡ how_many p (live_in ledger) + how_many p (all_added ss)
    run_counts ledger [] r = refl
    run_counts ledger (s ∷ ss) r =
        omega (
          arith,
          run_counts s.left.ledger ss r.2,
          (moves ledger s r.0 (same s.lent s.left r.1)).counts p,
          count_append p (added_by s) (all_added ss),
          count_append p (deleted_by s) (all_deleted ss),
        )

  run_live : (v : Event) (ledger : Text) (ss : List Step) → Run promise ledger ss
      → is_among (live_in (ledger_after_run ledger ss)) v ≡ last_added v (is_among (live_in ledger) v) ss
  run_live v ledger [] r = refl
  run_live v ledger (s ∷ ss) r =
      run_live v s.left.ledger ss r.2 ∙ ap (λ (b : Bool). last_added v b ss) (step_live ledger s r.0 (same s.lent s.left r.1) v)

  run_ok : (ledger : Text) (ss : List Step) → Run promise ledger ss → T (ledger_ok ledger) → T (ledger_ok (ledger_after_run ledger ss))
  run_ok ledger [] r ok = ok
  run_ok ledger (s ∷ ss) r ok = run_ok s.left.ledger ss r.2 (leaves_ok ledger s r.0 (same s.lent s.left r.1) ok)

  -- DEMAND 3
  pub demand_3 : MeetsDemand3 promise
  unfolding is_among
  demand_3 ledger ss r =
      record {
        in_form = λ ok. is_true (ledger_ok after) (run_ok ledger ss r (of_true (ledger_ok ledger) ok));
        overall =
            λ ok none.
            omega (
              arith,
              run_counts every ledger ss r,
              count_every (live_in after),
              count_every (all_deleted ss),
              count_every (all_added ss),
              ap (how_many every) none,
            );
        each_patient = λ uli ok none. omega (arith, run_counts (is_of uli) ledger ss r, ap (how_many (is_of uli)) none);
        live_last =
            λ v ok none.
            let q : is_among (live_in after) v ≡ last_added v false ss =
            run_live v ledger ss r ∙ ap (λ (es : List Event). last_added v (is_among es v) ss) none in (
              (λ m. subst T q (in_among (live_in after) v m)),
              (λ t. among_in (live_in after) v (subst T (sym q) t)),
            );
      }
    where
      after : Text
      after = ledger_after_run ledger ss

-- Each patient as written: the immunizations that are read from the records are those of the chart, brought together.
-- Assumes nothing.
use Prim.Native.Nat.{ℕ}
use mathlib.Core.Path.{◌≡◌, refl, sym, ap, ◌∙◌, subst}
use mathlib.Core.Bool.{Bool, true, false, not, cond}
use mathlib.Core.List.{List, [], ◌∷◌, ◌++◌, map}
use lib.ListN.{take}
use lib.Dec.{eqb}
use borrow.Author.Tests.{eqb-true}
use Rattle.house.specs.Text.{all, front, after_front, joined}
use Rattle.house.proofs.Small.{both, clash}
use Rattle.lines.specs.Records.{IH, IP, II, IE}
use Rattle.chart_definitions.specs.Charts.{Charted, charted_in, is_of, ordered}
use Rattle.chart_definitions.specs.Lots.{pieces, together, same_lots, of_immunization, immunizations, lots_together, patient_order}
use Rattle.chart_definitions.specs.Submissions.{records_of}
use Rattle.chart_definitions.proofs.PieceLaws.{front_after, pieces_joined}
use Rattle.chart_definitions.proofs.TogetherLaws.{together_all}
use Rattle.chart_definitions.proofs.LotLaws.{lots_sym, lots_trans, pieces_self}
use Rattle.chart_definitions.proofs.FollowLaws.{ordered_rest, ordered_front, starts_patient}
use Rattle.chart_definitions.proofs.WritingOrderLaws.{starts_ii}
use Rattle.chart_definitions.proofs.OrderKeptLaws.{is_lot, lots_all}
use Rattle.chart_claims.specs.ClaimsOrder.{Arranged, behind, lots_of, rest_of, PatientWritten, Pairwise, PatientsWritten, OneOrder}
use Rattle.chart_claims.proofs.RightLaws.{right_request}
use Rattle.chart_claims.proofs.ArrangeLaws.{after_run, lots_arranged, one_arrangement}
use Rattle.chart_claims.proofs.PatientLaws.{pieces_skip, front_stop, patients_kept, antigens, lots_own}

module _ {A : Type 0} (p : A → Bool) where
  -- what follows a run starts with none of it
  no_front : (xs : List A) → front p (after_front p xs) ≡ []
  no_front [] = refl
  no_front (x ∷ xs) = go (p x) refl (no_front xs)
    where
      go : (b : Bool) → p x ≡ b → front p (after_front p xs) ≡ [] → front p (cond b (after_front p xs) (x ∷ xs)) ≡ []
      go true e h = h
      go false e h = rw e

  after_after : (xs : List A) → after_front p (after_front p xs) ≡ after_front p xs
  after_after [] = refl
  after_after (x ∷ xs) = go (p x) refl (after_after xs)
    where
      go : (b : Bool) → p x ≡ b → after_front p (after_front p xs) ≡ after_front p xs
          → after_front p (cond b (after_front p xs) (x ∷ xs)) ≡ cond b (after_front p xs) (x ∷ xs)
      go true e h = h
      go false e h = rw e

-- LOTS ONE AFTER THE OTHER

abbrev no_ii : Charted → Bool
no_ii r = not (is_of II r)

abbrev in_arow : List (List Charted) → List Charted
in_arow xs = joined (λ (x : List Charted). x) xs

lots_start : (xs : List (List Charted)) → all is_lot xs ≡ true → front no_ii (in_arow xs) ≡ []
lots_start [] e = refl
lots_start ([] ∷ xs) e = clash (cc)
lots_start ((r ∷ []) ∷ xs) e = clash (cc)
lots_start ((r ∷ q ∷ rs) ∷ xs) e =
    let b = both (is_lot (r ∷ q ∷ rs)) (all is_lot xs) e in
    let c = both (is_of II r) (all (is_of IE) (q ∷ rs)) b.0 in
    rw c.0

-- cut again, they are the same lots
lots_back : (xs : List (List Charted)) → all is_lot xs ≡ true → pieces (is_of II) (in_arow xs) ≡ xs
lots_back [] e = refl
lots_back ([] ∷ xs) e = clash (cc)
lots_back ((r ∷ []) ∷ xs) e = clash (cc)
lots_back ((r ∷ q ∷ rs) ∷ xs) e =
    let b = both (is_lot (r ∷ q ∷ rs)) (all is_lot xs) e in
    let c = both (is_of II r) (all (is_of IE) (q ∷ rs)) b.0 in
    go (is_of II r) c.0 (antigens (q ∷ rs) c.1).0 (lots_start xs b.1) (lots_back xs b.1)
  where
    own : List Charted
    own = q ∷ rs

    go : (b : Bool) → b ≡ true → all no_ii own ≡ true → front no_ii (in_arow xs) ≡ [] → pieces (is_of II) (in_arow xs) ≡ xs
        → cond b ((r ∷ front no_ii (own ++ in_arow xs)) ∷ pieces (is_of II) (own ++ in_arow xs)) (pieces (is_of II) (own ++ in_arow xs)) ≡ (r ∷ own) ∷ xs
    go false h n s i = clash (cc)
    go true h n s i =
        ap (λ (ts : List Charted). (r ∷ ts) ∷ pieces (is_of II) (own ++ in_arow xs)) (front_stop no_ii own (in_arow xs) n s)
        ∙ ap (λ (ys : List (List Charted)). (r ∷ own) ∷ ys) (pieces_skip (is_of II) own (in_arow xs) n ∙ i)

-- A PATIENT

module _ (own : List Charted) (o : ordered IP own ≡ true) where
  abbrev moved : List (List Charted)
  moved = together same_lots (immunizations (front of_immunization own))

  abbrev late : List Charted
  late = after_front of_immunization own

  moved_lots : all is_lot moved ≡ true
  unfolding immunizations
  moved_lots =
      together_all same_lots lots_sym lots_trans (pieces (is_of II) (front of_immunization own)) (pieces_self (is_of II) (front of_immunization own)) is_lot
      ∙ lots_all IP own o

  written_front : front of_immunization (lots_together own) ≡ in_arow moved
  unfolding lots_together
  written_front = front_stop of_immunization (in_arow moved) late (lots_own moved moved_lots) (no_front of_immunization own)

  lots_written : immunizations (front of_immunization (lots_together own)) ≡ moved
  unfolding immunizations
  lots_written = ap (pieces (is_of II)) written_front ∙ lots_back moved moved_lots

  rest_written : after_front of_immunization (lots_together own) ≡ after_front of_immunization own
  unfolding lots_together
  rest_written = after_run of_immunization (in_arow moved) late (lots_own moved moved_lots) ∙ after_after of_immunization own

  whole_given : in_arow (immunizations (front of_immunization own)) ++ late ≡ own
  unfolding immunizations
  whole_given =
      ap (λ (ts : List Charted). ts ++ late) (pieces_joined (is_of II) (front of_immunization own) ∙ starts_ii own o)
      ∙ front_after of_immunization own

  whole_written : in_arow moved ++ after_front of_immunization own ≡ lots_together own
  unfolding lots_together
  whole_written = refl

  patient_written : (ip : Charted) → PatientWritten (ip ∷ own) (ip ∷ lots_together own)
  patient_written ip =
      record {
        ip_same = refl;
        lots = subst (λ (ys : List (List Charted)). Arranged same_lots (immunizations (front of_immunization own)) ys) (sym lots_written) (lots_arranged (front of_immunization own));
        rest = rest_written;
        given_parted = ap (λ (ts : List Charted). ip ∷ ts) whole_given;
        out_parted = ap (λ (ts : List Charted). ip ∷ ts) (rw (lots_written, rest_written) whole_written);
      }

-- ALL PATIENTS

abbrev no_ip : Charted → Bool
no_ip r = not (is_of IP r)

each_written : (p : ℕ) (rs : List Charted) → ordered p rs ≡ true → Pairwise PatientWritten (pieces (is_of IP) rs) (map patient_order (pieces (is_of IP) rs))
each_written p [] o = tt
each_written p (r ∷ rs) o = go (eqb r.kind IP) refl (each_written r.kind rs (ordered_rest p r rs o))
  where
    own : List Charted
    own = front no_ip rs

    go : (b : Bool) → eqb r.kind IP ≡ b → Pairwise PatientWritten (pieces (is_of IP) rs) (map patient_order (pieces (is_of IP) rs))
        → Pairwise PatientWritten (cond b ((r ∷ own) ∷ pieces (is_of IP) rs) (pieces (is_of IP) rs)) (map patient_order (cond b ((r ∷ own) ∷ pieces (is_of IP) rs) (pieces (is_of IP) rs)))
    go true e h =
        let k : ordered IP rs ≡ true = ap (λ (n : ℕ). ordered n rs) (sym (eqb-true r.kind IP e)) ∙ ordered_rest p r rs o in
        (patient_written own (ordered_front IP rs k) r, h)
    go false e h = h

pub patients_written : PatientsWritten
patients_written x e =
    subst (Pairwise PatientWritten (pieces (is_of IP) (charted_in x.chart))) (sym (patients_kept x e))
    (each_written IH (charted_in x.chart) (right_request x e).charted)

-- NO OTHER ORDER

-- what is written of a patient is settled
settled : (given out : List Charted) → PatientWritten given out → out ≡ take 1 given ++ (in_arow (together same_lots (lots_of given)) ++ rest_of given)
settled given out w =
    sym w.out_parted
    ∙ ap (λ (ts : List Charted). ts ++ (in_arow (lots_of out) ++ rest_of out)) w.ip_same
    ∙ ap (λ (ys : List (List Charted)). take 1 given ++ (in_arow ys ++ rest_of out)) (one_arrangement (front of_immunization (behind given)) (lots_of out) w.lots)
    ∙ ap (λ (ts : List Charted). take 1 given ++ (in_arow (together same_lots (lots_of given)) ++ ts)) w.rest

all_settled : (given vs ws : List (List Charted)) → Pairwise PatientWritten given vs → Pairwise PatientWritten given ws → vs ≡ ws
all_settled [] [] [] v w = refl
all_settled [] [] (y ∷ ws) v w = absurd w
all_settled [] (x ∷ vs) ws v w = absurd v
all_settled (g ∷ given) [] ws v w = absurd v
all_settled (g ∷ given) (x ∷ vs) [] v w = absurd w
all_settled (g ∷ given) (x ∷ vs) (y ∷ ws) v w =
    ap (λ (t : List Charted). t ∷ vs) (settled g x v.0 ∙ sym (settled g y w.0))
    ∙ ap (λ (ts : List (List Charted)). y ∷ ts) (all_settled given vs ws v.1 w.1)

by_patients : (rs : List Charted) → ordered IH rs ≡ true → in_arow (pieces (is_of IP) rs) ≡ rs
by_patients rs o = pieces_joined (is_of IP) rs ∙ starts_patient rs o

pub one_order : OneOrder
one_order x e ws o w =
    sym (by_patients ws o)
    ∙ ap in_arow (all_settled (pieces (is_of IP) (charted_in x.chart)) (pieces (is_of IP) ws) (pieces (is_of IP) (records_of x)) w (patients_written x e))
    ∙ by_patients (records_of x) (right_request x e).in_order_lem

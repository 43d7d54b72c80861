-- The patients that are written are those of the chart, and what is of no immunization stands in the order given.
-- Assumes nothing.
use Prim.Native.Nat.{ℕ}
use mathlib.Core.Path.{◌≡◌, refl, sym, ap, ◌∙◌}
use mathlib.Core.Bool.{Bool, true, false, not, cond}
use mathlib.Core.List.{List, [], ◌∷◌, ◌++◌, map}
use lib.Dec.{eqb}
use borrow.Author.Tests.{eqb-true}
use Rattle.house.specs.Text.{all, those, front, after_front, joined}
use Rattle.house.proofs.Small.{both, clash}
use Rattle.lines.specs.Records.{IH, IP, II, IE}
use Rattle.chart_definitions.specs.Charts.{Charted, charted_in, is_of, ordered}
use Rattle.chart_definitions.specs.Lots.{pieces, together, same_lots, of_immunization, immunizations, lots_together, patient_order, in_writing_order}
use Rattle.chart_definitions.specs.Submissions.{records_of}
use Rattle.chart_definitions.proofs.TotalLaws.{all_by_total}
use Rattle.chart_definitions.proofs.PieceLaws.{front_after, all_front}
use Rattle.chart_definitions.proofs.TogetherLaws.{together_all}
use Rattle.chart_definitions.proofs.LotLaws.{lots_sym, lots_trans, pieces_self}
use Rattle.chart_definitions.proofs.FollowLaws.{ordered_rest, ordered_front, starts_patient}
use Rattle.chart_definitions.proofs.WritingOrderLaws.{lots_total}
use Rattle.chart_definitions.proofs.OrderKeptLaws.{is_lot, lots_all}
use Rattle.chart_claims.specs.ClaimsOrder.{PatientsKept, OthersKept}
use Rattle.chart_claims.proofs.RightLaws.{right_request}
use Rattle.chart_claims.proofs.AlikeLaws.{those_append}

module _ {A : Type 0} (p : A → Bool) where
  -- behind elements that fail the test
  pub pieces_skip : (xs ys : List A) → all (λ (x : A). not (p x)) xs ≡ true → pieces p (xs ++ ys) ≡ pieces p ys
  pieces_skip [] ys e = refl
  pieces_skip (x ∷ xs) ys e =
      let k = both (not (p x)) (all (λ (y : A). not (p y)) xs) e in
      go (p x) k.0 (pieces_skip xs ys k.1)
    where
      go : (b : Bool) → not b ≡ true → pieces p (xs ++ ys) ≡ pieces p ys → cond b ((x ∷ front (λ (y : A). not (p y)) (xs ++ ys)) ∷ pieces p (xs ++ ys)) (pieces p (xs ++ ys)) ≡ pieces p ys
      go true h r = clash (cc)
      go false h r = r

  pub front_stop : (xs ys : List A) → all p xs ≡ true → front p ys ≡ [] → front p (xs ++ ys) ≡ xs
  front_stop [] ys e h = h
  front_stop (x ∷ xs) ys e h = let k = both (p x) (all p xs) e in rw k.0 (ap (λ (l : List A). x ∷ l) (front_stop xs ys k.1 h))

  those_not : (xs : List A) → all p xs ≡ true → those (λ (x : A). not (p x)) xs ≡ []
  those_not [] e = refl
  those_not (x ∷ xs) e = let k = both (p x) (all p xs) e in rw k.0 (those_not xs k.1)

abbrev no_ip : Charted → Bool
no_ip r = not (is_of IP r)

abbrev other : Charted → Bool
other r = not (of_immunization r)

-- PATIENTS

-- what is written of patients starts with an IP
starts : (rs : List Charted) → front no_ip (joined patient_order (pieces (is_of IP) rs)) ≡ []
starts [] = refl
starts (r ∷ rs) = go (eqb r.kind IP) refl (starts rs)
  where
    go : (b : Bool) → eqb r.kind IP ≡ b → front no_ip (joined patient_order (pieces (is_of IP) rs)) ≡ []
        → front no_ip (joined patient_order (cond b ((r ∷ front no_ip rs) ∷ pieces (is_of IP) rs) (pieces (is_of IP) rs))) ≡ []
    go true e h = rw e
    go false e h = h

-- no IP among what is written behind one
lots_no_ip : (own : List Charted) → ordered IP own ≡ true → all no_ip own ≡ true → all no_ip (lots_together own) ≡ true
lots_no_ip own o n = all_by_total (lots_together own) own (λ f. lots_total f own o) no_ip ∙ n

patients : (p : ℕ) (rs : List Charted) → ordered p rs ≡ true → pieces (is_of IP) (joined patient_order (pieces (is_of IP) rs)) ≡ map patient_order (pieces (is_of IP) rs)
patients p [] o = refl
patients p (r ∷ rs) o = go (eqb r.kind IP) refl (patients r.kind rs (ordered_rest p r rs o))
  where
    own : List Charted
    own = front no_ip rs

    go : (b : Bool) → eqb r.kind IP ≡ b → pieces (is_of IP) (joined patient_order (pieces (is_of IP) rs)) ≡ map patient_order (pieces (is_of IP) rs)
        → pieces (is_of IP) (joined patient_order (cond b ((r ∷ own) ∷ pieces (is_of IP) rs) (pieces (is_of IP) rs))) ≡ map patient_order (cond b ((r ∷ own) ∷ pieces (is_of IP) rs) (pieces (is_of IP) rs))
    go true e h =
        let k : ordered IP rs ≡ true = ap (λ (n : ℕ). ordered n rs) (sym (eqb-true r.kind IP e)) ∙ ordered_rest p r rs o in
        let more = joined patient_order (pieces (is_of IP) rs) in
        let none = lots_no_ip own (ordered_front IP rs k) (all_front no_ip rs) in
        rw (e, front_stop no_ip (lots_together own) more none (starts rs), pieces_skip (is_of IP) (lots_together own) more none, h)
    go false e h = h

pub patients_kept : PatientsKept
unfolding records_of in_writing_order
patients_kept x e = patients IH (charted_in x.chart) (right_request x e).charted

-- THE OTHERS

all_append : (p : Charted → Bool) (xs ys : List Charted) → all p xs ≡ true → all p ys ≡ true → all p (xs ++ ys) ≡ true
all_append p [] ys e f = f
all_append p (x ∷ xs) ys e f = let k = both (p x) (all p xs) e in rw k.0 (all_append p xs ys k.1 f)

-- IE are of immunizations, and no II
pub antigens : (rs : List Charted) → all (is_of IE) rs ≡ true → (all (λ (r : Charted). not (is_of II r)) rs ≡ true) × (all of_immunization rs ≡ true)
unfolding of_immunization
antigens [] e = (refl, refl)
antigens (r ∷ rs) e =
    let b = both (is_of IE r) (all (is_of IE) rs) e in
    let k : r.kind ≡ IE = eqb-true r.kind IE b.0 in
    let i = antigens rs b.1 in
    (rw k i.0, rw k i.1)

lot_own : (x : List Charted) → is_lot x ≡ true → all of_immunization x ≡ true
unfolding of_immunization
lot_own [] e = clash (cc)
lot_own (r ∷ []) e = clash (cc)
lot_own (r ∷ q ∷ rs) e =
    let b = both (is_of II r) (all (is_of IE) (q ∷ rs)) e in
    rw b.0 (antigens (q ∷ rs) b.1).1

pub lots_own : (xs : List (List Charted)) → all is_lot xs ≡ true → all of_immunization (joined (λ (x : List Charted). x) xs) ≡ true
lots_own [] e = refl
lots_own (x ∷ xs) e =
    let b = both (is_lot x) (all is_lot xs) e in
    all_append of_immunization x (joined (λ (y : List Charted). y) xs) (lot_own x b.0) (lots_own xs b.1)

lots_others : (own : List Charted) → ordered IP own ≡ true → those other (lots_together own) ≡ those other own
unfolding lots_together immunizations
lots_others own o =
    let lots = pieces (is_of II) (front of_immunization own) in
    let moved = together same_lots lots in
    let late = after_front of_immunization own in
    let whole = together_all same_lots lots_sym lots_trans lots (pieces_self (is_of II) (front of_immunization own)) is_lot ∙ lots_all IP own o in
    those_append other (joined (λ (x : List Charted). x) moved) late
    ∙ ap (λ (rs : List Charted). rs ++ those other late) (those_not of_immunization (joined (λ (x : List Charted). x) moved) (lots_own moved whole) ∙ sym (those_not of_immunization (front of_immunization own) (all_front of_immunization own)))
    ∙ sym (those_append other (front of_immunization own) late)
    ∙ ap (those other) (front_after of_immunization own)

others : (p : ℕ) (rs : List Charted) → ordered p rs ≡ true → those other (joined patient_order (pieces (is_of IP) rs)) ≡ those other (after_front no_ip rs)
others p [] o = refl
others p (r ∷ rs) o = go (eqb r.kind IP) refl (others r.kind rs (ordered_rest p r rs o))
  where
    own : List Charted
    own = front no_ip rs

    go : (b : Bool) → eqb r.kind IP ≡ b → those other (joined patient_order (pieces (is_of IP) rs)) ≡ those other (after_front no_ip rs)
        → those other (joined patient_order (cond b ((r ∷ own) ∷ pieces (is_of IP) rs) (pieces (is_of IP) rs))) ≡ those other (cond (not b) (after_front no_ip rs) (r ∷ rs))
    go true e h =
        let k : ordered IP rs ≡ true = ap (λ (n : ℕ). ordered n rs) (sym (eqb-true r.kind IP e)) ∙ ordered_rest p r rs o in
        let more = joined patient_order (pieces (is_of IP) rs) in
        let behind : those other (lots_together own ++ more) ≡ those other rs =
        those_append other (lots_together own) more
        ∙ rw (lots_others own (ordered_front IP rs k), h) (sym (those_append other own (after_front no_ip rs)))
        ∙ ap (those other) (front_after no_ip rs) in
        ap (λ (ts : List Charted). cond (other r) (r ∷ ts) ts) behind
    go false e h = h

pub others_kept : OthersKept
unfolding records_of in_writing_order
others_kept x e =
    let o = (right_request x e).charted in
    others IH (charted_in x.chart) o ∙ ap (those other) (starts_patient (charted_in x.chart) o)

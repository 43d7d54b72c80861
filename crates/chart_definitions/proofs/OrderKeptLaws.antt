-- The records in writing order are in guideline order, as those of the chart.
-- Assumes nothing.
use Prim.Native.Nat.{ℕ}
use mathlib.Core.Path.{◌≡◌, refl, sym, ap, ◌∙◌}
use mathlib.Core.Bool.{Bool, true, false, not, cond, ◌&&◌, ◌||◌}
use mathlib.Core.List.{List, [], ◌∷◌, ◌++◌}
use lib.Dec.{eqb}
use borrow.Author.Tests.{eqb-true}
use Rattle.house.specs.Text.{all, front, after_front, joined, is_empty}
use Rattle.house.proofs.Small.{both, clash}
use Rattle.lines.specs.Records.{IH, IP, II, IE, IF}
use Rattle.lines.specs.Shape.{follows}
use Rattle.chart_definitions.specs.Charts.{Charted, is_of, ordered}
use Rattle.chart_definitions.specs.Lots.{pieces, together, same_lots, of_immunization, immunizations, lots_together, patient_order, in_writing_order}
use Rattle.chart_definitions.proofs.TotalLaws.{empty_by_total}
use Rattle.chart_definitions.proofs.PieceLaws.{front_after, pieces_joined}
use Rattle.chart_definitions.proofs.TogetherLaws.{together_total, together_all}
use Rattle.chart_definitions.proofs.LotLaws.{lots_sym, lots_trans, pieces_self}
use Rattle.chart_definitions.proofs.FollowLaws.{ie_on_ii, ie_on_ie, ii_on_ip, ii_on_ie, end_on_ih, no_end_on_ii, ends_patient, after_ii_lem, ordered_here, ordered_rest, ordered_front}
use Rattle.chart_definitions.proofs.WritingOrderLaws.{starts_ii}

-- each of these records may follow the one before, the first a record of kind p
abbrev pub linked : ℕ → List Charted → Bool
linked p [] = true
linked p (r ∷ rs) = follows p r.kind && linked r.kind rs

-- the kind of the last of them, p for none
abbrev pub last_kind : ℕ → List Charted → ℕ
last_kind p [] = p
last_kind p (r ∷ rs) = last_kind r.kind rs

pub ordered_append : (p : ℕ) (rs qs : List Charted) → ordered p (rs ++ qs) ≡ linked p rs && ordered (last_kind p rs) qs
unfolding ordered
ordered_append p [] qs = refl
ordered_append p (r ∷ rs) qs = go (follows p r.kind) (ordered_append r.kind rs qs)
  where
    go : (b : Bool) → ordered r.kind (rs ++ qs) ≡ linked r.kind rs && ordered (last_kind r.kind rs) qs
        → b && ordered r.kind (rs ++ qs) ≡ b && linked r.kind rs && ordered (last_kind r.kind rs) qs
    go true e = e
    go false e = refl

linked_append : (p : ℕ) (rs qs : List Charted) → linked p (rs ++ qs) ≡ linked p rs && linked (last_kind p rs) qs
linked_append p [] qs = refl
linked_append p (r ∷ rs) qs = go (follows p r.kind) (linked_append r.kind rs qs)
  where
    go : (b : Bool) → linked r.kind (rs ++ qs) ≡ linked r.kind rs && linked (last_kind r.kind rs) qs
        → b && linked r.kind (rs ++ qs) ≡ b && linked r.kind rs && linked (last_kind r.kind rs) qs
    go true e = e
    go false e = refl

last_append : (p : ℕ) (rs qs : List Charted) → last_kind p (rs ++ qs) ≡ last_kind (last_kind p rs) qs
last_append p [] qs = refl
last_append p (r ∷ rs) qs = last_append r.kind rs qs

-- LOTS

-- an II and at least one IE
abbrev pub is_lot : List Charted → Bool
is_lot [] = false
is_lot (r ∷ []) = false
is_lot (r ∷ q ∷ rs) = is_of II r && all (is_of IE) (q ∷ rs)

-- IE behind an IE
ie_linked : (rs : List Charted) → all (is_of IE) rs ≡ true → (linked IE rs ≡ true) × (last_kind IE rs ≡ IE)
ie_linked [] e = (refl, refl)
ie_linked (r ∷ rs) e =
    let b = both (is_of IE r) (all (is_of IE) rs) e in
    let k : r.kind ≡ IE = eqb-true r.kind IE b.0 in
    let i = ie_linked rs b.1 in
    (rw (k, ie_on_ie, i.0), rw (k, i.1))

-- a lot may follow what an II may, and ends with an IE
lot_linked : (p : ℕ) (x : List Charted) → follows p II ≡ true → is_lot x ≡ true → (linked p x ≡ true) × (last_kind p x ≡ IE)
lot_linked p [] f e = clash (cc)
lot_linked p (r ∷ []) f e = clash (cc)
lot_linked p (r ∷ q ∷ rs) f e =
    let b = both (is_of II r) (all (is_of IE) (q ∷ rs)) e in
    let k : r.kind ≡ II = eqb-true r.kind II b.0 in
    let c = both (is_of IE q) (all (is_of IE) rs) b.1 in
    let l : q.kind ≡ IE = eqb-true q.kind IE c.0 in
    let i = ie_linked rs c.1 in
    (rw (k, l, f, ie_on_ii, i.0), rw (l, i.1))

-- lots one after the other
lots_linked : (p : ℕ) (xs : List (List Charted)) → follows p II ≡ true → all is_lot xs ≡ true
    → (linked p (joined (λ (x : List Charted). x) xs) ≡ true) × (last_kind p (joined (λ (x : List Charted). x) xs) ≡ cond (is_empty xs) p IE)
lots_linked p [] f e = (refl, refl)
lots_linked p (x ∷ xs) f e =
    let b = both (is_lot x) (all is_lot xs) e in
    let l = lot_linked p x f b.0 in
    let i = lots_linked IE xs ii_on_ie b.1 in
    (linked_append p x (joined (λ (y : List Charted). y) xs) ∙ rw (l.0, l.1, i.0), last_append p x (joined (λ (y : List Charted). y) xs) ∙ rw (l.1, i.1) (same (is_empty xs)))
  where
    same : (b : Bool) → cond b IE IE ≡ IE
    same true = refl
    same false = refl

-- the immunizations of records in order are lots
not_ii : (rs : List Charted) → all (is_of IE) (front (λ (r : Charted). not (is_of II r)) (front of_immunization rs)) ≡ true
unfolding of_immunization
not_ii [] = refl
not_ii (r ∷ rs) = go (eqb r.kind II) (eqb r.kind IE) refl refl (not_ii rs)
  where
    go : (b c : Bool) → eqb r.kind II ≡ b → eqb r.kind IE ≡ c → all (is_of IE) (front (λ (q : Charted). not (is_of II q)) (front of_immunization rs)) ≡ true
        → all (is_of IE) (front (λ (q : Charted). not (is_of II q)) (cond (b || c) (r ∷ front of_immunization rs) [])) ≡ true
    go true c p q h = rw p
    go false true p q h = rw (p, q, h)
    go false false p q h = refl

ie_first : (q : Charted) (rs : List Charted) → q.kind ≡ IE
    → front (λ (t : Charted). not (is_of II t)) (front of_immunization (q ∷ rs)) ≡ q ∷ front (λ (t : Charted). not (is_of II t)) (front of_immunization rs)
unfolding of_immunization
ie_first q rs e = rw e

first_lot : (r : Charted) (rs : List Charted) → is_of II r ≡ true → ordered II rs ≡ true → is_lot (r ∷ front (λ (q : Charted). not (is_of II q)) (front of_immunization rs)) ≡ true
unfolding ordered
first_lot r [] k e = clash (cc (no_end_on_ii))
first_lot r (q ∷ rs) k e =
    let l = after_ii_lem q.kind (ordered_here II q rs e) in
    let m : q.kind ≡ IE = eqb-true q.kind IE l in
    rw (ie_first q rs m, k, l) (not_ii rs)

pub lots_all : (p : ℕ) (rs : List Charted) → ordered p rs ≡ true → all is_lot (pieces (is_of II) (front of_immunization rs)) ≡ true
unfolding of_immunization
lots_all p [] e = refl
lots_all p (r ∷ rs) e = go (eqb r.kind II) (eqb r.kind IE) refl (lots_all r.kind rs (ordered_rest p r rs e))
  where
    go : (b c : Bool) → eqb r.kind II ≡ b → all is_lot (pieces (is_of II) (front of_immunization rs)) ≡ true
        → all is_lot (pieces (is_of II) (cond (b || c) (r ∷ front of_immunization rs) [])) ≡ true
    go true c q h =
        let k : ordered II rs ≡ true = ap (λ (n : ℕ). ordered n rs) (sym (eqb-true r.kind II q)) ∙ ordered_rest p r rs e in
        rw (q, first_lot r rs q k, h)
    go false true q h = rw (q, h)
    go false false q h = refl

-- THE RECORDS OF A PATIENT

pub lots_ordered : (rs : List Charted) → ordered IP rs ≡ true → ordered IP (lots_together rs) ≡ true
unfolding lots_together immunizations
lots_ordered rs e =
    let lots = pieces (is_of II) (front of_immunization rs) in
    let moved = together same_lots lots in
    let self = pieces_self (is_of II) (front of_immunization rs) in
    let whole = lots_all IP rs e in
    let a = lots_linked IP lots ii_on_ip whole in
    let b = lots_linked IP moved ii_on_ip (together_all same_lots lots_sym lots_trans lots self is_lot ∙ whole) in
    let none : is_empty moved ≡ is_empty lots = empty_by_total moved lots (together_total same_lots lots_sym lots_trans lots self) in
    let last : last_kind IP (joined (λ (x : List Charted). x) moved) ≡ last_kind IP (front of_immunization rs) =
    b.1 ∙ ap (λ (t : Bool). cond t IP IE) none ∙ sym a.1 ∙ ap (last_kind IP) (pieces_joined (is_of II) (front of_immunization rs) ∙ starts_ii rs e) in
    let old : linked IP (front of_immunization rs) && ordered (last_kind IP (front of_immunization rs)) (after_front of_immunization rs) ≡ true =
    sym (ordered_append IP (front of_immunization rs) (after_front of_immunization rs)) ∙ ap (ordered IP) (front_after of_immunization rs) ∙ e in
    let rest = (both (linked IP (front of_immunization rs)) (ordered (last_kind IP (front of_immunization rs)) (after_front of_immunization rs)) old).1 in
    ordered_append IP (joined (λ (x : List Charted). x) moved) (after_front of_immunization rs) ∙ rw (b.0, last) rest

-- ALL PATIENTS

-- more may follow where an end may
ordered_on : (p : ℕ) (rs qs : List Charted) → ordered p rs ≡ true → ((k : ℕ) → follows k IF ≡ true → ordered k qs ≡ true) → ordered p (rs ++ qs) ≡ true
unfolding ordered
ordered_on p [] qs e f = f p e
ordered_on p (r ∷ rs) qs e f = rw (ordered_here p r rs e) (ordered_on r.kind rs qs (ordered_rest p r rs e) f)

patients_ordered : (p k : ℕ) (rs : List Charted) → ordered p rs ≡ true → follows k IF ≡ true → ordered k (joined patient_order (pieces (is_of IP) rs)) ≡ true
unfolding ordered
patients_ordered p k [] e f = f
patients_ordered p k (r ∷ rs) e f = go (eqb r.kind IP) refl (λ (j : ℕ) (g : follows j IF ≡ true). patients_ordered r.kind j rs (ordered_rest p r rs e) g)
  where
    own : List Charted
    own = front (λ (q : Charted). not (is_of IP q)) rs

    go : (b : Bool) → eqb r.kind IP ≡ b → ((j : ℕ) → follows j IF ≡ true → ordered j (joined patient_order (pieces (is_of IP) rs)) ≡ true)
        → ordered k (joined patient_order (cond b ((r ∷ own) ∷ pieces (is_of IP) rs) (pieces (is_of IP) rs))) ≡ true
    go true q h =
        let i : r.kind ≡ IP = eqb-true r.kind IP q in
        let o : ordered IP rs ≡ true = ap (λ (n : ℕ). ordered n rs) (sym i) ∙ ordered_rest p r rs e in
        rw (i, ends_patient k, f) (ordered_on IP (lots_together own) (joined patient_order (pieces (is_of IP) rs)) (lots_ordered own (ordered_front IP rs o)) h)
    go false q h = h k f

pub order_kept : (rs : List Charted) → ordered IH rs ≡ true → ordered IH (in_writing_order rs) ≡ true
unfolding in_writing_order
order_kept rs e = patients_ordered IH IH rs e end_on_ih

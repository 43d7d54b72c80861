-- The records of a chart by patients: what is written of the first one, and what is left behind it.
-- Assumes nothing.
use mathlib.Core.Path.{◌≡◌, refl, sym, ap, ◌∙◌}
use mathlib.Core.Bool.{Bool, true, false, not, cond, ◌||◌}
use mathlib.Core.List.{List, [], ◌∷◌, ◌++◌, append_assoc}
use mathlib.Core.Logic.{◌⊎◌, inl, inr}
use Prim.Native.Nat.{ℕ}
use borrow.Author.Tests.{ne_eqb, eqb-true, eqb-false}
use lib.Dec.{eqb}
use Rattle.house.specs.Text.{front, after_front, joined}
use Rattle.house.proofs.Small.{clash}
use Rattle.lines.specs.Records.{IH, IP, II, IE, IN, IA, IF}
use Rattle.lines.specs.Shape.{is_one, follows}
use Rattle.chart_definitions.specs.Charts.{Charted, is_of, ordered}
use Rattle.chart_definitions.specs.Lots.{pieces, together, same_lots, of_immunization, immunizations, lots_together, patient_order, in_writing_order}
use Rattle.chart_definitions.proofs.FollowLaws.{end_on_ih, ordered_here, ordered_rest, if_not, ih_first}
use Rattle.chart.specs.Inside.{of_kinds}

-- RUNS: what passes the first test passes the second

module _ {A : Type 0} (p q : A → Bool) (sub : (x : A) → p x ≡ true → q x ≡ true) where
  front_front : (xs : List A) → front p (front q xs) ≡ front p xs
  front_front [] = refl
  front_front (x ∷ xs) = go (p x) (q x) refl refl (front_front xs)
    where
      go : (b c : Bool) → p x ≡ b → q x ≡ c → front p (front q xs) ≡ front p xs → front p (cond c (x ∷ front q xs) []) ≡ cond b (x ∷ front p xs) []
      go true true e f r = rw e (ap (λ (l : List A). x ∷ l) r)
      go true false e f r = let w = sub x e in clash (cc (w, f))
      go false true e f r = rw e
      go false false e f r = refl

  after_front_lem : (xs : List A) → after_front p (front q xs) ≡ front q (after_front p xs)
  after_front_lem [] = refl
  after_front_lem (x ∷ xs) = go (p x) (q x) refl refl (after_front_lem xs)
    where
      go : (b c : Bool) → p x ≡ b → q x ≡ c → after_front p (front q xs) ≡ front q (after_front p xs)
          → after_front p (cond c (x ∷ front q xs) []) ≡ front q (cond b (after_front p xs) (x ∷ xs))
      go true true e f r = rw e r
      go true false e f r = let w = sub x e in clash (cc (w, f))
      go false true e f r = rw (e, f)
      go false false e f r = rw f

  after_after : (xs : List A) → after_front q xs ≡ after_front q (after_front p xs)
  after_after [] = refl
  after_after (x ∷ xs) = go (p x) (q x) refl refl (after_after xs)
    where
      go : (b c : Bool) → p x ≡ b → q x ≡ c → after_front q xs ≡ after_front q (after_front p xs)
          → cond c (after_front q xs) (x ∷ xs) ≡ after_front q (cond b (after_front p xs) (x ∷ xs))
      go true true e f r = r
      go true false e f r = let w = sub x e in clash (cc (w, f))
      go false c e f r = rw f

pieces_after : {A : Type 0} (p : A → Bool) (xs : List A) → pieces p xs ≡ pieces p (after_front (λ (y : A). not (p y)) xs)
pieces_after p [] = refl
pieces_after {A} p (x ∷ xs) = go (p x) refl (pieces_after p xs)
  where
    go : (b : Bool) → p x ≡ b → pieces p xs ≡ pieces p (after_front (λ (y : A). not (p y)) xs)
        → cond b ((x ∷ front (λ (y : A). not (p y)) xs) ∷ pieces p xs) (pieces p xs) ≡ pieces p (cond (not b) (after_front (λ (y : A). not (p y)) xs) (x ∷ xs))
    go true e r = rw e
    go false e r = r

-- WHAT FOLLOWS

-- what may stand behind immunizations
data Next (k : ℕ) : Type 0 where
  patient : k ≡ IP → Next k
  without : k ≡ IN → Next k
  antigen : k ≡ IA → Next k
  last : k ≡ IF → Next k

next_in : (k : ℕ) (z o t u v w x y : Bool) → z ≡ false → o ≡ false → eqb k II ≡ false → eqb k IE ≡ false
    → (a b c f g h : Bool) → eqb k IP ≡ c → eqb k IN ≡ f → eqb k IA ≡ g → eqb k IF ≡ h
    → cond a z (cond b o (cond c t (cond (eqb k II) u (cond (eqb k IE) v (cond f w (cond g x (cond h y false))))))) ≡ true → Next k
next_in k z o t u v w x y i j l m true b c f g h p q r s e = clash (cc (i, e))
next_in k z o t u v w x y i j l m false true c f g h p q r s e = clash (cc (j, e))
next_in k z o t u v w x y i j l m false false true f g h p q r s e = patient (eqb-true _ _ p)
next_in k z o t u v w x y i j l m false false false true g h p q r s e = without (eqb-true _ _ q)
next_in k z o t u v w x y i j l m false false false false true h p q r s e = antigen (eqb-true _ _ r)
next_in k z o t u v w x y i j l m false false false false false true p q r s e = last (eqb-true _ _ s)
next_in k z o t u v w x y i j l m false false false false false false p q r s e =
    let n : cond (eqb k II) u (cond (eqb k IE) v false) ≡ false = rw (l, m) in clash (cc (n, e))

next_kind : (p k : ℕ) → (p ≡ 0 → ⊥) → (p ≡ 1 → ⊥) → (k ≡ II → ⊥) → (k ≡ IE → ⊥) → follows p k ≡ true → Next k
unfolding follows
next_kind p k z o i e f =
    next_in k (eqb p 0) (eqb p 1) (is_one (IH ∷ IE ∷ IA ∷ []) p) (is_one (IP ∷ IE ∷ []) p) (is_one (II ∷ IE ∷ []) p)
    (is_one (IP ∷ IE ∷ IA ∷ []) p) (is_one (IN ∷ IA ∷ []) p) (is_one (IH ∷ IE ∷ IA ∷ []) p)
    (ne_eqb _ _ z) (ne_eqb _ _ o) (ne_eqb _ _ i) (ne_eqb _ _ e)
    (eqb k 1) (eqb k 2) (eqb k IP) (eqb k IN) (eqb k IA) (eqb k IF) refl refl refl refl f

-- no immunization follows an IN or an IA
late : (p k : ℕ) → (p ≡ IN) ⊎ (p ≡ IA) → follows p k ≡ true → Next k
unfolding follows is_one
late p k (inl e) f =
    next_kind p k (λ z. clash (cc (e, z))) (λ z. clash (cc (e, z))) (λ z. clash (cc (rw (e, z) at f))) (λ z. clash (cc (rw (e, z) at f))) f
late p k (inr e) f =
    next_kind p k (λ z. clash (cc (e, z))) (λ z. clash (cc (e, z))) (λ z. clash (cc (rw (e, z) at f))) (λ z. clash (cc (rw (e, z) at f))) f

-- UP TO THE NEXT PATIENT

-- there are IN and IA alone, and behind them a patient or nothing
record Rest (rs : List Charted) : Type 0 where
  fronts : front (λ (r : Charted). not (is_of IP r)) rs ≡ front (of_kinds IN IA) rs
  afters : after_front (λ (r : Charted). not (is_of IP r)) rs ≡ after_front (of_kinds IN IA) rs
  next : ordered IH (after_front (of_kinds IN IA) rs) ≡ true

rest_none : Rest []
unfolding ordered
rest_none = record { fronts = refl; afters = refl; next = end_on_ih }

rest_patient : (r : Charted) (rs : List Charted) → r.kind ≡ IP → ordered r.kind rs ≡ true → Rest (r ∷ rs)
unfolding ordered of_kinds follows is_one
rest_patient r rs k o =
    record {
      fronts = rw k;
      afters = rw k;
      next = rw k (rw k at o);
    }

rest_on : (r : Charted) (rs : List Charted) → (r.kind ≡ IN) ⊎ (r.kind ≡ IA) → Rest rs → Rest (r ∷ rs)
unfolding of_kinds
rest_on r rs (inl k) t =
    record {
      fronts = rw k (ap (λ (l : List Charted). record { kind = IN; body = r.body } ∷ l) t.fronts);
      afters = rw k t.afters;
      next = rw k t.next;
    }
rest_on r rs (inr k) t =
    record {
      fronts = rw k (ap (λ (l : List Charted). record { kind = IA; body = r.body } ∷ l) t.fronts);
      afters = rw k t.afters;
      next = rw k t.next;
    }

rest_next : (r : Charted) (rs : List Charted) → Next r.kind → ordered r.kind rs ≡ true → ((r.kind ≡ IN) ⊎ (r.kind ≡ IA) → Rest rs) → Rest (r ∷ rs)
rest_next r rs (patient k) o f = rest_patient r rs k o
rest_next r rs (without k) o f = rest_on r rs (inl k) (f (inl k))
rest_next r rs (antigen k) o f = rest_on r rs (inr k) (f (inr k))
rest_next r rs (last k) o f = let w : ordered IF rs ≡ true = ap (λ (n : ℕ). ordered n rs) (sym k) ∙ o in clash (cc (if_not rs, w))

rest_late : (p : ℕ) (rs : List Charted) → (p ≡ IN) ⊎ (p ≡ IA) → ordered p rs ≡ true → Rest rs
rest_late p [] l o = rest_none
rest_late p (r ∷ rs) l o =
    let t = ordered_rest p r rs o in
    rest_next r rs (late p r.kind l (ordered_here p r rs o)) t (λ k. rest_late r.kind rs k t)

rest_after : (p : ℕ) (rs : List Charted) → (p ≡ 0 → ⊥) → (p ≡ 1 → ⊥) → ordered p rs ≡ true → Rest (after_front of_immunization rs)
unfolding of_immunization
rest_after p [] z e o = rest_none
rest_after p (r ∷ rs) z e o =
    go (eqb r.kind II) (eqb r.kind IE) refl refl (λ a b. rest_after r.kind rs a b (ordered_rest p r rs o))
  where
    go : (i j : Bool) → eqb r.kind II ≡ i → eqb r.kind IE ≡ j → ((r.kind ≡ 0 → ⊥) → (r.kind ≡ 1 → ⊥) → Rest (after_front of_immunization rs))
        → Rest (cond (i || j) (after_front of_immunization rs) (r ∷ rs))
    go true j a b f = let k : r.kind ≡ II = eqb-true _ _ a in f (λ w. clash (cc (k, w))) (λ w. clash (cc (k, w)))
    go false true a b f = let k : r.kind ≡ IE = eqb-true _ _ b in f (λ w. clash (cc (k, w))) (λ w. clash (cc (k, w)))
    go false false a b f =
        rest_next r rs (next_kind p r.kind z e (eqb-false _ _ a) (eqb-false _ _ b) (ordered_here p r rs o)) (ordered_rest p r rs o)
        (λ k. rest_late r.kind rs k (ordered_rest p r rs o))

-- THE FIRST PATIENT

pub none : in_writing_order [] ≡ []
unfolding in_writing_order
none = refl

no_patient : (r : Charted) → of_immunization r ≡ true → not (is_of IP r) ≡ true
unfolding of_immunization
no_patient r e = go (eqb r.kind II) (eqb r.kind IE) refl refl e
  where
    go : (i j : Bool) → eqb r.kind II ≡ i → eqb r.kind IE ≡ j → i || j ≡ true → not (eqb r.kind IP) ≡ true
    go true j a b h = rw (eqb-true r.kind II a)
    go false true a b h = rw (eqb-true r.kind IE b)
    go false false a b h = clash (cc)

module _ (ip : Charted) (rest : List Charted) (o : ordered IH (ip ∷ rest) ≡ true) where
  own_rest : Rest (after_front of_immunization rest)
  own_rest =
      let k : ip.kind ≡ IP = eqb-true _ _ (ih_first ip rest o) in
      rest_after ip.kind rest (λ z. clash (cc (k, z))) (λ z. clash (cc (k, z))) (ordered_rest IH ip rest o)

  lots_own : lots_together (front (λ (r : Charted). not (is_of IP r)) rest)
      ≡ joined (λ (x : List Charted). x) (together same_lots (immunizations (front of_immunization rest)))
      ++ front (of_kinds IN IA) (after_front of_immunization rest)
  unfolding lots_together
  lots_own =
      ap (λ (l : List Charted). joined (λ (x : List Charted). x) (together same_lots (immunizations l))
      ++ after_front of_immunization (front (λ (r : Charted). not (is_of IP r)) rest))
      (front_front of_immunization (λ (r : Charted). not (is_of IP r)) no_patient rest)
      ∙ ap (λ (l : List Charted). joined (λ (x : List Charted). x) (together same_lots (immunizations (front of_immunization rest))) ++ l)
      (after_front_lem of_immunization (λ (r : Charted). not (is_of IP r)) no_patient rest ∙ own_rest.fronts)

  others : in_writing_order rest ≡ in_writing_order (after_front (of_kinds IN IA) (after_front of_immunization rest))
  unfolding in_writing_order
  others =
      ap (joined patient_order) (pieces_after (is_of IP) rest
      ∙ ap (pieces (is_of IP)) (after_after of_immunization (λ (r : Charted). not (is_of IP r)) no_patient rest ∙ own_rest.afters))

  first_own : in_writing_order (ip ∷ rest) ≡ ip ∷ (lots_together (front (λ (r : Charted). not (is_of IP r)) rest) ++ in_writing_order rest)
  unfolding in_writing_order
  first_own = rw (ih_first ip rest o)

  pub patient_parts : in_writing_order (ip ∷ rest)
      ≡ (ip ∷ []) ++ (joined (λ (x : List Charted). x) (together same_lots (immunizations (front of_immunization rest)))
      ++ (front (of_kinds IN IA) (after_front of_immunization rest) ++ in_writing_order (after_front (of_kinds IN IA) (after_front of_immunization rest))))
  patient_parts =
      first_own
      ∙ ap (λ (l : List Charted). ip ∷ (l ++ in_writing_order rest)) lots_own
      ∙ ap (λ (l : List Charted). ip ∷ l)
      (append_assoc (joined (λ (x : List Charted). x) (together same_lots (immunizations (front of_immunization rest))))
      (front (of_kinds IN IA) (after_front of_immunization rest)) (in_writing_order rest))
      ∙ ap (λ (l : List Charted). ip ∷ (joined (λ (x : List Charted). x) (together same_lots (immunizations (front of_immunization rest)))
      ++ (front (of_kinds IN IA) (after_front of_immunization rest) ++ l))) others

  pub patient_next : ordered IH (after_front (of_kinds IN IA) (after_front of_immunization rest)) ≡ true
  patient_next = own_rest.next

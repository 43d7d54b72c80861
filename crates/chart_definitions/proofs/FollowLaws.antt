-- Which kind of record follows which, and lists of records in guideline order.
-- Assumes nothing.
use Prim.Native.Nat.{ℕ}
use mathlib.Core.Path.{◌≡◌, refl, sym, ap, ◌∙◌}
use mathlib.Core.Bool.{Bool, true, false, not, cond}
use mathlib.Core.List.{List, [], ◌∷◌}
use lib.Dec.{eqb}
use borrow.Author.Tests.{eqb-true}
use Rattle.house.specs.Text.{front, after_front}
use Rattle.house.proofs.Small.{both, clash}
use Rattle.lines.specs.Records.{IH, IP, II, IE, IF}
use Rattle.lines.specs.Shape.{is_one, follows}
use Rattle.chart_definitions.specs.Charts.{Charted, is_of, ordered}

-- what may follow a record that ends a patient's records may follow it in a file's end, and the other way round
pub ends_patient : (p : ℕ) → follows p IP ≡ follows p IF
unfolding follows
ends_patient p = refl

pub ie_on_ii : follows II IE ≡ true
unfolding follows is_one
ie_on_ii = refl

pub ie_on_ie : follows IE IE ≡ true
unfolding follows is_one
ie_on_ie = refl

pub ii_on_ip : follows IP II ≡ true
unfolding follows is_one
ii_on_ip = refl

pub ii_on_ie : follows IE II ≡ true
unfolding follows is_one
ii_on_ie = refl

pub end_on_ih : follows IH IF ≡ true
unfolding follows is_one
end_on_ih = refl

pub no_end_on_ii : follows II IF ≡ false
unfolding follows is_one
no_end_on_ii = refl

module _ (k : ℕ) where
  -- nothing follows an IF
  pub after_if : follows IF k ≡ false
  unfolding follows is_one
  after_if = at (eqb k 1) (eqb k 2) (eqb k 3) (eqb k 4) (eqb k 5) (eqb k 6) (eqb k 7) (eqb k 8)
    where
      at : (a b c d e f g h : Bool) → cond a false (cond b false (cond c false (cond d false (cond e false (cond f false (cond g false (cond h false false))))))) ≡ false
      at true b c d e f g h = refl
      at false true c d e f g h = refl
      at false false true d e f g h = refl
      at false false false true e f g h = refl
      at false false false false true f g h = refl
      at false false false false false true g h = refl
      at false false false false false false true h = refl
      at false false false false false false false true = refl
      at false false false false false false false false = refl

  -- an IE follows an II, and nothing else
  pub after_ii_lem : follows II k ≡ true → eqb k IE ≡ true
  unfolding follows is_one
  after_ii_lem = at (eqb k 1) (eqb k 2) (eqb k 3) (eqb k 4) (eqb k 5) (eqb k 6) (eqb k 7) (eqb k 8)
    where
      at : (a b c d e f g h : Bool) → cond a false (cond b false (cond c false (cond d false (cond e true (cond f false (cond g false (cond h false false))))))) ≡ true → e ≡ true
      at a b c d true f g h t = refl
      at true b c d false f g h t = clash (cc)
      at false true c d false f g h t = clash (cc)
      at false false true d false f g h t = clash (cc)
      at false false false true false f g h t = clash (cc)
      at false false false false false true g h t = clash (cc)
      at false false false false false false true h t = clash (cc)
      at false false false false false false false true t = clash (cc)
      at false false false false false false false false t = clash (cc)

  -- no IE follows an IP
  pub after_ip : follows IP k ≡ true → eqb k II ≡ false → eqb k IE ≡ false
  unfolding follows is_one
  after_ip = at (eqb k 1) (eqb k 2) (eqb k 3) (eqb k 4) (eqb k 5) (eqb k 6) (eqb k 7) (eqb k 8)
    where
      at : (a b c d e f g h : Bool) → cond a false (cond b false (cond c false (cond d true (cond e false (cond f true (cond g false (cond h false false))))))) ≡ true → d ≡ false → e ≡ false
      at a b c d false f g h t u = refl
      at true b c d true f g h t u = clash (cc)
      at false true c d true f g h t u = clash (cc)
      at false false true d true f g h t u = clash (cc)
      at false false false true true f g h t u = clash (cc)
      at false false false false true f g h t u = clash (cc)

  -- an IP follows an IH, or an IF
  pub after_ih : follows IH k ≡ true → eqb k IP ≡ false → eqb k IF ≡ true
  unfolding follows is_one
  after_ih = at (eqb k 1) (eqb k 2) (eqb k 3) (eqb k 4) (eqb k 5) (eqb k 6) (eqb k 7) (eqb k 8)
    where
      at : (a b c d e f g h : Bool) → cond a false (cond b false (cond c true (cond d false (cond e false (cond f false (cond g false (cond h true false))))))) ≡ true → c ≡ false → h ≡ true
      at a b c d e f g true t u = refl
      at true b c d e f g false t u = clash (cc)
      at false true c d e f g false t u = clash (cc)
      at false false true d e f g false t u = clash (cc)
      at false false false true e f g false t u = clash (cc)
      at false false false false true f g false t u = clash (cc)
      at false false false false false true g false t u = clash (cc)
      at false false false false false false true false t u = clash (cc)
      at false false false false false false false false t u = clash (cc)

-- GUIDELINE ORDER

module _ (p : ℕ) (r : Charted) (rs : List Charted) (e : ordered p (r ∷ rs) ≡ true) where
  pub ordered_here : follows p r.kind ≡ true
  unfolding ordered
  ordered_here = (both (follows p r.kind) (ordered r.kind rs) e).0

  pub ordered_rest : ordered r.kind rs ≡ true
  unfolding ordered
  ordered_rest = (both (follows p r.kind) (ordered r.kind rs) e).1

-- no record of a chart is an IF
pub if_not : (rs : List Charted) → ordered IF rs ≡ false
unfolding ordered
if_not [] = after_if IF
if_not (r ∷ rs) = rw (after_if r.kind)

pub ih_first : (r : Charted) (rs : List Charted) → ordered IH (r ∷ rs) ≡ true → is_of IP r ≡ true
ih_first r rs e = go (eqb r.kind IP) refl
  where
    go : (b : Bool) → eqb r.kind IP ≡ b → b ≡ true
    go true q = refl
    go false q =
        let k : r.kind ≡ IF = eqb-true r.kind IF (after_ih r.kind (ordered_here IH r rs e) q) in
        clash (cc (if_not rs, rw k at (ordered_rest IH r rs e)))

-- a chart starts with a patient
pub starts_patient : (rs : List Charted) → ordered IH rs ≡ true → after_front (λ (r : Charted). not (is_of IP r)) rs ≡ rs
starts_patient [] e = refl
starts_patient (r ∷ rs) e = rw (ih_first r rs e)

-- the records behind an IP, up to the next, are in order by themselves
pub ordered_front : (p : ℕ) (rs : List Charted) → ordered p rs ≡ true → ordered p (front (λ (r : Charted). not (is_of IP r)) rs) ≡ true
unfolding ordered
ordered_front p [] e = e
ordered_front p (r ∷ rs) e = go (eqb r.kind IP) refl (ordered_front r.kind rs (ordered_rest p r rs e))
  where
    go : (b : Bool) → eqb r.kind IP ≡ b → ordered r.kind (front (λ (q : Charted). not (is_of IP q)) rs) ≡ true
        → ordered p (cond (not b) (r ∷ front (λ (q : Charted). not (is_of IP q)) rs) []) ≡ true
    go true q h = sym (ends_patient p) ∙ ap (follows p) (sym (eqb-true r.kind IP q)) ∙ ordered_here p r rs e
    go false q h = rw (ordered_here p r rs e, h)

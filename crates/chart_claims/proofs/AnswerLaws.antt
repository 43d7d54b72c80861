-- What writing answers, and when.
-- Assumes nothing.
use Prim.Native.Nat.{ℕ, ◌+◌, ◌-◌, ◌≤◌, ◌<◌}
use native.Mathlib.Omega.{arith}
use mathlib.Core.Path.{◌≡◌, refl, sym, ap, ◌∙◌}
use mathlib.Core.Bool.{Bool, true, false, ◌||◌}
use mathlib.Core.Logic.{◌⊎◌, inl, inr, ⊎_elim}
use mathlib.Core.List.{◌++◌}
use lib.Dec.{ltb}
use lib.ListN.{length, get_or, drop, length-append, length-drop, get_or-append}
use lib.Seq.{get_or-append-add, get_or-drop}
use borrow.Author.Tests.{ltb-true, ltb-false}
use Rattle.house.specs.Text.{Text}
use Rattle.house.proofs.Small.{clash}
use Rattle.chart_definitions.specs.Submissions.{Request, Written, RECORD, ROOM, file_most, refused, finished, file_of, is_right, is_too_long, write}
use Rattle.chart_claims.specs.ClaimsAnswers.{FileWritten, Answered, ExactlyWhen}

module _ (x : Request) where
  at_record : is_right x ≡ false → write x ≡ refused x RECORD
  unfolding write
  at_record r = rw r

  at_room : is_right x ≡ true → is_too_long x ≡ true → write x ≡ refused x ROOM
  unfolding write
  at_room r t = rw (r, t)

  at_file : is_right x ≡ true → is_too_long x ≡ false → write x ≡ finished x
  unfolding write
  at_file r t = rw (r, t)

  too_long : is_too_long x ≡ true → (length x.area < length (file_of x)) ⊎ (file_most < length (file_of x))
  unfolding is_too_long
  too_long e = go (ltb (length x.area) (length (file_of x))) refl e
    where
      go : (b : Bool) → ltb (length x.area) (length (file_of x)) ≡ b → b || ltb file_most (length (file_of x)) ≡ true → (length x.area < length (file_of x)) ⊎ (file_most < length (file_of x))
      go true p q = inl (ltb-true (length x.area) (length (file_of x)) p)
      go false p q = inr (ltb-true file_most (length (file_of x)) q)

  not_too_long : is_too_long x ≡ false → (length (file_of x) ≤ length x.area) × (length (file_of x) ≤ file_most)
  unfolding is_too_long
  not_too_long e = go (ltb (length x.area) (length (file_of x))) refl e
    where
      go : (b : Bool) → ltb (length x.area) (length (file_of x)) ≡ b → b || ltb file_most (length (file_of x)) ≡ false → (length (file_of x) ≤ length x.area) × (length (file_of x) ≤ file_most)
      go true p q = clash (cc)
      go false p q = (ltb-false (length x.area) (length (file_of x)) p, ltb-false file_most (length (file_of x)) q)

  -- a text laid over the front of the area
  over_past : (t : Text) (k : ℕ) → length t ≤ k → get_or (t ++ drop (length t) x.area) k 0 ≡ get_or x.area k 0
  over_past t k h =
      let e : k ≡ length t + (k - length t) = omega arith in
      ap (λ (n : ℕ). get_or (t ++ drop (length t) x.area) n 0) e
      ∙ get_or-append-add t (drop (length t) x.area) (k - length t) 0
      ∙ get_or-drop (length t) x.area (k - length t) 0
      ∙ ap (λ (n : ℕ). get_or x.area n 0) (sym e)

  file_written : is_too_long x ≡ false → write x ≡ finished x → FileWritten x
  unfolding finished
  file_written t e =
      let room = not_too_long t in
      let area : (write x).area ≡ file_of x ++ drop (length (file_of x)) x.area = ap (λ (w : Written). w.area) e in
      record {
        long = ap (λ (w : Written). w.length) e;
        fits = room.0;
        most = room.1;
        file = λ i h. ap (λ (t : Text). get_or t i 0) area ∙ get_or-append (file_of x) (drop (length (file_of x)) x.area) 0 i h;
        past = λ i h. ap (λ (t : Text). get_or t i 0) area ∙ over_past (file_of x) i h;
        same_length = ap length area ∙ length-append (file_of x) (drop (length (file_of x)) x.area) ∙ omega (arith, length-drop (length (file_of x)) x.area);
      }

pub exactly_when : ExactlyWhen
unfolding finished
exactly_when x = go (is_right x) (is_too_long x) refl refl
  where
    go : (r t : Bool) → is_right x ≡ r → is_too_long x ≡ t → Answered x
    go false t p q =
        let w = at_record x p in
        let a : (write x).answer ≡ 8 = ap (λ (o : Written). o.answer) w in
        record {
          one_of = inr (inl a);
          record_when = ((λ e. p), (λ e. a));
          room_when = ((λ e. absurd (omega arith)), (λ e. clash (cc e.0)));
          refused = λ n. (ap (λ (o : Written). o.length) w, ap (λ (o : Written). o.area) w);
          written = λ e. absurd (omega arith);
        }
    go true true p q =
        let w = at_room x p q in
        let a : (write x).answer ≡ 9 = ap (λ (o : Written). o.answer) w in
        record {
          one_of = inr (inr a);
          record_when = ((λ e. absurd (omega arith)), (λ e. clash (cc)));
          room_when = ((λ e. (p, too_long x q)), (λ e. a));
          refused = λ n. (ap (λ (o : Written). o.length) w, ap (λ (o : Written). o.area) w);
          written = λ e. absurd (omega arith);
        }
    go true false p q =
        let w = at_file x p q in
        let a : (write x).answer ≡ 0 = ap (λ (o : Written). o.answer) w in
        let f = not_too_long x q in
        record {
          one_of = inl a;
          record_when = ((λ e. absurd (omega arith)), (λ e. clash (cc)));
          room_when = ((λ e. absurd (omega arith)), (λ e. absurd (⊎_elim (λ l. omega arith) (λ l. omega arith) e.1)));
          refused = λ n. absurd (n a);
          written = λ e. file_written x q w;
        }

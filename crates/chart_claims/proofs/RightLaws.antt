-- What a request that is not refused as RECORD says of its records.
-- Assumes nothing.
use Prim.Native.Nat.{ℕ, suc}
use mathlib.Core.Path.{◌≡◌, refl, ap, ◌∙◌}
use mathlib.Core.Bool.{Bool, true, false, not, cond, ◌&&◌}
use mathlib.Core.List.{List, [], ◌∷◌}
use lib.Dec.{eqb}
use lib.ListN.{length}
use borrow.Author.Tests.{eqb-true}
use Rattle.house.specs.Text.{Text, all, within, is_letter_or_digit, run}
use Rattle.house.proofs.Small.{both, clash}
use Rattle.lines.specs.Records.{IV, IH, IP, II, IE, IN, IA, IF, letter_kind, kind_of, count_of}
use Rattle.lines.specs.Shape.{is_one, follows}
use Rattle.rules_definitions.specs.Forms.{is_prefix, is_batch}
use Rattle.chart_definitions.specs.Charts.{Charted, charted_in, widths_of, body_width, written_fields, is_field_byte, well_formed, ordered, is_chart}
use Rattle.chart_definitions.specs.Submissions.{type_text, Request, records_of, is_right}
use Rattle.chart_definitions.proofs.FollowLaws.{ordered_here, ordered_rest, if_not}
use Rattle.chart_definitions.proofs.WritingOrderLaws.{order_all}
use Rattle.chart_definitions.proofs.OrderKeptLaws.{order_kept}
use Rattle.chart_claims.proofs.FieldLaws.{all_weaker, letter_byte, length_cut}

-- KINDS

-- one of the five
pub data ChartKind (k : ℕ) : Type 0 where
  ip : k ≡ IP → ChartKind k
  ii : k ≡ II → ChartKind k
  ie : k ≡ IE → ChartKind k
  not_immunized_count : k ≡ IN → ChartKind k
  ia : k ≡ IA → ChartKind k

-- what follows a record other than IV, and is no IF
chart_kind : (p k : ℕ) → follows p k ≡ true → eqb p 0 ≡ false → eqb p IV ≡ false → eqb k IF ≡ false → ChartKind k
unfolding follows
chart_kind p k =
    go (eqb k IV) (eqb k IH) (eqb k IP) (eqb k II) (eqb k IE) (eqb k IN) (eqb k IA) (eqb k IF) (eqb p 0) (eqb p IV)
    refl refl refl refl refl
  where
    go : (a b c d e f g h y z : Bool) → eqb k IP ≡ c → eqb k II ≡ d → eqb k IE ≡ e → eqb k IN ≡ f → eqb k IA ≡ g
        → cond a y (cond b z (cond c (is_one (IH ∷ IE ∷ IA ∷ []) p) (cond d (is_one (IP ∷ IE ∷ []) p) (cond e (is_one (II ∷ IE ∷ []) p) (cond f (is_one (IP ∷ IE ∷ IA ∷ []) p) (cond g (is_one (IN ∷ IA ∷ []) p) (cond h (is_one (IH ∷ IE ∷ IA ∷ []) p) false))))))) ≡ true
        → y ≡ false → z ≡ false → h ≡ false → ChartKind k
    go true b c d e f g h y z kc kd ke kf kg t u v w = clash (cc)
    go false true c d e f g h y z kc kd ke kf kg t u v w = clash (cc)
    go false false true d e f g h y z kc kd ke kf kg t u v w = ip (eqb-true k IP kc)
    go false false false true e f g h y z kc kd ke kf kg t u v w = ii (eqb-true k II kd)
    go false false false false true f g h y z kc kd ke kf kg t u v w = ie (eqb-true k IE ke)
    go false false false false false true g h y z kc kd ke kf kg t u v w = not_immunized_count (eqb-true k IN kf)
    go false false false false false false true h y z kc kd ke kf kg t u v w = ia (eqb-true k IA kg)
    go false false false false false false false true y z kc kd ke kf kg t u v w = clash (cc)
    go false false false false false false false false y z kc kd ke kf kg t u v w = clash (cc)

-- a kind that records of a chart may follow
abbrev pub is_before : ℕ → Bool
is_before p = not (eqb p 0) && not (eqb p IV)

pub first_kind : (p : ℕ) (r : Charted) (rs : List Charted) → is_before p ≡ true → ordered p (r ∷ rs) ≡ true → ChartKind r.kind
first_kind p r rs b e =
    let k = both (not (eqb p 0)) (not (eqb p IV)) b in
    chart_kind p r.kind (ordered_here p r rs e) (off (eqb p 0) k.0) (off (eqb p IV) k.1) (last (eqb r.kind IF) refl)
  where
    off : (c : Bool) → not c ≡ true → c ≡ false
    off true h = clash (cc)
    off false h = refl

    last : (c : Bool) → eqb r.kind IF ≡ c → c ≡ false
    last false q = refl
    last true q = let k : r.kind ≡ IF = eqb-true r.kind IF q in clash (cc (if_not rs, rw k at (ordered_rest p r rs e)))

module _ (k : ℕ) where
  pub kind_before : ChartKind k → is_before k ≡ true
  kind_before (ip e) = rw e
  kind_before (ii e) = rw e
  kind_before (ie e) = rw e
  kind_before (not_immunized_count e) = rw e
  kind_before (ia e) = rw e

  -- the record type names it
  pub kind_back : ChartKind k → kind_of (type_text k) ≡ k
  unfolding kind_of letter_kind type_text
  kind_back (ip e) = rw e
  kind_back (ii e) = rw e
  kind_back (ie e) = rw e
  kind_back (not_immunized_count e) = rw e
  kind_back (ia e) = rw e

  pub kind_known : ChartKind k → eqb k 0 ≡ false
  kind_known (ip e) = rw e
  kind_known (ii e) = rw e
  kind_known (ie e) = rw e
  kind_known (not_immunized_count e) = rw e
  kind_known (ia e) = rw e

  -- the fields from field 3 on, and two more
  pub kind_count : ChartKind k → suc (suc (length (widths_of k))) ≡ count_of k
  unfolding widths_of count_of
  kind_count (ip e) = rw e
  kind_count (ii e) = rw e
  kind_count (ie e) = rw e
  kind_count (not_immunized_count e) = rw e
  kind_count (ia e) = rw e

pub given_count : (r : Charted) → ChartKind r.kind → suc (suc (length (written_fields r))) ≡ count_of r.kind
unfolding written_fields
given_count r c = ap (λ (n : ℕ). suc (suc n)) (length_cut (widths_of r.kind) r.body) ∙ kind_count r.kind c

-- REQUESTS

pub record RightRequest (x : Request) : Type 0 where
  pub prefixed : is_prefix x.prefix ≡ true
  pub batched : is_batch x.batch ≡ true
  pub charted : ordered IH (charted_in x.chart) ≡ true
  pub formed : all well_formed (records_of x) ≡ true
  pub in_order_lem : ordered IH (records_of x) ≡ true

pub right_request : (x : Request) → is_right x ≡ true → RightRequest x
unfolding is_right is_chart records_of
right_request x e =
    let a = both (is_prefix x.prefix) (is_batch x.batch && is_chart x.chart) e in
    let b = both (is_batch x.batch) (is_chart x.chart) a.1 in
    let c = both (all well_formed (charted_in x.chart)) (ordered IH (charted_in x.chart)) b.1 in
    record {
      prefixed = a.0;
      batched = b.0;
      charted = c.1;
      formed = order_all (charted_in x.chart) c.1 well_formed ∙ c.0;
      in_order_lem = order_kept (charted_in x.chart) c.1;
    }

pub formed_plain : (r : Charted) → well_formed r ≡ true → all is_field_byte r.body ≡ true
unfolding well_formed
formed_plain r e =
    let a = both (not (eqb r.kind 0)) (eqb (length r.body) (body_width r.kind) && all is_field_byte r.body) e in
    (both (eqb (length r.body) (body_width r.kind)) (all is_field_byte r.body) a.1).1

pub run_plain : (lo hi : ℕ) (t : Text) → run lo hi is_letter_or_digit t ≡ true → all is_field_byte t ≡ true
unfolding run
run_plain lo hi t e = all_weaker is_letter_or_digit is_field_byte letter_byte t (both (within lo hi (length t)) (all is_letter_or_digit t) e).1

pub prefix_plain : (t : Text) → is_prefix t ≡ true → all is_field_byte t ≡ true
unfolding is_prefix
prefix_plain t e = run_plain 1 3 t e

pub batch_plain : (t : Text) → is_batch t ≡ true → all is_field_byte t ≡ true
unfolding is_batch
batch_plain t e = run_plain 1 10 t e

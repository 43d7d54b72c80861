-- In a written file the lots of one event under one IP stand in one block.
-- Assumes nothing.
use Prim.Native.Nat.{ℕ, ◌+◌}
use mathlib.Core.Path.{◌≡◌, refl, sym, ap, ◌∙◌, subst}
use mathlib.Core.Bool.{Bool, true, false, not, cond, ◌||◌}
use mathlib.Core.List.{List, [], ◌∷◌, ◌++◌, append_assoc}
use lib.Dec.{eqb}
use lib.ListN.{length}
use borrow.Author.Tests.{eqb-true}
use Rattle.house.specs.Text.{Text, all, front, after_front, joined}
use Rattle.house.proofs.Small.{both, clash}
use Rattle.lines.specs.Records.{Rec, IV, IH, IP, II, IE, IN, IA, IF}
use Rattle.lines.specs.Shape.{is_one, follows}
use Rattle.rules_definitions.specs.Contexts.{contexts_of, contexts_in}
use Rattle.chart_definitions.specs.Charts.{Charted, charted_in, is_of, ordered}
use Rattle.chart_definitions.specs.Lots.{pieces, together, same_lots, of_immunization, immunizations, lots_together, patient_order, in_writing_order}
use Rattle.chart_definitions.specs.Submissions.{version_fields, header_fields, footer_fields, other_lines, records_of, file_of}
use Rattle.chart_definitions.proofs.PieceLaws.{all_front}
use Rattle.chart_definitions.proofs.TogetherLaws.{together_all}
use Rattle.chart_definitions.proofs.LotLaws.{lots_sym, lots_trans, pieces_self}
use Rattle.chart_definitions.proofs.FollowLaws.{ordered_here, ordered_rest, ordered_front}
use Rattle.chart_definitions.proofs.OrderKeptLaws.{is_lot, lots_all}
use Rattle.chart_claims.specs.ClaimsRead.{reading, record_recs, submission_recs}
use Rattle.chart_claims.specs.ClaimsBlocks.{OneBlock}
use Rattle.chart_claims.proofs.RightLaws.{ChartKind, ip, ii, ie, not_immunized_count, ia, is_before, first_kind, kind_before, right_request}
use Rattle.chart_claims.proofs.ReadLaws.{read_back}
use Rattle.chart_claims.proofs.NeighbourLaws.{grouped_neighbours}
use Rattle.chart_claims.proofs.ArrangeLaws.{lots_arranged}
use Rattle.chart_claims.proofs.BlockLaws.{AllFine, fine_in, fine_other, Walk, patient_walk, others_walk}

-- BEHIND THE IMMUNIZATIONS

abbrev no_ip : Charted → Bool
no_ip r = not (is_of IP r)

abbrev no_ii : Charted → Bool
no_ii r = not (is_of II r)

-- IN or IA
abbrev is_late : ℕ → Bool
is_late p = eqb p IN || eqb p IA

late_before : (p : ℕ) → is_late p ≡ true → is_before p ≡ true
late_before p e = go (eqb p IN) (eqb p IA) refl refl e
  where
    go : (b c : Bool) → eqb p IN ≡ b → eqb p IA ≡ c → b || c ≡ true → is_before p ≡ true
    go true c i j h = let k : p ≡ IN = eqb-true p IN i in rw k
    go false true i j h = let k : p ≡ IA = eqb-true p IA j in rw k
    go false false i j h = clash (cc)

late_follows : (p : ℕ) → is_late p ≡ true → (follows p II ≡ false) × (follows p IE ≡ false)
unfolding follows is_one
late_follows p e = go (eqb p IN) (eqb p IA) refl refl e
  where
    go : (b c : Bool) → eqb p IN ≡ b → eqb p IA ≡ c → b || c ≡ true → (follows p II ≡ false) × (follows p IE ≡ false)
    go true c i j h = let k : p ≡ IN = eqb-true p IN i in (rw k, rw k)
    go false true i j h = let k : p ≡ IA = eqb-true p IA j in (rw k, rw k)
    go false false i j h = clash (cc)

-- no II comes again before the next IP
late_none : (p : ℕ) (rs : List Charted) → is_late p ≡ true → ordered p rs ≡ true → all no_ip rs ≡ true → all no_ii rs ≡ true
late_none p [] l o n = refl
late_none p (r ∷ rs) l o n =
    let b = both (no_ip r) (all no_ip rs) n in
    let f = late_follows p l in
    let h = ordered_here p r rs o in
    go (first_kind p r rs (late_before p l) o) b.0 f.0 f.1 h (λ (q : is_late r.kind ≡ true). late_none r.kind rs q (ordered_rest p r rs o) b.1)
  where
    go : ChartKind r.kind → no_ip r ≡ true → follows p II ≡ false → follows p IE ≡ false → follows p r.kind ≡ true
        → (is_late r.kind ≡ true → all no_ii rs ≡ true) → all no_ii (r ∷ rs) ≡ true
    go (ip k) i u v h rec = clash (cc (rw k at i))
    go (ii k) i u v h rec = clash (cc (rw k at h))
    go (ie k) i u v h rec = clash (cc (rw k at h))
    go (not_immunized_count k) i u v h rec = let a : no_ii r ≡ true = rw k in rw (a, rec (rw k))
    go (ia k) i u v h rec = let a : no_ii r ≡ true = rw k in rw (a, rec (rw k))

after_none : (p : ℕ) (rs : List Charted) → is_before p ≡ true → ordered p rs ≡ true → all no_ip rs ≡ true → all no_ii (after_front of_immunization rs) ≡ true
unfolding of_immunization
after_none p [] b o n = refl
after_none p (r ∷ rs) b o n =
    let c = both (no_ip r) (all no_ip rs) n in
    let k = first_kind p r rs b o in
    go (is_of II r) (is_of IE r) refl refl k c.0 c.1 (after_none r.kind rs (kind_before r.kind k) (ordered_rest p r rs o) c.1)
  where
    go : (u v : Bool) → is_of II r ≡ u → is_of IE r ≡ v → ChartKind r.kind → no_ip r ≡ true → all no_ip rs ≡ true → all no_ii (after_front of_immunization rs) ≡ true
        → all no_ii (cond (u || v) (after_front of_immunization rs) (r ∷ rs)) ≡ true
    go true v i j k c d rec = rec
    go false true i j k c d rec = rec
    go false false i j k c d rec = rw (i) (late_none r.kind rs (late k) (ordered_rest p r rs o) d)
      where
        late : ChartKind r.kind → is_late r.kind ≡ true
        late (ip e) = clash (cc (rw e at c))
        late (ii e) = clash (cc (rw e at i))
        late (ie e) = clash (cc (rw e at j))
        late (not_immunized_count e) = rw e
        late (ia e) = rw e

-- PATIENTS

module _ (tail : List Rec) (ends : Walk tail []) where
  lots_behind : (r : Charted) (own rest : List Charted) → r.kind ≡ IP → ordered IP own ≡ true → all no_ip own ≡ true → Walk tail rest → Walk tail ((r ∷ lots_together own) ++ rest)
  unfolding lots_together immunizations
  lots_behind r own rest k o n on =
      let lots = pieces (is_of II) (front of_immunization own) in
      let moved = together same_lots lots in
      let late = after_front of_immunization own in
      let self = pieces_self (is_of II) (front of_immunization own) in
      let whole = together_all same_lots lots_sym lots_trans lots self is_lot ∙ lots_all IP own o in
      let own-self = together_all same_lots lots_sym lots_trans lots self (λ (x : List Charted). same_lots x x) ∙ self in
      let near = grouped_neighbours same_lots lots_sym lots_trans moved (lots_arranged (front of_immunization own)).grouped own-self in
      subst (λ (rs : List Charted). Walk tail (r ∷ rs)) (sym (append_assoc (joined (λ (x : List Charted). x) moved) late rest))
      (patient_walk tail (late ++ rest) (others_walk tail late rest (after_none IP own refl o n) on) r moved k whole near)

  patients_walk : (p : ℕ) (rs : List Charted) → ordered p rs ≡ true → Walk tail (joined patient_order (pieces (is_of IP) rs))
  patients_walk p [] o = ends
  patients_walk p (r ∷ rs) o = go (eqb r.kind IP) refl (patients_walk r.kind rs (ordered_rest p r rs o))
    where
      own : List Charted
      own = front no_ip rs

      go : (b : Bool) → eqb r.kind IP ≡ b → Walk tail (joined patient_order (pieces (is_of IP) rs)) → Walk tail (joined patient_order (cond b ((r ∷ own) ∷ pieces (is_of IP) rs) (pieces (is_of IP) rs)))
      go true q on =
          let k : r.kind ≡ IP = eqb-true r.kind IP q in
          let h : ordered IP rs ≡ true = ap (λ (n : ℕ). ordered n rs) (sym k) ∙ ordered_rest p r rs o in
          lots_behind r own (joined patient_order (pieces (is_of IP) rs)) k (ordered_front IP rs h) (all_front no_ip rs) on
      go false q on = on

-- THE FILE

module _ (prefix batch : Text) (rs : List Charted) (o : ordered IH rs ≡ true) where
  abbrev footer : List Rec
  footer = reading IF (footer_fields (length (in_writing_order rs) + other_lines)) ∷ []

  footer_walk : Walk footer []
  footer_walk = λ i n before. (fine_other (record { number = i; before = before; line = reading IF (footer_fields (length (in_writing_order rs) + other_lines)); after = [] }) refl, tt)

  submission_fine : AllFine (contexts_of (submission_recs prefix batch (in_writing_order rs)))
  unfolding contexts_of submission_recs in_writing_order
  submission_fine =
      let iv = reading IV version_fields in
      let ih = reading IH (header_fields prefix batch) in
      let lines = record_recs 1 (in_writing_order rs) ++ footer in (
        fine_other (record { number = 1; before = []; line = iv; after = ih ∷ lines }) refl,
        (
          fine_other (record { number = 2; before = iv ∷ []; line = ih; after = lines }) refl,
          patients_walk footer footer_walk IH rs o 3 1 (ih ∷ iv ∷ []),
        ),
      )

pub one_block : OneBlock
unfolding contexts_in records_of
one_block x e h m =
    let r = right_request x e in
    let fine = submission_fine x.prefix x.batch (charted_in x.chart) r.charted in
    fine_in (contexts_in (file_of x)) (subst (λ (ls : List Rec). AllFine (contexts_of ls)) (sym (read_back x e)) fine) h m

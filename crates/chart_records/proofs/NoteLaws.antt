-- Where the given fields of a record end, and notes of immunizations without a comment.
-- Assumes nothing.
use mathlib.Core.Path.{◌≡◌, refl, sym, ap, ◌∙◌}
use mathlib.Core.Bool.{Bool, true, false, not, cond, ◌&&◌}
use mathlib.Core.List.{List, [], ◌∷◌}
use Prim.Native.Nat.{ℕ, zero, suc, ◌+◌, ◌-◌, ◌/◌, ◌≤◌, ◌<◌}
use native.Mathlib.Omega.{arith}
use borrow.Author.Tests.{eq-eqb, ne_eqb, eqb-true, lt-ltb, le-ltb, ltb-true, ltb-false}
use lib.Dec.{eqb, ltb}
use lib.ListN.{length, get_or, take, drop, set, length-take, length-drop, length-set, take-append-drop}
use lib.Seq.{take-take}
use Rattle.house.specs.Text.{Text, all, is_blank}
use Rattle.house.proofs.Small.{both, clash}
use Rattle.lines.specs.Records.{IH, IP, II, IE, IN, IA}
use Rattle.chart_definitions.specs.Charts.{Charted, record_kind, ip_widths, ii_widths, ie_widths, in_widths, ia_widths, sum, widths_of, body_width, charted_in, cut, is_field_byte, well_formed, is_chart}
use Rattle.chart_definitions.specs.Submissions.{RECORD, ROOM}
use Rattle.chart_records.specs.Reading.{charted_at, record_end, right_after, fits_in, measured, has_no_comment, is_note, note_of, notes_from, notes_of, noted_end}
use Rattle.chart_records.specs.Inside.{given_end, note_if}
use Rattle.chart_records.proofs.GivenLaws.{cut_blanks}
use Rattle.chart_records.proofs.ChartLaws.{charted_end, charted_here, at_kind, end_within, end_behind, wide}

-- THE RECORD AT A POSITION

-- one of right form is whole
pub whole : (s : Text) (at : ℕ) → at < length s → well_formed (charted_at s at) ≡ true → at + 1 + body_width (record_kind (get_or s at 0)) ≤ length s
unfolding well_formed charted_at
whole s at h w =
    let p = both (not (eqb (record_kind (get_or s at 0)) 0)) (eqb (length (take (body_width (record_kind (get_or s at 0))) (drop (at + 1) s))) (body_width (record_kind (get_or s at 0))) && all is_field_byte (take (body_width (record_kind (get_or s at 0))) (drop (at + 1) s))) w in
    let q = both (eqb (length (take (body_width (record_kind (get_or s at 0))) (drop (at + 1) s))) (body_width (record_kind (get_or s at 0)))) (all is_field_byte (take (body_width (record_kind (get_or s at 0))) (drop (at + 1) s))) p.1 in
    let e : length (take (body_width (record_kind (get_or s at 0))) (drop (at + 1) s)) ≡ body_width (record_kind (get_or s at 0)) = eqb-true _ _ q.0 in
    omega (arith, e, length-take (body_width (record_kind (get_or s at 0))) (drop (at + 1) s), length-drop (at + 1) s)

pub end_whole : (s : Text) (at : ℕ) → at < length s → well_formed (charted_at s at) ≡ true → record_end s at ≡ at + 1 + body_width (record_kind (get_or s at 0))
unfolding record_end
end_whole s at h w = rw (le-ltb (length s) (at + 1 + body_width (record_kind (get_or s at 0))) (whole s at h w))

-- an immunization without a comment
module _ (s : Text) (at : ℕ) (n : has_no_comment (charted_at s at) ≡ true) where
  is_immunization : record_kind (get_or s at 0) ≡ II
  unfolding has_no_comment charted_at
  is_immunization = eqb-true (record_kind (get_or s at 0)) II (both (eqb (record_kind (get_or s at 0)) II) (all is_blank (drop 99 (take (body_width (record_kind (get_or s at 0))) (drop (at + 1) s)))) n).0

  is_wide : body_width (record_kind (get_or s at 0)) ≡ 1699
  unfolding body_width widths_of
  is_wide = rw is_immunization

  comment_blank : all is_blank (drop 99 (take 1699 (drop (at + 1) s))) ≡ true
  unfolding has_no_comment charted_at
  comment_blank = ap (λ (w : ℕ). all is_blank (drop 99 (take w (drop (at + 1) s)))) (sym is_wide)
      ∙ (both (eqb (record_kind (get_or s at 0)) II) (all is_blank (drop 99 (take (body_width (record_kind (get_or s at 0))) (drop (at + 1) s)))) n).1

  comment_to : at < length s → well_formed (charted_at s at) ≡ true → at + 1 + 99 ≤ length s
  comment_to h w = omega (arith, whole s at h w, is_wide)

  -- is written as if it went to where its comment starts
  comment_cut : (ws : List ℕ) → cut ws (take (at + 1 + 99 - (at + 1)) (drop (at + 1) s)) ≡ cut ws (charted_at s at).body
  unfolding charted_at
  comment_cut ws =
      let e : at + 1 + 99 - (at + 1) ≡ 99 = omega arith in
      let t : take 99 (take 1699 (drop (at + 1) s)) ≡ take 99 (drop (at + 1) s) = take-take 99 1699 (drop (at + 1) s) (omega arith) in
      ap (λ (m : ℕ). cut ws (take m (drop (at + 1) s))) e
      ∙ ap (cut ws) (sym t)
      ∙ sym (cut_blanks ws (take 99 (take 1699 (drop (at + 1) s))) (drop 99 (take 1699 (drop (at + 1) s))) comment_blank)
      ∙ ap (cut ws) (take-append-drop 99 (take 1699 (drop (at + 1) s)))
      ∙ ap (λ (m : ℕ). cut ws (take m (drop (at + 1) s))) (sym is_wide)

-- a record is written as the fields up to its end
record_cut : (s : Text) (at : ℕ) (ws : List ℕ) → at < length s → cut ws (take (record_end s at - (at + 1)) (drop (at + 1) s)) ≡ cut ws (charted_at s at).body
unfolding record_end charted_at
record_cut s at ws h = ap (cut ws) (wide s (at + 1) (body_width (record_kind (get_or s at 0))) (record_end s at) (omega arith) refl).0

-- WHERE THE GIVEN FIELDS END

module _ (s : Text) (at : ℕ) (h : at < length s) where
  pub given_from : at + 1 ≤ given_end s at
  unfolding given_end
  given_from = go (has_no_comment (charted_at s at))
    where
      go : (v : Bool) → at + 1 ≤ cond v (at + 1 + 99) (record_end s at)
      go true = omega arith
      go false = omega (arith, end_behind s at (record_end s at) refl h)

  pub given_to : well_formed (charted_at s at) ≡ true → given_end s at ≤ length s
  unfolding given_end
  given_to w = go (has_no_comment (charted_at s at)) refl
    where
      go : (v : Bool) → has_no_comment (charted_at s at) ≡ v → cond v (at + 1 + 99) (record_end s at) ≤ length s
      go true e = comment_to s at e h w
      go false e = end_within s at (record_end s at) refl

pub given_cut : (s : Text) (at : ℕ) (ws : List ℕ) → at < length s → cut ws (take (given_end s at - (at + 1)) (drop (at + 1) s)) ≡ cut ws (charted_at s at).body
unfolding given_end
given_cut s at ws h = go (has_no_comment (charted_at s at)) refl
  where
    go : (v : Bool) → has_no_comment (charted_at s at) ≡ v → cut ws (take (cond v (at + 1 + 99) (record_end s at) - (at + 1)) (drop (at + 1) s)) ≡ cut ws (charted_at s at).body
    go true e = comment_cut s at e ws
    go false e = record_cut s at ws h

-- no kind of record ends where the comment of an immunization starts
no_such_width : (k : ℕ) → body_width k ≡ 99 → ⊥
unfolding body_width widths_of
no_such_width k = go (eqb k IP) (eqb k II) (eqb k IE) (eqb k IN) (eqb k IA)
  where
    go : (a b c d e : Bool) → sum (cond a ip_widths (cond b ii_widths (cond c ie_widths (cond d in_widths (cond e ia_widths []))))) ≡ 99 → ⊥
    go true b c d e q = omega (arith, q)
    go false true c d e q = omega (arith, q)
    go false false true d e q = omega (arith, q)
    go false false false true e q = omega (arith, q)
    go false false false false true q = omega (arith, q)
    go false false false false false q = omega (arith, q)

-- so where they end tells what is noted
pub note_given : (s : Text) (at : ℕ) (ns : List ℕ) → at < length s → well_formed (charted_at s at) ≡ true → note_if at (given_end s at) ns ≡ note_of at (charted_at s at) ns
unfolding note_if note_of given_end
note_given s at ns h w = go (has_no_comment (charted_at s at)) refl
  where
    go : (v : Bool) → has_no_comment (charted_at s at) ≡ v
        → cond (eqb (cond v (at + 1 + 99) (record_end s at)) (at + 1 + 99) && ltb at 4294967295) (set ns (at / 1727) (at + 1)) ns
        ≡ cond (v && ltb at 4294967295) (set ns (at / 1727) (at + 1)) ns
    go true e = rw (eq-eqb (at + 1 + 99) (at + 1 + 99) refl)
    go false e =
        let n : record_end s at ≡ at + 1 + 99 → ⊥ = λ q. no_such_width (record_kind (get_or s at 0)) (omega (arith, q, end_whole s at h w)) in
        rw (ne_eqb (record_end s at) (at + 1 + 99) n)

-- NOTES

-- one record's, and then those of the others
pub notes_cons : (at p : ℕ) (r : Charted) (rs : List Charted) (ns : List ℕ) → right_after p r ≡ true
    → notes_from at p (r ∷ rs) ns ≡ notes_from (at + 1 + body_width r.kind) r.kind rs (note_of at r ns)
unfolding notes_from
notes_cons at p r rs ns e = rw e

pub notes_wrong : (at p : ℕ) (r : Charted) (rs : List Charted) (ns : List ℕ) → right_after p r ≡ false → notes_from at p (r ∷ rs) ns ≡ ns
unfolding notes_from
notes_wrong at p r rs ns e = rw e

pub notes_none : (at p : ℕ) (ns : List ℕ) → notes_from at p [] ns ≡ ns
unfolding notes_from
notes_none at p ns = refl

-- there are as many as there were
pub note_long : (at : ℕ) (r : Charted) (ns : List ℕ) → length (note_of at r ns) ≡ length ns
unfolding note_of
note_long at r ns = go (has_no_comment r && ltb at 4294967295)
  where
    go : (v : Bool) → length (cond v (set ns (at / 1727) (at + 1)) ns) ≡ length ns
    go true = length-set ns (at / 1727) (at + 1)
    go false = refl

from_long : (at p : ℕ) (rs : List Charted) (ns : List ℕ) → length (notes_from at p rs ns) ≡ length ns
unfolding notes_from
from_long at p [] ns = refl
from_long at p (r ∷ rs) ns = go (right_after p r) (from_long (at + 1 + body_width r.kind) r.kind rs (note_of at r ns))
  where
    go : (v : Bool) → length (notes_from (at + 1 + body_width r.kind) r.kind rs (note_of at r ns)) ≡ length (note_of at r ns)
        → length (cond v (notes_from (at + 1 + body_width r.kind) r.kind rs (note_of at r ns)) ns) ≡ length ns
    go true q = q ∙ note_long at r ns
    go false q = refl

pub notes_long : (s : Text) (ns : List ℕ) → length (notes_of s ns) ≡ length ns
unfolding notes_of
notes_long s ns = from_long 0 IH (charted_in s) ns

-- they are true
set_all : (p : ℕ → Bool) (ns : List ℕ) (i x : ℕ) → p x ≡ true → all p ns ≡ true → all p (set ns i x) ≡ true
set_all p [] i x h a = refl
set_all p (y ∷ ns) zero x h a = rw (h, (both (p y) (all p ns) a).1)
set_all p (y ∷ ns) (suc i) x h a = let q = both (p y) (all p ns) a in rw (q.0, set_all p ns i x h q.1)

is_note_lem : (s : Text) (at : ℕ) → has_no_comment (charted_at s at) ≡ true → is_note s (at + 1) ≡ true
unfolding is_note
is_note_lem s at h =
    let n : at + 1 ≡ 0 → ⊥ = λ q. omega (arith, q) in
    let e : at + 1 - 1 ≡ at = omega arith in
    rw (ne_eqb (at + 1) 0 n, e) h

note_true : (s : Text) (at : ℕ) (ns : List ℕ) → all (is_note s) ns ≡ true → all (is_note s) (note_of at (charted_at s at) ns) ≡ true
unfolding note_of
note_true s at ns a = go (has_no_comment (charted_at s at)) (ltb at 4294967295) refl
  where
    go : (v u : Bool) → has_no_comment (charted_at s at) ≡ v → all (is_note s) (cond (v && u) (set ns (at / 1727) (at + 1)) ns) ≡ true
    go true true e = set_all (is_note s) ns (at / 1727) (at + 1) (is_note_lem s at e) a
    go true false e = a
    go false u e = a

-- the first of these records
abbrev first_of : Charted → List Charted → Charted
first_of d [] = d
first_of d (r ∷ rs) = r

abbrev others_of : List Charted → List Charted
others_of [] = []
others_of (r ∷ rs) = rs

none_first : (r : Charted) (rs : List Charted) → (r ∷ rs) ≡ [] → ⊥
none_first r rs e = clash (cc e)

from_true : (s : Text) (at p : ℕ) (rs : List Charted) (ns : List ℕ) → rs ≡ charted_in (drop at s) → all (is_note s) ns ≡ true → all (is_note s) (notes_from at p rs ns) ≡ true
unfolding notes_from
from_true s at p [] ns e a = a
from_true s at p (r ∷ rs) ns e a =
    by_place (ltb at (length s)) refl (λ qs qt. from_true s (at + 1 + body_width r.kind) r.kind rs (note_of at r ns) qs qt)
  where
    go : (v : Bool) → all (is_note s) (notes_from (at + 1 + body_width r.kind) r.kind rs (note_of at r ns)) ≡ true
        → all (is_note s) (cond v (notes_from (at + 1 + body_width r.kind) r.kind rs (note_of at r ns)) ns) ≡ true
    go true q = q
    go false q = a

    by_place : (v : Bool) → ltb at (length s) ≡ v
        → (rs ≡ charted_in (drop (at + 1 + body_width r.kind) s) → all (is_note s) (note_of at r ns) ≡ true
        → all (is_note s) (notes_from (at + 1 + body_width r.kind) r.kind rs (note_of at r ns)) ≡ true)
        → all (is_note s) (cond (right_after p r) (notes_from (at + 1 + body_width r.kind) r.kind rs (note_of at r ns)) ns) ≡ true
    by_place false f again = absurd (none_first r rs (e ∙ charted_end s at (ltb-false at (length s) f)))
    by_place true f again =
        let q : (r ∷ rs) ≡ (charted_at s at ∷ charted_in (drop (at + 1 + body_width (record_kind (get_or s at 0))) s)) = e ∙ charted_here s at (ltb-true at (length s) f) in
        let qr : r ≡ charted_at s at = ap (first_of r) q in
        let qs : rs ≡ charted_in (drop (at + 1 + body_width (record_kind (get_or s at 0))) s) = ap others_of q in
        let qk : r.kind ≡ record_kind (get_or s at 0) = ap (λ (x : Charted). x.kind) qr ∙ at_kind s at in
        let qt : rs ≡ charted_in (drop (at + 1 + body_width r.kind) s) = qs ∙ ap (λ (k : ℕ). charted_in (drop (at + 1 + body_width k) s)) (sym qk) in
        let t : all (is_note s) (note_of at r ns) ≡ true = ap (λ (x : Charted). all (is_note s) (note_of at x ns)) qr ∙ note_true s at ns a in
        go (right_after p r) (again qt t)

pub notes_true : (s : Text) (ns : List ℕ) → all (is_note s) ns ≡ true → all (is_note s) (notes_of s ns) ≡ true
unfolding notes_of
notes_true s ns a = from_true s 0 IH (charted_in s) ns refl a

-- WHERE THEY END AS NOTED

-- what is found among notes is one
all_at : (p : ℕ → Bool) (ns : List ℕ) (i : ℕ) → p 0 ≡ true → all p ns ≡ true → p (get_or ns i 0) ≡ true
all_at p [] i z a = z
all_at p (y ∷ ns) zero z a = (both (p y) (all p ns) a).0
all_at p (y ∷ ns) (suc i) z a = all_at p ns i z (both (p y) (all p ns) a).1

none_note : (s : Text) → is_note s 0 ≡ true
unfolding is_note
none_note s = refl

told : (s : Text) (at : ℕ) → is_note s (at + 1) ≡ true → has_no_comment (charted_at s at) ≡ true
unfolding is_note
told s at h =
    let n : at + 1 ≡ 0 → ⊥ = λ q. omega (arith, q) in
    let e : at + 1 - 1 ≡ at = omega arith in
    sym (rw (ne_eqb (at + 1) 0 n, e)) ∙ h

note_tells : (s : Text) (ns : List ℕ) (at : ℕ) → all (is_note s) ns ≡ true → eqb (get_or ns (at / 1727) 0) (at + 1) ≡ true → has_no_comment (charted_at s at) ≡ true
unfolding is_note
note_tells s ns at a e =
    let n : at + 1 ≡ 0 → ⊥ = λ q. omega (arith, q) in
    let m : at + 1 - 1 ≡ at = omega arith in
    let q : is_note s (at + 1) ≡ true = ap (is_note s) (sym (eqb-true (get_or ns (at / 1727) 0) (at + 1) e)) ∙ all_at (is_note s) ns (at / 1727) (none_note s) a in
    told s at q

pub noted_from : (s : Text) (ns : List ℕ) (at : ℕ) → at < length s → at + 1 ≤ noted_end s ns at
unfolding noted_end
noted_from s ns at h = rw (lt-ltb at (length s) h) (go (eqb (get_or ns (at / 1727) 0) (at + 1)))
  where
    go : (v : Bool) → at + 1 ≤ cond v (at + 1 + 99) (record_end s at)
    go true = omega arith
    go false = omega (arith, end_behind s at (record_end s at) refl h)

pub noted_to : (s : Text) (ns : List ℕ) (at : ℕ) → all (is_note s) ns ≡ true → at < length s → well_formed (charted_at s at) ≡ true → noted_end s ns at ≤ length s
unfolding noted_end
noted_to s ns at a h w = rw (lt-ltb at (length s) h) (go (eqb (get_or ns (at / 1727) 0) (at + 1)) refl)
  where
    go : (v : Bool) → eqb (get_or ns (at / 1727) 0) (at + 1) ≡ v → cond v (at + 1 + 99) (record_end s at) ≤ length s
    go true e = comment_to s at (note_tells s ns at a e) h w
    go false e = end_within s at (record_end s at) refl

pub noted_cut : (s : Text) (ns : List ℕ) (at : ℕ) → all (is_note s) ns ≡ true → at < length s → well_formed (charted_at s at) ≡ true
    → cut (widths_of (record_kind (get_or s at 0))) (take (noted_end s ns at - (at + 1)) (drop (at + 1) s)) ≡ cut (widths_of (record_kind (get_or s at 0))) (charted_at s at).body
unfolding noted_end
noted_cut s ns at a h w = rw (lt-ltb at (length s) h) (go (eqb (get_or ns (at / 1727) 0) (at + 1)) refl)
  where
    go : (v : Bool) → eqb (get_or ns (at / 1727) 0) (at + 1) ≡ v
        → cut (widths_of (record_kind (get_or s at 0))) (take (cond v (at + 1 + 99) (record_end s at) - (at + 1)) (drop (at + 1) s)) ≡ cut (widths_of (record_kind (get_or s at 0))) (charted_at s at).body
    go true e = comment_cut s at (note_tells s ns at a e) (widths_of (record_kind (get_or s at 0)))
    go false e = record_cut s at (widths_of (record_kind (get_or s at 0))) h

-- MEASURED 0

right_and_fits : (u v : Bool) → cond u (cond v 0 ROOM) RECORD ≡ 0 → (u ≡ true) × (v ≡ true)
right_and_fits true true e = (refl, refl)
right_and_fits true false e = clash (omega (arith, e))
right_and_fits false v e = clash (omega (arith, e))

pub measured_right : (s : Text) (room : ℕ) → measured s room ≡ 0 → is_chart s ≡ true
unfolding measured
measured_right s room e = (right_and_fits (is_chart s) (fits_in s room) e).0

pub measured_fits : (s : Text) (room : ℕ) → measured s room ≡ 0 → fits_in s room ≡ true
unfolding measured
measured_fits s room e = (right_and_fits (is_chart s) (fits_in s room) e).1

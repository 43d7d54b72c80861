-- The places of the II records from a position on: they rise, a record stands at each, and put in the order of their events they are ready to be
-- written.
-- Assumes nothing.
use mathlib.Core.Path.{◌≡◌, refl, sym, ap, subst, ◌∙◌}
use mathlib.Core.Bool.{Bool, true, false, cond, ◌&&◌, ◌||◌}
use mathlib.Core.List.{List, [], ◌∷◌}
use Prim.Native.Nat.{ℕ, zero, suc, ◌+◌, ◌≤◌, ◌<◌}
use native.Mathlib.Omega.{arith}
use borrow.Author.Tests.{eq-eqb, ne_eqb, eqb-true, eqb-false, lt-ltb, ltb-true, ltb-false}
use lib.Dec.{eqb, ltb}
use lib.ListN.{length, get_or, drop}
use Rattle.house.specs.Text.{Text, any, all, chained, adjacent}
use Rattle.house.proofs.Small.{both}
use Rattle.lines_words.specs.Words.{key_at, in_order}
use Rattle.lines_words.proofs.OrderedLaws.{any_ordered, all_ordered}
use Rattle.chart_definitions.specs.Charts.{Charted, record_kind, body_width, charted_in, well_formed}
use Rattle.chart_records.specs.Reading.{record_end}
use Rattle.chart_records.specs.Inside.{charted_at}
use Rattle.chart_records.proofs.ChartLaws.{charted_end, charted_on, end_behind}
use Rattle.chart.specs.Inside.{is_sound, lot_places, event_at, is_among, Ready}
use Rattle.chart.proofs.LineNeeds.{end_is}

-- ONE RECORD

-- the places, by the kind of the first record
place_here : (s : Text) (at : ℕ) (rs : List Charted)
    → lot_places at (charted_at s at ∷ rs)
    ≡ cond (eqb (record_kind (get_or s at 0)) 4) (at ∷ lot_places (at + 1 + body_width (record_kind (get_or s at 0))) rs)
    (cond (eqb (record_kind (get_or s at 0)) 5) (lot_places (at + 1 + body_width (record_kind (get_or s at 0))) rs) [])
unfolding lot_places charted_at
place_here s at rs = refl

module _ (s : Text) (at : ℕ) (h : at < length s) (wf : all well_formed (charted_in (drop at s)) ≡ true) where
  formed : (well_formed (charted_at s at) ≡ true) × (all well_formed (charted_in (drop (record_end s at) s)) ≡ true)
  formed =
      both (well_formed (charted_at s at)) (all well_formed (charted_in (drop (record_end s at) s)))
      (sym (ap (all well_formed) (charted_on s at h)) ∙ wf)

  pub wf_here : well_formed (charted_at s at) ≡ true
  wf_here = formed.0

  pub wf_next : all well_formed (charted_in (drop (record_end s at) s)) ≡ true
  wf_next = formed.1

  pub place_step : lot_places at (charted_in (drop at s))
      ≡ cond (eqb (record_kind (get_or s at 0)) 4) (at ∷ lot_places (record_end s at) (charted_in (drop (record_end s at) s)))
      (cond (eqb (record_kind (get_or s at 0)) 5) (lot_places (record_end s at) (charted_in (drop (record_end s at) s))) [])
  place_step =
      ap (lot_places at) (charted_on s at h) ∙ place_here s at (charted_in (drop (record_end s at) s))
      ∙ ap (λ (n : ℕ). cond (eqb (record_kind (get_or s at 0)) 4) (at ∷ lot_places n (charted_in (drop (record_end s at) s)))
      (cond (eqb (record_kind (get_or s at 0)) 5) (lot_places n (charted_in (drop (record_end s at) s))) [])) (sym (end_is s at wf_here))

  pub places_ii : record_kind (get_or s at 0) ≡ 4
      → lot_places at (charted_in (drop at s)) ≡ at ∷ lot_places (record_end s at) (charted_in (drop (record_end s at) s))
  places_ii k = place_step ∙ rw (eq-eqb _ _ k)

  pub places_ie : record_kind (get_or s at 0) ≡ 5
      → lot_places at (charted_in (drop at s)) ≡ lot_places (record_end s at) (charted_in (drop (record_end s at) s))
  places_ie k = place_step ∙ rw k

  pub places_other : (record_kind (get_or s at 0) ≡ 4 → ⊥) → (record_kind (get_or s at 0) ≡ 5 → ⊥) → lot_places at (charted_in (drop at s)) ≡ []
  places_other a b = place_step ∙ rw (ne_eqb _ _ a, ne_eqb _ _ b)

pub places_end : (s : Text) (at : ℕ) → length s ≤ at → lot_places at (charted_in (drop at s)) ≡ []
unfolding lot_places
places_end s at h = ap (lot_places at) (charted_end s at h)

-- ALL OF THEM

-- what holds at the end, and at a record if it holds where that ends, holds at each record
module _ (s : Text) (Q : ℕ → Type 0) (last : (at : ℕ) → length s ≤ at → Q at)
    (on : (at : ℕ) → at < length s → all well_formed (charted_in (drop at s)) ≡ true → Q (record_end s at) → Q at) where
  up_to : (n at : ℕ) → length s ≤ at + n → all well_formed (charted_in (drop at s)) ≡ true → Q at
  up_to zero at b wf = last at (omega (arith, b))
  up_to (suc n) at b wf = go (ltb at (length s)) refl (λ h. up_to n (record_end s at) (less h) (wf_next s at h wf))
    where
      less : at < length s → length s ≤ record_end s at + n
      less h = omega (arith, b, end_behind s at (record_end s at) refl h)

      go : (t : Bool) → ltb at (length s) ≡ t → (at < length s → Q (record_end s at)) → Q at
      go true e r = let h : at < length s = ltb-true at (length s) e in on at h wf (r h)
      go false e r = last at (ltb-false at (length s) e)

  pub chart_by : (at : ℕ) → all well_formed (charted_in (drop at s)) ≡ true → Q at
  chart_by at wf = up_to (length s) at (omega arith) wf

-- what holds of none, of an II and those behind it, and of those behind an IE, where it holds of those behind
pub record Kept (s : Text) (P : ℕ → List ℕ → Type 0) : Type 0 where
  pub none : (at : ℕ) → P at []
  pub ii : (at : ℕ) (xs : List ℕ) → at < length s → all well_formed (charted_in (drop at s)) ≡ true → record_kind (get_or s at 0) ≡ 4
      → P (record_end s at) xs → P at (at ∷ xs)
  pub ie : (at : ℕ) (xs : List ℕ) → at < length s → P (record_end s at) xs → P at xs

-- holds of the places
pub places_by : (s : Text) (P : ℕ → List ℕ → Type 0) → Kept s P → (at : ℕ) → all well_formed (charted_in (drop at s)) ≡ true
    → P at (lot_places at (charted_in (drop at s)))
places_by s P k at wf =
    chart_by s (λ n. P n (lot_places n (charted_in (drop n s)))) (λ n h. subst (P n) (sym (places_end s n h)) (k.none n))
    (λ n h w r. kinds n h w (eqb (record_kind (get_or s n 0)) 4) (eqb (record_kind (get_or s n 0)) 5) refl refl r) at wf
  where
    kinds : (n : ℕ) (h : n < length s) → all well_formed (charted_in (drop n s)) ≡ true → (u v : Bool) → eqb (record_kind (get_or s n 0)) 4 ≡ u
        → eqb (record_kind (get_or s n 0)) 5 ≡ v → P (record_end s n) (lot_places (record_end s n) (charted_in (drop (record_end s n) s)))
        → P n (lot_places n (charted_in (drop n s)))
    kinds n h w true v p q r =
        subst (P n) (sym (places_ii s n h w (eqb-true _ _ p)))
        (k.ii n (lot_places (record_end s n) (charted_in (drop (record_end s n) s))) h w (eqb-true _ _ p) r)
    kinds n h w false true p q r =
        subst (P n) (sym (places_ie s n h w (eqb-true _ _ q))) (k.ie n (lot_places (record_end s n) (charted_in (drop (record_end s n) s))) h r)
    kinds n h w false false p q r = subst (P n) (sym (places_other s n h w (eqb-false _ _ p) (eqb-false _ _ q))) (k.none n)

module _ (s : Text) (at : ℕ) (wf : all well_formed (charted_in (drop at s)) ≡ true) where
  pub places_ascend : adjacent ltb (lot_places at (charted_in (drop at s))) ≡ true
  places_ascend = (places_by s (λ n xs. (adjacent ltb xs ≡ true) × ((m : ℕ) → m < n → chained ltb m xs ≡ true)) kept at wf).0
    where
      kept : Kept s (λ n xs. (adjacent ltb xs ≡ true) × ((m : ℕ) → m < n → chained ltb m xs ≡ true))
      kept =
          record {
            none = λ n. (refl, λ m h. refl);
            ii = λ n xs h w k r. (r.1 n (end_behind s n (record_end s n) refl h), λ m l. rw (lt-ltb m n l, r.1 n (end_behind s n (record_end s n) refl h)));
            ie = λ n xs h r. (r.0, λ m l. r.1 m (omega (arith, l, end_behind s n (record_end s n) refl h)));
          }

  pub places_sound : all (is_sound s) (lot_places at (charted_in (drop at s))) ≡ true
  unfolding is_sound
  places_sound =
      places_by s (λ n xs. all (is_sound s) xs ≡ true)
      (record { none = λ n. refl; ii = λ n xs h w k r. rw (lt-ltb n (length s) h, w, r); ie = λ n xs h r. r }) at wf

  pub places_kind : all (λ (p : ℕ). eqb (record_kind (get_or s p 0)) 4) (lot_places at (charted_in (drop at s))) ≡ true
  places_kind =
      places_by s (λ n xs. all (λ (p : ℕ). eqb (record_kind (get_or s p 0)) 4) xs ≡ true)
      (record { none = λ n. refl; ii = λ n xs h w k r. rw (k, r); ie = λ n xs h r. r }) at wf

-- AMONG THEM

all_same : (t u : ℕ → Bool) (l : List ℕ) → ((x : ℕ) → t x ≡ u x) → all t l ≡ all u l
all_same t u [] f = refl
all_same t u (x ∷ l) f = rw (f x) (ap (λ (b : Bool). u x && b) (all_same t u l f))

more_among : (x : ℕ) (es xs : List ℕ) → all (λ (p : ℕ). any (eqb p) es) xs ≡ true → all (λ (p : ℕ). any (eqb p) (x ∷ es)) xs ≡ true
more_among x es [] h = refl
more_among x es (y ∷ xs) h =
    let b = both (any (eqb y) es) (all (λ (p : ℕ). any (eqb p) es) xs) h in
    rw (b.0, more_among x es xs b.1) (go (eqb y x))
  where
    go : (t : Bool) → (t || true) && true ≡ true
    go true = refl
    go false = refl

own_among : (xs : List ℕ) → all (λ (p : ℕ). any (eqb p) xs) xs ≡ true
own_among [] = refl
own_among (x ∷ xs) = rw (eq-eqb x x refl, more_among x xs xs (own_among xs))

ordered_among : (key : ℕ → Text) (xs : List ℕ) → all (λ (p : ℕ). any (eqb p) (in_order key xs)) xs ≡ true
ordered_among key xs =
    all_same (λ (p : ℕ). any (eqb p) (in_order key xs)) (λ (p : ℕ). any (eqb p) xs) xs (λ p. any_ordered key (eqb p) xs) ∙ own_among xs

-- put in the order of their events
pub places_sorted : (s : Text) (at : ℕ) (es : List ℕ) → all well_formed (charted_in (drop at s)) ≡ true → length s < 4294967296
    → es ≡ in_order (key_at 2 s) (lot_places at (charted_in (drop at s))) → Ready s at es
unfolding event_at is_among
places_sorted s at es wf l e =
    record {
      lots =
          record {
            from = lot_places at (charted_in (drop at s));
            ascend = places_ascend s at wf;
            sorted = e;
            sound =
                ap (all (is_sound s)) e ∙ all_ordered (key_at 2 s) (is_sound s) (lot_places at (charted_in (drop at s))) ∙ places_sound s at wf;
          };
      formed = wf;
      among =
          ap (λ (l : List ℕ). all (λ (p : ℕ). any (eqb p) l) (lot_places at (charted_in (drop at s)))) e
          ∙ ordered_among (key_at 2 s) (lot_places at (charted_in (drop at s)));
      short = l;
    }

module _ (es : List ℕ) (p : ℕ) (xs : List ℕ) (h : all (is_among es) (p ∷ xs) ≡ true) where
  pub among_here : is_among es p ≡ true
  among_here = (both (is_among es p) (all (is_among es) xs) h).0

  pub among_rest : all (is_among es) xs ≡ true
  among_rest = (both (is_among es p) (all (is_among es) xs) h).1

-- What each need of `field_length`, `fields_length`, `digits`, `given_length`, `record_length` and `fits` asks.
-- Assumes nothing.
use mathlib.Core.Path.{◌≡◌, refl, sym, ap, ◌∙◌}
use mathlib.Core.Bool.{Bool, true, false}
use mathlib.Core.List.{List, [], ◌∷◌, ◌++◌}
use Prim.Native.Nat.{ℕ, zero, suc, ◌+◌, ◌-◌, ◌≤◌, ◌<◌}
use native.Mathlib.Omega.{arith}
use borrow.Author.Rules.{rules}
use borrow.Author.Tests.{lt-leb, le-leb, leb-true, leb-false}
use lib.Dec.{leb}
use lib.ListN.{length, get_or, take, drop, length-append, length-take, length-drop}
use Rattle.house.specs.Text.{Text, joined}
use Rattle.house.specs.Numbers.{lesser_of}
use Rattle.house.proofs.Suffix.{drop_past}
use Rattle.blanks.specs.Blanks.{without_last_blanks, trimmed}
use Rattle.blanks.proofs.TrimLaws.{last_short, trimmed_short}
use Rattle.writing.specs.Writing.{decimal}
use Rattle.chart_definitions.specs.Charts.{Charted, record_kind, widths_of, body_width, charted_in, cut}
use Rattle.chart_definitions.specs.Submissions.{piped, type_text, line_text, record_text, records_text, footer_fields}
use Rattle.chart_records.specs.Reading.{charted_at, record_end, fits_in}
use Rattle.chart_records.specs.Inside.{cut_length, given_length, rest_length, rest_fits}
use Rattle.chart_records.proofs.GivenLaws.{cut_given}
use Rattle.chart_records.proofs.ChartLaws.{charted_end, charted_on, at_kind, end_within, end_behind, end_falls, wide}
use Rattle.chart_records.proofs.LengthLaws.{cut_length_end, cut_length_here, record_length, footer_length, number_few}

-- field_length
module _ (t f : Text) (at end : ℕ) (e : f ≡ trimmed (take (end - at) (drop at t))) where
  pub field_is : length f ≡ length (trimmed (take (end - at) (drop at t)))
  field_is = ap length e

  pub field_short : length f ≤ end - at
  field_short = omega (arith, field_is, trimmed_short (take (end - at) (drop at t)), length-take (end - at) (drop at t))

pub ruleset for_field_length = (rules, field_is, field_short)

-- fields_length: x in all, of which long bytes are of the fields before number i
empty_take : (n : ℕ) → take {A = ℕ} n [] ≡ []
empty_take zero = refl
empty_take (suc n) = refl

empty_drop : (n : ℕ) → drop {A = ℕ} n [] ≡ []
empty_drop zero = refl
empty_drop (suc n) = refl

-- of nothing the pipes alone
pipes_alone : (ws : List ℕ) → cut_length ws [] ≡ length ws
unfolding cut_length trimmed without_last_blanks
pipes_alone [] = refl
pipes_alone (w ∷ ws) = rw (empty_take w, empty_drop w) (ap suc (pipes_alone ws))

-- of what is given as much as of all
given_same : (ws : List ℕ) (t given : Text) → given ≡ without_last_blanks t → cut_length ws t ≡ cut_length ws given
unfolding cut_length
given_same ws t given e =
    sym (ap (λ (u : Text). length (joined piped (cut ws u))) e ∙ ap (λ (ts : List Text). length (joined piped ts)) (cut_given ws t))

-- ws are those of kind k; long counts the pipes of all fields, and the bytes of those before number i
module _ (k : ℕ) (ws : List ℕ) (ew : ws ≡ widths_of k) where
  pub fields_start : (t given : Text) → given ≡ without_last_blanks t → cut_length (widths_of k) t + length ws ≡ length ws + cut_length (drop 0 ws) (drop 0 given)
  fields_start t given e = omega (arith, given_same (widths_of k) t given e, ap (λ (vs : List ℕ). cut_length vs given) ew)

module _ (t given : Text) (e : given ≡ without_last_blanks t) (at long c : ℕ) (h : at ≤ length given) (l : long ≤ at + c) (f : c ≤ 25) where
  pub few_end : long ≤ length t + 25
  few_end = omega (arith, ap length e, last_short t, h, l, f)

module _ (ws : List ℕ) (t : Text) (i at long x : ℕ) (inv : x + (length ws - i) ≡ long + cut_length (drop i ws) (drop at t)) where
  pub fields_on : (end f : ℕ) → at ≤ length t → i < length ws → end ≡ lesser_of (at + get_or ws i 0) (length t)
      → f ≡ length (trimmed (take (end - at) (drop at t))) → x + (length ws - (i + 1)) ≡ long + f + cut_length (drop (i + 1) ws) (drop end t)
  fields_on end f h l ee ef =
      let p = wide t at (get_or ws i 0) end h ee in
      let q : f ≡ length (trimmed (take (get_or ws i 0) (drop at t))) = ef ∙ ap (λ (u : Text). length (trimmed u)) p.0 in
      rw p.1 (omega (arith, inv, q, cut_length_here ws i t at l))

  pub fields_rest : i < length ws → length t ≤ at → long ≡ x
  fields_rest k h =
      let e : cut_length (drop i ws) (drop at t) ≡ length (drop i ws) = rw (drop_past t at h) (pipes_alone (drop i ws)) in
      omega (arith, inv, e, length-drop i ws)

  pub fields_end : length ws ≤ i → long ≡ x
  fields_end l = omega (arith, inv, cut_length_end ws i (drop at t) l)

pub ruleset for_fields_length = (rules, fields_start, few_end, fields_on, fields_rest, fields_end)

-- digits
pub digits_few : (n r : ℕ) → n < 18446744073709551616 → r ≡ length (decimal n) → r ≤ 20
digits_few n r h e = omega (arith, e, number_few n h)

pub ruleset for_digits = (rules, digits_few)

-- given_length
module _ (s : Text) (at k end : ℕ) (h : at < length s) (ee : end ≡ record_end s at) where
  pub body_from : at + 1 ≤ end
  body_from = omega (arith, end_behind s at end ee h)

  pub body_to : end ≤ length s
  body_to = end_within s at end ee

  pub body_few : (r : ℕ) → r ≤ length (take (end - (at + 1)) (drop (at + 1) s)) + 25 → r ≤ length s + 25
  body_few r l = omega (arith, body_to, length-take (end - (at + 1)) (drop (at + 1) s))

  module _ (ek : k ≡ record_kind (get_or s at 0)) where
    body_is : take (end - (at + 1)) (drop (at + 1) s) ≡ take (body_width k) (drop (at + 1) s)
    unfolding record_end
    body_is = (wide s (at + 1) (body_width k) end (omega arith) (ee ∙ rw ek)).0

    pub given_is : (r : ℕ) → r ≡ cut_length (widths_of k) (take (end - (at + 1)) (drop (at + 1) s)) → r ≡ given_length (charted_at s at)
    unfolding given_length charted_at
    given_is r e = e ∙ rw (← ek, body_is)

pub ruleset for_given_length = (rules, body_from, body_to, body_few, given_is)

-- record_length
pub record_is : (s : Text) (at n k t m f : ℕ) → k ≡ record_kind (get_or s at 0) → t ≡ length (type_text k) → m ≡ length (decimal n) → f ≡ given_length (charted_at s at)
    → t + m + f + 3 ≡ length (record_text n (charted_at s at))
unfolding given_length
record_is s at n k t m f ek et em ef =
    let q : (charted_at s at).kind ≡ k = at_kind s at ∙ sym ek in
    sym (record_length n (charted_at s at) ∙ rw (← ef, q, ← et, ← em))

pub ruleset for_record_length = (rules, record_is)

-- fits
joined_length : (a b c : Text) → length ((a ++ b) ++ c) ≡ length a + length (b ++ c)
joined_length a b c = simp length-append (omega arith)

pub rest_cons : (n : ℕ) (r : Charted) (rs : List Charted) → rest_length n (r ∷ rs) ≡ length (record_text n r) + rest_length (n + 1) rs
unfolding rest_length records_text
rest_cons n r rs =
    let a : suc (length rs) + (n + 2) ≡ length rs + (n + 1 + 2) = omega arith in
    let b : suc n ≡ n + 1 = omega arith in
    ap (λ (m : ℕ). length ((record_text n r ++ records_text (suc n) rs) ++ line_text (footer_fields m))) a
    ∙ ap (λ (m : ℕ). length ((record_text n r ++ records_text m rs) ++ line_text (footer_fields (length rs + (n + 1 + 2))))) b
    ∙ joined_length (record_text n r) (records_text (n + 1) rs) (line_text (footer_fields (length rs + (n + 1 + 2))))

pub rest_none : (n : ℕ) → rest_length n [] ≡ length (decimal (n + 2)) + 7
unfolding rest_length records_text
rest_none n = let a : 0 + (n + 2) ≡ n + 2 = omega arith in ap (λ (m : ℕ). length (line_text (footer_fields m))) a ∙ footer_length (n + 2)

-- what is left, where a part of it is taken
less_left : (a b left : ℕ) → a ≤ left → leb (a + b) left ≡ leb b (left - a)
less_left a b left h = go (leb b (left - a)) refl
  where
    go : (v : Bool) → leb b (left - a) ≡ v → leb (a + b) left ≡ v
    go true e = le-leb (a + b) left (omega (arith, leb-true b (left - a) e))
    go false e = lt-leb (a + b) left (omega (arith, leb-false b (left - a) e))

module _ (n left : ℕ) (r : Charted) (rs : List Charted) where
  pub rest_short : left < length (record_text n r) → rest_fits n left (r ∷ rs) ≡ false
  unfolding rest_fits
  rest_short h = rw (rest_cons n r rs) (lt-leb (length (record_text n r) + rest_length (n + 1) rs) left (omega arith))

  pub rest_on : length (record_text n r) ≤ left → rest_fits n left (r ∷ rs) ≡ rest_fits (n + 1) (left - length (record_text n r)) rs
  unfolding rest_fits
  rest_on h = rw (rest_cons n r rs) (less_left (length (record_text n r)) (rest_length (n + 1) rs) left h)

pub fits_start : (s : Text) (room : ℕ) → fits_in s room ≡ rest_fits 1 room (charted_in (drop 0 s))
unfolding fits_in rest_fits rest_length
fits_start s room = refl

module _ (s : Text) (at n left : ℕ) (x : Bool) (inv : x ≡ rest_fits n left (charted_in (drop at s))) where
  module _ (h : at < length s) (long : ℕ) (el : long ≡ length (record_text n (charted_at s at))) where
    here : x ≡ rest_fits n left (charted_at s at ∷ charted_in (drop (record_end s at) s))
    here = inv ∙ ap (rest_fits n left) (charted_on s at h)

    pub fits_short : left < long → false ≡ x
    fits_short k = sym (here ∙ rest_short n left (charted_at s at) (charted_in (drop (record_end s at) s)) (omega (arith, el)))

    pub fits_on : (end : ℕ) → long ≤ left → end ≡ record_end s at → x ≡ rest_fits (n + 1) (left - long) (charted_in (drop end s))
    fits_on end k e = here ∙ rest_on n left (charted_at s at) (charted_in (drop (record_end s at) s)) (omega (arith, el)) ∙ rw (← el, ← e)

  pub fits_end : (m : ℕ) → length s ≤ at → m ≡ length (decimal (n + 2)) → leb (m + 7) left ≡ x
  unfolding rest_fits
  fits_end m h e = sym (inv ∙ ap (rest_fits n left) (charted_end s at h) ∙ rw (rest_none n, ← e))

-- a record has a byte at least
pub number_on : (s : Text) (at n end : ℕ) → n ≤ at + 1 → at < length s → end ≡ record_end s at → n + 1 ≤ end + 1
number_on s at n end h k e = omega (arith, end_behind s at end e k)

pub ruleset for_fits = (rules, fits_start, fits_short, fits_on, fits_end, number_on, end_within, end_falls)

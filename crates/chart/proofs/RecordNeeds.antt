-- What each need of the functions that write the line of a record asks.
-- Assumes nothing.
use mathlib.Core.Path.{◌≡◌, refl, sym, ap, ◌∙◌}
use mathlib.Core.Bool.{Bool, true, false, cond}
use mathlib.Core.List.{List, [], ◌∷◌, ◌++◌}
use Prim.Native.Nat.{ℕ, ◌+◌, ◌-◌, ◌≤◌, ◌<◌}
use native.Mathlib.Omega.{arith}
use borrow.Author.Rules.{rules}
use borrow.Author.Tests.{ne_eqb}
use lib.Dec.{eqb}
use lib.ListN.{length, get_or, take, drop, length-append}
use Rattle.house.specs.Text.{Text, joined}
use Rattle.house.proofs.Suffix.{drop_here}
use Rattle.blanks.specs.Blanks.{trimmed}
use Rattle.writing.specs.Writing.{over_from, decimal}
use Rattle.writing.proofs.OverLaws.{over_from_none, over_from_join, length_over_from}
use Rattle.lines.specs.Records.{IP, II, IE, IN, IA}
use Rattle.chart_definitions.specs.Charts.{ip_widths, ii_widths, ie_widths, in_widths, ia_widths, widths_of, body_width, sum, cut}
use Rattle.chart_definitions.specs.Submissions.{piped, type_text}
use Rattle.chart_records.proofs.ChartLaws.{cut_end, cut_here}
use Rattle.chart.specs.Inside.{fields_text, start_text}

-- type_letter
pub letter_ii : (k : ℕ) → k ≡ II → type_text k ≡ 73 ∷ 73 ∷ []
unfolding type_text
letter_ii k e = rw e

pub letter_ie : (k : ℕ) → k ≡ IE → type_text k ≡ 73 ∷ 69 ∷ []
unfolding type_text
letter_ie k e = rw e

pub letter_in : (k : ℕ) → k ≡ IN → type_text k ≡ 73 ∷ 78 ∷ []
unfolding type_text
letter_in k e = rw e

pub letter_ia : (k : ℕ) → k ≡ IA → type_text k ≡ 73 ∷ 65 ∷ []
unfolding type_text
letter_ia k e = rw e

-- of the other kinds IP alone has a type
pub letter_ip : (k : ℕ) → length (type_text k) ≡ 2 → (k ≡ II → ⊥) → (k ≡ IE → ⊥) → (k ≡ IN → ⊥) → (k ≡ IA → ⊥) → type_text k ≡ 73 ∷ 80 ∷ []
unfolding type_text
letter_ip k h a b c d = go (eqb k IP) refl
  where
    go : (t : Bool) → eqb k IP ≡ t → type_text k ≡ 73 ∷ 80 ∷ []
    go true e = rw e
    go false e =
        let z : type_text k ≡ [] = rw (e, ne_eqb k II a, ne_eqb k IE b, ne_eqb k IN c, ne_eqb k IA d) in
        absurd (omega (arith, h, ap length z))

pub ruleset for_type_letter = (rules, letter_ii, letter_ie, letter_in, letter_ia, letter_ip)

-- one piece written behind another
module _ (a b c xs ys : List ℕ) (at n : ℕ) (p : b ≡ over_from at xs a) (e : n ≡ at + length xs) where
  pub behind : c ≡ over_from n ys b → c ≡ over_from at (xs ++ ys) a
  behind q = q ∙ ap (λ (m : ℕ). over_from m ys b) e ∙ ap (over_from (at + length xs) ys) p ∙ sym (over_from_join at xs ys a)

  pub still : length b ≡ length a
  still = ap length p ∙ length_over_from at xs a

-- put_type
module _ (a b c d : List ℕ) (at m n l k : ℕ) (p : b ≡ over_from at (73 ∷ []) a) (e : m ≡ at + 1) (q : c ≡ over_from m (l ∷ []) b) (f : n ≡ m + 1) where
  pub type_put : type_text k ≡ 73 ∷ l ∷ [] → d ≡ over_from n (124 ∷ []) c → d ≡ over_from at (piped (type_text k)) a
  type_put t r =
      behind a c d (73 ∷ l ∷ []) (124 ∷ []) at n (behind a b c (73 ∷ []) (l ∷ []) at m p e q) (omega (arith, e, f)) r
      ∙ ap (λ (u : Text). over_from at (piped u) a) (sym t)

  pub type_room : at + 2 < length a → n < length c
  type_room h = omega (arith, h, e, f, still b c [] (l ∷ []) [] m n q (omega (arith, f)), still a b [] (73 ∷ []) [] at m p e)

pub type_room_second : (a b : List ℕ) (at m : ℕ) → b ≡ over_from at (73 ∷ []) a → m ≡ at + 1 → at + 2 < length a → m < length b
type_room_second a b at m p e h = omega (arith, h, e, still a b [] (73 ∷ []) [] at m p e)

pub ruleset for_put_type = (rules, type_put, type_room, type_room_second)

-- put_start
module _ (k n : ℕ) (t : length (type_text k) ≡ 2) where
  start_long : length (start_text k n) ≡ 4 + length (decimal n)
  unfolding start_text
  start_long = omega (arith, t, length-append (piped (type_text k)) (piped (decimal n)), length-append (type_text k) (124 ∷ []), length-append (decimal n) (124 ∷ []))

  pub start_room : (at room : ℕ) → at + length (start_text k n) ≤ room → at + 2 < room
  start_room at room h = omega (arith, h, start_long)

  module _ (a b : List ℕ) (at m : ℕ) (p : b ≡ over_from at (piped (type_text k)) a) (e : m ≡ at + 3) where
    typed : m ≡ at + length (piped (type_text k))
    typed = omega (arith, e, t, length-append (type_text k) (124 ∷ []))

    pub start_room_on : at + length (start_text k n) ≤ length a → m + length (decimal n) < length b
    start_room_on h = omega (arith, h, start_long, e, still a b [] (piped (type_text k)) [] at m p typed)

    pub start_put : (c : List ℕ) → c ≡ over_from m (piped (decimal n)) b → c ≡ over_from at (start_text k n) a
    unfolding start_text
    start_put c q = behind a b c (piped (type_text k)) (piped (decimal n)) at m p typed q

  pub start_next : (at m r : ℕ) → m ≡ at + 3 → r ≡ m + length (decimal n) + 1 → r ≡ at + length (start_text k n)
  start_next at m r e f = omega (arith, e, f, start_long)

pub ruleset for_put_start = (rules, start_room, start_room_on, start_put, start_next)

-- put_fields: what is left of the fields
unfoldable pub fields_left : ℕ → ℕ → ℕ → Text → Text
fields_left k i from body = joined piped (cut (drop i (widths_of k)) (drop from body))

pub record Fields (k at : ℕ) (body before : Text) (i from pos : ℕ) (area : Text) : Type 0 where
  pub wide : from + sum (drop i (widths_of k)) ≡ length body
  pub long : length area ≡ length before
  pub upto : at + length (fields_text k body) ≡ pos + length (fields_left k i from body)
  pub area_on : over_from at (fields_text k body) before ≡ over_from pos (fields_left k i from body) area

pub fields_start : (k at : ℕ) (body area : Text) → length body ≡ body_width k → Fields k at body area 0 0 at area
unfolding fields_text fields_left body_width
fields_start k at body area h = record { wide = omega (arith, h); long = refl; upto = refl; area_on = refl }

fields_here : (k i from : ℕ) (body : Text) → i < length (widths_of k)
    → fields_left k i from body ≡ piped (trimmed (take (get_or (widths_of k) i 0) (drop from body))) ++ fields_left k (i + 1) (from + get_or (widths_of k) i 0) body
unfolding fields_left
fields_here k i from body h = rw (cut_here (widths_of k) i body from h)

sum_here : (ws : List ℕ) (i : ℕ) → i < length ws → sum (drop i ws) ≡ get_or ws i 0 + sum (drop (i + 1) ws)
sum_here ws i h = rw (drop_here ws i h)

pub body_most : (k : ℕ) → body_width k ≤ 1699
unfolding body_width widths_of
body_most k = go (eqb k IP) (eqb k II) (eqb k IE) (eqb k IN) (eqb k IA)
  where
    go : (p i e n a : Bool) → sum (cond p ip_widths (cond i ii_widths (cond e ie_widths (cond n in_widths (cond a ia_widths []))))) ≤ 1699
    go true i e n a = omega arith
    go false true e n a = omega arith
    go false false true n a = omega arith
    go false false false true a = omega arith
    go false false false false true = omega arith
    go false false false false false = omega arith

module _ (k at : ℕ) (body before : Text) (i from pos : ℕ) (area : Text) (f : Fields k at body before i from pos area) (ws : List ℕ) (c : ws ≡ widths_of k) where
  module _ (h : i < length ws) (w : ℕ) (q₀ : w ≡ get_or ws i 0) where
    e : w ≡ get_or (widths_of k) i 0
    e = q₀ ∙ ap (λ (vs : List ℕ). get_or vs i 0) c

    there : i < length (widths_of k)
    there = omega (arith, h, ap length c)

    pub fields_part : from + w ≤ length body
    fields_part = omega (arith, f.wide, e, sum_here (widths_of k) i there)

    pub fields_small : length body ≡ body_width k → from + w < 18446744073709551616
    fields_small b = omega (arith, fields_part, b, body_most k)

    module _ (t : Text) (q : t ≡ trimmed (take (from + w - from) (drop from body))) where
      same_part : t ≡ trimmed (take (get_or (widths_of k) i 0) (drop from body))
      same_part = let z : from + w - from ≡ w = omega arith in q ∙ ap (λ (m : ℕ). trimmed (take m (drop from body))) (z ∙ e)

      left_here : fields_left k i from body ≡ piped t ++ fields_left k (i + 1) (from + w) body
      left_here =
          fields_here k i from body there
          ∙ ap (λ (u : Text). piped u ++ fields_left k (i + 1) (from + get_or (widths_of k) i 0) body) (sym same_part)
          ∙ ap (λ (m : ℕ). piped t ++ fields_left k (i + 1) (from + m) body) (sym e)

      long_here : length (fields_left k i from body) ≡ length t + 1 + length (fields_left k (i + 1) (from + w) body)
      long_here =
          omega (arith, ap length left_here, length-append (piped t) (fields_left k (i + 1) (from + w) body), length-append t (124 ∷ []))

      pub fields_room : at + length (fields_text k body) ≤ length before → pos + length t < length area
      fields_room r = omega (arith, r, f.long, f.upto, long_here)

      pub fields_on : (next : Text) (p : ℕ) → next ≡ over_from pos (piped t) area → p ≡ pos + length t + 1 → Fields k at body before (i + 1) (from + w) p next
      fields_on next p u v =
          record {
            wide = omega (arith, f.wide, e, sum_here (widths_of k) i there);
            long = ap length u ∙ length_over_from pos (piped t) area ∙ f.long;
            upto = omega (arith, f.upto, long_here, v);
            area_on =
                f.area_on ∙ ap (λ (x : Text). over_from pos x area) left_here
                ∙ over_from_join pos (piped t) (fields_left k (i + 1) (from + w) body) area
                ∙ ap (λ (m : ℕ). over_from m (fields_left k (i + 1) (from + w) body) (over_from pos (piped t) area)) past
                ∙ ap (over_from p (fields_left k (i + 1) (from + w) body)) (sym u);
          }
        where
          past : pos + length (piped t) ≡ p
          past = omega (arith, v, length-append t (124 ∷ []))

  module _ (h : length ws ≤ i) where
    none : fields_left k i from body ≡ []
    unfolding fields_left
    none = ap (joined piped) (cut_end (widths_of k) i (drop from body) (omega (arith, h, ap length c)))

    pub fields_end : area ≡ over_from at (fields_text k body) before
    fields_end = sym (f.area_on ∙ ap (λ (x : Text). over_from pos x area) none ∙ over_from_none pos area)

    pub fields_last : pos ≡ at + length (fields_text k body)
    fields_last = omega (arith, f.upto, ap length none)

pub fields_long : (k at : ℕ) (body before : Text) (i from pos : ℕ) (area : Text) → Fields k at body before i from pos area → length area ≡ length before
fields_long k at body before i from pos area f = f.long

pub ruleset for_put_fields = (rules, fields_start, fields_part, fields_small, fields_room, fields_on, fields_end, fields_last, fields_long)

-- Records written one after the other: what is left to write, and what has been written.
-- Assumes nothing.
use mathlib.Core.Path.{◌≡◌, refl, sym, ap, ◌∙◌, subst}
use mathlib.Core.List.{List, [], ◌∷◌, ◌++◌, append_assoc, append-nil}
use Prim.Native.Nat.{ℕ, suc, ◌+◌, ◌≤◌}
use native.Mathlib.Omega.{arith}
use lib.ListN.{length, length-append}
use Rattle.house.specs.Text.{Text}
use Rattle.writing.specs.Writing.{over_from}
use Rattle.writing.proofs.OverLaws.{over_from_none, over_from_join, length_over_from}
use Rattle.writing.proofs.DecimalLaws.{long_some}
use Rattle.chart_definitions.specs.Charts.{Charted}
use Rattle.chart_definitions.specs.Submissions.{record_text, records_text}
use Rattle.chart_definitions.proofs.WritingOrderLaws.{record_length}
use Rattle.chart.specs.declared.Spot.{Spot}
use Rattle.chart.specs.Inside.{Can, Puts, Going}

-- the text of some records and then of others
pub text_append : (n : ℕ) (xs ys : List Charted) → records_text n (xs ++ ys) ≡ records_text n xs ++ records_text (n + length xs) ys
unfolding records_text
text_append n [] ys = let e : n + 0 ≡ n = omega arith in sym (ap (λ (m : ℕ). records_text m ys) e)
text_append n (x ∷ xs) ys =
    let e : suc n + length xs ≡ n + length (x ∷ xs) = omega arith in
    ap (λ (t : Text). record_text n x ++ t) (text_append (suc n) xs ys)
    ∙ sym (append_assoc (record_text n x) (records_text (suc n) xs) (records_text (suc n + length xs) ys))
    ∙ ap (λ (m : ℕ). record_text n x ++ records_text (suc n) xs ++ records_text m ys) e

pub text_one : (n : ℕ) (r : Charted) → records_text n (r ∷ []) ≡ record_text n r
unfolding records_text
text_one n r = append-nil (record_text n r)

-- a line has a byte at least
pub text_most : (n : ℕ) (xs : List Charted) → length xs ≤ length (records_text n xs)
unfolding records_text
text_most n [] = omega arith
text_most n (x ∷ xs) =
    omega (arith, length-append (record_text n x) (records_text (suc n) xs), text_most (suc n) xs, record_length n x, long_some n)

module _ (from : Spot) (before : Text) where
  pub going_start : (all : List Charted) → Can all from before → Going all from before all from.number from.pos before
  going_start all c =
      record { area_on = refl; pos_on = refl; number_on = refl; long = refl; room_on = c.room; few_on = c.few }

  module _ (all left : List Charted) (number pos : ℕ) (area : Text) (g : Going all from before left number pos area) where
    module _ (xs ys : List Charted) (e : left ≡ xs ++ ys) where
      text_left : records_text number left ≡ records_text number xs ++ records_text (number + length xs) ys
      text_left = ap (records_text number) e ∙ text_append number xs ys

      long_left : length (records_text number left) ≡ length (records_text number xs) + length (records_text (number + length xs) ys)
      long_left = ap length text_left ∙ length-append (records_text number xs) (records_text (number + length xs) ys)

      pub going_can : (at : ℕ) → Can xs (record { at = at; number = number; pos = pos }) area
      going_can at = record { room = omega (arith, g.room_on, long_left); few = g.few_on }

      pub going_on : (at : ℕ) (r : Spot) (next : Text) → Puts xs (record { at = at; number = number; pos = pos }) r area next
          → Going all from before ys r.number r.pos next
      going_on at r next p =
          subst (λ (m : ℕ). Going all from before ys m r.pos next) (sym p.number_is)
          (subst (λ (m : ℕ). Going all from before ys (number + length xs) m next) (sym p.pos_is)
          record {
            area_on =
                g.area_on ∙ ap (λ (t : Text). over_from pos t area) text_left
                ∙ over_from_join pos (records_text number xs) (records_text (number + length xs) ys) area
                ∙ ap (over_from (pos + length (records_text number xs)) (records_text (number + length xs) ys)) (sym p.area_is);
            pos_on = omega (arith, g.pos_on, long_left);
            number_on = omega (arith, g.number_on, ap length e, length-append xs ys);
            long = ap length p.area_is ∙ length_over_from pos (records_text number xs) area ∙ g.long;
            room_on = omega (arith, g.room_on, long_left, ap length p.area_is, length_over_from pos (records_text number xs) area);
            few_on = omega (arith, g.few_on, text_most number xs);
          })

    pub going_end : left ≡ [] → (at : ℕ) → Puts all from (record { at = at; number = number; pos = pos }) before area
    unfolding records_text
    going_end e at =
        record {
          area_is = sym (g.area_on ∙ ap (λ (l : List Charted). over_from pos (records_text number l) area) e ∙ over_from_none pos area);
          pos_is = omega (arith, g.pos_on, ap (λ (l : List Charted). length (records_text number l)) e);
          number_is = omega (arith, g.number_on, ap length e);
        }

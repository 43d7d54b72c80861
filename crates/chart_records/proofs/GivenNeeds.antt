-- What each need of `fields_end`, `immunization_end` and `right_end` asks.
-- Assumes nothing.
use mathlib.Core.Path.{◌≡◌, refl, sym, ap, ◌∙◌}
use mathlib.Core.Bool.{Bool, true, false, not, cond, ◌&&◌}
use mathlib.Core.List.{[], ◌∷◌, ◌++◌}
use Prim.Native.Nat.{ℕ, ◌+◌, ◌-◌, ◌≤◌, ◌<◌}
use native.Mathlib.Omega.{arith}
use borrow.Author.Rules.{rules}
use borrow.Author.Tests.{eq-eqb, ne_eqb, le-ltb}
use lib.Dec.{eqb}
use lib.ListN.{length, get_or, take, drop, length-take, length-drop}
use lib.Seq.{length-take-le, take-add, drop-drop}
use Rattle.house.specs.Text.{Text, all, is_blank}
use Rattle.house.proofs.Small.{clash}
use Rattle.lines.specs.Records.{II}
use Rattle.lines.specs.Shape.{follows}
use Rattle.chart_definitions.specs.Charts.{record_kind, body_width, is_field_byte, well_formed}
use Rattle.chart_records.specs.Reading.{charted_at, record_end, right_after, has_no_comment}
use Rattle.chart_records.specs.Inside.{form_of, given_end}
use Rattle.chart_records.proofs.KindNeeds.{width_immunization}
use Rattle.chart_records.proofs.FormNeeds.{form_wrong, form_blanks, form_others, follows_none}

-- fields_end
module _ (s : Text) (from end : ℕ) (b : Bool) (eb : b ≡ all is_field_byte (take (end - from) (drop from s))) where
  pub fields_wrong : b ≡ false → 0 ≡ cond (all is_field_byte (take (end - from) (drop from s))) end 0
  fields_wrong z = rw (← eb, z)

  pub fields_right : b ≡ true → end ≡ cond (all is_field_byte (take (end - from) (drop from s))) end 0
  fields_right z = rw (← eb, z)

pub ruleset for_fields_end = (rules, fields_wrong, fields_right)

-- immunization_end: in two parts
all_append : (p : ℕ → Bool) (t u : Text) → all p (t ++ u) ≡ (all p t && all p u)
all_append p [] u = refl
all_append p (b ∷ t) u = rw (all_append p t u) (go (p b))
  where
    go : (v : Bool) → (v && (all p t && all p u)) ≡ ((v && all p t) && all p u)
    go true = refl
    go false = refl

drop_front : (n : ℕ) (t u : Text) → length t ≡ n → drop n (t ++ u) ≡ u
drop_front n [] u e = rw (← e)
drop_front n (b ∷ t) u e = rw (← e) (drop_front (length t) t u refl)

module _ (s : Text) (from end : ℕ) (h : from + 99 ≤ end) (l : end ≤ length s) where
  parts : take (end - from) (drop from s) ≡ take (from + 99 - from) (drop from s) ++ take (end - (from + 99)) (drop (from + 99) s)
  parts =
      let e : 99 + (end - (from + 99)) ≡ end - from = omega arith in
      let k : from + 99 - from ≡ 99 = omega arith in
      ap (λ (n : ℕ). take n (drop from s)) (sym e)
      ∙ take-add 99 (end - (from + 99)) (drop from s)
      ∙ rw (k, drop-drop)

  first_long : length (take (from + 99 - from) (drop from s)) ≡ 99
  first_long = let k : from + 99 - from ≡ 99 = omega arith in rw k (length-take-le 99 (drop from s) (omega (arith, length-drop from s)))

  comment_is : drop 99 (take (end - from) (drop from s)) ≡ take (end - (from + 99)) (drop (from + 99) s)
  comment_is = ap (drop 99) parts ∙ drop_front 99 (take (from + 99 - from) (drop from s)) (take (end - (from + 99)) (drop (from + 99) s)) first_long

  all_parts : all is_field_byte (take (end - from) (drop from s))
      ≡ (all is_field_byte (take (from + 99 - from) (drop from s)) && all is_field_byte (take (end - (from + 99)) (drop (from + 99) s)))
  all_parts = ap (all is_field_byte) parts ∙ all_append is_field_byte (take (from + 99 - from) (drop from s)) (take (end - (from + 99)) (drop (from + 99) s))

  module _ (b : Bool) (eb : b ≡ all is_field_byte (take (from + 99 - from) (drop from s))) where
    pub given_wrong : b ≡ false → 0 ≡ cond (all is_field_byte (take (end - from) (drop from s))) (cond (all is_blank (drop 99 (take (end - from) (drop from s)))) (from + 99) end) 0
    given_wrong z = rw (all_parts, ← eb, z)

    module _ (n : b ≡ true) (g : ℕ) (eg : g ≡ form_of (take (end - (from + 99)) (drop (from + 99) s))) where
      pub comment_wrong : g ≡ 0 → 0 ≡ cond (all is_field_byte (take (end - from) (drop from s))) (cond (all is_blank (drop 99 (take (end - from) (drop from s)))) (from + 99) end) 0
      comment_wrong z = rw (all_parts, ← eb, n, form_wrong (take (end - (from + 99)) (drop (from + 99) s)) g eg z)

      pub comment_blank : g ≡ 1 → from + 99 ≡ cond (all is_field_byte (take (end - from) (drop from s))) (cond (all is_blank (drop 99 (take (end - from) (drop from s)))) (from + 99) end) 0
      comment_blank z =
          let q = form_blanks (take (end - (from + 99)) (drop (from + 99) s)) g eg z in
          rw (comment_is, all_parts, ← eb, n, q.0, q.1)

      pub comment_text : (g ≡ 0 → ⊥) → (g ≡ 1 → ⊥) → end ≡ cond (all is_field_byte (take (end - from) (drop from s))) (cond (all is_blank (drop 99 (take (end - from) (drop from s)))) (from + 99) end) 0
      comment_text a b =
          let q = form_others (take (end - (from + 99)) (drop (from + 99) s)) g eg a b in
          rw (comment_is, all_parts, ← eb, n, q.0, q.1)

pub ruleset for_immunization_end = (rules, given_wrong, comment_wrong, comment_blank, comment_text)

-- right_end
and-false : (u : Bool) → (u && false) ≡ false
and-false true = refl
and-false false = refl

module _ (p at k : ℕ) (s : Text) (ek : k ≡ record_kind (get_or s at 0)) (f : Bool) (ef : f ≡ follows p k) where
  wrong_order : f ≡ false → right_after p (charted_at s at) ≡ false
  unfolding right_after charted_at
  wrong_order z = rw (← ek, ← ef, z) (and-false (well_formed (record { kind = k; body = take (body_width k) (drop (at + 1) s) })))

  pub right_order : f ≡ false → 0 ≡ cond (right_after p (charted_at s at)) (given_end s at) 0
  right_order z = rw (wrong_order z)

  module _ (w : ℕ) (ew : w ≡ body_width k) where
    too_short : length s - (at + 1) < w → right_after p (charted_at s at) ≡ false
    unfolding right_after charted_at well_formed
    too_short h =
        let n : length (take w (drop (at + 1) s)) ≡ w → ⊥ = λ e. omega (arith, e, length-take w (drop (at + 1) s), length-drop (at + 1) s) in
        rw (← ek, ← ew, ne_eqb _ _ n) (go (not (eqb k 0)) (follows p k))
      where
        go : (u v : Bool) → ((u && false) && v) ≡ false
        go true v = refl
        go false v = refl

    pub right_short : length s - (at + 1) < w → 0 ≡ cond (right_after p (charted_at s at)) (given_end s at) 0
    right_short h = rw (too_short h)

    module _ (l : at < length s) (z : f ≡ true) (h : w ≤ length s - (at + 1)) where
      by_bytes : right_after p (charted_at s at) ≡ all is_field_byte (take (at + 1 + w - (at + 1)) (drop (at + 1) s))
      unfolding right_after charted_at well_formed
      by_bytes =
          let c : at + 1 + w - (at + 1) ≡ w = omega arith in
          let n : k ≡ 0 → ⊥ = λ q. clash (cc (follows_none p k q)) in
          let m : length (take w (drop (at + 1) s)) ≡ w = length-take-le w (drop (at + 1) s) (omega (arith, length-drop (at + 1) s)) in
          rw (← ek, ← ew, ne_eqb k 0 n, eq-eqb _ _ m, ← ef, z, c) (go (all is_field_byte (take w (drop (at + 1) s))))
        where
          go : (u : Bool) → (u && true) ≡ u
          go true = refl
          go false = refl

      end_is : record_end s at ≡ at + 1 + w
      unfolding record_end
      end_is = rw (← ek, ← ew, le-ltb (length s) (at + 1 + w) (omega arith))

      pub right_fields : (r : ℕ) → (k ≡ II → ⊥) → r ≡ cond (all is_field_byte (take (at + 1 + w - (at + 1)) (drop (at + 1) s))) (at + 1 + w) 0
          → r ≡ cond (right_after p (charted_at s at)) (given_end s at) 0
      unfolding given_end has_no_comment charted_at
      right_fields r n e = e ∙ rw (by_bytes, end_is, ← ek, ne_eqb k II n)

      pub right_immunization : (r : ℕ) → k ≡ II
          → r ≡ cond (all is_field_byte (take (at + 1 + w - (at + 1)) (drop (at + 1) s))) (cond (all is_blank (drop 99 (take (at + 1 + w - (at + 1)) (drop (at + 1) s)))) (at + 1 + 99) (at + 1 + w)) 0
          → r ≡ cond (right_after p (charted_at s at)) (given_end s at) 0
      unfolding given_end has_no_comment charted_at
      right_immunization r q e =
          let c : at + 1 + w - (at + 1) ≡ w = omega arith in
          e ∙ rw (by_bytes, end_is, ← ek, ← ew, eq-eqb k II q, c)

-- the comment of an immunization lies in its fields
pub comment_within : (at k w : ℕ) → w ≡ body_width k → k ≡ II → at + 1 + 99 ≤ at + 1 + w
comment_within at k w e q = omega (arith, e, width_immunization k q)

pub ruleset for_right_end = (rules, right_order, right_short, right_fields, right_immunization, comment_within)

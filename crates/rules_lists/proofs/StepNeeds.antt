-- What each need of the walk over two parts in step asks, and that lines in step are one set.
-- Assumes nothing.
use mathlib.Core.Path.{◌≡◌, refl, sym, ap, ◌∙◌}
use mathlib.Core.Bool.{Bool, true, false, ◌&&◌, ◌||◌}
use mathlib.Core.List.{List, [], ◌∷◌}
use Prim.Native.Nat.{ℕ, ◌-◌, ◌≤◌, ◌<◌}
use native.Mathlib.Omega.{arith}
use borrow.Author.Rules.{rules}
use borrow.Author.Tests.{eqb-true, eqb-false, leb-true, leb-false}
use lib.Dec.{eqb, leb}
use lib.ListN.{length, take, drop, length-drop}
use Rattle.house.specs.Text.{Text, any, all}
use Rattle.house.proofs.Small.{both}
use Rattle.house.proofs.Decisions.{same_sym}
use Rattle.lines_fields.specs.declared.LineAt.{LineAt}
use Rattle.lines_fields.specs.Lines.{LineIs}
use Rattle.lines.specs.Records.{Rec, rec_of, recs}
use Rattle.lines_fields.proofs.LineLaws.{left_falls, lines_step}
use Rattle.lines.proofs.PartLaws.{recs_past, recs_on}
use Rattle.rules_definitions.specs.Forms.{text}
use Rattle.rules_definitions.specs.Rules.{same_antigen, dose_of, same_count, all_in, sets_differ}
use Rattle.rules_lists.specs.Among.{count_in, in_step}

-- where lines are left, they are not in step with none
module _ (s : Text) (at : ℕ) (h : at < length s) where
  more_none : in_step (recs (drop at s)) [] ≡ false
  unfolding in_step recs
  more_none = rw (lines_step (drop at s) (omega (arith, length-drop at s)))

  none_more : in_step [] (recs (drop at s)) ≡ false
  unfolding in_step recs
  none_more = rw (lines_step (drop at s) (omega (arith, length-drop at s)))

-- in_step
module _ (a b : Text) (at by : ℕ) (x : Bool) (inv : x ≡ in_step (recs (drop at a)) (recs (drop by b))) where
  pub step_end : length a ≤ at → leb (length b) by ≡ x
  unfolding in_step
  step_end h = go (leb (length b) by) refl ∙ sym (inv ∙ ap (λ (ls : List Rec). in_step ls (recs (drop by b))) (recs_past a at h))
    where
      go : (u : Bool) → leb (length b) by ≡ u → u ≡ in_step [] (recs (drop by b))
      go true e = rw (recs_past b by (leb-true (length b) by e))
      go false e = sym (none_more b by (leb-false (length b) by e))

  module _ (h : at < length a) where
    pub step_short : length b ≤ by → false ≡ x
    step_short k = sym (inv ∙ rw (recs_past b by k) (more_none a at h))

    module _ (k : by < length b) (q : LineAt) (e : LineIs a at q) (p : LineAt) (f : LineIs b by p) (y : Bool) (g : y ≡ same_count (rec_of (take (q.end - at) (drop at a))) (rec_of (take (p.end - by) (drop by b)))) where
      pub step_off : y ≡ false → false ≡ x
      unfolding in_step
      step_off z = rw (inv, recs_on a at q e h, recs_on b by p f k, ← g, z)

      pub step_on : y ≡ true → x ≡ in_step (recs (drop q.next a)) (recs (drop p.next b))
      unfolding in_step
      step_on z = rw (inv, recs_on a at q e h, recs_on b by p f k, ← g, z)

pub ruleset for_rule13_in_step = (rules, step_end, step_short, step_off, step_on, left_falls)

-- rule13_sets_differ: lines in step are one set
eqb_sym : (a b : ℕ) → eqb a b ≡ eqb b a
eqb_sym a b = go (eqb a b) refl (eqb b a) refl
  where
    go : (u : Bool) → eqb a b ≡ u → (v : Bool) → eqb b a ≡ v → u ≡ v
    go true e true f = refl
    go true e false f = absurd (eqb-false b a f (sym (eqb-true a b e)))
    go false e true f = absurd (eqb-false a b e (sym (eqb-true b a f)))
    go false e false f = refl

count_sym : (l p : Rec) → same_count l p ≡ same_count p l
unfolding same_count same_antigen
count_sym l p = rw (same_sym (text l 4) (text p 4), eqb_sym (dose_of l) (dose_of p))

step_sym : (ls ps : List Rec) → in_step ls ps ≡ in_step ps ls
unfolding in_step
step_sym [] [] = refl
step_sym [] (p ∷ ps) = refl
step_sym (l ∷ ls) [] = refl
step_sym (l ∷ ls) (p ∷ ps) = rw (count_sym l p, step_sym ls ps)

all_more : (p : Rec) (ps ls : List Rec) → all (count_in ps) ls ≡ true → all (count_in (p ∷ ps)) ls ≡ true
unfolding count_in
all_more p ps [] h = refl
all_more p ps (l ∷ ls) h =
    let t = both (any (same_count l) ps) (all (count_in ps) ls) h in
    rw (t.0, all_more p ps ls t.1) (go (same_count l p))
  where
    go : (b : Bool) → (b || true) && true ≡ true
    go true = refl
    go false = refl

step_all : (ls ps : List Rec) → in_step ls ps ≡ true → all (count_in ps) ls ≡ true
unfolding in_step count_in
step_all [] ps h = refl
step_all (l ∷ ls) [] h = h
step_all (l ∷ ls) (p ∷ ps) h =
    let t = both (same_count l p) (in_step ls ps) h in
    rw t.0 (all_more p ps ls (step_all ls ps t.1))

pub step_same : (a b : List Rec) (x : Bool) → x ≡ in_step a b → x ≡ true → false ≡ sets_differ a b
unfolding sets_differ all_in count_in
step_same a b x e h = rw (step_all a b (sym e ∙ h), step_all b a (sym (step_sym a b) ∙ sym e ∙ h))

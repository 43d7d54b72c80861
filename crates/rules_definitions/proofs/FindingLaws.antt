-- The list of findings holds exactly the broken rules, in strictly ascending order, and no other list does.
-- Assumes nothing.
use Prim.Native.Nat.{ℕ, zero, suc, ◌+◌, ◌<◌, ◌≤◌}
use native.Mathlib.Omega.{arith}
use mathlib.Core.Path.{◌≡◌, refl, sym, ap, ◌∙◌, subst}
use mathlib.Core.Bool.{Bool, true, false, cond, ◌&&◌}
use mathlib.Core.Logic.{◌⊎◌, inl, inr, ⊎_elim}
use mathlib.Core.List.{List, [], ◌∷◌, ◌++◌}
use lib.ListN.{length}
use lib.Dec.{T, eqb, ltb, eqb→eq, eqb_refl, ltb→lt, lt→ltb}
use Rattle.house.specs.Text.{any, those, joined}
use Rattle.house.specs.Members.{In, Rising}
use Rattle.house.proofs.Facts.{both, both_of, either, left_of, right_of, of_true}
use Rattle.house.proofs.Members.{in_cases, in_left, in_right, in_joined, joined_in, rising_append, one_rising}
use Rattle.house.proofs.Small.{Three, lt, eq, gt, three}
use Rattle.lines.specs.Records.{Rec, recs}
use Rattle.rules_definitions.specs.Contexts.{Context, contexts_from, contexts_of, contexts_in}
use Rattle.rules_definitions.specs.Seen.{Setting, Seen, seen_at}
use Rattle.rules_definitions.specs.Rules.{Numbered, rules, rules_in, rules_of, is_placed, rules_at, is_broken, broken_by, broken_at}
use Rattle.rules_definitions.specs.Findings.{Finding, found, fields_findings, line_findings, findings_of}
use Rattle.rules_definitions.specs.Claims.{Broken, Before, Ascending, FindingsListed, OneList}

-- The rules at one field

-- the rules' numbers ascend strictly, from above n
abbrev rises : ℕ → List Numbered → Bool
rises n [] = true
rises n (x ∷ xs) = ltb n x.number && rises x.number xs

-- so do those that pass a test
rises_those : (p : Numbered → Bool) (n m : ℕ) (xs : List Numbered) → n ≤ m → T (rises m xs) → T (rises n (those p xs))
rises_those p n m [] h t = tt
rises_those p n m (x ∷ xs) h t =
    let q = both (ltb m x.number) (rises x.number xs) t in
    let l = ltb→lt m x.number q.0 in
    go (lt→ltb n x.number (omega arith)) (rises_those p x.number x.number xs (omega arith) q.1) (rises_those p n x.number xs (omega arith) q.1) (p x)
  where
    go : T (ltb n x.number) → T (rises x.number (those p xs)) → T (rises n (those p xs)) → (b : Bool) → T (rises n (cond b (x ∷ those p xs) (those p xs)))
    go a c d true = both_of (ltb n x.number) (rises x.number (those p xs)) a c
    go a c d false = d

module _ (s : Setting) (v : Seen) (f : ℕ) where
  abbrev is_rule : ℕ → Numbered → Bool
  is_rule r x = eqb x.number r && x.broken s v f

  in_broken : (r : ℕ) (xs : List Numbered) → In r (broken_by s v f xs) → T (any (is_rule r) xs)
  in_broken r [] m = absurd m
  in_broken r (x ∷ xs) m = go (x.broken s v f) refl (in_broken r xs) m
    where
      go : (b : Bool) → x.broken s v f ≡ b → (In r (broken_by s v f xs) → T (any (is_rule r) xs)) → In r (cond b (x.number ∷ []) [] ++ broken_by s v f xs) → T (any (is_rule r) (x ∷ xs))
      go true e rest (inl q) =
          left_of (is_rule r x) (any (is_rule r) xs)
          (both_of (eqb x.number r) (x.broken s v f) (subst (λ (n : ℕ). T (eqb x.number n)) (sym q) (eqb_refl x.number)) (of_true (x.broken s v f) e))
      go true e rest (inr k) = right_of (is_rule r x) (any (is_rule r) xs) (rest k)
      go false e rest k = right_of (is_rule r x) (any (is_rule r) xs) (rest k)

  broken_in : (r : ℕ) (xs : List Numbered) → T (any (is_rule r) xs) → In r (broken_by s v f xs)
  broken_in r [] t = absurd t
  broken_in r (x ∷ xs) t =
      ⊎_elim
      (λ k.
      let p = both (eqb x.number r) (x.broken s v f) k in
      in_left r (cond (x.broken s v f) (x.number ∷ []) []) (broken_by s v f xs) (here (x.broken s v f) p.1 (eqb→eq x.number r p.0)))
      (λ k. in_right r (cond (x.broken s v f) (x.number ∷ []) []) (broken_by s v f xs) (broken_in r xs k))
      (either (is_rule r x) (any (is_rule r) xs) t)
    where
      here : (b : Bool) → T b → x.number ≡ r → In r (cond b (x.number ∷ []) [])
      here true k e = inl (sym e)
      here false k e = absurd k

  broken_above : (n r : ℕ) (xs : List Numbered) → T (rises n xs) → In r (broken_by s v f xs) → n < r
  broken_above n r [] t m = absurd m
  broken_above n r (x ∷ xs) t m =
      let p = both (ltb n x.number) (rises x.number xs) t in
      let h = ltb→lt n x.number p.0 in
      ⊎_elim (λ k. here h (x.broken s v f) k) (λ k. let q = broken_above x.number r xs p.1 k in omega arith)
      (in_cases r (cond (x.broken s v f) (x.number ∷ []) []) (broken_by s v f xs) m)
    where
      here : n < x.number → (b : Bool) → In r (cond b (x.number ∷ []) []) → n < r
      here h true (inl e) = omega arith
      here h true (inr k) = absurd k
      here h false k = absurd k

  broken_up : (n : ℕ) (xs : List Numbered) → T (rises n xs) → Rising ◌<◌ (broken_by s v f xs)
  broken_up n [] t = tt
  broken_up n (x ∷ xs) t =
      let p = both (ltb n x.number) (rises x.number xs) t in
      go p.1 (broken_up x.number xs p.1) (x.broken s v f)
    where
      go : T (rises x.number xs) → Rising ◌<◌ (broken_by s v f xs) → (b : Bool) → Rising ◌<◌ (cond b (x.number ∷ []) [] ++ broken_by s v f xs)
      go h u true = ((λ y m. broken_above x.number y xs h m), u)
      go h u false = u

  -- the rules rise
  pub at_up : Rising ◌<◌ (broken_at s v f)
  unfolding broken_at rules_at rules_of rules_in rules
  at_up = broken_up 0 (rules_at s v.line.kind f) (rises_those (is_placed v.line.kind f) 0 0 rules (omega arith) tt)

  pub in_at : (r : ℕ) → In r (broken_at s v f) → T (is_broken s v f r)
  unfolding broken_at is_broken
  in_at r m = in_broken r (rules_at s v.line.kind f) m

  pub at_in : (r : ℕ) → T (is_broken s v f r) → In r (broken_at s v f)
  unfolding broken_at is_broken
  at_in r t = broken_in r (rules_at s v.line.kind f) t

-- The fields of a line

abbrev finding : ℕ → ℕ → ℕ → Finding
finding n f r = record { line = n; field = f; rule = r }

in_found : (n f : ℕ) (rs : List ℕ) (y : Finding) → In y (found n f rs) → (y.line ≡ n) × (y.field ≡ f) × In y.rule rs
unfolding found
in_found n f [] y m = absurd m
in_found n f (r ∷ rs) y (inl e) = (ap (λ (z : Finding). z.line) e, ap (λ (z : Finding). z.field) e, inl (ap (λ (z : Finding). z.rule) e))
in_found n f (r ∷ rs) y (inr m) = let p = in_found n f rs y m in (p.0, p.1, inr p.2)

found_in_lem : (n f r : ℕ) (rs : List ℕ) → In r rs → In (finding n f r) (found n f rs)
unfolding found
found_in_lem n f r [] m = absurd m
found_in_lem n f r (q ∷ rs) (inl e) = inl (ap (finding n f) e)
found_in_lem n f r (q ∷ rs) (inr m) = inr (found_in_lem n f r rs m)

found_ascends : (n f : ℕ) (rs : List ℕ) → Rising ◌<◌ rs → Ascending (found n f rs)
unfolding found
found_ascends n f [] u = tt
found_ascends n f (r ∷ rs) u = (
  (λ y m.
      let p = in_found n f rs y m in
      inr (sym p.0, inr (sym p.1, u.0 y.rule p.2))),
  found_ascends n f rs u.1,
)

module _ (s : Setting) (n : ℕ) (v : Seen) where
  -- what a finding says where the fields from f on, m of them, are judged
  record AtFields (f m : ℕ) (y : Finding) : Type 0 where
    line_is : y.line ≡ n
    from : f ≤ y.field
    upto : y.field < f + m
    broken : T (is_broken s v y.field y.rule)

  at_fields : (f m : ℕ) (y : Finding) → In y (fields_findings s n v f m) → AtFields f m y
  unfolding fields_findings
  at_fields f zero y i = absurd i
  at_fields f (suc m) y i =
      ⊎_elim
      (λ k.
      let p = in_found n f (broken_at s v f) y k in
      let e : y.field ≡ f = p.1 in
      record {
        line_is = p.0;
        from = omega arith;
        upto = omega arith;
        broken = subst (λ (g : ℕ). T (is_broken s v g y.rule)) (sym e) (in_at s v f y.rule p.2);
      })
      (λ k.
      let a = at_fields (f + 1) m y k in
      record { line_is = a.line_is; from = omega (arith, a.from); upto = omega (arith, a.upto); broken = a.broken })
      (in_cases y (found n f (broken_at s v f)) (fields_findings s n v (f + 1) m) i)

  fields_at : (f m g r : ℕ) → f ≤ g → g < f + m → T (is_broken s v g r) → In (finding n g r) (fields_findings s n v f m)
  unfolding fields_findings
  fields_at f zero g r lo hi t = absurd (omega arith)
  fields_at f (suc m) g r lo hi t = go (λ (h : f < g). fields_at (f + 1) m g r (omega arith) (omega arith) t) (three f g)
    where
      go : (f < g → In (finding n g r) (fields_findings s n v (f + 1) m)) → Three f g → In (finding n g r) (found n f (broken_at s v f) ++ fields_findings s n v (f + 1) m)
      go rest (lt h) = in_right (finding n g r) (found n f (broken_at s v f)) (fields_findings s n v (f + 1) m) (rest h)
      go rest (eq e) =
          in_left (finding n g r) (found n f (broken_at s v f)) (fields_findings s n v (f + 1) m)
          (subst (λ (k : ℕ). In (finding n g r) (found n k (broken_at s v k))) (sym e) (found_in_lem n g r (broken_at s v g) (at_in s v g r t)))
      go rest (gt h) = absurd (omega arith)

  fields_ascend : (f m : ℕ) → Ascending (fields_findings s n v f m)
  unfolding fields_findings
  fields_ascend f zero = tt
  fields_ascend f (suc m) =
      rising_append Before (found n f (broken_at s v f)) (fields_findings s n v (f + 1) m) (found_ascends n f (broken_at s v f) (at_up s v f)) (fields_ascend (f + 1) m)
      (λ x y i k.
      let p = in_found n f (broken_at s v f) x i in
      let a = at_fields (f + 1) m y k in
      inr (p.0 ∙ sym a.line_is, inl (omega (arith, p.1, a.from))))

-- The lines of the file

module _ (s : Setting) where
  in_line : (h : Context) (y : Finding) → In y (line_findings s h) → AtFields s h.number (seen_at s h) 1 (length h.line.fields) y
  unfolding line_findings
  in_line h y m = at_fields s h.number (seen_at s h) 1 (length h.line.fields) y m

  line_has : (h : Context) (f r : ℕ) → 1 ≤ f → f ≤ length h.line.fields → T (is_broken s (seen_at s h) f r) → In (finding h.number f r) (line_findings s h)
  unfolding line_findings
  line_has h f r lo hi t = fields_at s h.number (seen_at s h) 1 (length h.line.fields) f r lo (omega arith) t

  -- the lines of places from n on have numbers from n on
  numbered_from : (n : ℕ) (before ls : List Rec) (h : Context) → In h (contexts_from n before ls) → n ≤ h.number
  numbered_from n before [] h m = absurd m
  numbered_from n before (l ∷ ls) h (inl e) = let q : h.number ≡ n = ap (λ (g : Context). g.number) e in omega arith
  numbered_from n before (l ∷ ls) h (inr m) = let q = numbered_from (suc n) (l ∷ before) ls h m in omega arith

  lines_ascend : (n : ℕ) (before ls : List Rec) → Ascending (joined (line_findings s) (contexts_from n before ls))
  unfolding line_findings
  lines_ascend n before [] = tt
  lines_ascend n before (l ∷ ls) =
      let h : Context = record { number = n; before = before; line = l; after = ls } in
      rising_append Before (line_findings s h) (joined (line_findings s) (contexts_from (suc n) (l ∷ before) ls))
      (fields_ascend s n (seen_at s h) 1 (length l.fields))
      (lines_ascend (suc n) (l ∷ before) ls)
      (λ x y m k.
      let a = in_line h x m in
      let p = in_joined (line_findings s) y (contexts_from (suc n) (l ∷ before) ls) k in
      let b = in_line p.0 y p.2 in
      let q = numbered_from (suc n) (l ∷ before) ls p.0 p.1 in
      inl (omega (arith, a.line_is, b.line_is)))

-- A finding is in the list exactly if that rule is broken there, and the list ascends strictly.
pub findings_listed : FindingsListed
unfolding findings_of contexts_in contexts_of
findings_listed s file =
    record {
      in_order_lem = lines_ascend s 1 [] (recs file);
      only =
          λ y m.
          let p = in_joined (line_findings s) y (contexts_in file) m in
          let a = in_line s p.0 y p.2 in
          record { at = p.0; there = p.1; line_is = a.line_is; from = a.from; upto = omega (arith, a.upto); broken = a.broken };
      every = λ y b. joined_in (line_findings s) b.at y (contexts_in file) b.there (in_place y b);
    }
  where
    in_place : (y : Finding) (b : Broken s file y) → In y (line_findings s b.at)
    in_place y b =
        subst (λ (n : ℕ). In (finding n y.field y.rule) (line_findings s b.at)) (sym b.line_is)
        (line_has s b.at y.field y.rule b.from b.upto b.broken)

-- No other list is such

not_both : (x y : Finding) → Before x y → Before y x → ⊥
not_both x y (inl p) (inl q) = omega arith
not_both x y (inl p) (inr q) = omega (arith, q.0)
not_both x y (inr p) (inl q) = omega (arith, p.0)
not_both x y (inr (e, p)) (inr (g, q)) = go p q
  where
    go : (x.field < y.field) ⊎ ((x.field ≡ y.field) × (x.rule < y.rule)) → (y.field < x.field) ⊎ ((y.field ≡ x.field) × (y.rule < x.rule)) → ⊥
    go (inl i) (inl j) = omega arith
    go (inl i) (inr j) = omega (arith, j.0)
    go (inr i) (inl j) = omega (arith, i.0)
    go (inr i) (inr j) = omega (arith, i.1, j.1)

pub one_list : OneList
one_list s file xs ys p q = one_rising Before not_both xs ys p.in_order_lem q.in_order_lem (λ z m. q.every z (p.only z m)) (λ z m. p.every z (q.only z m))

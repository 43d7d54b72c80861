-- In a list whose alike stand next to each other, one that is like an earlier one is like its neighbour.
-- Assumes nothing.
use mathlib.Core.Path.{◌≡◌, refl, sym, ◌∙◌}
use mathlib.Core.Bool.{Bool, true, false, not, cond, ◌||◌}
use mathlib.Core.List.{List, [], ◌∷◌}
use Rattle.house.specs.Text.{any, all, after_front}
use Rattle.house.proofs.Small.{both, clash}
use Rattle.chart_definitions.proofs.TogetherLaws.{any_alike}
use Rattle.chart_claims.specs.ClaimsOrder.{is_grouped}
use Rattle.chart_claims.proofs.AlikeLaws.{alike}

module _ {A : Type 0} (like : A → A → Bool) where
  -- like the nearest of these
  abbrev pub like_nearest : A → List A → Bool
  like_nearest z [] = false
  like_nearest z (p ∷ ps) = like z p

  -- each of the list, those before it nearest first, is like its neighbour if like any before it
  abbrev pub Neighbours : List A → List A → Type 0
  Neighbours past [] = Unit {0}
  Neighbours past (z ∷ zs) = (any (like z) past ≡ true → like_nearest z past ≡ true) × Neighbours (z ∷ past) zs

module _ {A : Type 0} (like : A → A → Bool)
    (symmetric : (x y : A) → like x y ≡ like y x)
    (transitive : (x y z : A) → like x y ≡ true → like y z ≡ true → like x z ≡ true) where
  abbrev Gone : A → List A → List A → Type 0
  Gone p ps rest = (y : A) → any (like y) (p ∷ ps) ≡ true → like y p ≡ false → any (like y) rest ≡ false

  off : (b : Bool) → not b ≡ true → b ≡ false
  off true h = clash (cc)
  off false h = refl

  neighbours : (p : A) (ps rest : List A) → any (like p) (after_front (like p) rest) ≡ false → Gone p ps rest → is_grouped like rest ≡ true → all (λ (z : A). like z z) rest ≡ true
      → Neighbours like (p ∷ ps) rest
  neighbours p ps [] a g r s = tt
  neighbours p ps (z ∷ rest) a g r s =
      let k = both (not (any (like z) (after_front (like z) rest))) (is_grouped like rest) r in
      let own = both (like z z) (all (λ (y : A). like y y) rest) s in
      ((λ h. near h own.0 (like z p) refl), neighbours z (p ∷ ps) rest (off (any (like z) (after_front (like z) rest)) k.0) gone k.1 own.1)
    where
      near : any (like z) (p ∷ ps) ≡ true → like z z ≡ true → (b : Bool) → like z p ≡ b → b ≡ true
      near h q true e = refl
      near h q false e = clash (cc (first (like z z) q (g z h e)))
        where
          first : (b : Bool) → b ≡ true → b || any (like z) rest ≡ false → true ≡ false
          first true i j = j
          first false i j = clash (cc)

      later : (b : Bool) (y : A) → b || any (like y) rest ≡ false → any (like y) rest ≡ false
      later true y h = clash (cc)
      later false y h = h

      gone : Gone z (p ∷ ps) rest
      gone y h n = at (like y p) refl (before (like y z) n h)
        where
          before : (b : Bool) → b ≡ false → b || any (like y) (p ∷ ps) ≡ true → any (like y) (p ∷ ps) ≡ true
          before true i j = clash (cc)
          before false i j = j

          at : (b : Bool) → like y p ≡ b → any (like y) (p ∷ ps) ≡ true → any (like y) rest ≡ false
          at false e i = later (like y z) y (g y i e)
          at true e i =
              let d : like p z ≡ false = sym (alike like symmetric transitive y p z e) ∙ n in
              any_alike like symmetric transitive p y rest e ∙ later (like p z) p (past (like p z) d a)
            where
              past : (b : Bool) → b ≡ false → any (like p) (cond b (after_front (like p) rest) (z ∷ rest)) ≡ false → like p z || any (like p) rest ≡ false
              past true i j = clash (cc)
              past false i j = j

  pub grouped_neighbours : (xs : List A) → is_grouped like xs ≡ true → all (λ (z : A). like z z) xs ≡ true → Neighbours like [] xs
  grouped_neighbours [] r s = tt
  grouped_neighbours (x ∷ xs) r s =
      let k = both (not (any (like x) (after_front (like x) xs))) (is_grouped like xs) r in
      ((λ h. clash (cc)), neighbours x [] xs (off (any (like x) (after_front (like x) xs)) k.0) alone k.1 (both (like x x) (all (λ (z : A). like z z) xs) s).1)
    where
      alone : Gone x [] xs
      alone y h n = at (like y x) n h
        where
          at : (b : Bool) → b ≡ false → b || false ≡ true → any (like y) xs ≡ false
          at true i j = clash (cc)
          at false i j = clash (cc)

-- Blanks behind a record's fields, which are written as if they were not there.
-- Assumes nothing.
use mathlib.Core.Path.{◌≡◌, refl, sym, ap, ◌∙◌}
use mathlib.Core.Bool.{Bool, true, false, cond, ◌&&◌}
use mathlib.Core.List.{List, [], ◌∷◌, ◌++◌}
use Prim.Native.Nat.{ℕ, zero, suc}
use lib.ListN.{take, drop}
use Rattle.house.specs.Text.{Text, all, is_empty, is_blank}
use Rattle.house.proofs.Small.{both, clash}
use Rattle.blanks.specs.Blanks.{without_last_blanks, trimmed}
use Rattle.chart_definitions.specs.Charts.{cut}

-- of a front of blanks nothing is left
front_none : (n : ℕ) (u : Text) → all is_blank u ≡ true → without_last_blanks (take n u) ≡ []
unfolding without_last_blanks
front_none zero u h = refl
front_none (suc n) [] h = refl
front_none (suc n) (b ∷ u) h = let p = both (is_blank b) (all is_blank u) h in rw (p.0, front_none n u p.1)

-- of a front of a text with blanks behind it as much as of one of the text
front_same : (n : ℕ) (t u : Text) → all is_blank u ≡ true → without_last_blanks (take n (t ++ u)) ≡ without_last_blanks (take n t)
unfolding without_last_blanks
front_same zero t u h = refl
front_same (suc n) [] u h = front_none (suc n) u h
front_same (suc n) (b ∷ t) u h = rw (front_same n t u h)

front_trimmed : (n : ℕ) (t u : Text) → all is_blank u ≡ true → trimmed (take n (t ++ u)) ≡ trimmed (take n t)
unfolding trimmed
front_trimmed n t u h = rw (front_same n t u h)

-- what takes no notice of blanks behind a text
abbrev Ignores : (Text → List Text) → Type 0
Ignores f = (t u : Text) → all is_blank u ≡ true → f (t ++ u) ≡ f t

drop_none : (n : ℕ) → drop {A = ℕ} n [] ≡ []
drop_none zero = refl
drop_none (suc n) = refl

-- takes none behind a rest of it
rest_same : (f : Text → List Text) → Ignores f → (n : ℕ) (t u : Text) → all is_blank u ≡ true → f (drop n (t ++ u)) ≡ f (drop n t)
rest_same f g zero t u h = g t u h
rest_same f g (suc n) [] [] h = refl
rest_same f g (suc n) [] (b ∷ u) h =
    let p = both (is_blank b) (all is_blank u) h in
    rest_same f g n [] u p.1 ∙ ap f (drop_none n)
rest_same f g (suc n) (b ∷ t) u h = rest_same f g n t u h

pub cut_blanks : (ws : List ℕ) (t u : Text) → all is_blank u ≡ true → cut ws (t ++ u) ≡ cut ws t
cut_blanks [] t u h = refl
cut_blanks (w ∷ ws) t u h = rw (front_trimmed w t u h, rest_same (cut ws) (cut_blanks ws) w t u h)

-- a text of which nothing is left is of blanks
none_blanks : (t : Text) → is_empty (without_last_blanks t) ≡ true → all is_blank t ≡ true
unfolding without_last_blanks
none_blanks [] h = refl
none_blanks (b ∷ t) h = go (is_blank b) (is_empty (without_last_blanks t)) refl refl h (none_blanks t)
  where
    go : (x y : Bool) → is_blank b ≡ x → is_empty (without_last_blanks t) ≡ y → is_empty (cond (x && y) [] (b ∷ without_last_blanks t)) ≡ true
        → (is_empty (without_last_blanks t) ≡ true → all is_blank t ≡ true) → (is_blank b && all is_blank t) ≡ true
    go true true e k q again = rw (e, again k)
    go true false e k q again = clash (cc)
    go false y e k q again = clash (cc)

given_same : (f : Text → List Text) → Ignores f → (t : Text) → f (without_last_blanks t) ≡ f t
unfolding without_last_blanks
given_same f g [] = refl
given_same f g (b ∷ t) = go (is_blank b && is_empty (without_last_blanks t)) refl (given_same (λ (s : Text). f (b ∷ s)) (λ s u h. g (b ∷ s) u h) t)
  where
    go : (x : Bool) → (is_blank b && is_empty (without_last_blanks t)) ≡ x → f (b ∷ without_last_blanks t) ≡ f (b ∷ t) → f (cond x [] (b ∷ without_last_blanks t)) ≡ f (b ∷ t)
    go true e again =
        let p = both (is_blank b) (is_empty (without_last_blanks t)) e in
        sym (g [] (b ∷ t) (rw (p.0, none_blanks t p.1)))
    go false e again = again

-- fields are written of a text as of what is left of it without the blanks at its end
pub cut_given : (ws : List ℕ) (t : Text) → cut ws (without_last_blanks t) ≡ cut ws t
cut_given ws t = given_same (cut ws) (cut_blanks ws) t

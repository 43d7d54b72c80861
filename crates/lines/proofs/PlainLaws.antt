-- A plain file: how it is known, and that the text of each of its lines is printable.
-- Assumes nothing.
use mathlib.Core.Path.{◌≡◌, refl, sym, ◌∙◌}
use mathlib.Core.Bool.{Bool, true, false, cond, ◌&&◌}
use mathlib.Core.List.{[], ◌∷◌}
use Prim.Native.Nat.{ℕ, zero, suc}
use borrow.Author.Tests.{eq-eqb, ne_eqb, eqb-true}
use lib.Dec.{eqb, ltb}
use lib.ListN.{drop}
use Rattle.house.specs.Text.{Text}
use Rattle.house.proofs.Small.{both, clash}
use Rattle.lines_fields.specs.Lines.{LF, CR, lf_next, ending_of, by_ending, lines_of, line_of}
use Rattle.lines_fields.proofs.LineLaws.{by_ending_lem, line_more}
use Rattle.lines.specs.Shape.{printable}
use Rattle.lines.specs.Inside.{raised_of, plain_but, stray_at, no_stray_at, no_stray, plain}

-- a byte of a file whose bytes are plain but for an LF and the byte e, and the rest of it
two_tests : (u v w : Bool) → cond u false (cond v false w) ≡ true → (cond u false (cond v false true) ≡ true) × (w ≡ true)
two_tests true v w h = clash (cc)
two_tests false true w h = clash (cc)
two_tests false false w h = (refl, h)

module _ (e b : ℕ) (s : Text) (h : plain_but e (b ∷ s) ≡ true) where
  but_rest : plain_but e s ≡ true
  unfolding plain_but
  but_rest = (two_tests (ltb (raised_of e b) 32) (ltb 126 b) (plain_but e s) h).1

  but_byte : (b ≡ LF → ⊥) → (b ≡ e → ⊥) → printable (b ∷ []) ≡ true
  unfolding plain_but printable raised_of
  but_byte n m = (two_tests (ltb b 32) (ltb 126 b) (plain_but e s) (rw (ne_eqb b LF n, ne_eqb b e m) at h)).0

-- a byte that ends no line
module _ (b : ℕ) (s : Text) (z : ending_of (b ∷ s) ≡ 0) where
  no_lf : b ≡ LF → ⊥
  unfolding ending_of
  no_lf e = clash (sym z ∙ rw (eq-eqb b LF e))

no_cr : (b : ℕ) (s : Text) → no_stray_at b s ≡ true → ending_of (b ∷ s) ≡ 0 → b ≡ CR → ⊥
unfolding ending_of lf_next stray_at
no_cr b [] h z e = clash (cc)
no_cr b (c ∷ s) h z e = go (eqb c LF) refl
  where
    go : (u : Bool) → eqb c LF ≡ u → ⊥
    go true f = clash (cc)
    go false f = clash (cc)

plain_byte : (b : ℕ) (s : Text) → (ending_of (b ∷ s) ≡ 0 → printable (b ∷ []) ≡ true) → plain s ≡ true → plain (b ∷ s) ≡ true
unfolding plain
plain_byte b s f h = go (eqb (ending_of (b ∷ s)) 0) refl
  where
    go : (u : Bool) → eqb (ending_of (b ∷ s)) 0 ≡ u → (cond u (printable (b ∷ [])) true && plain s) ≡ true
    go true e = rw (f (eqb-true _ _ e)) h
    go false e = h

-- where lines end in LF
pub lf_plain : (s : Text) → plain_but LF s ≡ true → plain s ≡ true
unfolding plain
lf_plain [] h = refl
lf_plain (b ∷ s) h = plain_byte b s (λ z. but_byte LF b s h (no_lf b s z) (no_lf b s z)) (lf_plain s (but_rest LF b s h))

-- and where they end in CR LF
pub crlf_plain : (s : Text) → no_stray s ≡ true → plain_but CR s ≡ true → plain s ≡ true
unfolding plain no_stray
crlf_plain [] n h = refl
crlf_plain (b ∷ s) n h =
    let k : (no_stray_at b s ≡ true) × (no_stray s ≡ true) = both (no_stray_at b s) (no_stray s) n in
    plain_byte b s (λ z. but_byte CR b s h (no_lf b s z) (no_cr b s k.0 z)) (crlf_plain s k.1 (but_rest CR b s h))

-- The text of each line of a plain file is printable
plain_rest : (b : ℕ) (s : Text) → plain (b ∷ s) ≡ true → plain s ≡ true
unfolding plain
plain_rest b s h = (both (cond (eqb (ending_of (b ∷ s)) 0) (printable (b ∷ [])) true) (plain s) h).1

pub plain_drop : (n : ℕ) (s : Text) → plain s ≡ true → plain (drop n s) ≡ true
unfolding plain
plain_drop zero s h = h
plain_drop (suc n) [] h = refl
plain_drop (suc n) (b ∷ s) h = plain_drop n s (plain_rest b s h)

printable_on : (b : ℕ) (t : Text) → printable (b ∷ []) ≡ true → printable t ≡ true → printable (b ∷ t) ≡ true
unfolding printable
printable_on b t h k = go (ltb b 32) (ltb 126 b) h
  where
    go : (u v : Bool) → cond u false (cond v false true) ≡ true → cond u false (cond v false (printable t)) ≡ true
    go true v h = h
    go false true h = h
    go false false h = k

text_on : (b : ℕ) (s : Text) → ending_of (b ∷ s) ≡ 0 → (plain s ≡ true → printable (line_of s).text ≡ true) → plain (b ∷ s) ≡ true → printable (line_of (b ∷ s)).text ≡ true
unfolding plain
text_on b s z f h =
    let k : (printable (b ∷ []) ≡ true) × (plain s ≡ true) = both (printable (b ∷ [])) (plain s) (rw (eq-eqb _ _ z) at h) in
    rw (line_more b s z) (printable_on b (line_of s).text k.0 (f k.1))

pub plain_text : (s : Text) → plain s ≡ true → printable (line_of s).text ≡ true
unfolding line_of lines_of by_ending ending_of lf_next printable
plain_text = by_ending_lem (λ (s : Text). plain s ≡ true → printable (line_of s).text ≡ true) (λ h. refl) text_on (λ s f h. refl) (λ s f h. refl)

-- What the crate's own functions answer: cited by private contracts and by laws alone. No public contract rests on this page.
-- Assumes nothing.
use Rattle.std.specs.Prelude.{ℕ, ◌≡◌, Bool, true, false, not, cond, ◌&&◌, List, [], ◌∷◌, length, eqb, ltb, Option, Some, None}
use Rattle.lines.specs.declared.Cause.{Cause}
use Rattle.lines.specs.declared.Cause.TheVariants.{UnknownType, FieldCount, Order}
use Rattle.house.specs.Text.{Text, all}
use Rattle.lines_fields.specs.Lines.{LF, CR, Line, ending_of, lines_of, fields_of}
use Rattle.lines.specs.Records.{IF, record_of, count_of}
use Rattle.lines.specs.Shape.{follows, printable, pipe_last, cause_of}

-- each line has its LF
unfoldable pub whole : Text → Bool
whole s = all (λ (l : Line). l.ended) (lines_of s)

-- the greatest byte
abbrev pub greatest : ℕ
greatest = 255

-- a byte where the least is looked for: an LF and the byte e count as the greatest
unfoldable pub raised_of : ℕ → ℕ → ℕ
raised_of e b = cond (eqb b LF) greatest (cond (eqb b e) greatest b)

-- each byte lies in 32..126, or below and is an LF or the byte e
unfoldable pub plain_but : ℕ → Text → Bool
plain_but e [] = true
plain_but e (b ∷ s) = cond (ltb (raised_of e b) 32) false (cond (ltb 126 b) false (plain_but e s))

-- 1 where a byte is a CR and the next is no LF
unfoldable pub stray_at : ℕ → ℕ → ℕ
stray_at b c = cond (eqb b CR) (cond (eqb c LF) 0 1) 0

-- a byte before these is no CR, or the first of them is an LF
abbrev pub no_stray_at : ℕ → Text → Bool
no_stray_at b [] = not (eqb b CR)
no_stray_at b (c ∷ s) = eqb (stray_at b c) 0

-- each CR stands before an LF
unfoldable pub no_stray : Text → Bool
no_stray [] = true
no_stray (b ∷ s) = no_stray_at b s && no_stray s

-- each byte lies in 32..126, or a line's ending starts with it
unfoldable pub plain : Text → Bool
plain [] = true
plain (b ∷ s) = cond (eqb (ending_of (b ∷ s)) 0) (printable (b ∷ [])) true && plain s

-- the lowest of causes 4 to 6 at a record of kind k with n fields that follows one of kind p, if there is one
unfoldable pub kind_cause : ℕ → ℕ → ℕ → Option Cause
kind_cause p k n = cond (eqb k 0) (Some UnknownType) (cond (not (eqb n (count_of k))) (Some FieldCount) (cond (not (follows p k)) (Some Order) None))

-- every line is without fault, the first following a record of kind p, and the last is an IF
unfoldable pub RightFrom : ℕ → List Line → Type 0
RightFrom p [] = p ≡ IF
RightFrom p (l ∷ ls) = (cause_of p l ≡ None) × RightFrom (record_of l.text) ls

-- what a line without fault is
pub record RightLine (p : ℕ) (l : Line) : Type 0 where
  pub ended : l.ended ≡ true
  pub printed : printable l.text ≡ true
  pub closed : pipe_last l.text ≡ true
  pub known : record_of l.text ≡ 0 → ⊥
  pub counted : length (fields_of l.text) ≡ count_of (record_of l.text)
  pub placed : follows p (record_of l.text) ≡ true

-- A written line read back: one line, of these fields.
-- Assumes nothing.
use Prim.Native.Nat.{ℕ}
use native.Mathlib.Omega.{arith}
use mathlib.Core.Path.{◌≡◌, refl, ap, ◌∙◌}
use mathlib.Core.Bool.{Bool, true, false, not}
use mathlib.Core.List.{List, [], ◌∷◌, ◌++◌, append_assoc}
use lib.Dec.{eqb, leb}
use lib.ListN.{get_or}
use borrow.Author.Tests.{leb-true, ne_eqb}
use Rattle.house.specs.Text.{Text, all, joined, within}
use Rattle.house.proofs.Small.{both, clash}
use Rattle.house.proofs.Members.{all_append}
use Rattle.lines.specs.Lines.{LF, CR, pipe, Line, ending_of, grow, by_ending, lines_of, lengthen, fields_of}
use Rattle.lines.specs.Records.{kind_of, record_of, rec_of, recs}
use Rattle.chart_definitions.specs.Charts.{is_field_byte}
use Rattle.chart_definitions.specs.Submissions.{piped, line_text}
use Rattle.chart_claims.specs.ClaimsRead.{reading}
use Rattle.chart_claims.proofs.FieldLaws.{plain_fields}

-- in 32..126
abbrev is_plain : ℕ → Bool
is_plain b = within 32 126 b

no_ending : (b : ℕ) (s : Text) → is_plain b ≡ true → ending_of (b ∷ s) ≡ 0
unfolding ending_of
no_ending b s e =
    let lo = leb-true 32 b (both (leb 32 b) (leb b 126) e).0 in
    rw (ne_eqb b LF (λ q. omega arith), ne_eqb b CR (λ q. omega arith))

lf_ends : (s : Text) → ending_of (LF ∷ s) ≡ 1
unfolding ending_of
lf_ends s = refl

grown : (b : ℕ) (t : Text) (ls : List Line) → grow b (record { text = t; ended = true } ∷ ls) ≡ record { text = b ∷ t; ended = true } ∷ ls
unfolding grow
grown b t ls = refl

-- a text of such bytes and its LF
pub line_first : (t s : Text) → all is_plain t ≡ true → lines_of (t ++ (LF ∷ s)) ≡ record { text = t; ended = true } ∷ lines_of s
unfolding lines_of by_ending
line_first [] s e = rw (lf_ends s)
line_first (b ∷ t) s e =
    let k = both (is_plain b) (all is_plain t) e in
    rw (no_ending b (t ++ (LF ∷ s)) k.0, line_first t s k.1) (grown b t (lines_of s))

-- FIELDS

plain_byte : (b : ℕ) → is_field_byte b ≡ true → (is_plain b ≡ true) × (eqb b pipe ≡ false)
unfolding is_field_byte
plain_byte b e = let k = both (within 32 126 b) (not (eqb b pipe)) e in (k.0, off (eqb b pipe) k.1)
  where
    off : (c : Bool) → not c ≡ true → c ≡ false
    off true h = clash (cc)
    off false h = refl

pipe_field : (s : Text) → fields_of (pipe ∷ s) ≡ [] ∷ fields_of s
unfolding fields_of
pipe_field s = refl

byte_field : (b : ℕ) (s : Text) → eqb b pipe ≡ false → fields_of (b ∷ s) ≡ lengthen b (fields_of s)
unfolding fields_of
byte_field b s e = rw e

more_field : (b : ℕ) (f : Text) (fs : List Text) → lengthen b (f ∷ fs) ≡ (b ∷ f) ∷ fs
unfolding lengthen
more_field b f fs = refl

no_fields : fields_of [] ≡ []
unfolding fields_of
no_fields = refl

-- a field of such bytes and its pipe
field_first : (f s : Text) → all is_field_byte f ≡ true → fields_of (f ++ (pipe ∷ s)) ≡ f ∷ fields_of s
field_first [] s e = pipe_field s
field_first (b ∷ f) s e =
    let k = both (is_field_byte b) (all is_field_byte f) e in
    byte_field b (f ++ (pipe ∷ s)) (plain_byte b k.0).1 ∙ ap (lengthen b) (field_first f s k.1) ∙ more_field b f (fields_of s)

pub fields_back : (fs : List Text) → plain_fields fs ≡ true → fields_of (joined piped fs) ≡ fs
fields_back [] e = no_fields
fields_back (f ∷ fs) e =
    let k = both (all is_field_byte f) (plain_fields fs) e in
    ap fields_of (append_assoc f (pipe ∷ []) (joined piped fs)) ∙ field_first f (joined piped fs) k.0 ∙ ap (λ (gs : List Text). f ∷ gs) (fields_back fs k.1)

-- all bytes of a line lie in 32..126
field_plain : (f : Text) → all is_field_byte f ≡ true → all is_plain f ≡ true
field_plain [] e = refl
field_plain (b ∷ f) e = let k = both (is_field_byte b) (all is_field_byte f) e in rw ((plain_byte b k.0).0, field_plain f k.1)

pub text_plain : (fs : List Text) → plain_fields fs ≡ true → all is_plain (joined piped fs) ≡ true
text_plain [] e = refl
text_plain (f ∷ fs) e =
    let k = both (all is_field_byte f) (plain_fields fs) e in
    all_append is_plain (f ++ (pipe ∷ [])) (joined piped fs)
    ∙ rw (all_append is_plain f (pipe ∷ []), field_plain f k.0, text_plain fs k.1)

-- THE LINE

module _ (fs : List Text) (s : Text) (e : plain_fields fs ≡ true) where
  pub line_back : lines_of (line_text fs ++ s) ≡ record { text = joined piped fs; ended = true } ∷ lines_of s
  unfolding line_text
  line_back = ap lines_of (append_assoc (joined piped fs) (LF ∷ []) s) ∙ line_first (joined piped fs) s (text_plain fs e)

  pub rec_back : recs (line_text fs ++ s) ≡ reading (kind_of (get_or fs 0 [])) fs ∷ recs s
  unfolding recs rec_of record_of
  rec_back = rw (line_back, fields_back fs e)

-- The bytes of a written field: each is in 32..126 and no pipe.
-- Assumes nothing.
use Prim.Native.Nat.{ℕ, zero, suc, ◌+◌, ◌/◌, ◌%◌, ◌≤◌, ◌<◌}
use native.Mathlib.Omega.{arith}
use mathlib.Core.Path.{◌≡◌, refl, ap, ◌∙◌}
use mathlib.Core.Bool.{Bool, true, false, not, cond, ◌&&◌, ◌||◌}
use mathlib.Core.List.{List, [], ◌∷◌, ◌++◌}
use lib.Dec.{eqb, ltb, leb}
use lib.ListN.{length, take, drop}
use borrow.Author.Tests.{ltb-true, le-leb, leb-true, ne_eqb}
use Rattle.house.specs.Text.{Text, bytes, all, within, is_digit, is_letter, is_letter_or_digit}
use Rattle.house.proofs.Small.{both, clash}
use Rattle.house.proofs.Members.{all_append}
use Rattle.blanks.proofs.TrimLaws.{trimmed_all}
use Rattle.writing.specs.Writing.{digits_within, decimal}
use Rattle.lines.specs.Records.{IP, II, IE, IN, IA}
use Rattle.chart_definitions.specs.Charts.{Charted, cut, widths_of, written_fields, is_field_byte}
use Rattle.chart_definitions.specs.Submissions.{type_text, numbered_fields}

-- of a list, some part
module _ (p : ℕ → Bool) where
  pub all_take : (n : ℕ) (t : Text) → all p t ≡ true → all p (take n t) ≡ true
  all_take zero t e = refl
  all_take (suc n) [] e = refl
  all_take (suc n) (b ∷ t) e = let k = both (p b) (all p t) e in rw (k.0, all_take n t k.1)

  pub all_drop : (n : ℕ) (t : Text) → all p t ≡ true → all p (drop n t) ≡ true
  all_drop zero t e = e
  all_drop (suc n) [] e = refl
  all_drop (suc n) (b ∷ t) e = all_drop n t (both (p b) (all p t) e).1

  -- a test that asks less
  pub all_weaker : (q : ℕ → Bool) → ((b : ℕ) → p b ≡ true → q b ≡ true) → (t : Text) → all p t ≡ true → all q t ≡ true
  all_weaker q w [] e = refl
  all_weaker q w (b ∷ t) e = let k = both (p b) (all p t) e in rw (w b k.0, all_weaker q w t k.1)

-- FIELDS

-- the fields are of such bytes
abbrev pub plain_fields : List Text → Bool
plain_fields fs = all (all is_field_byte) fs

pub digit_byte : (b : ℕ) → is_digit b ≡ true → is_field_byte b ≡ true
unfolding is_digit is_field_byte
digit_byte b e =
    let k = both (leb 48 b) (leb b 57) e in
    let lo = leb-true 48 b k.0 in
    let hi = leb-true b 57 k.1 in
    rw (le-leb 32 b (omega arith), le-leb b 126 (omega arith), ne_eqb b 124 (λ q. omega arith))

pub letter_byte : (b : ℕ) → is_letter_or_digit b ≡ true → is_field_byte b ≡ true
unfolding is_letter_or_digit is_letter is_digit is_field_byte
letter_byte b e = go (within 65 90 b) (within 97 122 b) (within 48 57 b) refl refl refl e
  where
    between : (lo hi : ℕ) → 32 ≤ lo → hi < 124 → within lo hi b ≡ true → within 32 126 b && not (eqb b 124) ≡ true
    between lo hi l h w =
        let k = both (leb lo b) (leb b hi) w in
        let x = leb-true lo b k.0 in
        let y = leb-true b hi k.1 in
        rw (le-leb 32 b (omega arith), le-leb b 126 (omega arith), ne_eqb b 124 (λ q. omega arith))

    go : (u v w : Bool) → within 65 90 b ≡ u → within 97 122 b ≡ v → within 48 57 b ≡ w → (u || v) || w ≡ true → within 32 126 b && not (eqb b 124) ≡ true
    go true v w p q r e = between 65 90 (omega arith) (omega arith) p
    go false true w p q r e = between 97 122 (omega arith) (omega arith) q
    go false false true p q r e = between 48 57 (omega arith) (omega arith) r
    go false false false p q r e = clash (cc)

-- a number in digits
pub digits_all : (k n : ℕ) → all is_digit (digits_within k n) ≡ true
unfolding is_digit
digits_all zero n = refl
digits_all (suc k) n = go (ltb n 10) refl (digits_all k (n / 10))
  where
    one : (d : ℕ) → d < 10 → all is_digit ((48 + d) ∷ []) ≡ true
    one d h = rw (le-leb 48 (48 + d) (omega arith), le-leb (48 + d) 57 (omega arith))

    go : (b : Bool) → ltb n 10 ≡ b → all is_digit (digits_within k (n / 10)) ≡ true → all is_digit (cond b ((48 + n) ∷ []) (digits_within k (n / 10) ++ ((48 + n % 10) ∷ []))) ≡ true
    go true e h = one n (ltb-true n 10 e)
    go false e h = all_append is_digit (digits_within k (n / 10)) ((48 + n % 10) ∷ []) ∙ rw (h) (one (n % 10) (omega arith))

pub decimal_digits : (n : ℕ) → all is_digit (decimal n) ≡ true
unfolding decimal
decimal_digits n = digits_all (suc n) n

pub decimal_plain : (n : ℕ) → all is_field_byte (decimal n) ≡ true
decimal_plain n = all_weaker is_digit is_field_byte digit_byte (decimal n) (decimal_digits n)

-- the fields of a record
pub cut_plain : (ws : List ℕ) (s : Text) → all is_field_byte s ≡ true → plain_fields (cut ws s) ≡ true
cut_plain [] s e = refl
cut_plain (w ∷ ws) s e =
    rw (trimmed_all is_field_byte (take w s) (all_take is_field_byte w s e), cut_plain ws (drop w s) (all_drop is_field_byte w s e))

pub type_plain : (k : ℕ) → all is_field_byte (type_text k) ≡ true
unfolding type_text is_field_byte
type_plain k = go (eqb k IP) (eqb k II) (eqb k IE) (eqb k IN) (eqb k IA)
  where
    go : (a b c d e : Bool) → all is_field_byte (cond a (bytes "IP") (cond b (bytes "II") (cond c (bytes "IE") (cond d (bytes "IN") (cond e (bytes "IA") []))))) ≡ true
    go true b c d e = refl
    go false true c d e = refl
    go false false true d e = refl
    go false false false true e = refl
    go false false false false true = refl
    go false false false false false = refl

pub numbered_plain : (n : ℕ) (r : Charted) → all is_field_byte r.body ≡ true → plain_fields (numbered_fields n r) ≡ true
unfolding numbered_fields written_fields
numbered_plain n r e = rw (type_plain r.kind, decimal_plain n, cut_plain (widths_of r.kind) r.body e)

pub length_cut : (ws : List ℕ) (s : Text) → length (cut ws s) ≡ length ws
length_cut [] s = refl
length_cut (w ∷ ws) s = ap suc (length_cut ws (drop w s))

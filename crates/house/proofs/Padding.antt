-- Padded texts and the event key: how long they are, what they hold, and that no two texts pad to one.
-- Assumes nothing.
use mathlib.Core.Path.{◌≡◌, refl, sym, ap, ◌∙◌}
use mathlib.Core.List.{[], ◌∷◌, ◌++◌, append_assoc}
use Prim.Native.Nat.{ℕ, zero, suc, ◌≤◌, ◌<◌}
use native.Mathlib.Nat.{not-suc-le-zero, le_of_suc-le-suc}
use native.Mathlib.Omega.{arith}
use lib.Dec.{T, leb}
use borrow.Author.Tests.{leb-true, lt-ltb}
use lib.ListN.{length, take, drop, length-append}
use lib.Seq.{take_at, drop_at}
use Rattle.house.specs.Text.{Text, all, is_graphic, is_blank, is_padded, graphic_len, pad}
use Rattle.house.specs.Key.{key_of}
use Rattle.house.proofs.Facts.{both, is_true}
use Rattle.house.proofs.OrderLaws.{length_pad}

-- a text of the width is padded already
pub pad_whole : (w : ℕ) (t : Text) → length t ≡ w → pad w t ≡ t
unfolding pad
pad_whole zero [] e = refl
pad_whole zero (b ∷ t) e = absurd (omega arith)
pad_whole (suc w) [] e = absurd (omega arith)
pad_whole (suc w) (b ∷ t) e = ap (λ (l : Text). b ∷ l) (pad_whole w t (omega arith))

-- no graphic byte is a blank
graphic_blank : (b : ℕ) → T (is_graphic b) → b ≡ 32 → ⊥
unfolding is_graphic
graphic_blank b g e = absurd (omega (arith, leb-true 33 b (is_true (leb 33 b) (both (leb 33 b) (leb b 126) g).0)))

-- no two texts of graphic bytes pad to one
pub pad_inj : (w : ℕ) (s t : Text) → T (all is_graphic s) → T (all is_graphic t) → length s ≤ w → length t ≤ w → pad w s ≡ pad w t → s ≡ t
unfolding pad
pad_inj w [] [] g h l m e = refl
pad_inj zero [] (c ∷ t) g h l m e = absurd (not-suc-le-zero m)
pad_inj (suc w) [] (c ∷ t) g h l m e = absurd (graphic_blank c (both (is_graphic c) (all is_graphic t) h).0 (cc))
pad_inj zero (b ∷ s) t g h l m e = absurd (not-suc-le-zero l)
pad_inj (suc w) (b ∷ s) [] g h l m e = absurd (graphic_blank b (both (is_graphic b) (all is_graphic s) g).0 (cc))
pad_inj (suc w) (b ∷ s) (c ∷ t) g h l m e =
    let r : s ≡ t = pad_inj w s t (both (is_graphic b) (all is_graphic s) g).1 (both (is_graphic c) (all is_graphic t) h).1 (le_of_suc-le-suc l) (le_of_suc-le-suc m) (cc) in
    cc

-- a text of graphic bytes, one or more, that fits is a padded code once padded
blanks_pad : (w : ℕ) → T (all is_blank (pad w []))
unfolding pad
blanks_pad zero = tt
blanks_pad (suc w) = blanks_pad w

graphic_pad : (w : ℕ) (t : Text) → T (all is_graphic t) → length t ≤ w
    → (graphic_len (pad w t) ≡ length t) × T (all is_blank (drop (length t) (pad w t)))
unfolding pad graphic_len is_graphic
graphic_pad zero [] g l = (refl, tt)
graphic_pad (suc w) [] g l = (refl, blanks_pad w)
graphic_pad zero (b ∷ t) g l = absurd (not-suc-le-zero l)
graphic_pad (suc w) (b ∷ t) g l =
    let h = both (is_graphic b) (all is_graphic t) g in
    let r = graphic_pad w t h.1 (le_of_suc-le-suc l) in
    (rw (is_true (is_graphic b) h.0) (ap suc r.0), r.1)

pub pad_padded : (w : ℕ) (t : Text) → T (all is_graphic t) → 0 < length t → length t ≤ w → T (is_padded (pad w t))
unfolding is_padded
pad_padded w t g p l =
    let r = graphic_pad w t g l in
    rw (r.0, lt-ltb 0 (length t) p) r.1

-- the key has 37 bytes: the ULI, the date, the vaccine
pub length_key : (u d v : Text) → length (key_of u d v) ≡ 37
unfolding key_of
length_key u d v =
    length-append (pad 9 u ++ pad 8 d) (pad 20 v) ∙ omega (arith, length-append (pad 9 u) (pad 8 d), length_pad 9 u, length_pad 8 d, length_pad 20 v)

module _ (u d v : Text) where
  front_length : length (pad 9 u ++ pad 8 d) ≡ 17
  front_length = length-append (pad 9 u) (pad 8 d) ∙ omega (arith, length_pad 9 u, length_pad 8 d)

  pub key_uli : take 9 (key_of u d v) ≡ pad 9 u
  unfolding key_of
  key_uli = rw append_assoc (take_at (pad 9 u) (pad 8 d ++ pad 20 v) 9 (length_pad 9 u))

  pub key_date : take 8 (drop 9 (key_of u d v)) ≡ pad 8 d
  unfolding key_of
  key_date = rw (append_assoc, drop_at (pad 9 u) (pad 8 d ++ pad 20 v) 9 (length_pad 9 u)) (take_at (pad 8 d) (pad 20 v) 8 (length_pad 8 d))

  pub key_vaccine : drop 17 (key_of u d v) ≡ pad 20 v
  unfolding key_of
  key_vaccine = drop_at (pad 9 u ++ pad 8 d) (pad 20 v) 17 front_length

-- one key, one event: of texts as wide as a ULI and a date, and codes that fit
pub key_one : (u d v x y z : Text) → length u ≡ 9 → length x ≡ 9 → length d ≡ 8 → length y ≡ 8 → T (all is_graphic v) → T (all is_graphic z) → length v ≤ 20 → length z ≤ 20
    → key_of u d v ≡ key_of x y z
    → (u ≡ x) × (d ≡ y) × (v ≡ z)
key_one u d v x y z lu lx ld ly gv gz lv lz e = (
  sym (pad_whole 9 u lu) ∙ sym (key_uli u d v) ∙ ap (take 9) e ∙ key_uli x y z ∙ pad_whole 9 x lx,
  sym (pad_whole 8 d ld) ∙ sym (key_date u d v) ∙ ap (λ (t : Text). take 8 (drop 9 t)) e ∙ key_date x y z ∙ pad_whole 8 y ly,
  pad_inj 20 v z gv gz lv lz (sym (key_vaccine u d v) ∙ ap (drop 17) e ∙ key_vaccine x y z),
)

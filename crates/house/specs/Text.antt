-- Texts: lists of bytes, the few functions on lists that all definitions read by, the order of bytes, classes of bytes, padded codes.
-- Assumes nothing.
use Rattle.std.specs.Prelude.{ℕ, zero, suc, ◌+◌, ◌-◌, ◌*◌, Bool, true, false, cond, ◌&&◌, ◌||◌, List, [], ◌∷◌, ◌++◌, length, drop, eqb, ltb, leb}
use Prim.Native.Char.{code}
use Prim.Native.String.{String, [] as nil, ◌∷◌ as ◌then◌}
use Rattle.std.specs.declared.cmp.Ordering.{Ordering}
use Rattle.std.specs.declared.cmp.Ordering.TheVariants.{Less, Equal, Greater}

abbrev pub Text : Type 0
Text = List ℕ

-- the bytes of a quoted text
abbrev pub bytes : String → Text
bytes nil = []
bytes (◌then◌ c s) = code c ∷ bytes s

-- Lists of anything

module _ {A : Type 0} where
  -- some element passes the test
  abbrev pub any : (A → Bool) → List A → Bool
  any p [] = false
  any p (x ∷ xs) = p x || any p xs

  -- every element passes the test
  abbrev pub all : (A → Bool) → List A → Bool
  all p [] = true
  all p (x ∷ xs) = p x && all p xs

  -- the elements that pass the test, in order
  abbrev pub those : (A → Bool) → List A → List A
  those p [] = []
  those p (x ∷ xs) = cond (p x) (x ∷ those p xs) (those p xs)

  -- how many pass the test
  abbrev pub how_many : (A → Bool) → List A → ℕ
  how_many p [] = 0
  how_many p (x ∷ xs) = cond (p x) (suc (how_many p xs)) (how_many p xs)

  -- the longest run from the start whose elements pass the test
  abbrev pub front : (A → Bool) → List A → List A
  front p [] = []
  front p (x ∷ xs) = cond (p x) (x ∷ front p xs) []

  -- what follows that run
  abbrev pub after_front : (A → Bool) → List A → List A
  after_front p [] = []
  after_front p (x ∷ xs) = cond (p x) (after_front p xs) (x ∷ xs)

  abbrev pub is_empty : List A → Bool
  is_empty [] = true
  is_empty (x ∷ xs) = false

  -- the relation holds from x to the first element, and from each to the next
  abbrev pub chained : (A → A → Bool) → A → List A → Bool
  chained r x [] = true
  chained r x (y ∷ ys) = r x y && chained r y ys

  -- each element and the one after it are in the relation
  abbrev pub adjacent : (A → A → Bool) → List A → Bool
  adjacent r [] = true
  adjacent r (x ∷ xs) = chained r x xs

module _ {A B : Type 0} where
  -- what each element gives, one list after the other
  abbrev pub joined : (A → List B) → List A → List B
  joined f [] = []
  joined f (x ∷ xs) = f x ++ joined f xs

-- The order of bytes

-- how two texts stand in the order of bytes; a text stands before those that go on from it
unfoldable pub order_of : Text → Text → Ordering
order_of [] [] = Equal
order_of [] (y ∷ t) = Less
order_of (x ∷ s) [] = Greater
order_of (x ∷ s) (y ∷ t) = cond (ltb x y) Less (cond (ltb y x) Greater (order_of s t))

abbrev pub is_less : Ordering → Bool
is_less Less = true
is_less Equal = false
is_less Greater = false

abbrev pub is_same : Ordering → Bool
is_same Less = false
is_same Equal = true
is_same Greater = false

-- the first text stands before the second
unfoldable pub below : Text → Text → Bool
below s t = is_less (order_of s t)

-- the two texts are the same, byte for byte
unfoldable pub same : Text → Text → Bool
same s t = is_same (order_of s t)

-- the text is one of these
abbrev pub one_of : List Text → Text → Bool
one_of ts t = any (same t) ts

-- Classes of bytes

abbrev pub within : ℕ → ℕ → ℕ → Bool
within lo hi n = leb lo n && leb n hi

unfoldable pub is_digit : ℕ → Bool
is_digit b = within 48 57 b

-- both cases
unfoldable pub is_letter : ℕ → Bool
is_letter b = within 65 90 b || within 97 122 b

unfoldable pub is_letter_or_digit : ℕ → Bool
is_letter_or_digit b = is_letter b || is_digit b

-- "in 33..126": a byte that shows and is no blank
unfoldable pub is_graphic : ℕ → Bool
is_graphic b = within 33 126 b

abbrev pub is_blank : ℕ → Bool
is_blank b = eqb b 32

-- from lo to hi bytes, each of the class
unfoldable pub run : ℕ → ℕ → (ℕ → Bool) → Text → Bool
run lo hi class t = within lo hi (length t) && all class t

-- each byte is a digit
unfoldable pub digits : Text → Bool
digits t = all is_digit t

-- the number that a text of digits writes
abbrev pub number_from : ℕ → Text → ℕ
number_from n [] = n
number_from n (b ∷ t) = number_from (n * 10 + (b - 48)) t

unfoldable pub number : Text → ℕ
number t = number_from 0 t

-- Padded codes

-- w bytes in all: the text with blanks after it, or as much of it as fits
unfoldable pub pad : ℕ → Text → Text
pad zero t = []
pad (suc w) [] = 32 ∷ pad w []
pad (suc w) (b ∷ t) = b ∷ pad w t

-- how many graphic bytes a text starts with
unfoldable pub graphic_len : Text → ℕ
graphic_len [] = 0
graphic_len (b ∷ t) = cond (is_graphic b) (suc (graphic_len t)) 0

-- "A padded code in 20 bytes is 1 to 20 bytes in 33..126, then spaces; other widths likewise.": of all the bytes of this text
unfoldable pub is_padded : Text → Bool
is_padded t = ltb 0 (graphic_len t) && all is_blank (drop (graphic_len t) t)

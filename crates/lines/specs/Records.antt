-- Record kinds, their field counts, and a line read as a record: one type for lines and fields, for all crates.
-- Assumes nothing.
use Rattle.std.specs.Prelude.{ℕ, Bool, cond, List, [], ◌∷◌, get_or, eqb}
use Prim.Native.Char.{code}
use Rattle.house.specs.Text.{Text}
use Rattle.lines_fields.specs.Lines.{Line, lines_of, fields_of}

-- Kinds by number; 0 is none of them

abbrev pub IV : ℕ
IV = 1

abbrev pub IH : ℕ
IH = 2

abbrev pub IP : ℕ
IP = 3

abbrev pub II : ℕ
II = 4

abbrev pub IE : ℕ
IE = 5

abbrev pub IN : ℕ
IN = 6

abbrev pub IA : ℕ
IA = 7

abbrev pub IF : ℕ
IF = 8

-- the kind that the letter after the I names
unfoldable pub letter_kind : ℕ → ℕ
letter_kind b =
    cond (eqb b (code "V")) IV
    (cond (eqb b (code "H")) IH
    (cond (eqb b (code "P")) IP
    (cond (eqb b (code "I")) II
    (cond (eqb b (code "E")) IE
    (cond (eqb b (code "N")) IN
    (cond (eqb b (code "A")) IA
    (cond (eqb b (code "F")) IF 0)))))))

-- the kind that a record type names: the whole first field, an I and a letter
unfoldable pub kind_of : Text → ℕ
kind_of [] = 0
kind_of (a ∷ []) = 0
kind_of (a ∷ b ∷ []) = cond (eqb a (code "I")) (letter_kind b) 0
kind_of (a ∷ b ∷ c ∷ s) = 0

-- the kind of a line's record
unfoldable pub record_of : Text → ℕ
record_of t = kind_of (get_or (fields_of t) 0 [])

-- "Field counts: IV 2, IH 3, IP 27, II 22, IE 5, IN 8, IA 4, IF 3."
unfoldable pub count_of : ℕ → ℕ
count_of k =
    cond (eqb k IV) 2
    (cond (eqb k IH) 3
    (cond (eqb k IP) 27
    (cond (eqb k II) 22
    (cond (eqb k IE) 5
    (cond (eqb k IN) 8
    (cond (eqb k IA) 4
    (cond (eqb k IF) 3 0)))))))

-- A line read: its kind and its fields
pub record Rec : Type 0 where
  pub kind : ℕ
  pub fields : List Text

unfoldable pub rec_of : Text → Rec
rec_of t = record { kind = record_of t; fields = fields_of t }

abbrev pub is_kind : ℕ → Rec → Bool
is_kind k l = eqb l.kind k

abbrev pub read : List Line → List Rec
read [] = []
read (l ∷ ls) = rec_of l.text ∷ read ls

-- the lines of a file, read
unfoldable pub recs : Text → List Rec
recs s = read (lines_of s)

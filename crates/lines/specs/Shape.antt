-- The shape of a submission: the causes of a fault, the order of records, and the first fault.
-- Assumes nothing.
use Rattle.std.specs.Prelude.{ℕ, ◌+◌, ◌-◌, Bool, true, false, not, cond, List, [], ◌∷◌, length, get_or, eqb, ltb, Option, Some, None, Result, Ok, Err, ⊤}
use Rattle.house.specs.Text.{Text}
use Rattle.lines.specs.declared.Cause.{Cause}
use Rattle.lines.specs.declared.Cause.TheVariants.{NoLineFeed, WrongByte, NoPipe, UnknownType, FieldCount, Order, NoEnd}
use Rattle.lines.specs.declared.Fault.{Fault}
use Rattle.lines_fields.specs.Lines.{Line, lines_of, fields_of, pipe}
use Rattle.lines.specs.Records.{IV, IH, IP, II, IE, IN, IA, IF, record_of, count_of}

-- The order of records

-- a number is one of these
unfoldable pub is_one : List ℕ → ℕ → Bool
is_one [] x = false
is_one (y ∷ ys) x = cond (eqb x y) true (is_one ys x)

-- "Order: IV, IH, patients, IF, nothing more. A patient is one IP, then any number of immunizations (II and at least one IE), then
-- any number of IN with at least one IA each, at least one II or IN in all. No patient at all is allowed. The same patient may have two IP
-- records."
-- So it turns on the line before: whether a record of kind k may follow one of kind p, 0 being the file's start.
unfoldable pub follows : ℕ → ℕ → Bool
follows p k =
    cond (eqb k IV) (eqb p 0)
    (cond (eqb k IH) (eqb p IV)
    (cond (eqb k IP) (is_one (IH ∷ IE ∷ IA ∷ []) p)
    (cond (eqb k II) (is_one (IP ∷ IE ∷ []) p)
    (cond (eqb k IE) (is_one (II ∷ IE ∷ []) p)
    (cond (eqb k IN) (is_one (IP ∷ IE ∷ IA ∷ []) p)
    (cond (eqb k IA) (is_one (IN ∷ IA ∷ []) p)
    (cond (eqb k IF) (is_one (IH ∷ IE ∷ IA ∷ []) p) false)))))))

-- The causes of a fault of a line

-- "1. no LF"
unfoldable pub cause1 : Line → Bool
cause1 l = not l.ended

-- each byte lies in 32..126
unfoldable pub printable : Text → Bool
printable [] = true
printable (b ∷ s) = cond (ltb b 32) false (cond (ltb 126 b) false (printable s))

-- "2. a byte outside 32..126"
unfoldable pub cause2 : Line → Bool
cause2 l = not (printable l.text)

-- the last byte is a pipe
unfoldable pub pipe_last : Text → Bool
pipe_last t = eqb (get_or t (length t - 1) 0) pipe

-- "3. not ending in a pipe (an empty line too)"
unfoldable pub cause3 : Line → Bool
cause3 l = not (pipe_last l.text)

-- "4. unknown record type"
unfoldable pub cause4 : Line → Bool
cause4 l = eqb (record_of l.text) 0

-- "5. wrong field count"
unfoldable pub cause5 : Line → Bool
cause5 l = not (eqb (length (fields_of l.text)) (count_of (record_of l.text)))

-- "6. this type may not stand here", after a record of kind p
unfoldable pub cause6 : ℕ → Line → Bool
cause6 p l = not (follows p (record_of l.text))

-- the numbers of the causes
abbrev pub number_of : Cause → ℕ
number_of NoLineFeed = 1
number_of WrongByte = 2
number_of NoPipe = 3
number_of UnknownType = 4
number_of FieldCount = 5
number_of Order = 6
number_of NoEnd = 7

-- the lowest cause at a line that follows one of kind p, if there is one
unfoldable pub cause_of : ℕ → Line → Option Cause
cause_of p l =
    cond (cause1 l) (Some NoLineFeed)
    (cond (cause2 l) (Some WrongByte)
    (cond (cause3 l) (Some NoPipe)
    (cond (cause4 l) (Some UnknownType)
    (cond (cause5 l) (Some FieldCount)
    (cond (cause6 p l) (Some Order) None)))))

-- "7. the file ended before its IF, the line then being one past the last"
unfoldable pub cause7 : ℕ → Bool
cause7 p = not (eqb p IF)

-- a file's shape: right, or a fault
abbrev pub Shape : Type 0
Shape = Result ⊤ Fault

abbrev pub fault : ℕ → Cause → Shape
fault n c = Err (record { line = n; cause = c })

-- of line n and what follows it: the line's fault, or the shape of what follows
abbrev pub shape_at : ℕ → Option Cause → Shape → Shape
shape_at n (Some cause) rest = fault n cause
shape_at n None rest = rest

-- "The first line with a fault is reported, with its lowest cause": from line n on, after a record of kind p
unfoldable pub shape_from : ℕ → ℕ → List Line → Shape
shape_from n p [] = cond (cause7 p) (fault n NoEnd) (Ok tt)
shape_from n p (l ∷ ls) = shape_at n (cause_of p l) (shape_from (n + 1) (record_of l.text) ls)

unfoldable pub shape_of : Text → Shape
shape_of s = shape_from 1 0 (lines_of s)

-- The code book: its entries, their form and order, what it says of a code on a day, and what reading it gives.
-- Assumes nothing.
use Rattle.std.specs.Prelude.{ℕ, zero, suc, ◌+◌, ◌≡◌, Bool, true, not, cond, ◌&&◌, ◌||◌, List, [], ◌∷◌, ◌++◌, length, take, drop, eqb, ltb, leb, Option, Some, None}
use Rattle.house.specs.Text.{Text, any, all, adjacent, within, below, same, digits, number, is_padded}
use Rattle.dates.specs.Dates.{is_date, is_end}
use Rattle.book.specs.declared.Read.{Read}
use Rattle.book.specs.declared.Read.TheVariants as read
use Rattle.book.specs.declared.Sections.{Sections}
use Rattle.book.specs.declared.Standing.{Standing}
use Rattle.book.specs.declared.Standing.TheVariants.{Unknown, OutOfForce, InForce}

-- Kinds of entry, by number

abbrev pub vaccine : ℕ
vaccine = 1

abbrev pub antigen : ℕ
antigen = 2

abbrev pub reason : ℕ
reason = 3

abbrev pub manufacturer : ℕ
manufacturer = 4

abbrev pub dosage_type : ℕ
dosage_type = 5

abbrev pub reason_not : ℕ
reason_not = 6

abbrev pub with_reason : ℕ
with_reason = 7

abbrev pub with_antigen : ℕ
with_antigen = 8

-- "one byte of kind, then a body whose length the kind fixes": the bytes of its code, or the first of two
unfoldable pub first_width : ℕ → ℕ
first_width k =
    cond (eqb k vaccine) 20
    (cond (eqb k antigen) 20
    (cond (eqb k reason) 2
    (cond (eqb k manufacturer) 3
    (cond (eqb k dosage_type) 4
    (cond (eqb k reason_not) 3
    (cond (eqb k with_reason) 20
    (cond (eqb k with_antigen) 20 0)))))))

-- of the second code of a pair
unfoldable pub second_width : ℕ → ℕ
second_width k = cond (eqb k with_reason) 2 (cond (eqb k with_antigen) 20 0)

unfoldable pub code_width : ℕ → ℕ
code_width k = first_width k + second_width k

-- of the start
unfoldable pub start_width : ℕ → ℕ
start_width k = cond (eqb k vaccine) 8 0

-- of the whole body; an end has 8
unfoldable pub body_width : ℕ → ℕ
body_width k = code_width k + start_width k + 8

-- An entry: its kind, and as many bytes of its body as there are
pub record Entry : Type 0 where
  pub kind : ℕ
  pub body : Text

-- the entries from the next one on, after so many bytes that still belong to the last
unfoldable pub entries_after : ℕ → Text → List Entry
entries_after n [] = []
entries_after zero (k ∷ s) = record { kind = k; body = take (body_width k) s } ∷ entries_after (body_width k) s
entries_after (suc n) (b ∷ s) = entries_after n s

unfoldable pub entries : Text → List Entry
entries s = entries_after 0 s

-- the bytes of its code, or of both codes of a pair
unfoldable pub code_of : Entry → Text
code_of e = take (code_width e.kind) e.body

-- its dates: a start, where its kind has one, and an end
unfoldable pub dates_of : Entry → Text
dates_of e = drop (code_width e.kind) e.body

unfoldable pub start_of : Entry → Text
start_of e = take (start_width e.kind) (dates_of e)

unfoldable pub end_of : Entry → Text
end_of e = drop (start_width e.kind) (dates_of e)

-- Forms: two digits or a padded code; "A start is a date and may exceed its end; that code is then never in force."

unfoldable pub first_form : ℕ → Text → Bool
first_form k t = cond (eqb k reason) (digits t) (is_padded t)

unfoldable pub second_form : ℕ → Text → Bool
second_form k t = cond (eqb k with_reason) (digits t) (cond (eqb k with_antigen) (is_padded t) true)

unfoldable pub code_form : ℕ → Text → Bool
code_form k t = first_form k (take (first_width k) t) && second_form k (drop (first_width k) t)

unfoldable pub start_form : ℕ → Text → Bool
start_form k t = cond (eqb k vaccine) (is_date t) true

unfoldable pub dates_form : ℕ → Text → Bool
dates_form k t = start_form k (take (start_width k) t) && is_end (drop (start_width k) t)

unfoldable pub body_form : ℕ → Text → Bool
body_form k t = code_form k (take (code_width k) t) && dates_form k (drop (code_width k) t)

-- an entry of a known kind, whole, of its form
unfoldable pub entry_form : Entry → Bool
entry_form e = within 1 8 e.kind && eqb (length e.body) (body_width e.kind) && body_form e.kind e.body

-- "Entries ascend strictly by kind and then code bytes (both codes in a pair).": e stands above kind k and code c
unfoldable pub above : ℕ → Text → Entry → Bool
above k c e = ltb k e.kind || (eqb k e.kind && below c (code_of e))

abbrev pub entry_below : Entry → Entry → Bool
entry_below d e = above d.kind (code_of d) e

-- "at most 262,144 bytes"
abbrev pub book_most : ℕ
book_most = 262144

-- "Code book, at most 262,144 bytes, perhaps empty": well formed
unfoldable pub book_ok : Text → Bool
book_ok s = leb (length s) book_most && (all entry_form (entries s) && adjacent entry_below (entries s))

-- the entries of the book in use. (Change request 6 gives an empty book another meaning here.)
unfoldable pub book_of : Text → List Entry
book_of s = entries s

-- "In force on day d: start <= d <= end, or d <= end where there is no start."
unfoldable pub started_by : ℕ → Entry → Bool
started_by d e = cond (eqb e.kind vaccine) (leb (number (start_of e)) d) true

unfoldable pub in_force : ℕ → Entry → Bool
in_force d e = started_by d e && leb d (number (end_of e))

-- its end is before day u
unfoldable pub ended_before : ℕ → Entry → Bool
ended_before u e = ltb (number (end_of e)) u

-- the text with blanks after it, up to w bytes. A longer text stays as it is, and is no code of that width.
abbrev pub filled : ℕ → Text → Text
filled zero t = t
filled (suc w) [] = 32 ∷ filled w []
filled (suc w) (b ∷ t) = b ∷ filled w t

-- a code as the book writes it, of one text or of two
unfoldable pub code_text : ℕ → Text → Text → Text
code_text k a b = filled (first_width k) a ++ filled (second_width k) b

-- the entry is of this kind and code
unfoldable pub is_entry : ℕ → Text → Entry → Bool
is_entry k code e = eqb e.kind k && same (code_of e) code

-- the code is known: an entry has it
unfoldable pub listed : List Entry → ℕ → Text → Bool
listed es k code = any (is_entry k code) es

-- and something holds of such an entry
unfoldable pub listed_such : List Entry → (Entry → Bool) → ℕ → Text → Bool
listed_such es p k code = any (λ (e : Entry). is_entry k code e && p e) es

-- the code is in force on a day: such an entry is
unfoldable pub listed_on : List Entry → ℕ → ℕ → Text → Bool
listed_on es d k code = listed_such es (in_force d) k code

-- the code ended before a day: such an entry did
unfoldable pub listed_ended : List Entry → ℕ → ℕ → Text → Bool
listed_ended es u k code = listed_such es (ended_before u) k code

-- what the entries say of a code on day d, where its end is not to be before day u: unknown; known, not in force; in force
unfoldable pub standing_of : List Entry → ℕ → Text → ℕ → ℕ → Standing
standing_of es k code d u = cond (listed es k code) (cond (listed_on es d k code && not (listed_ended es u k code)) InForce OutOfForce) Unknown

-- Reading a book

-- the entry of kind k whose body starts these bytes
unfoldable pub entry_of : ℕ → Text → Entry
entry_of k s = record { kind = k; body = take (body_width k) s }

-- it is of a known kind, and whole
unfoldable pub is_whole : ℕ → Text → Bool
is_whole k s = within 1 8 k && leb (body_width k) (length s)

-- "the book's reader gives back its next position with each entry": what stands at a position, by the bytes from there on. An entry, with its
-- kind, where its body starts, and the next position; the end; or no whole entry of a known kind.
unfoldable pub read_at : ℕ → Text → Read
read_at at [] = read.End
read_at at (k ∷ s) = cond (is_whole k s) (read.Entry k (at + 1) (record { at = at + 1 + body_width k })) read.Malformed

-- how many bytes stand before the first entry of kind k or above: where the entries of kind k start
unfoldable pub bytes_before : ℕ → List Entry → ℕ
bytes_before k [] = 0
bytes_before k (e ∷ es) = cond (ltb e.kind k) (suc (body_width e.kind) + bytes_before k es) 0

-- where the entries of each kind start, and where the last end
unfoldable pub sections_of : Text → Sections
sections_of s =
    record {
      antigens = bytes_before antigen (entries s);
      reasons = bytes_before reason (entries s);
      manufacturers = bytes_before manufacturer (entries s);
      dosage_types = bytes_before dosage_type (entries s);
      reasons_not = bytes_before reason_not (entries s);
      with_reason = bytes_before with_reason (entries s);
      with_antigen = bytes_before with_antigen (entries s);
      end = bytes_before 9 (entries s);
    }

-- a book is valid, and has these sections, exactly if it is well formed
unfoldable pub valid_of : Text → Option Sections
valid_of s = cond (book_ok s) (Some (sections_of s)) None

-- a book that is well formed, and its sections
pub record Sound (s : Text) (q : Sections) : Type 0 where
  pub ok : book_ok s ≡ true
  pub sections : q ≡ sections_of s

-- Look-up in any bytes, by any sections: the entry that the hash of a code names is asked first, then a binary search goes on among the
-- entries of one kind, which all have the same width. What it says are three things of a code: that it is known, that it is in force on a
-- day, and that it ended before a day. For bytes that start with a valid book, by its own sections, they are what the book's entries say,
-- whatever the hash table (proofs/StandingLaws).
-- Assumes nothing.
use Rattle.std.specs.Prelude.{ℕ, zero, suc, ◌+◌, ◌-◌, ◌*◌, ◌/◌, ◌%◌, Bool, true, false, not, cond, ◌&&◌, [], ◌∷◌, ◌++◌, length, take, drop, get_or, set, eqb, ltb, leb, Option, Some, None}
use Rattle.house.specs.Text.{Text, order_of, same}
use Rattle.house.specs.Search.{binary_search}
use Rattle.std.specs.declared.cmp.Ordering.{Ordering}
use Rattle.book.specs.declared.Sections.{Sections}
use Rattle.book.specs.declared.Standing.{Standing}
use Rattle.book.specs.declared.Standing.TheVariants.{Unknown, OutOfForce, InForce}
use Rattle.book.specs.Book.{first_width, code_width, body_width, Entry, entry_of, in_force, ended_before}
use Rattle.book.specs.declared.Position.{Position}

-- where the entries of kind k start, and those of the kind before it end
unfoldable pub section_start : Sections → ℕ → ℕ
section_start q k =
    cond (eqb k 2) q.antigens
    (cond (eqb k 3) q.reasons
    (cond (eqb k 4) q.manufacturers
    (cond (eqb k 5) q.dosage_types
    (cond (eqb k 6) q.reasons_not
    (cond (eqb k 7) q.with_reason
    (cond (eqb k 8) q.with_antigen
    (cond (eqb k 9) q.end 0)))))))

-- how many whole entries of kind k stand between two bounds; none where these do not lie in the book
unfoldable pub count_from : Text → ℕ → ℕ → ℕ → ℕ
count_from s k from to = cond (leb from to && leb to (length s)) ((to - from) / (body_width k + 1)) 0

-- how many its section holds
unfoldable pub count_in : Text → Sections → ℕ → ℕ
count_in s q k = count_from s k (section_start q k) (section_start q (k + 1))

-- where entry i starts of those of kind k that start at `from`
unfoldable pub place_of : ℕ → ℕ → ℕ → ℕ
place_of k from i = from + i * (body_width k + 1)

-- its code
unfoldable pub code_at : Text → ℕ → ℕ → ℕ → Text
code_at s k from i = take (code_width k) (drop (place_of k from i + 1) s)

-- how its code stands to this one
unfoldable pub order_at : Text → ℕ → ℕ → Text → ℕ → Ordering
order_at s k from code i = order_of (code_at s k from i) code

unfoldable pub found_at : ℕ → ℕ → ℕ → Option Position
found_at k from i = Some (record { at = place_of k from i })

-- so many hashes there are
abbrev pub hashes : ℕ
hashes = 32768

-- so much less a byte counts, modulo the hashes, so that a blank counts 0
abbrev pub less_blank : ℕ
less_blank = 32736

-- what the text after the first byte counts for, and the second text of a code after the first
abbrev pub text_weight : ℕ
text_weight = 37

abbrev pub second_weight : ℕ
second_weight = 1021

-- the hash of a text: by its bytes, of which a blank counts 0, so the same with and without blanks after it
unfoldable pub hash_of : Text → ℕ
hash_of [] = 0
hash_of (b ∷ t) = (hash_of t * text_weight + b + less_blank) % hashes

-- the hash of a code of kind k: of the kind, of the code or the first of two, and of the second
unfoldable pub code_hash : ℕ → Text → ℕ
code_hash k code = (hash_of (drop (first_width k) code) * second_weight + hash_of (take (first_width k) code) + k) % hashes

-- which entry of a kind the table from `end` on names for a code: two bytes, the lower first; 0 for a byte that is not there
unfoldable pub entry_hashed : Text → ℕ → ℕ → Text → ℕ
entry_hashed s end k code =
    let table = drop end s in
    let at = code_hash k code * 2 in
    get_or table at 0 + get_or table (at + 1) 0 * 256

-- where entry i is of the n of kind k that start at `from`, if there is one and it has the code
unfoldable pub named_in : Text → ℕ → ℕ → ℕ → Text → ℕ → Option Position
named_in s k from n code i = cond (ltb i n && same (code_at s k from i) code) (found_at k from i) None

-- where one of them is that has the code, by binary search
unfoldable pub searched_in : Text → ℕ → ℕ → ℕ → Text → Option Position
searched_in s k from n code = binary_search (order_at s k from code) (found_at k from) None n 0 n

-- the first place, or the second where there is none
abbrev pub else_found : Option Position → Option Position → Option Position
else_found (Some p) f = Some p
else_found None f = f

-- where one of them is that has the code: entry i is asked first
unfoldable pub sought_in : Text → ℕ → ℕ → ℕ → Text → ℕ → Option Position
sought_in s k from n code i = else_found (named_in s k from n code i) (searched_in s k from n code)

-- where the entry is that has this kind, and this code as the book writes it
unfoldable pub found_in : Text → Sections → ℕ → Text → Option Position
found_in s q k code =
    cond (leb k 8 && eqb (length code) (code_width k)) (sought_in s k (section_start q k) (count_in s q k) code (entry_hashed s q.end k code)) None

abbrev pub is_there : Option Position → Bool
is_there None = false
is_there (Some p) = true

-- something holds of the entry of kind k that was found
abbrev pub is_such_at : Text → (Entry → Bool) → ℕ → Option Position → Bool
is_such_at s p k None = false
is_such_at s p k (Some a) = p (entry_of k (drop (a.at + 1) s))

-- the code is known
unfoldable pub known_by : Text → Sections → ℕ → Text → Bool
known_by s q k code = is_there (found_in s q k code)

-- the code is in force on day d
unfoldable pub in_force_by : Text → Sections → ℕ → ℕ → Text → Bool
in_force_by s q d k code = is_such_at s (in_force d) k (found_in s q k code)

-- the code ended before day u
unfoldable pub ended_by : Text → Sections → ℕ → ℕ → Text → Bool
ended_by s q u k code = is_such_at s (ended_before u) k (found_in s q k code)

-- the code is in force on day d, and did not end before day u
unfoldable pub in_force_until_by : Text → Sections → ℕ → ℕ → ℕ → Text → Bool
in_force_until_by s q d u k code = in_force_by s q d k code && not (ended_by s q u k code)

-- what is said of a code on day d, where its end is not to be before day u
unfoldable pub standing_by : Text → Sections → ℕ → Text → ℕ → ℕ → Standing
standing_by s q k code d u = cond (known_by s q k code) (cond (in_force_until_by s q d u k code) InForce OutOfForce) Unknown

-- The hash table

-- entry i of those of kind k that start at `from`, put into a table
unfoldable pub hash_entry : Text → ℕ → ℕ → ℕ → Text → Text
hash_entry s k from i t =
    let at = code_hash k (code_at s k from i) * 2 in
    set (set t at (i % 256)) (at + 1) (i / 256 % 256)

-- the first n of them
unfoldable pub hash_entries : Text → ℕ → ℕ → ℕ → Text → Text
hash_entries s k from zero t = t
hash_entries s k from (suc n) t = hash_entry s k from n (hash_entries s k from n t)

-- all entries of kind k
abbrev pub hash_kind : Text → Sections → ℕ → Text → Text
hash_kind s q k t = hash_entries s k (section_start q k) (count_in s q k) t

-- the entries of the first kinds
unfoldable pub hash_kinds : Text → Sections → ℕ → Text → Text
hash_kinds s q zero t = t
hash_kinds s q (suc k) t = hash_kind s q (suc k) (hash_kinds s q k t)

-- a book at the front of a buffer, and its hash table after it; the buffer as it is where it is too small for the book
unfoldable pub with_hash_table : Text → Sections → Text → Text
with_hash_table s q buffer = cond (leb (length s) (length buffer)) (s ++ hash_kinds s q 8 (drop (length s) buffer)) buffer

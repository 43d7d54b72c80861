-- What the crate's own functions answer: cited by private contracts and by laws.
-- Assumes nothing.
use Rattle.std.specs.Prelude.{ℕ, suc, ◌+◌, ◌≤◌, ◌<◌, ◌≡◌, Bool, true, false, not, cond, ◌&&◌, List, [], ◌∷◌, ◌++◌, length, get_or, take, drop, eqb, leb, Option, Some, None}
use Rattle.house.specs.Text.{Text, below, pad, order_of}
use Rattle.std.specs.declared.cmp.Ordering.{Ordering}
use Rattle.book.specs.declared.Sections.{Sections}
use Rattle.book.specs.declared.Layout.{Layout}
use Rattle.book.specs.declared.Standing.{Standing}
use Rattle.book.specs.declared.Standing.TheVariants.{Unknown, OutOfForce, InForce}
use Rattle.book.specs.LookUp.{section_start, count_from, entry_hashed, named_in, searched_in, sought_in, is_there, is_such_at}
use Rattle.book.specs.Book.{first_width, second_width, code_width, body_width, Entry, entry_of, entries, code_of, body_form, entry_form, above, bytes_before, in_force, ended_before, code_text}
use Rattle.book.specs.declared.Position.{Position}

-- Validity, kind by kind

-- each entry has its form and stands above the one before it, the first above (k, c)
unfoldable pub sound_from : ℕ → Text → List Entry → Bool
sound_from k c [] = true
sound_from k c (e ∷ es) = above k c e && entry_form e && sound_from e.kind (code_of e) es

-- the body of an entry of kind k has its form, and a code above c
unfoldable pub body_follows : ℕ → Text → Text → Bool
body_follows k c t = body_form k t && below c (take (code_width k) t)

-- how many bytes the entry at the front has, if it is of kind k, of its form, and above c; else 0
unfoldable pub step_len : ℕ → Text → Text → ℕ
step_len k c [] = 0
step_len k c (b ∷ s) = cond (eqb b k && (entry_form (entry_of b s) && below c (code_of (entry_of b s)))) (suc (body_width b)) 0

-- what the run of such entries from `from` to r leaves
pub record RunIs (s : Text) (from k r : ℕ) : Type 0 where
  pub on : from ≤ r
  pub within : r ≤ length s
  pub sound : sound_from k [] (entries (drop from s)) ≡ sound_from (k + 1) [] (entries (drop r s))
  pub starts : (j : ℕ) → k < j → from + bytes_before j (entries (drop from s)) ≡ r + bytes_before j (entries (drop r s))

-- Look-up

abbrev pub is_byte : ℕ → ℕ → Bool
is_byte v b = eqb b v

-- a Boolean tells whether something holds
pub record Tells (P : Type 0) (r : Bool) : Type 0 where
  pub holds : r ≡ true → P
  pub fails : r ≡ false → P → ⊥

-- all bytes from a place to another are blanks
abbrev pub Blank : Text → ℕ → ℕ → Type 0
Blank s from to = (j : ℕ) → from ≤ j → j < to → get_or s j 0 ≡ 32

-- the four bytes at a place are those at place i of a text
abbrev pub FourSame : Text → ℕ → Text → ℕ → Type 0
FourSame s at t i = (k : ℕ) → k < 4 → get_or s (at + k) 0 ≡ get_or t (i + k) 0

-- the first n bytes of a text stand at a place
abbrev pub Stands : Text → ℕ → Text → ℕ → Type 0
Stands s at t n = (j : ℕ) → j < n → get_or s (at + j) 0 ≡ get_or t j 0

-- neither text is longer than its width
unfoldable pub fits : ℕ → Text → Text → Bool
fits k a b = leb (length a) (first_width k) && leb (length b) (second_width k)

-- a code of texts that fit
unfoldable pub code_padded : ℕ → Text → Text → Text
code_padded k a b = pad (first_width k) a ++ pad (second_width k) b

-- how the code of p bytes at a place, and the one of q after it, stand to two texts, padded
unfoldable pub code_order : Text → ℕ → ℕ → ℕ → Text → Text → Ordering
code_order s at p q a b = order_of (take (p + q) (drop at s)) (pad p a ++ pad q b)

-- a layout, written out
abbrev pub layout : ℕ → ℕ → ℕ → ℕ → ℕ → Layout
layout f t a b e = record { from = f; to = t; first = a; second = b; entry = e }

-- a layout has the widths of kind k
pub record WidthsAre (k : ℕ) (w : Layout) : Type 0 where
  pub first_is : w.first ≡ first_width k
  pub second_is : w.second ≡ second_width k
  pub entry_is : w.entry ≡ body_width k + 1
  pub codes_in : w.first + w.second < w.entry
  pub small : w.entry ≤ 49

-- it is that of kind k, by these sections
pub record LayoutIs (q : Sections) (k : ℕ) (w : Layout) : Type 0 where
  pub starts : w.from ≡ section_start q k
  pub ends : w.to ≡ section_start q (k + 1)
  pub widths : WidthsAre k w

-- it has the widths of kind k, and its bounds lie in the book
pub record Laid (s : Text) (k : ℕ) (w : Layout) : Type 0 where
  pub up : w.from ≤ w.to
  pub within : w.to ≤ length s
  pub widths : WidthsAre k w

-- an entry of kind k that was found lies in the book
abbrev pub Lies : Text → ℕ → Option Position → Type 0
Lies s k None = Unit {0}
Lies s k (Some p) = p.at + 1 + body_width k ≤ length s

-- what a look-up among the entries of a kind hands back
pub record FoundIs (s : Text) (k : ℕ) (f r : Option Position) : Type 0 where
  pub exact : r ≡ f
  pub lies : Lies s k r

-- by entry i alone, by binary search, by both, and by both with the entry that the table from `end` on names
abbrev pub NamedIs : Text → ℕ → Layout → ℕ → Text → Text → Option Position → Type 0
NamedIs s k w i a b r = FoundIs s k (named_in s k w.from (count_from s k w.from w.to) (code_text k a b) i) r

abbrev pub SearchedIs : Text → ℕ → Layout → Text → Text → Option Position → Type 0
SearchedIs s k w a b r = FoundIs s k (searched_in s k w.from (count_from s k w.from w.to) (code_text k a b)) r

abbrev pub SoughtIs : Text → ℕ → Layout → ℕ → Text → Text → Option Position → Type 0
SoughtIs s k w i a b r = FoundIs s k (sought_in s k w.from (count_from s k w.from w.to) (code_text k a b) i) r

abbrev pub HashedIs : Text → ℕ → Layout → ℕ → Text → Text → Option Position → Type 0
HashedIs s k w end a b r = SoughtIs s k w (entry_hashed s end k (code_text k a b)) a b r

-- the entry of kind k that has the code of two texts, among those laid out so, by the table from `end` on
unfoldable pub found_by : Text → ℕ → Layout → ℕ → Text → Text → Option Position
found_by s k w end a b =
    let code = code_text k a b in
    cond (eqb (length code) (code_width k)) (sought_in s k w.from (count_from s k w.from w.to) code (entry_hashed s end k code)) None

-- an entry is in force on day d, and did not end before day u
abbrev pub in_force_until : ℕ → ℕ → Entry → Bool
in_force_until d u e = in_force d e && not (ended_before u e)

-- what it says on day d, where its end is not to be before day u
unfoldable pub said_by : Text → ℕ → Layout → ℕ → Text → Text → ℕ → ℕ → Standing
said_by s k w end a b d u =
    let f = found_by s k w end a b in
    cond (is_there f) (cond (is_such_at s (in_force_until d u) k f) InForce OutOfForce) Unknown

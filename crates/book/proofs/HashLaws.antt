-- What each need of the hash table asks: `hash`, `hashed`, `put_byte`, `hash_entry`, `hash_entries`, `hash_kinds` and `hash_book`.
-- Assumes nothing.
use mathlib.Core.Path.{◌≡◌, refl, sym, ap, ◌∙◌}
use mathlib.Core.Bool.{true}
use mathlib.Core.List.{[], ◌∷◌, ◌++◌, append-nil}
use Prim.Native.Nat.{ℕ, zero, suc, ◌+◌, ◌-◌, ◌*◌, ◌/◌, ◌%◌, ◌≤◌, ◌<◌}
use native.Mathlib.Nat.{mod-lt, add-zero, zero-add, suc-add, add-sub_cancel_left}
use native.Mathlib.Numerals.{add-one}
use native.Mathlib.Omega.{arith}
use borrow.Author.Tests.{le-leb, lt-leb}
use borrow.Author.Rules.{rules}
use borrow.Rule.Slice.PartMut.{put_mid}
use lib.ListN.{length, take, drop, get_or, set, length-append, get_or-eq_default}
use lib.Seq.{take-append_seam, drop-append_seam, take_all, take-take, drop-drop}
use Rattle.house.specs.Text.{Text}
use Rattle.house.proofs.Suffix.{drop_here, drop_past, rest, set_past}
use Rattle.book.specs.declared.Sections.{Sections}
use Rattle.book.specs.declared.Layout.{Layout}
use Rattle.book.specs.Book.{first_width, second_width, code_width, body_width, filled, code_text}
use Rattle.book.specs.LookUp.{section_start, count_from, count_in, place_of, code_at, hash_of, code_hash, entry_hashed, hash_entry, hash_entries, hash_kinds, with_hash_table}
use Rattle.book.specs.Inside.{fits, WidthsAre, LayoutIs}
use Rattle.book.proofs.FitLaws.{fit_says, filled_fits}
use Rattle.book.proofs.SearchLaws.{probe_mul, probe_add, probe_body, probe_code}

-- hash
module _ (t : Text) where
  pub hash_start : 0 ≡ hash_of (drop (length t) t)
  unfolding hash_of
  hash_start = rw (drop_past t (length t) (omega arith))

  module _ (h i : ℕ) (inv : h ≡ hash_of (drop i t)) where
    pub hash_more : (v : ℕ) → 0 < i → i ≤ length t → v ≡ get_or t (i - 1) 0 → (h * 37 + v + 32736) % 32768 ≡ hash_of (drop (i - 1) t)
    unfolding hash_of
    hash_more v z l e =
        let d : i - 1 + 1 ≡ i = omega arith in
        rw (drop_here t (i - 1) (omega arith), d, ← inv, ← e)

    pub hash_end : i ≤ 0 → h ≡ hash_of t
    hash_end l = let d : i ≡ 0 = omega arith in inv ∙ rw d

pub hash_low : (n : ℕ) → n % 32768 < 32768
hash_low n = mod-lt n (omega arith)

pub ruleset for_hash = (rules, hash_start, hash_more, hash_end, hash_low)

-- a byte past the end
pub byte_past : (t : Text) (at : ℕ) → length t ≤ at → 0 ≡ get_or t at 0
byte_past t at l = sym (get_or-eq_default t 0 l)

-- hashed: padding counts 0
hash_blanks : (w : ℕ) → hash_of (filled w []) ≡ 0
unfolding hash_of
hash_blanks zero = refl
hash_blanks (suc w) = rw (hash_blanks w)

hash_filled : (w : ℕ) (t : Text) → hash_of (filled w t) ≡ hash_of t
unfolding hash_of
hash_filled zero t = refl
hash_filled (suc w) [] = hash_blanks (suc w)
hash_filled (suc w) (b ∷ t) = rw (hash_filled w t)

code_hash_lem : (k : ℕ) (a b : Text) → fits k a b ≡ true → code_hash k (code_text k a b) ≡ (hash_of b * 1021 + hash_of a + k) % 32768
unfolding code_hash code_text
code_hash_lem k a b f =
    let n : first_width k ≡ length (filled (first_width k) a) = sym (filled_fits (first_width k) a (fit_says k a b f).0) in
    let x : take (first_width k) (filled (first_width k) a ++ filled (second_width k) b) ≡ filled (first_width k) a = ap (λ (j : ℕ). take j (filled (first_width k) a ++ filled (second_width k) b)) n ∙ take-append_seam (filled (first_width k) a) (filled (second_width k) b) in
    let y : drop (first_width k) (filled (first_width k) a ++ filled (second_width k) b) ≡ filled (second_width k) b = ap (λ (j : ℕ). drop j (filled (first_width k) a ++ filled (second_width k) b)) n ∙ drop-append_seam (filled (first_width k) a) (filled (second_width k) b) in
    rw (x, y, hash_filled (first_width k) a, hash_filled (second_width k) b)

module _ (s : Text) (end k : ℕ) (a b : Text) where
  pub entry_hashed_none : length s < end → 0 ≡ entry_hashed s end k (code_text k a b)
  unfolding entry_hashed
  entry_hashed_none l = rw (drop_past s end (omega arith))

  module _ (m : ℕ) (em : m ≡ (hash_of b * 1021 + hash_of a + k) % 32768) (f : fits k a b ≡ true) where
    is_hash : entry_hashed s end k (code_text k a b) ≡ get_or (drop end s) (m * 2) 0 + get_or (drop end s) (m * 2 + 1) 0 * 256
    unfolding entry_hashed
    is_hash = rw (code_hash_lem k a b f, ← em)

    pub entry_hashed_past : (x : ℕ) → length (take (length s - end) (drop end s)) ≤ m * 2 + 1 → x ≡ get_or (take (length s - end) (drop end s)) (m * 2) 0
        → x ≡ entry_hashed s end k (code_text k a b)
    entry_hashed_past x l ex =
        let z : 0 ≡ get_or (drop end s) (m * 2 + 1) 0 = byte_past (drop end s) (m * 2 + 1) (omega (arith, ap length (rest s end))) in
        let y : x ≡ get_or (drop end s) (m * 2) 0 = ex ∙ ap (λ (t : Text). get_or t (m * 2) 0) (rest s end) in
        sym (is_hash ∙ omega arith)

    pub entry_hashed_is : (x y : ℕ) → x ≡ get_or (take (length s - end) (drop end s)) (m * 2) 0 → y ≡ get_or (take (length s - end) (drop end s)) (m * 2 + 1) 0
        → x + y * 256 ≡ entry_hashed s end k (code_text k a b)
    entry_hashed_is x y ex ey = rw (is_hash, ← rest s end, ← ex, ← ey)

pub ruleset for_hashed = (rules, entry_hashed_none, entry_hashed_past, entry_hashed_is)

-- put_byte
pub ruleset for_put_byte = (rules, set_past)

-- hash_entry
drop_take : (n m : ℕ) (t : Text) → drop n (take (n + m) t) ≡ take m (drop n t)
drop_take zero m t = ap (λ (j : ℕ). take j t) (zero-add m)
drop_take (suc n) zero [] = rw (add-zero (suc n))
drop_take (suc n) (suc m) [] = ap (λ (j : ℕ). drop (suc n) (take j [])) (suc-add n (suc m))
drop_take (suc n) m (x ∷ t) = ap (λ (j : ℕ). drop (suc n) (take j (x ∷ t))) (suc-add n m) ∙ drop_take n m t

module _ (s : Text) (from n i w p q : ℕ) (h : i < n) (g : n * w ≤ length s - from) (v : p + q < w) where
  pub row_part : from + i * w + 1 + p ≤ length s
  row_part = omega (arith, probe_code s from n i w p q h g v)

module _ (s : Text) (from n i w p q : ℕ) (h : i < n) (g : n * w ≤ length s - from) (v : p + q < w) (z : length s < 18446744073709551616) where
  pub row_first : from + i * w + 1 + p < 18446744073709551616
  row_first = omega (arith, probe_code s from n i w p q h g v)

  pub row_second : from + i * w + 1 + p + q < 18446744073709551616
  row_second = omega (arith, probe_code s from n i w p q h g v)

module _ (k : ℕ) (w : Layout) (h : WidthsAre k w) where
  pub row_codes : w.first + w.second < w.entry
  row_codes = h.codes_in

  pub row_noted : (s : Text) (i : ℕ) (t u v : Text) (m : ℕ)
      → m ≡ (hash_of (take (w.from + i * w.entry + 1 + w.first + w.second - (w.from + i * w.entry + 1 + w.first)) (drop (w.from + i * w.entry + 1 + w.first) s)) * 1021 + hash_of (take (w.from + i * w.entry + 1 + w.first - (w.from + i * w.entry + 1)) (drop (w.from + i * w.entry + 1) s)) + k) % 32768
      → u ≡ set t (m * 2) (i % 256) → v ≡ set u (m * 2 + 1) (i / 256 % 256) → v ≡ hash_entry s k w.from i t
  unfolding hash_entry code_hash code_at place_of code_width
  row_noted s i t u v m em eu ev =
      let x : take (first_width k) (take (first_width k + second_width k) (drop (w.from + i * (body_width k + 1) + 1) s)) ≡ take (w.from + i * w.entry + 1 + w.first - (w.from + i * w.entry + 1)) (drop (w.from + i * w.entry + 1) s) =
      take-take (first_width k) (first_width k + second_width k) (drop (w.from + i * (body_width k + 1) + 1) s) (omega arith) ∙ rw (add-sub_cancel_left (w.from + i * w.entry + 1) w.first, h.entry_is, h.first_is) in
      let y : drop (first_width k) (take (first_width k + second_width k) (drop (w.from + i * (body_width k + 1) + 1) s)) ≡ take (w.from + i * w.entry + 1 + w.first + w.second - (w.from + i * w.entry + 1 + w.first)) (drop (w.from + i * w.entry + 1 + w.first) s) =
      drop_take (first_width k) (second_width k) (drop (w.from + i * (body_width k + 1) + 1) s) ∙ rw (add-sub_cancel_left (w.from + i * w.entry + 1 + w.first) w.second, h.entry_is, h.first_is, h.second_is, drop-drop (first_width k) (w.from + i * (body_width k + 1) + 1) s) in
      ev ∙ rw (eu, em, ← x, ← y)

pub ruleset for_hash_entry = (rules, probe_mul, probe_add, probe_body, probe_code, row_codes, row_part, row_first, row_second, row_noted)

-- hash_entries
module _ (s : Text) (k from : ℕ) (t₀ : Text) where
  pub rows_start : t₀ ≡ hash_entries s k from 0 t₀
  unfolding hash_entries
  rows_start = refl

  pub rows_on : (i : ℕ) (t u : Text) → t ≡ hash_entries s k from i t₀ → u ≡ hash_entry s k from i t → u ≡ hash_entries s k from (i + 1) t₀
  unfolding hash_entries
  rows_on i t u e f = rw (add-one, ← e) f

  pub rows_end : (i n : ℕ) (t : Text) (q : Sections) (w : Layout) → LayoutIs q k w → t ≡ hash_entries s k w.from i t₀ → i ≤ n → n ≤ i → n ≡ count_from s k w.from w.to
      → t ≡ hash_entries s k (section_start q k) (count_in s q k) t₀
  unfolding count_in
  rows_end i n t q w h e l m g = let d : i ≡ n = omega arith in rw (← h.starts, ← h.ends, ← g, ← d) e

pub rows_widths : (q : Sections) (k : ℕ) (w : Layout) → LayoutIs q k w → WidthsAre k w
rows_widths q k w h = h.widths

pub ruleset for_hash_entries = (rules, rows_start, rows_on, rows_end, rows_widths)

-- hash_kinds
module _ (s : Text) (q : Sections) (t₀ : Text) where
  pub kinds_start : t₀ ≡ hash_kinds s q 0 t₀
  unfolding hash_kinds
  kinds_start = refl

  pub kinds_on : (k : ℕ) (t u : Text) → 1 ≤ k → t ≡ hash_kinds s q (k - 1) t₀ → u ≡ hash_entries s k (section_start q k) (count_in s q k) t → u ≡ hash_kinds s q (k + 1 - 1) t₀
  unfolding hash_kinds
  kinds_on zero t u h e f = absurd (omega arith)
  kinds_on (suc k) t u h e f =
      let d : suc k + 1 - 1 ≡ suc k = omega arith in
      let m : suc k - 1 ≡ k = omega arith in
      let g : t ≡ hash_kinds s q k t₀ = e ∙ ap (λ (j : ℕ). hash_kinds s q j t₀) m in
      rw (d, ← g) f

  pub kinds_end : (k : ℕ) (t : Text) → t ≡ hash_kinds s q (k - 1) t₀ → k ≤ 9 → 9 ≤ k → t ≡ hash_kinds s q 8 t₀
  kinds_end k t e l m = let d : k ≡ 9 = omega arith in rw d at e

pub ruleset for_hash_kinds = (rules, kinds_start, kinds_on, kinds_end)

-- hash_book
module _ (s : Text) (q : Sections) (room : Text) where
  pub hash_book_small : length room < length s → room ≡ with_hash_table s q room
  unfolding with_hash_table
  hash_book_small h = rw (lt-leb _ _ h)

  module _ (h : length s ≤ length room) (u : Text) (e : u ≡ s ++ drop (length s) room) where
    pub hash_book_part : length s ≤ length u
    hash_book_part = rw e (omega (arith, length-append s (drop (length s) room)))

    after_front : drop (length s) u ≡ drop (length s) room
    after_front = rw e (drop-append_seam s (drop (length s) room))

    size : length u - length s ≡ length (drop (length s) room)
    size = omega (arith, ap length e, length-append s (drop (length s) room))

    pub hash_book_is : (t : Text) → t ≡ hash_kinds s q 8 (take (length u - length s) (drop (length s) u)) → put_mid (length s) (length u - length s) u t ≡ with_hash_table s q room
    unfolding with_hash_table
    hash_book_is t f =
        let all : take (length u - length s) (drop (length s) u) ≡ drop (length s) room = ap (take (length u - length s)) after_front ∙ take_all (length u - length s) (drop (length s) room) (omega (arith, size)) in
        let none : drop (length u - length s) (drop (length s) u) ≡ [] = ap (drop (length u - length s)) after_front ∙ drop_past (drop (length s) room) (length u - length s) (omega (arith, size)) in
        let front : take (length s) u ≡ s = ap (take (length s)) e ∙ take-append_seam s (drop (length s) room) in
        rw (le-leb _ _ h, none, front, append-nil) (ap (λ (x : Text). s ++ x) (f ∙ ap (hash_kinds s q 8) all))

pub ruleset for_hash_book = (rules, hash_book_small, hash_book_part, hash_book_is)

-- What each need of the look-up asks: `probe`, `named`, `binary_search`, `sought`, `in_section`, `found` and `find`.
-- Assumes nothing.
use mathlib.Core.Path.{◌≡◌, sym, ap, ◌∙◌}
use mathlib.Core.Bool.{Bool, true, false, ◌&&◌}
use Prim.Native.Nat.{ℕ, suc, ◌+◌, ◌-◌, ◌*◌, ◌/◌, ◌≤◌, ◌<◌}
use native.Mathlib.Nat.{suc-mul, mul-le-mul, mul-le-mul_right, le-div_iff_mul-le, div-lt_iff_lt-mul}
use native.Mathlib.Omega.{arith}
use borrow.Author.Tests.{le-leb, lt-leb, le-ltb, lt-ltb}
use borrow.Author.Rules.{rules}
use lib.Dec.{leb, ltb}
use lib.ListN.{length}
use Rattle.house.specs.Text.{Text, is_same, same}
use Rattle.house.specs.Search.{binary_search}
use Rattle.std.specs.declared.cmp.Ordering.{Ordering}
use Rattle.std.specs.declared.cmp.Ordering.TheVariants.{Less, Equal, Greater}
use Rattle.house.proofs.SearchLaws.{Halves, halves_start, halves_end, turn_up, turn_down, turn_hit}
use Rattle.book.specs.declared.Sections.{Sections}
use Rattle.book.specs.declared.Layout.{Layout}
use Rattle.book.specs.declared.Position.{Position}
use Rattle.book.specs.Book.{first_width, second_width, code_width, body_width, code_text}
use Rattle.book.specs.LookUp.{count_from, count_in, place_of, code_at, order_at, found_at, entry_hashed, named_in, searched_in, sought_in, found_in}
use Rattle.book.specs.Inside.{fits, code_padded, code_order, found_by, WidthsAre, LayoutIs, Laid, FoundIs, NamedIs, SearchedIs, SoughtIs, HashedIs}
use Rattle.book.proofs.FitLaws.{fit_says, code_text_lem, fits_is}
use Rattle.book.proofs.LayoutLaws.{count_is_lem, count_in_lem, count_back, count_out}
use Rattle.std.proofs.Common.{Option, Some, None}

-- probe
module _ (s : Text) (from n i w p q : ℕ) (h : i < n) (g : n * w ≤ length s - from) (v : p + q < w) where
  probe_in : from + i * w + w ≤ length s
  probe_in =
      let a : suc i * w ≤ n * w = mul-le-mul_right w (omega arith) in
      omega (arith, suc-mul i w)

  module _ (z : length s < 18446744073709551616) where
    pub probe_mul : i * w < 18446744073709551616
    probe_mul = omega (arith, probe_in)

    pub probe_add : from + i * w < 18446744073709551616
    probe_add = omega (arith, probe_in)

    pub probe_body : from + i * w + 1 < 18446744073709551616
    probe_body = omega (arith, probe_in)

  pub probe_code : from + i * w + 1 + p + q ≤ length s
  probe_code = omega (arith, probe_in)

pub ruleset for_probe = (rules, probe_mul, probe_add, probe_body, probe_code)

-- entries that are laid out so
module _ (s : Text) (k : ℕ) (w : Layout) (h : Laid s k w) where
  pub laid_up : w.from ≤ w.to
  laid_up = h.up

  pub laid_widths : WidthsAre k w
  laid_widths = h.widths

  laid_pos : 0 < w.entry
  laid_pos = omega (arith, h.widths.codes_in)

  pub laid_codes : w.first + w.second < w.entry
  laid_codes = h.widths.codes_in

  laid_count : (w.to - w.from) / w.entry * w.entry ≤ length s - w.from
  laid_count = count_in_lem s k w.from w.to h.up h.within w.entry

  count : (w.to - w.from) / w.entry ≡ count_from s k w.from w.to
  count = count_is_lem s k w.from w.to h.up h.within w.entry h.widths.entry_is

  -- named
  module _ (i : ℕ) where
    pub named_mul : i < 65536 → (i + 1) * w.entry < 18446744073709551616
    named_mul l =
        let j : i + 1 ≤ 65536 = omega arith in
        let g : (i + 1) * w.entry ≤ 65536 * 49 = mul-le-mul j h.widths.small in
        omega arith

    module _ (g : (i + 1) * w.entry ≤ w.to - w.from) where
      named_under : i < (w.to - w.from) / w.entry
      named_under =
          let z : i + 1 ≤ (w.to - w.from) / w.entry = (le-div_iff_mul-le laid_pos).1 g in
          omega arith

      module _ (z : length s < 18446744073709551616) where
        pub named_entry : i * w.entry < 18446744073709551616
        named_entry = probe_mul s w.from ((w.to - w.from) / w.entry) i w.entry w.first w.second named_under laid_count laid_codes z

        pub named_at : w.from + i * w.entry < 18446744073709551616
        named_at = probe_add s w.from ((w.to - w.from) / w.entry) i w.entry w.first w.second named_under laid_count laid_codes z

        pub named_body : w.from + i * w.entry + 1 < 18446744073709551616
        named_body = probe_body s w.from ((w.to - w.from) / w.entry) i w.entry w.first w.second named_under laid_count laid_codes z

      pub named_code : w.from + i * w.entry + 1 + w.first + w.second ≤ length s
      named_code = probe_code s w.from ((w.to - w.from) / w.entry) i w.entry w.first w.second named_under laid_count laid_codes

    module _ (a b : Text) where
      pub named_past : w.to - w.from < (i + 1) * w.entry → NamedIs s k w i a b None
      unfolding named_in
      named_past l =
          let z : (w.to - w.from) / w.entry < i + 1 = (div-lt_iff_lt-mul laid_pos).1 l in
          let o : count_from s k w.from w.to ≤ i = omega (arith, count) in
          record { exact = rw (le-ltb i (count_from s k w.from w.to) o); lies = tt }

      module _ (f : fits k a b ≡ true) where
        pub named_first : length a ≤ w.first
        named_first = omega (arith, (fit_says k a b f).0, h.widths.first_is)

        pub named_second : length b ≤ w.second
        named_second = omega (arith, (fit_says k a b f).1, h.widths.second_is)

        module _ (g : (i + 1) * w.entry ≤ w.to - w.from) (r : Bool) (e : r ≡ is_same (code_order s (w.from + i * w.entry + 1) w.first w.second a b)) where
          asked : (ltb i (count_from s k w.from w.to) && same (code_at s k w.from i) (code_text k a b)) ≡ r
          unfolding code_at place_of same code_order code_padded code_width
          asked =
              let u : i < count_from s k w.from w.to = omega (arith, count, named_under g) in
              sym (e ∙ rw (h.widths.entry_is, h.widths.first_is, h.widths.second_is, lt-ltb i (count_from s k w.from w.to) u, code_text_lem k a b f))

          pub named_miss : r ≡ false → NamedIs s k w i a b None
          unfolding named_in
          named_miss z = record { exact = rw (asked, z); lies = tt }

          pub named_hit : r ≡ true → NamedIs s k w i a b (Some (record { at = w.from + i * w.entry }))
          unfolding named_in found_at place_of
          named_hit z =
              record {
                exact = rw (asked, z, h.widths.entry_is);
                lies = omega (arith, probe_in s w.from ((w.to - w.from) / w.entry) i w.entry w.first w.second (named_under g) laid_count laid_codes, h.widths.entry_is);
              }

pub ruleset for_named = (rules, laid_up, named_mul, named_entry, named_at, named_body, named_code, named_past, named_first, named_second, named_miss, named_hit)

-- binary_search: what is left to search
abbrev pub Seeks : Text → ℕ → ℕ → ℕ → Text → ℕ → ℕ → Type 0
Seeks s k from n x lo hi = Halves (order_at s k from x) (found_at k from) None (binary_search (order_at s k from x) (found_at k from) None n 0 n) lo hi

module _ (s : Text) (k from n : ℕ) where
  pub search_start : (x : Text) → Seeks s k from n x 0 n
  search_start x = halves_start (order_at s k from x) (found_at k from) None n

module _ (s : Text) (k : ℕ) (w : Layout) (n lo hi : ℕ) (a b : Text) (y : Laid s k w) (inv : Seeks s k w.from n (code_padded k a b) lo hi) where
  module _ (h : lo < hi) (o : Ordering) (e : o ≡ code_order s (w.from + (lo + (hi - lo) / 2) * w.entry + 1) w.first w.second a b) where
    probed : order_at s k w.from (code_padded k a b) (lo + (hi - lo) / 2) ≡ o
    unfolding order_at code_at place_of code_padded code_order code_width
    probed = rw (e, y.widths.entry_is, y.widths.first_is, y.widths.second_is)

    pub search_up : o ≡ Less → Seeks s k w.from n (code_padded k a b) (lo + (hi - lo) / 2 + 1) hi
    search_up z = turn_up (order_at s k w.from (code_padded k a b)) (found_at k w.from) None (binary_search (order_at s k w.from (code_padded k a b)) (found_at k w.from) None n 0 n) lo hi inv h o probed z

    pub search_down : o ≡ Greater → Seeks s k w.from n (code_padded k a b) lo (lo + (hi - lo) / 2)
    search_down z = turn_down (order_at s k w.from (code_padded k a b)) (found_at k w.from) None (binary_search (order_at s k w.from (code_padded k a b)) (found_at k w.from) None n 0 n) lo hi inv h o probed z

  module _ (en : n ≡ count_from s k w.from w.to) (u : n * w.entry ≤ length s - w.from) (f : fits k a b ≡ true) where
    sought : binary_search (order_at s k w.from (code_padded k a b)) (found_at k w.from) None n 0 n ≡ searched_in s k w.from (count_from s k w.from w.to) (code_text k a b)
    unfolding searched_in
    sought = rw (en, code_text_lem k a b f)

    pub search_end : hi ≤ lo → SearchedIs s k w a b None
    search_end h = record { exact = halves_end (order_at s k w.from (code_padded k a b)) (found_at k w.from) None (binary_search (order_at s k w.from (code_padded k a b)) (found_at k w.from) None n 0 n) lo hi inv h ∙ sought; lies = tt }

    pub search_hit : (h : lo < hi) (o : Ordering) (at : ℕ) → hi ≤ n → o ≡ code_order s (w.from + (lo + (hi - lo) / 2) * w.entry + 1) w.first w.second a b → at ≡ w.from + (lo + (hi - lo) / 2) * w.entry → o ≡ Equal → SearchedIs s k w a b (Some (record { at = at }))
    unfolding found_at place_of
    search_hit h o at g e v z =
        let r : at ≡ w.from + (lo + (hi - lo) / 2) * (body_width k + 1) = v ∙ ap (λ (x : ℕ). w.from + (lo + (hi - lo) / 2) * x) y.widths.entry_is in
        let m : lo + (hi - lo) / 2 < n = omega arith in
        record {
          exact = ap (λ (x : ℕ). Some (record { at = x })) r
              ∙ turn_hit (order_at s k w.from (code_padded k a b)) (found_at k w.from) None (binary_search (order_at s k w.from (code_padded k a b)) (found_at k w.from) None n 0 n) lo hi inv h o (probed h o e) z
              ∙ sought;
          lies = omega (arith, probe_in s w.from n (lo + (hi - lo) / 2) w.entry w.first w.second m u y.widths.codes_in, y.widths.entry_is);
        }

pub ruleset for_binary_search = (rules, laid_widths, laid_codes, search_start, search_up, search_down, search_end, search_hit)

-- sought
module _ (s : Text) (k : ℕ) (w : Layout) (i : ℕ) (a b : Text) (g : Option Position) (e : NamedIs s k w i a b g) where
  pub sought_named : (p : Position) → g ≡ Some p → SoughtIs s k w i a b (Some p)
  unfolding sought_in
  sought_named p h =
      let z : named_in s k w.from (count_from s k w.from w.to) (code_text k a b) i ≡ Some p = sym e.exact ∙ h in
      record { exact = rw z; lies = rw h at e.lies }

  pub sought_search : g ≡ None → (r : Option Position) → SearchedIs s k w a b r → SoughtIs s k w i a b r
  unfolding sought_in
  sought_search h r f =
      let z : named_in s k w.from (count_from s k w.from w.to) (code_text k a b) i ≡ None = sym e.exact ∙ h in
      record { exact = rw z f.exact; lies = f.lies }

pub ruleset for_sought = (rules, sought_named, sought_search)

-- in_section
none_sought : (s : Text) (k from : ℕ) (x : Text) (i : ℕ) → None ≡ sought_in s k from 0 x i
unfolding sought_in named_in searched_in binary_search
none_sought s k from x i = rw (le-ltb i 0 (omega arith))

module _ (s : Text) (k end : ℕ) (w : Layout) (a b : Text) where
  none_there : 0 ≡ count_from s k w.from w.to → HashedIs s k w end a b None
  none_there h = record { exact = rw (← h) (none_sought s k w.from (code_text k a b) (entry_hashed s end k (code_text k a b))); lies = tt }

  pub section_back : w.to < w.from → HashedIs s k w end a b None
  section_back h = none_there (count_back s k w.from w.to h)

  pub section_out : w.from ≤ w.to → length s < w.to → HashedIs s k w end a b None
  section_out g h = none_there (count_out s k w.from w.to g h)

  pub section_laid : WidthsAre k w → w.from ≤ w.to → w.to ≤ length s → Laid s k w
  section_laid h g l = record { up = g; within = l; widths = h }

  pub section_is : (i : ℕ) (r : Option Position) → i ≡ entry_hashed s end k (code_text k a b) → SoughtIs s k w i a b r → HashedIs s k w end a b r
  section_is i r e f = rw e at f

pub ruleset for_in_section = (rules, section_back, section_out, section_laid, section_is)

-- found
module _ (s : Text) (k end : ℕ) (w : Layout) (a b : Text) (e : WidthsAre k w) where
  unfit : fits k a b ≡ false → FoundIs s k (found_by s k w end a b) None
  unfolding found_by
  unfit h = record { exact = rw (← fits_is k a b, h); lies = tt }

  pub found_first : w.first < length a → FoundIs s k (found_by s k w end a b) None
  unfolding fits
  found_first h =
      let z : first_width k < length a = omega (arith, e.first_is) in
      unfit (rw (lt-leb (length a) (first_width k) z))

  module _ (g : length a ≤ w.first) where
    first_in : leb (length a) (first_width k) ≡ true
    first_in = le-leb (length a) (first_width k) (omega (arith, e.first_is))

    pub found_second : w.second < length b → FoundIs s k (found_by s k w end a b) None
    unfolding fits
    found_second h =
        let z : second_width k < length b = omega (arith, e.second_is) in
        unfit (rw (first_in, lt-leb (length b) (second_width k) z))

    module _ (h : length b ≤ w.second) where
      pub found_fits : fits k a b ≡ true
      unfolding fits
      found_fits =
          let z : length b ≤ second_width k = omega (arith, e.second_is) in
          rw (first_in, le-leb (length b) (second_width k) z)

      pub found_is : (r : Option Position) → HashedIs s k w end a b r → FoundIs s k (found_by s k w end a b) r
      unfolding found_by
      found_is r f = record { exact = f.exact ∙ rw (← fits_is k a b, found_fits); lies = f.lies }

pub ruleset for_found = (rules, found_first, found_second, found_fits, found_is)

-- find, and look_up: by the sections of a book
module _ (s : Text) (q : Sections) (k : ℕ) (a b : Text) where
  pub find_kind : 8 < k → None ≡ found_in s q k (code_text k a b)
  unfolding found_in
  find_kind h = rw (lt-leb k 8 h)

  module _ (w : Layout) (e : LayoutIs q k w) where
    pub find_widths : WidthsAre k w
    find_widths = e.widths

    pub find_by : k ≤ 8 → found_by s k w q.end a b ≡ found_in s q k (code_text k a b)
    unfolding found_in found_by count_in
    find_by l = rw (le-leb k 8 l, e.starts, e.ends)

    pub find_is : (r : Option Position) → k ≤ 8 → FoundIs s k (found_by s k w q.end a b) r → r ≡ found_in s q k (code_text k a b)
    find_is r l h = h.exact ∙ find_by l

pub ruleset for_find = (rules, find_kind, find_widths, find_is)

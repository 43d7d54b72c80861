-- The section of a kind in a valid book: its entries, and no other of that kind.
-- Assumes nothing.
use mathlib.Core.Path.{◌≡◌, refl, sym, ap, ◌∙◌, subst}
use mathlib.Core.Bool.{Bool, true}
use mathlib.Core.List.{List, [], ◌∷◌, ◌++◌}
use Prim.Native.Nat.{ℕ, zero, suc, ◌+◌, ◌-◌, ◌*◌, ◌≤◌}
use native.Mathlib.Nat.{mul-div_cancel}
use native.Mathlib.Omega.{arith}
use borrow.Author.Tests.{le-leb}
use lib.Dec.{leb}
use lib.ListN.{length, take, drop, length-take, length-drop, take-append-drop}
use lib.Seq.{drop-append-le}
use Rattle.house.specs.Text.{Text, any}
use Rattle.house.proofs.Small.{both}
use Rattle.book.specs.declared.Sections.{Sections}
use Rattle.book.specs.Book.{body_width, Entry, entries, bytes_before, book_ok, sections_of, Sound}
use Rattle.book.specs.LookUp.{section_start, count_from, count_in}
use Rattle.book.specs.Inside.{sound_from}
use Rattle.book.proofs.WidthLaws.{by_kind}
use Rattle.book.proofs.EntryLaws.{bytes_here, floor_zero}
use Rattle.book.proofs.OrderlyLaws.{book_is}
use Rattle.book.proofs.KindLaws.{Rows, any_row, rows_longer, any_longer, Only, rows_of, Skips, skips}

pub book_sound : (s : Text) → book_ok s ≡ true → sound_from 1 [] (entries s) ≡ true
book_sound s h = (both (leb (length s) 262144) (sound_from 1 [] (entries s)) (sym (book_is s) ∙ h)).1

bytes_zero : (es : List Entry) → bytes_before 0 es ≡ 0
unfolding bytes_before
bytes_zero [] = refl
bytes_zero (e ∷ es) = bytes_here 0 e es (omega arith)

starts_at : (s : Text) (k : ℕ) → book_ok s ≡ true → k ≤ 9 → section_start (sections_of s) k ≡ bytes_before k (entries s)
unfolding section_start sections_of
starts_at s zero h l = sym (bytes_zero (entries s))
starts_at s (suc zero) h l = sym (floor_zero 1 [] (entries s) (book_sound s h))
starts_at s (suc (suc k)) h l = by_kind (λ (j : ℕ). section_start (sections_of s) (suc j) ≡ bytes_before (suc j) (entries s)) refl refl refl refl refl refl refl refl (suc k) (omega arith) (omega arith)

-- the bytes s start with a book
pub record Section (s book : Text) (q : Sections) (k n : ℕ) : Type 0 where
  pub count : count_in s q k ≡ n
  pub rows : Rows k [] (drop (section_start q k) s) n
  pub asks : (p : Entry → Bool) → Only k p → any p (entries book) ≡ any_row k p (drop (section_start q k) s) n

pub section : (s : Text) (q : Sections) → Sound (take q.end s) q → (k : ℕ) → k ≤ 8 → (n : ℕ) × Section s (take q.end s) q k n
unfolding count_in count_from
section s q h k g =
    let book = take q.end s in
    let more = drop q.end s in
    let from = section_start q k in
    let to = section_start q (k + 1) in
    let ef : from ≡ bytes_before k (entries book) = ap (λ (y : Sections). section_start y k) h.sections ∙ starts_at book k h.ok (omega arith) in
    let et : to ≡ bytes_before (k + 1) (entries book) = ap (λ (y : Sections). section_start y (k + 1)) h.sections ∙ starts_at book (k + 1) h.ok (omega arith) in
    let y : Skips k book from = subst (λ (i : ℕ). Skips k book i) (sym ef) (skips k book 1 [] (book_sound book h.ok)) in
    let z = rows_of k (drop from book) [] y.sound in
    let t : to - from ≡ z.0 * (body_width k + 1) = omega (arith, y.span, z.1.span) in
    let a : from ≤ to = omega (arith, y.span) in
    let b : to ≤ length s = omega (arith, y.span, z.1.span, z.1.fits, y.within, length-drop from book, length-take q.end s) in
    let d : drop from s ≡ drop from book ++ more = ap (drop from) (sym (take-append-drop q.end s)) ∙ drop-append-le from book more y.within in (
      z.0,
      record {
        count = rw (le-leb from to a, le-leb to (length s) b, t) (mul-div_cancel z.0 (omega arith));
        rows = subst (λ (u : Text). Rows k [] u z.0) (sym d) (rows_longer k more z.0 [] (drop from book) z.1.rows z.1.fits);
        asks = λ p o. y.asks p o ∙ z.1.asks p o ∙ sym (any_longer k more p z.0 (drop from book) z.1.fits) ∙ ap (λ (u : Text). any_row k p u z.0) (sym d);
      },
    )

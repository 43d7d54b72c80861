-- What the answer of `valid` says of a book: its sections, where it ends, how long it is, and that the book with a hash table starts with it.
-- Assumes nothing.
use mathlib.Core.Path.{◌≡◌, refl, sym, ap, ◌∙◌}
use mathlib.Core.Bool.{Bool, true, false, cond}
use mathlib.Core.List.{[], ◌∷◌, ◌++◌}
use Prim.Native.Nat.{ℕ, ◌≤◌}
use native.Mathlib.Omega.{arith}
use borrow.Author.Tests.{le-leb, leb-true}
use lib.Dec.{leb}
use lib.ListN.{length, take, drop, length-drop}
use lib.Seq.{take-append_seam}
use Rattle.house.specs.Text.{Text}
use Rattle.house.proofs.Small.{clash, both}
use Rattle.book.specs.declared.Sections.{Sections}
use Rattle.book.specs.Book.{body_width, entry_of, entries, bytes_before, book_ok, sections_of, valid_of, Sound}
use Rattle.book.specs.LookUp.{hash_kinds, with_hash_table}
use Rattle.book.specs.Inside.{sound_from}
use Rattle.book.proofs.EntryLaws.{unroll, top_false}
use Rattle.book.proofs.OrderlyLaws.{book_is}
use Rattle.book.proofs.KindLaws.{skips}
use Rattle.book.proofs.SectionLaws.{book_sound}
use Rattle.std.proofs.Common.{Option, Some, None}

-- what the answer of `valid` says
module _ (s : Text) (v : Option Sections) (e : v ≡ valid_of s) where
  pub valid_sound : (q : Sections) → v ≡ Some q → Sound s q
  unfolding valid_of
  valid_sound q h = go (book_ok s) refl (sym e ∙ h)
    where
      go : (b : Bool) → book_ok s ≡ b → cond b (Some (sections_of s)) None ≡ Some q → Sound s q
      go true p z = record { ok = p; sections = cc }
      go false p z = clash (cc)

  pub valid_bad : v ≡ None → book_ok s ≡ false
  unfolding valid_of
  valid_bad h = go (book_ok s) refl (sym e ∙ h)
    where
      go : (b : Bool) → book_ok s ≡ b → cond b (Some (sections_of s)) None ≡ None → book_ok s ≡ false
      go true p z = clash (cc)
      go false p z = p

-- a book ends where its last section ends, and a book with its hash table starts with it
no_entries : (t : Text) → sound_from 9 [] (entries t) ≡ true → t ≡ []
no_entries [] h = refl
no_entries (b ∷ u) h = clash (cc (top_false [] (entry_of b u) (entries (drop (body_width b) u)), unroll b u))

pub end_is : (s : Text) (q : Sections) → Sound s q → q.end ≡ length s
unfolding sections_of
end_is s q h =
    let y = skips 9 s 1 [] (book_sound s h.ok) in
    let e : q.end ≡ bytes_before 9 (entries s) = ap (λ (p : Sections). p.end) h.sections in
    omega (arith, y.within, length-drop (bytes_before 9 (entries s)) s, ap length (no_entries (drop (bytes_before 9 (entries s)) s) y.sound))

pub book_small : (s : Text) (q : Sections) → Sound s q → length s ≤ 262144
book_small s q h = leb-true (length s) 262144 (both (leb (length s) 262144) (sound_from 1 [] (entries s)) (sym (book_is s) ∙ h.ok)).0

pub hash_table_starts : (s : Text) (q : Sections) (room : Text) → Sound s q → length s ≤ length room → take q.end (with_hash_table s q room) ≡ s
unfolding with_hash_table
hash_table_starts s q room h l = rw (le-leb _ _ l) (ap (λ (n : ℕ). take n (s ++ hash_kinds s q 8 (drop (length s) room))) (end_is s q h) ∙ take-append_seam s (hash_kinds s q 8 (drop (length s) room)))

-- The working form of a book's soundness, entry after entry, is document 01's: each entry of its form, each below the next.
-- Assumes nothing.
use mathlib.Core.Path.{◌≡◌, refl, ap, ◌∙◌}
use mathlib.Core.Bool.{Bool, true, false, ◌&&◌}
use mathlib.Core.List.{List, [], ◌∷◌}
use lib.Dec.{leb}
use lib.ListN.{length}
use Rattle.house.specs.Text.{Text, all, chained, adjacent}
use Rattle.book.specs.Book.{Entry, entries, code_of, entry_form, above, entry_below, book_most, book_ok}
use Rattle.book.specs.Inside.{sound_from}
use Rattle.book.proofs.EntryLaws.{form_says, above_floor}

swap : (a f x y : Bool) → (a && f && (x && y)) ≡ ((f && x) && (a && y))
swap true true x y = refl
swap true false x y = refl
swap false true true y = refl
swap false true false y = refl
swap false false x y = refl

sound_chained : (d : Entry) (es : List Entry) → sound_from d.kind (code_of d) es ≡ (all entry_form es && chained entry_below d es)
unfolding sound_from
sound_chained d [] = refl
sound_chained d (e ∷ es) =
    ap (λ (b : Bool). above d.kind (code_of d) e && entry_form e && b) (sound_chained e es)
    ∙ swap (above d.kind (code_of d) e) (entry_form e) (all entry_form es) (chained entry_below e es)

pub sound_orderly : (es : List Entry) → sound_from 1 [] es ≡ (all entry_form es && adjacent entry_below es)
unfolding sound_from
sound_orderly [] = refl
sound_orderly (e ∷ es) = ap (λ (b : Bool). above 1 [] e && entry_form e && b) (sound_chained e es) ∙ go (entry_form e) refl
  where
    no : (a x y : Bool) → (a && false && x) ≡ (false && y)
    no true x y = refl
    no false x y = refl

    go : (f : Bool) → entry_form e ≡ f → (above 1 [] e && entry_form e && (all entry_form es && chained entry_below e es)) ≡ (entry_form e && all entry_form es && chained entry_below e es)
    go true f = rw (f, above_floor 1 e f (form_says e f).0)
    go false f = rw f (no (above 1 [] e) (all entry_form es && chained entry_below e es) (chained entry_below e es))

pub book_is : (s : Text) → book_ok s ≡ (leb (length s) book_most && sound_from 1 [] (entries s))
unfolding book_ok
book_is s = rw (sound_orderly (entries s))

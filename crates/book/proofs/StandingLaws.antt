-- What is said of a code in bytes that start with a valid book, by its own sections, is what the book's entries say; and what the answers of
-- `find` and `look_up` say of a code.
-- Assumes nothing.
use mathlib.Core.Path.{◌≡◌, refl, sym, ap, ◌∙◌, subst}
use mathlib.Core.Bool.{Bool, true, false, cond, ◌&&◌, and-true}
use mathlib.Core.List.{[]}
use Prim.Native.Nat.{ℕ, ◌+◌}
use native.Mathlib.Omega.{arith}
use borrow.Author.Tests.{leb-true, leb-false, eqb-true, eqb-false, le-ltb}
use lib.Dec.{eqb, leb}
use lib.ListN.{length, take, drop}
use lib.Seq.{length-take-le}
use Rattle.house.specs.Text.{Text, same, number}
use Rattle.house.proofs.Decisions.{not_same}
use Rattle.book.specs.declared.Position.{Position}
use Rattle.book.specs.declared.Sections.{Sections}
use Rattle.book.specs.declared.Standing.{Standing}
use Rattle.book.specs.declared.Standing.TheVariants.{Unknown, OutOfForce, InForce}
use Rattle.book.specs.Book.{code_width, Entry, entry_of, entries, code_of, end_of, entry_form, book_of, Sound, is_entry, listed, listed_such, listed_on, listed_ended, standing_of, in_force, ended_before}
use Rattle.book.specs.LookUp.{section_start, count_in, entry_hashed, sought_in, found_in, is_there, is_such_at, known_by, in_force_by, ended_by, in_force_until_by, standing_by}
use Rattle.book.proofs.WidthLaws.{body_parts}
use Rattle.book.proofs.EntryLaws.{form_says}
use Rattle.book.proofs.KindLaws.{none_sound}
use Rattle.book.proofs.SectionLaws.{book_sound, section}
use Rattle.book.proofs.SoughtLaws.{not_kind, sought_known, sought_such}
use Rattle.std.proofs.Common.{Option, Some, None}

-- no entry is of another kind than 1 to 8, or has a code of another width
module _ (k : ℕ) (code : Text) where
  not_high : leb k 8 ≡ false → (e : Entry) → entry_form e ≡ true → is_entry k code e ≡ false
  not_high h e f = not_kind k code e (λ z. omega (arith, (form_says e f).1, leb-false k 8 h))

  code_length : (e : Entry) → entry_form e ≡ true → length (code_of e) ≡ code_width e.kind
  unfolding code_of
  code_length e f = length-take-le (code_width e.kind) e.body (omega (arith, (form_says e f).2, body_parts e.kind))

  not_wide : eqb (length code) (code_width k) ≡ false → (e : Entry) → entry_form e ≡ true → is_entry k code e ≡ false
  unfolding is_entry
  not_wide h e f = go (eqb e.kind k) refl
    where
      go : (b : Bool) → eqb e.kind k ≡ b → (b && same (code_of e) code) ≡ false
      go false z = refl
      go true z = not_same (code_of e) code (λ c. eqb-false (length code) (code_width k) h (sym (ap length c) ∙ code_length e f ∙ ap code_width (eqb-true e.kind k z)))

-- the bytes s start with a valid book, and q are its sections
module _ (s : Text) (q : Sections) (h : Sound (take q.end s) q) (k : ℕ) (code : Text) where
  abbrev book : Text
  book = take q.end s

  -- a look-up finds f: what that says is what the entries say
  record Says (f : Option Position) : Type 0 where
    known : is_there f ≡ listed (entries book) k code
    such : (p : Entry → Bool) → is_such_at s p k f ≡ listed_such (entries book) p k code

  none : ((e : Entry) → entry_form e ≡ true → is_entry k code e ≡ false) → Says None
  unfolding listed listed_such
  none f =
      record {
        known = sym (none_sound (is_entry k code) 1 [] (entries book) (book_sound book h.ok) (λ e l w. f e w));
        such = λ p. sym (none_sound (λ (e : Entry). is_entry k code e && p e) 1 [] (entries book) (book_sound book h.ok) (λ e l w. rw (f e w)));
      }

  says : Says (found_in s q k code)
  unfolding found_in
  says = go (leb k 8) (eqb (length code) (code_width k)) refl refl
    where
      go : (u v : Bool) → leb k 8 ≡ u → eqb (length code) (code_width k) ≡ v
          → Says (cond (u && v) (sought_in s k (section_start q k) (count_in s q k) code (entry_hashed s q.end k code)) None)
      go true true p w =
          let z = section s q h k (leb-true k 8 p) in
          record { known = sought_known s book q k z.0 z.1 code (entry_hashed s q.end k code); such = sought_such s book q k z.0 z.1 code (entry_hashed s q.end k code) }
      go true false p w = none (not_wide k code w)
      go false v p w = none (not_high k code p)

  -- the code is known exactly if the book lists it
  pub known_is : known_by s q k code ≡ listed (book_of book) k code
  unfolding known_by book_of
  known_is = says.known

  -- and in force on a day exactly if the book lists it so
  pub in_force_is : (d : ℕ) → in_force_by s q d k code ≡ listed_on (book_of book) d k code
  unfolding in_force_by listed_on book_of
  in_force_is d = says.such (in_force d)

  -- and ended before a day exactly if the book lists it so
  pub ended_is : (u : ℕ) → ended_by s q u k code ≡ listed_ended (book_of book) u k code
  unfolding ended_by listed_ended book_of
  ended_is u = says.such (ended_before u)

  -- so a look-up says of it what the book's entries say
  pub standing_is : (d u : ℕ) → standing_by s q k code d u ≡ standing_of (book_of book) k code d u
  unfolding standing_by in_force_until_by standing_of
  standing_is d u = rw (known_is, in_force_is d, ended_is u)

-- what an answer says
module _ (s : Text) (q : Sections) (k : ℕ) (code : Text) where
  module _ (f : Option Position) (e : f ≡ found_in s q k code) where
    pub known_at : (p : Position) → f ≡ Some p → true ≡ known_by s q k code
    unfolding known_by
    known_at p h = rw (← e, h)

    pub known_not : f ≡ None → false ≡ known_by s q k code
    unfolding known_by
    known_not h = rw (← e, h)

  -- no end is before day 0
  ended_none : (f : Option Position) → is_such_at s (ended_before 0) k f ≡ false
  unfolding ended_before
  ended_none None = refl
  ended_none (Some p) = le-ltb (number (end_of (entry_of k (drop (p.at + 1) s)))) 0 (omega arith)

  pub until_none : (d : ℕ) → in_force_until_by s q d 0 k code ≡ in_force_by s q d k code
  unfolding in_force_until_by ended_by
  until_none d = rw (ended_none (found_in s q k code)) (and-true (in_force_by s q d k code))

  module _ (d u : ℕ) (r : Standing) (e : r ≡ standing_by s q k code d u) where
    abbrev Told : Standing → Type 0
    Told Unknown = known_by s q k code ≡ false
    Told OutOfForce = (known_by s q k code ≡ true) × (in_force_until_by s q d u k code ≡ false)
    Told InForce = (known_by s q k code ≡ true) × (in_force_until_by s q d u k code ≡ true)

    told : Told (standing_by s q k code d u)
    unfolding standing_by
    told = go (known_by s q k code) (in_force_until_by s q d u k code) refl refl
      where
        go : (x y : Bool) → known_by s q k code ≡ x → in_force_until_by s q d u k code ≡ y → Told (cond x (cond y InForce OutOfForce) Unknown)
        go false y p w = p
        go true true p w = (p, w)
        go true false p w = (p, w)

    pub when_unknown : r ≡ Unknown → known_by s q k code ≡ false
    when_unknown z = subst Told (sym e ∙ z) told

    pub when_out : r ≡ OutOfForce → (known_by s q k code ≡ true) × (in_force_until_by s q d u k code ≡ false)
    when_out z = subst Told (sym e ∙ z) told

    pub when_in : r ≡ InForce → (known_by s q k code ≡ true) × (in_force_until_by s q d u k code ≡ true)
    when_in z = subst Told (sym e ∙ z) told

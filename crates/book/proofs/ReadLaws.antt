-- What the reader's answer says of the bytes from its position on.
-- Assumes nothing.
use mathlib.Core.Path.{◌≡◌, refl, sym, ap, ◌∙◌}
use mathlib.Core.Bool.{Bool, true, false, cond}
use mathlib.Core.List.{[], ◌∷◌}
use Prim.Native.Nat.{ℕ, ◌+◌, ◌-◌, ◌≤◌}
use native.Mathlib.Omega.{arith}
use lib.ListN.{length, take, drop, length-drop}
use lib.Seq.{length-take-le, drop-drop}
use Rattle.house.specs.Text.{Text}
use Rattle.house.proofs.Small.{clash}
use Rattle.book.specs.declared.Position.{Position}
use Rattle.book.specs.declared.Read.{Read}
use Rattle.book.specs.declared.Read.TheVariants as read
use Rattle.book.specs.Book.{body_width, entry_of, entry_form, is_whole, read_at}
use Rattle.book.proofs.EntryLaws.{form_is, whole_says}

-- no entry was read: none of its form stands there
abbrev pub is_none : Read → Bool
is_none (read.Entry k b n) = false
is_none read.End = true
is_none read.Malformed = true

pub unwhole : (at x : ℕ) (u : Text) → is_none (read_at at (x ∷ u)) ≡ true → is_whole x u ≡ false
unfolding read_at
unwhole at x u h = go (is_whole x u) h
  where
    go : (p : Bool) → is_none (cond p (read.Entry x (at + 1) (record { at = at + 1 + body_width x })) read.Malformed) ≡ true → p ≡ false
    go true z = clash (cc)
    go false z = refl

pub unread : (at x : ℕ) (u : Text) → is_none (read_at at (x ∷ u)) ≡ true → entry_form (entry_of x u) ≡ false
unread at x u h = form_is x u ∙ rw (unwhole at x u h)

-- an entry was read
record Here (at : ℕ) (t : Text) (k b : ℕ) (n : Position) : Type 0 where
  head : t ≡ k ∷ drop 1 t
  whole : is_whole k (drop 1 t) ≡ true
  body : b ≡ at + 1
  next : n.at ≡ at + 1 + body_width k

read_says : (at : ℕ) (t : Text) (k b : ℕ) (n : Position) → read_at at t ≡ read.Entry k b n → Here at t k b n
unfolding read_at
read_says at [] k b n h = clash (cc)
read_says at (x ∷ u) k b n h = go (is_whole x u) refl h
  where
    go : (p : Bool) → is_whole x u ≡ p → cond p (read.Entry x (at + 1) (record { at = at + 1 + body_width x })) read.Malformed ≡ read.Entry k b n → Here at (x ∷ u) k b n
    go false e z = clash (cc)
    go true e z =
        let i : x ≡ k = cc in
        let m : n ≡ record { at = at + 1 + body_width x } = cc in
        record {
          head = ap (λ (y : ℕ). y ∷ u) i;
          whole = ap (λ (y : ℕ). is_whole y u) (sym i) ∙ e;
          body = cc;
          next = ap (λ (y : Position). y.at) m ∙ ap (λ (y : ℕ). at + 1 + body_width y) i;
        }

module _ (s : Text) (at : ℕ) (e : Read) (r : e ≡ read_at at (drop at s)) (x b : ℕ) (n : Position) (g : e ≡ read.Entry x b n) where
  here : Here at (drop at s) x b n
  here = read_says at (drop at s) x b n (sym r ∙ g)

  pub read_head : drop at s ≡ x ∷ drop 1 (drop at s)
  read_head = here.head

  pub read_whole : is_whole x (drop 1 (drop at s)) ≡ true
  read_whole = here.whole

  pub read_next : n.at ≡ at + 1 + body_width x
  read_next = here.next

  fits : body_width x ≤ length (drop 1 (drop at s))
  fits = (whole_says x (drop 1 (drop at s)) here.whole).2

  pub read_body : b ≤ n.at
  read_body = omega (arith, here.body, here.next)

  pub read_in : n.at ≤ length s
  read_in = omega (arith, here.next, ap length here.head, fits, length-drop at s)

  -- the part of the book that is the entry's body
  pub read_part : take (n.at - b) (drop b s) ≡ take (body_width x) (drop 1 (drop at s))
  read_part =
      let w : n.at - b ≡ body_width x = omega (arith, here.body, here.next) in
      let d : drop 1 (drop at s) ≡ drop b s = drop-drop 1 at s ∙ ap (λ (y : ℕ). drop y s) (sym here.body) in
      rw (w, d)

  pub read_long : (k : ℕ) → x ≡ k → length (take (n.at - b) (drop b s)) ≡ body_width k
  read_long k q = ap length read_part ∙ length-take-le (body_width x) (drop 1 (drop at s)) fits ∙ ap body_width q

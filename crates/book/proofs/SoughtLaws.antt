-- A look-up in the section of a kind, by hash and by binary search, says what the book's entries say of the code.
-- Assumes nothing.
use mathlib.Core.Path.{◌≡◌, refl, sym, ap, ◌∙◌}
use mathlib.Core.Logic.{◌⊎◌, inl, inr}
use mathlib.Core.Bool.{Bool, true, false, cond, ◌&&◌, and-false}
use mathlib.Core.List.{[]}
use Prim.Native.Nat.{ℕ, ◌+◌, ◌*◌, ◌<◌}
use native.Mathlib.Omega.{arith}
use borrow.Author.Tests.{eq-eqb, ne_eqb, ltb-true}
use lib.Dec.{eqb, ltb}
use lib.ListN.{take, drop}
use lib.Seq.{drop-drop}
use Rattle.house.specs.Text.{Text, order_of, same}
use Rattle.house.specs.Search.{binary_search}
use Rattle.std.specs.declared.cmp.Ordering.{Ordering}
use Rattle.std.specs.declared.cmp.Ordering.TheVariants.{Less, Equal, Greater}
use Rattle.house.proofs.Small.{clash, Three, lt, eq, gt, three}
use Rattle.house.proofs.OrderAlgebra.{less_trans, same_eq}
use Rattle.house.proofs.Decisions.{is_same_lem, same_true, not_same, order_refl}
use Rattle.house.proofs.SearchLaws.{Decides, hit, miss, halve_decides}
use Rattle.book.specs.declared.Sections.{Sections}
use Rattle.book.specs.Book.{code_width, body_width, Entry, entry_of, entries, code_of, is_entry, listed, listed_such}
use Rattle.book.specs.LookUp.{section_start, count_in, place_of, code_at, order_at, found_at, named_in, searched_in, else_found, sought_in, is_there, is_such_at}
use Rattle.book.proofs.EntryLaws.{code_is}
use Rattle.book.proofs.KindLaws.{row_at, row_asc, any_miss, any_only, Only}
use Rattle.book.proofs.SectionLaws.{Section}
use Rattle.book.specs.declared.Position.{Position}
use Rattle.std.proofs.Common.{Option, None}

-- the entry that has a kind and a code, by tests
module _ (k : ℕ) (x : Text) (e : Entry) where
  is_entry_lem : e.kind ≡ k → code_of e ≡ x → is_entry k x e ≡ true
  unfolding is_entry
  is_entry_lem p c = rw (eq-eqb e.kind k p, is_same_lem (code_of e) x c)

  pub not_kind : (e.kind ≡ k → ⊥) → is_entry k x e ≡ false
  unfolding is_entry
  not_kind n = rw (ne_eqb e.kind k n)

  pub not_code : (code_of e ≡ x → ⊥) → is_entry k x e ≡ false
  unfolding is_entry
  not_code n = rw (not_same (code_of e) x n) (and-false (eqb e.kind k))

-- a look-up in the section, by hash and by binary search
module _ (s book : Text) (q : Sections) (k n : ℕ) (sec : Section s book q k n) (x : Text) where
  abbrev from : ℕ
  from = section_start q k

  abbrev row : ℕ → Entry
  row i = row_at k (drop from s) i

  -- the bytes from its body on
  row_bytes : (i : ℕ) → drop (place_of k from i + 1) s ≡ drop (i * (body_width k + 1) + 1) (drop from s)
  unfolding place_of
  row_bytes i =
      let e : from + i * (body_width k + 1) + 1 ≡ from + (i * (body_width k + 1) + 1) = omega arith in
      ap (λ (y : ℕ). drop y s) e ∙ sym (drop-drop (i * (body_width k + 1) + 1) from s)

  code_of_lem : (i : ℕ) → code_at s k from i ≡ code_of (row i)
  unfolding code_at row_at
  code_of_lem i = ap (take (code_width k)) (row_bytes i) ∙ sym (code_is k (drop (i * (body_width k + 1) + 1) (drop from s)))

  order_is : (i : ℕ) → order_at s k from x i ≡ order_of (code_of (row i)) x
  unfolding order_at
  order_is i = ap (λ (t : Text). order_of t x) (code_of_lem i)

  ascends : (i j : ℕ) → i < j → j < n → (order_at s k from x i ≡ Less) ⊎ (order_at s k from x j ≡ Greater)
  ascends i j l m = go (order_of (code_of (row j)) x) refl
    where
      up : order_of (code_of (row i)) (code_of (row j)) ≡ Less
      up = row_asc k n [] (drop from s) sec.rows i j l m

      go : (o : Ordering) → order_of (code_of (row j)) x ≡ o → (order_at s k from x i ≡ Less) ⊎ (order_at s k from x j ≡ Greater)
      go Less e = inl (order_is i ∙ less_trans (code_of (row i)) (code_of (row j)) x up e)
      go Equal e = inl (order_is i ∙ ap (order_of (code_of (row i))) (sym (same_eq (code_of (row j)) x e)) ∙ up)
      go Greater e = inr (order_is j ∙ e)

  only : (p : Entry → Bool) → Only k (λ (e : Entry). is_entry k x e && p e)
  only p e m = rw (not_kind k x e m)

  -- a look-up finds f: what that says is what the entries say
  record Says (f : Option Position) : Type 0 where
    known : is_there f ≡ listed (entries book) k x
    such : (p : Entry → Bool) → is_such_at s p k f ≡ listed_such (entries book) p k x

  misses : ((i : ℕ) → i < n → order_at s k from x i ≡ Equal → ⊥) → Says None
  unfolding listed listed_such
  misses f =
      record {
        known = sym (sec.asks (is_entry k x) (not_kind k x) ∙ any_miss k (is_entry k x) n (drop from s) other);
        such = λ p. sym (sec.asks (λ (e : Entry). is_entry k x e && p e) (only p) ∙ any_miss k (λ (e : Entry). is_entry k x e && p e) n (drop from s) (λ i l. rw (other i l)));
      }
    where
      other : (i : ℕ) → i < n → is_entry k x (row i) ≡ false
      other i l = not_code k x (row i) (λ e. f i l (order_is i ∙ ap (λ (t : Text). order_of t x) e ∙ order_refl x))

  module _ (m : ℕ) (l : m < n) (o : order_at s k from x m ≡ Equal) where
    code : code_of (row m) ≡ x
    code = same_eq (code_of (row m)) x (sym (order_is m) ∙ o)

    -- no other has the code
    others : (i : ℕ) → i < n → (i ≡ m → ⊥) → is_entry k x (row i) ≡ false
    others i j f = not_code k x (row i) (λ e. go e (three i m))
      where
        off : (u v : ℕ) → u < v → v < n → code_of (row u) ≡ code_of (row v) → ⊥
        off u v w z e = clash (cc (row_asc k n [] (drop from s) sec.rows u v w z, order_refl (code_of (row v))))

        go : code_of (row i) ≡ x → Three i m → ⊥
        go e (lt w) = off i m w l (e ∙ sym code)
        go e (eq w) = f w
        go e (gt w) = off m i w j (code ∙ sym e)

    kind : (row m).kind ≡ k
    unfolding row_at entry_of
    kind = refl

    hits_known : listed (entries book) k x ≡ true
    unfolding listed
    hits_known = sec.asks (is_entry k x) (not_kind k x) ∙ any_only k (is_entry k x) n (drop from s) m l others ∙ is_entry_lem k x (row m) kind code

    hits_such : (p : Entry → Bool) → listed_such (entries book) p k x ≡ p (row m)
    unfolding listed_such
    hits_such p =
        sec.asks (λ (e : Entry). is_entry k x e && p e) (only p)
        ∙ any_only k (λ (e : Entry). is_entry k x e && p e) n (drop from s) m l (λ i j f. rw (others i j f))
        ∙ rw (is_entry_lem k x (row m) kind code)

    -- the entry that is found is the row
    of_row : (p : Entry → Bool) → p (entry_of k (drop (place_of k from m + 1) s)) ≡ p (row m)
    unfolding row_at
    of_row p = ap (λ (t : Text). p (entry_of k t)) (row_bytes m)

    hits : Says (found_at k from m)
    unfolding found_at
    hits = record { known = sym hits_known; such = λ p. of_row p ∙ sym (hits_such p) }

  finds : Says (searched_in s k from n x)
  unfolding searched_in
  finds = go (halve_decides (order_at s k from x) (found_at k from) None n ascends)
    where
      go : Decides (order_at s k from x) (found_at k from) None n (binary_search (order_at s k from x) (found_at k from) None n 0 n)
          → Says (binary_search (order_at s k from x) (found_at k from) None n 0 n)
      go (hit m l o e) = rw e (hits m l o)
      go (miss f e) = rw e (misses f)

  -- whatever entry is asked first
  says : (i : ℕ) → Says (sought_in s k from n x i)
  unfolding sought_in named_in found_at order_at
  says i = go (ltb i n) refl (same (code_at s k from i) x) refl
    where
      go : (u : Bool) → ltb i n ≡ u → (v : Bool) → same (code_at s k from i) x ≡ v → Says (else_found (cond (u && v) (found_at k from i) None) (searched_in s k from n x))
      go true z true e = hits i (ltb-true i n z) (ap (λ (t : Text). order_of t x) (same_true (code_at s k from i) x e) ∙ order_refl x)
      go true z false e = finds
      go false z v e = finds

  pub sought_known : (i : ℕ) → is_there (sought_in s k from (count_in s q k) x i) ≡ listed (entries book) k x
  sought_known i = rw sec.count (says i).known

  pub sought_such : (i : ℕ) (p : Entry → Bool) → is_such_at s p k (sought_in s k from (count_in s q k) x i) ≡ listed_such (entries book) p k x
  sought_such i p = rw sec.count ((says i).such p)

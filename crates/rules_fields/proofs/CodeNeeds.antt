-- What each need of the functions on codes asks.
-- Assumes nothing.
use mathlib.Core.Path.{◌≡◌, refl, sym, ◌∙◌}
use mathlib.Core.Bool.{Bool, true, false, not, cond, ◌&&◌, ◌||◌, and-false}
use mathlib.Core.List.{[]}
use Prim.Native.Nat.{ℕ}
use native.Mathlib.Omega.{arith}
use borrow.Author.Rules.{rules}
use borrow.Author.Tests.{eq-eqb, ne_eqb, eqb-true, eqb-false}
use lib.Dec.{eqb}
use lib.ListN.{length}
use Rattle.house.specs.Text.{Text, is_empty}
use Rattle.book.specs.declared.Sections.{Sections}
use Rattle.book.specs.Book.{code_text}
use Rattle.rules_definitions.specs.Forms.{form_of, is_judged}
use Rattle.rules_definitions.specs.Codes.{book_kind, pair_kind}
use Rattle.rules_forms.specs.FieldLeaves.{optional_in, lowest_in, given_in}
use Rattle.rules_forms.proofs.FieldLaws.{empty_true, empty_false}
use Rattle.rules_fields.specs.declared.Day.{Day}
use Rattle.book.specs.LookUp.{known_by}
use Rattle.rules_fields.specs.Fields.{rules4and5_of, rules4and5_by, code_by, code_known_by, is_pair_wrong, pair_field, unpaired_by, rule11_by}

-- book_kind
module _ (k f : ℕ) where
  pub kind_ii8 : k ≡ 4 → f ≡ 8 → 1 ≡ book_kind k f
  unfolding book_kind
  kind_ii8 d e = rw (d, e)

  pub kind_ii11 : k ≡ 4 → f ≡ 11 → 3 ≡ book_kind k f
  unfolding book_kind
  kind_ii11 d e = rw (d, e)

  pub kind_ii13 : k ≡ 4 → f ≡ 13 → 5 ≡ book_kind k f
  unfolding book_kind
  kind_ii13 d e = rw (d, e)

  pub kind_ii14 : k ≡ 4 → f ≡ 14 → 4 ≡ book_kind k f
  unfolding book_kind
  kind_ii14 d e = rw (d, e)

  pub kind_ii : k ≡ 4 → (f ≡ 8 → ⊥) → (f ≡ 11 → ⊥) → (f ≡ 13 → ⊥) → (f ≡ 14 → ⊥) → 0 ≡ book_kind k f
  unfolding book_kind
  kind_ii d a b c e = rw (d, ne_eqb f 8 a, ne_eqb f 11 b, ne_eqb f 13 c, ne_eqb f 14 e)

  pub kind_ie4 : k ≡ 5 → f ≡ 4 → 2 ≡ book_kind k f
  unfolding book_kind
  kind_ie4 d e = rw (d, e)

  pub kind_ie : k ≡ 5 → (f ≡ 4 → ⊥) → 0 ≡ book_kind k f
  unfolding book_kind
  kind_ie d a = rw (d, ne_eqb f 4 a)

  pub kind_in6 : k ≡ 6 → f ≡ 6 → 6 ≡ book_kind k f
  unfolding book_kind
  kind_in6 d e = rw (d, e)

  pub kind_in : k ≡ 6 → (f ≡ 6 → ⊥) → 0 ≡ book_kind k f
  unfolding book_kind
  kind_in d a = rw (d, ne_eqb f 6 a)

  pub kind_ia4 : k ≡ 7 → f ≡ 4 → 2 ≡ book_kind k f
  unfolding book_kind
  kind_ia4 d e = rw (d, e)

  pub kind_ia : k ≡ 7 → (f ≡ 4 → ⊥) → 0 ≡ book_kind k f
  unfolding book_kind
  kind_ia d a = rw (d, ne_eqb f 4 a)

  pub kind_none : (k ≡ 4 → ⊥) → (k ≡ 5 → ⊥) → (k ≡ 6 → ⊥) → (k ≡ 7 → ⊥) → 0 ≡ book_kind k f
  unfolding book_kind
  kind_none a b c d = rw (ne_eqb k 4 a, ne_eqb k 5 b, ne_eqb k 6 c, ne_eqb k 7 d)

pub ruleset for_book_kind = (rules, kind_ii8, kind_ii11, kind_ii13, kind_ii14, kind_ii, kind_ie4, kind_ie, kind_in6, kind_in, kind_ia4, kind_ia, kind_none)

-- where rules 1 and 2 are broken, no later one is asked for, and where they are not, the later one stands
module _ (k : ℕ) (x : Bool) (f : ℕ) (t : Text) (r n : ℕ) (e : r ≡ lowest_in k x f t 0) where
  pub low_broken : (r ≡ 0 → ⊥) → r ≡ lowest_in k x f t n
  unfolding lowest_in
  low_broken h = e ∙ go (is_judged k f && not (optional_in k x f) && is_empty t) (not (form_of k f t) && not (is_empty t)) (λ z. h (e ∙ z))
    where
      go : (m w : Bool) → (◌≡◌ {A = ℕ} (cond m 1 (cond w 2 0)) 0 → ⊥) → cond m 1 (cond w 2 0) ≡ cond m 1 (cond w 2 n)
      go true w h = refl
      go false true h = refl
      go false false h = absurd (h refl)

  pub low_sound : r ≡ 0 → n ≡ lowest_in k x f t n
  unfolding lowest_in
  low_sound h = go (is_judged k f && not (optional_in k x f) && is_empty t) (not (form_of k f t) && not (is_empty t)) (sym e ∙ h)
    where
      go : (m w : Bool) → ◌≡◌ {A = ℕ} (cond m 1 (cond w 2 0)) 0 → n ≡ cond m 1 (cond w 2 n)
      go true w h = absurd (omega arith)
      go false true h = absurd (omega arith)
      go false false h = refl

-- listed_field, code_field
module _ (k : ℕ) (x : Bool) (f : ℕ) (t : Text) (r : ℕ) (e : r ≡ lowest_in k x f t 0) (h : r ≡ 0) where
  module _ (known out : Bool) where
    pub code_empty : length t ≡ 0 → 0 ≡ lowest_in k x f t (rules4and5_of (is_empty t) known out)
    unfolding rules4and5_of
    code_empty z = rw (empty_true t z) (low_sound k x f t r 0 e h)

    pub code_given : (y : ℕ) → (length t ≡ 0 → ⊥) → y ≡ rules4and5_of false known out → y ≡ lowest_in k x f t (rules4and5_of (is_empty t) known out)
    code_given y z w = rw (empty_false t z, ← w) (low_sound k x f t r y e h)

  pub code_book : (s : Text) (q : Sections) (code : Text) (day : Day) (o y : ℕ) → (length t ≡ 0 → ⊥) → o ≡ book_kind k f
      → y ≡ rules4and5_by o code s q day → y ≡ code_by k x f t code s q day
  code_book s q code day o y z b w = code_given _ _ y z (rw (← b) w)

pub ruleset for_code_field = (rules, low_broken, code_empty, code_book)

-- both_given
module _ (a b x : Bool) (e : x ≡ a) where
  pub given_no : x ≡ false → false ≡ a && b
  given_no h = rw (← e, h)

  pub given_both : (y : Bool) → x ≡ true → y ≡ b → y ≡ a && b
  given_both y h f = rw (← e, h) f

pub ruleset for_given = (rules, given_no, given_both)

-- is_known_at
pub known_there : (s : Text) (q : Sections) (k f : ℕ) (t code : Text) (x : Bool) → x ≡ given_in k f t → x ≡ true
    → (o : ℕ) → o ≡ book_kind k f → (y : Bool) → y ≡ known_by s q o (code_text o code []) → y ≡ code_known_by k f t code s q
known_there s q k f t code x e h o b y w = rw (← e, h, ← b) w

pub ruleset for_is_known_at = (rules, given_no, known_there)

-- a code that the book lacks, by its verdict
pub code_lacks : (k : ℕ) (x : Bool) (f : ℕ) (t : Text) (a : ℕ) (known out : Bool)
    → a ≡ lowest_in k x f t (rules4and5_of (is_empty t) known out) → a ≡ 4 → known ≡ false
unfolding lowest_in rules4and5_of
code_lacks k x f t a known out e h =
    go (is_judged k f && not (optional_in k x f) && is_empty t) (not (form_of k f t) && not (is_empty t)) (is_empty t) known out (sym e ∙ h)
  where
    go : (m w n y z : Bool) → ◌≡◌ {A = ℕ} (cond m 1 (cond w 2 (cond n 0 (cond y (cond z 5 0) 4)))) 4 → y ≡ false
    go true w n y z p = absurd (omega arith)
    go false true n y z p = absurd (omega arith)
    go false false true y z p = absurd (omega arith)
    go false false false true true p = absurd (omega arith)
    go false false false true false p = absurd (omega arith)
    go false false false false z p = refl

-- where it is the code of the field that goes with the vaccine
module _ (x : Bool) (t : Text) (s : Text) (q : Sections) (code : Text) (day : Day) (a : ℕ) where
  pub reason_lacks : a ≡ code_by 4 x 11 t code s q day → a ≡ 4 → known_by s q (book_kind 4 (pair_field 4)) (code_text (book_kind 4 (pair_field 4)) code []) ≡ false
  unfolding pair_field
  reason_lacks e h = code_lacks 4 x 11 t a _ _ e h

  pub antigen_lacks : a ≡ code_by 5 x 4 t code s q day → a ≡ 4 → known_by s q (book_kind 5 (pair_field 5)) (code_text (book_kind 5 (pair_field 5)) code []) ≡ false
  unfolding pair_field
  antigen_lacks e h = code_lacks 5 x 4 t a _ _ e h

-- is_unpaired
module _ (a : ℕ) (t : Text) where
  pub unpaired_unknown : a ≡ 4 → true ≡ unpaired_by a t
  unfolding unpaired_by
  unpaired_unknown e = rw (eq-eqb a 4 e)

  pub unpaired_empty : (a ≡ 4 → ⊥) → eqb (length t) 0 ≡ unpaired_by a t
  unfolding unpaired_by
  unpaired_empty n = rw (ne_eqb a 4 n) (go (eqb (length t) 0) refl)
    where
      go : (x : Bool) → eqb (length t) 0 ≡ x → x ≡ is_empty t
      go true e = sym (empty_true t (eqb-true (length t) 0 e))
      go false e = sym (empty_false t (eqb-false (length t) 0 e))

pub ruleset for_unpaired = (rules, unpaired_unknown, unpaired_empty)

-- pair_kind, pair_field
module _ (k : ℕ) where
  pub pair_ii : k ≡ 4 → 7 ≡ pair_kind k
  unfolding pair_kind
  pair_ii e = rw e

  pub pair_ie : (k ≡ 4 → ⊥) → 8 ≡ pair_kind k
  unfolding pair_kind
  pair_ie n = rw (ne_eqb k 4 n)

  pub pair_at_11 : k ≡ 4 → 11 ≡ pair_field k
  unfolding pair_field
  pair_at_11 e = rw e

  pub pair_at_4 : (k ≡ 4 → ⊥) → 4 ≡ pair_field k
  unfolding pair_field
  pair_at_4 n = rw (ne_eqb k 4 n)

pub ruleset for_pair_of = (rules, pair_ii, pair_ie, pair_at_11, pair_at_4)

-- rule11_pair
no_pair : (a : ℕ) (w g y u v : Bool) → (a ≡ 4 → y ≡ false) → eqb a 4 || w ≡ true → ◌≡◌ {A = ℕ} 0 (cond (u && ((not w && g) && y) && v) 11 0)
no_pair a w g y u v p = go (eqb a 4) refl w
  where
    go : (m : Bool) → eqb a 4 ≡ m → (w : Bool) → m || w ≡ true → ◌≡◌ {A = ℕ} 0 (cond (u && ((not w && g) && y) && v) 11 0)
    go true z w r = rw (p (eqb-true a 4 z), and-false (not w && g), and-false u)
    go false z true r = rw (and-false u)
    go false z false r = absurd (let o : ◌≡◌ {A = ℕ} 0 1 = cc in omega arith)

module _ (s : Text) (q : Sections) (k : ℕ) (t code vaccine : Text) (day : Day) where
  pub pair_none : (a : ℕ) (x : Bool) → (a ≡ 4 → known_by s q (book_kind k (pair_field k)) (code_text (book_kind k (pair_field k)) code []) ≡ false)
      → x ≡ unpaired_by a t → x ≡ true → 0 ≡ rule11_by k t code vaccine s q day
  unfolding unpaired_by given_in
  pair_none a x p e h =
      no_pair a (is_empty t) (form_of k (pair_field k) t) (known_by s q (book_kind k (pair_field k)) (code_text (book_kind k (pair_field k)) code []))
      (code_known_by 4 8 vaccine vaccine s q) (is_pair_wrong (pair_kind k) vaccine code s q day) p (sym e ∙ h)

  module _ (o : ℕ) (b : o ≡ pair_kind k) (x : Bool) (e : x ≡ is_pair_wrong o vaccine code s q day) where
    pub pair_right : x ≡ false → 0 ≡ rule11_by k t code vaccine s q day
    pair_right h = rw (← b, ← e, h) (go (code_known_by 4 8 vaccine vaccine s q) (code_known_by k (pair_field k) t code s q))
      where
        go : (u v : Bool) → ◌≡◌ {A = ℕ} 0 (cond (u && v && false) 11 0)
        go true true = refl
        go true false = refl
        go false v = refl

    module _ (h : x ≡ true) (y : Bool) (c : y ≡ code_known_by 4 8 vaccine vaccine s q) where
      pub pair_vaccine : y ≡ false → 0 ≡ rule11_by k t code vaccine s q day
      pair_vaccine n = rw (← c, n)

      module _ (n : y ≡ true) (f : ℕ) (d : f ≡ pair_field k) (z : Bool) (g : z ≡ code_known_by k f t code s q) where
        pub pair_code : z ≡ false → 0 ≡ rule11_by k t code vaccine s q day
        pair_code m = rw (← c, n, ← d, ← g, m)

        pub pair_both : z ≡ true → 11 ≡ rule11_by k t code vaccine s q day
        pair_both m = rw (← c, n, ← d, ← g, m, ← b, ← e, h)

pub ruleset for_rule11_pair = (rules, pair_none, pair_right, pair_vaccine, pair_code, pair_both)

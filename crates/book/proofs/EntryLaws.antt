-- The entries of a book, one at a time: their form, their order, where kinds start.
-- Assumes nothing.
use mathlib.Core.Path.{◌≡◌, refl, sym, ap, ◌∙◌, subst}
use mathlib.Core.Bool.{Bool, true, false, cond, ◌&&◌}
use mathlib.Core.List.{List, [], ◌∷◌}
use Prim.Native.Nat.{ℕ, zero, suc, ◌+◌, ◌≤◌, ◌<◌}
use native.Mathlib.Nat.{le_refl}
use native.Mathlib.Omega.{arith}
use borrow.Author.Tests.{eq-eqb, ne_eqb, le-leb, lt-leb, lt-ltb, le-ltb, leb-true, eqb-true}
use lib.Dec.{eqb, leb}
use lib.ListN.{length, take, drop, length-drop, length-take}
use lib.Seq.{take-take, length-take-le}
use Rattle.house.specs.Text.{Text, below, order_of}
use Rattle.house.proofs.Small.{clash, both, Three, lt, eq, gt, three}
use Rattle.book.specs.Book.{code_width, body_width, Entry, entry_of, entries_after, entries, code_of, body_form, entry_form, above, is_whole, bytes_before}
use Rattle.book.specs.Inside.{sound_from, step_len}
use Rattle.book.proofs.WidthLaws.{body_parts, code_pos}

-- the first entry, and the entries after it
after_drop : (n : ℕ) (s : Text) → entries_after n s ≡ entries_after 0 (drop n s)
unfolding entries_after
after_drop zero s = refl
after_drop (suc n) [] = refl
after_drop (suc n) (b ∷ s) = after_drop n s

pub unroll : (b : ℕ) (u : Text) → entries (b ∷ u) ≡ entry_of b u ∷ entries (drop (body_width b) u)
unfolding entries entries_after entry_of
unroll b u = ap (λ (l : List Entry). entry_of b u ∷ l) (after_drop (body_width b) u)

pub none : entries [] ≡ []
unfolding entries entries_after
none = refl

-- what holds of no bytes, and of an entry and what follows it where it holds of what follows
pub by_entries : (P : Text → Type 0) → P [] → ((b : ℕ) (u : Text) → P (drop (body_width b) u) → P (b ∷ u)) → (t : Text) → P t
by_entries P z f t = go (length t) t (le_refl (length t))
  where
    go : (m : ℕ) (t : Text) → length t ≤ m → P t
    go zero [] l = z
    go zero (b ∷ u) l = absurd (omega arith)
    go (suc m) [] l = z
    go (suc m) (b ∷ u) l = f b u (go m (drop (body_width b) u) (omega (arith, length-drop (body_width b) u)))

-- the form of an entry
above_empty : (t : Text) → 0 < length t → below [] t ≡ true
unfolding below order_of
above_empty [] h = absurd (omega arith)
above_empty (x ∷ t) h = refl

module _ (e : Entry) (f : entry_form e ≡ true) where
  pub form_says : (1 ≤ e.kind) × (e.kind ≤ 8) × (length e.body ≡ body_width e.kind)
  unfolding entry_form
  form_says =
      let k = e.kind in
      let p = both (leb 1 k && leb k 8 && eqb (length e.body) (body_width k)) (body_form k e.body) f in
      let q = both (leb 1 k && leb k 8) (eqb (length e.body) (body_width k)) p.0 in
      let r = both (leb 1 k) (leb k 8) q.0 in
      (leb-true 1 k r.0, leb-true k 8 r.1, eqb-true (length e.body) (body_width k) q.1)

  -- its code is not empty
  pub code_above : below [] (code_of e) ≡ true
  unfolding code_of
  code_above =
      let k = e.kind in
      above_empty (take (code_width k) e.body) (omega (arith, length-take (code_width k) e.body, code_pos k form_says.0 form_says.1, form_says.2, body_parts k))

module _ (b : ℕ) (u : Text) where
  pub kind_is : (entry_of b u).kind ≡ b
  unfolding entry_of
  kind_is = refl

  pub code_is : code_of (entry_of b u) ≡ take (code_width b) u
  unfolding code_of entry_of
  code_is = take-take (code_width b) (body_width b) u (omega (arith, body_parts b))

  -- it has its form exactly if it is whole and its body has its form
  pub form_is : entry_form (entry_of b u) ≡ (is_whole b u && body_form b (take (body_width b) u))
  unfolding entry_form entry_of is_whole
  form_is = ap (λ (t : Bool). leb 1 b && leb b 8 && t && body_form b (take (body_width b) u)) (go (three (length u) (body_width b)))
    where
      whole : body_width b ≤ length u → eqb (length (take (body_width b) u)) (body_width b) ≡ leb (body_width b) (length u)
      whole l = eq-eqb _ _ (length-take-le (body_width b) u l) ∙ sym (le-leb _ _ l)

      go : Three (length u) (body_width b) → eqb (length (take (body_width b) u)) (body_width b) ≡ leb (body_width b) (length u)
      go (lt l) = ne_eqb (length (take (body_width b) u)) (body_width b) (λ e. omega (arith, length-take (body_width b) u)) ∙ sym (lt-leb _ _ l)
      go (eq l) = whole (omega arith)
      go (gt l) = whole (omega arith)

  pub whole_says : is_whole b u ≡ true → (1 ≤ b) × (b ≤ 8) × (body_width b ≤ length u)
  unfolding is_whole
  whole_says h =
      let p = both (leb 1 b && leb b 8) (leb (body_width b) (length u)) h in
      let q = both (leb 1 b) (leb b 8) p.0 in
      (leb-true 1 b q.0, leb-true b 8 q.1, leb-true (body_width b) (length u) p.1)

  pub form_whole : entry_form (entry_of b u) ≡ true → is_whole b u ≡ true
  form_whole f = (both (is_whole b u) (body_form b (take (body_width b) u)) (sym form_is ∙ f)).0

-- how an entry stands to (k, c)
module _ (k : ℕ) (c : Text) (e : Entry) where
  pub above_high : k < e.kind → above k c e ≡ true
  unfolding above
  above_high h = rw (lt-ltb k e.kind h)

  pub above_low : e.kind < k → above k c e ≡ false
  unfolding above
  above_low h = rw (le-ltb k e.kind (omega arith), ne_eqb k e.kind (λ z. omega arith))

  pub above_same : k ≡ e.kind → above k c e ≡ below c (code_of e)
  unfolding above
  above_same h = rw (le-ltb k e.kind (omega arith), eq-eqb k e.kind h)

  pub above_le : above k c e ≡ true → k ≤ e.kind
  above_le h = go (three k e.kind)
    where
      go : Three k e.kind → k ≤ e.kind
      go (lt l) = omega arith
      go (eq l) = omega arith
      go (gt l) = clash (cc (above_low l))

  -- soundness goes by the first entry
  module _ (es : List Entry) where
    pub sound_on : above k c e ≡ true → entry_form e ≡ true → sound_from k c (e ∷ es) ≡ sound_from e.kind (code_of e) es
    unfolding sound_from
    sound_on a f = rw (a, f)

    pub sound_unplaced : above k c e ≡ false → sound_from k c (e ∷ es) ≡ false
    unfolding sound_from
    sound_unplaced a = rw a

    pub sound_unformed : entry_form e ≡ false → sound_from k c (e ∷ es) ≡ false
    unfolding sound_from
    sound_unformed f = rw f (go (above k c e))
      where
        go : (a : Bool) → (a && false && sound_from e.kind (code_of e) es) ≡ false
        go true = refl
        go false = refl

    pub sound_says : sound_from k c (e ∷ es) ≡ true → (above k c e ≡ true) × (entry_form e ≡ true) × (sound_from e.kind (code_of e) es ≡ true)
    unfolding sound_from
    sound_says h =
        let p = both (above k c e && entry_form e) (sound_from e.kind (code_of e) es) h in
        let q = both (above k c e) (entry_form e) p.0 in
        (q.0, q.1, p.1)

-- an entry of its form that is of kind k or above stands above (k, no code)
pub above_floor : (k : ℕ) (e : Entry) → entry_form e ≡ true → k ≤ e.kind → above k [] e ≡ true
above_floor k e f l = go (three k e.kind)
  where
    go : Three k e.kind → above k [] e ≡ true
    go (lt m) = above_high k [] e m
    go (eq m) = above_same k [] e m ∙ code_above e f
    go (gt m) = absurd (omega arith)

-- where a kind starts goes by the first entry
module _ (j : ℕ) (e : Entry) (es : List Entry) where
  pub bytes_more : e.kind < j → bytes_before j (e ∷ es) ≡ suc (body_width e.kind) + bytes_before j es
  unfolding bytes_before
  bytes_more h = rw (lt-ltb e.kind j h)

  pub bytes_here : j ≤ e.kind → bytes_before j (e ∷ es) ≡ 0
  unfolding bytes_before
  bytes_here h = rw (le-ltb e.kind j h)

pub bytes_none : (j : ℕ) → bytes_before j (entries []) ≡ 0
unfolding bytes_before
bytes_none j = rw none

pub sound_none : (k : ℕ) (c : Text) → sound_from k c (entries []) ≡ true
unfolding sound_from
sound_none k c = rw none

-- a list that is sound from kind k has none before it
pub floor_zero : (k : ℕ) (c : Text) (es : List Entry) → sound_from k c es ≡ true → bytes_before k es ≡ 0
unfolding bytes_before
floor_zero k c [] h = refl
floor_zero k c (e ∷ es) h = bytes_here k e es (above_le k c e (sound_says k c e es h).0)

-- no entry of its form is of kind 9
pub top_false : (c : Text) (e : Entry) (es : List Entry) → sound_from 9 c (e ∷ es) ≡ false
top_false c e es = go (sound_from 9 c (e ∷ es)) refl
  where
    go : (r : Bool) → sound_from 9 c (e ∷ es) ≡ r → r ≡ false
    go false h = refl
    go true h =
        let p = sound_says 9 c e es h in
        absurd (omega (arith, above_le 9 c e p.0, (form_says e p.1).1))

-- a step that is not taken: the entry stands above all of kind k, or is not sound
stop_sound : (k : ℕ) (c : Text) (e : Entry) (es : List Entry) → (eqb e.kind k && (entry_form e && below c (code_of e))) ≡ false
    → sound_from k c (e ∷ es) ≡ sound_from (k + 1) [] (e ∷ es)
stop_sound k c e es h = go (entry_form e) (three k e.kind) refl
  where
    go : (f : Bool) → Three k e.kind → entry_form e ≡ f → sound_from k c (e ∷ es) ≡ sound_from (k + 1) [] (e ∷ es)
    go false t f = sound_unformed k c e es f ∙ sym (sound_unformed (k + 1) [] e es f)
    go true (lt l) f = sound_on k c e es (above_high k c e l) f ∙ sym (sound_on (k + 1) [] e es (above_floor (k + 1) e f (omega arith)) f)
    go true (eq l) f =
        let z : below c (code_of e) ≡ false = (rw (eq-eqb e.kind k (sym l), f) at h) in
        sound_unplaced k c e es (above_same k c e l ∙ z) ∙ sym (sound_unplaced (k + 1) [] e es (above_low (k + 1) [] e (omega arith)))
    go true (gt l) f = sound_unplaced k c e es (above_low k c e l) ∙ sym (sound_unplaced (k + 1) [] e es (above_low (k + 1) [] e (omega arith)))

pub stops : (k : ℕ) (c t : Text) → step_len k c t ≡ 0 → sound_from k c (entries t) ≡ sound_from (k + 1) [] (entries t)
unfolding step_len
stops k c [] h = sound_none k c ∙ sym (sound_none (k + 1) [])
stops k c (b ∷ u) h = rw (unroll b u) (go (eqb b k && (entry_form (entry_of b u) && below c (code_of (entry_of b u)))) refl h)
  where
    go : (r : Bool) → (eqb b k && (entry_form (entry_of b u) && below c (code_of (entry_of b u)))) ≡ r → cond r (suc (body_width b)) 0 ≡ 0
        → sound_from k c (entry_of b u ∷ entries (drop (body_width b) u)) ≡ sound_from (k + 1) [] (entry_of b u ∷ entries (drop (body_width b) u))
    go true g z = absurd (omega arith)
    go false g z = stop_sound k c (entry_of b u) (entries (drop (body_width b) u)) (ap (λ (n : ℕ). eqb n k && (entry_form (entry_of b u) && below c (code_of (entry_of b u)))) (kind_is b u) ∙ g)

-- a step that is taken: what it says, and what it leaves
pub record Moves (k : ℕ) (c t : Text) (n : ℕ) : Type 0 where
  pub long : n ≡ suc (body_width k)
  pub fits : n ≤ length t
  pub sound : sound_from k c (entries t) ≡ sound_from k (take (code_width k) (drop 1 t)) (entries (drop n t))
  pub starts : (j : ℕ) → k < j → bytes_before j (entries t) ≡ n + bytes_before j (entries (drop n t))

moves_on : (k : ℕ) (c u : Text) → entry_form (entry_of k u) ≡ true → below c (code_of (entry_of k u)) ≡ true → Moves k c (k ∷ u) (suc (body_width k))
unfolding entry_of
moves_on k c u f o =
    record {
      long = refl;
      fits = omega (arith, (whole_says k u (form_whole k u f)).2);
      sound = rw (unroll k u) (sound_on k c (entry_of k u) (entries (drop (body_width k) u)) (above_same k c (entry_of k u) refl ∙ o) f ∙ ap (λ (l : Text). sound_from k l (entries (drop (body_width k) u))) (code_is k u));
      starts = λ j l. rw (unroll k u) (bytes_more j (entry_of k u) (entries (drop (body_width k) u)) l);
    }

pub moves : (k : ℕ) (c t : Text) (n : ℕ) → n ≡ step_len k c t → (n ≡ 0 → ⊥) → Moves k c t n
unfolding step_len
moves k c [] n e h = absurd (h e)
moves k c (b ∷ u) n e h = go (eqb b k && (entry_form (entry_of b u) && below c (code_of (entry_of b u)))) refl e
  where
    go : (r : Bool) → (eqb b k && (entry_form (entry_of b u) && below c (code_of (entry_of b u)))) ≡ r → n ≡ cond r (suc (body_width b)) 0 → Moves k c (b ∷ u) n
    go true g z =
        let p = both (eqb b k) (entry_form (entry_of b u) && below c (code_of (entry_of b u))) g in
        let q = both (entry_form (entry_of b u)) (below c (code_of (entry_of b u))) p.1 in
        rw z (subst (λ (i : ℕ). Moves i c (b ∷ u) (suc (body_width b))) (eqb-true b k p.0) (moves_on b c u q.0 q.1))
    go false g z = absurd (h z)

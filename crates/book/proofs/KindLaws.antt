-- The entries of one kind as rows of one width: where they stand, that their codes ascend, that bytes after them alter nothing, and that a test of that
-- kind asks them alone.
-- Assumes nothing.
use mathlib.Core.Path.{◌≡◌, refl, sym, ap, ◌∙◌, subst}
use mathlib.Core.Bool.{Bool, true, false, ◌||◌}
use mathlib.Core.List.{List, [], ◌∷◌, ◌++◌}
use Prim.Native.Nat.{ℕ, zero, suc, ◌+◌, ◌*◌, ◌≤◌, ◌<◌}
use native.Mathlib.Nat.{not-suc-le-zero, le_of_suc-le-suc, suc-mul, le_refl}
use native.Mathlib.Omega.{arith}
use lib.ListN.{length, take, drop, length-drop}
use lib.Seq.{drop-drop, take-append-le, drop-append-le}
use Rattle.house.specs.Text.{Text, any, order_of}
use Rattle.std.specs.declared.cmp.Ordering.TheVariants.{Less}
use Rattle.house.proofs.Small.{Three, lt, eq, gt, three}
use Rattle.house.proofs.Facts.{of_true}
use Rattle.house.proofs.OrderAlgebra.{less_trans}
use Rattle.house.proofs.Decisions.{below_less}
use Rattle.book.specs.Book.{body_width, Entry, entry_of, entries, code_of, entry_form, above, bytes_before}
use Rattle.book.specs.Inside.{sound_from}
use Rattle.book.proofs.EntryLaws.{unroll, none, by_entries, kind_is, form_whole, whole_says, above_same, above_le, above_floor, sound_on, sound_none, sound_says, bytes_more, bytes_here, bytes_none}

-- a test that fails of all entries of their form, of kind q or above, fails of all entries that are sound from there
pub none_sound : (p : Entry → Bool) (q : ℕ) (c : Text) (es : List Entry) → sound_from q c es ≡ true → ((e : Entry) → q ≤ e.kind → entry_form e ≡ true → p e ≡ false) → any p es ≡ false
none_sound p q c [] h f = refl
none_sound p q c (e ∷ es) h f =
    let y = sound_says q c e es h in
    let l : q ≤ e.kind = above_le q c e y.0 in
    rw (f e l y.1) (none_sound p e.kind (code_of e) es y.2 (λ d m g. f d (omega arith) g))

module _ (k : ℕ) where
  -- n entries of kind k and of their form stand at the front of t, and their codes ascend from c
  abbrev pub Rows : Text → Text → ℕ → Type 0
  Rows c t zero = Unit {0}
  Rows c t (suc n) =
      (t ≡ k ∷ drop 1 t) × (entry_form (entry_of k (drop 1 t)) ≡ true) × (order_of c (code_of (entry_of k (drop 1 t))) ≡ Less)
      × Rows (code_of (entry_of k (drop 1 t))) (drop (body_width k + 1) t) n

  -- one of them passes the test
  abbrev pub any_row : (Entry → Bool) → Text → ℕ → Bool
  any_row p t zero = false
  any_row p t (suc n) = p (entry_of k (drop 1 t)) || any_row p (drop (body_width k + 1) t) n

  -- number i of them
  unfoldable pub row_at : Text → ℕ → Entry
  row_at t i = entry_of k (drop (i * (body_width k + 1) + 1) t)

  row_first : (t : Text) → row_at t 0 ≡ entry_of k (drop 1 t)
  unfolding row_at
  row_first t =
      let e : 0 * (body_width k + 1) + 1 ≡ 1 = omega arith in
      rw e

  on : (t : Text) (i j : ℕ) → drop (suc i * (body_width k + 1) + j) t ≡ drop (i * (body_width k + 1) + j) (drop (body_width k + 1) t)
  on t i j =
      let e : suc i * (body_width k + 1) + j ≡ (body_width k + 1) + (i * (body_width k + 1) + j) = omega (arith, suc-mul i (body_width k + 1)) in
      ap (λ (n : ℕ). drop n t) e ∙ sym (drop-drop (i * (body_width k + 1) + j) (body_width k + 1) t)

  row_next : (t : Text) (i : ℕ) → row_at t (suc i) ≡ row_at (drop (body_width k + 1) t) i
  unfolding row_at
  row_next t i = ap (entry_of k) (on t i 1)

  -- it is of its form, and there
  pub row_form : (n : ℕ) (c t : Text) → Rows c t n → (i : ℕ) → i < n → entry_form (row_at t i) ≡ true
  row_form zero c t r i h = absurd (not-suc-le-zero h)
  row_form (suc n) c t r zero h = rw (row_first t) r.1
  row_form (suc n) c t r (suc i) h = rw (row_next t i) (row_form n _ (drop (body_width k + 1) t) r.3 i (le_of_suc-le-suc h))

  pub row_head : (n : ℕ) (c t : Text) → Rows c t n → (i : ℕ) → i < n → drop (i * (body_width k + 1) + 0) t ≡ k ∷ drop (i * (body_width k + 1) + 1) t
  row_head zero c t r i h = absurd (not-suc-le-zero h)
  row_head (suc n) c t r zero h =
      let e : 0 * (body_width k + 1) + 1 ≡ 1 = omega arith in
      let f : 0 * (body_width k + 1) + 0 ≡ 0 = omega arith in
      rw (e, f) r.0
  row_head (suc n) c t r (suc i) h = on t i 0 ∙ row_head n _ (drop (body_width k + 1) t) r.3 i (le_of_suc-le-suc h) ∙ ap (λ (l : Text). k ∷ l) (sym (on t i 1))

  -- its code stands above c, and above those of the rows before it
  row_above : (n : ℕ) (c t : Text) → Rows c t n → (i : ℕ) → i < n → order_of c (code_of (row_at t i)) ≡ Less
  row_above zero c t r i h = absurd (not-suc-le-zero h)
  row_above (suc n) c t r zero h = rw (row_first t) r.2
  row_above (suc n) c t r (suc i) h = rw (row_next t i) (less_trans c _ _ r.2 (row_above n _ (drop (body_width k + 1) t) r.3 i (le_of_suc-le-suc h)))

  pub row_asc : (n : ℕ) (c t : Text) → Rows c t n → (i j : ℕ) → i < j → j < n → order_of (code_of (row_at t i)) (code_of (row_at t j)) ≡ Less
  row_asc zero c t r i j h l = absurd (not-suc-le-zero l)
  row_asc (suc n) c t r i zero h l = absurd (not-suc-le-zero h)
  row_asc (suc n) c t r zero (suc j) h l = rw (row_first t, row_next t j) (row_above n _ (drop (body_width k + 1) t) r.3 j (le_of_suc-le-suc l))
  row_asc (suc n) c t r (suc i) (suc j) h l = rw (row_next t i, row_next t j) (row_asc n _ (drop (body_width k + 1) t) r.3 i j (le_of_suc-le-suc h) (le_of_suc-le-suc l))

  -- bytes after them alter nothing
  module _ (more : Text) where
    entry_longer : (t : Text) → body_width k + 1 ≤ length t → entry_of k (drop 1 (t ++ more)) ≡ entry_of k (drop 1 t)
    unfolding entry_of
    entry_longer t l =
        let d : drop 1 (t ++ more) ≡ drop 1 t ++ more = drop-append-le 1 t more (omega arith) in
        let e : take (body_width k) (drop 1 t ++ more) ≡ take (body_width k) (drop 1 t) = take-append-le (body_width k) (drop 1 t) more (omega (arith, length-drop 1 t)) in
        rw (d, e)

    first_in : (n : ℕ) (t : Text) → suc n * (body_width k + 1) ≤ length t → (body_width k + 1 ≤ length t) × (n * (body_width k + 1) ≤ length (drop (body_width k + 1) t))
    first_in n t l = (omega (arith, suc-mul n (body_width k + 1)), omega (arith, suc-mul n (body_width k + 1), length-drop (body_width k + 1) t))

    pub rows_longer : (n : ℕ) (c t : Text) → Rows c t n → n * (body_width k + 1) ≤ length t → Rows c (t ++ more) n
    rows_longer zero c t r l = tt
    rows_longer (suc n) c t r l =
        let y = first_in n t l in
        let d : drop 1 (t ++ more) ≡ drop 1 t ++ more = drop-append-le 1 t more (omega (arith, y.0)) in
        let e = entry_longer t y.0 in (
          ap (λ (u : Text). u ++ more) r.0 ∙ ap (λ (u : Text). k ∷ u) (sym d),
          ap entry_form e ∙ r.1,
          ap (λ (x : Entry). order_of c (code_of x)) e ∙ r.2,
          subst (λ (x : Entry). Rows (code_of x) (drop (body_width k + 1) (t ++ more)) n) (sym e)
              (subst (λ (u : Text). Rows (code_of (entry_of k (drop 1 t))) u n) (sym (drop-append-le (body_width k + 1) t more y.0)) (rows_longer n _ (drop (body_width k + 1) t) r.3 y.1)),
        )

    pub any_longer : (p : Entry → Bool) (n : ℕ) (t : Text) → n * (body_width k + 1) ≤ length t → any_row p (t ++ more) n ≡ any_row p t n
    any_longer p zero t l = refl
    any_longer p (suc n) t l =
        let y = first_in n t l in
        rw (entry_longer t y.0, drop-append-le (body_width k + 1) t more y.0, any_longer p n (drop (body_width k + 1) t) y.1)

  -- a test that fails of all, or of all but one
  module _ (p : Entry → Bool) where
    pub any_miss : (n : ℕ) (t : Text) → ((i : ℕ) → i < n → p (row_at t i) ≡ false) → any_row p t n ≡ false
    any_miss zero t h = refl
    any_miss (suc n) t h =
        let z : p (entry_of k (drop 1 t)) ≡ false = ap p (sym (row_first t)) ∙ h 0 (omega arith) in
        rw z (any_miss n (drop (body_width k + 1) t) (λ i l. ap p (sym (row_next t i)) ∙ h (suc i) (omega arith)))

    pub any_only : (n : ℕ) (t : Text) (m : ℕ) → m < n → ((i : ℕ) → i < n → (i ≡ m → ⊥) → p (row_at t i) ≡ false) → any_row p t n ≡ p (row_at t m)
    any_only zero t m l h = absurd (not-suc-le-zero l)
    any_only (suc n) t zero l h =
        rw (any_miss n (drop (body_width k + 1) t) (λ i g. ap p (sym (row_next t i)) ∙ h (suc i) (omega arith) (λ e. omega arith)), row_first t) (or-false (p (entry_of k (drop 1 t))))
      where
        or-false : (b : Bool) → (b || false) ≡ b
        or-false true = refl
        or-false false = refl
    any_only (suc n) t (suc m) l h =
        let z : p (entry_of k (drop 1 t)) ≡ false = ap p (sym (row_first t)) ∙ h 0 (omega arith) (λ e. omega arith) in
        rw (z, row_next t m) (any_only n (drop (body_width k + 1) t) m (le_of_suc-le-suc l) (λ i g f. ap p (sym (row_next t i)) ∙ h (suc i) (omega arith) (λ e. f (omega arith))))

  -- a test that only entries of kind k pass
  abbrev pub Only : (Entry → Bool) → Type 0
  Only p = (e : Entry) → (e.kind ≡ k → ⊥) → p e ≡ false

  -- t starts with the entries of kind k
  pub record RowsOf (c t : Text) (n : ℕ) : Type 0 where
    pub span : bytes_before (k + 1) (entries t) ≡ n * (body_width k + 1)
    pub fits : n * (body_width k + 1) ≤ length t
    pub rows : Rows c t n
    pub asks : (p : Entry → Bool) → Only p → any p (entries t) ≡ any_row p t n

  no_rows : (c t : Text) → bytes_before (k + 1) (entries t) ≡ 0 → ((p : Entry → Bool) → Only p → any p (entries t) ≡ false) → RowsOf c t 0
  no_rows c t e f = record { span = omega arith; fits = omega arith; rows = tt; asks = f }

  more_rows : (c u : Text) (n : ℕ) → entry_form (entry_of k u) ≡ true → order_of c (code_of (entry_of k u)) ≡ Less → RowsOf (code_of (entry_of k u)) (drop (body_width k) u) n → RowsOf c (k ∷ u) (suc n)
  more_rows c u n f o r =
      let w : body_width k + 1 ≡ suc (body_width k) = omega arith in
      let d : drop (body_width k + 1) (k ∷ u) ≡ drop (body_width k) u = ap (λ (y : ℕ). drop y (k ∷ u)) w in
      let m = suc-mul n (body_width k + 1) in
      record {
        span = rw (unroll k u) (bytes_more (k + 1) (entry_of k u) (entries (drop (body_width k) u)) (omega (arith, kind_is k u)) ∙ omega (arith, r.span, ap body_width (kind_is k u)));
        fits = omega (arith, r.fits, length-drop (body_width k) u, (whole_says k u (form_whole k u f)).2);
        rows = (refl, f, o, subst (λ (y : Text). Rows (code_of (entry_of k u)) y n) (sym d) r.rows);
        asks = λ p q. rw (unroll k u) (ap (λ (b : Bool). p (entry_of k u) || b) (r.asks p q ∙ ap (λ (y : Text). any_row p y n) (sym d)));
      }

  abbrev Has : Text → Type 0
  Has t = (c : Text) → sound_from k c (entries t) ≡ true → (n : ℕ) × RowsOf c t n

  rows_here : (u : Text) → Has (drop (body_width k) u) → Has (k ∷ u)
  unfolding entry_of
  rows_here u r c h =
      let y = sound_says k c (entry_of k u) (entries (drop (body_width k) u)) (rw (unroll k u) at h) in
      let q = r (code_of (entry_of k u)) y.2 in
      (suc q.0, more_rows c u q.0 y.1 (below_less c (code_of (entry_of k u)) (of_true _ (sym (above_same k c (entry_of k u) refl) ∙ y.0))) q.1)

  rows_past : (b : ℕ) (u : Text) → k < b → (c : Text) → sound_from k c (entries (b ∷ u)) ≡ true → RowsOf c (b ∷ u) 0
  unfolding entry_of
  rows_past b u g c h =
      let es = entries (drop (body_width b) u) in
      let y = sound_says k c (entry_of b u) es (rw (unroll b u) at h) in
      let s : sound_from b [] (entries (b ∷ u)) ≡ true = rw (unroll b u) (sound_on b [] (entry_of b u) es (above_floor b (entry_of b u) y.1 (le_refl b)) y.1 ∙ y.2) in
      no_rows c (b ∷ u) (rw (unroll b u) (bytes_here (k + 1) (entry_of b u) es (omega arith))) (λ p q. none_sound p b [] (entries (b ∷ u)) s (λ e l f. q e (λ z. omega arith)))

  pub rows_of : (t : Text) → Has t
  rows_of = by_entries Has (λ c h. (0, no_rows c [] (bytes_none (k + 1)) (λ p q. rw none))) step
    where
      step : (b : ℕ) (u : Text) → Has (drop (body_width b) u) → Has (b ∷ u)
      step b u r c h = go (three k b)
        where
          go : Three k b → (n : ℕ) × RowsOf c (b ∷ u) n
          go (lt g) = (0, rows_past b u g c h)
          go (eq e) = subst (λ (y : ℕ). Has (drop (body_width y) u) → Has (y ∷ u)) e (rows_here u) r c h
          go (gt g) = absurd (omega (arith, above_le k c (entry_of b u) (sound_says k c (entry_of b u) _ (rw (unroll b u) at h)).0, kind_is b u))

  -- the entries of the kinds below k are passed over
  pub record Skips (t : Text) (f : ℕ) : Type 0 where
    pub sound : sound_from k [] (entries (drop f t)) ≡ true
    pub within : f ≤ length t
    pub span : bytes_before (k + 1) (entries t) ≡ f + bytes_before (k + 1) (entries (drop f t))
    pub asks : (p : Entry → Bool) → Only p → any p (entries t) ≡ any p (entries (drop f t))

  abbrev Passes : Text → Type 0
  Passes t = (q : ℕ) (c : Text) → sound_from q c (entries t) ≡ true → Skips t (bytes_before k (entries t))

  stays : (t : Text) → bytes_before k (entries t) ≡ 0 → sound_from k [] (entries t) ≡ true → Skips t (bytes_before k (entries t))
  stays t e h = rw e (record { sound = h; within = omega arith; span = omega arith; asks = λ p q. refl })

  passes : (b : ℕ) (u : Text) → b < k → entry_form (entry_of b u) ≡ true → Skips (drop (body_width b) u) (bytes_before k (entries (drop (body_width b) u))) → Skips (b ∷ u) (bytes_before k (entries (b ∷ u)))
  unfolding entry_of
  passes b u g y r =
      let es = entries (drop (body_width b) u) in
      let f = bytes_before k es in
      let d : drop f (drop (body_width b) u) ≡ drop (body_width b + f) u = drop-drop f (body_width b) u in
      let e : bytes_before k (entries (b ∷ u)) ≡ suc (body_width b + f) = rw (unroll b u) (bytes_more k (entry_of b u) es g ∙ omega arith) in
      rw e
      (record {
        sound = ap (λ (z : Text). sound_from k [] (entries z)) (sym d) ∙ r.sound;
        within = omega (arith, r.within, length-drop (body_width b) u, (whole_says b u (form_whole b u y)).2);
        span = rw (unroll b u) (bytes_more (k + 1) (entry_of b u) es (omega arith) ∙ omega (arith, r.span, ap (λ (z : Text). bytes_before (k + 1) (entries z)) d));
        asks = λ p q. rw (unroll b u, q (entry_of b u) (λ z. omega arith)) (r.asks p q ∙ ap (λ (z : Text). any p (entries z)) d);
      })

  pub skips : (t : Text) → Passes t
  skips = by_entries Passes (λ q c h. stays [] (bytes_none k) (sound_none k [])) step
    where
      step : (b : ℕ) (u : Text) → Passes (drop (body_width b) u) → Passes (b ∷ u)
      step b u r q c h = go (three k b)
        where
          es : List Entry
          es = entries (drop (body_width b) u)

          says : (above q c (entry_of b u) ≡ true) × (entry_form (entry_of b u) ≡ true) × (sound_from (entry_of b u).kind (code_of (entry_of b u)) es ≡ true)
          says = sound_says q c (entry_of b u) es (rw (unroll b u) at h)

          stay : k ≤ (entry_of b u).kind → Skips (b ∷ u) (bytes_before k (entries (b ∷ u)))
          stay l = stays (b ∷ u) (rw (unroll b u) (bytes_here k (entry_of b u) es l)) (rw (unroll b u) (sound_on k [] (entry_of b u) es (above_floor k (entry_of b u) says.1 l) says.1 ∙ says.2))

          go : Three k b → Skips (b ∷ u) (bytes_before k (entries (b ∷ u)))
          go (lt g) = stay (omega (arith, kind_is b u))
          go (eq g) = stay (omega (arith, kind_is b u))
          go (gt g) = passes b u g says.1 (r (entry_of b u).kind (code_of (entry_of b u)) says.2)

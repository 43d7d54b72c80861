-- What each need of `body_follows`, `step`, `run` and `valid` asks.
-- Assumes nothing.
use mathlib.Core.Path.{◌≡◌, refl, sym, ap, ◌∙◌}
use mathlib.Core.Bool.{Bool, true, false, cond, ◌&&◌}
use mathlib.Core.List.{List, [], ◌∷◌}
use Prim.Native.Nat.{ℕ, suc, ◌+◌, ◌-◌, ◌≤◌, ◌<◌}
use native.Mathlib.Nat.{le_refl}
use native.Mathlib.Omega.{arith}
use borrow.Author.Tests.{eq-eqb, ne_eqb, le-leb, lt-leb}
use borrow.Author.Rules.{rules}
use lib.Dec.{eqb}
use lib.ListN.{length, get_or, take, drop, set, length-drop}
use lib.Seq.{drop-drop, get_or-set_same, get_or-set_other}
use Rattle.house.specs.Text.{Text, below}
use Rattle.house.proofs.Small.{Three, lt, eq, gt, three}
use Rattle.house.proofs.Suffix.{drop_here, drop_past}
use Rattle.book.specs.declared.Position.{Position}
use Rattle.book.specs.declared.Read.{Read}
use Rattle.book.specs.declared.Read.TheVariants as read
use Rattle.book.specs.Book.{code_width, body_width, entry_of, entries, code_of, body_form, is_whole, read_at, bytes_before, sections_of, valid_of}
use Rattle.book.specs.Inside.{sound_from, body_follows, step_len, RunIs}
use Rattle.book.proofs.WidthLaws.{body_parts}
use Rattle.book.proofs.EntryLaws.{unroll, form_is, sound_none, bytes_none, floor_zero, top_false, Moves, moves, stops}
use Rattle.book.proofs.OrderlyLaws.{book_is}
use Rattle.book.proofs.FormLaws.{front, code_in}
use Rattle.book.proofs.ReadLaws.{is_none, unread, read_head, read_whole, read_next, read_body, read_in, read_part, read_long}
use Rattle.std.proofs.Common.{Some, None}

-- body_follows
module _ (k : ℕ) (c t : Text) (f : Bool) (v : f ≡ body_form k t) where
  pub follows_unformed : f ≡ false → false ≡ body_follows k c t
  unfolding body_follows
  follows_unformed z = rw (← v, z)

  pub follows_formed : f ≡ true → (w : ℕ) (r : Bool) → w ≡ code_width k → r ≡ below c (take w t) → r ≡ body_follows k c t
  unfolding body_follows
  follows_formed z w r j p = rw (← v, z, ← j) p

pub ruleset for_follows = (rules, front, code_in, follows_unformed, follows_formed)

-- step: how long it is, by its tests
no_step : (at k : ℕ) (c t : Text) → is_none (read_at at t) ≡ true → step_len k c t ≡ 0
unfolding step_len
no_step at k c [] h = refl
no_step at k c (x ∷ u) h = rw (unread at x u h) (go (eqb x k))
  where
    go : (p : Bool) → cond (p && false) (suc (body_width x)) 0 ≡ 0
    go true = refl
    go false = refl

other_step : (k x : ℕ) (c u : Text) → (x ≡ k → ⊥) → step_len k c (x ∷ u) ≡ 0
unfolding step_len
other_step k x c u n = rw (ne_eqb x k n)

step_is : (k : ℕ) (c u : Text) (f : Bool) → is_whole k u ≡ true → f ≡ body_follows k c (take (body_width k) u) → step_len k c (k ∷ u) ≡ cond f (suc (body_width k)) 0
unfolding step_len body_follows code_of entry_of
step_is k c u f h e = rw (eq-eqb k k refl, form_is k u, h, e)

stay : (at n : ℕ) → n ≡ 0 → at ≡ at + n
stay at n e = omega arith

module _ (s : Text) (at : ℕ) (e : Read) (r : e ≡ read_at at (drop at s)) where
  module _ (k : ℕ) (c : Text) where
    pub step_end : e ≡ read.End → at ≡ at + step_len k c (drop at s)
    step_end h = stay at _ (no_step at k c (drop at s) (ap is_none (sym r ∙ h)))

    pub step_bad : e ≡ read.Malformed → at ≡ at + step_len k c (drop at s)
    step_bad h = stay at _ (no_step at k c (drop at s) (ap is_none (sym r ∙ h)))

  module _ (x b : ℕ) (n : Position) (g : e ≡ read.Entry x b n) (k : ℕ) where
    pub step_other : (c : Text) → (x ≡ k → ⊥) → at ≡ at + step_len k c (drop at s)
    step_other c m = stay at _ (rw (read_head s at e r x b n g) (other_step k x c (drop 1 (drop at s)) m))

    module _ (q : x ≡ k) (c : Text) (f : Bool) (v : f ≡ body_follows k c (take (n.at - b) (drop b s))) where
      taken : step_len k c (drop at s) ≡ cond f (suc (body_width k)) 0
      taken =
          ap (step_len k c) (read_head s at e r x b n g ∙ ap (λ (y : ℕ). y ∷ drop 1 (drop at s)) q)
          ∙ step_is k c (drop 1 (drop at s)) f (ap (λ (y : ℕ). is_whole y (drop 1 (drop at s))) (sym q) ∙ read_whole s at e r x b n g)
          (v ∙ ap (body_follows k c) (read_part s at e r x b n g ∙ ap (λ (y : ℕ). take (body_width y) (drop 1 (drop at s))) q))

      pub step_not : f ≡ false → at ≡ at + step_len k c (drop at s)
      step_not z = stay at _ (taken ∙ ap (λ (y : Bool). cond y (suc (body_width k)) 0) z)

      pub step_on : f ≡ true → n.at ≡ at + step_len k c (drop at s)
      step_on z =
          let l : step_len k c (drop at s) ≡ suc (body_width k) = taken ∙ ap (λ (y : Bool). cond y (suc (body_width k)) 0) z in
          omega (arith, read_next s at e r x b n g, ap body_width q)

pub ruleset for_step = (rules, read_body, read_in, read_long, step_end, step_bad, step_other, step_not, step_on)

-- run: what has been passed from `from` to `at`, the last code being c
pub record RunTo (s : Text) (from k : ℕ) (c : Text) (at : ℕ) : Type 0 where
  pub sound : sound_from k [] (entries (drop from s)) ≡ sound_from k c (entries (drop at s))
  pub starts : (j : ℕ) → k < j → from + bytes_before j (entries (drop from s)) ≡ at + bytes_before j (entries (drop at s))

pub run_start : (s : Text) (from k : ℕ) → RunTo s from k (take (from - from) (drop from s)) from
run_start s from k =
    let z : from - from ≡ 0 = omega arith in
    record { sound = rw z; starts = λ j h. refl }

module _ (s : Text) (from k : ℕ) (c : Text) (at : ℕ) (inv : RunTo s from k c at) (f : from ≤ at) (l : at ≤ length s) where
  run_is : step_len k c (drop at s) ≡ 0 → RunIs s from k at
  run_is z = record { on = f; within = l; sound = inv.sound ∙ stops k c (drop at s) z; starts = inv.starts }

  pub run_past : length s ≤ at → RunIs s from k at
  unfolding step_len
  run_past h = run_is (rw (drop_past s at h))

  module _ (n : ℕ) (e : n ≡ at + step_len k c (drop at s)) where
    pub run_stop : n ≡ at → RunIs s from k at
    run_stop h = run_is (omega arith)

    module _ (m : n ≡ at → ⊥) where
      moved : Moves k c (drop at s) (step_len k c (drop at s))
      moved = moves k c (drop at s) (step_len k c (drop at s)) refl (λ z. m (omega arith))

      pub run_less : at < length s → length s - n < length s - at
      run_less h = omega (arith, moved.long)

      pub run_from : from ≤ n
      run_from = omega arith

      module _ (w : ℕ) (g : w ≡ code_width k) where
        pub run_till : at + 1 + w ≤ length s
        run_till = omega (arith, moved.long, moved.fits, body_parts k, length-drop at s)

        pub run_fits : length s < 18446744073709551616 → at + 1 + w < 18446744073709551616
        run_fits h = omega (arith, run_till)

        pub run_on : RunTo s from k (take (at + 1 + w - (at + 1)) (drop (at + 1) s)) n
        run_on =
            let t : at + 1 + w - (at + 1) ≡ code_width k = omega arith in
            let d : drop (step_len k c (drop at s)) (drop at s) ≡ drop n s = drop-drop (step_len k c (drop at s)) at s ∙ ap (λ (y : ℕ). drop y s) (sym e) in
            let o : drop 1 (drop at s) ≡ drop (at + 1) s = drop-drop 1 at s in
            record {
              sound = inv.sound ∙ moved.sound ∙ rw (t, d, o);
              starts = λ j h. inv.starts j h ∙ omega (arith, moved.starts j h, ap (λ (y : Text). bytes_before j (entries y)) d);
            }

pub ruleset for_run = (rules, run_start, run_past, run_stop, run_less, run_from, run_till, run_fits, run_on)

-- valid: the kinds below k have been passed, up to `at`
pub record Upto (s : Text) (at k : ℕ) (z : List ℕ) : Type 0 where
  pub sound : sound_from 1 [] (entries s) ≡ sound_from k [] (entries (drop at s))
  pub ahead : (j : ℕ) → k ≤ j → bytes_before j (entries s) ≡ at + bytes_before j (entries (drop at s))
  pub settled : sound_from 1 [] (entries s) ≡ true → (j : ℕ) → j < k → 1 ≤ j → get_or z j 0 ≡ bytes_before j (entries s)

pub upto_start : (s : Text) (z : List ℕ) → Upto s 0 1 z
upto_start s z = record { sound = refl; ahead = λ j h. omega arith; settled = λ h j l m. absurd (omega arith) }

pub upto_on : (s : Text) (at k : ℕ) (z : List ℕ) → Upto s at k z → (r : ℕ) → RunIs s at k r → k < length z → Upto s r (k + 1) (set z k at)
upto_on s at k z inv r e l =
    record {
      sound = inv.sound ∙ e.sound;
      ahead = λ j h. inv.ahead j (omega arith) ∙ e.starts j (omega arith);
      settled = λ h j m o. go h j o (three j k) m;
    }
  where
    go : sound_from 1 [] (entries s) ≡ true → (j : ℕ) → 1 ≤ j → Three j k → j < k + 1 → get_or (set z k at) j 0 ≡ bytes_before j (entries s)
    go h j o (lt m) n = get_or-set_other z k j at 0 (λ e. omega arith) ∙ inv.settled h j m o
    go h j o (eq m) n =
        let b : bytes_before k (entries (drop at s)) ≡ 0 = floor_zero k [] (entries (drop at s)) (sym inv.sound ∙ h) in
        let d : bytes_before k (entries s) ≡ at = omega (arith, inv.ahead k (le_refl k)) in
        rw m (get_or-set_same z k at 0 l ∙ sym d)
    go h j o (gt m) n = absurd (omega arith)

module _ (s : Text) where
  pub valid_long : 262144 < length s → None ≡ valid_of s
  unfolding valid_of
  valid_long h = rw (book_is s, lt-leb (length s) 262144 h)

  module _ (h : length s ≤ 262144) (at k : ℕ) (z : List ℕ) (inv : Upto s at k z) (l : 9 ≤ k) (g : k ≤ 9) where
    nine : k ≡ 9
    nine = omega arith

    pub valid_not : (at ≡ length s → ⊥) → at ≤ length s → None ≡ valid_of s
    unfolding valid_of
    valid_not n m =
        let o : at < length s = omega arith in
        let f : sound_from 1 [] (entries s) ≡ false =
        inv.sound ∙ ap (λ (y : ℕ). sound_from y [] (entries (drop at s))) nine
        ∙ ap (λ (y : Text). sound_from 9 [] (entries y)) (drop_here s at o)
        ∙ rw (unroll (get_or s at 0) (drop (at + 1) s)) (top_false [] _ _) in
        rw (book_is s, le-leb (length s) 262144 h, f)

    module _ (e : at ≡ length s) where
      ends : drop at s ≡ []
      ends = drop_past s at (omega arith)

      sounds : sound_from 1 [] (entries s) ≡ true
      sounds = inv.sound ∙ ap (λ (y : Text). sound_from k [] (entries y)) ends ∙ sound_none k []

      last_is : at ≡ bytes_before 9 (entries s)
      last_is = sym (inv.ahead 9 g ∙ ap (λ (y : Text). at + bytes_before 9 (entries y)) ends ∙ omega (arith, bytes_none 9))

      at_is : (j : ℕ) → j < 9 → 1 ≤ j → get_or z j 0 ≡ bytes_before j (entries s)
      at_is j m o = inv.settled sounds j (omega arith) o

      pub valid_is :
          Some (record { antigens = get_or z 2 0; reasons = get_or z 3 0; manufacturers = get_or z 4 0; dosage_types = get_or z 5 0; reasons_not = get_or z 6 0; with_reason = get_or z 7 0; with_antigen = get_or z 8 0; end = at }) ≡ valid_of s
      unfolding valid_of sections_of
      valid_is =
          rw (book_is s, le-leb (length s) 262144 h, sounds)
          (cc (at_is 2 (omega arith) (omega arith), at_is 3 (omega arith) (omega arith), at_is 4 (omega arith) (omega arith), at_is 5 (omega arith) (omega arith), at_is 6 (omega arith) (omega arith), at_is 7 (omega arith) (omega arith), at_is 8 (omega arith) (omega arith), last_is))

pub ruleset for_valid = (rules, upto_start, upto_on, valid_long, valid_not, valid_is)

-- What each need of `ending`, `eight_low`, `sixteens_from`, `plain_from`, `text_end`, `line_at`, `lines_on`, `line_start` and `line_text` asks.
-- Assumes nothing.
use mathlib.Core.Path.{◌≡◌, refl, sym, ◌∙◌}
use mathlib.Core.Bool.{Bool, true, false, not, ◌||◌}
use mathlib.Core.List.{[], ◌∷◌}
use Prim.Native.Nat.{ℕ, zero, suc, ◌+◌, ◌-◌, ◌≤◌, ◌<◌}
use native.Mathlib.Nat.{zero-add, add-zero, add_assoc}
use native.Mathlib.Numerals.{add-one}
use native.Mathlib.Omega.{arith}
use borrow.Author.Rules.{rules}
use borrow.Author.Tests.{eq-eqb, ne_eqb, ltb-false}
use lib.Dec.{eqb, ltb}
use lib.ListN.{length, get_or, take, drop, length-drop}
use lib.Seq.{drop-drop}
use Rattle.house.specs.Text.{Text, any}
use Rattle.house.proofs.Suffix.{drop_here, drop_past, eight}
use Rattle.house.proofs.Small.{clash}
use Rattle.lines_fields.specs.declared.LineAt.{LineAt}
use Rattle.lines_fields.specs.Lines.{LF, CR, lf_next, ending_of, text_len, line_len, line_at, LineIs, text_at, lines_len}
use Rattle.lines_fields.specs.Inside.{is_low}
use Rattle.lines_fields.proofs.LineLaws.{ending_plain, text_more, text_stop, text_nil, ended_is, line_is, at_next, at_text, text_after, lines_none, lines_le}

-- ending
module _ (s : Text) (i : ℕ) where
  pub ending_past : length s ≤ i → 0 ≡ ending_of (drop i s)
  unfolding ending_of
  ending_past h = rw (drop_past s i h)

  module _ (h : i < length s) where
    pub ending_lf : get_or s i 0 ≡ LF → 1 ≡ ending_of (drop i s)
    unfolding ending_of
    ending_lf e = rw (drop_here s i h, eq-eqb _ _ e)

    module _ (e : get_or s i 0 ≡ LF → ⊥) where
      pub ending_other : (get_or s i 0 ≡ CR → ⊥) → 0 ≡ ending_of (drop i s)
      unfolding ending_of
      ending_other f = rw (drop_here s i h, ne_eqb _ _ e, ne_eqb _ _ f)

      module _ (f : get_or s i 0 ≡ CR) where
        pub ending_last : length s ≤ i + 1 → 0 ≡ ending_of (drop i s)
        unfolding ending_of lf_next
        ending_last k = rw (drop_here s i h, ne_eqb _ _ e, eq-eqb _ _ f, drop_past s (i + 1) k)

        pub ending_crlf : i + 1 < length s → get_or s (i + 1) 0 ≡ LF → 2 ≡ ending_of (drop i s)
        unfolding ending_of lf_next
        ending_crlf k g = rw (drop_here s i h, ne_eqb _ _ e, eq-eqb _ _ f, drop_here s (i + 1) k, eq-eqb _ _ g)

        pub ending_cr : i + 1 < length s → (get_or s (i + 1) 0 ≡ LF → ⊥) → 0 ≡ ending_of (drop i s)
        unfolding ending_of lf_next
        ending_cr k g = rw (drop_here s i h, ne_eqb _ _ e, eq-eqb _ _ f, drop_here s (i + 1) k, ne_eqb _ _ g)

pub ruleset for_ending = (rules, ending_past, ending_lf, ending_other, ending_last, ending_crlf, ending_cr)

-- eight_low
either : (a b c d e f g h : Bool) → (a || b || c || d || e || f || g || h) ≡ (a || (b || (c || (d || (e || (f || (g || (h || false))))))))
either false false false false false false false false = refl
either false false false false false false false true = refl
either false false false false false false true h = refl
either false false false false false true g h = refl
either false false false false true f g h = refl
either false false false true e f g h = refl
either false false true d e f g h = refl
either false true c d e f g h = refl
either true b c d e f g h = refl

pub eight_low : (s : Text) (i : ℕ) → i + 8 ≤ length s
    → (ltb (get_or s i 0) 14 || ltb (get_or s (i + 1) 0) 14 || ltb (get_or s (i + 2) 0) 14 || ltb (get_or s (i + 3) 0) 14 || ltb (get_or s (i + 4) 0) 14 || ltb (get_or s (i + 5) 0) 14 || ltb (get_or s (i + 6) 0) 14 || ltb (get_or s (i + 7) 0) 14)
    ≡ any is_low (take 8 (drop i s))
unfolding is_low
eight_low s i h =
    rw (eight s i h)
    (either (ltb (get_or s i 0) 14) (ltb (get_or s (i + 1) 0) 14) (ltb (get_or s (i + 2) 0) 14) (ltb (get_or s (i + 3) 0) 14) (ltb (get_or s (i + 4) 0) 14) (ltb (get_or s (i + 5) 0) 14) (ltb (get_or s (i + 6) 0) 14) (ltb (get_or s (i + 7) 0) 14))

pub ruleset for_eight_low = (rules, eight_low)

-- bytes none of which is below 14 end no line
none_low : (n : ℕ) (t : Text) → n ≤ length t → any is_low (take n t) ≡ false → text_len t ≡ n + text_len (drop n t)
unfolding is_low
none_low zero t h l = simp zero-add
none_low (suc n) [] h l = absurd (omega arith)
none_low (suc n) (b ∷ t) h l = go (ltb b 14) refl l (none_low n t (omega arith))
  where
    go : (x : Bool) → ltb b 14 ≡ x → (x || any is_low (take n t)) ≡ false → (any is_low (take n t) ≡ false → text_len t ≡ n + text_len (drop n t))
        → text_len (b ∷ t) ≡ suc n + text_len (drop n t)
    go true e k r = clash (cc)
    go false e k r = rw (text_more b t (ending_plain b t (ltb-false b 14 e)), r k) (omega arith)

module _ (s : Text) (i x : ℕ) (inv : x ≡ i + text_len (drop i s)) (b : Bool) (p : b ≡ any is_low (take 8 (drop i s))) where
  -- plain_from
  pub plain_8 : b ≡ false → 8 ≤ length s - i → x ≡ i + 8 + text_len (drop (i + 8) s)
  plain_8 z h =
      let r = none_low 8 (drop i s) (omega (arith, length-drop i s)) (sym p ∙ z) in
      rw (inv, r, drop-drop 8 i s) (omega arith)

  -- sixteens_from
  pub plain_16 : (c : Bool) → c ≡ any is_low (take 8 (drop (i + 8) s)) → (b || c) ≡ false → i ≤ length s - 16 → 16 ≤ length s → x ≡ i + 16 + text_len (drop (i + 16) s)
  plain_16 c q z h l = go b c refl refl z
    where
      go : (y w : Bool) → b ≡ y → c ≡ w → (y || w) ≡ false → x ≡ i + 16 + text_len (drop (i + 16) s)
      go true w e f k = clash (cc)
      go false true e f k = clash (cc)
      go false false e f k =
          let j : i + 8 + 8 ≡ i + 16 = omega arith in
          let r = none_low 8 (drop (i + 8) s) (omega (arith, length-drop (i + 8) s)) (sym q ∙ f) in
          let t : text_len (drop (i + 8) s) ≡ 8 + text_len (drop (i + 16) s) = rw (r, drop-drop 8 (i + 8) s, j) in
          rw (plain_8 e (omega arith), t) (omega arith)

pub ruleset for_sixteens_from = (rules, plain_16)

pub ruleset for_plain_from = (rules, plain_8)

-- text_end: the end x, from a position i that the loop has come to
module _ (s : Text) (i x : ℕ) (inv : x ≡ i + text_len (drop i s)) where
  pub end_past : length s ≤ i → i ≡ x
  end_past h = rw (inv, drop_past s i h, text_nil, add-zero)

  module _ (h : i < length s) (e : ℕ) (p : e ≡ ending_of (drop i s)) where
    pub end_stop : (e ≡ 0 → ⊥) → i ≡ x
    end_stop n = rw (inv, text_stop (drop i s) (λ z. n (p ∙ z)), add-zero)

    pub end_on : e ≡ 0 → x ≡ i + 1 + text_len (drop (i + 1) s)
    end_on z =
        let g : ending_of (get_or s i 0 ∷ drop (i + 1) s) ≡ 0 = rw (← drop_here s i h) (sym p ∙ z) in
        rw (inv, drop_here s i h, text_more (get_or s i 0) (drop (i + 1) s) g) (omega arith)

  pub end_plain : i < length s → 14 ≤ get_or s i 0 → x ≡ i + 1 + text_len (drop (i + 1) s)
  end_plain h l = rw (inv, drop_here s i h, text_more (get_or s i 0) (drop (i + 1) s) (ending_plain (get_or s i 0) (drop (i + 1) s) l)) (omega arith)

pub ruleset for_text_end = (rules, end_past, end_stop, end_on, end_plain)

-- line_at: the text's end t, and the ending of e bytes there
pub line_found : (s : Text) (at t e : ℕ) → t ≡ at + text_len (drop at s) → e ≡ ending_of (drop t s) → LineIs s at (record { end = t; next = t + e; lf = not (eqb e 0) })
unfolding line_at line_len
line_found s at t e p q =
    let f : ending_of (drop (text_len (drop at s)) (drop at s)) ≡ e = rw (drop-drop, ← p) (sym q) in
    line_is s at _ (rw (ended_is, f, p, add_assoc))

pub ruleset for_line_at = (rules, line_found)

-- lines_on: the place x where the line starts, from a position at with k lines left
module _ (s : Text) (at k x : ℕ) (inv : x ≡ at + lines_len k (drop at s)) where
  pub start_done : k ≡ 0 → at ≡ x
  unfolding lines_len
  start_done e = rw (inv, e, add-zero)

  pub start_end : length s ≤ at → at ≡ x
  start_end h = rw (inv, drop_past s at h, lines_none, add-zero)

  pub start_on : (q : LineAt) → LineIs s at q → (j : ℕ) → k ≡ j + 1 → x ≡ q.next + lines_len j (drop q.next s)
  unfolding lines_len
  start_on q e j n = rw (inv, n, add-one, drop-drop, at_next s at q e) (omega arith)

pub ruleset for_lines_on = (rules, start_done, start_end, start_on)

-- line_start: from the file's start on
module _ (s : Text) (k r : ℕ) (e : r ≡ 0 + lines_len k (drop 0 s)) where
  pub start_is : r ≡ lines_len k s
  start_is = e ∙ zero-add _

  pub start_in : r ≤ length s
  start_in = omega (arith, start_is, lines_le k s)

pub ruleset for_line_start = (rules, start_is, start_in)

-- line_text
pub text_none : (s : Text) (n : ℕ) → n ≡ 0 → [] ≡ text_at s n
unfolding text_at
text_none s n e = rw e

pub text_part : (s : Text) (n at : ℕ) (q : LineAt) → (n ≡ 0 → ⊥) → at ≡ lines_len (n - 1) s → LineIs s at q → take (q.end - at) (drop at s) ≡ text_at s n
text_part s n at q z a e = at_text s at q e ∙ rw (a, text_after s n z)

pub ruleset for_line_text = (rules, text_none, text_part)

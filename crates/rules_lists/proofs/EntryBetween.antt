-- Of the entries of lines those from one number on and below another that have one word: none before that number, none from the lines past.
-- Assumes nothing.
use mathlib.Core.Path.{◌≡◌, refl, sym, ap, ◌∙◌}
use mathlib.Core.Bool.{Bool, true, false, cond, ◌&&◌, and-false}
use mathlib.Core.List.{[], ◌∷◌, ◌++◌}
use Prim.Native.Nat.{ℕ, ◌+◌, ◌*◌, ◌≤◌, ◌<◌}
use native.Mathlib.Omega.{arith}
use borrow.Author.Tests.{ltb-true, ltb-false, lt-ltb, le-ltb, le-leb, lt-leb}
use lib.Dec.{eqb, ltb, leb}
use lib.ListN.{length, take, drop, take-append-drop}
use lib.Seq.{length-take-le, drop-append-le}
use Rattle.house.specs.Text.{Text, any, same}
use Rattle.house.proofs.Decisions.{same_sym}
use Rattle.lines_fields.specs.Lines.{Line, line_of, line_len, text_len, line_at, fields_len}
use Rattle.lines_fields.proofs.LineLaws.{line_is}
use Rattle.lines_words.specs.Words.{place_bound, word_at, key_at}
use Rattle.lines.specs.Records.{II, IE, is_kind, rec_of}
use Rattle.lines.proofs.PartLaws.{ended_inside}
use Rattle.rules_definitions.specs.Forms.{is_sound}
use Rattle.rules_definitions.specs.Rules.{dose_of}
use Rattle.rules_lists.specs.Entries.{antigens, counted_antigens, antigen_entry, lot_start, lot_entry, entry_of}
use Rattle.rules_lists.proofs.EntryWalk.{any_append, same_line, line_from, next_from, entries_ahead, entries_past, entries_step, no_lines}
use Rattle.rules_lists.proofs.EntryWords.{key_word}

-- no entry of a line stands before the line
high_entries : (q : ℕ → Bool) (i : ℕ) → ((f : ℕ) → i ≤ f → q f ≡ false) → (what : ℕ) (t : Text) → any q (entry_of what i t) ≡ false
unfolding entry_of antigen_entry lot_entry
high_entries q i h what t = go (eqb what antigens) (eqb what counted_antigens)
  where
    one : (b : Bool) (f : ℕ) → i ≤ f → any q (cond b (f ∷ []) []) ≡ false
    one true f l = rw (h f l)
    one false f l = refl

    go : (x y : Bool) → any q (cond x (antigen_entry 0 i t) (cond y (antigen_entry (dose_of (rec_of t)) i t) (lot_entry i t))) ≡ false
    go true y = one (is_sound IE (rec_of t) 4) (0 * place_bound + (i + fields_len 3 t)) (omega arith)
    go false true = one (is_sound IE (rec_of t) 4) (dose_of (rec_of t) * place_bound + (i + fields_len 3 t)) (omega arith)
    go false false = one (is_kind II (rec_of t) && is_sound II (rec_of t) 15) (i + lot_start t) (omega arith)

-- an entry from lo on and below p, which has the word t, has that word
module _ (file : Text) (lo p : ℕ) (t : Text) (w : key_at 0 file p ≡ t) where
  abbrev pub between : ℕ → Bool
  between f = leb lo f && (ltb f p && same (key_at 0 file f) (key_at 0 file p))

  pub between_is : (f : ℕ) (x : Text) → lo ≤ f → f < p → f < place_bound → word_at file f ≡ x → between f ≡ same t x
  between_is f x a b c e = rw (le-leb lo f a, lt-ltb f p b, key_word file f c, e, w) (same_sym x t)

  pub between_past : (f : ℕ) → p ≤ f → between f ≡ false
  between_past f h = rw (le-ltb f p h) (and-false (leb lo f))

  pub between_low : (f : ℕ) → f < lo → between f ≡ false
  between_low f h = rw (lt-leb lo f h)

  -- the lines from position at on, up to position to
  module _ (what at to : ℕ) (a : at < to) (b : to ≤ length file) (l : p ≤ at + text_len (drop at file)) where
    rest_on : drop at file ≡ drop at (take to file) ++ drop to file
    rest_on =
        ap (drop at) (sym (take-append-drop to file)) ∙ drop-append-le at (take to file) (drop to file) (omega (arith, length-take-le to file b))

    ended_before_lem : next_from (take to file) at < length (take to file) → (line_of (drop at (take to file))).ended ≡ true
    unfolding line_at
    ended_before_lem = ended_inside (take to file) at (line_at at (drop at (take to file))) (line_is (take to file) at (line_at at (drop at (take to file))) refl)

    next_high : next_from (take to file) at < length (take to file) → p ≤ next_from (take to file) at
    unfolding line_len text_len
    next_high h =
        let e : line_of (drop at file) ≡ line_of (drop at (take to file)) = rw rest_on (same_line (drop to file) (drop at (take to file)) (ended_before_lem h)).line in
        let n : length (line_of (drop at file)).text ≡ length (line_of (drop at (take to file))).text = ap (λ (x : Line). length x.text) e in
        omega arith

    none_next : any between (entries_ahead (take to file) what (next_from (take to file) at)) ≡ false
    none_next = go (ltb (next_from (take to file) at) (length (take to file))) refl
      where
        go : (v : Bool) → ltb (next_from (take to file) at) (length (take to file)) ≡ v → any between (entries_ahead (take to file) what (next_from (take to file) at)) ≡ false
        go true e =
            let h : p ≤ next_from (take to file) at = next_high (ltb-true _ _ e) in
            no_lines (take to file) what between (next_from (take to file) at)
            (λ i k m. high_entries between i (λ f n. between_past f (omega arith)) what (line_from (take to file) i)) (next_from (take to file) at) (omega arith)
        go false e = rw (entries_past (take to file) what (next_from (take to file) at) (ltb-false _ _ e))

    pub none_after : any between (entry_of what at (line_from (take to file) at)) ≡ false → any between (entries_ahead (take to file) what at) ≡ false
    none_after h =
        rw (entries_step (take to file) what at (omega (arith, length-take-le to file b)), any_append, h) none_next

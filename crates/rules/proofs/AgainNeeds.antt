-- What each need of the functions on rules 12 and 14 asks, by a scan and by a list in order.
-- Assumes nothing.
use mathlib.Core.Path.{◌≡◌, refl, sym, ap, ◌∙◌}
use mathlib.Core.Bool.{Bool, true, false, ◌&&◌, and-false}
use mathlib.Core.List.{List}
use Prim.Native.Nat.{ℕ, ◌+◌, ◌-◌, ◌≤◌, ◌<◌}
use native.Mathlib.Omega.{arith}
use borrow.Author.Rules.{rules}
use borrow.Author.Tests.{le-leb, lt-leb, leb-true}
use lib.Dec.{ltb, leb}
use lib.ListN.{length, get_or, take, drop}
use Rattle.house.specs.Text.{Text, any, same}
use Rattle.house.proofs.Small.{both}
use Rattle.lines_fields.specs.Lines.{line_of, fields_of, fields_len}
use Rattle.lines_fields.specs.Marks.{marks_at, marked_count, judged_in}
use Rattle.lines_fields.specs.Inside.{part}
use Rattle.lines_fields.proofs.MarkLaws.{marks_length, mark_at, mark_count_lem, marked_judged}
use Rattle.lines_words.specs.Words.{place_bound, key_at, has_between}
use Rattle.lines_words.proofs.OrderedLaws.{between_is}
use Rattle.lines.specs.Records.{II, IE, recs}
use Rattle.lines.specs.Inside.{whole}
use Rattle.lines.proofs.PartLaws.{recs_nil}
use Rattle.rules_definitions.specs.Forms.{text}
use Rattle.rules_forms.specs.FieldLeaves.{sound_in}
use Rattle.rules_forms.proofs.FieldLaws.{text_is}
use Rattle.rules_lists.specs.Among.{antigen_is, lot_is}
use Rattle.rules_lists.specs.Entries.{antigens, lots, entries_in}
use Rattle.rules_lists.proofs.EntryLaws.{antigens_before, lots_before, no_lot}
use Rattle.rules.specs.declared.Here.{Here}
use Rattle.rules.specs.declared.Lists.{Lists}
use Rattle.rules.specs.Walk.{line_rec}
use Rattle.rules.specs.Questions.{antigen_again, AntigenAsked, LotAsked, AskAt}
use Rattle.rules.specs.Room.{list_of, ListsAre, OwnHeld}

-- rule12_scanned
module _ (t since : Text) (x : Bool) (e : x ≡ any (antigen_is t) (recs since)) where
  pub antigen_once : x ≡ false → false ≡ antigen_again t since
  unfolding antigen_again
  antigen_once h = rw (← e, h, and-false (sound_in IE false 4 t))

  pub antigen_twice : (y : Bool) → x ≡ true → y ≡ sound_in IE false 4 t → y ≡ antigen_again t since
  unfolding antigen_again
  antigen_twice y h f = rw (← e, h, ← f) (go y)
    where
      go : (b : Bool) → b ≡ b && true
      go true = refl
      go false = refl

pub ruleset for_rule12_scanned = (rules, antigen_once, antigen_twice)

-- a field of the line that is asked about
pub text_asked : (file : Text) (m : List ℕ) (h : Here) (a : AskAt file m h) (f : ℕ) → f ≤ 28 → judged_in file m f ≡ text (line_rec file h.at) f
text_asked file m h a f l =
    ap (λ (k : List ℕ). judged_in file k f) a.marked
    ∙ marked_judged file h.at f (omega (arith, a.less)) l
    ∙ sym (text_is (line_of (drop h.at file)).text f)

-- by a scan
module _ (file : Text) (m : List ℕ) (h : Here) (a : AskAt file m h) where
  pub antigen_scanned : (t q : Text) (r : Bool) → t ≡ judged_in file m 4 → q ≡ part file h.since h.at → r ≡ antigen_again t q → AntigenAsked file h r
  antigen_scanned t q r d c e = e ∙ rw (d, c) (ap (λ (u : Text). antigen_again u (part file h.since h.at)) (text_asked file m h a 4 (omega arith)))

  pub lot_scanned : (t q : Text) (r : Bool) → t ≡ judged_in file m 15 → q ≡ part file h.block h.at → r ≡ any (lot_is t) (recs q) → LotAsked file h r
  lot_scanned t q r d c e = e ∙ rw (d, c) (ap (λ (u : Text). any (lot_is u) (recs (part file h.block h.at))) (text_asked file m h a 15 (omega arith)))

-- the marks of the line that is asked about
module _ (file : Text) (m : List ℕ) (h : Here) (a : AskAt file m h) where
  pub marks_there : length m ≡ 30
  unfolding marks_at
  marks_there = ap length a.marked ∙ marks_length h.at (line_of (drop h.at file)).text

  start_there : (f : ℕ) → f ≤ 28 → get_or m f 0 ≡ h.at + fields_len f (line_of (drop h.at file)).text
  unfolding marks_at
  start_there f l = ap (λ (k : List ℕ). get_or k f 0) a.marked ∙ mark_at h.at (line_of (drop h.at file)).text f l

  count_there : marked_count m ≡ length (fields_of (line_of (drop h.at file)).text)
  unfolding marks_at
  count_there = ap (λ (k : List ℕ). get_or k 29 0) a.marked ∙ mark_count_lem h.at (line_of (drop h.at file)).text

  bounded : length file ≤ place_bound
  bounded = omega (arith, a.short)

  pub since_small : h.since < 4294967296
  since_small = omega (arith, a.since_in, a.less, a.short)

  pub block_small : h.block < 4294967296
  block_small = omega (arith, a.block_is_in, a.less, a.short)

  -- antigen_found
  module _ (room : List ℕ) (l : Lists) (r : ListsAre file room l) where
    pub own_slice : l.owns ≤ length room
    own_slice = r.owns_in

    pub own_order : l.firsts ≤ l.owns
    own_order = r.firsts_in_lem

    pub lots_slice : l.lots ≤ length room
    lots_slice = omega (arith, r.lots_in_lem, r.firsts_in_lem, r.owns_in)

    module _ (s : sound_in IE false 4 (text (line_rec file h.at) 4) ≡ true) (o : OwnHeld l h) (t : l.own_made ≡ true) where
      pub antigen_listed : (x : Bool) → x ≡ has_between (key_at 0 file) (take (l.owns - l.firsts) (drop l.firsts room)) h.since (get_or m 3 0) → AntigenAsked file h x
      unfolding antigen_again list_of
      antigen_listed x e =
          e
          ∙ ap (λ (es : List ℕ). has_between (key_at 0 file) es h.since (get_or m 3 0)) (r.own_are t)
          ∙ between_is (key_at 0 file) (entries_in antigens file l.own.start l.own.end) h.since (get_or m 3 0)
          ∙ ap (λ (n : ℕ). any (λ (f : ℕ). leb h.since f && (ltb f (get_or m 3 0) && same (key_at 0 file f) (key_at 0 file (get_or m 3 0)))) (entries_in antigens file n l.own.end)) o.own_since
          ∙ antigens_before file h.since h.at l.own.end (get_or m 3 0) (text (line_rec file h.at) 4) bounded a.since_in (omega (arith, a.on, o.own_next)) (r.own_in t) a.line_ends
          (text_is (line_of (drop h.at file)).text 4) s (start_there 3 (omega arith))
          ∙ sym (ap (λ (b : Bool). b && any (antigen_is (text (line_rec file h.at) 4)) (recs (part file h.since h.at))) s)

    -- lot_found
    module _ (s : sound_in II true 15 (text (line_rec file h.at) 15) ≡ true) (n : 15 ≤ marked_count m) (t : l.lots_made ≡ true) where
      pub lot_listed : (x : Bool) → x ≡ has_between (key_at 0 file) (take (l.lots - 0) (drop 0 room)) h.block (get_or m 14 0) → LotAsked file h x
      unfolding list_of
      lot_listed x e =
          let z : l.lots - 0 ≡ l.lots = omega arith in
          e
          ∙ ap (λ (es : List ℕ). has_between (key_at 0 file) es h.block (get_or m 14 0)) (ap (λ (n : ℕ). take n room) z ∙ r.lots_are t)
          ∙ between_is (key_at 0 file) (entries_in lots file 0 (length file)) h.block (get_or m 14 0)
          ∙ lots_before file h.block h.at (get_or m 14 0) (text (line_rec file h.at) 15) bounded a.block_is_in a.less a.block_ends a.line_ends
          (text_is (line_of (drop h.at file)).text 15) (omega (arith, n, count_there)) s (start_there 14 (omega arith))

  -- ask_antigen, ask_long_lot: whether there are lines before, and whether the text is sound
  pub antigen_first : h.at ≤ h.since → AntigenAsked file h false
  unfolding antigen_again
  antigen_first z = let n : h.at - h.since ≡ 0 = omega arith in rw (n, recs_nil) (sym (and-false (sound_in IE false 4 (text (line_rec file h.at) 4))))

  pub antigen_text : (t : Text) (x : Bool) → t ≡ judged_in file m 4 → x ≡ sound_in 5 false 4 t → x ≡ true → sound_in 5 false 4 (text (line_rec file h.at) 4) ≡ true
  antigen_text t x d e z = ap (sound_in 5 false 4) (sym (text_asked file m h a 4 (omega arith)) ∙ sym d) ∙ sym e ∙ z

  pub antigen_unsound : (t : Text) (x : Bool) → t ≡ judged_in file m 4 → x ≡ sound_in 5 false 4 t → x ≡ false → AntigenAsked file h false
  unfolding antigen_again
  antigen_unsound t x d e z = rw (ap (sound_in 5 false 4) (sym (text_asked file m h a 4 (omega arith)) ∙ sym d) ∙ sym e ∙ z)

  pub lot_text : (t : Text) (x : Bool) → t ≡ judged_in file m 15 → x ≡ sound_in 4 true 15 t → x ≡ true → sound_in 4 true 15 (text (line_rec file h.at) 15) ≡ true
  lot_text t x d e z = ap (sound_in 4 true 15) (sym (text_asked file m h a 15 (omega arith)) ∙ sym d) ∙ sym e ∙ z

  pub lot_unsound : (t : Text) (x : Bool) → t ≡ judged_in file m 15 → x ≡ sound_in 4 true 15 t → x ≡ false → LotAsked file h false
  lot_unsound t x d e z =
      sym (no_lot (text (line_rec file h.at) 15) (recs (part file h.block h.at)) (ap (sound_in 4 true 15) (sym (text_asked file m h a 15 (omega arith)) ∙ sym d) ∙ sym e ∙ z))

-- is_lot_listed
module _ (m : List ℕ) (n met : ℕ) (e : n ≡ marked_count m) where
  pub lot_there : 15 ≤ n → ltb 16 met ≡ (leb 15 (marked_count m) && ltb 16 met)
  lot_there h = rw (← e, le-leb 15 n h)

  pub lot_missing : n < 15 → false ≡ (leb 15 (marked_count m) && ltb 16 met)
  lot_missing h = rw (← e, lt-leb 15 n h)

pub ruleset for_is_lot_listed = (rules, lot_there, lot_missing)

pub lot_counted : (m : List ℕ) (met : ℕ) (x : Bool) → x ≡ (leb 15 (marked_count m) && ltb 16 met) → x ≡ true → 15 ≤ marked_count m
lot_counted m met x e t = leb-true 15 (marked_count m) (both (leb 15 (marked_count m)) (ltb 16 met) (sym e ∙ t)).0

pub next_asked : (file : Text) (m : List ℕ) (h : Here) → AskAt file m h → h.next ≤ length file
next_asked file m h a = a.next_in

pub next_ends_asked : (file : Text) (m : List ℕ) (h : Here) → AskAt file m h → h.next < length file → whole (take h.next file) ≡ true
next_ends_asked file m h a = a.next_ends

pub ruleset for_antigen_found = (rules, marks_there, since_small, own_slice, own_order, antigen_listed, antigen_scanned)

pub ruleset for_ask_antigen = (rules, antigen_first, antigen_scanned, antigen_text, antigen_unsound, next_asked, next_ends_asked)

pub ruleset for_lot_found = (rules, marks_there, block_small, lots_slice, lot_listed, lot_scanned)

pub ruleset for_ask_long_lot = (rules, lot_text, lot_unsound)

pub ruleset for_ask_lot = (rules, lot_counted, lot_scanned)

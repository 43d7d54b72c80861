-- What each need of the functions on the line that was read asks: its day, its event, its block.
-- Assumes nothing.
use mathlib.Core.Path.{◌≡◌, sym, ap, ◌∙◌}
use mathlib.Core.Bool.{Bool, true, false}
use mathlib.Core.List.{List, ◌++◌, append-nil, append_assoc}
use Prim.Native.Nat.{ℕ, ◌-◌, ◌≤◌, ◌<◌}
use native.Mathlib.Omega.{arith}
use borrow.Author.Rules.{rules}
use borrow.Author.Tests.{eq-eqb, ne_eqb}
use lib.ListN.{length, get_or, take, drop}
use Rattle.std.specs.Prelude.{Option}
use Rattle.house.specs.Text.{Text, same, front}
use Rattle.house.specs.Key.{key_of}
use Rattle.house.proofs.Small.{clash}
use Rattle.dates.specs.declared.Date.{Date}
use Rattle.dates.specs.Dates.{dated_of}
use Rattle.dates.proofs.DateLaws.{dated_true, dated_number, dated_false}
use Rattle.lines_fields.specs.declared.LineAt.{LineAt}
use Rattle.lines_fields.specs.declared.Span.{Span}
use Rattle.lines_fields.specs.Lines.{line_of, LineIs}
use Rattle.lines_fields.specs.Marks.{judged_in, judged_span}
use Rattle.lines_fields.specs.Inside.{part}
use Rattle.lines_fields.proofs.LineLaws.{left_falls}
use Rattle.lines_fields.proofs.MarkLaws.{marked_judged}
use Rattle.lines.specs.Records.{Rec, IE, is_kind, record_of, recs}
use Rattle.lines.specs.Inside.{whole}
use Rattle.lines.proofs.PartLaws.{recs_past, recs_on, ended_inside, whole_step}
use Rattle.ledger.specs.Ledger.{found_in}
use Rattle.rules_definitions.specs.Forms.{text, is_historical}
use Rattle.rules_definitions.specs.Blocks.{is_in_block, event_of}
use Rattle.rules_forms.proofs.FieldLaws.{text_is}
use Rattle.rules_walk.specs.Firsts.{sound_four}
use Rattle.rules_walk.specs.Repeats.{is_noted}
use Rattle.rules_walk.proofs.BlockNeeds.{block_four}
use Rattle.rules.specs.declared.Open.{Open}
use Rattle.rules.specs.declared.BlockAt.{BlockAt}
use Rattle.rules_fields.specs.declared.Facts.{Facts}
use Rattle.rules.specs.Walk.{part_of, rec_in, ReadIn, one_day, no_day, day_of, joins_open_by, block_by, facts_by, historical_by, vaccine_by, day_by, OwnIs, OwnEnd}
use Rattle.rules.proofs.WalkLaws.{no_recs, kind_is, recs_next}
use Rattle.std.proofs.Common.{Option, Some, None}

-- day_of_text
module _ (t : Text) (d : Option Date) (e : d ≡ dated_of t) where
  pub day_there : (n : Date) → d ≡ Some n → one_day n.number ≡ day_of t
  unfolding day_of
  day_there n h = rw (dated_true t n (sym e ∙ h), dated_number t n (sym e ∙ h))

  pub day_none : d ≡ None → no_day ≡ day_of t
  unfolding day_of
  day_none h = rw (dated_false t (sym e ∙ h))

pub ruleset for_day_of_text = (rules, day_there, day_none)

-- THE FIELDS OF THE LINE

module _ (file : Text) (m : List ℕ) (r : ReadIn file m) where
  pub read_text : (f : ℕ) → f ≤ 28 → judged_in file m f ≡ text (rec_in file m) f
  read_text f l =
      ap (λ (x : List ℕ). judged_in file x f) r.marked ∙ marked_judged file (get_or m 0 0) f r.inside l
      ∙ sym (text_is (line_of (drop (get_or m 0 0) file)).text f)

  -- day_in
  pub day_in_is : (f : ℕ) (t : Text) (d : Option ℕ) → f ≤ 28 → t ≡ judged_in file m f → d ≡ day_of t → d ≡ day_of (text (rec_in file m) f)
  day_in_is f t d l e p = p ∙ ap day_of (e ∙ read_text f l)

  -- event_of
  pub event_is : (a b c key : Text) → a ≡ judged_in file m 3 → b ≡ judged_in file m 6 → c ≡ judged_in file m 8 → key ≡ key_of a b c → key ≡ event_of (rec_in file m)
  unfolding event_of
  event_is a b c key p q o e =
      e ∙ rw (p ∙ read_text 3 (omega arith), q ∙ read_text 6 (omega arith), o ∙ read_text 8 (omega arith))

  -- in_block
  module _ (k : ℕ) (ki : k ≡ (rec_in file m).kind) where
    pub block_other : (k ≡ 4 → ⊥) → false ≡ is_in_block (rec_in file m)
    block_other n = sym (block_four (rec_in file m) ∙ rw (← ki, ne_eqb k 4 n))

    pub block_sound : k ≡ 4 → (a b c d : Text) (x : Bool) → a ≡ judged_in file m 3 → b ≡ judged_in file m 4 → c ≡ judged_in file m 6 → d ≡ judged_in file m 8
        → x ≡ sound_four a b c d → x ≡ is_in_block (rec_in file m)
    block_sound z a b c d x p q o n e =
        e
        ∙ rw (p ∙ read_text 3 (omega arith), q ∙ read_text 4 (omega arith), o ∙ read_text 6 (omega arith), n ∙ read_text 8 (omega arith))
        (sym (block_four (rec_in file m) ∙ rw (← ki, eq-eqb k 4 z)))

  -- same_at
  pub same_is : (f : ℕ) (p : Span) (t u : Text) (x : Bool) → f ≤ 28 → t ≡ judged_in file m f → u ≡ part file p.start p.end → x ≡ same t u
      → x ≡ same (text (rec_in file m) f) (part_of file p)
  same_is f p t u x l a b e = e ∙ rw (a ∙ read_text f l, b)

  -- historical_of
  pub historical_own : (k : ℕ) (was : Bool) (t : Text) (x : Bool) → k ≡ 4 → t ≡ judged_in file m 5 → x ≡ is_historical t → x ≡ historical_by (rec_in file m) k was
  unfolding historical_by
  historical_own k was t x h e p = p ∙ rw (h, e ∙ read_text 5 (omega arith))

  pub historical_was : (k : ℕ) (was : Bool) → (k ≡ 4 → ⊥) → was ≡ historical_by (rec_in file m) k was
  unfolding historical_by
  historical_was k was n = rw (ne_eqb k 4 n)

pub ruleset for_line = (rules, historical_own, historical_was, day_in_is, event_is, block_other, block_sound, same_is)

-- joins_open
module _ (file : Text) (l : Rec) (o : Open) (a : Bool) (p : a ≡ same (text l 4) (part_of file o.kind)) where
  pub joins_4 : a ≡ false → false ≡ joins_open_by file l o
  unfolding joins_open_by
  joins_4 e = rw (← p, e)

  module _ (e : a ≡ true) (b : Bool) (q : b ≡ same (text l 3) (part_of file o.uli)) where
    pub joins_3 : b ≡ false → false ≡ joins_open_by file l o
    unfolding joins_open_by
    joins_3 k = rw (← p, e, ← q, k)

    module _ (k : b ≡ true) (c : Bool) (n : c ≡ same (text l 6) (part_of file o.date)) where
      pub joins_6 : c ≡ false → false ≡ joins_open_by file l o
      unfolding joins_open_by
      joins_6 z = rw (← p, e, ← q, k, ← n, z)

      pub joins_8 : c ≡ true → (d : Bool) → d ≡ same (text l 8) (part_of file o.vaccine) → d ≡ joins_open_by file l o
      unfolding joins_open_by
      joins_8 z d y = rw (← p, e, ← q, k, ← n, z, ← y)

pub ruleset for_joins_open = (rules, joins_4, joins_3, joins_6, joins_8)

-- block_of
abbrev block : Bool → Bool → ℕ → BlockAt
block inb joined from = record { inb = inb; joined = joined; from = from }

module _ (file : Text) (l : Rec) (at : ℕ) (o : Open) (run : ℕ) (x : Bool) (i : x ≡ is_in_block l) where
  pub block_none : x ≡ false → block false false at ≡ block_by file l at o run
  unfolding block_by
  block_none e = rw (← i, e)

  module _ (e : x ≡ true) (y : Bool) (j : y ≡ joins_open_by file l o) where
    pub block_joined : y ≡ true → block true true run ≡ block_by file l at o run
    unfolding block_by
    block_joined z = rw (← i, e, ← j, z)

    pub block_first : y ≡ false → block true false at ≡ block_by file l at o run
    unfolding block_by
    block_first z = rw (← i, e, ← j, z)

pub ruleset for_block_of = (rules, block_none, block_joined, block_first)

-- facts_of
abbrev facts : Bool → Bool → Bool → Bool → Facts
facts inb joined repeated live = record { inb = inb; joined = joined; repeated = repeated; live = live }

module _ (l : Rec) (table ledger : Text) (n : ℕ) (b : BlockAt) where
  pub facts_in : (key : Text) (repeated live : Bool) → b.inb ≡ true → key ≡ event_of l → repeated ≡ is_noted table b.from → live ≡ found_in ledger n key
      → facts true b.joined repeated live ≡ facts_by l table ledger n b
  unfolding facts_by
  facts_in key repeated live i e p q = rw (i, p, q, e)

  pub facts_out : b.inb ≡ false → facts false b.joined false false ≡ facts_by l table ledger n b
  unfolding facts_by
  facts_out i = rw i

pub ruleset for_facts_of = (rules, facts_in, facts_out)

-- vaccine_of, day_of
module _ (file : Text) (m : List ℕ) (k : ℕ) (was : Span) where
  pub vaccine_own : (r : Span) → k ≡ 4 → r ≡ judged_span file m 8 → r ≡ vaccine_by file m k was
  unfolding vaccine_by
  vaccine_own r h e = e ∙ rw h

  pub vaccine_was : (k ≡ 4 → ⊥) → was ≡ vaccine_by file m k was
  unfolding vaccine_by
  vaccine_was h = rw (ne_eqb k 4 h)

pub ruleset for_vaccine_of = (rules, vaccine_own, vaccine_was)

module _ (l : Rec) (k : ℕ) (ii inn : Option ℕ) where
  pub day_ii : (r : Option ℕ) → k ≡ 4 → r ≡ day_of (text l 6) → r ≡ day_by l k ii inn
  unfolding day_by
  day_ii r h e = e ∙ rw h

  pub day_ie : k ≡ 5 → ii ≡ day_by l k ii inn
  unfolding day_by
  day_ie h = rw h

  pub day_in : (r : Option ℕ) → k ≡ 6 → r ≡ day_of (text l 5) → r ≡ day_by l k ii inn
  unfolding day_by
  day_in r h e = e ∙ rw h

  pub day_other : (k ≡ 4 → ⊥) → (k ≡ 5 → ⊥) → (k ≡ 6 → ⊥) → inn ≡ day_by l k ii inn
  unfolding day_by
  day_other a b c = rw (ne_eqb k 4 a, ne_eqb k 5 b, ne_eqb k 6 c)

pub ruleset for_day_of = (rules, day_ii, day_ie, day_in, day_other)

-- ie_end: the IE lines from `from` on, x, of which those before a position at are passed
module _ (file : Text) (from at : ℕ) (x : List Rec) (inv : x ≡ recs (part file from at) ++ front (is_kind IE) (recs (drop at file))) where
  pub own_end : length file ≤ at → x ≡ recs (part file from at)
  own_end l = inv ∙ rw (recs_past file at l, append-nil)

  module _ (h : at < length file) (q : LineAt) (e : LineIs file at q) (k : ℕ) (d : k ≡ record_of (take (q.end - at) (drop at file))) where
    pub own_stop : (k ≡ IE → ⊥) → x ≡ recs (part file from at)
    own_stop z = inv ∙ rw (recs_on file at q e h, kind_is (part file at q.end) k IE d, ne_eqb k IE z, append-nil)

    pub own_on : from ≤ at → (at < length file → whole (take at file) ≡ true) → k ≡ IE → x ≡ recs (part file from q.next) ++ front (is_kind IE) (recs (drop q.next file))
    own_on m w z =
        inv ∙ rw (recs_on file at q e h, kind_is (part file at q.end) k IE d, eq-eqb k IE z)
        (sym (rw (recs_next file at q e h (w h) from m, append_assoc)))

pub own_start : (file : Text) (from : ℕ) → front (is_kind IE) (recs (drop from file)) ≡ recs (part file from from) ++ front (is_kind IE) (recs (drop from file))
own_start file from = rw (no_recs file from)

pub own_whole : (file : Text) (at : ℕ) (q : LineAt) → LineIs file at q → at < length file → (at < length file → whole (take at file) ≡ true) → q.next < length file → whole (take q.next file) ≡ true
own_whole file at q e h w m = whole_step file at q e (ended_inside file at q e m) (w h)

pub ruleset for_ie_end = (rules, own_end, own_stop, own_on, own_start, own_whole, left_falls)

-- own_end
pub own_joined : (file : Text) (joined : Bool) (from r : ℕ) → OwnIs file from r → OwnEnd file joined from r
own_joined file joined from r o = record { joined_own = λ z. o.own_is; own_in = o.own_in }

pub own_none : (file : Text) (joined : Bool) (from : ℕ) → joined ≡ false → from ≤ length file → OwnEnd file joined from from
own_none file joined from n l = record { joined_own = λ z. clash (cc); own_in = l }

pub ruleset for_own_end = (rules, own_joined, own_none)

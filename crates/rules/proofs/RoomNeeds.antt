-- What each need of the functions on the room for lists asks.
-- Assumes nothing.
use mathlib.Core.Path.{◌≡◌, refl, sym, ap, ◌∙◌, subst}
use mathlib.Core.Bool.{Bool, true, false, ◌&&◌}
use mathlib.Core.List.{List}
use Prim.Native.Nat.{ℕ, ◌+◌, ◌≤◌}
use native.Mathlib.Omega.{arith}
use borrow.Author.Rules.{rules}
use borrow.Author.Tests.{eq-eqb, ne_eqb, eqb-true, leb-true}
use lib.Dec.{eqb, leb}
use lib.ListN.{length, take, drop}
use lib.Seq.{take-take}
use Rattle.std.specs.Prelude.{Option, unwrap_or}
use Rattle.std.specs.Option.{is_some}
use Rattle.house.specs.Text.{Text}
use Rattle.house.proofs.Small.{both, clash}
use Rattle.lines_fields.specs.declared.Span.{Span}
use Rattle.lines_fields.specs.Marks.{span}
use Rattle.lines_fields.specs.Inside.{part}
use Rattle.lines_fields.proofs.CutLaws.{part_drop}
use Rattle.lines.specs.Records.{recs}
use Rattle.rules_definitions.specs.Rules.{counts_sound}
use Rattle.rules_lists.specs.Entries.{antigens, lots}
use Rattle.rules.specs.declared.Here.{Here}
use Rattle.rules.specs.declared.Lists.{Lists}
use Rattle.rules.specs.Walk.{part_of, OwnIs}
use Rattle.rules.specs.Room.{list_of, apart_of, MadeIs, BehindIs, with_lots, with_first, with_own, is_span, has_first, has_own, ListsAre, OwnHeld}

-- what stands before a position is as it was
module _ (k : ℕ) (old room : List ℕ) (kept : take k room ≡ take k old) where
  pub front_kept : (b : ℕ) → b ≤ k → take b room ≡ take b old
  front_kept b l = sym (take-take b k room l) ∙ ap (take b) kept ∙ take-take b k old l

  pub part_kept : (a b : ℕ) → b ≤ k → part room a b ≡ part old a b
  part_kept a b l = part_drop room a b ∙ ap (drop a) (front_kept b l) ∙ sym (part_drop old a b)

-- with_lots
lots_only : (file : Text) (room : List ℕ) (l : Lists) (m : Option ℕ) → MadeIs (list_of file lots 0 (span 0 (length file))) room m → ListsAre file room (with_lots l (unwrap_or m 0) (is_some m))
unfolding with_lots
lots_only file room l m i =
    record {
      lots_in_lem = omega arith;
      firsts_in_lem = omega arith;
      owns_in = i.made_in;
      lots_are = i.made_is;
      first_are = λ z. clash (cc);
      first_sound_lem = λ z. clash (cc);
      own_are = λ z. clash (cc);
      own_in = λ z. clash (cc);
    }

pub lots_there : (file : Text) (room : List ℕ) (l k : Lists) (m : Option ℕ) (n : ℕ) (b : Bool) → MadeIs (list_of file lots 0 (span 0 (length file))) room m
    → n ≡ unwrap_or m 0 → b ≡ is_some m → k ≡ with_lots l n b → ListsAre file room k
lots_there file room l k m n b i c d e =
    let f : k ≡ with_lots l (unwrap_or m 0) (is_some m) = rw (← c, ← d) e in
    subst (ListsAre file room) (sym f) (lots_only file room l m i)

pub ruleset for_with_lots = (rules, lots_there)

-- same_span
module _ (p q : Span) where
  pub spans_apart : (p.start ≡ q.start → ⊥) → false ≡ is_span p q
  unfolding is_span
  spans_apart n = rw (ne_eqb p.start q.start n)

  pub spans_start : p.start ≡ q.start → eqb p.end q.end ≡ is_span p q
  unfolding is_span
  spans_start e = rw (eq-eqb p.start q.start e)

  spans_one : is_span p q ≡ true → p ≡ q
  unfolding is_span
  spans_one t =
      let b = both (eqb p.start q.start) (eqb p.end q.end) t in
      ap (λ (n : ℕ). span n p.end) (eqb-true p.start q.start b.0) ∙ ap (span q.start) (eqb-true p.end q.end b.1)

-- has_first
module _ (l : Lists) (first : Span) where
  pub first_has : (r : Bool) → l.first_made ≡ true → r ≡ is_span l.first first → r ≡ has_first l first
  unfolding has_first
  first_has r h e = rw (h, e)

  pub first_not : l.first_made ≡ false → false ≡ has_first l first
  unfolding has_first
  first_not h = rw h

pub ruleset for_has_first = (rules, spans_apart, spans_start, first_has, first_not)

-- make_first, with_first
module _ (file : Text) (old room : List ℕ) (l : Lists) (m : Option ℕ) (first : Span) (r : ListsAre file old l) (i : BehindIs (apart_of file first) l.lots old room m) where
  first_only_lem : (sound : Bool) → sound ≡ counts_sound (recs (part_of file first)) → ListsAre file room (with_first l first (l.lots + unwrap_or m 0) (is_some m) sound)
  unfolding with_first
  first_only_lem sound s =
      record {
        lots_in_lem = omega arith;
        firsts_in_lem = omega arith;
        owns_in = i.behind_in;
        lots_are = λ z. front_kept l.lots old room i.before_kept l.lots (omega arith) ∙ r.lots_are z;
        first_are = i.behind_is;
        first_sound_lem = λ z. s;
        own_are = λ z. clash (cc);
        own_in = λ z. clash (cc);
      }

  pub first_there : (t : Text) (k : Lists) (n : ℕ) (b sound : Bool) → t ≡ part file first.start first.end → sound ≡ counts_sound (recs t) → n ≡ unwrap_or m 0 → b ≡ is_some m
      → k ≡ with_first l first (l.lots + n) b sound → ListsAre file room k
  first_there t k n b sound c s d f e =
      let g : k ≡ with_first l first (l.lots + unwrap_or m 0) (is_some m) sound = rw (← d, ← f) e in
      subst (ListsAre file room) (sym g) (first_only_lem sound (s ∙ ap (λ (u : Text). counts_sound (recs u)) c))

pub first_of : (l k : Lists) (first : Span) (n : ℕ) (made sound : Bool) → k ≡ with_first l first n made sound → k.first ≡ first
unfolding with_first
first_of l k first n made sound e = ap (λ (z : Lists). z.first) e

pub first_held : (l : Lists) (first : Span) (r : Bool) → r ≡ has_first l first → r ≡ true → l.first ≡ first
unfolding has_first
first_held l first r e t = spans_one l.first first (both l.first_made (is_span l.first first) (sym e ∙ t)).1

-- there is room for as many entries more as were put there
pub behind_room : (list : List ℕ) (k : ℕ) (old room : List ℕ) (m : Option ℕ) (n : ℕ) → BehindIs list k old room m → n ≡ unwrap_or m 0 → k + n ≤ length room
behind_room list k old room m n i e = omega (arith, i.behind_in, e)

pub lots_room : (file : Text) (room : List ℕ) (l : Lists) → ListsAre file room l → l.lots ≤ length room
lots_room file room l r = omega (arith, r.lots_in_lem, r.firsts_in_lem, r.owns_in)

pub firsts_room : (file : Text) (room : List ℕ) (l : Lists) → ListsAre file room l → l.firsts ≤ length room
firsts_room file room l r = omega (arith, r.firsts_in_lem, r.owns_in)

pub ruleset for_make_first = (rules, lots_room, behind_room, first_there, first_of)

pub ruleset for_with_first = (rules, first_held)

-- has_own
module _ (l : Lists) (h : Here) where
  pub own_none : l.own_made ≡ false → false ≡ has_own l h
  unfolding has_own
  own_none e = rw e

  module _ (m : l.own_made ≡ true) where
    pub own_other : (l.own.start ≡ h.since → ⊥) → false ≡ has_own l h
    unfolding has_own
    own_other n = rw (m, ne_eqb l.own.start h.since n)

    pub own_same : l.own.start ≡ h.since → leb h.next l.own.end ≡ has_own l h
    unfolding has_own
    own_same e = rw (m, eq-eqb l.own.start h.since e)

  pub own_was : (r : Bool) → r ≡ has_own l h → r ≡ true → OwnHeld l h
  unfolding has_own
  own_was r e t =
      let b = both l.own_made (eqb l.own.start h.since && leb h.next l.own.end) (sym e ∙ t) in
      let d = both (eqb l.own.start h.since) (leb h.next l.own.end) b.1 in
      record { own_since = eqb-true l.own.start h.since d.0; own_next = leb-true h.next l.own.end d.1 }

pub ruleset for_has_own = (rules, own_none, own_other, own_same)

-- make_own, with_own
module _ (file : Text) (old room : List ℕ) (l : Lists) (own : Span) where
  module _ (m : Option ℕ) (r : ListsAre file old l) (i : BehindIs (list_of file antigens 0 own) l.firsts old room m) (inside : own.end ≤ length file) where
    own_only : ListsAre file room (with_own l own (l.firsts + unwrap_or m 0) (is_some m))
    unfolding with_own
    own_only =
        record {
          lots_in_lem = r.lots_in_lem;
          firsts_in_lem = omega arith;
          owns_in = i.behind_in;
          lots_are = λ z. front_kept l.firsts old room i.before_kept l.lots r.lots_in_lem ∙ r.lots_are z;
          first_are = λ z. part_kept l.firsts old room i.before_kept l.lots l.firsts (omega arith) ∙ r.first_are z;
          first_sound_lem = r.first_sound_lem;
          own_are = i.behind_is;
          own_in = λ z. inside;
        }

    pub own_there : (k : Lists) (n : ℕ) (b : Bool) → n ≡ unwrap_or m 0 → b ≡ is_some m → k ≡ with_own l own (l.firsts + n) b → ListsAre file room k
    own_there k n b c d e =
        let f : k ≡ with_own l own (l.firsts + unwrap_or m 0) (is_some m) = rw (← c, ← d) e in
        subst (ListsAre file room) (sym f) own_only

pub own_of : (l k : Lists) (own : Span) (n : ℕ) (made : Bool) → k ≡ with_own l own n made → k.own ≡ own
unfolding with_own
own_of l k own n made e = ap (λ (z : Lists). z.own) e

pub ruleset for_make_own = (rules, firsts_room, behind_room, own_there, own_of)

pub own_held : (k : Lists) (since to : ℕ) (h : Here) → k.own ≡ span since to → since ≡ h.since → h.next ≤ to → OwnHeld k h
own_held k since to h e s b = record { own_since = ap (λ (z : Span). z.start) e ∙ s; own_next = rw e b }

pub own_inside : (file : Text) (from r : ℕ) → OwnIs file from r → from ≤ r
own_inside file from r i = i.own_from

pub own_upto : (file : Text) (from r : ℕ) → OwnIs file from r → r ≤ length file
own_upto file from r i = i.own_in

pub ruleset for_with_own = (rules, own_held, own_was, own_inside, own_upto)

-- the records that are written out
module _ (l : Lists) where
  pub lots_put : (n : ℕ) (made : Bool)
      → ◌≡◌ {A = Lists} (record {
        lots = n;
        lots_made = made;
        first = l.first;
        firsts = n;
        first_made = false;
        first_sound = false;
        own = l.own;
        owns = n;
        own_made = false;
        antigens_met = l.antigens_met;
        lots_met = l.lots_met;
      }) (with_lots l n made)
  unfolding with_lots
  lots_put n made = refl

  pub first_put : (first : Span) (n : ℕ) (made sound : Bool)
      → ◌≡◌ {A = Lists} (record {
        lots = l.lots;
        lots_made = l.lots_made;
        first = first;
        firsts = n;
        first_made = made;
        first_sound = sound;
        own = l.own;
        owns = n;
        own_made = false;
        antigens_met = l.antigens_met;
        lots_met = l.lots_met;
      }) (with_first l first n made sound)
  unfolding with_first
  first_put first n made sound = refl

  pub own_put : (own : Span) (n : ℕ) (made : Bool)
      → ◌≡◌ {A = Lists} (record {
        lots = l.lots;
        lots_made = l.lots_made;
        first = l.first;
        firsts = l.firsts;
        first_made = l.first_made;
        first_sound = l.first_sound;
        own = own;
        owns = n;
        own_made = made;
        antigens_met = l.antigens_met;
        lots_met = l.lots_met;
      }) (with_own l own n made)
  unfolding with_own
  own_put own n made = refl

pub ruleset for_put = (rules, lots_put, first_put, own_put)

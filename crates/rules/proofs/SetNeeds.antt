-- What each need of the functions on rule 13 asks, by a scan and by two lists in order.
-- Assumes nothing.
use mathlib.Core.Path.{◌≡◌, refl, sym, ap, ◌∙◌, subst}
use mathlib.Core.Bool.{Bool, true, false, ◌&&◌, and-false}
use mathlib.Core.List.{List}
use Prim.Native.Nat.{ℕ, ◌+◌, ◌≤◌}
use native.Mathlib.Omega.{arith}
use borrow.Author.Rules.{rules}
use lib.ListN.{length}
use Rattle.std.specs.Prelude.{Option, Some}
use Rattle.house.specs.Text.{Text, any, same}
use Rattle.house.proofs.Small.{clash}
use Rattle.lines_fields.specs.declared.Span.{Span}
use Rattle.lines_fields.specs.Marks.{span}
use Rattle.lines_fields.specs.Inside.{part}
use Rattle.lines_words.specs.Words.{place_bound, count_and_word, key_at, in_order, keys_among}
use Rattle.lines_words.proofs.OrderedLaws.{all_ordered, among_is, among_apart, apart_among}
use Rattle.lines.specs.Records.{recs}
use Rattle.rules_definitions.specs.Rules.{all_in, counts_sound, sets_differ}
use Rattle.rules_lists.specs.Among.{in_step}
use Rattle.rules_lists.specs.Entries.{counted_antigens, entries_in}
use Rattle.rules_lists.proofs.EntryLaws.{counts_among}
use Rattle.rules_lists.proofs.StepNeeds.{step_same}
use Rattle.rules.specs.declared.Here.{Here}
use Rattle.rules.specs.declared.Lists.{Lists}
use Rattle.rules.specs.Walk.{part_of}
use Rattle.rules.specs.Questions.{antigens_differ, SetsAsked, SetsSound, AskAt}
use Rattle.rules.specs.Room.{list_of, apart_of, lists_apart, BehindIs, with_own, ListsAre}
use Rattle.rules.proofs.RoomNeeds.{front_kept, part_kept, firsts_room, behind_room}

-- rule13_scanned
module _ (own first : Text) (x : Bool) (e : x ≡ sets_differ (recs own) (recs first)) where
  pub sets_one : x ≡ false → false ≡ antigens_differ own first
  unfolding antigens_differ
  sets_one h = rw (← e, h, and-false (counts_sound (recs first)), and-false (counts_sound (recs own)))

  module _ (h : x ≡ true) (y : Bool) (f : y ≡ counts_sound (recs own)) where
    pub sets_unsound : y ≡ false → false ≡ antigens_differ own first
    unfolding antigens_differ
    sets_unsound k = rw (← f, k)

    pub sets_two : (z : Bool) → y ≡ true → z ≡ counts_sound (recs first) → z ≡ antigens_differ own first
    unfolding antigens_differ
    sets_two z k g = rw (← f, k, ← g, ← e, h) (go z)
      where
        go : (b : Bool) → b ≡ b && true
        go true = refl
        go false = refl

pub ruleset for_rule13_scanned = (rules, sets_one, sets_unsound, sets_two)

-- by a scan
pub sets_scanned : (file : Text) (h : Here) (p q : Text) (r : Bool) → p ≡ part file h.next h.own → q ≡ part file h.first.start h.first.end → r ≡ antigens_differ p q
    → SetsAsked file h r
sets_scanned file h p q r c d e = rw (← c, ← d) e

-- are_apart
module _ (file : Text) (first own : List ℕ) (x : Bool) (e : x ≡ keys_among (key_at count_and_word file) own first) where
  pub apart_one : x ≡ false → true ≡ lists_apart file first own
  unfolding lists_apart
  apart_one h = rw (← e, h)

  module _ (h : x ≡ true) (y : Bool) (f : y ≡ keys_among (key_at count_and_word file) first own) where
    pub apart_both : y ≡ true → false ≡ lists_apart file first own
    unfolding lists_apart
    apart_both k = rw (← e, h, ← f, k)

    pub apart_two : y ≡ false → true ≡ lists_apart file first own
    unfolding lists_apart
    apart_two k = rw (← e, h, ← f, k)

pub ruleset for_are_apart = (rules, apart_one, apart_both, apart_two)

-- ask_listed_sets
abbrev key : Text → ℕ → Text
key file = key_at count_and_word file

module _ (file : Text) (n : length file ≤ place_bound) (p q : Span) (b : p.end ≤ length file) (d : q.end ≤ length file)
    (s : counts_sound (recs (part_of file p)) ≡ true) (r : counts_sound (recs (part_of file q)) ≡ true) where
  -- the keys of the one list are among those of the other, with each key once or not
  own_among : keys_among (key file) (list_of file counted_antigens count_and_word p) (apart_of file q) ≡ all_in (recs (part_of file p)) (recs (part_of file q))
  unfolding list_of apart_of
  own_among =
      among_apart (key file) (in_order (key file) (entries_in counted_antigens file p.start p.end)) (entries_in counted_antigens file q.start q.end)
      ∙ all_ordered (key file) (λ (e : ℕ). any (λ (f : ℕ). same (key file f) (key file e)) (entries_in counted_antigens file q.start q.end)) (entries_in counted_antigens file p.start p.end)
      ∙ counts_among file n p.start p.end q.start q.end b d s r

  first_among : keys_among (key file) (apart_of file q) (list_of file counted_antigens count_and_word p) ≡ all_in (recs (part_of file q)) (recs (part_of file p))
  unfolding list_of apart_of
  first_among =
      apart_among (key file) (in_order (key file) (entries_in counted_antigens file q.start q.end)) (in_order (key file) (entries_in counted_antigens file p.start p.end))
      ∙ among_is (key file) (in_order (key file) (entries_in counted_antigens file q.start q.end)) (entries_in counted_antigens file p.start p.end)
      ∙ all_ordered (key file) (λ (e : ℕ). any (λ (f : ℕ). same (key file f) (key file e)) (entries_in counted_antigens file p.start p.end)) (entries_in counted_antigens file q.start q.end)
      ∙ counts_among file n q.start q.end p.start p.end d b r s

  lists_differ : lists_apart file (apart_of file q) (list_of file counted_antigens count_and_word p) ≡ antigens_differ (part_of file p) (part_of file q)
  unfolding lists_apart antigens_differ sets_differ
  lists_differ = rw (own_among, first_among, s, r)

module _ (file : Text) (m : List ℕ) (h : Here) (a : AskAt file m h) (old room : List ℕ) (l : Lists) (r : ListsAre file old l) (made : Option ℕ)
    (i : BehindIs (list_of file counted_antigens count_and_word (span h.next h.own)) l.firsts old room made) where
  own_gone : ListsAre file room (with_own l (span h.next h.own) l.firsts false)
  unfolding with_own
  own_gone =
      record {
        lots_in_lem = r.lots_in_lem;
        firsts_in_lem = omega arith;
        owns_in = omega (arith, i.behind_in);
        lots_are = λ z. front_kept l.firsts old room i.before_kept l.lots r.lots_in_lem ∙ r.lots_are z;
        first_are = λ z. part_kept l.firsts old room i.before_kept l.lots l.firsts (omega arith) ∙ r.first_are z;
        first_sound_lem = r.first_sound_lem;
        own_are = λ z. clash (cc);
        own_in = λ z. clash (cc);
      }

  pub lists_after : (k : Lists) → k ≡ with_own l (span h.next h.own) l.firsts false → ListsAre file room k
  lists_after k e = subst (ListsAre file room) (sym e) own_gone

  pub first_slice : l.lots ≤ l.firsts
  first_slice = r.lots_in_lem

  module _ (f : l.first_made ≡ true) (e : l.first ≡ h.first) (s : SetsSound file h) (n : ℕ) (z : made ≡ Some n) where
    pub sets_listed : (x : Bool) → x ≡ lists_apart file (part room l.lots l.firsts) (part room l.firsts (l.firsts + n)) → SetsAsked file h x
    sets_listed x c =
        c
        ∙ ap (λ (os : List ℕ). lists_apart file (part room l.lots l.firsts) os) ((rw z at i).behind_is refl)
        ∙ ap (λ (fs : List ℕ). lists_apart file fs (list_of file counted_antigens count_and_word (span h.next h.own)))
        (part_kept l.firsts old room i.before_kept l.lots l.firsts (omega arith) ∙ r.first_are f ∙ ap (apart_of file) e)
        ∙ lists_differ file (omega (arith, a.short)) (span h.next h.own) h.first a.own_in a.first_in s.own_sound s.first_sound_lem

pub ruleset for_ask_listed_sets = (rules, firsts_room, behind_room, first_slice, lists_after, sets_listed, sets_scanned)

-- ask_long_sets
module _ (file : Text) (h : Here) (room : List ℕ) (l : Lists) (r : ListsAre file room l) (f : l.first_made ≡ true) (e : l.first ≡ h.first) where
  first_is : l.first_sound ≡ counts_sound (recs (part_of file h.first))
  first_is = r.first_sound_lem f ∙ ap (λ (p : Span). counts_sound (recs (part_of file p))) e

  pub both_sound : counts_sound (recs (part file h.next h.own)) ≡ true → l.first_sound ≡ true → SetsSound file h
  both_sound s z = record { own_sound = s; first_sound_lem = sym first_is ∙ z }

  pub first_unsound : l.first_sound ≡ false → SetsAsked file h false
  unfolding antigens_differ
  first_unsound z = sym (ap (λ (b : Bool). counts_sound (recs (part file h.next h.own)) && (b && sets_differ (recs (part file h.next h.own)) (recs (part_of file h.first)))) (sym first_is ∙ z) ∙ and-false (counts_sound (recs (part file h.next h.own))))

pub ruleset for_ask_long_sets = (rules, both_sound, first_unsound, sets_scanned)

-- ask_sets
module _ (file : Text) (h : Here) (p q : Text) (c : p ≡ part file h.next h.own) (d : q ≡ part file h.first.start h.first.end) (x : Bool) where
  pub sets_in_step : x ≡ in_step (recs p) (recs q) → x ≡ true → SetsAsked file h false
  sets_in_step e z = sets_scanned file h p q false c d (sets_one p q (sets_differ (recs p) (recs q)) refl (sym (step_same (recs p) (recs q) x e z)))

  pub sets_own_sound : x ≡ counts_sound (recs p) → x ≡ true → counts_sound (recs (part file h.next h.own)) ≡ true
  sets_own_sound e z = ap (λ (t : Text). counts_sound (recs t)) (sym c) ∙ sym e ∙ z

  pub sets_own_unsound : x ≡ counts_sound (recs p) → x ≡ false → SetsAsked file h false
  unfolding antigens_differ
  sets_own_unsound e z = rw (ap (λ (t : Text). counts_sound (recs t)) (sym c) ∙ sym e ∙ z)

pub ruleset for_ask_sets = (rules, sets_scanned, sets_in_step, sets_own_sound, sets_own_unsound)

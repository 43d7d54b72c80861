-- Working definitions: the room in which long lists stand in order. No public contract rests on this page.
-- Assumes nothing.
use Rattle.std.specs.Prelude.{ℕ, ◌+◌, ◌≤◌, ◌≡◌, Bool, true, false, not, ◌&&◌, List, Option, unwrap_or, eqb, leb, length, take}
use Rattle.std.specs.Option.{is_some}
use Rattle.house.specs.Text.{Text}
use Rattle.lines_fields.specs.declared.Span.{Span}
use Rattle.lines_fields.specs.Marks.{span}
use Rattle.lines_fields.specs.Inside.{part}
use Rattle.lines_words.specs.Words.{count_and_word, key_at, in_order, keys_among, apart}
use Rattle.lines.specs.Records.{recs}
use Rattle.rules_definitions.specs.Rules.{counts_sound}
use Rattle.rules_lists.specs.Entries.{antigens, counted_antigens, lots, entries_in}
use Rattle.rules.specs.declared.Here.{Here}
use Rattle.rules.specs.declared.Lists.{Lists}
use Rattle.rules.specs.Walk.{part_of}

-- A LIST

-- the entries of a part of the file, in the order of a key
unfoldable pub list_of : Text → ℕ → ℕ → Span → List ℕ
list_of file what key p = in_order (key_at key file) (entries_in what file p.start p.end)

-- the antigens of a part of the file with their counts, in order, each once
unfoldable pub apart_of : Text → Span → List ℕ
apart_of file p = apart (key_at count_and_word file) (list_of file counted_antigens count_and_word p)

-- two lists have not the same counts and words
unfoldable pub lists_apart : Text → List ℕ → List ℕ → Bool
lists_apart file first own = not (keys_among (key_at count_and_word file) own first && keys_among (key_at count_and_word file) first own)

-- it stands at the front of a room, if it fits; of so many entries then
pub record MadeIs (list room : List ℕ) (r : Option ℕ) : Type 0 where
  pub made_in : unwrap_or r 0 ≤ length room
  pub made_is : is_some r ≡ true → take (unwrap_or r 0) room ≡ list

-- or from position k on, and what stands before is as it was
pub record BehindIs (list : List ℕ) (k : ℕ) (old room : List ℕ) (r : Option ℕ) : Type 0 where
  pub behind_in : k + unwrap_or r 0 ≤ length room
  pub before_kept : take k room ≡ take k old
  pub behind_is : is_some r ≡ true → part room k (k + unwrap_or r 0) ≡ list

-- WHAT A ROOM HOLDS

-- nothing is in the room
abbrev pub no_lists : Lists
no_lists =
    record {
      lots = 0;
      lots_made = false;
      first = span 0 0;
      firsts = 0;
      first_made = false;
      first_sound = false;
      own = span 0 0;
      owns = 0;
      own_made = false;
      antigens_met = 0;
      lots_met = 0;
    }

-- the same in the room, with these counts of lines met
unfoldable pub with_met : Lists → ℕ → ℕ → Lists
with_met l m n =
    record {
      lots = l.lots;
      lots_made = l.lots_made;
      first = l.first;
      firsts = l.firsts;
      first_made = l.first_made;
      first_sound = l.first_sound;
      own = l.own;
      owns = l.owns;
      own_made = l.own_made;
      antigens_met = m;
      lots_met = n;
    }

-- lots up to n, if they were made, and nothing after them
unfoldable pub with_lots : Lists → ℕ → Bool → Lists
with_lots l n made =
    record {
      lots = n;
      lots_made = made;
      first = l.first;
      firsts = n;
      first_made = false;
      first_sound = false;
      own = l.own;
      owns = n;
      own_made = false;
      antigens_met = l.antigens_met;
      lots_met = l.lots_met;
    }

-- the antigens of a first II up to n, if they were made, and nothing after them
unfoldable pub with_first : Lists → Span → ℕ → Bool → Bool → Lists
with_first l first n made sound =
    record {
      lots = l.lots;
      lots_made = l.lots_made;
      first = first;
      firsts = n;
      first_made = made;
      first_sound = sound;
      own = l.own;
      owns = n;
      own_made = false;
      antigens_met = l.antigens_met;
      lots_met = l.lots_met;
    }

-- the antigens of an II up to n, if they were made
unfoldable pub with_own : Lists → Span → ℕ → Bool → Lists
with_own l own n made =
    record {
      lots = l.lots;
      lots_made = l.lots_made;
      first = l.first;
      firsts = l.firsts;
      first_made = l.first_made;
      first_sound = l.first_sound;
      own = own;
      owns = n;
      own_made = made;
      antigens_met = l.antigens_met;
      lots_met = l.lots_met;
    }

-- Up to `lots` the file's lots in order; from there to `firsts` the antigens with counts of a block's first II, one for each; from
-- there to `owns` the antigens of an II in order. Each is there if it was made.
pub record ListsAre (file : Text) (room : List ℕ) (l : Lists) : Type 0 where
  pub lots_in_lem : l.lots ≤ l.firsts
  pub firsts_in_lem : l.firsts ≤ l.owns
  pub owns_in : l.owns ≤ length room
  pub lots_are : l.lots_made ≡ true → take l.lots room ≡ list_of file lots 0 (span 0 (length file))
  pub first_are : l.first_made ≡ true → part room l.lots l.firsts ≡ apart_of file l.first
  pub first_sound_lem : l.first_made ≡ true → l.first_sound ≡ counts_sound (recs (part_of file l.first))
  pub own_are : l.own_made ≡ true → part room l.firsts l.owns ≡ list_of file antigens 0 l.own
  pub own_in : l.own_made ≡ true → l.own.end ≤ length file

-- it has what is asked for
unfoldable pub is_span : Span → Span → Bool
is_span p q = eqb p.start q.start && eqb p.end q.end

unfoldable pub has_first : Lists → Span → Bool
has_first l first = l.first_made && is_span l.first first

unfoldable pub has_own : Lists → Here → Bool
has_own l h = l.own_made && (eqb l.own.start h.since && leb h.next l.own.end)

-- its last list is of the IE lines of a line's II, that line among them
pub record OwnHeld (l : Lists) (h : Here) : Type 0 where
  pub own_since : l.own.start ≡ h.since
  pub own_next : h.next ≤ l.own.end

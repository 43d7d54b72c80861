-- Working definitions: what rules 12, 13 and 14 ask of the lines before or after a line. No public contract rests on this page.
-- Assumes nothing.
use Rattle.std.specs.Prelude.{ℕ, ◌≤◌, ◌<◌, ◌≡◌, Bool, true, false, ◌&&◌, List, length, take}
use Rattle.house.specs.Text.{Text, any}
use Rattle.lines_fields.specs.Marks.{marks_at}
use Rattle.lines_fields.specs.Inside.{part}
use Rattle.lines.specs.Records.{II, IE, recs}
use Rattle.lines.specs.Inside.{whole}
use Rattle.rules_definitions.specs.Forms.{text}
use Rattle.rules_definitions.specs.Rules.{counts_sound, sets_differ}
use Rattle.rules_forms.specs.FieldLeaves.{sound_in}
use Rattle.rules_lists.specs.Among.{antigen_is, lot_is}
use Rattle.rules.specs.declared.Here.{Here}
use Rattle.rules.specs.Walk.{part_of, line_rec}

-- WHAT IS ASKED

-- rule 12 is broken by an IE whose antigen has text t, after these lines of its II
unfoldable pub antigen_again : Text → Text → Bool
antigen_again t since = sound_in IE false 4 t && any (antigen_is t) (recs since)

-- rule 13 is broken by an II with these IE lines, where its block's first has those
unfoldable pub antigens_differ : Text → Text → Bool
antigens_differ own first = counts_sound (recs own) && (counts_sound (recs first) && sets_differ (recs own) (recs first))

-- of an IE
abbrev pub AntigenAsked : Text → Here → Bool → Type 0
AntigenAsked file h r = r ≡ antigen_again (text (line_rec file h.at) 4) (part file h.since h.at)

-- of an II: an earlier one of its block has its lot
abbrev pub LotAsked : Text → Here → Bool → Type 0
LotAsked file h r = r ≡ any (lot_is (text (line_rec file h.at) 15)) (recs (part file h.block h.at))

-- of an II that joins its block
abbrev pub SetsAsked : Text → Here → Bool → Type 0
SetsAsked file h r = r ≡ antigens_differ (part file h.next h.own) (part_of file h.first)

-- its antigens and counts, and those of its block's first, are all sound
pub record SetsSound (file : Text) (h : Here) : Type 0 where
  pub own_sound : counts_sound (recs (part file h.next h.own)) ≡ true
  pub first_sound_lem : counts_sound (recs (part_of file h.first)) ≡ true

-- the answers for a line
pub record AnswersAre (file : Text) (h : Here) (again differ : Bool) : Type 0 where
  pub antigen_is_lem : h.kind ≡ IE → AntigenAsked file h again
  pub lot_is_lem : h.kind ≡ II → LotAsked file h again
  pub differ_is : h.kind ≡ II → differ ≡ h.facts.joined && antigens_differ (part file h.next h.own) (part_of file h.first)

-- what is known of a line, with these answers
unfoldable pub answered : Here → Bool → Bool → Here
answered h again differ =
    record {
      kind = h.kind;
      historical = h.historical;
      n = h.n;
      place = h.place;
      at = h.at;
      next = h.next;
      uli = h.uli;
      born = h.born;
      vaccine = h.vaccine;
      day = h.day;
      since = h.since;
      block = h.block;
      own = h.own;
      first = h.first;
      facts = h.facts;
      again = again;
      differ = differ;
    }

-- r is what is known of a line, with the answers for it
pub record AnsweredIs (file : Text) (h r : Here) : Type 0 where
  pub exact : r ≡ answered h r.again r.differ
  pub answers : AnswersAre file h r.again r.differ

-- a line may be asked about: its marks are these, and it, its block and the IE lines before it start where lines do
pub record AskAt (file : Text) (m : List ℕ) (h : Here) : Type 0 where
  pub less : h.at < length file
  pub short : length file ≤ 5000000
  pub marked : m ≡ marks_at file h.at
  pub line_ends : whole (take h.at file) ≡ true
  pub since_in : h.since ≤ h.at
  pub block_is_in : h.block ≤ h.at
  pub block_ends : whole (take h.block file) ≡ true
  pub on : h.at < h.next
  pub next_in : h.next ≤ length file
  pub next_ends : h.next < length file → whole (take h.next file) ≡ true
  pub own_in : h.own ≤ length file
  pub first_in : h.first.end ≤ length file
  pub alone : h.facts.joined ≡ false → h.block ≡ h.at

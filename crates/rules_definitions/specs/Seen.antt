-- What a file is judged by, and what the rules see from a line.
-- Assumes nothing.
use Rattle.std.specs.Prelude.{ℕ, suc, Bool, List}
use Rattle.house.specs.Text.{Text, front, how_many}
use Rattle.lines.specs.Records.{Rec, IP, IE, is_kind}
use Rattle.ledger.specs.Ledger.{Event}
use Rattle.rules_definitions.specs.Contexts.{Context, nearest, head_of, is_numbered}
use Rattle.rules_definitions.specs.Blocks.{is_in_block, event_of, open_after, block_in, joins_open, first_open, is_repeated}

-- today, what the book in use says, and what is live in the ledger as lent
pub record Setting : Type 0 where
  -- which rules: 0, today's, is the only profile. (Change request 11 adds another.)
  pub profile : ℕ
  pub today : ℕ
  -- the book has this code of this kind
  pub known : ℕ → Text → Bool
  -- and has it in force on this day
  pub in_force_lem : ℕ → ℕ → Text → Bool
  -- the book has it with an end before this day
  pub ended : ℕ → ℕ → Text → Bool
  -- the event is live
  pub live : Event → Bool

pub record Seen : Type 0 where
  -- "its place among IP, II, IE, IN and IA lines, from 1"
  pub place : ℕ
  pub line : Rec
  -- its IP
  pub ip : Rec
  -- its II or IN
  pub head : Rec
  -- the IE lines just before it: of an IE, the earlier ones of its II
  pub antigens : List Rec
  pub in_block : Bool
  -- the earlier II lines of its block
  pub block : List Rec
  -- there are such: it is not the first
  pub not_first : Bool
  -- the IE lines of the II
  pub own : List Rec
  -- those of its block's first II, where it is not the first
  pub first : List Rec
  -- an earlier block names its event
  pub repeated : Bool
  -- the event that its fields 3, 6 and 8 name is live in the ledger as lent; asked of an II in a block alone
  pub live : Bool

unfoldable pub seen_at : Setting → Context → Seen
seen_at s h =
    record {
      place = suc (how_many is_numbered h.before);
      line = h.line;
      ip = nearest IP h.before;
      head = head_of h.line h.before;
      antigens = front (is_kind IE) h.before;
      in_block = is_in_block h.line;
      block = block_in h.line (open_after h.before);
      not_first = joins_open h.line h.before;
      own = front (is_kind IE) h.after;
      first = first_open h.before;
      repeated = is_repeated h.line h.before;
      live = s.live (event_of h.line);
    }

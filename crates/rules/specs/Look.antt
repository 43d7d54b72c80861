-- What a file is judged by, as look-ups in the sections of a book of any bytes and in the first slots of a ledger of any bytes say it. Of bytes
-- that start with a well-formed book, by its own sections, they say what it lists, and of a well-formed ledger, by the number of its live
-- events, what is live (proofs/SettingLaws).
-- Assumes nothing.
use Rattle.std.specs.Prelude.{take}
use Rattle.house.specs.Text.{Text}
use Rattle.ledger.specs.Ledger.{found_in}
use Rattle.rules_definitions.specs.Seen.{Setting}
use Rattle.book.specs.LookUp.{known_by, in_force_by, ended_by}
use Rattle.rules.specs.declared.By.{By}

-- the book that bytes start with, by its sections
abbrev pub book_in : By → Text → Text
book_in by bytes = take by.sections.end bytes

unfoldable pub setting_by : By → Text → Text → Setting
setting_by by book ledger =
    record {
      profile = 0;
      today = by.today;
      known = known_by book by.sections;
      in_force_lem = in_force_by book by.sections;
      ended = ended_by book by.sections;
      live = found_in ledger by.live;
    }

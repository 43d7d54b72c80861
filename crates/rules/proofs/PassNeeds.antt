-- What each need of the walk over a file asks.
-- Assumes nothing.
use mathlib.Core.Path.{◌≡◌}
use mathlib.Core.Bool.{Bool, true, false, not, ◌&&◌}
use mathlib.Core.List.{List}
use Prim.Native.Nat.{ℕ, ◌+◌, ◌-◌, ◌^◌, ◌≤◌, ◌<◌}
use borrow.Author.Rules.{rules}
use lib.ListN.{length, set}
use Rattle.house.specs.Text.{Text}
use Rattle.lines_fields.specs.Marks.{marks_at}
use Rattle.rules_definitions.specs.Seen.{Setting, Seen}
use Rattle.rules_definitions.specs.Findings.{fields_findings}
use Rattle.rules.specs.declared.State.{State}
use Rattle.rules.specs.declared.Here.{Here}
use Rattle.rules.specs.declared.By.{By}
use Rattle.rules.specs.Inside.{kept, keep}
use Rattle.rules.specs.Look.{setting_by}
use Rattle.rules.specs.Fields.{line_most, Told}
use Rattle.rules.specs.Walk.{ReadIn, LookAt, HereIs}
use Rattle.rules.specs.Advance.{advanced}
use Rattle.rules.specs.Questions.{AnsweredIs, AskAt}
use Rattle.rules.specs.Turned.{Turn, TurnAt, TurnIs}
use Rattle.rules.proofs.QuestionNeeds.{nothing_made}
use Rattle.rules.proofs.TurnNeeds.{turn_numbers, turn_findings, turn_read, turn_asks, turned_is}
use Rattle.rules.proofs.GatherNeeds.{Gathering, gather_start, gather_at, gather_blocks, gather_in, gather_room, gather_size, gather_is, gather_falls, gather_other, gather_first}

-- walk: at a line, before it is read
module _ (s : Setting) (file table area₀ : Text) (old : List ℕ) (at : ℕ) (st : State) (found : ℕ) (area : Text) (firsts : List ℕ) (n : ℕ)
    (g : Gathering s file table area₀ old at st found area firsts n) (m : List ℕ) (r : length m ≡ 30) (short : length file ≤ 5000000) (l : at < length file) where
  abbrev now : Turn
  now = record { at = at; st = st; count = found; first = false }

  come : TurnAt file m now
  come = gather_at s file table area₀ old at st found area firsts n g m false r short l

  pub walk_looks : LookAt file m at st
  walk_looks = come.looks

  pub walk_numbers : (st.n + 1 < 2 ^ 64) × (st.place + 1 < 2 ^ 64) × (st.not_immunized + 1 < 2 ^ 64)
  walk_numbers = turn_numbers file m now come

  pub walk_findings : found + line_most < 2 ^ 64
  walk_findings = turn_findings file m now come

  -- once it is read
  module _ (m2 : List ℕ) (e : m2 ≡ marks_at file at) where
    pub walk_read : ReadIn file m2
    walk_read = turn_read file m now come m2 e

    pub walk_asks : (ledger : Text) (live : ℕ) (y : Here) → HereIs file at st table ledger live y → AskAt file m2 y
    walk_asks ledger live y i = turn_asks file m now come m2 e table ledger live y i

-- once it is read and judged
module _ (file book ledger : Text) (by : By) (table area₀ : Text) (old : List ℕ) (at : ℕ) (st : State) (found : ℕ) (area : Text) (firsts : List ℕ) (n : ℕ)
    (g : Gathering (setting_by by book ledger) file table area₀ old at st found area firsts n) (m : List ℕ) (r : length m ≡ 30)
    (short : length file ≤ 5000000) (l : at < length file) (m2 : List ℕ) (e : m2 ≡ marks_at file at) (y : Here) (i : HereIs file at st table ledger by.live y)
    (x : Here) (q : AnsweredIs file y x)
    (after : Text) (c : ℕ) (j : (s : Setting) (v : Seen) → Told file m2 x book by s v → kept c after ≡ keep (fields_findings s x.n v 1 (length v.line.fields)) (kept found area))
    (k : c ≤ found + line_most) (st2 : State) (z : st2 ≡ advanced file m2 st y) (f : Bool) (b : f ≡ y.facts.inb && not y.facts.joined) where
  abbrev S : Setting
  S = setting_by by book ledger

  abbrev was : Turn
  was = record { at = at; st = st; count = found; first = false }

  abbrev next : Turn
  next = record { at = y.next; st = st2; count = c; first = f }

  turned : TurnIs S file table was area next after
  turned = turned_is file m was (gather_at S file table area₀ old at st found area firsts n g m false r short l) m2 e table ledger by y i x q book area after c st2 f j k z b

  pub walk_falls : length file - y.next < length file - at
  walk_falls = gather_falls S file table area₀ old at st found area firsts n g l false next after turned

  module _ (size : length after ≡ length area) where
    pub walk_other : f ≡ false → Gathering (setting_by by book ledger) file table area₀ old y.next st2 c after firsts n
    walk_other h = gather_other S file table area₀ old at st found area firsts n g l false next after turned size h

    pub walk_first : (new : List ℕ) → f ≡ true → new ≡ set firsts n at
        → Gathering (setting_by by book ledger) file table area₀ old y.next st2 c after new (n + 1)
    walk_first new h w = gather_first S file table area₀ old at st found area firsts n g l false next after turned size new h w

pub ruleset for_walk = (
  rules,
  gather_start,
  gather_blocks,
  gather_in,
  gather_room,
  gather_size,
  gather_is,
  walk_looks,
  walk_numbers,
  walk_findings,
  walk_read,
  walk_asks,
  nothing_made,
  walk_falls,
  walk_other,
  walk_first,
)

-- What is claimed of the findings and of the blocks, as types; the proofs stand in proofs/. What is quoted here is from the demands
-- (docs/PROMISES.md).
-- Assumes nothing.
use Rattle.std.specs.Prelude.{ℕ, ◌+◌, ◌*◌, ◌/◌, ◌≤◌, ◌<◌, ◌≡◌, true, false, ◌⊎◌, List, [], length, get_or, T}
use Rattle.house.specs.Text.{Text}
use Rattle.house.specs.Members.{In, Distinct, Rising}
use Rattle.ledger.specs.Ledger.{Event, event_form}
use Rattle.rules_definitions.specs.Contexts.{Context, contexts_in}
use Rattle.rules_definitions.specs.Blocks.{joins_open, begins_block, events_of, adds, changes, deletes}
use Rattle.rules_definitions.specs.Seen.{Setting, seen_at}
use Rattle.rules_definitions.specs.Rules.{is_broken}
use Rattle.rules_definitions.specs.Findings.{Finding, findings_of, finding_bytes, area_after}

-- FINDINGS

-- the finding names a line of the file, one of its fields, and a rule that is broken there
pub record Broken (s : Setting) (file : Text) (y : Finding) : Type 0 where
  pub at : Context
  pub there : In at (contexts_in file)
  pub line_is : y.line ≡ at.number
  pub from : 1 ≤ y.field
  pub upto : y.field ≤ length at.line.fields
  pub broken : T (is_broken s (seen_at s at) y.field y.rule)

-- by line, field, rule
abbrev pub Before : Finding → Finding → Type 0
Before x y = (x.line < y.line) ⊎ ((x.line ≡ y.line) × ((x.field < y.field) ⊎ ((x.field ≡ y.field) × (x.rule < y.rule))))

-- each stands before all that follow it: so none stands twice
abbrev pub Ascending : List Finding → Type 0
Ascending xs = Rising Before xs

-- "every broken rule with line and field, none missing, none twice, in file order"
pub record Lists (s : Setting) (file : Text) (xs : List Finding) : Type 0 where
  pub in_order_lem : Ascending xs
  pub only : (y : Finding) → In y xs → Broken s file y
  pub every : (y : Finding) → Broken s file y → In y xs

-- a finding is in the list exactly if that rule is broken there, and the list ascends strictly
abbrev pub FindingsListed : Type 0
FindingsListed = (s : Setting) (file : Text) → Lists s file (findings_of s file)

-- and no other list is such
abbrev pub OneList : Type 0
OneList = (s : Setting) (file : Text) (xs ys : List Finding) → Lists s file xs → Lists s file ys → xs ≡ ys

-- THE FINDINGS AREA

abbrev pub no_finding : Finding
no_finding = record { line = 0; field = 0; rule = 0 }

-- byte by byte: finding i stands in bytes 6 i to 6 i + 5 where it is there and fits whole, and every other byte is as lent
pub record AreaHolds (area : Text) (xs : List Finding) (after : Text) : Type 0 where
  pub same_length : length after ≡ length area
  pub kept : (i j : ℕ) → i < length xs → i * 6 + 6 ≤ length area → j < 6 → get_or after (i * 6 + j) 0 ≡ get_or (finding_bytes (get_or xs i no_finding)) j 0
  pub past_list : (k : ℕ) → length xs * 6 ≤ k → get_or after k 0 ≡ get_or area k 0
  pub past_room : (k : ℕ) → length area / 6 * 6 ≤ k → get_or after k 0 ≡ get_or area k 0

abbrev pub AreaKept : Type 0
AreaKept = (area : Text) (xs : List Finding) → AreaHolds area xs (area_after area xs)

-- and no other area is such
abbrev pub OneArea : Type 0
OneArea = (area : Text) (xs : List Finding) (a b : Text) → AreaHolds area xs a → AreaHolds area xs b → a ≡ b

-- BLOCKS

-- what a file without findings says of the events that its blocks name
pub record Clean (s : Setting) (hs : List Context) : Type 0 where
  -- each event is named once, also where a block has several lots
  pub adds_once : Distinct (events_of adds hs)
  pub changes_once : Distinct (events_of changes hs)
  pub deletes_once : Distinct (events_of deletes hs)
  -- and for one thing
  pub change_or_add : (e : Event) → In e (events_of changes hs) → In e (events_of adds hs) → ⊥
  pub change_or_delete : (e : Event) → In e (events_of changes hs) → In e (events_of deletes hs) → ⊥
  -- as the ledger lent asks
  pub adds_new : (e : Event) → In e (events_of adds hs) → T (s.live e) → ⊥
  pub changes_live : (e : Event) → In e (events_of changes hs) → T (s.live e)
  pub deletes_live : (e : Event) → In e (events_of deletes hs) → T (s.live e)
  -- in the form of an event
  pub adds_formed : (e : Event) → In e (events_of adds hs) → T (event_form e) × (length e ≡ 37)

abbrev pub CleanFile : Type 0
CleanFile = (s : Setting) (file : Text) → findings_of s file ≡ [] → Clean s (contexts_in file)

-- "Lots in one block count once": an II that joins the block before it begins none
abbrev pub LotsOnce : Type 0
LotsOnce = (type : Text) (h : Context) → joins_open h.line h.before ≡ true → begins_block type h ≡ false

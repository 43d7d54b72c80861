-- What each need of the public function asks: the blocks are gathered and put in order, and the walk is made again where two name one event.
-- Assumes nothing.
use mathlib.Core.Path.{◌≡◌, refl, sym, ap, ◌∙◌}
use mathlib.Core.Bool.{Bool, true, false, cond}
use mathlib.Core.List.{List, [], ◌++◌}
use Prim.Native.Nat.{ℕ, ◌-◌, ◌*◌, ◌≤◌, ◌<◌}
use native.Mathlib.Omega.{arith}
use borrow.Author.Rules.{rules}
use borrow.Author.Tests.{leb-true, le-leb, lt-leb}
use lib.Dec.{leb}
use lib.ListN.{length, take, drop, replicate, length-replicate}
use lib.Seq.{take_all}
use Rattle.house.specs.Text.{Text}
use Rattle.house.proofs.Small.{both, clash}
use Rattle.lines.specs.Events.{events_at, ascends}
use Rattle.lines.specs.Sorted.{sorted_at, sorted_apart}
use Rattle.rules_definitions.specs.Seen.{Setting}
use Rattle.rules_definitions.specs.Findings.{findings_of, area_after}
use Rattle.rules_definitions.proofs.AreaLaws.{area_again}
use Rattle.rules_walk.specs.declared.Built.{Built}
use Rattle.rules_walk.specs.Firsts.{index_of, can_build, built, built_in, can_sort_front, front_of, front_in}
use Rattle.rules_walk.specs.Repeats.{repeats_in, note_all}
use Rattle.rules_walk.proofs.IndexNeeds.{can_same, not_built, index_apart, index_built, index_front}
use Rattle.rules.specs.declared.By.{By}
use Rattle.rules.specs.declared.Judged.{Judged}
use Rattle.std.proofs.Common.{Option, Some, None}
use Rattle.rules.specs.Look.{setting_by}
use Rattle.rules.specs.Under.{findings_under}
use Rattle.rules.specs.Judged.{findings_by, judged, judged_of, judged_area, WalkIs, AgainIs, Judging, Sorting}
use Rattle.rules.proofs.UnderLaws.{under_noted, under_none, under_fewer}

-- the index is in order, or not
module _ (file : Text) (area : List ℕ) (n : ℕ) (r : Option Built) (e : r ≡ front_of file area n) where
  front_none : r ≡ None → can_sort_front area n ≡ false
  unfolding front_of
  front_none z = go (can_sort_front area n) (sym e ∙ z)
    where
      go : (t : Bool) → cond t (Some (built n (sorted_apart file (take n area)))) None ≡ None → t ≡ false
      go true y = clash (cc)
      go false y = refl

  front_done : (q : Built) → r ≡ Some q → (can_sort_front area n ≡ true) × (q.distinct ≡ sorted_apart file (take n area))
  unfolding front_of
  front_done q z = go (can_sort_front area n) (sym z ∙ e)
    where
      go : (t : Bool) → Some q ≡ cond t (Some (built n (sorted_apart file (take n area)))) None → (t ≡ true) × (q.distinct ≡ sorted_apart file (take n area))
      go true y = (refl, let u : q ≡ built n (sorted_apart file (take n area)) = cc in ap (λ (x : Built). x.distinct) u)
      go false y = clash (cc)

can_says : (area : List ℕ) (n : ℕ) → can_sort_front area n ≡ true → (n ≤ 96154) × (n ≤ length area)
unfolding can_sort_front
can_says area n h = let p = both (leb n 96154) (leb n (length area)) h in (leb-true n 96154 p.0, leb-true n (length area) p.1)

-- judge_file
module _ (file book : Text) (by : By) (ledger : Text) (room : List ℕ) (area : Text) (short : length file ≤ 5000000) where
  abbrev S : Setting
  S = setting_by by book ledger

  module _ (w : Judged) (after : Text) (new : List ℕ) (g : WalkIs S file [] area room w after new) (b : Option Built) (e : b ≡ front_of file new w.blocks) (index : List ℕ) (i : index ≡ front_in file new w.blocks) where
    many : b ≡ None → Judging file book by ledger room area None index after
    unfolding judged_of judged_area front_in
    many z =
        let f : can_sort_front new w.blocks ≡ false = front_none file new w.blocks b e z in
        let c : can_build file (length room) ≡ false = can_same file room short w.blocks g.blocks_are new g.firsts_are ∙ f in
        record {
          answer = rw c;
          room_is = i ∙ rw f (not_built file room short w.blocks g.blocks_are new g.firsts_are f);
          area_is = g.found_is.area_is ∙ rw (c, le-leb (length file) 5000000 short);
        }

    module _ (q : Built) (z : b ≡ Some q) where
      can : can_sort_front new w.blocks ≡ true
      can = (front_done file new w.blocks b e q z).0

      few : (w.blocks ≤ 96154) × (w.blocks ≤ length new)
      few = can_says new w.blocks can

      is_built : can_build file (length room) ≡ true
      is_built = can_same file room short w.blocks g.blocks_are new g.firsts_are ∙ can

      index_is : index ≡ sorted_at file (take w.blocks new) ++ drop w.blocks new
      unfolding front_in
      index_is = i ∙ rw can

      room_is : index ≡ built_in file room
      room_is = index_is ∙ index_built file room short w.blocks g.blocks_are new g.firsts_are can few.0 few.1

      apart : q.distinct ≡ ascends (events_at file (index_of file))
      apart = (front_done file new w.blocks b e q z).1 ∙ index_apart file room short w.blocks g.blocks_are new g.firsts_are can few.0 few.1

      done : (findings : ℕ) (last : Text) → findings ≡ length (findings_of S file) → last ≡ area_after area (findings_of S file)
          → Judging file book by ledger room area (Some (judged w.blocks findings w.not_immunized)) index last
      unfolding judged_of judged_area findings_by
      done findings last p y =
          record {
            answer = rw (is_built, g.blocks_are, g.not_immunized_is, p);
            room_is = room_is;
            area_is = y ∙ rw is_built;
          }

      once : q.distinct ≡ true → Judging file book by ledger room area (Some w) index after
      once t =
          let u : findings_under S file [] ≡ findings_of S file = under_none S file (sym apart ∙ t) in
          done w.findings after (g.found_is.count_is_lem ∙ ap length u) (g.found_is.area_is ∙ ap (area_after area) u)

      again : (findings : ℕ) (last : Text) → AgainIs S file (take w.blocks index) after findings last
          → Judging file book by ledger room area (Some (judged w.blocks findings w.not_immunized)) index last
      again findings last a =
          let f : take w.blocks index ≡ index_of file = rw index_is (index_front file room short w.blocks g.blocks_are new g.firsts_are can few.0 few.1) in
          let o = a.own_is f in
          done findings last o.0 (o.1 ∙ rw g.found_is.area_is (area_again area (findings_under S file []) (findings_of S file) (under_fewer S file)))

-- judge_sorted
module _ (file book : Text) (by : By) (ledger : Text) (short : length file ≤ 5000000) (w : Judged) (left : Text) (new : List ℕ) (b : Option Built) (e : b ≡ front_of file new w.blocks) (index : List ℕ)
    (i : index ≡ front_in file new w.blocks) where
  pub sorted_many : b ≡ None → Sorting file book by ledger w new left None index left
  sorted_many z = record { judging = λ room area g. many file book by ledger room area short w left new g b e index i z }

  module _ (q : Built) (z : b ≡ Some q) where
    pub sorted_once : q.distinct ≡ true → Sorting file book by ledger w new left (Some w) index left
    sorted_once t = record { judging = λ room area g. once file book by ledger room area short w left new g b e index i q z t }

    pub sorted_again : (findings : ℕ) (last : Text) → AgainIs (setting_by by book ledger) file (take w.blocks index) left findings last
        → Sorting file book by ledger w new left (Some (judged w.blocks findings w.not_immunized)) index last
    sorted_again findings last a = record { judging = λ room area g. again file book by ledger room area short w left new g b e index i q z findings last a }

pub ruleset for_judge_sorted = (rules, sorted_many, sorted_once, sorted_again)

-- judge_file
pub file_judged : (file book : Text) (by : By) (ledger : Text) (w : Judged) (room new : List ℕ) (area left : Text) (r : Option Judged) (index : List ℕ) (after : Text)
    → WalkIs (setting_by by book ledger) file [] area room w left new
    → Sorting file book by ledger w new left r index after → Judging file book by ledger room area r index after
file_judged file book by ledger w room new area left r index after g s = s.judging room area g

pub ruleset for_judge_file = (rules, file_judged)

-- front
pub front_all : (places : List ℕ) (n : ℕ) → length places ≤ n → places ≡ take n places
front_all places n h = sym (take_all n places h)

pub front_part : (places : List ℕ) (n : ℕ) → take (n - 0) places ≡ take n places
front_part places n = let e : n - 0 ≡ n = omega arith in ap (λ (k : ℕ). take k places) e

pub ruleset for_front = (rules, front_all, front_part)

-- walk_noted: a table that was just made
table_clear : (n : ℕ) → replicate {A = ℕ} n 0 ≡ replicate {A = ℕ} (length (replicate {A = ℕ} n 0)) 0
table_clear n = ap (λ (k : ℕ). replicate {A = ℕ} k 0) (sym (length-replicate {A = ℕ} n 0))

table_long : (file : Text) (n : ℕ) → length file ≤ 16 * n → length file ≤ 16 * length (replicate {A = ℕ} n 0)
table_long file n h = omega (arith, length-replicate {A = ℕ} n 0)

pub noted_again : (s : Setting) (file : Text) (index : List ℕ) (n : ℕ) (table area : Text) (old : List ℕ) (r : Judged) (after : Text) (new : List ℕ)
    → length file ≤ 16 * n → table ≡ note_all (repeats_in file index) (replicate n 0) → WalkIs s file table area old r after new
    → AgainIs s file index area r.findings after
noted_again s file index n table area old r after new h t w =
    record {
      own_is = λ e.
          let u : findings_under s file table ≡ findings_of s file
          = ap (findings_under s file) t ∙ under_noted s file index (replicate n 0) (table_clear n) (table_long file n h) e in
          (w.found_is.count_is_lem ∙ ap length u, w.found_is.area_is ∙ ap (area_after area) u);
    }

pub ruleset for_walk_noted = (rules, noted_again)

-- walk_by
pub by_front : (s : Setting) (file : Text) (places index : List ℕ) (n : ℕ) (area : Text) (r : ℕ) (after : Text) → index ≡ take n places → AgainIs s file index area r after
    → AgainIs s file (take n places) area r after
by_front s file places index n area r after e a = rw e at a

pub ruleset for_walk_by = (rules, by_front)

-- judge
module _ (file book : Text) (by : By) (ledger : Text) (room : List ℕ) (area : Text) where
  module _ (h : 5000000 < length file) where
    too_long : can_build file (length room) ≡ false
    unfolding can_build
    too_long = rw (lt-leb (length file) 5000000 h)

    pub long_none : None ≡ judged_of file book by ledger (length room)
    unfolding judged_of
    long_none = rw too_long

    pub long_room : room ≡ built_in file room
    unfolding built_in
    long_room = rw (too_long, lt-leb (length file) 5000000 h)

    pub long_area : area ≡ judged_area file book by ledger (length room) area
    unfolding judged_area
    long_area = rw (too_long, lt-leb (length file) 5000000 h)

  module _ (r : Option Judged) (index : List ℕ) (after : Text) (j : Judging file book by ledger room area r index after) where
    pub judge_answer : r ≡ judged_of file book by ledger (length room)
    judge_answer = j.answer

    pub judge_room : index ≡ built_in file room
    judge_room = j.room_is

    pub judge_area : after ≡ judged_area file book by ledger (length room) area
    judge_area = j.area_is

pub ruleset for_judge = (rules, long_none, long_room, long_area, judge_answer, judge_room, judge_area)

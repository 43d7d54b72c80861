-- The lots of one event under one IP stand in one block.
-- Assumes nothing.
use Prim.Native.Nat.{ℕ, suc}
use mathlib.Core.Path.{◌≡◌, refl, sym, ap, ◌∙◌, subst}
use mathlib.Core.Bool.{Bool, true, false, not, cond, ◌&&◌, ◌||◌}
use mathlib.Core.Logic.{inl, inr}
use mathlib.Core.List.{List, [], ◌∷◌, ◌++◌}
use lib.Dec.{eqb}
use borrow.Author.Tests.{eqb-true}
use Rattle.house.specs.Text.{any, all, front, joined}
use Rattle.house.specs.Members.{In}
use Rattle.house.proofs.Small.{both, clash}
use Rattle.lines.specs.Records.{Rec, IP, II, IE, is_kind}
use Rattle.rules_definitions.specs.Contexts.{Context, contexts_from, no_rec}
use Rattle.rules_definitions.specs.Blocks.{is_in_block, joins, nearest_of, block_in, open_after, joins_open}
use Rattle.chart_definitions.specs.Charts.{Charted, is_of}
use Rattle.chart_definitions.specs.Lots.{equal_as_written, same_lots}
use Rattle.chart_definitions.proofs.OrderKeptLaws.{is_lot}
use Rattle.chart_claims.specs.ClaimsRead.{record_recs}
use Rattle.chart_claims.specs.ClaimsBlocks.{joins_earlier}
use Rattle.chart_claims.proofs.NeighbourLaws.{like_nearest, Neighbours}
use Rattle.chart_claims.proofs.EventLines.{line_of, joins_lines, in_block_same, not_in_block}

-- a line in one block with what it joins
abbrev pub Fine : Context → Type 0
Fine h = is_in_block h.line ≡ true → joins_earlier h ≡ true → joins_open h.line h.before ≡ true

abbrev pub AllFine : List Context → Type 0
AllFine [] = Unit {0}
AllFine (h ∷ hs) = Fine h × AllFine hs

pub fine_in : (hs : List Context) → AllFine hs → (h : Context) → In h hs → Fine h
fine_in [] a h m = absurd m
fine_in (g ∷ hs) a h (inl e) = subst Fine (sym e) a.0
fine_in (g ∷ hs) a h (inr m) = fine_in hs a.1 h m

-- a line that is no II
pub fine_other : (h : Context) → eqb h.line.kind II ≡ false → Fine h
fine_other h k b j = clash (cc (not_in_block h.line k))

-- LOTS

-- some II of these lines joins l
abbrev some_joins : Rec → List Rec → Bool
some_joins l before = any (λ (p : Rec). is_kind II p && joins l p) (front (λ (p : Rec). not (is_kind IP p)) before)

-- what the lines of the IP so far show: the lots, nearest first
pub record Shows (before : List Rec) (past : List (List Charted)) : Type 0 where
  pub some : (n : ℕ) (r : Charted) (rs : List Charted) → some_joins (line_of n r) before ≡ any (same_lots (r ∷ rs)) past
  pub opened : (p : Charted) (ps : List Charted) (others : List (List Charted)) → past ≡ (p ∷ ps) ∷ others
      → (p.kind ≡ II) × ((m : ℕ) × (nearest_of (open_after before) ≡ cond (is_in_block (line_of m p)) (line_of m p) no_rec))

-- behind an IP there are none
shows_none : (l : Rec) (before : List Rec) → l.kind ≡ IP → Shows (l ∷ before) []
shows_none l before k =
    record {
      some = λ n r rs. rw k;
      opened = λ p ps others e. clash (cc);
    }

-- an II is one more
shows_ii : (n : ℕ) (r : Charted) (rs : List Charted) (before : List Rec) (past : List (List Charted)) → r.kind ≡ II → Shows before past → Shows (line_of n r ∷ before) ((r ∷ rs) ∷ past)
shows_ii n r rs before past k s =
    record {
      some = λ m q qs. some_ii m q qs;
      opened = λ p ps others e. opened_ii p ps others e;
    }
  where
    some_ii : (m : ℕ) (q : Charted) (qs : List Charted) → some_joins (line_of m q) (line_of n r ∷ before) ≡ equal_as_written q r || any (same_lots (q ∷ qs)) past
    some_ii m q qs = first (is_kind II (line_of n r)) (is_kind IP (line_of n r)) refl (rw k) (rw k)
      where
        first : (b c : Bool) → is_kind II (line_of n r) ≡ b → b ≡ true → c ≡ false → any (λ (p : Rec). is_kind II p && joins (line_of m q) p) (cond (not c) (line_of n r ∷ front (λ (p : Rec). not (is_kind IP p)) before) []) ≡ equal_as_written q r || any (same_lots (q ∷ qs)) past
        first b true h i j = clash (cc)
        first false false h i j = clash (cc)
        first true false h i j = ap (λ (t : Bool). t || some_joins (line_of m q) before) (ap (λ (t : Bool). t && joins (line_of m q) (line_of n r)) h ∙ joins_lines m n q r) ∙ ap (λ (t : Bool). equal_as_written q r || t) (s.some m q qs)

    opened_ii : (p : Charted) (ps : List Charted) (others : List (List Charted)) → (r ∷ rs) ∷ past ≡ (p ∷ ps) ∷ others
        → (p.kind ≡ II) × ((m : ℕ) × (nearest_of (open_after (line_of n r ∷ before)) ≡ cond (is_in_block (line_of m p)) (line_of m p) no_rec))
    opened_ii p ps others e =
        let q : r ≡ p = cc in
        subst (λ (c : Charted). (c.kind ≡ II) × ((m : ℕ) × (nearest_of (open_after (line_of n r ∷ before)) ≡ cond (is_in_block (line_of m c)) (line_of m c) no_rec))) q
        (k, (n, open_here (is_kind IE (line_of n r)) (rw k) (is_in_block (line_of n r))))
      where
        open_here : (b : Bool) → b ≡ false → (c : Bool)
            → nearest_of (cond b (open_after before) (cond c (line_of n r ∷ block_in (line_of n r) (open_after before)) [])) ≡ cond c (line_of n r) no_rec
        open_here true i c = clash (cc)
        open_here false i true = refl
        open_here false i false = refl

-- an IE leaves it as it is
shows_ie : (n : ℕ) (r : Charted) (before : List Rec) (past : List (List Charted)) → r.kind ≡ IE → Shows before past → Shows (line_of n r ∷ before) past
shows_ie n r before past k s =
    record {
      some = λ m q qs. some_ie m q qs;
      opened = λ p ps others e. let o = s.opened p ps others e in (o.0, (o.1.0, left (is_kind IE (line_of n r)) (rw k) ∙ o.1.1));
    }
  where
    left : (b : Bool) → b ≡ true → nearest_of (cond b (open_after before) (cond (is_in_block (line_of n r)) (line_of n r ∷ block_in (line_of n r) (open_after before)) [])) ≡ nearest_of (open_after before)
    left true i = refl
    left false i = clash (cc)

    some_ie : (m : ℕ) (q : Charted) (qs : List Charted) → some_joins (line_of m q) (line_of n r ∷ before) ≡ any (same_lots (q ∷ qs)) past
    some_ie m q qs = first (is_kind II (line_of n r)) (is_kind IP (line_of n r)) refl (rw k) (rw k)
      where
        first : (b c : Bool) → is_kind II (line_of n r) ≡ b → b ≡ false → c ≡ false → any (λ (p : Rec). is_kind II p && joins (line_of m q) p) (cond (not c) (line_of n r ∷ front (λ (p : Rec). not (is_kind IP p)) before) []) ≡ any (same_lots (q ∷ qs)) past
        first b true h i j = clash (cc)
        first true false h i j = clash (cc)
        first false false h i j = ap (λ (t : Bool). (t && joins (line_of m q) (line_of n r)) || some_joins (line_of m q) before) h ∙ s.some m q qs

-- an II that joins an earlier one
fine_ii : (i n : ℕ) (r : Charted) (rs : List Charted) (before after : List Rec) (past : List (List Charted)) → r.kind ≡ II → Shows before past
    → (any (same_lots (r ∷ rs)) past ≡ true → like_nearest same_lots (r ∷ rs) past ≡ true)
    → Fine (record { number = i; before = before; line = line_of n r; after = after })
fine_ii i n r rs before after past k s near b j = go past refl (near (sym (s.some n r rs) ∙ j))
  where
    go : (xs : List (List Charted)) → past ≡ xs → like_nearest same_lots (r ∷ rs) xs ≡ true → joins_open (line_of n r) before ≡ true
    go [] e h = clash (cc)
    go ([] ∷ others) e h = clash (cc)
    go ((p ∷ ps) ∷ others) e h =
        let o = s.opened p ps others e in
        let m = o.1.0 in
        let inside : is_in_block (line_of m p) ≡ true = sym (in_block_same n m r p (k ∙ sym o.0) h) ∙ b in
        let nearest : nearest_of (open_after before) ≡ line_of m p = o.1.1 ∙ ap (λ (t : Bool). cond t (line_of m p) no_rec) inside in
        ap (λ (t : Bool). t && joins (line_of n r) (nearest_of (open_after before))) b
        ∙ ap (joins (line_of n r)) nearest
        ∙ joins_lines n m r p
        ∙ h

-- THE LINES, one after the other, with these behind them
module _ (tail : List Rec) where
  abbrev pub Walk : List Charted → Type 0
  Walk rs = (i n : ℕ) (before : List Rec) → AllFine (contexts_from i before (record_recs n rs ++ tail))

  module _ (rest : List Charted) (on : Walk rest) where
    abbrev After : List (List Charted) → List Charted → Type 0
    After past rs = (i n : ℕ) (before : List Rec) → Shows before past → AllFine (contexts_from i before (record_recs n (rs ++ rest) ++ tail))

    antigens_walk : (past : List (List Charted)) (ies more : List Charted) → all (is_of IE) ies ≡ true → After past more → After past (ies ++ more)
    antigens_walk past [] more e go i n before s = go i n before s
    antigens_walk past (r ∷ ies) more e go i n before s =
        let b = both (is_of IE r) (all (is_of IE) ies) e in
        let k : r.kind ≡ IE = eqb-true r.kind IE b.0 in (
          fine_other (record { number = i; before = before; line = line_of n r; after = record_recs (suc n) (ies ++ more ++ rest) ++ tail }) (rw k),
          antigens_walk past ies more b.1 go (suc i) (suc n) (line_of n r ∷ before) (shows_ie n r before past k s),
        )

    lots_walk : (past lots : List (List Charted)) → all is_lot lots ≡ true → Neighbours same_lots past lots → After past (joined (λ (x : List Charted). x) lots)
    lots_walk past [] w g = λ i n before s. on i n before
    lots_walk past (x ∷ lots) w g =
        let b = both (is_lot x) (all is_lot lots) w in
        lot x b.0 g.0 (lots_walk (x ∷ past) lots b.1 g.1)
      where
        lot : (z : List Charted) → is_lot z ≡ true → (any (same_lots z) past ≡ true → like_nearest same_lots z past ≡ true)
            → After (z ∷ past) (joined (λ (y : List Charted). y) lots) → After past (z ++ joined (λ (y : List Charted). y) lots)
        lot [] e near more = clash (cc)
        lot (r ∷ []) e near more = clash (cc)
        lot (r ∷ q ∷ rs) e near more =
            λ i n before s.
            let b = both (is_of II r) (all (is_of IE) (q ∷ rs)) e in
            let k : r.kind ≡ II = eqb-true r.kind II b.0 in (
              fine_ii i n r (q ∷ rs) before (record_recs (suc n) ((q ∷ rs) ++ joined (λ (y : List Charted). y) lots ++ rest) ++ tail) past k s near,
              antigens_walk ((r ∷ q ∷ rs) ∷ past) (q ∷ rs) (joined (λ (y : List Charted). y) lots) b.1 more (suc i) (suc n) (line_of n r ∷ before) (shows_ii n r (q ∷ rs) before past k s),
            )

    -- a patient: an IP, and lots
    pub patient_walk : (r : Charted) (lots : List (List Charted)) → r.kind ≡ IP → all is_lot lots ≡ true → Neighbours same_lots [] lots → Walk (r ∷ (joined (λ (x : List Charted). x) lots ++ rest))
    patient_walk r lots k w g i n before = (
      fine_other (record { number = i; before = before; line = line_of n r; after = record_recs (suc n) (joined (λ (x : List Charted). x) lots ++ rest) ++ tail }) (rw k),
      lots_walk [] lots w g (suc i) (suc n) (line_of n r ∷ before) (shows_none (line_of n r) before k),
    )

  -- records that are no II
  pub others_walk : (rs rest : List Charted) → all (λ (r : Charted). not (is_of II r)) rs ≡ true → Walk rest → Walk (rs ++ rest)
  others_walk [] rest e on i n before = on i n before
  others_walk (r ∷ rs) rest e on i n before =
      let b = both (not (is_of II r)) (all (λ (q : Charted). not (is_of II q)) rs) e in (
        fine_other (record { number = i; before = before; line = line_of n r; after = record_recs (suc n) (rs ++ rest) ++ tail }) (off (is_of II r) b.0),
        others_walk rs rest b.1 on (suc i) (suc n) (line_of n r ∷ before),
      )
    where
      off : (c : Bool) → not c ≡ true → c ≡ false
      off true h = clash (cc)
      off false h = refl

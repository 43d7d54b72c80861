-- The first II of a block: where none is repeated each event has one, and lots in one block count once.
-- Assumes nothing.
use Prim.Native.Nat.{ℕ, suc}
use mathlib.Core.Path.{◌≡◌, refl, sym, subst}
use mathlib.Core.Bool.{Bool, true, false, not, cond, ◌&&◌}
use mathlib.Core.Logic.{inl, inr}
use mathlib.Core.List.{List, [], ◌∷◌, map}
use lib.Dec.{T}
use Rattle.house.specs.Text.{Text, same, any, those}
use Rattle.house.specs.Members.{In, Distinct}
use Rattle.house.proofs.Facts.{both, both_of, of_true}
use Rattle.house.proofs.Members.{in_those, in_map, any_in}
use Rattle.house.proofs.Small.{clash}
use Rattle.lines.specs.Records.{Rec}
use Rattle.ledger.specs.Ledger.{Event}
use Rattle.rules_definitions.specs.Forms.{text}
use Rattle.rules_definitions.specs.Contexts.{Context, contexts_from}
use Rattle.rules_definitions.specs.Blocks.{is_in_block, event_of, same_event, joins, nearest_of, open_after, begins, before_open, before_block, is_repeated, begins_block, events_of}
use Rattle.rules_definitions.specs.Claims.{LotsOnce}
use Rattle.rules_definitions.proofs.EventLaws.{named, same_key}

abbrev pub event_at : Context → Event
event_at h = event_of h.line

abbrev pub begins_at : Context → Bool
begins_at h = begins h.line h.before

pub begins_in : (l : Rec) (before : List Rec) → T (begins l before) → T (is_in_block l) × T (not (joins l (nearest_of (open_after before))))
unfolding begins
begins_in l before t = both (is_in_block l) (not (joins l (nearest_of (open_after before)))) t

-- a first II whose event an earlier II in a block names is repeated
first_repeats : (l p : Rec) (before : List Rec) → T (begins l before) → In p before → T (is_in_block p) → event_of l ≡ event_of p → T (is_repeated l before)
unfolding is_repeated before_block
first_repeats l p before t m b e = go (is_in_block l) (joins l (nearest_of (open_after before))) refl (begins_in l before t).0 (begins_in l before t).1
  where
    test : Rec → Bool
    test q = is_in_block q && same_event l q

    found : T (any test before)
    found = any_in test p before m (both_of (is_in_block p) (same_event l p) b (same_key l p (named l (begins_in l before t).0) (named p b) e))

    go : (i j : Bool) → is_in_block l ≡ i → T i → T (not j) → T (i && any test (cond (i && j) (before_open before) before))
    go true true q u w = absurd w
    go true false q u w = found
    go false j q u w = absurd u

before_kept : (n : ℕ) (p : Rec) (before ls : List Rec) (h : Context) → In h (contexts_from n before ls) → In p before → In p h.before
before_kept n p before [] h m k = absurd m
before_kept n p before (l ∷ ls) h (inl e) k = subst (λ (g : Context). In p g.before) (sym e) k
before_kept n p before (l ∷ ls) h (inr m) k = before_kept (suc n) p (l ∷ before) ls h m (inr k)

-- where no first II is repeated, each event has one first II
pub once_from : (n : ℕ) (before ls : List Rec)
    → ((h : Context) → In h (contexts_from n before ls) → T (begins_at h) → T (is_repeated h.line h.before) → ⊥)
    → Distinct (map event_at (those begins_at (contexts_from n before ls)))
once_from n before [] never = tt
once_from n before (l ∷ ls) never = go (once_from (suc n) (l ∷ before) ls (λ h m. never h (inr m))) (begins l before) refl
  where
    rest : List Context
    rest = contexts_from (suc n) (l ∷ before) ls

    here : Context
    here = record { number = n; before = before; line = l; after = ls }

    go : Distinct (map event_at (those begins_at rest)) → (b : Bool) → begins l before ≡ b → Distinct (map event_at (cond b (here ∷ those begins_at rest) (those begins_at rest)))
    go d false e = d
    go d true e = (
      (λ m.
          let r = in_map event_at (event_of l) (those begins_at rest) m in
          let q = in_those begins_at r.0 rest r.1 in
          let k = before_kept (suc n) l (l ∷ before) ls r.0 q.0 (inl refl) in
          let i = (begins_in l before (of_true (begins l before) e)).0 in
          never r.0 (inr q.0) q.1 (first_repeats r.0.line l r.0.before q.1 k i (sym r.2))),
      d,
    )

pub begins_block_lem : (type : Text) (h : Context) → T (begins_block type h) → T (begins_at h) × T (same (text h.line 4) type)
unfolding begins_block
begins_block_lem type h t = both (begins h.line h.before) (same (text h.line 4) type) t

-- where an event of a type comes from
pub event_from : (type : Text) (hs : List Context) (e : Event) → In e (events_of type hs) → (h : Context) × In h hs × T (begins_block type h) × (e ≡ event_of h.line)
unfolding events_of
event_from type hs e m =
    let r = in_map event_at e (those (begins_block type) hs) m in
    let q = in_those (begins_block type) r.0 hs r.1 in
    (r.0, q.0, q.1, r.2)

-- Lots in one block count once.
pub lots_once : LotsOnce
unfolding begins_block begins
lots_once type h e = go (is_in_block h.line) (joins h.line (nearest_of (open_after h.before))) (same (text h.line 4) type) e
  where
    go : (i j t : Bool) → (i && j) ≡ true → (i && not j && t) ≡ false
    go true true t e = refl
    go true false t e = clash (cc)
    go false j t e = clash (cc)

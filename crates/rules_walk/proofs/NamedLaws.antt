-- Rule 15 by the first II lines alone: an earlier block names the event exactly if a first II line that starts before the block does.
-- Assumes nothing.
use mathlib.Core.Path.{◌≡◌, refl, sym, ap, ◌∙◌, subst}
use mathlib.Core.Logic.{◌⊎◌, inl, inr, ⊎_elim}
use mathlib.Core.Bool.{Bool, true, false, not, cond, ◌&&◌, ◌||◌, or-false}
use mathlib.Core.List.{List, [], ◌∷◌}
use Prim.Native.Nat.{ℕ, ◌≤◌}
use native.Mathlib.Omega.{arith}
use borrow.Author.Tests.{ne_eqb}
use lib.Dec.{T, ltb, eqb→eq}
use lib.ListN.{length, drop}
use Rattle.house.specs.Text.{Text, any, all, same, is_graphic}
use Rattle.house.specs.Members.{In}
use Rattle.house.proofs.Small.{clash}
use Rattle.house.proofs.Facts.{both, both_of, either, left_of, right_of, of_true, bool_ext}
use Rattle.house.proofs.Members.{any_in}
use Rattle.house.proofs.Decisions.{same_is, is_same_t}
use Rattle.house.proofs.Padding.{key_one}
use Rattle.lines_fields.specs.Lines.{field_of, fields_of}
use Rattle.lines_fields.specs.Marks.{judged_of}
use Rattle.lines_fields.proofs.MarkLaws.{judged_nil}
use Rattle.lines.specs.Records.{Rec, II, IE, is_kind, rec_of, recs}
use Rattle.lines_places.specs.Events as events
use Rattle.lines_places.specs.Events.{event_at}
use Rattle.ledger.specs.Ledger.{Event}
use Rattle.rules_definitions.specs.Forms.{field_in, text}
use Rattle.rules_definitions.specs.Contexts.{no_rec}
use Rattle.rules_definitions.specs.Blocks.{is_in_block, event_of, same_event, joins, nearest_of, block_in, open_after, joins_open, begins, before_open, before_block, is_repeated}
use Rattle.rules_definitions.proofs.EventLaws.{named, uli_length, date_length, code_says}
use Rattle.rules_walk.specs.Firsts.{start_after, named_before}
use Rattle.rules_walk.specs.Inside.{rec_at, Passed, firsts_in}
use Rattle.rules_walk.proofs.PassLaws.{firsts_split, firsts_after_lem, firsts_ahead}

-- 1. The fields that name an event

module _ (l : Rec) (b : T (is_in_block l)) where
  pub uli_wide : length (text l 3) ≡ 9
  uli_wide = uli_length l (named l b)

  pub date_wide : length (text l 6) ≡ 8
  date_wide = date_length l (named l b)

  pub code_wide : (1 ≤ length (text l 8)) × (length (text l 8) ≤ 20) × T (all is_graphic (text l 8))
  code_wide = code_says l (named l b)

  pub is_ii : l.kind ≡ II
  is_ii = eqb→eq l.kind II (named l b).kind_is

  pub not_ie : is_kind IE l ≡ false
  not_ie = ne_eqb l.kind IE (λ e. let q : ◌≡◌ {A = ℕ} 4 5 = sym is_ii ∙ e in omega arith)

-- two lines name one event: by their fields, and by its key
event_fields : (l p : Rec) → T (same_event l p) → (text l 3 ≡ text p 3) × (text l 6 ≡ text p 6) × (text l 8 ≡ text p 8)
unfolding same_event
event_fields l p t =
    let a = both (same (text l 3) (text p 3)) (same (text l 6) (text p 6) && same (text l 8) (text p 8)) t in
    let b = both (same (text l 6) (text p 6)) (same (text l 8) (text p 8)) a.1 in
    (same_is (text l 3) (text p 3) a.0, same_is (text l 6) (text p 6) b.0, same_is (text l 8) (text p 8) b.1)

fields_event : (l p : Rec) → text l 3 ≡ text p 3 → text l 6 ≡ text p 6 → text l 8 ≡ text p 8 → T (same_event l p)
unfolding same_event
fields_event l p u d c =
    both_of (same (text l 3) (text p 3)) (same (text l 6) (text p 6) && same (text l 8) (text p 8)) (is_same_t (text l 3) (text p 3) u)
    (both_of (same (text l 6) (text p 6)) (same (text l 8) (text p 8)) (is_same_t (text l 6) (text p 6) d) (is_same_t (text l 8) (text p 8) c))

pub event_key_lem : (l p : Rec) → T (same_event l p) → event_of l ≡ event_of p
unfolding event_of
event_key_lem l p t = let e = event_fields l p t in rw (e.0, e.1, e.2)

pub key_event : (l p : Rec) → T (is_in_block l) → T (is_in_block p) → event_of l ≡ event_of p → T (same_event l p)
unfolding event_of
key_event l p b c e =
    let v = code_wide l b in
    let z = code_wide p c in
    let r = key_one (text l 3) (text l 6) (text l 8) (text p 3) (text p 6) (text p 8) (uli_wide l b) (uli_wide p c) (date_wide l b) (date_wide p c) v.2 z.2 v.1 z.1 e in
    fields_event l p r.0 r.1 r.2

pub joins_event : (l p : Rec) → T (joins l p) → T (same_event l p)
unfolding joins
joins_event l p t = (both (same (text l 4) (text p 4)) (same_event l p) t).1

-- the key of the line at a position
pub key_at_lem : (f : Text) (p : ℕ) → event_at f p ≡ event_of (rec_at f p)
unfolding event_at rec_at event_of events.event_of rec_of judged_of field_of field_in
key_at_lem f p = refl

-- 2. The block that is open

-- a line that is not there is in no block, and no line in a block joins it
no_fields : length (text no_rec 3) ≡ 0
unfolding no_rec rec_of field_in fields_of
no_fields = ap length judged_nil

pub none_in : T (is_in_block no_rec) → ⊥
none_in b = omega (arith, uli_wide no_rec b, no_fields)

none_joins : (l : Rec) → T (is_in_block l) → T (joins l no_rec) → ⊥
none_joins l b t = let e : length (text l 3) ≡ length (text no_rec 3) = ap length (event_fields l no_rec (joins_event l no_rec t)).0 in omega (arith, uli_wide l b, no_fields)

-- the nearest II of the open block stands among the lines and is in a block; or there is none
nearest_in : (before : List Rec) → (nearest_of (open_after before) ≡ no_rec) ⊎ (In (nearest_of (open_after before)) before × T (is_in_block (nearest_of (open_after before))))
nearest_in [] = inl refl
nearest_in (l ∷ before) = go (is_kind IE l) (is_in_block l) refl (nearest_in before)
  where
    Is : List Rec → List Rec → Type 0
    Is opened bs = (nearest_of opened ≡ no_rec) ⊎ (In (nearest_of opened) bs × T (is_in_block (nearest_of opened)))

    rest : List Rec
    rest = block_in l (open_after before)

    go : (x y : Bool) → is_in_block l ≡ y → Is (open_after before) before → Is (cond x (open_after before) (cond y (l ∷ rest) [])) (l ∷ before)
    go true y e r = ⊎_elim (λ q. inl q) (λ q. inr (inr q.0, q.1)) r
    go false true e r = inr (inl refl, of_true (is_in_block l) e)
    go false false e r = inl refl

-- a line in a block that does not begin one joins an earlier line of a block
pub joined_earlier : (l : Rec) (before : List Rec) → T (is_in_block l) → begins l before ≡ false → T (joins l (nearest_of (open_after before)))
unfolding begins
joined_earlier l before b e = go (is_in_block l) (joins l (nearest_of (open_after before))) b e
  where
    go : (x y : Bool) → T x → (x && not y) ≡ false → T y
    go true true t e = tt
    go true false t e = clash (cc)
    go false y t e = absurd t

pub joined_in : (l : Rec) (before : List Rec) → T (is_in_block l) → T (joins l (nearest_of (open_after before))) → In (nearest_of (open_after before)) before × T (is_in_block (nearest_of (open_after before)))
joined_in l before b t = ⊎_elim (λ q. absurd (none_joins l b (subst (λ (p : Rec). T (joins l p)) q t))) (λ q. q) (nearest_in before)

pub begun : (l : Rec) (before : List Rec) → begins l before ≡ true → T (is_in_block l)
unfolding begins
begun l before e = (both (is_in_block l) (not (joins l (nearest_of (open_after before)))) (of_true _ e)).0

-- 3. An II of the event stands among lines exactly if a first II does

abbrev names : Rec → Rec → Bool
names l p = is_in_block p && same_event l p

abbrev hits : Text → Event → ℕ → Bool
hits f e p = same (event_at f p) e

same_both : (l p q : Rec) → T (same_event l p) → T (same_event p q) → T (same_event l q)
same_both l p q t u = let a = event_fields l p t in let b = event_fields p q u in fields_event l q (a.0 ∙ b.0) (a.1 ∙ b.1) (a.2 ∙ b.2)

module _ (f : Text) (l : Rec) where
  -- the line at hand
  pub at_hand : (p : Rec) (bs : List Rec) → Passed f (p ∷ bs) → event_at f (start_after f bs) ≡ event_of p
  at_hand p bs c = key_at_lem f (start_after f bs) ∙ ap event_of (sym c.1)

  earlier : (p : Rec) (bs : List Rec) → T (names l p) → begins p bs ≡ false → T (any (names l) bs)
  earlier p bs t e =
      let n = both (is_in_block p) (same_event l p) t in
      let j = joined_earlier p bs n.0 e in
      let r = joined_in p bs n.0 j in
      let q = nearest_of (open_after bs) in
      any_in (names l) q bs r.0 (both_of (is_in_block q) (same_event l q) r.1 (same_both l p q n.1 (joins_event p q j)))

  named_there : (bs : List Rec) → Passed f bs → T (any (names l) bs) → T (any (hits f (event_of l)) (firsts_in f bs))
  named_there [] c t = t
  named_there (p ∷ bs) c t = go (begins p bs) refl (named_there bs c.2) (either (names l p) (any (names l) bs) t)
    where
      here : T (names l p) → T (hits f (event_of l) (start_after f bs))
      here n = is_same_t (event_at f (start_after f bs)) (event_of l) (at_hand p bs c ∙ sym (event_key_lem l p (both (is_in_block p) (same_event l p) n).1))

      go : (y : Bool) → begins p bs ≡ y → (T (any (names l) bs) → T (any (hits f (event_of l)) (firsts_in f bs))) → T (names l p) ⊎ T (any (names l) bs)
          → T (any (hits f (event_of l)) (cond y (start_after f bs ∷ firsts_in f bs) (firsts_in f bs)))
      go true e rec (inl n) = left_of (hits f (event_of l) (start_after f bs)) (any (hits f (event_of l)) (firsts_in f bs)) (here n)
      go true e rec (inr m) = right_of (hits f (event_of l) (start_after f bs)) (any (hits f (event_of l)) (firsts_in f bs)) (rec m)
      go false e rec (inl n) = rec (earlier p bs n e)
      go false e rec (inr m) = rec m

  module _ (b : T (is_in_block l)) where
    named_back : (bs : List Rec) → Passed f bs → T (any (hits f (event_of l)) (firsts_in f bs)) → T (any (names l) bs)
    named_back [] c t = t
    named_back (p ∷ bs) c t = go (begins p bs) refl (named_back bs c.2) t
      where
        here : begins p bs ≡ true → T (hits f (event_of l) (start_after f bs)) → T (names l p)
        here e h =
            let i = begun p bs e in
            both_of (is_in_block p) (same_event l p) i (key_event l p b i (sym (same_is (event_at f (start_after f bs)) (event_of l) h) ∙ at_hand p bs c))

        go : (y : Bool) → begins p bs ≡ y → (T (any (hits f (event_of l)) (firsts_in f bs)) → T (any (names l) bs)) → T (any (hits f (event_of l)) (cond y (start_after f bs ∷ firsts_in f bs) (firsts_in f bs)))
            → T (any (names l) (p ∷ bs))
        go true e rec h =
            ⊎_elim (λ k. left_of (names l p) (any (names l) bs) (here e k)) (λ k. right_of (names l p) (any (names l) bs) (rec k))
            (either (hits f (event_of l) (start_after f bs)) (any (hits f (event_of l)) (firsts_in f bs)) h)
        go false e rec h = right_of (names l p) (any (names l) bs) (rec h)

    -- an II in a block of the event stands among lines exactly if a first II does
    pub named_firsts : (bs : List Rec) → Passed f bs → any (λ (p : Rec). is_in_block p && same_event l p) bs ≡ any (λ (p : ℕ). same (event_at f p) (event_of l)) (firsts_in f bs)
    named_firsts bs c = bool_ext (any (names l) bs) (any (hits f (event_of l)) (firsts_in f bs)) (named_there bs c) (named_back bs c)

-- of all the first II lines, those that start before the line at hand are those after
pub named_after : (f : Text) (e : Event) (bs : List Rec) → Passed f bs → named_before f (start_after f bs) e ≡ any (λ (p : ℕ). same (event_at f p) e) (firsts_in f bs)
unfolding named_before
named_after f e bs c =
    let b = start_after f bs in
    firsts_split f (λ (p : ℕ). ltb p b && same (event_at f p) e) bs c
    ∙ ap (λ (x : Bool). any (λ (p : ℕ). ltb p b && same (event_at f p) e) (firsts_in f bs) || x) (firsts_ahead f (λ (p : ℕ). same (event_at f p) e) b (recs (drop b f)) bs (omega arith))
    ∙ or-false (any (λ (p : ℕ). ltb p b && same (event_at f p) e) (firsts_in f bs))
    ∙ firsts_after_lem f (λ (p : ℕ). same (event_at f p) e) b bs c (omega arith)

-- 4. Rule 15

passed_open : (f : Text) (before : List Rec) → Passed f before → Passed f (before_open before)
passed_open f [] c = tt
passed_open f (l ∷ before) c = go (is_kind IE l || joins_open l before) (passed_open f before c.2)
  where
    go : (b : Bool) → Passed f (before_open before) → Passed f (cond b (before_open before) before)
    go true r = r
    go false r = c.2

pub passed_block : (f : Text) (l : Rec) (before : List Rec) → Passed f before → Passed f (before_block l before)
unfolding before_block
passed_block f l before c = go (joins_open l before)
  where
    go : (b : Bool) → Passed f (cond b (before_open before) before)
    go true = passed_open f before c
    go false = c

-- an earlier block names the line's event exactly if a first II line that starts before the line's block does
pub rule15_named : (f : Text) (l : Rec) (before : List Rec) → Passed f before
    → is_repeated l before ≡ (is_in_block l && named_before f (start_after f (before_block l before)) (event_of l))
unfolding is_repeated
rule15_named f l before c = go (is_in_block l) refl
  where
    go : (b : Bool) → is_in_block l ≡ b
        → (b && any (λ (p : Rec). is_in_block p && same_event l p) (before_block l before)) ≡ (b && named_before f (start_after f (before_block l before)) (event_of l))
    go true e =
        named_firsts f l (of_true (is_in_block l) e) (before_block l before) (passed_block f l before c)
        ∙ sym (named_after f (event_of l) (before_block l before) (passed_block f l before c))
    go false e = refl

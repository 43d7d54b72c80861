-- Where the events of the index ascend, no block names an event that an earlier one names.
-- Assumes nothing.
use mathlib.Core.Path.{◌≡◌, refl, sym, ap, ◌∙◌, subst}
use mathlib.Core.Logic.{◌⊎◌, inl, inr}
use mathlib.Core.Bool.{Bool, true, false, cond, ◌&&◌, ◌||◌}
use mathlib.Core.List.{List, [], ◌∷◌}
use Prim.Native.Nat.{ℕ, ◌<◌}
use native.Mathlib.Omega.{arith}
use borrow.Author.Tests.{ltb-true}
use lib.Dec.{T, eqb, ltb, eqb→eq, eqb_refl}
use lib.ListN.{length, get_or, drop}
use Rattle.house.specs.Text.{Text, any, same}
use Rattle.house.specs.Members.{In}
use Rattle.house.proofs.Small.{clash}
use Rattle.house.proofs.Facts.{both, either, left_of, right_of, is_true, of_true}
use Rattle.house.proofs.Decisions.{same_is, below_irrefl}
use Rattle.lines.specs.Records.{Rec, IE, is_kind, recs}
use Rattle.lines_places.specs.Events.{event_at, events_at, ascends}
use Rattle.lines_places.specs.Inside.{Lt, Asc}
use Rattle.lines_places.proofs.Order.{all_at}
use Rattle.lines_places.proofs.SortedLaws.{ascends_asc}
use Rattle.rules_definitions.specs.Contexts.{Context, contexts_in}
use Rattle.rules_definitions.specs.Blocks.{is_in_block, event_of, joins, nearest_of, block_in, open_after, begins, before_open, before_block, is_repeated}
use Rattle.rules_walk.specs.Firsts.{start_after, index_of, named_before}
use Rattle.rules_walk.specs.Inside.{Passed, firsts_from, firsts_in}
use Rattle.rules_walk.proofs.PassLaws.{place_passed, firsts_split}
use Rattle.rules_walk.proofs.NamedLaws.{not_ie, none_in, event_key_lem, joins_event, at_hand, joined_in, rule15_named}
use Rattle.rules_walk.proofs.IndexLaws.{any_at, index_any}

-- of a list whose keys ascend strictly, no element before b has b's key
module _ (key : ℕ → Text) (b : ℕ) where
  abbrev earlier : ℕ → Bool
  earlier p = ltb p b && same (key p) (key b)

  earlier_says : (p : ℕ) → T (earlier p) → (p < b) × (key p ≡ key b)
  earlier_says p t =
      let r = both (ltb p b) (same (key p) (key b)) t in
      (ltb-true p b (is_true (ltb p b) r.0), same_is (key p) (key b) r.1)

  none_earlier : (xs : List ℕ) → Asc key xs → T (any (λ (p : ℕ). eqb p b) xs) → T (any earlier xs) → ⊥
  none_earlier [] a t u = t
  none_earlier (x ∷ xs) a t u = go (none_earlier xs a.1) (either (eqb x b) (any (λ (p : ℕ). eqb p b) xs) t) (either (earlier x) (any earlier xs) u)
    where
      above : (j : ℕ) → j < length xs → key (get_or xs j 0) ≡ key x → ⊥
      above j h e = below_irrefl (key x) (subst (Lt (key x)) e (all_at (λ (y : ℕ). Lt (key x) (key y)) 0 j xs a.0 h))

      go : (T (any (λ (p : ℕ). eqb p b) xs) → T (any earlier xs) → ⊥) → T (eqb x b) ⊎ T (any (λ (p : ℕ). eqb p b) xs) → T (earlier x) ⊎ T (any earlier xs) → ⊥
      go rec (inl i) (inl k) = let h : x < b = (earlier_says x k).0 in omega (arith, eqb→eq x b i)
      go rec (inl i) (inr k) =
          let r = any_at earlier xs k in
          above r.0 r.1 ((earlier_says (get_or xs r.0 0) r.2).1 ∙ ap key (sym (eqb→eq x b i)))
      go rec (inr i) (inl k) =
          let r = any_at (λ (p : ℕ). eqb p b) xs i in
          above r.0 r.1 (ap key (eqb→eq (get_or xs r.0 0) b r.2) ∙ sym (earlier_says x k).1)
      go rec (inr i) (inr k) = rec i k

-- the block that is open starts with a first II, of the block's event
module _ (f : Text) where
  abbrev pub Opens : List Rec → ℕ → Rec → Type 0
  Opens before b l = T (any (λ (p : ℕ). eqb p b) (firsts_in f before)) × (event_at f b ≡ event_of l)

  opens_more : (l m : Rec) (before : List Rec) (b : ℕ) → Opens before b m → Opens (l ∷ before) b m
  opens_more l m before b o = (go (begins l before), o.1)
    where
      go : (c : Bool) → T (any (λ (p : ℕ). eqb p b) (cond c (start_after f before ∷ firsts_in f before) (firsts_in f before)))
      go true = right_of (eqb (start_after f before) b) (any (λ (p : ℕ). eqb p b) (firsts_in f before)) o.0
      go false = o.0

  opens_first : (l : Rec) (before : List Rec) → Passed f (l ∷ before) → T (is_in_block l) → joins l (nearest_of (open_after before)) ≡ false → Opens (l ∷ before) (start_after f before) l
  unfolding begins
  opens_first l before c i e =
      (rw (is_true (is_in_block l) i, e) (left_of (eqb (start_after f before) (start_after f before)) (any (λ (p : ℕ). eqb p (start_after f before)) (firsts_in f before)) (eqb_refl (start_after f before))), at_hand f l l before c)

  block_opens : (before : List Rec) → Passed f before → T (is_in_block (nearest_of (open_after before))) → Opens before (start_after f (before_open before)) (nearest_of (open_after before))
  block_opens [] c t = absurd (none_in t)
  block_opens (l ∷ before) c t = go (is_kind IE l) (is_in_block l) refl (joins l (nearest_of (open_after before))) refl t (block_opens before c.2)
    where
      go : (x y : Bool) → is_in_block l ≡ y → (z : Bool) → joins l (nearest_of (open_after before)) ≡ z
          → T (is_in_block (nearest_of (cond x (open_after before) (cond y (l ∷ block_in l (open_after before)) []))))
          → (T (is_in_block (nearest_of (open_after before))) → Opens before (start_after f (before_open before)) (nearest_of (open_after before)))
          → Opens (l ∷ before) (start_after f (cond (x || (y && z)) (before_open before) before)) (nearest_of (cond x (open_after before) (cond y (l ∷ block_in l (open_after before)) [])))
      go true y e z j u rec = opens_more l (nearest_of (open_after before)) before (start_after f (before_open before)) (rec u)
      go false true e true j u rec =
          let i = of_true (is_in_block l) e in
          let k = of_true (joins l (nearest_of (open_after before))) j in
          let r = opens_more l (nearest_of (open_after before)) before (start_after f (before_open before)) (rec (joined_in l before i k).1) in
          (r.0, r.1 ∙ sym (event_key_lem l (nearest_of (open_after before)) (joins_event l (nearest_of (open_after before)) k)))
      go false true e false j u rec = opens_first l before c (of_true (is_in_block l) e) j
      go false false e z j u rec = absurd (none_in u)

  -- so does a line's own
  pub line_opens : (l : Rec) (before : List Rec) → Passed f (l ∷ before) → is_in_block l ≡ true → Opens (l ∷ before) (start_after f (before_block l before)) l
  unfolding before_block
  line_opens l before c e = go (is_kind IE l) (not_ie l i) (is_in_block l) e (block_opens (l ∷ before) c)
    where
      i : T (is_in_block l)
      i = of_true (is_in_block l) e

      go : (x : Bool) → x ≡ false → (y : Bool) → y ≡ true
          → (T (is_in_block (nearest_of (cond x (open_after before) (cond y (l ∷ block_in l (open_after before)) []))))
          → Opens (l ∷ before) (start_after f (cond (x || (y && joins l (nearest_of (open_after before)))) (before_open before) before))
          (nearest_of (cond x (open_after before) (cond y (l ∷ block_in l (open_after before)) []))))
          → Opens (l ∷ before) (start_after f (cond (y && joins l (nearest_of (open_after before))) (before_open before) before)) l
      go true p y q o = clash (cc)
      go false p true q o = o i
      go false p false q o = clash (cc)

  pub first_there : (before : List Rec) → Passed f before → (b : ℕ) → T (any (λ (p : ℕ). eqb p b) (firsts_in f before)) → T (any (λ (p : ℕ). eqb p b) (index_of f))
  first_there before c b t =
      rw (index_any f (λ (p : ℕ). eqb p b), firsts_split f (λ (p : ℕ). eqb p b) before c)
      (left_of (any (λ (p : ℕ). eqb p b) (firsts_in f before)) (any (λ (p : ℕ). eqb p b) (firsts_from f before (recs (drop (start_after f before) f)))) t)

  module _ (once : ascends (events_at f (index_of f)) ≡ true) where
    -- no first II line before a block names its event
    unnamed : (b : ℕ) → T (any (λ (p : ℕ). eqb p b) (index_of f)) → T (named_before f b (event_at f b)) → ⊥
    unfolding named_before events_at
    unnamed b t u =
        none_earlier (event_at f) b (index_of f) (ascends_asc (event_at f) (index_of f) once) t
        (rw (index_any f (λ (p : ℕ). ltb p b && same (event_at f p) (event_at f b))) u)

    pub once_new : (l : Rec) (before : List Rec) → Passed f (l ∷ before) → is_repeated l before ≡ false
    once_new l before c = rule15_named f l before c.2 ∙ go (is_in_block l) refl (named_before f (start_after f (before_block l before)) (event_of l)) refl
      where
        go : (x : Bool) → is_in_block l ≡ x → (y : Bool) → named_before f (start_after f (before_block l before)) (event_of l) ≡ y → (x && y) ≡ false
        go false e y q = refl
        go true e false q = refl
        go true e true q =
            let o = line_opens l before c e in
            absurd
            (unnamed (start_after f (before_block l before)) (first_there (l ∷ before) c (start_after f (before_block l before)) o.0)
            (of_true (named_before f (start_after f (before_block l before)) (event_at f (start_after f (before_block l before)))) (ap (named_before f (start_after f (before_block l before))) o.1 ∙ q)))

    -- no line of the file is repeated
    pub once_clean : (h : Context) → In h (contexts_in f) → is_repeated h.line h.before ≡ false
    once_clean h m = once_new h.line h.before (place_passed f h m)

-- What a file without findings says of the events that its blocks name: each named once, and as the ledger lent asks.
-- Assumes nothing.
use Prim.Native.Nat.{ℕ, ◌≤◌}
use native.Mathlib.Omega.{arith}
use mathlib.Core.Path.{◌≡◌, refl, sym, ap, ◌∙◌, subst}
use mathlib.Core.Bool.{Bool, true, false, not, ◌&&◌}
use mathlib.Core.List.{List, [], ◌∷◌, map}
use lib.ListN.{length, get_or, get_or-eq_default}
use lib.Dec.{T, eqb, leb, eqb→eq}
use borrow.Author.Tests.{leb-true, leb-false}
use Rattle.house.specs.Text.{Text, same, any, those, is_empty}
use Rattle.house.specs.Members.{In, Distinct}
use Rattle.house.proofs.Facts.{both_of, left_of, of_true}
use Rattle.house.proofs.Members.{distinct_fewer, same_one}
use Rattle.house.proofs.Decisions.{same_is}
use Rattle.lines.specs.Records.{II, recs}
use Rattle.ledger.specs.Ledger.{Event, event_form}
use Rattle.lines.specs.Marks.{judged_text}
use Rattle.lines.proofs.MarkLaws.{judged_nil}
use Rattle.rules_definitions.specs.Forms.{field_in, text, table}
use Rattle.rules_definitions.specs.Contexts.{Context, contexts_of, contexts_in}
use Rattle.rules_definitions.specs.Blocks.{is_in_block, event_of, is_repeated, begins_block, events_of, adds, changes, deletes}
use Rattle.rules_definitions.specs.Seen.{Setting, seen_at}
use Rattle.rules_definitions.specs.Rules.{Numbered, rules, rules_in, rules_of, rules_at, is_broken, asks, rule15, rule16, rule17, rule18}
use Rattle.rules_definitions.specs.Findings.{Finding, findings_of}
use Rattle.rules_definitions.specs.Claims.{CleanFile}
use Rattle.rules_definitions.proofs.FindingLaws.{findings_listed}
use Rattle.rules_definitions.proofs.EventLaws.{Named, named, event_formed}
use Rattle.rules_definitions.proofs.BlockLaws.{event_at, begins_at, begins_in, once_from, begins_block_lem, event_from}

-- What no finding means

-- a field that is not empty is there
there : (fs : List Text) (f : ℕ) → T (not (is_empty (field_in fs f))) → f ≤ length fs
unfolding field_in
there fs f h = go (leb f (length fs)) refl
  where
    go : (t : Bool) → leb f (length fs) ≡ t → f ≤ length fs
    go true e = leb-true f (length fs) e
    go false e =
        let l : length ([] ∷ fs) ≤ f = omega (arith, leb-false f (length fs) e) in
        let n : judged_text (get_or ([] ∷ fs) f []) ≡ [] = ap judged_text (get_or-eq_default ([] ∷ fs) [] l) ∙ judged_nil in
        absurd (subst (λ (x : Text). T (not (is_empty x))) n h)

module _ (s : Setting) (file : Text) (clean : findings_of s file ≡ []) where
  unbroken : (h : Context) (f r : ℕ) → In h (contexts_in file) → 1 ≤ f → f ≤ length h.line.fields → T (is_broken s (seen_at s h) f r) → ⊥
  unbroken h f r m lo hi t =
      subst (λ (xs : List Finding). In (record { line = h.number; field = f; rule = r }) xs) clean
      ((findings_listed s file).every (record { line = h.number; field = f; rule = r })
      (record { at = h; there = m; line_is = refl; from = lo; upto = hi; broken = t }))

  module _ (h : Context) (m : In h (contexts_in file)) (b : Named h.line) where
    -- it is an II: the rules at a field of it are those at the field of an II
    broken_here : (f r : ℕ) → T (any (λ (x : Numbered). eqb x.number r && x.broken s (seen_at s h) f) (rules_at s II f)) → T (is_broken s (seen_at s h) f r)
    unfolding is_broken seen_at
    broken_here f r t =
        subst (λ (k : ℕ). T (any (λ (x : Numbered). eqb x.number r && x.broken s (seen_at s h) f) (rules_at s k f))) (sym (eqb→eq h.line.kind II b.kind_is)) t

    not_15 : T (rule15 s (seen_at s h) 8) → ⊥
    unfolding rules_at rules_of rules_in rules table
    not_15 t =
        unbroken h 8 15 m (omega arith) (there h.line.fields 8 b.code_given) (broken_here 8 15 (left_of (rule15 s (seen_at s h) 8) false t))

    not_16 : T (rule16 s (seen_at s h) 4) → ⊥
    unfolding rules_at rules_of rules_in rules table
    not_16 t =
        unbroken h 4 16 m (omega arith) (there h.line.fields 4 b.type_given) (broken_here 4 16 (left_of (rule16 s (seen_at s h) 4) false t))

    not_17 : T (rule17 s (seen_at s h) 4) → ⊥
    unfolding rules_at rules_of rules_in rules table
    not_17 t =
        unbroken h 4 17 m (omega arith) (there h.line.fields 4 b.type_given) (broken_here 4 17 (left_of (rule17 s (seen_at s h) 4) false t))

    not_18 : T (rule18 s (seen_at s h) 4) → ⊥
    unfolding rules_at rules_of rules_in rules table
    not_18 t =
        unbroken h 4 18 m (omega arith) (there h.line.fields 4 b.type_given) (broken_here 4 18 (left_of (rule18 s (seen_at s h) 4) false t))

-- The law of a file without findings

module _ (s : Setting) (file : Text) (clean : findings_of s file ≡ []) where
  hs : List Context
  hs = contexts_in file

  first_named : (h : Context) → T (begins_at h) → Named h.line
  first_named h t = named h.line (begins_in h.line h.before t).0

  never_repeats : (h : Context) → In h (contexts_in file) → T (begins_at h) → T (is_repeated h.line h.before) → ⊥
  unfolding rule15 seen_at
  never_repeats h m t r = not_15 s file clean h m (first_named h t) r

  once : Distinct (map event_at (those begins_at hs))
  unfolding hs contexts_in contexts_of
  once = once_from 1 [] (recs file) never_repeats

  once_of : (type : Text) → Distinct (events_of type hs)
  unfolding events_of
  once_of type = distinct_fewer event_at begins_at (begins_block type) (λ h t. (begins_block_lem type h t).0) hs once

  -- no event is named for two things
  for_one : (type other : Text) → (type ≡ other → ⊥) → (e : Event) → In e (events_of type hs) → In e (events_of other hs) → ⊥
  for_one type other ne e m k =
      let p = event_from type hs e m in
      let q = event_from other hs e k in
      let b = begins_block_lem type p.0 p.2 in
      let c = begins_block_lem other q.0 q.2 in
      let i : p.0 ≡ q.0 = same_one event_at begins_at p.0 q.0 hs once p.1 q.1 b.0 c.0 (sym p.3 ∙ q.3) in
      ne
      (sym (same_is (text p.0.line 4) type b.1) ∙ ap (λ (h : Context). text h.line 4) i ∙ same_is (text q.0.line 4) other c.1)

  asks_it : (type : Text) (h : Context) → T (begins_block type h) → T (asks (seen_at s h) type)
  unfolding asks seen_at
  asks_it type h t =
      let p = begins_block_lem type h t in
      let i = (begins_in h.line h.before p.0).0 in
      both_of (is_in_block h.line) (same (text h.line 4) type) i p.1

  -- the first II's event is live, or it is not, as its type asks
  live_or : (h : Context) → (b : Bool) → s.live (event_of h.line) ≡ b → (T (not (s.live (event_of h.line))) → ⊥) → T (s.live (event_of h.line))
  live_or h true e n = of_true (s.live (event_of h.line)) e
  live_or h false e n = absurd (n (subst (λ (b : Bool). T (not b)) (sym e) tt))

  add_new : (h : Context) → In h hs → T (begins_block adds h) → T (s.live (event_of h.line)) → ⊥
  unfolding rule16 seen_at hs
  add_new h m t l =
      not_16 s file clean h m (first_named h (begins_block_lem adds h t).0)
      (both_of (asks (seen_at s h) adds) (s.live (event_of h.line)) (asks_it adds h t) l)

  change_live : (h : Context) → In h hs → T (begins_block changes h) → T (s.live (event_of h.line))
  unfolding rule17 seen_at hs
  change_live h m t =
      live_or h (s.live (event_of h.line)) refl
      (λ n.
      not_17 s file clean h m (first_named h (begins_block_lem changes h t).0)
      (both_of (asks (seen_at s h) changes) (not (s.live (event_of h.line))) (asks_it changes h t) n))

  delete_live : (h : Context) → In h hs → T (begins_block deletes h) → T (s.live (event_of h.line))
  unfolding rule18 seen_at hs
  delete_live h m t =
      live_or h (s.live (event_of h.line)) refl
      (λ n.
      not_18 s file clean h m (first_named h (begins_block_lem deletes h t).0)
      (both_of (asks (seen_at s h) deletes) (not (s.live (event_of h.line))) (asks_it deletes h t) n))

  from_live : (type : Text) → ((h : Context) → In h hs → T (begins_block type h) → T (s.live (event_of h.line))) → (e : Event) → In e (events_of type hs) → T (s.live e)
  from_live type law e m =
      let r = event_from type hs e m in
      subst (λ (x : Event). T (s.live x)) (sym r.3) (law r.0 r.1 r.2)

abbrev is_change : Text → Bool
is_change t = eqb (get_or t 0 0) 67

pub clean_file : CleanFile
unfolding hs
clean_file s file clean =
    record {
      adds_once = once_of s file clean adds;
      changes_once = once_of s file clean changes;
      deletes_once = once_of s file clean deletes;
      change_or_add = for_one s file clean changes adds (λ e. subst T (ap is_change e) tt);
      change_or_delete = for_one s file clean changes deletes (λ e. subst T (ap is_change e) tt);
      adds_new =
          λ e m k.
          let r = event_from adds (contexts_in file) e m in
          add_new s file clean r.0 r.1 r.2 (subst (λ (x : Event). T (s.live x)) r.3 k);
      changes_live = from_live s file clean changes (change_live s file clean);
      deletes_live = from_live s file clean deletes (delete_live s file clean);
      adds_formed =
          λ e m.
          let r = event_from adds (contexts_in file) e m in
          subst (λ (x : Event). T (event_form x) × (length x ≡ 37)) (sym r.3)
          (event_formed r.0.line (first_named s file clean r.0 (begins_block_lem adds r.0 r.2).0));
    }

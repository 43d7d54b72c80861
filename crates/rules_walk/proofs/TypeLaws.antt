-- The blocks of one type: the events of their places in the index are the definition's events of that type, in order.
-- Assumes nothing.
use mathlib.Core.Path.{◌≡◌, refl, sym, ap, ap₂, ◌∙◌, subst}
use mathlib.Core.Bool.{Bool, true, false, cond, ◌&&◌, ◌||◌}
use mathlib.Core.List.{List, [], ◌∷◌, map}
use Prim.Native.Nat.{ℕ, suc}
use native.Mathlib.Nat.{add-zero}
use lib.ListN.{length, drop, length-map}
use Rattle.house.specs.Text.{Text, any, those, same}
use Rattle.house.specs.Members.{Distinct}
use Rattle.lines_fields.specs.Lines.{field_of, lines_len}
use Rattle.lines_fields.specs.Marks.{judged_of}
use Rattle.lines.specs.Records.{Rec, rec_of, recs}
use Rattle.lines_places.specs.Events.{event_at, events_at, ascends}
use Rattle.lines_places.specs.Sorted.{place}
use Rattle.lines_places.proofs.Order.{length_place}
use Rattle.lines_places.proofs.SortedLaws.{asc_ascends, asc_sorted, those_sorted, keys_placed}
use Rattle.ledger.specs.Ledger.{Event, is_among, events_after}
use Rattle.ledger.proofs.UpdateLaws.{after_sorted}
use Rattle.rules_definitions.specs.Forms.{field_in, text}
use Rattle.rules_definitions.specs.Contexts.{Context, contexts_from, contexts_of, contexts_in}
use Rattle.rules_definitions.specs.Blocks.{event_of, begins, begins_block, events_of}
use Rattle.rules_walk.specs.Firsts.{start_after, is_first, start_of, firsts_of, index_of, is_typed, part_of}
use Rattle.rules_walk.specs.Inside.{rec_at}
use Rattle.rules_walk.proofs.PassLaws.{ahead_first, ahead_rest}
use Rattle.rules_walk.proofs.NamedLaws.{key_at_lem}
use Rattle.rules_walk.proofs.IndexLaws.{any_sorted}

any_map : (g : ℕ → Text) (q : Text → Bool) (ps : List ℕ) → any q (map g ps) ≡ any (λ (p : ℕ). q (g p)) ps
any_map g q [] = refl
any_map g q (p ∷ ps) = ap (λ (b : Bool). q (g p) || b) (any_map g q ps)

typed_at : (f : Text) (type p : ℕ) → is_typed f type p ≡ same (text (rec_at f p) 4) (type ∷ [])
unfolding is_typed rec_at rec_of judged_of field_of field_in
typed_at f type p = refl

module _ (f : Text) (type : ℕ) where
  -- the events of the first II lines of the type, from a line on
  abbrev placed : List Context → List Event
  placed hs = map (event_at f) (those (is_typed f type) (map (start_of f) (those is_first hs)))

  events_from : (n : ℕ) (before ls : List Rec) → ls ≡ recs (drop (start_after f before) f) → placed (contexts_from n before ls) ≡ events_of (type ∷ []) (contexts_from n before ls)
  unfolding events_of begins_block
  events_from n before [] e = refl
  events_from n before (l ∷ ls) e = go (begins l before) (events_from (suc n) (l ∷ before) ls (ahead_rest f before l ls e))
    where
      here : Context
      here = record { number = n; before = before; line = l; after = ls }

      rest : List Context
      rest = contexts_from (suc n) (l ∷ before) ls

      is_typed_lem : same (text l 4) (type ∷ []) ≡ is_typed f type (start_after f before)
      is_typed_lem = ap (λ (r : Rec). same (text r 4) (type ∷ [])) (ahead_first f before l ls e) ∙ sym (typed_at f type (start_after f before))

      is_event : event_at f (start_after f before) ≡ event_of l
      is_event = key_at_lem f (start_after f before) ∙ ap event_of (sym (ahead_first f before l ls e))

      step : (t : Bool) → placed rest ≡ events_of (type ∷ []) rest
          → map (event_at f) (cond t (start_after f before ∷ those (is_typed f type) (map (start_of f) (those is_first rest))) (those (is_typed f type) (map (start_of f) (those is_first rest))))
          ≡ map (λ (h : Context). event_of h.line) (cond t (here ∷ those (begins_block (type ∷ [])) rest) (those (begins_block (type ∷ [])) rest))
      step true r = ap (λ (x : Event). x ∷ placed rest) is_event ∙ ap (λ (es : List Event). event_of l ∷ es) r
      step false r = r

      go : (b : Bool) → placed rest ≡ events_of (type ∷ []) rest
          → map (event_at f) (those (is_typed f type) (map (start_of f) (cond b (here ∷ those is_first rest) (those is_first rest))))
          ≡ map (λ (h : Context). event_of h.line) (cond (b && same (text l 4) (type ∷ [])) (here ∷ those (begins_block (type ∷ [])) rest) (those (begins_block (type ∷ [])) rest))
      go true r =
          step (is_typed f type (start_after f before)) r
          ∙ ap (λ (t : Bool). map (λ (h : Context). event_of h.line) (cond t (here ∷ those (begins_block (type ∷ [])) rest) (those (begins_block (type ∷ [])) rest))) (sym is_typed_lem)
      go false r = r

  -- in the file's order
  pub firsts_events : events_at f (part_of f type (firsts_of f)) ≡ events_of (type ∷ []) (contexts_in f)
  unfolding events_at part_of firsts_of contexts_in contexts_of lines_len
  firsts_events = events_from 1 [] (recs f) refl

  -- in the order of the index
  pub part_sorted : part_of f type (index_of f) ≡ place (event_at f) (part_of f type (firsts_of f)) []
  unfolding part_of index_of
  part_sorted = those_sorted (event_at f) (is_typed f type) (firsts_of f)

  pub part_events : events_at f (part_of f type (index_of f)) ≡ place (λ (t : Event). t) (events_of (type ∷ []) (contexts_in f)) []
  unfolding events_at
  part_events =
      ap (map (event_at f)) part_sorted ∙ keys_placed (event_at f) (part_of f type (firsts_of f)) [] ∙ ap (λ (es : List Event). place (λ (t : Event). t) es []) firsts_events

  pub part_count : length (part_of f type (index_of f)) ≡ length (events_of (type ∷ []) (contexts_in f))
  unfolding events_at
  part_count =
      ap length part_sorted ∙ length_place (event_at f) (part_of f type (firsts_of f)) [] ∙ add-zero (length (part_of f type (firsts_of f)))
      ∙ sym (length-map (part_of f type (firsts_of f)) (event_at f)) ∙ ap length firsts_events

  -- the same events
  pub part_among : (e : Event) → is_among (events_at f (part_of f type (index_of f))) e ≡ is_among (events_of (type ∷ []) (contexts_in f)) e
  unfolding is_among events_at
  part_among e =
      any_map (event_at f) (same e) (part_of f type (index_of f)) ∙ ap (any (λ (p : ℕ). same e (event_at f p))) part_sorted
      ∙ any_sorted (λ (p : ℕ). same e (event_at f p)) (event_at f) (part_of f type (firsts_of f))
      ∙ sym (any_map (event_at f) (same e) (part_of f type (firsts_of f))) ∙ ap (any (same e)) firsts_events

  -- they ascend where no event is named twice
  pub part_ascends : Distinct (events_of (type ∷ []) (contexts_in f)) → ascends (events_at f (part_of f type (index_of f))) ≡ true
  unfolding events_at
  part_ascends d =
      ap (λ (ps : List ℕ). ascends (map (event_at f) ps)) part_sorted
      ∙ asc_ascends (event_at f) (place (event_at f) (part_of f type (firsts_of f)) []) (asc_sorted (event_at f) (part_of f type (firsts_of f)) (subst Distinct (sym firsts_events) d))

-- what is live after an update by the places of the added and of the deleted is what the definition says
pub part_after : (f : Text) (live : List Event) (added deleted : ℕ)
    → events_after live (events_at f (part_of f added (index_of f))) (events_at f (part_of f deleted (index_of f)))
    ≡ events_after live (events_of (added ∷ []) (contexts_in f)) (events_of (deleted ∷ []) (contexts_in f))
part_after f live added deleted =
    ap₂ (λ (x y : List ℕ). events_after live (events_at f x) (events_at f y)) (part_sorted f added) (part_sorted f deleted)
    ∙ after_sorted f live (part_of f added (firsts_of f)) (part_of f deleted (firsts_of f))
    ∙ ap₂ (events_after live) (firsts_events f added) (firsts_events f deleted)

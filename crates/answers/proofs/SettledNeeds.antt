-- What each need of the function that settles a file without findings asks.
-- Assumes nothing.
use mathlib.Core.Path.{◌≡◌, refl, sym, ap, ◌∙◌, subst}
use mathlib.Core.Bool.{Bool, true, false, cond}
use mathlib.Core.List.{List, [], ◌∷◌}
use mathlib.Core.Logic.{inl, inr}
use Prim.Native.Nat.{ℕ, ◌+◌, ◌≤◌}
use native.Mathlib.Omega.{arith}
use borrow.Author.Rules.{rules}
use borrow.Author.Tests.{le-leb, leb-true, leb-false, lt-ltb, le-ltb}
use lib.Dec.{T, leb}
use lib.ListN.{length, take, length-map}
use lib.Seq.{length-take-le}
use Rattle.house.specs.Text.{Text, how_many}
use Rattle.house.specs.Members.{In}
use Rattle.house.proofs.Facts.{is_true}
use Rattle.house.proofs.Small.{clash}
use Rattle.lines.specs.Events.{event_at, events_at}
use Rattle.ledger.specs.Ledger.{Event, slots_in, live_in, is_among, ledger_with}
use Rattle.ledger.specs.Updates.{updated}
use Rattle.ledger.proofs.EventLaws.{among_in, in_among}
use Rattle.ledger.proofs.UpdateLaws.{fit_numbers, updated_fit}
use Rattle.rules.specs.Contexts.{contexts_in}
use Rattle.rules.specs.Blocks.{events_of, adds, changes, deletes}
use Rattle.rules.specs.Firsts.{index_of, part_of}
use Rattle.rules.proofs.TypeLaws.{part_count, part_among, part_ascends, part_after}
use Rattle.answers.specs.declared.settle.Counts.{Counts}
use Rattle.answers.specs.Settled.{counts_of, has_room, settled_of, settled_ledger}
use Rattle.answers.specs.declared.Refusal.TheVariants.{Full}
use Rattle.answers.specs.Answers.{accepting, lent, left, added, changed, deleted, not_immunized, is_full, ledger_after, accepted, roomed}
use Rattle.answers.specs.Inside.{Settles, Settling}
use Rattle.std.proofs.Common.{Option, Some, None, Err}

-- what is live and added has room in the slots and those of the deleted
abbrev Fit : Text → Text → Type 0
Fit f l = length (live_in l) + length (events_of adds (contexts_in f)) ≤ slots_in l + length (events_of deletes (contexts_in f))

count_all : (p : Event → Bool) (es : List Event) → ((e : Event) → In e es → p e ≡ true) → how_many p es ≡ length es
count_all p [] h = refl
count_all p (e ∷ es) h = rw (h e (inl refl)) (omega (arith, count_all p es (λ x m. h x (inr m))))

-- the places of the added and of the deleted, of a file whose index has been read
module _ (f l : Text) (s : Settles f l) where
  gs : List ℕ
  gs = part_of f 65 (index_of f)

  ds : List ℕ
  ds = part_of f 68 (index_of f)

  all_live : how_many (is_among (live_in l)) (events_at f ds) ≡ length (events_of deletes (contexts_in f))
  unfolding ds events_at
  all_live =
      count_all (is_among (live_in l)) (events_at f (part_of f 68 (index_of f)))
      (λ e m.
      is_true (is_among (live_in l) e)
      (in_among (live_in l) e
      (s.were_live e
      (among_in (events_of deletes (contexts_in f)) e
      (subst T (part_among f 68 e) (in_among (events_at f (part_of f 68 (index_of f))) e m))))))
      ∙ length-map (part_of f 68 (index_of f)) (event_at f) ∙ part_count f 68

  updated_is : (n : ℕ) → n ≡ length (live_in l) → Fit f l → updated l n f gs ds ≡ ledger_after (lent 0 f [] l [])
  unfolding gs ds ledger_after added deleted
  updated_is n e r =
      let fit =
      fit_numbers l f (part_of f 65 (index_of f)) (part_of f 68 (index_of f)) s.ok (part_ascends f 65 s.adds_once) (part_ascends f 68 s.deletes_once)
      (omega (arith, r, part_count f 65, all_live)) in
      ap (λ (m : ℕ). updated l m f (part_of f 65 (index_of f)) (part_of f 68 (index_of f))) e
      ∙ updated_fit l (length (live_in l)) f (part_of f 65 (index_of f)) (part_of f 68 (index_of f)) fit ∙ ap (ledger_with (length l)) (part_after f (live_in l) 65 68)

-- settle_blocks
pub front_size : (n : ℕ) (room : List ℕ) → n ≤ length room → n ≡ length (take n room)
front_size n room h = sym (length-take-le n room h)

module _ (f l l' : Text) (live m : ℕ) (ix : List ℕ) (s : Option Counts) (es : s ≡ settled_of f l live ix) (el : l' ≡ settled_ledger f l live ix) (g : Settling f l live ix m) where
  part_is : (type : ℕ) → length (part_of f type ix) ≡ length (events_of (type ∷ []) (contexts_in f))
  part_is type = ap (λ (ps : List ℕ). length (part_of f type ps)) g.index_is ∙ part_count f type

  room_is : has_room f l live ix ≡ leb (length (live_in l) + length (events_of adds (contexts_in f))) (slots_in l + length (events_of deletes (contexts_in f)))
  unfolding has_room
  room_is = rw (le-leb (length ix) 96154 g.few, g.live_is, part_is 65, part_is 68)

  told : (b : Bool) (n : Counts) → cond b (Some (counts_of f ix)) None ≡ Some n → (b ≡ true) × (counts_of f ix ≡ n)
  told true n e = (refl, cc)
  told false n e = clash (cc)

  told_none : (b : Bool) → cond b (Some (counts_of f ix)) None ≡ None → b ≡ false
  told_none true e = clash (cc)
  told_none false e = refl

  pub settled_full : s ≡ None → left (Err Full) l' [] ≡ roomed (lent 0 f [] l [])
  unfolding settled_of settled_ledger roomed is_full added deleted
  settled_full z =
      let h : has_room f l live ix ≡ false = told_none (has_room f l live ix) (sym es ∙ z) in
      let e : l' ≡ l = el ∙ rw h in
      let over = leb-false (length (live_in l) + length (events_of adds (contexts_in f))) (slots_in l + length (events_of deletes (contexts_in f))) (sym room_is ∙ h) in
      rw (e, lt-ltb (slots_in l + length (events_of deletes (contexts_in f))) (length (live_in l) + length (events_of adds (contexts_in f))) over)

  module _ (n : Counts) (z : s ≡ Some n) where
    there : (has_room f l live ix ≡ true) × (counts_of f ix ≡ n)
    unfolding settled_of
    there = told (has_room f l live ix) n (sym es ∙ z)

    fits : Fit f l
    fits = leb-true (length (live_in l) + length (events_of adds (contexts_in f))) (slots_in l + length (events_of deletes (contexts_in f))) (sym room_is ∙ there.0)

    counts_are : (n.added ≡ length (events_of adds (contexts_in f))) × (n.changed ≡ length (events_of changes (contexts_in f))) × (n.deleted ≡ length (events_of deletes (contexts_in f)))
    unfolding counts_of
    counts_are =
        let e = sym there.1 in
        (ap (λ (k : Counts). k.added) e ∙ part_is 65, ap (λ (k : Counts). k.changed) e ∙ part_is 67, ap (λ (k : Counts). k.deleted) e ∙ part_is 68)

    ledger_is : l' ≡ ledger_after (lent 0 f [] l [])
    unfolding settled_ledger gs ds
    ledger_is =
        el ∙ rw there.0 (ap (λ (ps : List ℕ). updated l live f (part_of f 65 ps) (part_of f 68 ps)) g.index_is ∙ updated_is f l g.settles live g.live_is fits)

    pub settled_done : left (accepting n.added n.changed n.deleted m) l' [] ≡ roomed (lent 0 f [] l [])
    unfolding roomed is_full accepted added changed deleted not_immunized
    settled_done =
        rw (le-ltb (slots_in l + length (events_of deletes (contexts_in f))) (length (live_in l) + length (events_of adds (contexts_in f))) fits)
        (rw (counts_are.0, counts_are.1, counts_are.2, g.not_immunized_is, ledger_is))

pub ruleset for_settle_blocks = (rules, front_size, settled_full, settled_done)

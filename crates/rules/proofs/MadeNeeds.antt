-- What each need of the functions that make a list in a room asks.
-- Assumes nothing.
use mathlib.Core.Path.{◌≡◌, refl, sym, ap, ◌∙◌}
use mathlib.Core.List.{List, ◌++◌, append_assoc}
use Prim.Native.Nat.{ℕ, ◌≤◌}
use native.Mathlib.Omega.{arith}
use native.Mathlib.Nat.{add-sub_cancel_left}
use borrow.Author.Rules.{rules}
use borrow.Rule.Slice.PartMut.{post_of, put_mid}
use lib.ListN.{length, take, drop, length-append}
use lib.Seq.{take_at, drop_at, length-take-le, take-append-le}
use Rattle.std.specs.Prelude.{Option, Some, None, unwrap_or}
use Rattle.house.specs.Text.{Text}
use Rattle.house.specs.Over.{over}
use Rattle.house.proofs.Small.{clash}
use Rattle.house.proofs.OverLaws.{over_taken, over_front, length_over}
use Rattle.lines_fields.specs.declared.Span.{Span}
use Rattle.lines_words.specs.Words.{count_and_word, key_at, in_order, apart}
use Rattle.lines_words.proofs.OrderedLaws.{length_ordered, length_apart}
use Rattle.rules_lists.specs.Entries.{counted_antigens, entries_in}
use Rattle.rules.specs.Room.{list_of, apart_of, MadeIs, BehindIs}

-- sort_front, keep_front_apart
pub front_size : (n : ℕ) (old : List ℕ) → n ≤ length old → n ≡ length (take n old)
front_size n old h = sym (length-take-le n old h)

pub front_put : (n : ℕ) (xs ys old : List ℕ) → xs ≡ ys → xs ++ drop n old ≡ ys ++ drop n old
front_put n xs ys old e = ap (λ (l : List ℕ). l ++ drop n old) e

pub ruleset for_front = (rules, front_size, front_put)

-- list_in
module _ (list room : List ℕ) where
  pub none_made : MadeIs list room None
  none_made = record { made_in = omega arith; made_is = λ z. clash (cc) }

module _ (file : Text) (key : ℕ) (es old room after : List ℕ) (n : ℕ) (c : n ≡ length es) (g : room ≡ over es old) (h : n ≤ length room)
    (e : after ≡ in_order (key_at key file) (take n room) ++ drop n room) where
  gathered : take n room ≡ es
  gathered = ap (take n) g ∙ over_taken es old n (sym c) (omega (arith, c, h, ap length g, length_over es old))

  sorted_at_lem : take n after ≡ in_order (key_at key file) es
  sorted_at_lem =
      ap (take n) (e ∙ ap (λ (l : List ℕ). in_order (key_at key file) l ++ drop n room) gathered)
      ∙ take_at (in_order (key_at key file) es) (drop n room) n (length_ordered (key_at key file) es ∙ sym c)

  sorted_in : n ≤ length after
  sorted_in = omega (arith, ap length e, length-append (in_order (key_at key file) (take n room)) (drop n room), length_ordered (key_at key file) (take n room), length-take-le n room h)

  sorted_made : MadeIs (in_order (key_at key file) es) after (Some n)
  sorted_made = record { made_in = sorted_in; made_is = λ z. sorted_at_lem }

pub list_made : (file : Text) (what key : ℕ) (p : Span) (old room after : List ℕ) (n : ℕ) → n ≡ length (entries_in what file p.start p.end)
    → room ≡ over (entries_in what file p.start p.end) old → n ≤ length room → after ≡ in_order (key_at key file) (take n room) ++ drop n room
    → MadeIs (list_of file what key p) after (Some n)
unfolding list_of
list_made file what key p old room after n c g h e = sorted_made file key (entries_in what file p.start p.end) old room after n c g h e

pub ruleset for_list_in = (rules, none_made, list_made)

-- apart_in
module _ (file : Text) (p : Span) (room after : List ℕ) (r : Option ℕ) (i : MadeIs (list_of file counted_antigens count_and_word p) room r) (m : ℕ) (f : r ≡ Some m) where
  some : MadeIs (list_of file counted_antigens count_and_word p) room (Some m)
  some = rw f at i

  pub made_in : m ≤ length room
  made_in = some.made_in

  module _ (n : ℕ) (c : n ≡ length (apart (key_at count_and_word file) (take m room)))
      (e : after ≡ over (apart (key_at count_and_word file) (take m room)) (take m room) ++ drop m room) where
    fewer : length (apart (key_at count_and_word file) (take m room)) ≤ length (take m room)
    fewer = length_apart (key_at count_and_word file) (take m room)

    apart_at : after ≡ apart (key_at count_and_word file) (take m room) ++ (drop (length (apart (key_at count_and_word file) (take m room))) (take m room) ++ drop m room)
    apart_at =
        e
        ∙ ap (λ (l : List ℕ). l ++ drop m room) (over_front (apart (key_at count_and_word file) (take m room)) (take m room) fewer)
        ∙ append_assoc (apart (key_at count_and_word file) (take m room)) (drop (length (apart (key_at count_and_word file) (take m room))) (take m room)) (drop m room)

    pub apart_made : MadeIs (apart_of file p) after (Some n)
    unfolding apart_of
    apart_made =
        record {
          made_in = omega (arith, c, ap length apart_at, length-append (apart (key_at count_and_word file) (take m room)) (drop (length (apart (key_at count_and_word file) (take m room))) (take m room) ++ drop m room));
          made_is =
              λ z.
              ap (take n) apart_at
              ∙ take_at (apart (key_at count_and_word file) (take m room)) (drop (length (apart (key_at count_and_word file) (take m room))) (take m room) ++ drop m room) n (sym c)
              ∙ ap (apart (key_at count_and_word file)) (some.made_is refl);
        }

pub ruleset for_apart_in = (rules, none_made, made_in, apart_made)

-- list_behind, apart_behind
module _ (list old new : List ℕ) (k j : ℕ) (m : Option ℕ) (h : k ≤ length old) (i : MadeIs list new m) where
  pub behind_made : BehindIs list k old (put_mid k j old new) m
  behind_made =
      record {
        behind_in = omega (arith, length-append (take k old) (new ++ post_of k j old), length-append new (post_of k j old), length-take-le k old h, i.made_in);
        before_kept = take_at (take k old) (new ++ post_of k j old) k (length-take-le k old h);
        behind_is =
            λ z.
            rw (add-sub_cancel_left k (unwrap_or m 0))
            (ap (take (unwrap_or m 0)) (drop_at (take k old) (new ++ post_of k j old) k (length-take-le k old h))
            ∙ take-append-le (unwrap_or m 0) new (post_of k j old) i.made_in
            ∙ i.made_is z);
      }

pub ruleset for_behind = (rules, behind_made)

-- What each need of `has_room_lem`, `put_file`, `put_in_room`, `is_right_lem` and `write` asks.
-- Assumes nothing.
use mathlib.Core.Path.{◌≡◌, refl, sym, ap, ◌∙◌}
use mathlib.Core.Bool.{Bool, true, false, not, ◌||◌}
use mathlib.Core.List.{List, [], ◌++◌}
use Prim.Native.Nat.{ℕ, ◌+◌, ◌-◌, ◌≤◌, ◌<◌}
use native.Mathlib.Omega.{arith}
use borrow.Author.Rules.{rules}
use borrow.Author.Tests.{le-ltb, ltb-true, ltb-false, le-leb, lt-leb, leb-true, leb-false}
use lib.Dec.{ltb, leb}
use lib.ListN.{length, drop, length-append}
use Rattle.house.specs.Text.{Text}
use Rattle.house.specs.Numbers.{lesser_of}
use Rattle.writing.specs.Writing.{over_from}
use Rattle.writing.proofs.OverLaws.{over_from_start}
use Rattle.rules_definitions.specs.Forms.{is_prefix, is_batch}
use Rattle.chart_definitions.specs.Charts.{charted_in, is_chart}
use Rattle.chart_definitions.specs.Lots.{in_writing_order}
use Rattle.chart_definitions.specs.Submissions.{line_text, records_text, footer_fields, other_lines, request, leaves, records_of, file_of, is_right, is_too_long, finished, file_most, write, Writes}
use Rattle.chart_definitions.proofs.WritingOrderLaws.{order_length, order_text}
use Rattle.chart_records.specs.Reading.{fits_in}
use Rattle.chart.specs.declared.Spot.{Spot}
use Rattle.chart.specs.Inside.{Can, Puts, spot_at, Patients, head_text, foot_text, fits_room, Fitting}
use Rattle.chart.proofs.GoingLaws.{text_most}
use Rattle.chart.proofs.RecordNeeds.{behind, still}
use Rattle.chart.proofs.BoundLaws.{chart_bound}
use Rattle.chart.proofs.FileNeeds.{in_order_of, file_parts, file_long, head_long, right_prefix, right_batch, right_formed, right_order}

-- the lesser of two numbers
least : (m n k : ℕ) → k ≡ lesser_of m n → (k ≤ m) × ((k ≤ n) × ((l : ℕ) → l ≤ m → l ≤ n → l ≤ k))
least m n k e = go (ltb n m) refl
  where
    go : (t : Bool) → ltb n m ≡ t → (k ≤ m) × ((k ≤ n) × ((l : ℕ) → l ≤ m → l ≤ n → l ≤ k))
    go true z =
        let f : k ≡ n = e ∙ rw z in
        let h : n < m = ltb-true n m z in
        (omega (arith, f, h), (omega (arith, f), λ l a b. omega (arith, f, b)))
    go false z =
        let f : k ≡ m = e ∙ rw z in
        let h : m ≤ n = ltb-false n m z in
        (omega (arith, f), (omega (arith, f, h), λ l a b. omega (arith, f, a)))

leb_moved : (h l m : ℕ) → h ≤ m → leb l (m - h) ≡ leb (h + l) m
leb_moved h l m k = go (leb (h + l) m) refl
  where
    go : (t : Bool) → leb (h + l) m ≡ t → leb l (m - h) ≡ t
    go true e = le-leb l (m - h) (omega (arith, k, leb-true (h + l) m e))
    go false e = lt-leb l (m - h) (omega (arith, k, leb-false (h + l) m e))

-- HAS_ROOM
module _ (p b s : Text) (right : is_right (request p b s []) ≡ true) where
  -- the file is as long as the lines of the records in the order of the chart
  whole_long : length (file_of (request p b s []))
      ≡ 14 + length p + length b + length (records_text 1 (charted_in s) ++ line_text (footer_fields (length (charted_in s) + other_lines)))
  unfolding foot_text
  whole_long =
      omega (
        arith,
        file_long p b s,
        order_text 1 (charted_in s) (right_order p b s [] right),
        ap (λ (n : ℕ). length (line_text (footer_fields (n + other_lines)))) (order_length (charted_in s) (right_order p b s [] right)),
        length-append (records_text 1 (charted_in s)) (line_text (footer_fields (length (charted_in s) + other_lines))),
      )

  pub room_head : 14 + length p < 18446744073709551616
  room_head = omega (arith, right_prefix p b s [] right)

  pub room_head_on : 14 + length p + length b < 18446744073709551616
  room_head_on = omega (arith, right_prefix p b s [] right, right_batch p b s [] right)

  module _ (room most head : ℕ) (m : most ≡ lesser_of room 5000000) (h : head ≡ 14 + length p + length b) where
    pub room_none : most < head → false ≡ fits_room p b s room
    unfolding fits_room
    room_none k = sym (ap (leb (length (file_of (request p b s [])))) (sym m) ∙ lt-leb (length (file_of (request p b s []))) most (omega (arith, k, h, whole_long)))

    pub room_some : head ≤ most → (r : Bool) → r ≡ fits_in s (most - head) → r ≡ fits_room p b s room
    unfolding fits_room fits_in
    room_some k r e =
        e ∙ leb_moved head (length (records_text 1 (charted_in s) ++ line_text (footer_fields (length (charted_in s) + other_lines)))) most k
        ∙ ap (λ (n : ℕ). leb n most) long ∙ ap (leb (length (file_of (request p b s [])))) m
      where
        long : head + length (records_text 1 (charted_in s) ++ line_text (footer_fields (length (charted_in s) + other_lines))) ≡ length (file_of (request p b s []))
        long = omega (arith, h, whole_long)

pub ruleset for_has_room = (rules, room_head, room_head_on, room_none, room_some)

-- PUT_FILE
module _ (p b s a : Text) (f : Fitting p b s a) where
  fits_parts : (length (file_of (request p b s [])) ≤ length a) × (length (file_of (request p b s [])) ≤ 5000000)
  unfolding fits_room
  fits_parts =
      let h : length (file_of (request p b s [])) ≤ lesser_of (length a) 5000000 = leb-true (length (file_of (request p b s []))) (lesser_of (length a) 5000000) f.fits in
      let l = least (length a) 5000000 (lesser_of (length a) 5000000) refl in
      let u : lesser_of (length a) 5000000 ≤ length a = l.0 in
      let v : lesser_of (length a) 5000000 ≤ 5000000 = l.1.0 in
      (omega (arith, h, u), omega (arith, h, v))

  pub fits_area : length (file_of (request p b s [])) ≤ length a
  fits_area = fits_parts.0

  pub fits_most : length (file_of (request p b s [])) ≤ 5000000
  fits_most = fits_parts.1

  pub file_head_room : 14 + length p + length b ≤ length a
  file_head_room = omega (arith, fits_area, file_long p b s)

  lines_most : length (records_text 1 (in_order_of s)) ≤ 5000000
  lines_most = omega (arith, fits_most, file_long p b s)

  pub file_patients : (places : List ℕ) → length places ≡ 192307 → Patients s 0 1 places
  file_patients places e =
      record {
        formed = right_formed p b s [] f.right;
        order = right_order p b s [] f.right;
        short =
            omega (arith, chart_bound s 0 1 (right_formed p b s [] f.right), lines_most, order_text 1 (charted_in s) (right_order p b s [] f.right));
        lines = lines_most;
        room = e;
      }

  module _ (c : Text) (pos : ℕ) (u : c ≡ over_from 0 (head_text p b) a) (i : pos ≡ 14 + length p + length b) where
    head_end : pos ≡ 0 + length (head_text p b)
    head_end = omega (arith, i, head_long p b)

    pub file_can : Can (in_writing_order (charted_in (drop 0 s))) (spot_at 0 1 pos) c
    file_can =
        record {
          room = omega (arith, fits_area, file_long p b s, i, still a c [] (head_text p b) [] 0 pos u head_end);
          few = omega (arith, i);
        }

    module _ (d : Text) (end : Spot) (v : Puts (in_writing_order (charted_in (drop 0 s))) (spot_at 0 1 pos) end c d) where
      count_is_lem : end.number + 2 ≡ length (in_order_of s) + other_lines
      count_is_lem = omega (arith, v.number_is)

      pub file_count : end.number + 2 < 18446744073709551616
      file_count = omega (arith, v.number_is, text_most 1 (in_order_of s), lines_most)

      pub file_foot_room : end.pos + length (foot_text (end.number + 2)) ≤ length d
      file_foot_room =
          omega (
            arith,
            fits_area,
            file_long p b s,
            i,
            v.pos_is,
            ap (λ (n : ℕ). length (foot_text n)) count_is_lem,
            still a c [] (head_text p b) [] 0 pos u head_end,
            still c d [] (records_text 1 (in_order_of s)) [] pos end.pos v.area_is v.pos_is,
          )

      pub file_put : (e : Text) → e ≡ over_from end.pos (foot_text (end.number + 2)) d → e ≡ over_from 0 (file_of (request p b s [])) a
      file_put e w =
          behind a d e (head_text p b ++ records_text 1 (in_order_of s)) (foot_text (end.number + 2)) 0 end.pos
          (behind a c d (head_text p b) (records_text 1 (in_order_of s)) 0 pos u head_end v.area_is)
          (omega (arith, v.pos_is, head_end, length-append (head_text p b) (records_text 1 (in_order_of s)))) w
          ∙ ap (λ (n : ℕ). over_from 0 (head_text p b ++ records_text 1 (in_order_of s) ++ foot_text n) a) count_is_lem
          ∙ ap (λ (t : Text). over_from 0 t a) (sym (file_parts p b s))

      pub file_next : (r : ℕ) → r ≡ end.pos + length (foot_text (end.number + 2)) → r ≡ length (file_of (request p b s []))
      file_next r w = omega (arith, w, v.pos_is, i, file_long p b s, ap (λ (n : ℕ). length (foot_text n)) count_is_lem)

pub ruleset for_put_file = (rules, file_head_room, file_count, file_foot_room, file_put, file_next)

pub ruleset for_file_patients = (rules, file_patients, file_can)

-- IS_RIGHT
module _ (p b s : Text) where
  pub right_none : (u : Bool) → u ≡ is_prefix p → u ≡ false → false ≡ is_right (request p b s [])
  unfolding is_right
  right_none u e z = rw (← e, z)

  pub right_no_batch : (u v : Bool) → u ≡ is_prefix p → u ≡ true → v ≡ is_batch b → v ≡ false → false ≡ is_right (request p b s [])
  unfolding is_right
  right_no_batch u v e z f w = rw (← e, z, ← f, w)

  pub right_chart : (u v r : Bool) → u ≡ is_prefix p → u ≡ true → v ≡ is_batch b → v ≡ true → r ≡ is_chart s → r ≡ is_right (request p b s [])
  unfolding is_right
  right_chart u v r e z f w g = rw (← e, z, ← f, w) g

pub ruleset for_is_right = (rules, right_none, right_no_batch, right_chart)

-- WRITE
module _ (p b s a : Text) where
  same_file : file_of (request p b s a) ≡ file_of (request p b s [])
  unfolding file_of records_of
  same_file = refl

  same_right : is_right (request p b s a) ≡ is_right (request p b s [])
  unfolding is_right
  same_right = refl

  long_tests : (l m n : ℕ) → leb l (lesser_of m n) ≡ not (ltb m l || ltb n l)
  long_tests l m n = go (leb l (lesser_of m n)) refl
    where
      k : (lesser_of m n ≤ m) × ((lesser_of m n ≤ n) × ((i : ℕ) → i ≤ m → i ≤ n → i ≤ lesser_of m n))
      k = least m n (lesser_of m n) refl

      go : (t : Bool) → leb l (lesser_of m n) ≡ t → t ≡ not (ltb m l || ltb n l)
      go true e =
          let h : l ≤ lesser_of m n = leb-true l (lesser_of m n) e in
          let u : lesser_of m n ≤ m = k.0 in
          let v : lesser_of m n ≤ n = k.1.0 in
          rw (le-ltb m l (omega (arith, h, u)), le-ltb n l (omega (arith, h, v)))
      go false e = other (ltb m l) (ltb n l) refl refl
        where
          h : lesser_of m n < l
          h = leb-false l (lesser_of m n) e

          other : (x y : Bool) → ltb m l ≡ x → ltb n l ≡ y → false ≡ not (x || y)
          other true y q r = refl
          other false true q r = refl
          other false false q r = absurd (omega (arith, h, k.1.1 l (ltb-false m l q) (ltb-false n l r)))

  too_long : is_too_long (request p b s a) ≡ not (fits_room p b s (length a))
  unfolding is_too_long fits_room
  too_long =
      ap (λ (t : Text). ltb (length a) (length t) || ltb file_most (length t)) same_file
      ∙ flip (ltb (length a) (length (file_of (request p b s []))) || ltb file_most (length (file_of (request p b s []))))
      ∙ sym (ap not (long_tests (length (file_of (request p b s []))) (length a) file_most))
    where
      flip : (t : Bool) → t ≡ not (not t)
      flip true = refl
      flip false = refl

  module _ (u : Bool) (e : u ≡ is_right (request p b s [])) where
    pub write_record : not u ≡ true → Writes (request p b s a) 8 0 a
    unfolding write
    write_record z = let k : u ≡ false = grind arith in rw (same_right, ← e, k)

    module _ (y : not u ≡ false) where
      z : u ≡ true
      z = grind arith

      pub write_right : is_right (request p b s []) ≡ true
      write_right = sym e ∙ z

      module _ (v : Bool) (f : v ≡ fits_room p b s (length a)) where
        pub write_room : not v ≡ true → Writes (request p b s a) 9 0 a
        unfolding write
        write_room w = let k : v ≡ false = grind arith in rw (same_right, ← e, z, too_long, ← f, k)

        module _ (x : not v ≡ false) where
          w : v ≡ true
          w = grind arith

          pub write_fits : Fitting p b s a
          write_fits = record { right = sym e ∙ z; fits = sym f ∙ w }

          pub write_small : (l : ℕ) → l ≡ length (file_of (request p b s [])) → l < 4294967296
          write_small l g = omega (arith, g, fits_most p b s a write_fits)

          pub write_done : (l : ℕ) (c : Text) → l ≡ length (file_of (request p b s [])) → c ≡ over_from 0 (file_of (request p b s [])) a
              → Writes (request p b s a) 0 l c
          unfolding write finished
          write_done l c g h =
              rw (same_right, ← e, z, too_long, ← f, w, same_file)
              (ap (λ (n : ℕ). leaves 0 n c) g
              ∙ ap (leaves 0 (length (file_of (request p b s [])))) (h ∙ over_from_start (file_of (request p b s [])) a (fits_area p b s a write_fits)))

pub ruleset for_write = (rules, write_record, write_right, write_room, write_fits, write_small, write_done)

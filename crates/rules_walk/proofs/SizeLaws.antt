-- How many blocks a file of right shape has: an II in a block takes 44 bytes at least, and the IE after it 8; of any shape, 16 bytes at least.
-- Assumes nothing.
use mathlib.Core.Path.{◌≡◌, refl, sym, ap, ◌∙◌, subst}
use mathlib.Core.Bool.{Bool, true, false, not, cond}
use mathlib.Core.List.{List, [], ◌∷◌}
use Prim.Native.Nat.{ℕ, zero, suc, ◌+◌, ◌*◌, ◌≤◌, ◌<◌}
use native.Mathlib.Omega.{arith}
use borrow.Author.Tests.{eqb-true, eqb-false, ne_eqb}
use lib.Dec.{T, eqb}
use lib.ListN.{length, get_or, drop, length-drop, length-map}
use Rattle.house.specs.Text.{Text, those, is_empty}
use Rattle.house.proofs.Small.{clash}
use Rattle.std.proofs.Common.{Ok}
use Rattle.lines_fields.specs.Lines.{pipe, ending_of, lines_of, line_of, text_len, line_len, lengthen, fields_of}
use Rattle.lines.specs.Records.{Rec, kind_of, record_of, count_of, rec_of, recs}
use Rattle.lines.specs.Shape.{is_one, follows, shape_of}
use Rattle.lines.specs.Inside.{RightFrom, RightLine}
use Rattle.lines_fields.proofs.LineLaws.{line_le, lines_step, ended_is}
use Rattle.lines.proofs.ShapeLaws.{right_line, right_start}
use Rattle.lines_fields.specs.Marks.{judged_text}
use Rattle.lines_fields.proofs.MarkLaws.{judged_within}
use Rattle.rules_definitions.specs.Forms.{field_in, text}
use Rattle.rules_definitions.specs.Contexts.{Context, contexts_from, contexts_of, contexts_in}
use Rattle.rules_definitions.specs.Blocks.{is_in_block, begins}
use Rattle.rules_definitions.proofs.EventLaws.{named}
use Rattle.rules_walk.specs.Firsts.{is_first, start_of, firsts_of}
use Rattle.rules_walk.proofs.PassLaws.{by_lines, recs_first}
use Rattle.rules_walk.proofs.NamedLaws.{uli_wide, date_wide, code_wide, is_ii, begun}

-- 1. Bytes of a line's text

-- those of fields with their pipes
abbrev sizes : List Text → ℕ
sizes [] = 0
sizes (t ∷ ts) = suc (length t) + sizes ts

fields_size : (t : Text) → sizes (fields_of t) ≤ length t
unfolding fields_of lengthen
fields_size [] = omega arith
fields_size (b ∷ t) = go (eqb b pipe) (fields_of t) (fields_size t)
  where
    longer : (fs : List Text) → sizes (lengthen b fs) ≤ suc (sizes fs)
    longer [] = omega arith
    longer (g ∷ gs) = omega arith

    go : (x : Bool) (fs : List Text) → sizes fs ≤ length t → sizes (cond x ([] ∷ fs) (lengthen b fs)) ≤ suc (length t)
    go true fs h = omega arith
    go false fs h = omega (arith, longer fs)

-- the first field and those after it; those after are a pipe each at least
sizes_first : (fs : List Text) (n : ℕ) → n < length fs → suc (length (get_or fs n [])) + sizes (drop (suc n) fs) ≤ sizes (drop n fs)
sizes_first [] n h = absurd (omega arith)
sizes_first (t ∷ ts) zero h = omega arith
sizes_first (t ∷ ts) (suc n) h = sizes_first ts n (omega arith)

sizes_least : (fs : List Text) → length fs ≤ sizes fs
sizes_least [] = omega arith
sizes_least (t ∷ ts) = omega (arith, sizes_least ts)

-- a record type has two bytes
type_size : (t : Text) → (record_of t ≡ 0 → ⊥) → length (get_or (fields_of t) 0 []) ≡ 2
unfolding record_of kind_of
type_size t n = go (get_or (fields_of t) 0 []) n
  where
    go : (k : Text) → (kind_of k ≡ 0 → ⊥) → length k ≡ 2
    go [] n = absurd (n refl)
    go (a ∷ []) n = absurd (n refl)
    go (a ∷ (b ∷ [])) n = refl
    go (a ∷ (b ∷ (c ∷ k))) n = absurd (n refl)

given : (t : Text) → T (not (is_empty t)) → 1 ≤ length t
given [] h = absurd h
given (b ∷ t) h = omega arith

block_text : (t : Text) → T (is_in_block (rec_of t)) → length (fields_of t) ≡ 22 → 43 ≤ length t
unfolding rec_of field_in
block_text t b n =
    let fs = fields_of t in
    let z : length (get_or fs 0 []) ≡ 2 = type_size t (λ e. let q : record_of t ≡ 4 = is_ii (rec_of t) b in omega arith) in
    let w : (x : Text) (k : ℕ) → k ≤ length (judged_text x) → k ≤ length x = λ x k h. omega (arith, judged_within x) in
    let u : 9 ≤ length (get_or fs 2 []) = w (get_or fs 2 []) 9 (omega (arith, uli_wide (rec_of t) b)) in
    let a : 1 ≤ length (get_or fs 3 []) = w (get_or fs 3 []) 1 (given (text (rec_of t) 4) (named (rec_of t) b).type_given) in
    let d : 8 ≤ length (get_or fs 5 []) = w (get_or fs 5 []) 8 (omega (arith, date_wide (rec_of t) b)) in
    let c : 1 ≤ length (get_or fs 7 []) = w (get_or fs 7 []) 1 (code_wide (rec_of t) b).0 in
    let s0 : suc (length (get_or fs 0 [])) + sizes (drop 1 fs) ≤ sizes fs = sizes_first fs 0 (omega arith) in
    let s1 : suc (length (get_or fs 1 [])) + sizes (drop 2 fs) ≤ sizes (drop 1 fs) = sizes_first fs 1 (omega arith) in
    let s2 : suc (length (get_or fs 2 [])) + sizes (drop 3 fs) ≤ sizes (drop 2 fs) = sizes_first fs 2 (omega arith) in
    let s3 : suc (length (get_or fs 3 [])) + sizes (drop 4 fs) ≤ sizes (drop 3 fs) = sizes_first fs 3 (omega arith) in
    let s4 : suc (length (get_or fs 4 [])) + sizes (drop 5 fs) ≤ sizes (drop 4 fs) = sizes_first fs 4 (omega arith) in
    let s5 : suc (length (get_or fs 5 [])) + sizes (drop 6 fs) ≤ sizes (drop 5 fs) = sizes_first fs 5 (omega arith) in
    let s6 : suc (length (get_or fs 6 [])) + sizes (drop 7 fs) ≤ sizes (drop 6 fs) = sizes_first fs 6 (omega arith) in
    let s7 : suc (length (get_or fs 7 [])) + sizes (drop 8 fs) ≤ sizes (drop 7 fs) = sizes_first fs 7 (omega arith) in
    omega (arith, sizes_least (drop 8 fs), length-drop 8 fs, fields_size t)

-- of any number of fields, an II in a block has a ULI and a date
there : (fs : List Text) (n : ℕ) → 1 ≤ length (get_or fs n []) → n < length fs
there [] n h = absurd (omega arith)
there (t ∷ ts) zero h = omega arith
there (t ∷ ts) (suc n) h = omega (arith, there ts n h)

named_text : (t : Text) → T (is_in_block (rec_of t)) → 16 ≤ length t
unfolding rec_of field_in
named_text t b =
    let fs = fields_of t in
    let w : (x : Text) (k : ℕ) → k ≤ length (judged_text x) → k ≤ length x = λ x k h. omega (arith, judged_within x) in
    let u : 9 ≤ length (get_or fs 2 []) = w (get_or fs 2 []) 9 (omega (arith, uli_wide (rec_of t) b)) in
    let d : 8 ≤ length (get_or fs 5 []) = w (get_or fs 5 []) 8 (omega (arith, date_wide (rec_of t) b)) in
    let n : 5 < length fs = there fs 5 (omega arith) in
    let s0 : suc (length (get_or fs 0 [])) + sizes (drop 1 fs) ≤ sizes fs = sizes_first fs 0 (omega arith) in
    let s1 : suc (length (get_or fs 1 [])) + sizes (drop 2 fs) ≤ sizes (drop 1 fs) = sizes_first fs 1 (omega arith) in
    let s2 : suc (length (get_or fs 2 [])) + sizes (drop 3 fs) ≤ sizes (drop 2 fs) = sizes_first fs 2 (omega arith) in
    let s3 : suc (length (get_or fs 3 [])) + sizes (drop 4 fs) ≤ sizes (drop 3 fs) = sizes_first fs 3 (omega arith) in
    let s4 : suc (length (get_or fs 4 [])) + sizes (drop 5 fs) ≤ sizes (drop 4 fs) = sizes_first fs 4 (omega arith) in
    let s5 : suc (length (get_or fs 5 [])) + sizes (drop 6 fs) ≤ sizes (drop 5 fs) = sizes_first fs 5 (omega arith) in
    omega (arith, fields_size t)

pub block_wide : (s : Text) → T (is_in_block (rec_of (line_of s).text)) → 16 ≤ line_len s
unfolding line_len text_len
block_wide s b = omega (arith, named_text (line_of s).text b)

antigen_text : (t : Text) → record_of t ≡ 5 → length (fields_of t) ≡ 5 → 7 ≤ length t
antigen_text t k n =
    let fs = fields_of t in
    let z : length (get_or fs 0 []) ≡ 2 = type_size t (λ e. omega arith) in
    let s0 : suc (length (get_or fs 0 [])) + sizes (drop 1 fs) ≤ sizes fs = sizes_first fs 0 (omega arith) in
    omega (arith, sizes_least (drop 1 fs), length-drop 1 fs, fields_size t)

-- 2. Bytes of a line without fault, with its ending

ended_size : (s : Text) → (line_of s).ended ≡ true → text_len s + 1 ≤ line_len s
unfolding line_len
ended_size s e = go (eqb (ending_of (drop (text_len s) s)) 0) refl (sym (ended_is s) ∙ e)
  where
    go : (x : Bool) → eqb (ending_of (drop (text_len s) s)) 0 ≡ x → not x ≡ true → text_len s + 1 ≤ text_len s + ending_of (drop (text_len s) s)
    go true q h = clash (cc)
    go false q h = omega (arith, eqb-false (ending_of (drop (text_len s) s)) 0 q)

-- only an IE follows an II
after_ii : (k : ℕ) → follows 4 k ≡ true → k ≡ 5
unfolding follows is_one
after_ii k e = go (eqb k 1) (eqb k 2) (eqb k 3) (eqb k 4) (eqb k 5) refl (eqb k 6) (eqb k 7) (eqb k 8) e
  where
    go : (a b c d x : Bool) → eqb k 5 ≡ x → (f g h : Bool)
        → cond a false (cond b false (cond c false (cond d false (cond x true (cond f false (cond g false (cond h false false))))))) ≡ true
        → k ≡ 5
    go a b c d true q f g h e = eqb-true k 5 q
    go true b c d false q f g h e = clash (cc)
    go false true c d false q f g h e = clash (cc)
    go false false true d false q f g h e = clash (cc)
    go false false false true false q f g h e = clash (cc)
    go false false false false false q true g h e = clash (cc)
    go false false false false false q false true h e = clash (cc)
    go false false false false false q false false true e = clash (cc)
    go false false false false false q false false false e = clash (cc)

-- the bytes that an IE must still have, after an II
abbrev slack : ℕ → ℕ
slack p = cond (eqb p 4) 8 0

no_slack : (p : ℕ) → (p ≡ 4 → ⊥) → slack p ≡ 0
no_slack p n = rw (ne_eqb p 4 n)

counts : (count_of 4 ≡ 22) × (count_of 5 ≡ 5)
unfolding count_of
counts = (refl, refl)

module _ (s : Text) (p : ℕ) (r : RightLine p (line_of s)) where
  first_size : T (is_in_block (rec_of (line_of s).text)) → (44 ≤ line_len s) × (slack p ≡ 0) × (record_of (line_of s).text ≡ 4)
  unfolding text_len rec_of
  first_size b =
      let k : record_of (line_of s).text ≡ 4 = is_ii (rec_of (line_of s).text) b in
      let m : 43 ≤ length (line_of s).text = block_text (line_of s).text b (r.counted ∙ ap count_of k ∙ counts.0) in
      let e : length (line_of s).text + 1 ≤ line_len s = ended_size s r.ended in
      let f : follows p 4 ≡ true = subst (λ (x : ℕ). follows p x ≡ true) k r.placed in
      (omega arith, no_slack p (λ q. let z : ◌≡◌ {A = ℕ} 4 5 = after_ii 4 (subst (λ (x : ℕ). follows x 4 ≡ true) q f) in omega arith), k)

  other_size : slack p ≤ line_len s
  unfolding text_len
  other_size = go (eqb p 4) refl
    where
      go : (x : Bool) → eqb p 4 ≡ x → cond x 8 0 ≤ line_len s
      go false q = omega arith
      go true q =
          let k : record_of (line_of s).text ≡ 5 = after_ii (record_of (line_of s).text) (subst (λ (x : ℕ). follows x (record_of (line_of s).text) ≡ true) (eqb-true p 4 q) r.placed) in
          let m : 7 ≤ length (line_of s).text = antigen_text (line_of s).text k (r.counted ∙ ap count_of k ∙ counts.1) in
          let e : length (line_of s).text + 1 ≤ line_len s = ended_size s r.ended in
          omega arith

-- 3. Bytes of lines without fault

abbrev Fits : Text → Type 0
Fits s = (n p : ℕ) (before : List Rec) → RightFrom p (lines_of s) → 52 * length (those is_first (contexts_from n before (recs s))) + slack p ≤ length s

fits_none : Fits []
unfolding RightFrom recs lines_of
fits_none n p before r = let z : slack p ≡ 0 = no_slack p (λ e. let q : ◌≡◌ {A = ℕ} 4 8 = sym e ∙ r in omega arith) in omega arith

fits_on : (s : Text) → 0 < length s → Fits (drop (line_len s) s) → Fits s
unfolding RightFrom
fits_on s h rec n p before r = rw (recs_first s h) (go (begins l before) refl)
  where
    l : Rec
    l = rec_of (line_of s).text

    rest : List Context
    rest = those is_first (contexts_from (suc n) (l ∷ before) (recs (drop (line_len s) s)))

    all : RightFrom p (line_of s ∷ lines_of (drop (line_len s) s))
    all = subst (RightFrom p) (lines_step s h) r

    line : RightLine p (line_of s)
    line = right_line p (line_of s) all.0

    later : 52 * length rest + slack (record_of (line_of s).text) ≤ length (drop (line_len s) s)
    later = rec (suc n) (record_of (line_of s).text) (l ∷ before) all.1

    go : (b : Bool) → begins l before ≡ b → 52 * length (cond b (record { number = n; before = before; line = l; after = recs (drop (line_len s) s) } ∷ rest) rest) + slack p ≤ length s
    go true e =
        let q = first_size s p line (begun l before e) in
        let z : slack (record_of (line_of s).text) ≡ 8 = ap slack q.2 in
        let w : 44 ≤ line_len s = q.0 in
        let v : slack p ≡ 0 = q.1 in
        omega (arith, later, length-drop (line_len s) s, line_le s)
    go false e = let g : 52 * length rest + slack p ≤ length s = omega (arith, later, other_size s p line, length-drop (line_len s) s, line_le s) in g

-- 52 bytes at least for each block
pub blocks_size : (f : Text) → shape_of f ≡ Ok tt → 52 * length (firsts_of f) ≤ length f
unfolding firsts_of contexts_in contexts_of
blocks_size f r =
    let q = by_lines Fits fits_none fits_on f 1 0 [] (right_start f r) in
    rw (length-map (those is_first (contexts_from 1 [] (recs f))) (start_of f)) (omega (arith, q))

-- no more blocks than there is room to sort
pub capacity : (f : Text) → shape_of f ≡ Ok tt → length f ≤ 5000000 → length (firsts_of f) ≤ 96154
capacity f r h = omega (arith, blocks_size f r)

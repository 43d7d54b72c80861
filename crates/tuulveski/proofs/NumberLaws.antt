-- How large the numbers of an answer are: a file has no more lines than bytes, no more fields, and at most 18 findings at each.
-- Assumes nothing.
use mathlib.Core.Path.{◌≡◌, refl, ap}
use mathlib.Core.Bool.{Bool, true, false, cond}
use mathlib.Core.List.{List, [], ◌∷◌, ◌++◌}
use Prim.Native.Nat.{ℕ, zero, suc, ◌+◌, ◌*◌, ◌≤◌}
use native.Mathlib.Omega.{arith}
use lib.ListN.{length, length-append, length-drop, length-map}
use Rattle.house.specs.Text.{Text, joined, those, how_many}
use Rattle.house.proofs.Small.{clash}
use Rattle.lines.specs.Lines.{Line, lines_of, line_of, text_len, line_len}
use Rattle.lines.specs.Records.{Rec, IN, is_kind, record_of, rec_of, recs}
use Rattle.lines.specs.Shape.{cause_of, cause7, fault, shape_at, shape_from, shape_of}
use Rattle.lines.proofs.LineLaws.{line_le, line_pos, lines_step}
use Rattle.lines.proofs.FieldLaws.{fields_few}
use Rattle.ledger.proofs.FoundLaws.{those_le}
use Rattle.rules.specs.Contexts.{Context, contexts_from, contexts_of, contexts_in}
use Rattle.rules.specs.Blocks.{begins_block, event_of, events_of, adds, changes, deletes}
use Rattle.rules.specs.Seen.{Setting, Seen, seen_at}
use Rattle.rules.specs.Rules.{Numbered, rules, rules_in, rules_of, is_placed, rules_at, broken_by, broken_at}
use Rattle.rules.specs.Findings.{found, fields_findings, line_findings, findings_of}
use Rattle.rules.proofs.PassLaws.{by_lines, recs_first}
use Rattle.answers.specs.declared.Refusal.TheVariants.{Date, Long, Book, Ledger, Shape as BadShape, Findings, Full}
use Rattle.answers.specs.Answers.{Answer, Lent, setting_of, findings, added, changed, deleted, not_immunized, check}
use Rattle.demands.specs.Demands.{Due}
use Rattle.tuulveski.specs.Inside.{Narrow}
use Rattle.demands.proofs.AnswerLaws.{given_due, only_findings}
use Rattle.lines.specs.declared.Cause.{Cause}
use Rattle.lines.specs.declared.Fault.{Fault}
use Rattle.lines.specs.declared.Cause.TheVariants.{NoEnd}
use Rattle.std.proofs.Common.{Option, Some, None, Ok, Err}

-- 1. Lines

abbrev FewLines : Text → Type 0
FewLines s = length (lines_of s) ≤ length s

lines_few : (s : Text) → FewLines s
unfolding lines_of
lines_few s =
    by_lines FewLines (omega arith)
    (λ t h rec. rw (lines_step t h) (omega (arith, rec, length-drop (line_len t) t, line_pos t h, line_le t))) s

abbrev FewRecs : Text → Type 0
FewRecs s = length (recs s) ≤ length s

recs_few : (s : Text) → FewRecs s
unfolding recs lines_of
recs_few s =
    by_lines FewRecs (omega arith)
    (λ t h rec. rw (recs_first t h) (omega (arith, rec, length-drop (line_len t) t, line_pos t h, line_le t))) s

same_line : (n line : ℕ) (c d : Cause) → fault n c ≡ fault line d → n ≡ line
same_line n line c d e =
    let q : ◌≡◌ {A = Fault} (record { line = n; cause = c }) (record { line = line; cause = d }) = cc in
    ap (λ (f : Fault). f.line) q

-- a fault is at a line of the file, or one past the last
fault_at : (n p : ℕ) (ls : List Line) (line : ℕ) (cause : Cause) → shape_from n p ls ≡ fault line cause → line ≤ n + length ls
unfolding shape_from
fault_at n p [] line cause e = go (cause7 p) e
  where
    go : (b : Bool) → cond b (fault n NoEnd) (Ok tt) ≡ fault line cause → line ≤ n + 0
    go true e = omega (arith, same_line n line NoEnd cause e)
    go false e = clash (cc)
fault_at n p (l ∷ ls) line cause e = go (cause_of p l) e (fault_at (n + 1) (record_of l.text) ls line cause)
  where
    go : (c : Option Cause) → shape_at n c (shape_from (n + 1) (record_of l.text) ls) ≡ fault line cause
        → (shape_from (n + 1) (record_of l.text) ls ≡ fault line cause → line ≤ n + 1 + length ls)
        → line ≤ n + suc (length ls)
    go None e rec = omega (arith, rec e)
    go (Some c) e rec = omega (arith, same_line n line c cause e)

shape_few : (s : Text) (line : ℕ) (cause : Cause) → shape_of s ≡ fault line cause → line ≤ 1 + length s
unfolding shape_of
shape_few s line cause e = omega (arith, fault_at 1 0 (lines_of s) line cause e, lines_few s)

-- 2. Blocks and IN records

places_size : (n : ℕ) (before ls : List Rec) → length (contexts_from n before ls) ≡ length ls
places_size n before [] = refl
places_size n before (l ∷ ls) = ap suc (places_size (suc n) (l ∷ before) ls)

events_few : (type file : Text) → length (events_of type (contexts_in file)) ≤ length file
unfolding events_of contexts_in contexts_of
events_few type file =
    omega (
      arith,
      length-map (those (begins_block type) (contexts_from 1 [] (recs file))) (λ (h : Context). event_of h.line),
      those_le (begins_block type) (contexts_from 1 [] (recs file)),
      places_size 1 [] (recs file),
      recs_few file,
    )

count_le : (p : Rec → Bool) (ls : List Rec) → how_many p ls ≤ length ls
count_le p [] = omega arith
count_le p (l ∷ ls) = go (p l) (count_le p ls)
  where
    go : (b : Bool) → how_many p ls ≤ length ls → cond b (suc (how_many p ls)) (how_many p ls) ≤ suc (length ls)
    go true h = omega arith
    go false h = omega arith

-- 3. Fields

abbrev fields_in : List Rec → ℕ
fields_in [] = 0
fields_in (l ∷ ls) = length l.fields + fields_in ls

abbrev FewFields : Text → Type 0
FewFields s = fields_in (recs s) ≤ length s

all_fields_few : (s : Text) → FewFields s
unfolding recs lines_of rec_of text_len line_len
all_fields_few s =
    by_lines FewFields (omega arith)
    (λ t h rec.
    rw (recs_first t h)
    (omega (arith, rec, length-drop (line_len t) t, fields_few (line_of t).text, line_le t))) s

-- 4. Findings

found_size : (n f : ℕ) (rs : List ℕ) → length (found n f rs) ≡ length rs
unfolding found
found_size n f [] = refl
found_size n f (r ∷ rs) = ap suc (found_size n f rs)

module _ (s : Setting) where
  broken_few : (v : Seen) (f : ℕ) (xs : List Numbered) → length (broken_by s v f xs) ≤ length xs
  broken_few v f [] = omega arith
  broken_few v f (x ∷ xs) = go (x.broken s v f) (broken_few v f xs)
    where
      go : (b : Bool) → length (broken_by s v f xs) ≤ length xs → length (cond b (x.number ∷ []) [] ++ broken_by s v f xs) ≤ suc (length xs)
      go true h = omega arith
      go false h = omega arith

  eighteen : length (rules_of s) ≡ 18
  unfolding rules_of rules_in rules
  eighteen = refl

  at_most_18 : (v : Seen) (f : ℕ) → length (broken_at s v f) ≤ 18
  unfolding broken_at rules_at
  at_most_18 v f = omega (arith, broken_few v f (rules_at s v.line.kind f), those_le (is_placed v.line.kind f) (rules_of s), eighteen)

  fields_findings_lem : (n : ℕ) (v : Seen) (f m : ℕ) → length (fields_findings s n v f m) ≤ 18 * m
  unfolding fields_findings
  fields_findings_lem n v f zero = omega arith
  fields_findings_lem n v f (suc m) =
      omega (
        arith,
        length-append (found n f (broken_at s v f)) (fields_findings s n v (f + 1) m),
        found_size n f (broken_at s v f),
        at_most_18 v f,
        fields_findings_lem n v (f + 1) m,
      )

  lines_findings : (n : ℕ) (before ls : List Rec) → length (joined (line_findings s) (contexts_from n before ls)) ≤ 18 * fields_in ls
  unfolding line_findings
  lines_findings n before [] = omega arith
  lines_findings n before (l ∷ ls) =
      let h : Context = record { number = n; before = before; line = l; after = ls } in
      omega (
        arith,
        length-append (fields_findings s n (seen_at s h) 1 (length l.fields)) (joined (line_findings s) (contexts_from (suc n) (l ∷ before) ls)),
        fields_findings_lem n (seen_at s h) 1 (length l.fields),
        lines_findings (suc n) (l ∷ before) ls,
      )

  findings_few : (file : Text) → length (findings_of s file) ≤ 18 * length file
  unfolding findings_of contexts_in contexts_of
  findings_few file = omega (arith, lines_findings 1 [] (recs file), all_fields_few file)

-- 5. The numbers of the answer

due_narrow : (x : Lent) (a : Answer) → Due x a → Narrow a
unfolding Due Narrow added changed deleted not_immunized findings
due_narrow x (Ok a) h =
    let short : length x.file ≤ 5000000 = h.0.lends.short in (
      omega (arith, h.3, events_few adds x.file),
      omega (arith, h.4, events_few changes x.file),
      omega (arith, h.5, events_few deletes x.file),
      omega (arith, h.6, count_le (is_kind IN) (recs x.file), recs_few x.file),
    )
due_narrow x (Err Date) h = tt
due_narrow x (Err Long) h = tt
due_narrow x (Err Book) h = tt
due_narrow x (Err Ledger) h = tt
due_narrow x (Err (BadShape f)) h = let short : length x.file ≤ 5000000 = h.0.short in omega (arith, shape_few x.file f.line f.cause h.1)
due_narrow x (Err (Findings n)) h =
    let short : length x.file ≤ 5000000 = h.0.lends.short in
    let e : findings x ≡ h.2 = only_findings x h.2 h.3 in
    omega (arith, ap length e, h.4, findings_few (setting_of x) x.file)
due_narrow x (Err Full) h = tt

pub check_narrow : (x : Lent) → Narrow (check x).answer
check_narrow x = due_narrow x (check x).answer (given_due x)

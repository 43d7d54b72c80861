-- The findings of a written file are those of its chart records' own fields.
-- Assumes nothing.
use Prim.Native.Nat.{ℕ, suc, ◌+◌, ◌-◌, ◌≤◌}
use native.Mathlib.Omega.{arith}
use mathlib.Core.Path.{◌≡◌, refl, ap, ◌∙◌}
use mathlib.Core.Bool.{true, false}
use mathlib.Core.List.{List, [], ◌∷◌, ◌++◌}
use lib.ListN.{length}
use Rattle.house.specs.Text.{Text, how_many, joined}
use Rattle.lines.specs.Records.{Rec, IV, IH, IF}
use Rattle.rules_definitions.specs.Forms.{is_prefix, is_batch}
use Rattle.rules_definitions.specs.Contexts.{Context, contexts_from, contexts_of, contexts_in, is_numbered}
use Rattle.rules_definitions.specs.Seen.{Setting, Seen, seen_at}
use Rattle.rules_definitions.specs.Rules.{broken_at}
use Rattle.rules_definitions.specs.Findings.{found, fields_findings, line_findings, findings_of}
use Rattle.chart_definitions.specs.Charts.{Charted, charted_in, written_fields, ordered}
use Rattle.chart_definitions.specs.Submissions.{numbered_fields, version_fields, header_fields, footer_fields, other_lines, Request, records_of}
use Rattle.chart_definitions.proofs.FollowLaws.{ordered_rest}
use Rattle.chart_definitions.proofs.WritingOrderLaws.{order_length}
use Rattle.chart_claims.specs.ClaimsRead.{reading, record_recs, submission_recs}
use Rattle.chart_claims.specs.ClaimsFindings.{own_findings, chart_findings, FindingsOfRecords, FindingsOfChart, NoFinding}
use Rattle.chart_claims.proofs.RightLaws.{ChartKind, ip, ii, ie, not_immunized_count, ia, is_before, first_kind, kind_before, right_request}
use Rattle.chart_claims.proofs.ReadLaws.{read_back}
use Rattle.chart_claims.proofs.NumberFindings.{record_type, record_number, version_type, version_right, header_type, header_prefix, header_batch, footer_type, footer_count, footer_sum}

pub findings_of_records : FindingsOfRecords
unfolding findings_of contexts_in
findings_of_records s x e = ap (λ (ls : List Rec). joined (line_findings s) (contexts_of ls)) (read_back x e)

-- LINES

abbrev context : ℕ → List Rec → Rec → List Rec → Context
context n before line after = record { number = n; before = before; line = line; after = after }

-- fields without findings
module _ (s : Setting) (n : ℕ) (v : Seen) where
  two_clear : (m : ℕ) → broken_at s v 1 ≡ [] → broken_at s v 2 ≡ [] → fields_findings s n v 1 (suc (suc m)) ≡ fields_findings s n v 3 m
  unfolding fields_findings found
  two_clear m a b = rw (a, b)

  three_clear : broken_at s v 1 ≡ [] → broken_at s v 2 ≡ [] → broken_at s v 3 ≡ [] → fields_findings s n v 1 3 ≡ []
  unfolding fields_findings found
  three_clear a b c = rw (a, b, c)

none_clear : (s : Setting) (n : ℕ) (v : Seen) → fields_findings s n v 3 0 ≡ []
unfolding fields_findings
none_clear s n v = refl

numbered_kind : (l : Rec) → ChartKind l.kind → is_numbered l ≡ true
unfolding is_numbered
numbered_kind l (ip e) = rw e
numbered_kind l (ii e) = rw e
numbered_kind l (ie e) = rw e
numbered_kind l (not_immunized_count e) = rw e
numbered_kind l (ia e) = rw e

others : (fs : List Text) → (is_numbered (reading IV fs) ≡ false) × (is_numbered (reading IH fs) ≡ false) × (is_numbered (reading IF fs) ≡ false)
unfolding is_numbered
others fs = (refl, refl, refl)

module _ (s : Setting) (i : ℕ) (before after : List Rec) where
  version_line : line_findings s (context i before (reading IV version_fields) after) ≡ own_findings s (context i before (reading IV version_fields) after)
  unfolding line_findings own_findings seen_at
  version_line =
      let v = seen_at s (context i before (reading IV version_fields) after) in
      rw (others version_fields).0 (two_clear s i v 0 (version_type s v refl) (version_right s v refl) ∙ none_clear s i v)

  header_line : (prefix batch : Text) → is_prefix prefix ≡ true → is_batch batch ≡ true
      → line_findings s (context i before (reading IH (header_fields prefix batch)) after) ≡ own_findings s (context i before (reading IH (header_fields prefix batch)) after)
  unfolding line_findings own_findings seen_at
  header_line prefix batch p b =
      let v = seen_at s (context i before (reading IH (header_fields prefix batch)) after) in
      rw (others (header_fields prefix batch)).1
      (three_clear s i v (header_type s v prefix batch p b refl) (header_prefix s v prefix batch p b refl) (header_batch s v prefix batch p b refl))

  footer_line : (n : ℕ) → n ≤ 100002
      → line_findings s (context i before (reading IF (footer_fields n)) after) ≡ own_findings s (context i before (reading IF (footer_fields n)) after)
  unfolding line_findings own_findings seen_at
  footer_line n h =
      let v = seen_at s (context i before (reading IF (footer_fields n)) after) in
      rw (others (footer_fields n)).2 (three_clear s i v (footer_type s v n h refl) (footer_count s v n h refl) (footer_sum s v n h refl))

  record_line : (n : ℕ) (r : Charted) → ChartKind r.kind → suc (how_many is_numbered before) ≡ n → 1 ≤ n → n ≤ 99999
      → line_findings s (context i before (reading r.kind (numbered_fields n r)) after) ≡ own_findings s (context i before (reading r.kind (numbered_fields n r)) after)
  unfolding line_findings own_findings seen_at numbered_fields
  record_line n r k place from upto =
      let l = reading r.kind (numbered_fields n r) in
      let v = seen_at s (context i before l after) in
      let m : suc (suc (length (written_fields r))) - 2 ≡ length (written_fields r) = omega arith in
      rw (numbered_kind l k, m) (two_clear s i v (length (written_fields r)) (record_type s v n r refl k place from upto) (record_number s v n r refl k place from upto))

-- ALL LINES

module _ (s : Setting) where
  -- each of these lines has its own findings alone
  abbrev Clear : List Context → Type 0
  Clear hs = joined (line_findings s) hs ≡ joined (own_findings s) hs

  clear_more : (h : Context) (hs : List Context) → line_findings s h ≡ own_findings s h → Clear hs → Clear (h ∷ hs)
  clear_more h hs a b = rw (a, b)

  records_clear : (p i n : ℕ) (before : List Rec) (rs : List Charted) (tail : List Rec) → is_before p ≡ true → ordered p rs ≡ true
      → suc (how_many is_numbered before) ≡ n → 1 ≤ n → n + length rs ≤ 100000
      → ((j : ℕ) (past : List Rec) → Clear (contexts_from j past tail))
      → Clear (contexts_from i before (record_recs n rs ++ tail))
  records_clear p i n before [] tail b o place from upto rest = rest i before
  records_clear p i n before (r ∷ rs) tail b o place from upto rest =
      let k = first_kind p r rs b o in
      let l = reading r.kind (numbered_fields n r) in
      let after = record_recs (suc n) rs ++ tail in
      let counted : suc (how_many is_numbered (l ∷ before)) ≡ suc n = rw (numbered_kind l k) (ap suc place) in
      clear_more (context i before l after) (contexts_from (suc i) (l ∷ before) after)
      (record_line s i before after n r k place from (omega arith))
      (records_clear r.kind (suc i) (suc n) (l ∷ before) rs tail (kind_before r.kind k) (ordered_rest p r rs o) counted (omega arith) (omega arith) rest)

  module _ (prefix batch : Text) (rs : List Charted) (p : is_prefix prefix ≡ true) (b : is_batch batch ≡ true) (o : ordered IH rs ≡ true) (few : length rs ≤ 99999) where
    footer_clear : (j : ℕ) (past : List Rec) → Clear (contexts_from j past (reading IF (footer_fields (length rs + other_lines)) ∷ []))
    footer_clear j past =
        clear_more (context j past (reading IF (footer_fields (length rs + other_lines))) []) []
        (footer_line s j past [] (length rs + other_lines) (omega arith)) refl

    first_number : suc (how_many is_numbered (reading IH (header_fields prefix batch) ∷ reading IV version_fields ∷ [])) ≡ 1
    first_number = rw ((others (header_fields prefix batch)).1, (others version_fields).0)

    submission_clear : Clear (contexts_of (submission_recs prefix batch rs))
    unfolding contexts_of submission_recs
    submission_clear =
        let iv = reading IV version_fields in
        let ih = reading IH (header_fields prefix batch) in
        let tail = reading IF (footer_fields (length rs + other_lines)) ∷ [] in
        let lines = record_recs 1 rs ++ tail in
        clear_more (context 1 [] iv (ih ∷ lines)) (contexts_from 2 (iv ∷ []) (ih ∷ lines)) (version_line s 1 [] (ih ∷ lines))
        (clear_more (context 2 (iv ∷ []) ih lines) (contexts_from 3 (ih ∷ iv ∷ []) lines) (header_line s 2 (iv ∷ []) lines prefix batch p b)
        (records_clear IH 3 1 (ih ∷ iv ∷ []) rs tail refl o first_number (omega arith) (omega arith) footer_clear))

-- as many are written
as_many : (x : Request) → ordered IH (charted_in x.chart) ≡ true → length (records_of x) ≡ length (charted_in x.chart)
unfolding records_of
as_many x o = order_length (charted_in x.chart) o

pub findings_of_chart : FindingsOfChart
unfolding chart_findings
findings_of_chart s x e few =
    let r = right_request x e in
    let k : length (records_of x) ≤ 99999 = omega (arith, as_many x r.charted) in
    findings_of_records s x e ∙ submission_clear s x.prefix x.batch (records_of x) r.prefixed r.batched r.in_order_lem k

-- "If the chart records, at most 99,999, break no rule once so ordered, the file has no finding."
pub no_finding_lem : NoFinding
no_finding_lem s x e few none = findings_of_chart s x e few ∙ none

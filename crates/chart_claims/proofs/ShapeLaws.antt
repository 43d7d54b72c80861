-- The file is a submission: no line has a fault.
-- Assumes nothing.
use Prim.Native.Nat.{ℕ, suc, ◌+◌, ◌-◌}
use native.Mathlib.Omega.{arith}
use mathlib.Core.Path.{◌≡◌, refl, sym, ap, ◌∙◌}
use mathlib.Core.Bool.{true, false}
use mathlib.Core.List.{List, [], ◌∷◌, ◌++◌, append_assoc, append-nil}
use lib.Dec.{eqb, leb}
use lib.ListN.{length, get_or}
use lib.Seq.{get_or-append-add}
use lib.ListN.{length-append}
use borrow.Author.Tests.{leb-true, le-ltb, eq-eqb}
use Rattle.house.specs.Text.{Text, bytes, all, joined, within}
use Rattle.house.proofs.Small.{both}
use Rattle.writing.specs.Writing.{decimal}
use Rattle.lines.specs.Lines.{pipe, Line, lines_of}
use Rattle.lines.specs.Records.{IV, IH, IF, letter_kind, kind_of, record_of, count_of}
use Rattle.lines.specs.Shape.{follows, cause1, printable, cause2, pipe_last, cause3, cause4, cause5, cause6, cause_of, cause7, shape_from, shape_of}
use Rattle.chart_definitions.specs.Charts.{Charted, written_fields, is_field_byte, well_formed, ordered}
use Rattle.chart_definitions.specs.Submissions.{piped, line_text, type_text, numbered_fields, record_text, records_text, version_fields, header_fields, footer_fields, other_lines, submission_of, records_of, file_of}
use Rattle.chart_definitions.proofs.FollowLaws.{ordered_here, ordered_rest}
use Rattle.chart_claims.specs.ClaimsRead.{ShapeRight}
use Rattle.chart_claims.proofs.FieldLaws.{plain_fields, numbered_plain}
use Rattle.chart_claims.proofs.LineLaws.{fields_back, text_plain, line_back}
use Rattle.chart_claims.proofs.RightLaws.{is_before, first_kind, kind_before, kind_back, kind_known, given_count, right_request, formed_plain, prefix_plain, batch_plain}
use Rattle.chart_claims.proofs.ReadLaws.{parts, version_plain, header_plain, footer_plain}
use Rattle.std.proofs.Common.{None, Ok}

all_printable : (t : Text) → all (within 32 126) t ≡ true → printable t ≡ true
unfolding printable
all_printable [] e = refl
all_printable (b ∷ t) e =
    let k = both (within 32 126 b) (all (within 32 126) t) e in
    let m = both (leb 32 b) (leb b 126) k.0 in
    rw (le-ltb b 32 (leb-true 32 b m.0), le-ltb 126 b (leb-true b 126 m.1)) (all_printable t k.1)

-- a text that is not empty, and a pipe last
last_piped : (t : Text) → get_or (t ++ (pipe ∷ [])) (length (t ++ (pipe ∷ [])) - 1) 0 ≡ pipe
last_piped t =
    let e : length (t ++ (pipe ∷ [])) - 1 ≡ length t + 0 = omega (arith, length-append t (pipe ∷ [])) in
    ap (λ (n : ℕ). get_or (t ++ (pipe ∷ [])) n 0) e ∙ get_or-append-add t (pipe ∷ []) 0 0

-- the fields before the last pipe
piped_last : (f : Text) (fs : List Text) → (t : Text) × (joined piped (f ∷ fs) ≡ t ++ (pipe ∷ []))
piped_last f [] = (f, append-nil (piped f))
piped_last f (g ∷ fs) = let r = piped_last g fs in (piped f ++ r.0, ap (λ (s : Text). piped f ++ s) r.1 ∙ sym (append_assoc (piped f) r.0 (pipe ∷ [])))

closed : (f : Text) (fs : List Text) → pipe_last (joined piped (f ∷ fs)) ≡ true
unfolding pipe_last
closed f fs = let r = piped_last f fs in rw (r.1, last_piped r.0)

-- A line without fault
module _ (n p k : ℕ) (f : Text) (fs : List Text) (s : Text) (e : plain_fields (f ∷ fs) ≡ true)
    (named : kind_of f ≡ k) (known : eqb k 0 ≡ false) (counted : suc (length fs) ≡ count_of k) (placed : follows p k ≡ true) where
  abbrev here : Line
  here = record { text = joined piped (f ∷ fs); ended = true }

  here_kind : record_of here.text ≡ k
  unfolding record_of
  here_kind = ap (λ (gs : List Text). kind_of (get_or gs 0 [])) (fields_back (f ∷ fs) e) ∙ named

  no_cause : cause_of p here ≡ None
  unfolding cause_of cause1 cause2 cause3 cause4 cause5 cause6
  no_cause =
      rw (all_printable (joined piped (f ∷ fs)) (text_plain (f ∷ fs) e), closed f fs, here_kind, known, fields_back (f ∷ fs) e, eq-eqb (suc (length fs)) (count_of k) counted, placed)

  shape_line : shape_from n p (lines_of (line_text (f ∷ fs) ++ s)) ≡ shape_from (n + 1) k (lines_of s)
  unfolding shape_from
  shape_line = rw (line_back (f ∷ fs) s e, no_cause, here_kind)

-- the records, and what follows them
shape_records : (m n p : ℕ) (rs : List Charted) (s : Text) → is_before p ≡ true → ordered p rs ≡ true → all well_formed rs ≡ true
    → ((i q : ℕ) → follows q IF ≡ true → shape_from i q (lines_of s) ≡ Ok tt)
    → shape_from n p (lines_of (records_text m rs ++ s)) ≡ Ok tt
unfolding records_text record_text ordered numbered_fields
shape_records m n p [] s b o w rest = rest n p o
shape_records m n p (r ∷ rs) s b o w rest =
    let c = first_kind p r rs b o in
    let k = both (well_formed r) (all well_formed rs) w in
    ap (λ (t : Text). shape_from n p (lines_of t)) (append_assoc (line_text (numbered_fields m r)) (records_text (suc m) rs) s)
    ∙ shape_line n p r.kind (type_text r.kind) (decimal m ∷ written_fields r) (records_text (suc m) rs ++ s) (numbered_plain m r (formed_plain r k.0))
    (kind_back r.kind c) (kind_known r.kind c) (given_count r c) (ordered_here p r rs o)
    ∙ shape_records (suc m) (n + 1) r.kind rs s (kind_before r.kind c) (ordered_rest p r rs o) k.1 rest

kinds : (kind_of (bytes "IV") ≡ IV) × (kind_of (bytes "IH") ≡ IH) × (kind_of (bytes "IF") ≡ IF)
unfolding kind_of letter_kind
kinds = (refl, refl, refl)

counts : (2 ≡ count_of IV) × (3 ≡ count_of IH) × (3 ≡ count_of IF)
unfolding count_of
counts = (refl, refl, refl)

starts : (follows 0 IV ≡ true) × (follows IV IH ≡ true)
unfolding follows
starts = (refl, refl)

ended : (n : ℕ) → shape_from n IF (lines_of []) ≡ Ok tt
unfolding shape_from cause7 lines_of
ended n = refl

module _ (prefix batch : Text) (rs : List Charted)
    (p : all is_field_byte prefix ≡ true) (b : all is_field_byte batch ≡ true) (o : ordered IH rs ≡ true) (w : all well_formed rs ≡ true) where
  footer : (i q : ℕ) → follows q IF ≡ true → shape_from i q (lines_of (line_text (footer_fields (length rs + other_lines)))) ≡ Ok tt
  footer i q f =
      ap (λ (t : Text). shape_from i q (lines_of t)) (sym (append-nil (line_text (footer_fields (length rs + other_lines)))))
      ∙ shape_line i q IF (bytes "IF") (decimal (length rs + other_lines) ∷ bytes "0" ∷ []) [] (footer_plain (length rs + other_lines)) kinds.2 refl counts.2 f
      ∙ ended (i + 1)

  pub submission_shape : shape_of (submission_of prefix batch rs) ≡ Ok tt
  unfolding submission_of shape_of
  submission_shape =
      ap (λ (t : Text). shape_from 1 0 (lines_of t)) (parts (line_text version_fields) (line_text (header_fields prefix batch)) (records_text 1 rs) (line_text (footer_fields (length rs + other_lines))))
      ∙ shape_line 1 0 IV (bytes "IV") (bytes "7.2" ∷ []) (line_text (header_fields prefix batch) ++ (records_text 1 rs ++ line_text (footer_fields (length rs + other_lines)))) version_plain kinds.0 refl counts.0 starts.0
      ∙ shape_line 2 IV IH (bytes "IH") (prefix ∷ batch ∷ []) (records_text 1 rs ++ line_text (footer_fields (length rs + other_lines))) (header_plain prefix batch p b) kinds.1 refl counts.1 starts.1
      ∙ shape_records 1 3 IH rs (line_text (footer_fields (length rs + other_lines))) refl o w footer

pub shape_right : ShapeRight
unfolding file_of
shape_right x e =
    let r = right_request x e in
    submission_shape x.prefix x.batch (records_of x) (prefix_plain x.prefix r.prefixed) (batch_plain x.batch r.batched) r.in_order_lem r.formed

-- The file read back: the fields of the records, in their order.
-- Assumes nothing.
use Prim.Native.Nat.{ℕ, suc, ◌+◌}
use mathlib.Core.Path.{◌≡◌, refl, sym, ap, ◌∙◌}
use mathlib.Core.Bool.{true}
use mathlib.Core.List.{List, [], ◌∷◌, ◌++◌, append_assoc, append-nil}
use lib.ListN.{length, get_or}
use Rattle.house.specs.Text.{Text, bytes, all}
use Rattle.house.proofs.Small.{both}
use Rattle.lines.specs.Lines.{lines_of}
use Rattle.lines.specs.Records.{Rec, IV, IH, IF, letter_kind, kind_of, recs}
use Rattle.chart_definitions.specs.Charts.{Charted, is_field_byte, well_formed, ordered}
use Rattle.chart_definitions.specs.Submissions.{line_text, type_text, numbered_fields, record_text, records_text, version_fields, header_fields, footer_fields, other_lines, submission_of, records_of, file_of}
use Rattle.chart_definitions.proofs.FollowLaws.{ordered_rest}
use Rattle.chart_claims.specs.ClaimsRead.{reading, record_recs, submission_recs, ReadBack}
use Rattle.chart_claims.proofs.FieldLaws.{plain_fields, decimal_plain, numbered_plain}
use Rattle.chart_claims.proofs.LineLaws.{rec_back}
use Rattle.chart_claims.proofs.RightLaws.{is_before, first_kind, kind_before, kind_back, right_request, formed_plain, prefix_plain, batch_plain}

no_recs : recs [] ≡ []
unfolding recs lines_of
no_recs = refl

-- one after the other
pub parts : (a b c d : Text) → a ++ b ++ c ++ d ≡ a ++ (b ++ (c ++ d))
parts a b c d = append_assoc (a ++ b) c d ∙ append_assoc a b (c ++ d)

pub version_plain : plain_fields version_fields ≡ true
unfolding is_field_byte
version_plain = refl

ih_plain : all is_field_byte (bytes "IH") ≡ true
unfolding is_field_byte
ih_plain = refl

if_plain : (all is_field_byte (bytes "IF") ≡ true) × (all is_field_byte (bytes "0") ≡ true)
unfolding is_field_byte
if_plain = (refl, refl)

pub header_plain : (prefix batch : Text) → all is_field_byte prefix ≡ true → all is_field_byte batch ≡ true → plain_fields (header_fields prefix batch) ≡ true
header_plain prefix batch p b = rw (ih_plain, p, b)

pub footer_plain : (n : ℕ) → plain_fields (footer_fields n) ≡ true
footer_plain n = rw (if_plain.0, decimal_plain n, if_plain.1)

kind_iv : kind_of (bytes "IV") ≡ IV
unfolding kind_of letter_kind
kind_iv = refl

kind_ih : kind_of (bytes "IH") ≡ IH
unfolding kind_of letter_kind
kind_ih = refl

kind_if : kind_of (bytes "IF") ≡ IF
unfolding kind_of letter_kind
kind_if = refl

-- the records
numbered_kind : (n : ℕ) (r : Charted) → kind_of (type_text r.kind) ≡ r.kind → kind_of (get_or (numbered_fields n r) 0 []) ≡ r.kind
unfolding numbered_fields
numbered_kind n r e = e

records_back : (p n : ℕ) (rs : List Charted) (s : Text) → is_before p ≡ true → ordered p rs ≡ true → all well_formed rs ≡ true
    → recs (records_text n rs ++ s) ≡ record_recs n rs ++ recs s
unfolding records_text record_text
records_back p n [] s b o w = refl
records_back p n (r ∷ rs) s b o w =
    let c = first_kind p r rs b o in
    let k = both (well_formed r) (all well_formed rs) w in
    ap recs (append_assoc (line_text (numbered_fields n r)) (records_text (suc n) rs) s)
    ∙ rec_back (numbered_fields n r) (records_text (suc n) rs ++ s) (numbered_plain n r (formed_plain r k.0))
    ∙ ap (λ (m : ℕ). reading m (numbered_fields n r) ∷ recs (records_text (suc n) rs ++ s)) (numbered_kind n r (kind_back r.kind c))
    ∙ ap (λ (ls : List Rec). reading r.kind (numbered_fields n r) ∷ ls) (records_back r.kind (suc n) rs s (kind_before r.kind c) (ordered_rest p r rs o) k.1)

before_ih : is_before IH ≡ true
before_ih = refl

module _ (prefix batch : Text) (rs : List Charted)
    (p : all is_field_byte prefix ≡ true) (b : all is_field_byte batch ≡ true) (o : ordered IH rs ≡ true) (w : all well_formed rs ≡ true) where
  abbrev last : List Text
  last = footer_fields (length rs + other_lines)

  last_back : recs (line_text last) ≡ reading IF last ∷ []
  last_back =
      ap recs (sym (append-nil (line_text last)))
      ∙ rec_back last [] (footer_plain (length rs + other_lines))
      ∙ rw (kind_if, no_recs)

  pub submission_back : recs (submission_of prefix batch rs) ≡ submission_recs prefix batch rs
  unfolding submission_of submission_recs
  submission_back =
      ap recs (parts (line_text version_fields) (line_text (header_fields prefix batch)) (records_text 1 rs) (line_text last))
      ∙ rec_back version_fields (line_text (header_fields prefix batch) ++ (records_text 1 rs ++ line_text last)) version_plain
      ∙ rw (
        kind_iv,
        rec_back (header_fields prefix batch) (records_text 1 rs ++ line_text last) (header_plain prefix batch p b),
        kind_ih,
        records_back IH 1 rs (line_text last) before_ih o w,
        last_back,
      )

-- "Reading the file back gives these fields in that order."
pub read_back : ReadBack
unfolding file_of
read_back x e =
    let r = right_request x e in
    submission_back x.prefix x.batch (records_of x) (prefix_plain x.prefix r.prefixed) (batch_plain x.batch r.batched) r.in_order_lem r.formed

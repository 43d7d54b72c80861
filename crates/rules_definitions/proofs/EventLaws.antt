-- The event that an II in a block names: the fields that it is made of, its form, and that one key is one event.
-- Assumes nothing.
use Prim.Native.Nat.{ℕ, ◌≤◌}
use native.Mathlib.Omega.{arith}
use mathlib.Core.Path.{◌≡◌, sym, ap, ◌∙◌}
use mathlib.Core.Bool.{Bool, true, false, not, ◌&&◌}
use lib.ListN.{length, take, drop}
use lib.Dec.{T, eqb, leb, eqb→eq, leb→le}
use Rattle.house.specs.Text.{Text, same, all, run, within, is_digit, is_graphic, is_empty, digits, number, pad, is_padded}
use Rattle.dates.specs.Dates.{is_date, is_day}
use Rattle.house.proofs.Facts.{both, both_of}
use Rattle.house.proofs.Decisions.{is_same_t}
use Rattle.house.proofs.Padding.{pad_whole, pad_inj, pad_padded, length_key, key_uli, key_date, key_vaccine}
use Rattle.lines.specs.Records.{Rec, II, is_kind}
use Rattle.ledger.specs.Ledger.{event_form}
use Rattle.rules_definitions.specs.Forms.{text, table, form_of, is_judged, is_optional, is_missing, is_misformed, is_sound, is_uli, is_type, is_code}
use Rattle.rules_definitions.specs.Blocks.{is_in_block, event_of, same_event}

-- a mandatory field that is sound is of its form and not empty
sound_given : (empty form : Bool) → T (not empty && not (not form && not empty)) → T form × T (not empty)
sound_given true form t = absurd t
sound_given false true t = (tt, tt)
sound_given false false t = absurd t

pub record Named (l : Rec) : Type 0 where
  pub kind_is : T (is_kind II l)
  pub uli : T (is_uli (text l 3))
  pub type_given : T (not (is_empty (text l 4)))
  pub date : T (is_date (text l 6))
  pub code : T (is_code (text l 8))
  pub code_given : T (not (is_empty (text l 8)))

pub named : (l : Rec) → T (is_in_block l) → Named l
unfolding is_in_block is_sound is_missing is_misformed is_judged is_optional form_of table
named l h =
    let p = both (is_kind II l) (is_sound II l 3 && (is_sound II l 4 && (is_sound II l 6 && is_sound II l 8))) h in
    let q = both (is_sound II l 3) (is_sound II l 4 && (is_sound II l 6 && is_sound II l 8)) p.1 in
    let r = both (is_sound II l 4) (is_sound II l 6 && is_sound II l 8) q.1 in
    let s = both (is_sound II l 6) (is_sound II l 8) r.1 in
    record {
      kind_is = p.0;
      uli = (sound_given (is_empty (text l 3)) (is_uli (text l 3)) q.0).0;
      type_given = (sound_given (is_empty (text l 4)) (is_type (text l 4)) r.0).1;
      date = (sound_given (is_empty (text l 6)) (is_date (text l 6)) s.0).0;
      code = (sound_given (is_empty (text l 8)) (is_code (text l 8)) s.1).0;
      code_given = (sound_given (is_empty (text l 8)) (is_code (text l 8)) s.1).1;
    }

run_says : (lo hi : ℕ) (class : ℕ → Bool) (t : Text) → T (run lo hi class t) → (lo ≤ length t) × (length t ≤ hi) × T (all class t)
unfolding run
run_says lo hi class t h =
    let p = both (within lo hi (length t)) (all class t) h in
    let q = both (leb lo (length t)) (leb (length t) hi) p.0 in
    (leb→le lo (length t) q.0, leb→le (length t) hi q.1, p.1)

module _ (l : Rec) (b : Named l) where
  pub uli_length : length (text l 3) ≡ 9
  unfolding is_uli
  uli_length = let p = run_says 9 9 is_digit (text l 3) b.uli in omega arith

  pub date_length : length (text l 6) ≡ 8
  unfolding is_date
  date_length =
      let p = both (eqb (length (text l 6)) 8 && digits (text l 6)) (is_day (number (text l 6))) b.date in
      let q = both (eqb (length (text l 6)) 8) (digits (text l 6)) p.0 in
      eqb→eq (length (text l 6)) 8 q.0

  pub code_says : (1 ≤ length (text l 8)) × (length (text l 8) ≤ 20) × T (all is_graphic (text l 8))
  unfolding is_code
  code_says = run_says 1 20 is_graphic (text l 8) b.code

  event_uli : pad 9 (text l 3) ≡ text l 3
  event_uli = pad_whole 9 (text l 3) uli_length

  event_date : pad 8 (text l 6) ≡ text l 6
  event_date = pad_whole 8 (text l 6) date_length

  -- the event that it names is in the form of one
  pub event_formed : T (event_form (event_of l)) × (length (event_of l) ≡ 37)
  unfolding event_of event_form is_uli
  event_formed =
      let p = code_says in
      let u : T (run 9 9 is_digit (pad 9 (text l 3))) = rw event_uli b.uli in
      let d : T (is_date (pad 8 (text l 6))) = rw event_date b.date in (
        rw (key_uli (text l 3) (text l 6) (text l 8), key_date (text l 3) (text l 6) (text l 8), key_vaccine (text l 3) (text l 6) (text l 8))
            (both_of (run 9 9 is_digit (pad 9 (text l 3))) (is_date (pad 8 (text l 6)) && is_padded (pad 20 (text l 8))) u
            (both_of (is_date (pad 8 (text l 6))) (is_padded (pad 20 (text l 8))) d (pad_padded 20 (text l 8) p.2 (omega arith) (omega arith)))),
        length_key (text l 3) (text l 6) (text l 8),
      )

-- one key, one event
pub same_key : (l p : Rec) → Named l → Named p → event_of l ≡ event_of p → T (same_event l p)
unfolding event_of same_event
same_key l p bl bp e =
    let u : text l 3 ≡ text p 3 =
    sym (event_uli l bl) ∙ sym (key_uli (text l 3) (text l 6) (text l 8)) ∙ ap (take 9) e ∙ key_uli (text p 3) (text p 6) (text p 8) ∙ event_uli p bp in
    let d : text l 6 ≡ text p 6 =
    sym (event_date l bl) ∙ sym (key_date (text l 3) (text l 6) (text l 8)) ∙ ap (λ (t : Text). take 8 (drop 9 t)) e ∙ key_date (text p 3) (text p 6) (text p 8)
    ∙ event_date p bp in
    let k : pad 20 (text l 8) ≡ pad 20 (text p 8) =
    sym (key_vaccine (text l 3) (text l 6) (text l 8)) ∙ ap (drop 17) e ∙ key_vaccine (text p 3) (text p 6) (text p 8) in
    let cl = code_says l bl in
    let cp = code_says p bp in
    let c : text l 8 ≡ text p 8 = pad_inj 20 (text l 8) (text p 8) cl.2 cp.2 cl.1 cp.1 k in
    both_of (same (text l 3) (text p 3)) (same (text l 6) (text p 6) && same (text l 8) (text p 8)) (is_same_t (text l 3) (text p 3) u)
    (both_of (same (text l 6) (text p 6)) (same (text l 8) (text p 8)) (is_same_t (text l 6) (text p 6) d) (is_same_t (text l 8) (text p 8) c))

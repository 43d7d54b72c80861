-- What a file is judged by, as look-ups say it, is what a well-formed book lists and a well-formed ledger holds.
-- Assumes nothing.
use mathlib.Core.Path.{◌≡◌, fun_ext}
use mathlib.Core.Bool.{Bool, true}
use Prim.Native.Nat.{ℕ}
use lib.ListN.{length}
use Rattle.house.specs.Text.{Text}
use Rattle.book.specs.Book.{book_of, Sound, listed, listed_on, listed_ended}
use Rattle.book.proofs.StandingLaws.{known_is, in_force_is, ended_is}
use Rattle.ledger.specs.Ledger.{Event, ledger_ok, live_in, is_among}
use Rattle.ledger.proofs.FoundLaws.{found_live}
use Rattle.rules_definitions.specs.Seen.{Setting}
use Rattle.rules.specs.declared.By.{By}
use Rattle.rules.specs.Look.{book_in, setting_by}

abbrev setting : ℕ → (ℕ → Text → Bool) → (ℕ → ℕ → Text → Bool) → (ℕ → ℕ → Text → Bool) → (Event → Bool) → Setting
setting today known force ended live = record { profile = 0; today = today; known = known; in_force_lem = force; ended = ended; live = live }

setting_same : (today : ℕ) (a b : ℕ → Text → Bool) (c d e f : ℕ → ℕ → Text → Bool) (g h : Event → Bool) → a ≡ b → c ≡ d → e ≡ f → g ≡ h
    → setting today a c e g ≡ setting today b d f h
setting_same today a b c d e f g h p q r s = rw (p, q, r, s)

-- what a file is judged by, of bytes that start with a book with these sections and a ledger with so many live events
pub setting_is : (by : By) (s ledger : Text) → Sound (book_in by s) by.sections → ledger_ok ledger ≡ true → by.live ≡ length (live_in ledger)
    → setting_by by s ledger
    ≡ record {
      profile = 0;
      today = by.today;
      known = listed (book_of (book_in by s));
      in_force_lem = listed_on (book_of (book_in by s));
      ended = listed_ended (book_of (book_in by s));
      live = is_among (live_in ledger);
    }
unfolding setting_by
setting_is by s ledger h ok e =
    setting_same by.today _ _ _ _ _ _ _ _ (fun_ext (λ k. fun_ext (λ code. known_is s by.sections h k code)))
    (fun_ext (λ d. fun_ext (λ k. fun_ext (λ code. in_force_is s by.sections h k code d))))
    (fun_ext (λ u. fun_ext (λ k. fun_ext (λ code. ended_is s by.sections h k code u)))) (fun_ext (λ x. found_live ledger ok by.live x e))

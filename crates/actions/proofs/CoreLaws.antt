-- From what the loop over a normalised text leaves to what read_actions promises: one law for each way out.
use mathlib.Core.Path.{◌≡◌, refl, sym, ap, ◌∙◌}
use mathlib.Core.Bool.{Bool, true, false}
use mathlib.Core.Logic.{◌↔◌}
use mathlib.Core.List.{List, [], ◌∷◌}
use Prim.Native.Nat.{ℕ}
use native.Mathlib.Omega.{arith}
use lib.ListN.{length}
use Rattle.ascii.specs.Choice.{bit}
use Rattle.lent.specs.Endings.{starts}
use Rattle.lent.specs.Sources.{part_word, Sourced}
use Rattle.lent.specs.Table.{given, flaw_number, too_long, not_ascii, short_buffer, no_room, named, no_action, no_argument, no_variable, unknown_operator, bad_cursor, unknown_action, bad_argument, Outcome, refuses, reads}
use Rattle.lent.specs.declared.refusing.Flaw.{Flaw}
use Rattle.single_action.specs.Actions.{Action}
use Rattle.actions.specs.Pieces.{pieces}
use Rattle.actions.specs.Lists.{listed}
use Rattle.actions.specs.Listing.{Listed}
use Rattle.actions.specs.Cores.{core_outcome, reached_from, core_reached, core_text, core_records, ReadActions}
use Rattle.actions.proofs.CountLaws.{Counted, from_counted}
use Rattle.actions.specs.declared.Reached.{Reached}
use Rattle.actions.specs.declared.PieceError.{PieceError}
use Rattle.actions.specs.declared.PieceError.TheVariants.{Bad, Unknown, Unfit}
use Rattle.std.specs.Prelude.{Result, Ok, Err}

-- a refused argument is told by its number
pub bad_back : (id chain : Bool) (flaw : Flaw) (piece name span : ℕ) → Err (Bad flaw piece name span) ≡ reached_from id chain (given (flaw_number flaw) (piece ∷ name ∷ span ∷ []))
bad_back id chain Flaw.Absent piece name span = refl
bad_back id chain Flaw.Unreadable piece name span = refl
bad_back id chain Flaw.TooLarge piece name span = refl

module _ (s : List ℕ) (offset place : ℕ) (text records : List ℕ) where
  -- by what the text comes to there
  core_by : (o : Outcome (List (Sourced Action))) → core_outcome s (length text) offset place ≡ o → {text' records' : List ℕ} {r : Result Reached PieceError}
      → r ≡ core_reached offset o → text' ≡ core_text offset text o → records' ≡ core_records offset place records o
      → ReadActions s offset place text text' records records' r
  core_by o e a t w = record { answer = rw e a; texts = rw e t; words = rw e w }

  -- nothing is touched where it does not place
  pub core_unfit : starts (length s) (length text) offset place ≡ false → ReadActions s offset place text text records records (Err Unfit)
  unfolding core_outcome
  core_unfit h = core_by (refuses short_buffer) (rw h) refl refl refl

  module _ (h : starts (length s) (length text) offset place ≡ true) where
    started : (o : Outcome (List (Sourced Action))) → listed s ≡ o → core_outcome s (length text) offset place ≡ o
    unfolding core_outcome
    started o e = rw h e

    pub core_met : {text' records' : List ℕ} (r : Result Reached PieceError) → Listed s offset place text text' records records' r → ReadActions s offset place text text' records records' r
    core_met (Ok r) x =
        core_by (reads x.actions) (started (reads x.actions) x.all) (rw (x.laid.counted, x.laid.used_is, x.id_is, x.chain_is)) x.laid.written x.laid.recorded
    core_met (Err (Bad flaw piece name span)) x =
        core_by (refuses (bad_argument flaw piece x.named x.source)) (started (refuses (bad_argument flaw piece x.named x.source)) x.first) (rw (x.counted, x.underlined) (bad_back false false flaw piece (length x.named) (part_word x.source))) x.written x.cleared
    core_met (Err (Unknown piece name span)) x =
        core_by (refuses (unknown_action piece x.named x.source)) (started (refuses (unknown_action piece x.named x.source)) x.first) (rw (x.counted, x.underlined)) x.written x.cleared
    core_met (Err Unfit) x = absurd x

-- ---- unfit

-- an answer that is read or refuses a piece
abbrev fit : Result Reached PieceError → Bool
fit (Ok r) = true
fit (Err (Bad flaw piece name span)) = true
fit (Err (Unknown piece name span)) = true
fit (Err Unfit) = false

-- what pieces come to is such an answer
pieces_fit : (offset n : ℕ) (o : Outcome (List (Sourced Action))) → Counted 0 n o → fit (core_reached offset o) ≡ true
pieces_fit offset n (reads xs) h = refl
pieces_fit offset n (refuses (named no_action p name x)) h = refl
pieces_fit offset n (refuses (named (no_argument flaw) p name x)) h = ap fit (sym (bad_back false false flaw p (length name) (part_word x)))
pieces_fit offset n (refuses (named no_variable p name x)) h = absurd h
pieces_fit offset n (refuses too_long) h = absurd h
pieces_fit offset n (refuses (not_ascii p)) h = absurd h
pieces_fit offset n (refuses short_buffer) h = absurd h
pieces_fit offset n (refuses (no_room p)) h = absurd h
pieces_fit offset n (refuses (unknown_operator p l x)) h = absurd h
pieces_fit offset n (refuses bad_cursor) h = absurd h

-- it is unfit exactly where it does not place
pub unfit_exactly : {s : List ℕ} {offset place : ℕ} {text text' records records' : List ℕ} {r : Result Reached PieceError} → ReadActions s offset place text text' records records' r
    → (r ≡ Err Unfit) ↔ (starts (length s) (length text) offset place ≡ false)
unfolding core_outcome
unfit_exactly {s} {offset} {place} {text} {r = r} x = (go (starts (length s) (length text) offset place) refl, λ h. x.answer ∙ rw h)
  where
    go : (b : Bool) → starts (length s) (length text) offset place ≡ b → r ≡ Err Unfit → b ≡ false
    go false z e = refl
    go true z e =
        let a : r ≡ core_reached offset (listed s) = x.answer ∙ rw z in
        let q : true ≡ false = sym (pieces_fit offset (length (pieces s)) (listed s) (from_counted 0 (pieces s))) ∙ ap fit (sym a ∙ e) in
        absurd (omega (arith, ap bit q))

-- One step of the automaton keeps the relation in every state, and so does the end of the text.
use mathlib.Core.Path.{◌≡◌, refl, sym, subst}
use Prim.Native.Nat.{ℕ}
use mathlib.Core.List.{List, [], ◌∷◌, ◌++◌, append-nil}
use Rattle.lexer.specs.declared.Cursor.{Cursor}
use Rattle.lexer.specs.declared.quotes.Mode.TheVariants.{Plain as plain, Escaped as escaped, AfterCr as after_cr, Margin as margin}
use Rattle.lexer.specs.Runs.{run, text}
use Rattle.lexer.specs.Rules.{line_end, feed_next}
use Rattle.lexer.specs.Tokens.{tokens, token_at}
use Rattle.plain.specs.Table.{State, S, SB, SC, W, WB, WC, K, D, DB, DC, DM, Q, QB, QC, QM, Class, over, cell}
use Rattle.plain.specs.Automaton.{told, tell, stops}
use Rattle.plain.proofs.ClassLaws.{Known}
use Rattle.plain.proofs.FutureLaws.{future, Clear}
use Rattle.plain.proofs.WordTurnLaws.{Turn, turn_s, turn_sb, turn_sc, turn_w, turn_wb, turn_wc, turn_k}
use Rattle.plain.proofs.QuoteTurnLaws.{double, single, turn_inside}

module _ (r : List ℕ) (c d : Cursor) where
  pub turn : (q : State) {b : ℕ} {k : Class} → Known b k → (t : List ℕ) → Clear q t → Turn q b k r c d t
  turn S {b} {k} x t h = subst (λ (v : List ℕ). Turn S b k r c d v) (sym (h refl)) (turn_s r c d x)
  turn SB {b} {k} x t h = subst (λ (v : List ℕ). Turn SB b k r c d v) (sym (h refl)) (turn_sb r c d x)
  turn SC {b} {k} x t h = subst (λ (v : List ℕ). Turn SC b k r c d v) (sym (h refl)) (turn_sc r c d x)
  turn W x t h = turn_w r c d t x
  turn WB x t h = turn_wb r c d t x
  turn WC x t h = turn_wc r c d t x
  turn K x t h = turn_k r c d t x
  turn D x t h = turn_inside r c d double plain x t
  turn DB x t h = turn_inside r c d double escaped x t
  turn DC x t h = turn_inside r c d double after_cr x t
  turn DM x t h = turn_inside r c d double margin x t
  turn Q x t h = turn_inside r c d single plain x t
  turn QB x t h = turn_inside r c d single escaped x t
  turn QC x t h = turn_inside r c d single after_cr x t
  turn QM x t h = turn_inside r c d single margin x t

-- at the end of the text
pub finish : (q : State) (c d : Cursor) (t : List ℕ) → future q [] c d t ≡ tell (told (cell q over) q c d t) (stops c)
unfolding run text tokens token_at line_end feed_next cell
finish S c d t = refl
finish SB c d t = refl
finish SC c d t = refl
finish W c d t = rw (append-nil t)
finish WB c d t = rw (append-nil (t ++ (92 ∷ [])))
finish WC c d t = refl
finish K c d t = refl
finish D c d t = rw (append-nil t)
finish DB c d t = rw (append-nil t)
finish DC c d t = rw (append-nil t)
finish DM c d t = rw (append-nil t)
finish Q c d t = rw (append-nil t)
finish QB c d t = rw (append-nil t)
finish QC c d t = rw (append-nil t)
finish QM c d t = rw (append-nil t)

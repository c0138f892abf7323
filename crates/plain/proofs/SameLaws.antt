-- The theorem over the definitions: the automaton reads a text as the first lexer does.
use mathlib.Core.Path.{◌≡◌, refl, sym, ap, ◌∙◌, subst}
use mathlib.Core.Bool.{Bool, true, false}
use Prim.Native.Nat.{ℕ}
use native.Mathlib.Omega.{arith}
use mathlib.Core.List.{List, [], ◌∷◌}
use Rattle.lexer.specs.declared.Cursor.{Cursor}
use Rattle.lexer.specs.Cursors.{fresh, moved}
use Rattle.lexer.specs.Tokens.{reading}
use Rattle.ascii.specs.Choice.{pick}
use Rattle.plain.specs.Table.{State, S, Class, class_of, Ends, stays, here, earlier, with_it, Joins, nothing, itself, control, Next, goes, halts, Cell, cell}
use Rattle.plain.specs.Automaton.{kept, cleared, joined, left, told, tell, leads, opened, automaton, plain_reading}
use Rattle.plain.proofs.ClassLaws.{known}
use Rattle.plain.proofs.FutureLaws.{between_is, future, idle, Clear}
use Rattle.plain.proofs.TableLaws.{cell_at}
use Rattle.plain.proofs.TurnLaws.{turn, finish}

-- ---- the open text stays empty between tokens, and is empty where reading stops

abbrev idle_next : Next → Bool
idle_next (goes q) = idle q
idle_next halts = true

abbrev pub ClearNext : Next → List ℕ → Type 0
ClearNext halts t = t ≡ []
ClearNext (goes q) t = Clear q t

-- a cell leaves no open text: the token ends, or none was open
abbrev empties : Joins → Ends → Bool → Bool → Bool
empties nothing stays quiet keeps = pick keeps false quiet
empties nothing here quiet keeps = true
empties nothing earlier quiet keeps = true
empties nothing with_it quiet keeps = true
empties itself e quiet keeps = false
empties control e quiet keeps = false

abbrev tidy : State → Cell → Bool
tidy q y = pick (idle_next y.next) (empties y.joins y.ends (idle q) y.keeps) true

empty_by : (j : Joins) (e : Ends) (k quiet : Bool) (b : ℕ) (t : List ℕ) → empties j e quiet k ≡ true → (quiet ≡ true → t ≡ []) → joined j b (cleared e (kept k t)) ≡ []
empty_by nothing stays true quiet b t p h = let z : ◌≡◌ {A = ℕ} 0 1 = cc in absurd (omega arith)
empty_by nothing stays false quiet b t p h = h p
empty_by nothing here k quiet b t p h = refl
empty_by nothing earlier k quiet b t p h = refl
empty_by nothing with_it k quiet b t p h = refl
empty_by itself e k quiet b t p h = let z : ◌≡◌ {A = ℕ} 0 1 = cc in absurd (omega arith)
empty_by control e k quiet b t p h = let z : ◌≡◌ {A = ℕ} 0 1 = cc in absurd (omega arith)

clear_by : (q : State) (y : Cell) (b : ℕ) (t : List ℕ) → tidy q y ≡ true → Clear q t → ClearNext y.next (left y b t)
clear_by q y b t p h = go y.next refl
  where
    go : (n : Next) → y.next ≡ n → ClearNext n (left y b t)
    go halts i = empty_by y.joins y.ends y.keeps (idle q) b t (rw i at p) h
    go (goes r) i = λ k.
        empty_by y.joins y.ends y.keeps (idle q) b t (subst (λ (x : Bool). pick x (empties y.joins y.ends (idle q) y.keeps) true ≡ true) (ap idle_next i ∙ k) p) h

-- one computed test over the table
pub clear : (q : State) (k : Class) (b : ℕ) (t : List ℕ) → Clear q t → ClearNext (cell q k).next (left (cell q k) b t)
unfolding cell
clear q k b t h = clear_by q (cell q k) b t (cell_at (λ q k. tidy q (cell q k)) refl q k) h

-- from every state the automaton gives what the relation says
pub automaton_is : (q : State) (xs : List ℕ) (c d : Cursor) (t : List ℕ) → Clear q t → automaton q xs c d t ≡ future q xs c d t
unfolding automaton
automaton_is q [] c d t h = sym (finish q c d t)
automaton_is q (b ∷ r) c d t h =
    ap (tell (told (cell q (class_of b)) q c d t)) (go (cell q (class_of b)).next (clear q (class_of b) b t h) (λ p e u k. automaton_is p r (moved c b) e u k))
    ∙ sym (turn r c d q (known b) t h)
  where
    go : (n : Next) → ClearNext n (left (cell q (class_of b)) b t) →
        ((p : State) (e : Cursor) (u : List ℕ) → Clear p u → automaton p r (moved c b) e u ≡ future p r (moved c b) e u) →
        leads n c (λ p. automaton p r (moved c b) (opened (cell q (class_of b)).begins c d) (left (cell q (class_of b)) b t))
        ≡ leads n c (λ p. future p r (moved c b) (opened (cell q (class_of b)).begins c d) (left (cell q (class_of b)) b t))
    go halts k ih = refl
    go (goes p) k ih = ih p (opened (cell q (class_of b)).begins c d) (left (cell q (class_of b)) b t) k

-- The plain lexer's reading of any text is the first lexer's.
pub plain_is : (s : List ℕ) → plain_reading s ≡ reading s
unfolding plain_reading reading
plain_is s = automaton_is S s fresh fresh [] (λ e. refl) ∙ sym (between_is s fresh)

-- One step of the automaton keeps the relation in quotes: one law for both marks and all modes. What a byte does by the first lexer's
-- rule says what comes next (`comes`), and the table's cell comes to the same.
use mathlib.Core.Path.{◌≡◌, refl, sym, ap, ◌∙◌}
use Prim.Native.Nat.{ℕ}
use mathlib.Core.List.{List, [], ◌∷◌, ◌++◌, append_assoc, append-nil}
use Rattle.lexer.specs.declared.Cursor.{Cursor}
use Rattle.lexer.specs.Cursors.{moved}
use Rattle.lexer.specs.declared.Kind.TheVariants.{QuotedString}
use Rattle.lexer.specs.declared.quotes.Mode.{Mode}
use Rattle.lexer.specs.declared.quotes.Mode.TheVariants.{Plain as plain, Escaped as escaped, AfterCr as after_cr, Margin as margin}
use Rattle.lexer.specs.Runs.{Does, ends, closes, takes, spot, onward, gives, run, text}
use Rattle.lexer.specs.Rules.{quoted, quoted_plain, quoted_margin, unescaped}
use Rattle.lexer.specs.Tokens.{Reading, put}
use Rattle.plain.specs.Table.{State, D, DB, DC, DM, Q, QB, QC, QM, Class, cell}
use Rattle.plain.specs.Automaton.{tok, step}
use Rattle.plain.proofs.ClassLaws.{Unlike, Known, is10, is13, is32, is9, is11, is12, is92, is34, is39, is35, is110, is116, is114, none}
use Rattle.plain.proofs.FutureLaws.{between, between_is, closed, in_quotes, future}
use Rattle.plain.proofs.WordTurnLaws.{Turn}

-- both marks, and the state of each in a mode
pub data Mark : Type 0 where
  double : Mark
  single : Mark

abbrev mark_of : Mark → ℕ
mark_of double = 34
mark_of single = 39

abbrev pub inside : Mark → Mode → State
inside double plain = D
inside double escaped = DB
inside double after_cr = DC
inside double margin = DM
inside single plain = Q
inside single escaped = QB
inside single after_cr = QC
inside single margin = QM

each : (P : Mark → Mode → Type 0) → P double plain → P double escaped → P double after_cr → P double margin
    → P single plain → P single escaped → P single after_cr → P single margin → (m : Mark) (n : Mode) → P m n
each P a b c d e f g h double plain = a
each P a b c d e f g h double escaped = b
each P a b c d e f g h double after_cr = c
each P a b c d e f g h double margin = d
each P a b c d e f g h single plain = e
each P a b c d e f g h single escaped = f
each P a b c d e f g h single after_cr = g
each P a b c d e f g h single margin = h

future_inside : (m : Mark) (n : Mode) (xs : List ℕ) (c d : Cursor) (t : List ℕ) → future (inside m n) xs c d t ≡ in_quotes (mark_of m) n xs c d t
future_inside = each _ (λ xs c d t. refl) (λ xs c d t. refl) (λ xs c d t. refl) (λ xs c d t. refl) (λ xs c d t. refl) (λ xs c d t. refl) (λ xs c d t. refl) (λ xs c d t. refl)

-- a text with bytes joined one by one, as acts do it
abbrev joined_by : List ℕ → List ℕ → List ℕ
joined_by t [] = t
joined_by t (x ∷ w) = joined_by (t ++ (x ∷ [])) w

joined_is : (w t x : List ℕ) → t ++ (w ++ x) ≡ joined_by t w ++ x
joined_is [] t x = refl
joined_is (b ∷ w) t x = sym (append_assoc t (b ∷ []) (w ++ x)) ∙ joined_is w (t ++ (b ∷ [])) x

-- what an unlike byte gives: itself, behind a backslash with the backslash
abbrev unlike_text : Mode → ℕ → List ℕ
unlike_text plain b = b ∷ []
unlike_text escaped b = 92 ∷ b ∷ []
unlike_text after_cr b = b ∷ []
unlike_text margin b = b ∷ []

unlike : {b : ℕ} → Unlike b → (r : List ℕ) (m : Mark) (n : Mode) → quoted (mark_of m) n b r ≡ takes (unlike_text n b) plain
unfolding quoted quoted_plain quoted_margin unescaped
unlike u r double plain = rw (u.n92, u.n34)
unlike u r double escaped = rw (u.n10, u.n13, u.n110, u.n116, u.n114, u.n92, u.n34, u.n39)
unlike u r double after_cr = rw (u.n10, u.n32, u.n9, u.n92, u.n34)
unlike u r double margin = rw (u.n32, u.n9, u.n92, u.n34)
unlike u r single plain = rw (u.n92, u.n39)
unlike u r single escaped = rw (u.n10, u.n13, u.n110, u.n116, u.n114, u.n92, u.n34, u.n39)
unlike u r single after_cr = rw (u.n10, u.n32, u.n9, u.n92, u.n39)
unlike u r single margin = rw (u.n32, u.n9, u.n92, u.n39)

module _ (r : List ℕ) (c d : Cursor) where
  module _ (q b : ℕ) (t : List ℕ) where
    -- what comes behind a byte, by what it does in quotes that the mark q closes; none ends them before itself
    abbrev comes : Does Mode → Reading
    comes ends = closed QuotedString d (t ++ []) (spot c (b ∷ r))
    comes closes = put (tok QuotedString d (moved c b).place t) (between 0 r (moved c b))
    comes (takes w n) = in_quotes q n r (moved c b) d (joined_by t w)

    comes_is : (x : Does Mode) → closed QuotedString d (t ++ gives x (λ n. text (quoted q) n r)) (onward x b r c (λ n. run (quoted q) n r (moved c b))) ≡ comes x
    comes_is ends = refl
    comes_is closes = rw (append-nil t) (ap (put _) (between_is r (moved c b)))
    comes_is (takes w n) = rw (joined_is w t (text (quoted q) n r))

  -- the cell comes to the same
  abbrev Cells : ℕ → Class → Mark → Mode → Type 0
  Cells b k m n = (t : List ℕ) → comes (mark_of m) b t (quoted (mark_of m) n b r) ≡ step (cell (inside m n) k) (inside m n) b c d t (λ p e u. future p r (moved c b) e u)

  cells : {b : ℕ} {k : Class} → Known b k → (m : Mark) (n : Mode) → Cells b k m n
  unfolding quoted quoted_plain quoted_margin unescaped cell moved
  cells {b} {k} is10 = each (Cells b k) (λ t. refl) (λ t. refl) (λ t. refl) (λ t. refl) (λ t. refl) (λ t. refl) (λ t. refl) (λ t. refl)
  cells {b} {k} is13 = each (Cells b k) (λ t. refl) (λ t. refl) (λ t. refl) (λ t. refl) (λ t. refl) (λ t. refl) (λ t. refl) (λ t. refl)
  cells {b} {k} is32 = each (Cells b k) (λ t. refl) (λ t. refl) (λ t. refl) (λ t. refl) (λ t. refl) (λ t. refl) (λ t. refl) (λ t. refl)
  cells {b} {k} is9 = each (Cells b k) (λ t. refl) (λ t. refl) (λ t. refl) (λ t. refl) (λ t. refl) (λ t. refl) (λ t. refl) (λ t. refl)
  cells {b} {k} is11 = each (Cells b k) (λ t. refl) (λ t. refl) (λ t. refl) (λ t. refl) (λ t. refl) (λ t. refl) (λ t. refl) (λ t. refl)
  cells {b} {k} is12 = each (Cells b k) (λ t. refl) (λ t. refl) (λ t. refl) (λ t. refl) (λ t. refl) (λ t. refl) (λ t. refl) (λ t. refl)
  cells {b} {k} is92 = each (Cells b k) (λ t. refl) (λ t. refl) (λ t. refl) (λ t. refl) (λ t. refl) (λ t. refl) (λ t. refl) (λ t. refl)
  cells {b} {k} is34 = each (Cells b k) (λ t. refl) (λ t. refl) (λ t. refl) (λ t. refl) (λ t. refl) (λ t. refl) (λ t. refl) (λ t. refl)
  cells {b} {k} is39 = each (Cells b k) (λ t. refl) (λ t. refl) (λ t. refl) (λ t. refl) (λ t. refl) (λ t. refl) (λ t. refl) (λ t. refl)
  cells {b} {k} is35 = each (Cells b k) (λ t. refl) (λ t. refl) (λ t. refl) (λ t. refl) (λ t. refl) (λ t. refl) (λ t. refl) (λ t. refl)
  cells {b} {k} is110 = each (Cells b k) (λ t. refl) (λ t. refl) (λ t. refl) (λ t. refl) (λ t. refl) (λ t. refl) (λ t. refl) (λ t. refl)
  cells {b} {k} is116 = each (Cells b k) (λ t. refl) (λ t. refl) (λ t. refl) (λ t. refl) (λ t. refl) (λ t. refl) (λ t. refl) (λ t. refl)
  cells {b} {k} is114 = each (Cells b k) (λ t. refl) (λ t. refl) (λ t. refl) (λ t. refl) (λ t. refl) (λ t. refl) (λ t. refl) (λ t. refl)
  cells {b} {k} (none u) =
      let x : (m : Mark) (n : Mode) (t : List ℕ) → comes (mark_of m) b t (quoted (mark_of m) n b r) ≡ comes (mark_of m) b t (takes (unlike_text n b) plain) =
      λ m n t. ap (comes (mark_of m) b t) (unlike u r m n) in
      each (Cells b k) (x double plain) (x double escaped) (x double after_cr) (x double margin) (x single plain) (x single escaped) (x single after_cr) (x single margin)

  pub turn_inside : (m : Mark) (n : Mode) {b : ℕ} {k : Class} → Known b k → (t : List ℕ) → Turn (inside m n) b k r c d t
  unfolding run text
  turn_inside m n {b} x t = future_inside m n (b ∷ r) c d t ∙ comes_is (mark_of m) b t (quoted (mark_of m) n b r) ∙ cells x m n t

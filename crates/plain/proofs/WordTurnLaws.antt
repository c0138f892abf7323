-- One step of the automaton keeps the relation: between tokens, in a word and in a comment.
use mathlib.Core.Path.{◌≡◌, refl, ap, ◌∙◌}
use Prim.Native.Nat.{ℕ, zero, suc, ◌-◌}
use native.Mathlib.Omega.{arith}
use mathlib.Core.List.{List, [], ◌∷◌, ◌++◌, append_assoc, append-nil}
use Rattle.lexer.specs.Bytes.{class}
use Rattle.lexer.specs.declared.Cursor.{Cursor}
use Rattle.lexer.specs.Cursors.{moved}
use Rattle.lexer.specs.Runs.{Spot, spot, onward, gives, run, text}
use Rattle.lexer.specs.Rules.{before, before_by, word, word_by, word_slash, comment, line_end, feed_next}
use Rattle.lexer.specs.Tokens.{word_kind, put, token_at, token_by}
use Rattle.plain.specs.Table.{State, S, SB, SC, W, WB, WC, K, Class, other, cell}
use Rattle.plain.specs.Automaton.{tok, step}
use Rattle.plain.proofs.ClassLaws.{Unlike, class_other, Known, is10, is13, is32, is9, is11, is12, is92, is34, is39, is35, is110, is116, is114, none}
use Rattle.plain.proofs.FutureLaws.{between, between_is, closed, behind_slash, behind_return, less, future}

-- one step from q at the byte b of the class k
abbrev pub Turn : State → ℕ → Class → List ℕ → Cursor → Cursor → List ℕ → Type 0
Turn q b k r c d t = future q (b ∷ r) c d t ≡ step (cell q k) q b c d t (λ p e u. future p r (moved c b) e u)

module _ (r : List ℕ) (c d : Cursor) where
  other_s : {b : ℕ} → Unlike b → Turn S b other r c d []
  unfolding run before before_by token_at token_by cell
  other_s u = rw (class_other u) (rw (class_other u))

  pub turn_s : {b : ℕ} {k : Class} → Known b k → Turn S b k r c d []
  unfolding run text before before_by token_at token_by cell moved class
  turn_s is10 = ap (put _) (between_is r (moved c 10))
  turn_s is13 = refl
  turn_s is32 = refl
  turn_s is9 = refl
  turn_s is11 = refl
  turn_s is12 = refl
  turn_s is92 = refl
  turn_s is34 = refl
  turn_s is39 = refl
  turn_s is35 = refl
  turn_s is110 = refl
  turn_s is116 = refl
  turn_s is114 = refl
  turn_s (none u) = other_s u

  -- behind a backslash: a line end of one or two bytes is passed, and all else is read as without it
  return_sb : (n : ℕ) → between n (13 ∷ r) c ≡ between (less n) r (moved c 13)
  unfolding run before before_by class
  return_sb zero = refl
  return_sb (suc n) = refl

  other_sb : {b : ℕ} → Unlike b → Turn SB b other r c d []
  unfolding line_end cell
  other_sb u = rw (u.n10, u.n13) (other_s u)

  pub turn_sb : {b : ℕ} {k : Class} → Known b k → Turn SB b k r c d []
  unfolding line_end cell run before
  turn_sb is10 = refl
  turn_sb is13 = return_sb (feed_next r)
  turn_sb is32 = turn_s is32
  turn_sb is9 = turn_s is9
  turn_sb is11 = turn_s is11
  turn_sb is12 = turn_s is12
  turn_sb is92 = turn_s is92
  turn_sb is34 = turn_s is34
  turn_sb is39 = turn_s is39
  turn_sb is35 = turn_s is35
  turn_sb is110 = turn_s is110
  turn_sb is116 = turn_s is116
  turn_sb is114 = turn_s is114
  turn_sb (none u) = other_sb u

  other_sc : {b : ℕ} → Unlike b → Turn SC b other r c d []
  unfolding feed_next cell
  other_sc u = rw u.n10 (other_s u)

  pub turn_sc : {b : ℕ} {k : Class} → Known b k → Turn SC b k r c d []
  unfolding feed_next cell run before
  turn_sc is10 = refl
  turn_sc is13 = turn_s is13
  turn_sc is32 = turn_s is32
  turn_sc is9 = turn_s is9
  turn_sc is11 = turn_s is11
  turn_sc is12 = turn_s is12
  turn_sc is92 = turn_s is92
  turn_sc is34 = turn_s is34
  turn_sc is39 = turn_s is39
  turn_sc is35 = turn_s is35
  turn_sc is110 = turn_s is110
  turn_sc is116 = turn_s is116
  turn_sc is114 = turn_s is114
  turn_sc (none u) = other_sc u

  -- ---- in a word

  -- a word of the text t ends at c, before xs
  word_ended : (xs t : List ℕ) → closed (word_kind d.mark (t ++ [])) d (t ++ []) (spot c xs) ≡ put (tok (word_kind d.mark t) d c.place t) (between 0 xs c)
  word_ended xs t = rw (append-nil t) (ap (put _) (between_is xs c))

  word_joined : (b : ℕ) (t x : List ℕ) (e : Spot) → closed (word_kind d.mark (t ++ (b ∷ x))) d (t ++ (b ∷ x)) e ≡ closed (word_kind d.mark ((t ++ (b ∷ [])) ++ x)) d ((t ++ (b ∷ [])) ++ x) e
  word_joined b t x e = rw (append_assoc t (b ∷ []) x)

  slash_w : (n : ℕ) (t : List ℕ)
      → closed (word_kind d.mark (t ++ gives (word_slash n) (λ m. text word m r))) d (t ++ gives (word_slash n) (λ m. text word m r))
      (onward (word_slash n) 92 r c (λ m. run word m r (moved c 92))) ≡ behind_slash n r (moved c 92) d t
  unfolding word_slash
  slash_w zero t = word_joined 92 t (text word 0 r) (run word 0 r (moved c 92))
  slash_w (suc n) t = refl

  other_w : {b : ℕ} → Unlike b → (t : List ℕ) → Turn W b other r c d t
  unfolding run text word word_by cell
  other_w {b} u t = rw (class_other u) (word_joined b t (text word 0 r) (run word 0 r (moved c b)))

  pub turn_w : (t : List ℕ) {b : ℕ} {k : Class} → Known b k → Turn W b k r c d t
  unfolding run text word word_by cell class
  turn_w t is10 = word_ended (10 ∷ r) t ∙ ap (put _) (turn_s is10)
  turn_w t is13 = word_ended (13 ∷ r) t ∙ ap (put _) (turn_s is13)
  turn_w t is32 = word_ended (32 ∷ r) t ∙ ap (put _) (turn_s is32)
  turn_w t is9 = word_ended (9 ∷ r) t ∙ ap (put _) (turn_s is9)
  turn_w t is11 = word_ended (11 ∷ r) t ∙ ap (put _) (turn_s is11)
  turn_w t is12 = word_ended (12 ∷ r) t ∙ ap (put _) (turn_s is12)
  turn_w t is92 = slash_w (line_end r) t
  turn_w t is34 = word_ended (34 ∷ r) t ∙ ap (put _) (turn_s is34)
  turn_w t is39 = word_ended (39 ∷ r) t ∙ ap (put _) (turn_s is39)
  turn_w t is35 = word_ended (35 ∷ r) t ∙ ap (put _) (turn_s is35)
  turn_w t is110 = word_joined 110 t (text word 0 r) (run word 0 r (moved c 110))
  turn_w t is116 = word_joined 116 t (text word 0 r) (run word 0 r (moved c 116))
  turn_w t is114 = word_joined 114 t (text word 0 r) (run word 0 r (moved c 114))
  turn_w t (none u) = other_w u t

  return_wb : (n : ℕ) (t : List ℕ) → behind_slash n (13 ∷ r) c d t ≡ behind_return n r (moved c 13) d t
  unfolding run text word word_by before before_by class moved
  return_wb zero t = let e : suc c.place - 1 ≡ c.place = omega arith in rw e (word_ended (13 ∷ r) (t ++ (92 ∷ [])))
  return_wb (suc n) t = refl

  other_wb : {b : ℕ} → Unlike b → (t : List ℕ) → Turn WB b other r c d t
  unfolding line_end cell
  other_wb u t = rw (u.n10, u.n13) (other_w u (t ++ (92 ∷ [])))

  pub turn_wb : (t : List ℕ) {b : ℕ} {k : Class} → Known b k → Turn WB b k r c d t
  unfolding line_end cell run text word
  turn_wb t is10 = refl
  turn_wb t is13 = return_wb (feed_next r) t
  turn_wb t is32 = turn_w (t ++ (92 ∷ [])) is32
  turn_wb t is9 = turn_w (t ++ (92 ∷ [])) is9
  turn_wb t is11 = turn_w (t ++ (92 ∷ [])) is11
  turn_wb t is12 = turn_w (t ++ (92 ∷ [])) is12
  turn_wb t is92 = turn_w (t ++ (92 ∷ [])) is92
  turn_wb t is34 = turn_w (t ++ (92 ∷ [])) is34
  turn_wb t is39 = turn_w (t ++ (92 ∷ [])) is39
  turn_wb t is35 = turn_w (t ++ (92 ∷ [])) is35
  turn_wb t is110 = turn_w (t ++ (92 ∷ [])) is110
  turn_wb t is116 = turn_w (t ++ (92 ∷ [])) is116
  turn_wb t is114 = turn_w (t ++ (92 ∷ [])) is114
  turn_wb t (none u) = other_wb u t

  other_wc : {b : ℕ} → Unlike b → (t : List ℕ) → Turn WC b other r c d t
  unfolding feed_next cell
  other_wc u t = rw u.n10 (ap (put _) (other_s u))

  pub turn_wc : (t : List ℕ) {b : ℕ} {k : Class} → Known b k → Turn WC b k r c d t
  unfolding feed_next cell run text word
  turn_wc t is10 = refl
  turn_wc t is13 = ap (put _) (turn_s is13)
  turn_wc t is32 = ap (put _) (turn_s is32)
  turn_wc t is9 = ap (put _) (turn_s is9)
  turn_wc t is11 = ap (put _) (turn_s is11)
  turn_wc t is12 = ap (put _) (turn_s is12)
  turn_wc t is92 = ap (put _) (turn_s is92)
  turn_wc t is34 = ap (put _) (turn_s is34)
  turn_wc t is39 = ap (put _) (turn_s is39)
  turn_wc t is35 = ap (put _) (turn_s is35)
  turn_wc t is110 = ap (put _) (turn_s is110)
  turn_wc t is116 = ap (put _) (turn_s is116)
  turn_wc t is114 = ap (put _) (turn_s is114)
  turn_wc t (none u) = other_wc u t

  -- ---- in a comment

  pub turn_k : (t : List ℕ) {b : ℕ} {k : Class} → Known b k → Turn K b k r c d t
  unfolding run comment cell moved
  turn_k t is10 = ap (put _) (between_is r (moved c 10))
  turn_k t is13 = refl
  turn_k t is32 = refl
  turn_k t is9 = refl
  turn_k t is11 = refl
  turn_k t is12 = refl
  turn_k t is92 = refl
  turn_k t is34 = refl
  turn_k t is39 = refl
  turn_k t is35 = refl
  turn_k t is110 = refl
  turn_k t is116 = refl
  turn_k t is114 = refl
  turn_k t (none u) = rw u.n10

-- The token at a cursor, from what its parts promise: where it starts, its run by numbers, and its text.
use mathlib.Core.Path.{◌≡◌, refl, sym, ap, ap₂, ◌∙◌, subst}
use mathlib.Core.List.{List, [], ◌∷◌, ◌++◌}
use mathlib.Core.Bool.{Bool, true, false}
use Prim.Native.Nat.{ℕ, suc, ◌+◌, ◌≤◌, ◌<◌}
use native.Mathlib.Omega.{arith}
use lib.ListN.{length, drop, get_or, drop_of_length-le}
use lib.Seq.{drop-drop}
use Rattle.ascii.specs.Choice.{pick}
use Rattle.ascii.specs.Classes.{white}
use Rattle.ascii.proofs.ListLaws.{next_byte}
use Rattle.lexer.specs.Bytes.{Class, Feed, Hash, Quote, Other}
use Rattle.lexer.specs.Cursors.{Cursor, cursor}
use Rattle.lexer.specs.Runs.{Does, takes, Spot, spot, run, text, took}
use Rattle.lexer.specs.Rules.{before, comment, word, quoted, plain}
use Rattle.lexer.specs.Places.{feeds, since}
use Rattle.lexer.specs.Tokens.{Kind, next, token_at, token_by, nothing, made, word_kind, QuotedString, Comment, Newline}
use Rattle.lexer.specs.Steps.{Within, part, past_bytes, Skipped, Ran, Wrote, Passes, Stepped, Ahead, lexeme_at}
use Rattle.lexer.specs.declared.moving.Run.{Run}
use Rattle.lexer.specs.declared.stepping.Found.{Found}
use Rattle.lexer.proofs.MoveLaws.{moved_at, feed_at, dark_flat}
use Rattle.lexer.proofs.RunLaws.{run_took, run_place, text_by_lem, took_by}
use Rattle.lexer.proofs.WithinLaws.{within_past, past_place}
use Rattle.lexer.proofs.PastLaws.{part_first, past_one, run_here, cut}
use Rattle.lexer.proofs.ClassLaws.{class_at, told_at, token_at_lem, word_other, other_dark}

-- ---- the byte that a token starts with

module _ (s : List ℕ) (c d : Cursor) (x : Within s c) (k : Skipped s c d) where
  rest_is : (run before 0 (drop c.place s) c).rest ≡ drop d.place s
  rest_is =
      let t = took before 0 (drop c.place s) in
      let e : c.place + t ≡ d.place = sym (ap (λ (a : Cursor). a.place) k.stop_is ∙ run_place before 0 (drop c.place s) c) in
      ap (λ (a : Spot). a.rest) (run_took before 0 (drop c.place s) c) ∙ drop-drop t c.place s ∙ ap (λ (n : ℕ). drop n s) e

  next_is : next (drop c.place s) c ≡ token_at (drop d.place s) d
  unfolding next
  next_is = rw (rest_is, ← k.stop_is)

  pub next_none : length s ≤ d.place → next (drop c.place s) c ≡ nothing d
  unfolding token_at
  next_none h = next_is ∙ rw (drop_of_length-le s h)

  pub next_by_lem : d.place < length s → next (drop c.place s) c ≡ token_by (class_at s d.place) (get_or s d.place 0) (drop (d.place + 1) s) d
  next_by_lem h = next_is ∙ rw (next_byte s d.place h) (token_at_lem s d.place _ refl d)

  -- ---- the two answers

  pub found_none : (old new : List ℕ) → next (drop c.place s) c ≡ nothing d → new ≡ old → Stepped s c old new (Found.Nothing d)
  found_none old new e f = record { step_is = rw e; text_is = rw e f; onward = tt }

  pub found_made : (kind : Kind) (t : List ℕ) (e : Spot) (len : ℕ) (z : Cursor) (old new : List ℕ) → next (drop c.place s) c ≡ made kind t d e → len ≡ length t → z ≡ e.here →
      new ≡ t ++ drop (length t) old → Ahead s c (lexeme_at kind d len z) → Stepped s c old new (Found.Token (lexeme_at kind d len z))
  found_made kind t e len z old new n l f g a =
      record { step_is = rw n (ap₂ (λ (i : ℕ) (y : Cursor). Found.Token (lexeme_at kind d i y)) l f); text_is = rw n g; onward = a }

  -- a token from d up to a place leads on
  pub ahead : (kind : Kind) (len to : ℕ) (z : Cursor) → d.place < to → to ≤ length s → z ≡ past_bytes s d to → d.place + len ≤ to → Ahead s c (lexeme_at kind d len z)
  ahead kind len to z h j e l =
      let o : d.place ≤ to = omega arith in
      let p : z.place ≡ to = ap (λ (a : Cursor). a.place) e ∙ past_place s d to o j in
      record {
        within = subst (Within s) (sym e) (within_past s d to k.within o j);
        past = omega (arith, p, k.onward);
        first_low = omega (arith, p);
        text_low = omega (arith, p, k.onward);
      }

-- ---- runs by numbers

-- what a run behind the first byte counted, for the token
pub passes : {M : Type 0} (does : M → ℕ → List ℕ → Does M) (m : M) (s : List ℕ) (d : Cursor) (r : Run) → d.place < length s → white (get_or s d.place 0) ≡ false →
    Ran does m s (d.place + 1) r → Passes s d r
unfolding feeds since
passes does m s d r h w x =
    let o : d.place < r.past = omega (arith, x.past_is) in
    let q = part s (d.place + 1) r.past in
    let e = part_first s d.place r.past o x.inside in
    let f = dark_flat _ w in
    let u : feeds (part s d.place r.past) ≡ feeds q = ap feeds e ∙ rw f (omega arith) in
    let v : since 0 (part s d.place r.past) ≡ since 1 q = ap (since 0) e ∙ ap (λ (t : Bool). since (pick t 0 1) q) f in
    record {
      some = o;
      inside = x.inside;
      solid = w;
      feeds_are = x.feeds_are ∙ sym u;
      last_is = λ p. let z = cut q (omega (arith, x.feeds_are)) in omega (arith, v, z.long 1, z.long 0, x.last_is);
    }

-- a word's run takes its first byte too
pub word_first : (s : List ℕ) (i : ℕ) → i < length s → class_at s i ≡ Other → word 0 (get_or s i 0) (drop (i + 1) s) ≡ takes (get_or s i 0 ∷ []) 0
word_first s i h e = word_other _ _ e

pub word_took : (s : List ℕ) (i : ℕ) → i < length s → class_at s i ≡ Other → took word 0 (drop i s) ≡ suc (took word 0 (drop (i + 1) s))
word_took s i h e = ap (took word 0) (next_byte s i h) ∙ took_by word 0 _ _ _ (word_first s i h e)

pub word_passes : (s : List ℕ) (d : Cursor) (r : Run) → d.place < length s → class_at s d.place ≡ Other → Ran word 0 s d.place r → Passes s d r
word_passes s d r h e x = record {
  some = omega (arith, x.past_is, word_took s d.place h e);
  inside = x.inside;
  solid = other_dark _ e;
  feeds_are = x.feeds_are;
  last_is = λ p. x.last_is;
}

-- ---- the token by its first byte's class

module _ (s : List ℕ) (c d : Cursor) (x : Within s c) (k : Skipped s c d) (h : d.place < length s) (q : Class) (e : q ≡ class_at s d.place) where
  abbrev b : ℕ
  b = get_or s d.place 0

  abbrev r : List ℕ
  r = drop (d.place + 1) s

  by_class : next (drop c.place s) c ≡ token_by q b r d
  by_class = next_by_lem s c d x k h ∙ ap (λ (q : Class). token_by q b r d) (sym e)

  pub found_newline : (old new : List ℕ) → q ≡ Feed → new ≡ old → Stepped s c old new (Found.Token (lexeme_at Newline d 0 (cursor (d.place + 1) (d.line.0 + 1) 1 true)))
  unfolding token_by
  found_newline old new f n =
      let g : cursor (d.place + 1) (d.line.0 + 1) 1 true ≡ moved_at s d = sym (feed_at s d (told_at s d.place Feed (sym e ∙ f))) in
      found_made s c d x k Newline [] (spot (moved_at s d) r) 0 _ old new (by_class ∙ ap (λ (q : Class). token_by q b r d) f) refl g n
      (ahead s c d x k Newline 0 (d.place + 1) _ (omega arith) (omega arith) (g ∙ sym (past_one s d h)) (omega arith))

  pub found_stop : (old new : List ℕ) → token_by q b r d ≡ nothing d → new ≡ old → Stepped s c old new (Found.Nothing d)
  found_stop old new f n = found_none s c d x k old new (by_class ∙ f) n

  module _ (a : Run) (z : Cursor) (y : z ≡ past_bytes s d a.past) (old new : List ℕ) where
    -- the runs of a comment and of a quoted text start behind the first byte
    pub found_comment : q ≡ Hash → Ran comment 0 s (d.place + 1) a → new ≡ old → Stepped s c old new (Found.Token (lexeme_at Comment d 0 z))
    unfolding token_by
    found_comment f g n =
        found_made s c d x k Comment [] (run comment 0 r (moved_at s d)) 0 z old new (by_class ∙ ap (λ (q : Class). token_by q b r d) f) refl
        (y ∙ sym (run_here comment 0 s d a.past h g.past_is)) n
        (ahead s c d x k Comment 0 a.past z (omega (arith, g.past_is)) g.inside y (omega (arith, g.past_is)))

    pub found_quoted : q ≡ Quote → Ran (quoted b) plain s (d.place + 1) a → Wrote (quoted b) plain s (d.place + 1) old new a →
        Stepped s c old new (Found.Token (lexeme_at QuotedString d a.len z))
    unfolding token_by
    found_quoted f g w =
        found_made s c d x k QuotedString (text (quoted b) plain r) (run (quoted b) plain r (moved_at s d)) a.len z old new
        (by_class ∙ ap (λ (q : Class). token_by q b r d) f) w.length_is (y ∙ sym (run_here (quoted b) plain s d a.past h g.past_is)) w.text_is
        (ahead s c d x k QuotedString a.len a.past z (omega (arith, g.past_is)) g.inside y (omega (arith, w.short)))

    -- and a word's with it
    pub found_word : (kind : Kind) → q ≡ Other → Ran word 0 s d.place a → Wrote word 0 s d.place old new a →
        kind ≡ word_kind d.mark (text word 0 (drop d.place s)) → Stepped s c old new (Found.Token (lexeme_at kind d a.len z))
    unfolding token_by
    found_word kind f g w v =
        let i = sym e ∙ f in
        let t : text word 0 (drop d.place s) ≡ b ∷ text word 0 r = ap (text word 0) (next_byte s d.place h) ∙ text_by_lem word 0 b r _ (word_first s d.place h i) in
        let n : a.past ≡ d.place + 1 + took word 0 r = omega (arith, g.past_is, word_took s d.place h i) in
        let u : next (drop c.place s) c ≡ made kind (b ∷ text word 0 r) d (run word 0 r (moved_at s d)) =
        by_class ∙ ap (λ (q : Class). token_by q b r d) f
        ∙ ap (λ (j : Kind). made j (b ∷ text word 0 r) d (run word 0 r (moved_at s d))) (ap (word_kind d.mark) (sym t) ∙ sym v) in
        found_made s c d x k kind (b ∷ text word 0 r) (run word 0 r (moved_at s d)) a.len z old new u (w.length_is ∙ ap length t)
        (y ∙ sym (run_here word 0 s d a.past h n)) (w.text_is ∙ rw t)
        (ahead s c d x k kind a.len a.past z (omega (arith, n)) g.inside y w.short)

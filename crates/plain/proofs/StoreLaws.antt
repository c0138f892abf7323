-- What the buffers hold: the tokens told so far, and behind their texts the open token's text. One law for each act of a step.
use mathlib.Core.Path.{◌≡◌, refl, sym, ap, ap₂, ◌∙◌, subst}
use mathlib.Core.Bool.{Bool, true, false}
use mathlib.Core.List.{List, [], ◌∷◌, ◌++◌, append_assoc, append-nil}
use Prim.Native.Nat.{ℕ, suc, ◌+◌, ◌-◌, ◌*◌, ◌≤◌, ◌<◌}
use native.Mathlib.Numerals.{add-one}
use native.Mathlib.Omega.{arith}
use lib.ListN.{length, take, drop, length-append, take-append-drop}
use lib.Seq.{drop_at, take_at}
use Rattle.ascii.specs.Choice.{bit}
use Rattle.lent.specs.Sizes.{token_words}
use Rattle.lent.specs.Buffers.{stored}
use Rattle.lent.proofs.BufferLaws.{Written, written_one, front_one, stored_length, written_stored, taken_stored}
use Rattle.lent.proofs.LayoutLaws.{count_more}
use Rattle.lexer.specs.declared.Cursor.{Cursor}
use Rattle.lexer.specs.declared.Kind.{Kind}
use Rattle.lexer.specs.declared.Kind.TheVariants.{Newline}
use Rattle.lexer.specs.Tokens.{Token}
use Rattle.lexer.specs.Layout.{token_record, words_from, texts}
use Rattle.lexer.proofs.LayoutLaws.{texts_more, words_more}
use Rattle.plain.specs.Table.{State, S, SB, SC, W, WB, WC, K, D, DB, DC, DM, Q, QB, QC, QM, Ends, stays, here, earlier, with_it, Joins, nothing, itself, control, Cell}
use Rattle.plain.specs.Automaton.{tok, kind_in, kept, fed, ended, cleared, joined, told, left, opened, controlled}
use Rattle.plain.specs.Coding.{code, kind_by, encode, keeps_in, ends_in, feeds_in, begins_in, joins_in}
use Rattle.plain.specs.Steps.{held, words, open_text, Adds, Kept, Joined, Tells, Ended, Fed, joins_width, Stepped}
use Rattle.plain.specs.declared.acting.Held.{Held}
use Rattle.plain.proofs.StepLaws.{kept_wider, ended_onward, fed_onward, joined_wider}
use Rattle.plain.proofs.TableLaws.{keeps_in_lem, ends_in_lem, feeds_in_lem, begins_in_lem, joins_in_lem}

pub record Stored (text₀ records₀ text records : List ℕ) (done : List Token) (said : List ℕ) (h : Held) : Type 0 where
  pub start_is : h.start ≡ length (texts done)
  pub used_is : h.used ≡ h.start + length said
  pub written : Written text₀ text h.used
  pub front : take h.used text ≡ texts done ++ said
  pub count_is : h.count ≡ length done
  pub long : length records ≡ length records₀
  pub recorded : h.count * token_words ≤ length records₀ → Written records₀ records (h.count * token_words) × (take (h.count * token_words) records ≡ words_from 0 done)

-- the kind by a state and by its number
pub kind_is : (q : State) (d : Cursor) (t : List ℕ) → kind_by (code q) d.mark t ≡ kind_in q d t
kind_is S d t = refl
kind_is SB d t = refl
kind_is SC d t = refl
kind_is W d t = refl
kind_is WB d t = refl
kind_is WC d t = refl
kind_is K d t = refl
kind_is D d t = refl
kind_is DB d t = refl
kind_is DC d t = refl
kind_is DM d t = refl
kind_is Q d t = refl
kind_is QB d t = refl
kind_is QC d t = refl
kind_is QM d t = refl

module _ {text₀ records₀ text records : List ℕ} {done : List Token} {said : List ℕ} {h : Held} (x : Stored text₀ records₀ text records done said h) where
  -- a byte joins the open text
  stored_add : (b : ℕ) (text' : List ℕ) (r : Held) → h.used < length text₀ → Adds b h text text' r → Stored text₀ records₀ text' records done (said ++ (b ∷ [])) r
  stored_add b text' r l e = rw (e.1, e.0) (record {
    start_is = x.start_is;
    used_is = omega (arith, x.used_is, length-append said (b ∷ []));
    written = written_one x.written b l;
    front =
        sym (append-nil _) ∙ front_one x.written b [] l ∙ ap (λ (v : List ℕ). v ++ (b ∷ [])) x.front ∙ append_assoc (texts done) said (b ∷ []);
    count_is = x.count_is;
    long = x.long;
    recorded = x.recorded;
  })

  stored_same : (text' : List ℕ) (r : Held) → (text' ≡ text) × (r ≡ h) → Stored text₀ records₀ text' records done said r
  stored_same text' r e = rw (e.1, e.0) x

  stored_still : (records' : List ℕ) (r : Held) → (records' ≡ records) × (r ≡ h) → Stored text₀ records₀ text records' done said r
  stored_still records' r e = rw (e.1, e.0) x

  -- the open text is what stands behind the others
  open_is : open_text text h ≡ said
  open_is =
      let rest : List ℕ = drop h.used text in
      let e : text ≡ texts done ++ (said ++ rest) = sym (take-append-drop h.used text) ∙ ap (λ (v : List ℕ). v ++ rest) x.front ∙ append_assoc (texts done) said rest in
      ap (λ (v : List ℕ). take (h.used - h.start) (drop h.start v)) e
      ∙ ap (take (h.used - h.start)) (drop_at (texts done) (said ++ rest) h.start (sym x.start_is))
      ∙ take_at said rest (h.used - h.start) (omega (arith, x.used_is))

  -- a token whose text is t, with its record
  more_recorded : (t : Token) (o : ℕ) (records' : List ℕ) → o ≡ length (texts done) → records' ≡ stored records (h.count * token_words) (token_record o t)
      → (h.count + 1) * token_words ≤ length records₀
      → Written records₀ records' ((h.count + 1) * token_words) × (take ((h.count + 1) * token_words) records' ≡ words_from 0 (done ++ (t ∷ [])))
  more_recorded t o records' u e l =
      let n : (h.count + 1) * token_words ≡ h.count * token_words + token_words = omega arith in
      let q = x.recorded (omega arith) in
      let z : o ≡ 0 + length (texts done) = omega arith in
      rw (n, e) (
        written_stored q.0 (token_record o t) (omega arith),
        taken_stored q.0 (token_record o t) (omega arith) ∙ ap₂ (λ (v : List ℕ) (i : ℕ). v ++ token_record i t) q.1 z ∙ sym (words_more 0 done t),
      )

  -- the open token is told
  stored_tell : (q : State) (p : ℕ) (records' : List ℕ) (r : Held) → Tells (code q) p text h records records' r
      → Stored text₀ records₀ text records' (done ++ (tok (kind_in q h.from said) h.from p said ∷ [])) [] r
  stored_tell q p records' r e =
      let t = tok (kind_in q h.from said) h.from p said in
      let n : h.used - h.start ≡ length said = omega (arith, x.used_is) in
      let k : kind_by (code q) h.from.mark (open_text text h) ≡ kind_in q h.from said = ap (kind_by (code q) h.from.mark) open_is ∙ kind_is q h.from said in
      let g : records' ≡ stored records (h.count * token_words) (token_record h.start t) =
      e.0 ∙ ap₂ (λ (a : Kind) (i : ℕ). stored records (h.count * token_words) (words a h.from p h.start i)) k n in
      let m : texts (done ++ (t ∷ [])) ≡ texts done ++ said = texts_more done t in
      rw e.1 (record {
        start_is = omega (arith, x.used_is, x.start_is, ap length m, length-append (texts done) said);
        used_is = omega arith;
        written = x.written;
        front = x.front ∙ sym m ∙ sym (append-nil _);
        count_is = ap (λ (i : ℕ). i + 1) x.count_is ∙ sym (count_more done t);
        long = ap length g ∙ stored_length records _ _ ∙ x.long;
        recorded = more_recorded t h.start records' x.start_is g;
      })

  -- a Newline is told
  stored_feed : (c : Cursor) (records' : List ℕ) (r : Held) → Fed true c h records records' r
      → Stored text₀ records₀ text records' (done ++ (tok Newline c (suc c.place) [] ∷ [])) said r
  stored_feed c records' r e =
      let t = tok Newline c (suc c.place) [] in
      let g : records' ≡ stored records (h.count * token_words) (token_record h.start t) =
      e.0 ∙ ap (λ (i : ℕ). stored records (h.count * token_words) (words Newline c i h.start 0)) (add-one c.place) in
      let m : texts (done ++ (t ∷ [])) ≡ texts done = texts_more done t ∙ append-nil (texts done) in
      rw e.1 (record {
        start_is = x.start_is ∙ ap length (sym m);
        used_is = x.used_is;
        written = x.written;
        front = x.front ∙ ap (λ (v : List ℕ). v ++ said) (sym m);
        count_is = ap (λ (i : ℕ). i + 1) x.count_is ∙ sym (count_more done t);
        long = ap length g ∙ stored_length records _ _ ∙ x.long;
        recorded = more_recorded t h.start records' x.start_is g;
      })

  -- ---- the same by what a cell says

  pub stored_kept : (k : Bool) (text' : List ℕ) (r : Held) → h.used + bit k ≤ length text₀ → Kept k h text text' r → Stored text₀ records₀ text' records done (kept k said) r
  stored_kept true text' r l e = stored_add 92 text' r (omega arith) e
  stored_kept false text' r l e = stored_same text' r e

  pub stored_joined : (j : Joins) (b : ℕ) (text' : List ℕ) (r : Held) → h.used + joins_width j ≤ length text₀ → Joined j b h text text' r
      → Stored text₀ records₀ text' records done (joined j b said) r
  stored_joined nothing b text' r l e = stored_same text' r e
  stored_joined itself b text' r l e = stored_add b text' r (omega arith) e
  stored_joined control b text' r l e = stored_add (controlled b) text' r (omega arith) e

  pub stored_ended : (e : Ends) (q : State) (c : Cursor) (records' : List ℕ) (r : Held) → Ended e (code q) c.place text h records records' r
      → Stored text₀ records₀ text records' (done ++ ended e q c h.from said []) (cleared e said) r
  stored_ended stays q c records' r e = rw (append-nil done) (stored_still records' r e)
  stored_ended here q c records' r e = stored_tell q c.place records' r e
  stored_ended earlier q c records' r e = stored_tell q (c.place - 1) records' r e
  stored_ended with_it q c records' r e = rw (← add-one c.place) (stored_tell q (c.place + 1) records' r e)

  pub stored_fed : (f : Bool) (c : Cursor) (records' : List ℕ) (r : Held) → Fed f c h records records' r
      → Stored text₀ records₀ text records' (done ++ fed f c) said r
  stored_fed true c records' r e = stored_feed c records' r e
  stored_fed false c records' r e = rw (append-nil done) (stored_still records' r e)

  -- where the next token began is no matter
  pub stored_begun : (d : Cursor) → Stored text₀ records₀ text records done said (held d h.start h.used h.count)
  stored_begun d = record {
    start_is = x.start_is;
    used_is = x.used_is;
    written = x.written;
    front = x.front;
    count_is = x.count_is;
    long = x.long;
    recorded = x.recorded;
  }

-- the tokens of a cell are those of its two acts
ended_fed : (e : Ends) (q : State) (c d : Cursor) (t : List ℕ) (ts : List Token) → ended e q c d t ts ≡ ended e q c d t [] ++ ts
ended_fed stays q c d t ts = refl
ended_fed here q c d t ts = refl
ended_fed earlier q c d t ts = refl
ended_fed with_it q c d t ts = refl

-- what a step leaves
pub record Left (text₀ records₀ text' records' : List ℕ) (done : List Token) (said : List ℕ) (y : Cell) (q : State) (b : ℕ) (c : Cursor) (h r : Held) : Type 0 where
  pub stored : Stored text₀ records₀ text' records' (done ++ told y q c h.from said) (left y b said) r
  pub from_is : r.from ≡ opened y.begins c h.from
  pub used_is : r.used ≡ h.used + bit y.keeps + joins_width y.joins
  pub count_low : r.count ≤ h.count + 2

-- a whole step
pub stored_step : {text₀ records₀ text records text' records' : List ℕ} {done : List Token} {said : List ℕ} {h r : Held} (x state b : ℕ) (y : Cell) (q : State) (c : Cursor)
    → Stored text₀ records₀ text records done said h → x ≡ encode y → state ≡ code q → h.used + bit y.keeps + joins_width y.joins ≤ length text₀
    → Stepped x state b c h text text' records records' r → Left text₀ records₀ text' records' done said y q b c h r
stored_step {text₀} {records₀} {text} {records} {text'} {records'} {done} {said} {h} {r} x state b y q c p e f l z =
    let a = z.acted in
    let k : Kept y.keeps h text z.text₁ a.held₁ = subst (λ (i : Bool). Kept i h text z.text₁ a.held₁) (ap keeps_in e ∙ keeps_in_lem y) a.kept_is in
    let n : Ended y.ends (code q) c.place z.text₁ a.held₁ records a.records₁ a.held₂ =
    subst (λ (i : ℕ). Ended y.ends i c.place z.text₁ a.held₁ records a.records₁ a.held₂) f
    (subst (λ (i : Ends). Ended i state c.place z.text₁ a.held₁ records a.records₁ a.held₂) (ap ends_in e ∙ ends_in_lem y) a.ended_is) in
    let g : Fed y.feeds c a.held₂ a.records₁ records' a.held₃ = subst (λ (i : Bool). Fed i c a.held₂ a.records₁ records' a.held₃) (ap feeds_in e ∙ feeds_in_lem y) a.fed_is in
    let d : Cursor = opened y.begins c a.held₃.from in
    let begun : Held = held d a.held₃.start a.held₃.used a.held₃.count in
    let s : z.begun ≡ begun =
    a.begun_is ∙ ap (λ (i : Bool). held (opened i c a.held₃.from) a.held₃.start a.held₃.used a.held₃.count) (ap begins_in e ∙ begins_in_lem y) in
    let j : Joined y.joins b begun z.text₁ text' r =
    subst (λ (i : Held). Joined y.joins b i z.text₁ text' r) s (subst (λ (i : Joins). Joined i b z.begun z.text₁ text' r) (ap joins_in e ∙ joins_in_lem y) z.joined_is) in
    let w = kept_wider y.keeps h text z.text₁ a.held₁ k in
    let v = ended_onward y.ends (code q) c.place z.text₁ a.held₁ records a.records₁ a.held₂ n in
    let u = fed_onward y.feeds c a.held₂ a.records₁ records' a.held₃ g in
    let o = joined_wider y.joins b begun z.text₁ text' r j in
    let same : a.held₃.from ≡ h.from = u.from_is ∙ v.from_is ∙ w.from_is in
    let p₁ = stored_kept p y.keeps z.text₁ a.held₁ (omega arith) k in
    let p₂ = stored_ended p₁ y.ends q c a.records₁ a.held₂ n in
    let p₃ = stored_fed p₂ y.feeds c records' a.held₃ g in
    let p₄ = stored_joined (stored_begun p₃ d) y.joins b text' r (omega (arith, w.used_is, v.used_is, u.used_is)) j in
    let t : List ℕ = kept y.keeps said in
    let ts : done ++ ended y.ends q c a.held₁.from t [] ++ fed y.feeds c ≡ done ++ told y q c h.from said =
    append_assoc done (ended y.ends q c a.held₁.from t []) (fed y.feeds c)
    ∙ ap (λ (i : List Token). done ++ i) (sym (ended_fed y.ends q c a.held₁.from t (fed y.feeds c)))
    ∙ ap (λ (i : Cursor). done ++ ended y.ends q c i t (fed y.feeds c)) w.from_is in
    record {
      stored = subst (λ (i : List Token). Stored text₀ records₀ text' records' i (left y b said) r) ts p₄;
      from_is = o.from_is ∙ ap (opened y.begins c) same;
      used_is = omega (arith, o.used_is, u.used_is, v.used_is, w.used_is);
      count_low = omega (arith, o.count_is, u.count_low, v.count_low, w.count_is);
    }

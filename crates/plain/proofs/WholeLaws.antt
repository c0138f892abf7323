-- The loop over a text: the tokens told so far and the open text are in the buffers, and the automaton says what is still to come.
use mathlib.Core.Path.{◌≡◌, refl, sym, ap, ap₂, ◌∙◌, subst}
use mathlib.Core.Bool.{Bool, true, false}
use mathlib.Core.List.{List, [], ◌∷◌, ◌++◌, append-nil}
use Prim.Native.Nat.{ℕ, ◌+◌, ◌-◌, ◌/◌, ◌%◌, ◌≤◌, ◌<◌}
use native.Mathlib.Numerals.{add-one}
use native.Mathlib.Omega.{arith}
use lib.Dec.{leb, eqb}
use lib.ListN.{length, take, drop, get_or, drop_of_length-le}
use borrow.Author.Tests.{eqb-true, leb-true}
use Rattle.ascii.specs.Choice.{and, bit}
use Rattle.ascii.proofs.ListLaws.{next_byte}
use Rattle.ascii.proofs.SameLaws.{and_left, and_right}
use Rattle.lent.specs.Sizes.{limit}
use Rattle.lent.specs.Layout.{texts_of, words_of}
use Rattle.lent.proofs.BufferLaws.{written_none, written_all}
use Rattle.lexer.specs.declared.Cursor.{Cursor}
use Rattle.lexer.specs.Cursors.{fresh, moved, moves}
use Rattle.lexer.specs.Tokens.{Token, Reading, reading, put}
use Rattle.lexer.specs.Layout.{texts, words_from}
use Rattle.lexer.specs.Steps.{Whole}
use Rattle.lexer.proofs.LayoutLaws.{words_length}
use Rattle.lexer.proofs.MoveLaws.{moved_place, Bounded, moves_bounded}
use Rattle.plain.specs.Table.{State, S, SB, SC, W, WB, WC, K, D, DB, DC, DM, Q, QB, QC, QM, Class, over, class_of, Ends, stays, here, earlier, with_it, nothing, Next, goes, halts, Cell, cell}
use Rattle.plain.specs.Automaton.{told, left, tell, stops, leads, opened, automaton, plain_reading}
use Rattle.plain.specs.Coding.{code, joins_code, joins_by, encode, keeps_in, ends_in, feeds_in, joins_in}
use Rattle.plain.specs.Steps.{held, Behind, joins_width, Ready, Acted, Stepped, tallied}
use Rattle.plain.specs.declared.acting.Held.{Held}
use Rattle.plain.proofs.FutureLaws.{Clear}
use Rattle.plain.proofs.SameLaws.{ClearNext, clear, plain_is}
use Rattle.plain.proofs.TableLaws.{row_at, cell_at, row_of, stops_at, next_in, stops_in, keeps_in_lem, ends_in_lem, feeds_in_lem, joins_is, joins_in_lem}
use Rattle.plain.proofs.StepLaws.{closing}
use Rattle.plain.proofs.StoreLaws.{Stored, Left, stored_step}

-- ---- what a state may still write, and how far behind its token began: a computed test of the table

-- a backslash that is held back
abbrev owed : State → ℕ
owed S = 0
owed SB = 0
owed SC = 0
owed W = 0
owed WB = 1
owed WC = 1
owed K = 0
owed D = 0
owed DB = 1
owed DC = 0
owed DM = 0
owed Q = 0
owed QB = 1
owed QC = 0
owed QM = 0

abbrev owed_next : Next → ℕ
owed_next (goes q) = owed q
owed_next halts = 0

-- the CR that is held back
abbrev apart : State → ℕ
apart S = 0
apart SB = 0
apart SC = 0
apart W = 0
apart WB = 0
apart WC = 1
apart K = 0
apart D = 0
apart DB = 0
apart DC = 0
apart DM = 0
apart Q = 0
apart QB = 0
apart QC = 0
apart QM = 0

abbrev cutting : Ends → ℕ
cutting stays = 0
cutting here = 0
cutting earlier = 1
cutting with_it = 0

abbrev shutting : Ends → ℕ
shutting stays = 0
shutting here = 0
shutting earlier = 0
shutting with_it = 1

-- n bytes pay for what their cell writes and for what the next state may still write, and for the byte that a token ends with
abbrev paid : ℕ → State → Cell → Bool
paid n q y =
    and (leb (bit y.keeps + joins_width y.joins + owed_next y.next) (n + owed q))
    (and (leb (cutting y.ends) (apart q)) (and (leb (shutting y.ends) n) (leb (bit y.feeds) n)))

record Paid (n : ℕ) (q : State) (y : Cell) : Type 0 where
  pub wide : bit y.keeps + joins_width y.joins + owed_next y.next ≤ n + owed q
  pub cut : cutting y.ends ≤ apart q
  pub shut : shutting y.ends ≤ n
  pub fed : bit y.feeds ≤ n

paid_told : (n : ℕ) (q : State) (y : Cell) → paid n q y ≡ true → Paid n q y
paid_told n q y e =
    let f = and_right (leb (bit y.keeps + joins_width y.joins + owed_next y.next) (n + owed q)) _ e in
    let g = and_right (leb (cutting y.ends) (apart q)) _ f in
    record {
      wide = leb-true _ _ (and_left _ _ e);
      cut = leb-true _ _ (and_left _ _ f);
      shut = leb-true _ _ (and_left _ _ g);
      fed = leb-true _ _ (and_right (leb (shutting y.ends) n) _ g);
    }

paid_cell : (q : State) (k : Class) → Paid 1 q (cell q k)
unfolding cell
paid_cell q k = paid_told 1 q (cell q k) (cell_at (λ q k. paid 1 q (cell q k)) refl q k)

paid_over : (q : State) → Paid 0 q (cell q over)
unfolding cell
paid_over q = paid_told 0 q (cell q over) (row_at (λ q. paid 0 q (cell q over)) refl q)

apart_low : (q : State) → apart q ≤ 1
apart_low q = leb-true _ _ (row_at (λ q. leb (apart q) 1) refl q)

-- ---- tokens before a reading

tell_append : (ts us : List Token) (r : Reading) → tell (ts ++ us) r ≡ tell ts (tell us r)
tell_append [] us r = refl
tell_append (t ∷ ts) us r = ap (put t) (tell_append ts us r)

tell_tokens : (ts : List Token) (c : Cursor) → (tell ts (stops c)).tokens ≡ ts
tell_tokens [] c = refl
tell_tokens (t ∷ ts) c = ap (λ (l : List Token). t ∷ l) (tell_tokens ts c)

tell_stop : (ts : List Token) (c : Cursor) → (tell ts (stops c)).stop ≡ c
tell_stop [] c = refl
tell_stop (t ∷ ts) c = tell_stop ts c

-- ---- the loop

-- where the byte at i is read next
pub record Sofar (s text₀ records₀ text records : List ℕ) (i : ℕ) (c : Cursor) (h : Held) (state : ℕ) : Type 0 where
  pub place_is : c.place ≡ i
  pub q : State
  pub state_is : state ≡ code q
  pub done : List Token
  pub said : List ℕ
  pub clear_is : Clear q said
  pub reading_is : plain_reading s ≡ tell done (automaton q (drop c.place s) c h.from said)
  pub stored : Stored text₀ records₀ text records done said h
  pub short : length s ≤ limit
  pub room : length s ≤ length text₀
  pub inside : c.place ≤ length s
  pub bounded : Bounded 1 c
  pub from_low : h.from.place + apart q ≤ c.place
  pub used_low : h.used + owed q ≤ c.place
  pub count_low : h.count ≤ c.place + c.place

pub begun : (s text records : List ℕ) (c : Cursor) → c ≡ fresh → length s ≤ limit → length s ≤ length text → Sofar s text records text records 0 c (held c 0 0 0) 0
unfolding plain_reading fresh texts_of words_of
begun s text records c e l m = rw e (record {
  place_is = refl;
  q = S;
  state_is = refl;
  done = [];
  said = [];
  clear_is = λ e. refl;
  reading_is = refl;
  stored = record {
    start_is = refl;
    used_is = omega arith;
    written = written_none text;
    front = refl;
    count_is = refl;
    long = refl;
    recorded = λ k. (written_none records, refl);
  };
  short = l;
  room = m;
  inside = omega arith;
  bounded = (omega arith, omega arith);
  from_low = omega arith;
  used_low = omega arith;
  count_low = omega arith;
})

behind_by : (e : Ends) (n : ℕ) (q : State) (c : Cursor) (h : Held) → cutting e ≤ apart q → shutting e ≤ n → h.from.place + apart q ≤ c.place → c.place + n ≤ limit → Behind e c h
behind_by stays n q c h l k m o = tt
behind_by here n q c h l k m o = tt
behind_by earlier n q c h l k m o = omega arith
behind_by with_it n q c h l k m o = omega arith

-- past a byte the place is one more
pub on : (c c' : Cursor) (b : ℕ) → c' ≡ moved c b → c'.place ≡ c.place + 1
on c c' b m = ap (λ (d : Cursor). d.place) m ∙ moved_place c b ∙ sym (add-one c.place)

-- no text is open behind the end
over_clear : (q : State) (b : ℕ) (t : List ℕ) → Clear q t → left (cell q over) b t ≡ []
unfolding cell
over_clear S b t h = h refl
over_clear SB b t h = h refl
over_clear SC b t h = h refl
over_clear W b t h = refl
over_clear WB b t h = refl
over_clear WC b t h = refl
over_clear K b t h = refl
over_clear D b t h = refl
over_clear DB b t h = refl
over_clear DC b t h = refl
over_clear DM b t h = refl
over_clear Q b t h = refl
over_clear QB b t h = refl
over_clear QC b t h = refl
over_clear QM b t h = refl

over_joins : (q : State) → (cell q over).joins ≡ nothing
unfolding cell
over_joins q = sym (joins_is (cell q over).joins) ∙ ap joins_by (eqb-true (joins_code (cell q over).joins) 0 (row_at (λ q. eqb (joins_code (cell q over).joins) 0) refl q))

-- the buffers hold all tokens, and reading stops at c
finished : {s text₀ records₀ text records : List ℕ} {ts : List Token} {said : List ℕ} {c : Cursor} {h : Held} → plain_reading s ≡ tell ts (stops c) → said ≡ []
    → Stored text₀ records₀ text records ts said h → Whole s text₀ text records₀ records (tallied h c)
finished {s} {text₀} {records₀} {text} {records} {ts} {said} {c} {h} e z x =
    let g : reading s ≡ tell ts (stops c) = sym (plain_is s) ∙ e in
    let t : (reading s).tokens ≡ ts = ap (λ (r : Reading). r.tokens) g ∙ tell_tokens ts c in
    let p : (reading s).stop ≡ c = ap (λ (r : Reading). r.stop) g ∙ tell_stop ts c in
    let f : take h.used text ≡ texts ts = x.front ∙ ap (λ (v : List ℕ). texts ts ++ v) z ∙ append-nil (texts ts) in
    let u : h.used ≡ length (texts ts) = omega (arith, x.used_is, x.start_is, ap length z) in
    let a : text ≡ texts ts ++ drop (length (texts ts)) text₀ = written_all x.written f in
    record {
      count_is = x.count_is ∙ ap length (sym t);
      used_is = u ∙ ap (λ (l : List Token). length (texts l)) (sym t);
      stop_is = sym p;
      text_is = subst (λ (l : List Token). text ≡ texts l ++ drop (length (texts l)) text₀) (sym t) a;
      long = x.long;
      records_are = subst (λ (l : List Token). length (words_from 0 l) ≤ length records₀ → records ≡ words_from 0 l ++ drop (length (words_from 0 l)) records₀) (sym t)
          (λ k. let r = x.recorded (omega (arith, x.count_is, words_length 0 ts)) in written_all r.0 r.1);
    }

module _ {s text₀ records₀ text records : List ℕ} {i : ℕ} {c : Cursor} {h : Held} {state : ℕ} (x : Sofar s text₀ records₀ text records i c h state) where
  -- a step by a cell that so many bytes pay for
  module _ (n v : ℕ) (y : Cell) (l : c.place + n ≤ length s) (e : v ≡ encode y) (p : Paid n x.q y) where
    can_step : Ready v c h text
    can_step =
        let i : keeps_in v ≡ y.keeps = ap keeps_in e ∙ keeps_in_lem y in
        let j : joins_in v ≡ y.joins = ap joins_in e ∙ joins_in_lem y in
        let g : ends_in v ≡ y.ends = ap ends_in e ∙ ends_in_lem y in
        let o : feeds_in v ≡ y.feeds = ap feeds_in e ∙ feeds_in_lem y in
        record {
          place_low = omega (arith, x.inside, x.short);
          from_low = omega (arith, x.from_low);
          start_low = omega (arith, x.stored.used_is);
          room = rw (i, j) (omega (arith, p.wide, x.used_low, x.room, x.stored.written.long));
          used_low = rw i (omega (arith, p.wide, x.used_low, x.short));
          count_low = omega (arith, x.count_low, x.inside, x.short);
          behind = rw g (behind_by y.ends n x.q c h p.cut p.shut x.from_low (omega (arith, x.short)));
          line_low = rw o (omega (arith, p.fed, x.short));
        }

    -- what it leaves
    leaves : (b : ℕ) {text' records' : List ℕ} {h' : Held} → Stepped v state b c h text text' records records' h'
        → Left text₀ records₀ text' records' x.done x.said y x.q b c h h'
    leaves b z = stored_step v state b y x.q c x.stored e x.state_is (omega (arith, p.wide, x.used_low, x.room)) z

  -- by the cell of this byte
  module _ (l : i < length s) (v : ℕ) (f : (q : State) → state ≡ code q → v ≡ encode (cell q (class_of (get_or s i 0)))) where
    abbrev b : ℕ
    b = get_or s i 0

    abbrev y : Cell
    y = cell x.q (class_of b)

    v_is : v ≡ encode y
    v_is = f x.q x.state_is

    pub ready : Ready v c h text
    ready = can_step 1 v y (omega (arith, x.place_is)) v_is (paid_cell x.q (class_of b))

    -- the automaton from the next state on
    abbrev going : State → ℕ → Cursor → Cursor → Reading
    going p at e d = automaton p (drop at s) e d (left y b x.said)

    abbrev goes_on : Next → Reading
    goes_on n = tell (x.done ++ told y x.q c h.from x.said) (leads n c (λ p. going p (c.place + 1) (moved c b) (opened y.begins c h.from)))

    step_is : plain_reading s ≡ goes_on y.next
    unfolding automaton
    step_is =
        let e : drop c.place s ≡ b ∷ drop (c.place + 1) s =
        next_byte s c.place (omega (arith, x.place_is, l)) ∙ ap (λ (i : ℕ). get_or s i 0 ∷ drop (c.place + 1) s) x.place_is in
        x.reading_is ∙ ap (λ (r : List ℕ). tell x.done (automaton x.q r c h.from x.said)) e
        ∙ sym (tell_append x.done (told y x.q c h.from x.said) _)

    module _ {text' records' : List ℕ} {h' : Held} (z : Stepped v state b c h text text' records records' h') where
      k : Left text₀ records₀ text' records' x.done x.said y x.q b c h h'
      k = leaves 1 v y (omega (arith, x.place_is)) v_is (paid_cell x.q (class_of b)) b z

      next_is : v % 256 ≡ row_of y.next
      next_is = ap (λ (i : ℕ). i % 256) v_is ∙ next_in y

      stops_is : v / 32768 ≡ stops_at y.next
      stops_is = ap (λ (i : ℕ). i / 32768) v_is ∙ stops_in y

      clear_next : (n : Next) → y.next ≡ n → ClearNext n (left y b x.said)
      clear_next n i = subst (λ (n : Next). ClearNext n (left y b x.said)) i (clear x.q (class_of b) b x.said x.clear_is)

      -- the cell halts
      pub halted : 32768 ≤ v → Whole s text₀ text' records₀ records' (tallied h' c)
      halted e = go y.next refl
        where
          go : (n : Next) → y.next ≡ n → Whole s text₀ text' records₀ records' (tallied h' c)
          go halts i = finished (step_is ∙ ap goes_on i) (clear_next halts i) k.stored
          go (goes p) i = absurd (omega (arith, e, stops_is, ap stops_at i))

      begun_low : (t : Bool) (p : State) → h'.from ≡ opened t c h.from → h'.from.place + apart p ≤ c.place + 1
      begun_low true p i = omega (arith, ap (λ (d : Cursor). d.place) i, apart_low p)
      begun_low false p i = omega (arith, ap (λ (d : Cursor). d.place) i, x.from_low, apart_low p)

      -- it goes on
      pub turned : v < 32768 → (c' : Cursor) → c' ≡ moved c b → Sofar s text₀ records₀ text' records' (i + 1) c' h' (v % 256)
      turned e c' m = go y.next refl
        where
          go : (n : Next) → y.next ≡ n → Sofar s text₀ records₀ text' records' (i + 1) c' h' (v % 256)
          go halts j = absurd (omega (arith, e, stops_is, ap stops_at j))
          go (goes p) j =
              let w = (paid_cell x.q (class_of b)).wide in
              let o : owed_next y.next ≡ owed p = ap owed_next j in
              let a : c'.place ≡ c.place + 1 = on c c' b m in
              record {
                place_is = omega (arith, a, x.place_is);
                q = p;
                state_is = next_is ∙ ap row_of j;
                done = x.done ++ told y x.q c h.from x.said;
                said = left y b x.said;
                clear_is = clear_next (goes p) j;
                reading_is =
                    step_is ∙ ap goes_on j
                    ∙ ap (λ (j : ℕ). tell (x.done ++ told y x.q c h.from x.said) (going p j (moved c b) (opened y.begins c h.from))) (sym a)
                    ∙ ap₂ (λ (u d : Cursor). tell (x.done ++ told y x.q c h.from x.said) (going p c'.place u d)) (sym m) (sym k.from_is);
                stored = k.stored;
                short = x.short;
                room = x.room;
                inside = omega (arith, a, x.place_is);
                bounded = subst (Bounded 1) (sym m) (unfold moves in moves_bounded 1 (omega arith) (b ∷ []) c x.bounded);
                from_low = omega (arith, a, begun_low y.begins p k.from_is);
                used_low = omega (arith, a, k.used_is, w, o, x.used_low);
                count_low = omega (arith, a, k.count_low, x.count_low);
              }

  -- at the end of the text
  module _ (l : length s ≤ i) (v : ℕ) (f : (q : State) → state ≡ code q → v ≡ encode (cell q over)) where
    abbrev z : Cell
    z = cell x.q over

    pub ready_over : Ready v c h text
    ready_over = can_step 0 v z (omega (arith, x.inside)) (f x.q x.state_is) (paid_over x.q)

    pub ended : {text' records' : List ℕ} {h' : Held} → Acted v state c h text text' records records' h' → Whole s text₀ text' records₀ records' (tallied h' c)
    unfolding automaton
    ended w =
        finished
        (x.reading_is ∙ ap (λ (r : List ℕ). tell x.done (automaton x.q r c h.from x.said)) (drop_of_length-le s (omega (arith, x.place_is, l)))
        ∙ sym (tell_append x.done (told z x.q c h.from x.said) (stops c)))
        (over_clear x.q 0 x.said x.clear_is)
        (leaves 0 v z (omega (arith, x.inside)) (f x.q x.state_is) (paid_over x.q) 0 (closing 0 (ap joins_in (f x.q x.state_is) ∙ joins_in_lem z ∙ over_joins x.q) w)).stored

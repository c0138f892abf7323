-- The loop over a directive's arguments: those taken so far stand in scratch, and those still to come follow from the cursor.
use mathlib.Core.Path.{◌≡◌, refl, sym, ap, ap₂, ◌∙◌, subst}
use mathlib.Core.Bool.{Bool, true, false}
use mathlib.Core.List.{List, [], ◌∷◌, ◌++◌, append_assoc, append-nil}
use Prim.Native.Nat.{ℕ, zero, suc, ◌+◌, ◌≤◌}
use native.Mathlib.Omega.{arith}
use native.Mathlib.Nat.{add-zero}
use lib.ListN.{length, take, length-append}
use lib.Seq.{take_all, take-append-le}
use lib.Dec.{ltb, eqb}
use borrow.Author.Tests.{ltb-true, ltb-false, eqb-true, eqb-false}
use Rattle.ascii.specs.Choice.{pick}
use Rattle.lent.specs.Sizes.{limit}
use Rattle.lent.specs.Layout.{texts_of}
use Rattle.lent.specs.Sources.{Part, part}
use Rattle.lent.proofs.LayoutLaws.{texts_more, count_more}
use Rattle.lexer.specs.declared.Kind.{Kind}
use Rattle.lexer.specs.declared.Kind.TheVariants.{Directive as Leading, Word, QuotedString, Comment, Newline}
use Rattle.lexer.specs.declared.Cursor.{Cursor}
use Rattle.lexer.specs.declared.stepping.Lexeme.{Lexeme}
use Rattle.lexer.specs.Tokens.{Token, Reading}
use Rattle.lexer.specs.Layout.{text_of, texts}
use Rattle.lexer.specs.Calls.{Reached}
use Rattle.directives.specs.Groups.{argument_by, arguments_of, item_by, items, joined, stray}
use Rattle.directives.specs.Directives.{last_past, standing}
use Rattle.directives.specs.Steps.{Laid, role_of, onward, Token-is, None-is, ends_at, place_of, arguments_as, one_more, taken_from, Took}
use Rattle.directives.specs.declared.tokens.Role.TheVariants.{Opens, Argues, Closes}
use Rattle.directives.specs.declared.arguments.Arguments.{Arguments}
use Rattle.directives.specs.contracts.tokens.Role.{the_type}
use denote.Enum.Declared.{tag_of}
use Rattle.directives.proofs.LaidLaws.{laid_none, laid_placed, laid_more, laid_front}

-- ---- one argument more

ends_more : (held k : ℕ) (args : List Token) (u : Token)
    → pick (ltb (length args) k) (held + length (texts args) + length u.text) (ends_at held k args) ≡ ends_at held k (args ++ u ∷ [])
ends_more held k args u = go (ltb (length args) k) refl
  where
    n : length (texts (args ++ u ∷ [])) ≡ length (texts args) + length u.text
    n = ap length (texts_more text_of args u) ∙ length-append (texts args) u.text

    go : (t : Bool) → ltb (length args) k ≡ t → pick t (held + length (texts args) + length u.text) (ends_at held k args) ≡ ends_at held k (args ++ u ∷ [])
    go true e =
        let l : take k (args ++ u ∷ []) ≡ args ++ u ∷ [] = take_all k (args ++ u ∷ []) (omega (arith, ltb-true (length args) k e, count_more args u)) in
        rw l (omega (arith, n))
    go false e = let l : take k (args ++ u ∷ []) ≡ take k args = take-append-le k args (u ∷ []) (ltb-false (length args) k e) in rw l

past_more : (p : ℕ) (args : List Token) (u : Token) → last_past p (args ++ u ∷ []) ≡ u.past
unfolding last_past
past_more p [] u = refl
past_more p (t ∷ args) u = past_more t.past args u

-- the new one is the last, and the others stay where they were
place_last : (args : List Token) (u : Token) → place_of (length args) (args ++ u ∷ []) ≡ standing u
unfolding place_of
place_last [] u = refl
place_last (t ∷ args) u = place_last args u

place_kept : (n : ℕ) (args : List Token) (u : Token) → (length args ≡ n → ⊥) → place_of n (args ++ u ∷ []) ≡ place_of n args
unfolding place_of
place_kept zero [] u h = absurd (h refl)
place_kept zero (t ∷ args) u h = refl
place_kept (suc n) [] u h = refl
place_kept (suc n) (t ∷ args) u h = place_kept n args u (λ e. h (ap suc e))

place_more : (n : ℕ) (args : List Token) (u : Token) → pick (eqb (length args) n) (standing u) (place_of n args) ≡ place_of n (args ++ u ∷ [])
place_more n args u = go (eqb (length args) n) refl
  where
    go : (t : Bool) → eqb (length args) n ≡ t → pick t (standing u) (place_of n args) ≡ place_of n (args ++ u ∷ [])
    go true e = sym (place_last args u) ∙ ap (λ (m : ℕ). place_of m (args ++ u ∷ [])) (eqb-true (length args) n e)
    go false e = sym (place_kept n args u (eqb-false (length args) n e))

same_arguments : {c c' a a' b b' d d' e e' p p' : ℕ} {f f' g g' h h' : Part} → c ≡ c' → a ≡ a' → b ≡ b' → d ≡ d' → e ≡ e' → p ≡ p' → f ≡ f' → g ≡ g' → h ≡ h'
    → ◌≡◌ {A = Arguments} (record { count = c; one = a; two = b; three = d; end = e; past = p; first = f; second = g; third = h })
    (record { count = c'; one = a'; two = b'; three = d'; end = e'; past = p'; first = f'; second = g'; third = h' })
same_arguments c a b d e p f g h = rw (c, a, b, d, e, p, f, g, h)

more_arguments : (held past : ℕ) (args : List Token) (u : Token) → one_more (arguments_as held past args) (length u.text) (standing u) ≡ arguments_as held past (args ++ u ∷ [])
more_arguments held past args u =
    let n : held + length (texts args) + length u.text ≡ held + length (texts (args ++ u ∷ [])) =
    omega (arith, ap length (texts_more text_of args u), length-append (texts args) u.text) in
    same_arguments (sym (count_more args u)) (ends_more held 1 args u) (ends_more held 2 args u) (ends_more held 3 args u) n (sym (past_more past args u))
    (place_more 0 args u) (place_more 1 args u) (place_more 2 args u)

-- none yet
pub no_arguments : (held past : ℕ)
    → record { count = 0; one = held; two = held; three = held; end = held; past = past; first = part 0 0; second = part 0 0; third = part 0 0 } ≡ arguments_as held past []
unfolding texts_of last_past place_of
no_arguments held past = let e : held ≡ held + 0 = sym (add-zero held) in same_arguments refl e e e e refl refl refl refl

-- ---- what a token is to them, by its role

module _ (u : Token) (ts : List Token) where
  pub argues : role_of u.kind ≡ Argues → (arguments_of (u ∷ ts) ≡ u ∷ arguments_of ts) × (items true (u ∷ ts) ≡ items true ts) × (items false (u ∷ ts) ≡ stray u ∷ items false ts)
  unfolding arguments_of items
  argues = go u.kind
    where
      go : (k : Kind) → role_of k ≡ Argues → (argument_by k u (arguments_of ts) ≡ u ∷ arguments_of ts) × (item_by k true u ts (λ now. items now ts) ≡ items true ts) × (item_by k false u ts (λ now. items now ts) ≡ stray u ∷ items false ts)
      go Leading e = let z : ◌≡◌ {A = ℕ} 0 1 = ap (tag_of the_type) e in absurd (omega arith)
      go Word e = (refl, refl, refl)
      go QuotedString e = (refl, refl, refl)
      go Comment e = let z : ◌≡◌ {A = ℕ} 2 1 = ap (tag_of the_type) e in absurd (omega arith)
      go Newline e = let z : ◌≡◌ {A = ℕ} 2 1 = ap (tag_of the_type) e in absurd (omega arith)

  pub closes : role_of u.kind ≡ Closes → (arguments_of (u ∷ ts) ≡ []) × ((t : Bool) → items t (u ∷ ts) ≡ items false ts)
  unfolding arguments_of items
  closes = go u.kind
    where
      go : (k : Kind) → role_of k ≡ Closes → (argument_by k u (arguments_of ts) ≡ []) × ((t : Bool) → item_by k t u ts (λ now. items now ts) ≡ items false ts)
      go Leading e = let z : ◌≡◌ {A = ℕ} 0 2 = ap (tag_of the_type) e in absurd (omega arith)
      go Word e = let z : ◌≡◌ {A = ℕ} 1 2 = ap (tag_of the_type) e in absurd (omega arith)
      go QuotedString e = let z : ◌≡◌ {A = ℕ} 1 2 = ap (tag_of the_type) e in absurd (omega arith)
      go Comment e = (refl, λ t. refl)
      go Newline e = (refl, λ t. refl)

  pub opens : role_of u.kind ≡ Opens → (arguments_of (u ∷ ts) ≡ []) × ((t : Bool) → items t (u ∷ ts) ≡ joined u (arguments_of ts) ∷ items true ts)
  unfolding arguments_of items
  opens = go u.kind
    where
      go : (k : Kind) → role_of k ≡ Opens → (argument_by k u (arguments_of ts) ≡ []) × ((t : Bool) → item_by k t u ts (λ now. items now ts) ≡ joined u (arguments_of ts) ∷ items true ts)
      go Leading e = (refl, λ t. refl)
      go Word e = let z : ◌≡◌ {A = ℕ} 1 0 = ap (tag_of the_type) e in absurd (omega arith)
      go QuotedString e = let z : ◌≡◌ {A = ℕ} 1 0 = ap (tag_of the_type) e in absurd (omega arith)
      go Comment e = let z : ◌≡◌ {A = ℕ} 2 0 = ap (tag_of the_type) e in absurd (omega arith)
      go Newline e = let z : ◌≡◌ {A = ℕ} 2 0 = ap (tag_of the_type) e in absurd (omega arith)

-- ---- the loop

pub record Going (s : List ℕ) (from : Cursor) (past held : ℕ) (scratch₀ scratch : List ℕ) (here : Cursor) (a : Arguments) : Type 0 where
  pub done : List Token
  pub taken_are : taken_from s from ≡ done ++ taken_from s here
  pub rest : items true (onward s from).tokens ≡ items true (onward s here).tokens
  pub stop : (onward s from).stop ≡ (onward s here).stop
  pub arguments_are : a ≡ arguments_as held past done
  pub laid : Laid scratch₀ scratch held (texts done)
  pub arrived : Reached s here
  pub short : from.place + length (texts done) ≤ here.place
  pub few : length done ≤ here.place
  pub past_low : past ≤ a.past
  pub past_high : a.past ≤ here.place

module _ (s : List ℕ) (from : Cursor) (past held : ℕ) (scratch₀ : List ℕ) (within : length s ≤ limit) (room : length s ≤ length scratch₀)
    (held_Low : held ≤ from.place) (past_low : past ≤ from.place) (arrived : Reached s from) where
  pub begun : {a : Arguments} → a ≡ arguments_as held past [] → Going s from past held scratch₀ scratch₀ from a
  unfolding texts_of last_past
  begun {a} e = let p : a.past ≡ past = ap (λ (b : Arguments). b.past) e in record {
    done = [];
    taken_are = refl;
    rest = refl;
    stop = refl;
    arguments_are = e;
    laid = laid_none scratch₀ held (omega (arith, arrived.inside));
    arrived = arrived;
    short = omega arith;
    few = omega arith;
    past_low = omega (arith, p);
    past_high = omega (arith, p, past_low);
  }

  module _ {scratch : List ℕ} {here : Cursor} {a : Arguments} (g : Going s from past held scratch₀ scratch here a) where
    end_is : a.end ≡ held + length (texts g.done)
    end_is = ap (λ (b : Arguments). b.end) g.arguments_are

    count_is : a.count ≡ length g.done
    count_is = ap (λ (b : Arguments). b.count) g.arguments_are

    -- the next token's text has room behind those that are held
    pub going_low : (length s ≤ length scratch) × (a.end ≤ here.place)
    going_low = (omega (arith, g.laid.long), omega (arith, end_is, g.short))

    -- all arguments are taken, and nothing was written before where they end
    ended : (next : Cursor) {scratch' : List ℕ} → Laid scratch₀ scratch' held (texts g.done) → taken_from s here ≡ []
        → items true (onward s here).tokens ≡ items false (onward s next).tokens → (onward s here).stop ≡ (onward s next).stop → Reached s next → here.place ≤ next.place
        → Took s from past held scratch₀ scratch' (record { arguments = a; next = next })
    ended next {scratch'} l e i z r p =
        let t : taken_from s from ≡ g.done = g.taken_are ∙ ap (λ (m : List Token). g.done ++ m) e ∙ append-nil g.done in
        record {
          arguments_are = g.arguments_are ∙ ap (arguments_as held past) (sym t);
          rest = g.rest ∙ i;
          stop = g.stop ∙ z;
          laid = subst (λ (m : List Token). Laid scratch₀ scratch' held (texts m)) (sym t) l;
          arrived = r;
          short = subst (λ (m : List Token). from.place + length (texts m) ≤ next.place) (sym t) (omega (arith, g.short));
          past_low = g.past_low;
          past_high = omega (arith, g.past_high);
        }

    -- nothing is left
    pub none_left : {scratch' : List ℕ} {stop : Cursor} → None-is s here scratch scratch' stop → Took s from past held scratch₀ scratch' (record { arguments = a; next = here })
    unfolding arguments_of items
    none_left x =
        ended here (subst (λ (l : List ℕ). Laid scratch₀ l held (texts g.done)) (sym x.same) g.laid) (ap (λ (r : Reading). arguments_of r.tokens) x.none)
        (ap (λ (r : Reading). items true r.tokens) x.none ∙ sym (ap (λ (r : Reading). items false r.tokens) x.none)) refl g.arrived (omega arith)

    module _ {scratch' : List ℕ} {l : Lexeme} (x : Token-is s here a.end scratch scratch' l) where
      abbrev u : Token
      u = x.t

      abbrev ts : List Token
      ts = (onward s l.next).tokens

      tokens_are : (onward s here).tokens ≡ u ∷ ts
      tokens_are = ap (λ (r : Reading). r.tokens) x.more

      stop_is : (onward s here).stop ≡ (onward s l.next).stop
      stop_is = ap (λ (r : Reading). r.stop) x.more

      kind_is : l.kind ≡ u.kind
      kind_is = ap (λ (m : Lexeme). m.kind) x.is

      laid_more' : Laid scratch₀ scratch' held (texts g.done ++ u.text)
      laid_more' =
          let f : a.end + length u.text ≤ length scratch = omega (arith, end_is, g.short, g.laid.long, x.short, x.arrived.inside) in
          laid_more g.laid (subst (λ (n : ℕ). Laid scratch scratch' n u.text) end_is (subst (λ (m : List ℕ). Laid scratch m a.end u.text) (sym x.text) (laid_placed scratch a.end u.text f)))

      kept : Laid scratch₀ scratch' held (texts g.done)
      kept = laid_front (texts g.done) u.text laid_more'

      -- a Newline or a Comment ends them, and is passed
      pub closed : role_of l.kind ≡ Closes → Took s from past held scratch₀ scratch' (record { arguments = a; next = l.next })
      closed e =
          let c = closes u ts (ap role_of (sym kind_is) ∙ e) in
          ended l.next kept (ap arguments_of tokens_are ∙ c.0) (ap (items true) tokens_are ∙ c.1 true) stop_is x.arrived (omega (arith, x.ahead))

      -- a Directive ends them too, and is read again
      pub opened : role_of l.kind ≡ Opens → Took s from past held scratch₀ scratch' (record { arguments = a; next = here })
      opened e =
          let c = opens u ts (ap role_of (sym kind_is) ∙ e) in
          ended here kept (ap arguments_of tokens_are ∙ c.0) (ap (items true) tokens_are ∙ c.1 true ∙ sym (ap (items false) tokens_are ∙ c.1 false)) refl g.arrived (omega arith)

      pub one_fits : (a.count ≤ limit) × (a.end + l.len ≤ limit)
      one_fits =
          let n : l.len ≡ length u.text = ap (λ (m : Lexeme). m.len) x.is in
          (omega (arith, count_is, g.few, g.arrived.inside), omega (arith, n, going_low.1, x.short, x.arrived.inside))

      -- one argument more
      pub turned : role_of l.kind ≡ Argues → {b : Arguments} → b ≡ one_more a l.len (part l.first l.next.place) → Going s from past held scratch₀ scratch' l.next b
      turned e {b} f =
          let c = argues u ts (ap role_of (sym kind_is) ∙ e) in
          let n : l.len ≡ length u.text = ap (λ (m : Lexeme). m.len) x.is in
          let d = g.done ++ u ∷ [] in
          let stands : part l.first l.next.place ≡ standing u = ap₂ part (ap (λ (m : Lexeme). m.first) x.is) (sym x.ends) in
          let b_is : b ≡ arguments_as held past d =
          f ∙ ap₂ (one_more a) n stands ∙ ap (λ (o : Arguments). one_more o (length u.text) (standing u)) g.arguments_are ∙ more_arguments held past g.done u in
          let p : b.past ≡ l.next.place = ap (λ (o : Arguments). o.past) f in
          record {
            done = d;
            taken_are = g.taken_are ∙ ap (λ (m : List Token). g.done ++ m) (ap arguments_of tokens_are ∙ c.0) ∙ sym (append_assoc g.done (u ∷ []) (taken_from s l.next));
            rest = g.rest ∙ ap (items true) tokens_are ∙ c.1;
            stop = g.stop ∙ stop_is;
            arguments_are = b_is;
            laid = subst (λ (m : List ℕ). Laid scratch₀ scratch' held m) (sym (texts_more text_of g.done u)) laid_more';
            arrived = x.arrived;
            short = omega (arith, g.short, x.short, ap length (texts_more text_of g.done u), length-append (texts g.done) u.text);
            few = omega (arith, g.few, x.ahead, count_more g.done u);
            past_low = omega (arith, p, g.past_low, g.past_high, x.ahead);
            past_high = omega (arith, p);
          }

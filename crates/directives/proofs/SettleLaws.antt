-- Spans put into the input: what `places` makes of them, from the part of the input or of scratch that it is given, is what the
-- definition says.
use mathlib.Core.Path.{◌≡◌, ◌∙◌, refl, sym, ap, subst}
use mathlib.Core.Bool.{Bool, true, false}
use mathlib.Core.List.{List, [], ◌∷◌, ◌++◌, append_assoc}
use Prim.Native.Nat.{ℕ, zero, suc, ◌+◌, ◌≤◌}
use native.Mathlib.Omega.{arith}
use lib.ListN.{length, take, drop, get_or, length-append, take-append-drop}
use lib.Seq.{length-take-le}
use lib.Dec.{eqb}
use borrow.Author.Tests.{le-leb}
use Rattle.ascii.specs.Choice.{pick}
use Rattle.lent.specs.Sizes.{limit, action_words}
use Rattle.lent.specs.Layout.{texts_of}
use Rattle.lent.specs.Sources.{Part, part_word}
use Rattle.places.specs.declared.Rule.TheVariants as Rule
use Rattle.places.specs.Sites.{word_part, site_of, site_word}
use Rattle.places.specs.Moves.{last_changed, within, SiteWord, Resite}
use Rattle.lexer.specs.declared.Cursor.{Cursor}
use Rattle.lexer.specs.Tokens.{Token}
use Rattle.lexer.specs.Layout as Lexed
use Rattle.lexer.specs.Steps.{part}
use Rattle.single_action.specs.Marks.{quotation}
use Rattle.operators.proofs.PlaceLaws.{drop_take}
use Rattle.directives.specs.Directives.{is_mark, between, site_at}
use Rattle.directives.specs.Steps.{Laid, ends_at, arguments_as, taken_from, Took, held_list}
use Rattle.directives.specs.Settling.{Stands, token_word, text_number, list_among, list_in, list_text, Heard, Listing}
use Rattle.directives.specs.declared.arguments.Arguments.{Arguments}
use Rattle.directives.specs.declared.arguments.Taken.{Taken}
use Rattle.directives.specs.declared.settling.Listed.{Listed as ListPlace}
use Rattle.directives.proofs.LaidLaws.{part_of}

-- ---- a token of the input

-- a quotation mark of actions opens a quoted text
pub mark_is : (b : ℕ) → is_mark b ≡ quotation b
unfolding quotation
mark_is b = refl

module _ {s : List ℕ} {t : Part} (h : Stands s t) where
  -- the input up to the token's end
  pub front_long : length (take t.past s) ≡ t.past
  front_long = length-take-le t.past s h.inside

  -- places of the token are within it
  within_token : (k width : ℕ) → k ≤ t.past → 1 ≤ width → within (take t.past s) k width ≡ true
  within_token k width l w = rw (front_long, le-leb t.past limit (omega (arith, h.inside, h.short)), le-leb k t.past l, le-leb 1 width w)

  quoted_is : is_mark (get_or s t.first 0) ≡ true → site_word Rule.Quoted (t.first + 1) (drop (t.first + 1) (take t.past s)) ≡ token_word s t
  unfolding site_word site_at
  quoted_is e =
      ap {B = ℕ → ℕ} (λ (r : List ℕ) (w : ℕ). part_word (site_of Rule.Quoted (t.first + 1) r (word_part w))) (drop_take (t.first + 1) t.past s)
      ∙ ap {B = ℕ → ℕ} (λ (b : Bool) (w : ℕ).
      part_word (pick b (site_of Rule.Quoted (t.first + 1) (between s (t.first + 1) t.past)) (site_of Rule.Word t.first (between s t.first t.past)) (word_part w))) (sym e)

  word_is : is_mark (get_or s t.first 0) ≡ false → site_word Rule.Word t.first (drop t.first (take t.past s)) ≡ token_word s t
  unfolding site_word site_at
  word_is e =
      ap {B = ℕ → ℕ} (λ (r : List ℕ) (w : ℕ). part_word (site_of Rule.Word t.first r (word_part w))) (drop_take t.first t.past s)
      ∙ ap {B = ℕ → ℕ} (λ (b : Bool) (w : ℕ).
      part_word (pick b (site_of Rule.Quoted (t.first + 1) (between s (t.first + 1) t.past)) (site_of Rule.Word t.first (between s t.first t.past)) (word_part w))) (sym e)

  module _ {count width at : ℕ} {records records' : List ℕ} (w : 1 ≤ width) where
    pub records_quoted : is_mark (get_or s t.first 0) ≡ true → Resite (take t.past s) (t.first + 1) Rule.Quoted count width at records records'
        → records' ≡ last_changed (token_word s t) width count at records
    records_quoted e m =
        let f = site_word Rule.Quoted (t.first + 1) (drop (t.first + 1) (take t.past s)) in
        m.words
        ∙ ap (λ (b : Bool). pick b (last_changed f width count at records) records) (within_token (t.first + 1) width (omega (arith, h.some)) w)
        ∙ ap (λ (g : ℕ → ℕ). last_changed g width count at records) (quoted_is e)

    pub records_word : is_mark (get_or s t.first 0) ≡ false → Resite (take t.past s) t.first Rule.Word count width at records records'
        → records' ≡ last_changed (token_word s t) width count at records
    records_word e m =
        let f = site_word Rule.Word t.first (drop t.first (take t.past s)) in
        m.words
        ∙ ap (λ (b : Bool). pick b (last_changed f width count at records) records) (within_token t.first width (omega (arith, h.some)) w)
        ∙ ap (λ (g : ℕ → ℕ). last_changed g width count at records) (word_is e)

  module _ {span r : ℕ} where
    pub span_quoted : is_mark (get_or s t.first 0) ≡ true → SiteWord (take t.past s) (t.first + 1) Rule.Quoted span r → r ≡ token_word s t span
    span_quoted e m =
        let f = site_word Rule.Quoted (t.first + 1) (drop (t.first + 1) (take t.past s)) in
        m.is
        ∙ ap (λ (b : Bool). pick b (f span) span) (within_token (t.first + 1) 1 (omega (arith, h.some)) (omega arith))
        ∙ ap (λ (g : ℕ → ℕ). g span) (quoted_is e)

    pub span_word_lem : is_mark (get_or s t.first 0) ≡ false → SiteWord (take t.past s) t.first Rule.Word span r → r ≡ token_word s t span
    span_word_lem e m =
        let f = site_word Rule.Word t.first (drop t.first (take t.past s)) in
        m.is
        ∙ ap (λ (b : Bool). pick b (f span) span) (within_token t.first 1 (omega (arith, h.some)) (omega arith))
        ∙ ap (λ (g : ℕ → ℕ). g span) (word_is e)

-- ---- one argument among the texts of all

texts_none : (args : List Token) → Lexed.texts (take 0 args) ≡ []
unfolding texts_of
texts_none [] = refl
texts_none (t ∷ args) = refl

texts_split : (k : ℕ) (args : List Token) → Lexed.texts args ≡ Lexed.texts (take k args) ++ (text_number k args ++ Lexed.texts (drop (suc k) args))
unfolding texts_of text_number
texts_split zero [] = refl
texts_split (suc k) [] = refl
texts_split zero (t ∷ args) = refl
texts_split (suc k) (t ∷ args) =
    ap (λ (l : List ℕ). t.text ++ l) (texts_split k args) ∙ sym (append_assoc t.text (Lexed.texts (take k args)) (text_number k args ++ Lexed.texts (drop (suc k) args)))

texts_next : (k : ℕ) (args : List Token) → length (Lexed.texts (take (suc k) args)) ≡ length (Lexed.texts (take k args)) + length (text_number k args)
unfolding texts_of text_number
texts_next zero [] = refl
texts_next (suc k) [] = refl
texts_next zero (t ∷ args) = length-append t.text (Lexed.texts (take 0 args)) ∙ omega (arith, ap length (texts_none args))
texts_next (suc k) (t ∷ args) =
    omega (arith, texts_next k args, length-append t.text (Lexed.texts (take k args)), length-append t.text (Lexed.texts (take (suc k) args)))

-- it is no longer than all
number_fits : (k : ℕ) (args : List Token) → length (text_number k args) ≤ length (Lexed.texts args)
number_fits k args =
    let a = Lexed.texts (take k args) in
    let b = Lexed.texts (drop (suc k) args) in
    omega (arith, ap length (texts_split k args), length-append a (text_number k args ++ b), length-append (text_number k args) b)

-- Where it stands in scratch, behind a name.
pub record At (k : ℕ) (args : List Token) (name : ℕ) (scratch : List ℕ) : Type 0 where
  pub order : ends_at name k args ≤ ends_at name (suc k) args
  pub inside : ends_at name (suc k) args ≤ length scratch
  pub text : part scratch (ends_at name k args) (ends_at name (suc k) args) ≡ text_number k args

module _ {old new : List ℕ} {name : ℕ} (args : List Token) (x : Laid old new name (Lexed.texts args)) where
  pub argument_at : (k : ℕ) → At k args name new
  argument_at k = record {
    order = omega (arith, texts_next k args);
    inside = omega (arith, x.fits, x.long, ap length split, length-append a (y ++ b), length-append y b, texts_next k args);
    text = part_of (take name old ++ a) y (b ++ rest) new_is first past;
  }
    where
      a : List ℕ
      a = Lexed.texts (take k args)

      b : List ℕ
      b = Lexed.texts (drop (suc k) args)

      y : List ℕ
      y = text_number k args

      rest : List ℕ
      rest = drop (name + length (Lexed.texts args)) new

      split : Lexed.texts args ≡ a ++ (y ++ b)
      split = texts_split k args

      new_is : new ≡ (take name old ++ a) ++ (y ++ (b ++ rest))
      new_is =
          sym (take-append-drop (name + length (Lexed.texts args)) new)
          ∙ ap (λ (l : List ℕ). l ++ rest) (x.front ∙ ap (λ (l : List ℕ). take name old ++ l) split)
          ∙ append_assoc (take name old) (a ++ (y ++ b)) rest
          ∙ ap (λ (l : List ℕ). take name old ++ l) (append_assoc a (y ++ b) rest ∙ ap (λ (l : List ℕ). a ++ l) (append_assoc y b rest))
          ∙ sym (append_assoc (take name old) a (y ++ (b ++ rest)))

      first : ends_at name k args ≡ length (take name old ++ a)
      first = omega (arith, length-append (take name old) a, length-take-le name old (omega (arith, x.fits)))

      past : ends_at name (suc k) args ≡ ends_at name k args + length y
      past = omega (arith, texts_next k args)

-- ---- the list of actions among them

-- a text in scratch
pub record ListAt (t : List ℕ) (first past : ℕ) (scratch : List ℕ) : Type 0 where
  pub order : first ≤ past
  pub inside : past ≤ length scratch
  pub text : part scratch first past ≡ t

module _ {old new : List ℕ} {name : ℕ} (past : ℕ) (args : List Token) (x : Laid old new name (Lexed.texts args)) where
  abbrev a : Arguments
  a = arguments_as name past args

  zeroth : ends_at name 0 args ≡ name
  zeroth = omega (arith, ap length (texts_none args))

  first_at : ListAt (text_number 0 args) name (ends_at name 1 args) new
  first_at = let y = argument_at args x 0 in record {
    order = omega (arith, y.order, zeroth);
    inside = y.inside;
    text = ap (λ (i : ℕ). part new i (ends_at name 1 args)) (sym zeroth) ∙ y.text;
  }

  third_at : ListAt (text_number 2 args) (ends_at name 2 args) (ends_at name 3 args) new
  third_at = let y = argument_at args x 2 in record { order = y.order; inside = y.inside; text = y.text }

  -- The list of actions as it stands there is the text of its argument.
  pub held_list_lem : held_list new name (arguments_as name past args) ≡ text_number (list_among (length args)) args
  held_list_lem = go (eqb (length args) 1)
    where
      go : (t : Bool) → pick t (part new name (ends_at name 1 args)) (part new (ends_at name 2 args) (ends_at name 3 args)) ≡ text_number (pick t 0 2) args
      go true = first_at.text
      go false = third_at.text

  list_at : (l : ListPlace) → l ≡ list_in a name → ListAt (text_number (list_among (length args)) args) l.first l.past new
  list_at l e = subst (λ (m : ListPlace). ListAt (text_number (list_among (length args)) args) m.first m.past new) (sym e) (go (eqb (length args) 1))
    where
      go : (t : Bool)
          → ListAt (text_number (pick t 0 2) args)
          (pick {X = ListPlace} t (record { token = a.first; first = name; past = a.one }) (record { token = a.third; first = a.two; past = a.three })).first
          (pick {X = ListPlace} t (record { token = a.first; first = name; past = a.one }) (record { token = a.third; first = a.two; past = a.three })).past new
      go true = first_at
      go false = third_at

module _ {s : List ℕ} {from : Cursor} {name : ℕ} {old : List ℕ} (h : Heard s from name old) where
  module _ {l : ListPlace} (i : Listing s from name l) {new : List ℕ} {r : Taken} (x : Took s from from.place name old new r) where
    -- and the list stands in scratch then
    pub listed_at : ListAt (list_text s from) l.first l.past new
    listed_at = list_at from.place (taken_from s from) x.laid l i.is

    list_short : length (list_text s from) ≤ limit
    list_short = omega (arith, h.short, x.short, x.arrived.inside, number_fits (list_among (length (taken_from s from))) (taken_from s from))

    pub list_span : {span q : ℕ} → SiteWord (part new l.first l.past) 0 Rule.Joined span q → q ≡ site_word Rule.Joined 0 (list_text s from) span
    list_span {span} {q} m =
        let t = list_text s from in
        let n = subst (λ (u : List ℕ). SiteWord u 0 Rule.Joined span q) listed_at.text m in
        n.is ∙ rw (le-leb (length t) limit list_short, le-leb 0 (length t) (omega arith))

    pub list_records : {count at : ℕ} {records records' : List ℕ} → Resite (part new l.first l.past) 0 Rule.Joined count action_words at records records'
        → records' ≡ last_changed (site_word Rule.Joined 0 (list_text s from)) action_words count at records
    list_records {count} {at} {records} {records'} m =
        let t = list_text s from in
        let n = subst (λ (u : List ℕ). Resite u 0 Rule.Joined count action_words at records records') listed_at.text m in
        n.words ∙ rw (le-leb (length t) limit list_short, le-leb 0 (length t) (omega arith))

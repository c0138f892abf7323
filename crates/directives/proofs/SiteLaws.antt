-- Arguments stand in the input; and what settling makes of records, or of one span, that were read with places in an argument's text:
-- the same records and the same span with places in the input.
use mathlib.Core.Path.{◌≡◌, ◌∙◌, refl, sym, ap, ap₂}
use mathlib.Core.Bool.{Bool, true, false}
use mathlib.Core.List.{List, [], ◌∷◌, ◌++◌, map}
use Prim.Native.Nat.{ℕ, zero, suc, ◌+◌, ◌≤◌, ◌<◌}
use native.Mathlib.Omega.{arith}
use lib.ListN.{length, drop, length-append, length-map, length-drop}
use lib.Dec.{ltb, eqb}
use borrow.Author.Tests.{ltb-true, ltb-false, lt-ltb, eqb-true}
use Rattle.ascii.specs.Choice.{pick, or}
use Rattle.lent.specs.Sizes.{limit, variable_words, action_words}
use Rattle.lent.specs.Buffers.{stored_each}
use Rattle.lent.specs.Layout.{records_of}
use Rattle.lent.specs.Sources.{Part, part_word, Sourced, sited_by, sited_all}
use Rattle.lent.proofs.LayoutLaws.{sited_texts}
use Rattle.places.specs.declared.Rule.TheVariants.{Joined}
use Rattle.places.specs.Sites.{site_word}
use Rattle.places.specs.Moves.{last_changed}
use Rattle.places.proofs.SiteLaws.{site_bounds}
use Rattle.places.proofs.LastLaws.{last_by, Wide, each_last, Narrow, word_back, word_by, changed_by, site_word_lem, AllNarrow, records_wide, records_count, records_sited, sources_sited}
use Rattle.lexer.specs.declared.Kind.{Kind}
use Rattle.lexer.specs.declared.Kind.TheVariants.{Directive as Leading, Word, QuotedString, Comment, Newline}
use Rattle.lexer.specs.declared.Cursor.{Cursor}
use Rattle.lexer.specs.Tokens.{Token, tokens}
use Rattle.lexer.specs.Calls.{Reached as Arrived}
use Rattle.lexer.proofs.RunLaws.{passed_place, passed_length}
use Rattle.lexer.proofs.NextLaws.{taken_place}
use Rattle.lexer.proofs.TokenLaws.{by_tokens}
use Rattle.variables.specs.Variables.{Variable}
use Rattle.variables.specs.Layout as Targets
use Rattle.variables.specs.Cores as Cores
use Rattle.variables.proofs.SourceLaws as Sources
use Rattle.records.specs.Actions.{Action, action_text}
use Rattle.records.specs.Layout.{action_record}
use Rattle.records.specs.Layout as Acts
use Rattle.actions.specs.Normal.{normalised}
use Rattle.actions.specs.Lists.{normal_site}
use Rattle.actions.proofs.NormalLaws.{normalised_length}
use Rattle.actions.proofs.SourceLaws.{Inside, EachInside}
use Rattle.actions.proofs.SitingLaws.{inside_narrow, each_narrow, record_wide, sited_still, still_all}
use Rattle.directives.specs.Groups.{argument_by, arguments_of}
use Rattle.directives.specs.Directives.{site_at, argument_site, list_site}
use Rattle.directives.specs.Steps.{onward, place_of, arguments_as, taken_from, shrunk_by}
use Rattle.directives.specs.Settling.{Stands, Stand, token_word, token_moved, text_number, list_among, list_in, list_text, list_word, list_moved, list_there}
use Rattle.directives.specs.declared.arguments.Arguments.{Arguments}
use Rattle.directives.specs.declared.settling.Listed.{Listed as ListPlace}

-- ---- tokens stand in the input

-- a token of a text of n bytes: it takes one at least, and its text is no longer than the text
pub record Takes (n : ℕ) (t : Token) : Type 0 where
  pub some : t.first < t.past
  pub inside : t.past ≤ n
  pub short : length t.text ≤ n

abbrev pub AllTake : ℕ → List Token → Type 0
AllTake n [] = Unit {0}
AllTake n (t ∷ ts) = Takes n t × AllTake n ts

-- those that are read from a cursor on
tokens_take : (xs : List ℕ) (c : Cursor) → (n : ℕ) → c.place + length xs ≡ n → AllTake n (tokens 0 xs c).tokens
tokens_take =
    by_tokens (λ xs c r. (n : ℕ) → c.place + length xs ≡ n → AllTake n r.tokens)
    (λ xs c s q n e. tt)
    (λ xs c t e q k ih n f. let m = k.made in (
      record {
        some = omega (arith, m.first, m.past, passed_place m.over, m.some);
        inside = omega (arith, m.past, taken_place k, f);
        short = omega (arith, m.short, passed_length k.blanks, f);
      },
      ih n (taken_place k ∙ f),
    ))

arguments_take : (n : ℕ) (ts : List Token) → AllTake n ts → AllTake n (arguments_of ts)
unfolding arguments_of
arguments_take n [] a = tt
arguments_take n (t ∷ ts) a = go t.kind (arguments_take n ts a.1)
  where
    go : (k : Kind) → AllTake n (arguments_of ts) → AllTake n (argument_by k t (arguments_of ts))
    go Leading r = tt
    go Word r = (a.0, r)
    go QuotedString r = (a.0, r)
    go Comment r = tt
    go Newline r = tt

pub taken_take : (s : List ℕ) (c : Cursor) → c.place ≤ length s → AllTake (length s) (taken_from s c)
taken_take s c h = arguments_take (length s) (onward s c).tokens (tokens_take (drop c.place s) c (length s) (omega (arith, length-drop c.place s, h)))

-- one of them by its number
number_takes : (n : ℕ) (args : List Token) → AllTake n args → (k : ℕ) → k < length args → ((place_of k args).first < (place_of k args).past) × ((place_of k args).past ≤ n)
unfolding place_of
number_takes n [] a k h = absurd (omega arith)
number_takes n (t ∷ args) a zero h = (a.0.some, a.0.inside)
number_takes n (t ∷ args) a (suc k) h = number_takes n args a.1 k (omega arith)

number_short : (n : ℕ) (args : List Token) → AllTake n args → (k : ℕ) → length (text_number k args) ≤ n
unfolding text_number
number_short n [] a k = omega arith
number_short n (t ∷ args) a zero = a.0.short
number_short n (t ∷ args) a (suc k) = number_short n args a.1 k

module _ (s : List ℕ) (c : Cursor) (arrived : Arrived s c) (short : length s ≤ limit) where
  number_stands : (k : ℕ) → k < length (taken_from s c) → Stands s (place_of k (taken_from s c))
  number_stands k h =
      let x = number_takes (length s) (taken_from s c) (taken_take s c arrived.inside) k h in record { short = short; some = x.0; inside = x.1 }

  -- The arguments that are taken from a cursor that was reached stand in the input.
  pub stand_arguments : (name past : ℕ) → Stand s (arguments_as name past (taken_from s c))
  stand_arguments name past = record { first = number_stands 0; second = number_stands 1; third = number_stands 2 }

  -- The text of each is within the limit, and so is the list of actions.
  pub number_within : (k : ℕ) → length (text_number k (taken_from s c)) ≤ limit
  number_within k = omega (arith, number_short (length s) (taken_from s c) (taken_take s c arrived.inside) k, short)

  pub list_within : length (list_text s c) ≤ limit
  list_within = number_within (list_among (length (taken_from s c)))

-- ---- the site of an argument

module _ (s : List ℕ) where
  pub argument_site_lem : (n : ℕ) (args : List Token) → n < length args → argument_site s n args ≡ site_at s (place_of n args)
  unfolding argument_site place_of
  argument_site_lem n [] h = absurd (omega arith)
  argument_site_lem zero (t ∷ ts) h = refl
  argument_site_lem (suc n) (t ∷ ts) h = argument_site_lem n ts (omega arith)

  pub argument_none : (n : ℕ) (args : List Token) → length args ≤ n → argument_site s n args ≡ (λ (x : Part). x)
  unfolding argument_site
  argument_none n [] h = refl
  argument_none zero (t ∷ ts) h = absurd (omega arith)
  argument_none (suc n) (t ∷ ts) h = argument_none n ts (omega arith)

  pub list_site_lem : (n : ℕ) (args : List Token) → n < length args → list_site s n args ≡ (λ (x : Part). site_at s (place_of n args) (normal_site (text_number n args) x))
  unfolding list_site place_of text_number
  list_site_lem n [] h = absurd (omega arith)
  list_site_lem zero (t ∷ ts) h = refl
  list_site_lem (suc n) (t ∷ ts) h = list_site_lem n ts (omega arith)

  pub list_none : (n : ℕ) (args : List Token) → length args ≤ n → list_site s n args ≡ (λ (x : Part). x)
  unfolding list_site
  list_none n [] h = refl
  list_none zero (t ∷ ts) h = absurd (omega arith)
  list_none (suc n) (t ∷ ts) h = list_none n ts (omega arith)

-- where the list is, by its number
pub list_there_lem : (n : ℕ) → list_there n ≡ ltb (list_among n) n
list_there_lem n = go (eqb n 1) refl
  where
    go : (t : Bool) → eqb n 1 ≡ t → or t (ltb 2 n) ≡ ltb (pick t 0 2) n
    go true e = sym (lt-ltb 0 n (omega (arith, eqb-true n 1 e)))
    go false e = refl

pub list_token : (name past : ℕ) (args : List Token) → (list_in (arguments_as name past args) name).token ≡ place_of (list_among (length args)) args
list_token name past args = go (eqb (length args) 1)
  where
    a : Arguments
    a = arguments_as name past args

    go : (t : Bool)
        → (pick {X = ListPlace} t (record { token = place_of 0 args; first = name; past = a.one }) (record { token = place_of 2 args; first = a.two; past = a.three })).token
        ≡ place_of (pick t 0 2) args
    go true = refl
    go false = refl

-- ---- sources put somewhere

module _ {A : Type 0} where
  pub sited_twice : (f g : Part → Part) (xs : List (Sourced A)) → sited_all f (sited_all g xs) ≡ sited_all (λ (x : Part). f (g x)) xs
  sited_twice f g [] = refl
  sited_twice f g (x ∷ xs) = ap (λ (l : List (Sourced A)). sited_by (λ (y : Part). f (g y)) x ∷ l) (sited_twice f g xs)

-- ---- one span

-- a token's
span_by : (s : List ℕ) (t : Part) (x : Part) → Narrow x → token_word s t (part_word x) ≡ part_word (site_at s t x)
span_by s t x n = ap (λ (y : Part). part_word (site_at s t y)) (word_back x n)

pub span_settled : (s : List ℕ) (n : ℕ) (args : List Token) (x : Part) → Narrow x
    → pick (ltb n (length args)) (token_word s (place_of n args) (part_word x)) (part_word x) ≡ part_word (argument_site s n args x)
span_settled s n args x w = go (ltb n (length args)) refl
  where
    go : (t : Bool) → ltb n (length args) ≡ t → pick t (token_word s (place_of n args) (part_word x)) (part_word x) ≡ part_word (argument_site s n args x)
    go true e = span_by s (place_of n args) x w ∙ ap (λ (f : Part → Part). part_word (f x)) (sym (argument_site_lem s n args (ltb-true n (length args) e)))
    go false e = ap (λ (f : Part → Part). part_word (f x)) (sym (argument_none s n args (ltb-false n (length args) e)))

-- what comes out of the normaliser's site is narrow
normal_narrow : (t : List ℕ) → length t ≤ limit → (x : Part) → Narrow (normal_site t x)
normal_narrow t l x = let b = site_bounds Joined 0 t x in (b.order, omega (arith, b.high, b.order, l))

module _ (s : List ℕ) (from : Cursor) (l : length (list_text s from) ≤ limit) where
  abbrev args : List Token
  args = taken_from s from

  abbrev number : ℕ
  number = list_among (length args)

  abbrev text : List ℕ
  text = list_text s from

  list_narrow : (x : Part) → Inside (length (normalised text)) x → Narrow x
  list_narrow x i = inside_narrow (length (normalised text)) (omega (arith, normalised_length text, l)) x i

  pub list_span_settled : (x : Part) → Inside (length (normalised text)) x
      → pick (list_there (length args)) (list_word s from (place_of number args) (part_word x)) (part_word x) ≡ part_word (list_site s number args x)
  list_span_settled x i = ap (λ (t : Bool). pick t (list_word s from (place_of number args) (part_word x)) (part_word x)) (list_there_lem (length args)) ∙ go (ltb number (length args)) refl
    where
      go : (t : Bool) → ltb number (length args) ≡ t → pick t (list_word s from (place_of number args) (part_word x)) (part_word x) ≡ part_word (list_site s number args x)
      go true e =
          ap (token_word s (place_of number args)) (site_word_lem Joined 0 text x (list_narrow x i))
          ∙ span_by s (place_of number args) (normal_site text x) (normal_narrow text l x)
          ∙ ap (λ (f : Part → Part). part_word (f x)) (sym (list_site_lem s number args (ltb-true number (length args) e)))
      go false e = ap (λ (f : Part → Part). part_word (f x)) (sym (list_none s number args (ltb-false number (length args) e)))

-- ---- records of variables

wide_both : (width : ℕ) (rs qs : List (List ℕ)) → Wide width rs → Wide width qs → Wide width (rs ++ qs)
wide_both width [] qs v w = w
wide_both width (a ∷ rs) qs v w = (v.0, wide_both width rs qs v.1 w)

map_both : {A B : Type 0} (f : A → B) (xs ys : List A) → map f (xs ++ ys) ≡ map f xs ++ map f ys
map_both f [] ys = refl
map_both {B = B} f (x ∷ xs) ys = ap (λ (l : List B). f x ∷ l) (map_both f xs ys)

variable_wide : (o : ℕ) (x : Variable) → length (Targets.variable_record o x) + 1 ≡ variable_words
variable_wide o x = refl

exclusion_wide : (o : ℕ) (x : List ℕ) → length (Targets.exclusion_record o x) + 1 ≡ variable_words
exclusion_wide o x = refl

-- whatever they are put by
targets_sited : (f : Part → Part) (old : List ℕ) (i o : ℕ) (vs : List (Sourced Variable)) (es : List (Sourced (List ℕ))) → AllNarrow vs → AllNarrow es
    → last_changed (word_by f) variable_words (length vs + length es) i (stored_each old i (Cores.records_from o vs es)) ≡ stored_each old i (Cores.records_from o (sited_all f vs) (sited_all f es))
targets_sited f old i o vs es n m =
    ap (λ (k : ℕ). last_changed (word_by f) variable_words k i (stored_each old i (rs ++ qs))) (sym count)
    ∙ each_last (word_by f) variable_words (omega arith) old i (rs ++ qs)
    (wide_both variable_words rs qs (records_wide Targets.variable_record Targets.chosen_text variable_words variable_wide o vs) (records_wide Targets.exclusion_record Targets.itself variable_words exclusion_wide p es))
    ∙ ap (stored_each old i) (map_both (last_by (word_by f)) rs qs ∙ ap₂ (λ (x y : List (List ℕ)). x ++ y) first second)
  where
    p : ℕ
    p = o + length (Targets.selection_texts vs)

    rs : List (List ℕ)
    rs = records_of Targets.variable_whole Targets.variable_text o vs

    qs : List (List ℕ)
    qs = records_of Targets.exclusion_whole Targets.exclusion_text p es

    count : length (rs ++ qs) ≡ length vs + length es
    count = omega (
      arith,
      length-append rs qs,
      records_count Targets.variable_record Targets.chosen_text variable_words variable_wide o vs,
      records_count Targets.exclusion_record Targets.itself variable_words exclusion_wide p es,
    )

    first : map (last_by (word_by f)) rs ≡ records_of Targets.variable_whole Targets.variable_text o (sited_all f vs)
    first = records_sited Targets.variable_record Targets.chosen_text variable_words variable_wide f o vs n

    second : map (last_by (word_by f)) qs ≡ records_of Targets.exclusion_whole Targets.exclusion_text (o + length (Targets.selection_texts (sited_all f vs))) (sited_all f es)
    second =
        records_sited Targets.exclusion_record Targets.itself variable_words exclusion_wide f p es m
        ∙ ap (λ (t : List ℕ). records_of Targets.exclusion_whole Targets.exclusion_text (o + length t) (sited_all f es)) (sym (sited_texts f Targets.chosen_text vs))

-- The records of a directive's variables, settled, are those with places in the input.
pub variables_settled : (s : List ℕ) (args : List Token) (old : List ℕ) (i o : ℕ) (vs : List (Sourced Variable)) (es : List (Sourced (List ℕ))) → AllNarrow vs → AllNarrow es
    → token_moved s (ltb 0 (length args)) (place_of 0 args) variable_words (length vs + length es) i (stored_each old i (Cores.records_from o vs es))
    ≡ stored_each old i (Cores.records_from o (sited_all (argument_site s 0 args) vs) (sited_all (argument_site s 0 args) es))
variables_settled s args old i o vs es n m = go (ltb 0 (length args)) refl
  where
    go : (t : Bool) → ltb 0 (length args) ≡ t
        → token_moved s t (place_of 0 args) variable_words (length vs + length es) i (stored_each old i (Cores.records_from o vs es))
        ≡ stored_each old i (Cores.records_from o (sited_all (argument_site s 0 args) vs) (sited_all (argument_site s 0 args) es))
    go true e =
        targets_sited (site_at s (place_of 0 args)) old i o vs es n m
        ∙ ap (λ (f : Part → Part). stored_each old i (Cores.records_from o (sited_all f vs) (sited_all f es))) (sym (argument_site_lem s 0 args (ltb-true 0 (length args) e)))
    go false e =
        ap₂ (λ (a : List (Sourced Variable)) (b : List (Sourced (List ℕ))). stored_each old i (Cores.records_from o a b)) (sym (sited_still vs)) (sym (sited_still es))
        ∙ ap (λ (f : Part → Part). stored_each old i (Cores.records_from o (sited_all f vs) (sited_all f es))) (sym (argument_none s 0 args (ltb-false 0 (length args) e)))

-- Sources inside a text within the limit are narrow.
pub every_narrow : {A : Type 0} (n : ℕ) → n ≤ limit → {xs : List (Sourced A)} → Sources.Every (Sources.Inside n) xs → AllNarrow xs
every_narrow n l Sources.nowhere = tt
every_narrow n l (Sources.and_at {x} {xs} h w) = ((omega (arith, h.some), omega (arith, h.some, h.within, l)), every_narrow n l w)

-- ---- records of actions

normal_all_narrow : (t : List ℕ) → length t ≤ limit → (xs : List (Sourced Action)) → AllNarrow (sited_all (normal_site t) xs)
normal_all_narrow t l [] = tt
normal_all_narrow t l (x ∷ xs) = (normal_narrow t l x.source, normal_all_narrow t l xs)

acts_sited : (f : Part → Part) (old : List ℕ) (i o : ℕ) (xs : List (Sourced Action)) → AllNarrow xs
    → last_changed (word_by f) action_words (length xs) i (stored_each old i (Acts.records_from o xs)) ≡ stored_each old i (Acts.records_from o (sited_all f xs))
acts_sited f = sources_sited action_record action_text action_words record_wide f

module _ (s : List ℕ) (from : Cursor) (l : length (list_text s from) ≤ limit) (old : List ℕ) (i o : ℕ) (xs : List (Sourced Action)) (w : EachInside (length (normalised (list_text s from))) xs) where
  narrow : AllNarrow xs
  narrow = each_narrow (length (normalised (list_text s from))) (omega (arith, normalised_length (list_text s from), l)) xs w

  moved : (t : Part) → list_moved s from t (shrunk_by (list_text s from)) (length xs) i (stored_each old i (Acts.records_from o xs))
      ≡ stored_each old i (Acts.records_from o (sited_all (λ (x : Part). site_at s t (normal_site (list_text s from) x)) xs))
  moved t = go (ltb 0 (shrunk_by (list_text s from))) refl
    where
      f : Part → Part
      f = site_at s t

      g : Part → Part
      g = normal_site (list_text s from)

      first : last_changed (site_word Joined 0 (list_text s from)) action_words (length xs) i (stored_each old i (Acts.records_from o xs)) ≡ stored_each old i (Acts.records_from o (sited_all g xs))
      first = changed_by Joined 0 (list_text s from) action_words (length xs) i (stored_each old i (Acts.records_from o xs)) ∙ acts_sited g old i o xs narrow

      go : (b : Bool) → ltb 0 (shrunk_by (list_text s from)) ≡ b
          → last_changed (token_word s t) action_words (length xs) i
          (pick b (last_changed (site_word Joined 0 (list_text s from)) action_words (length xs) i (stored_each old i (Acts.records_from o xs))) (stored_each old i (Acts.records_from o xs)))
          ≡ stored_each old i (Acts.records_from o (sited_all (λ (x : Part). f (g x)) xs))
      go true e =
          ap (last_changed (word_by f) action_words (length xs) i) first
          ∙ ap (λ (n : ℕ). last_changed (word_by f) action_words n i (stored_each old i (Acts.records_from o (sited_all g xs)))) (sym (length-map xs (sited_by g)))
          ∙ acts_sited f old i o (sited_all g xs) (normal_all_narrow (list_text s from) l xs)
          ∙ ap (λ (ys : List (Sourced Action)). stored_each old i (Acts.records_from o ys)) (sited_twice f g xs)
      go false e =
          let z : shrunk_by (list_text s from) ≡ 0 = omega (arith, ltb-false 0 (shrunk_by (list_text s from)) e) in
          acts_sited f old i o xs narrow
          ∙ ap (λ (ys : List (Sourced Action)). stored_each old i (Acts.records_from o ys)) (still_all f (list_text s from) z xs w)

  -- The records of a directive's actions, settled, are those with places in the input.
  pub actions_settled : let args = taken_from s from in let n = list_among (length args) in
      pick (list_there (length args))
      (list_moved s from (place_of n args) (shrunk_by (list_text s from)) (length xs) i (stored_each old i (Acts.records_from o xs)))
      (stored_each old i (Acts.records_from o xs))
      ≡ stored_each old i (Acts.records_from o (sited_all (list_site s n args) xs))
  actions_settled =
      ap (λ (t : Bool). pick t (list_moved s from (place_of k a) (shrunk_by (list_text s from)) (length xs) i (stored_each old i (Acts.records_from o xs))) (stored_each old i (Acts.records_from o xs)))
      (list_there_lem (length a))
      ∙ go (ltb k (length a)) refl
    where
      a : List Token
      a = taken_from s from

      k : ℕ
      k = list_among (length a)

      go : (t : Bool) → ltb k (length a) ≡ t
          → pick t (list_moved s from (place_of k a) (shrunk_by (list_text s from)) (length xs) i (stored_each old i (Acts.records_from o xs))) (stored_each old i (Acts.records_from o xs))
          ≡ stored_each old i (Acts.records_from o (sited_all (list_site s k a) xs))
      go true e =
          moved (place_of k a)
          ∙ ap (λ (f : Part → Part). stored_each old i (Acts.records_from o (sited_all f xs))) (sym (list_site_lem s k a (ltb-true k (length a) e)))
      go false e =
          ap (λ (ys : List (Sourced Action)). stored_each old i (Acts.records_from o ys)) (sym (sited_still xs))
          ∙ ap (λ (f : Part → Part). stored_each old i (Acts.records_from o (sited_all f xs))) (sym (list_none s k a (ltb-false k (length a) e)))

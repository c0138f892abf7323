-- How many records a text of n bytes can have: n / 3 directives, n / 2 variables and exclusions, n / 3 actions; with so much room 4 is never given.
-- A directive's name has three bytes at least; its variables take two bytes each, and its actions three, a byte of the name lent to the last.
use Rattle.std.specs.Prelude.{Result, Ok, Err}
use mathlib.Core.Path.{◌≡◌, refl, sym, ap, subst}
use mathlib.Core.Bool.{Bool, true, false}
use mathlib.Core.List.{List, [], ◌∷◌, map}
use mathlib.Core.Logic.{◌⊎◌, inl, inr, ⊎_elim}
use Prim.Native.Nat.{ℕ, ◌+◌, ◌*◌, ◌/◌, ◌≤◌, ◌<◌}
use native.Mathlib.Omega.{arith}
use lib.ListN.{length, take, length-take, length-map}
use lib.Dec.{ltb}
use Rattle.ascii.specs.Choice.{pick, and, or}
use Rattle.ascii.specs.Text.{bytes}
use Rattle.ascii.specs.Fold.{lowered, lower, same}
use Rattle.ascii.proofs.SameLaws.{and_right, same_true}
use Rattle.lent.specs.Sizes.{variable_words, action_words, directive_words, room_for}
use Rattle.lent.specs.Sources.{Sourced}
use Rattle.lent.specs.Table.{Outcome, refuses, reads}
use Rattle.lent.proofs.SpanLaws.{room_is}
use Rattle.lexer.specs.Bytes.{class}
use Rattle.lexer.specs.declared.bytes.Class.{Class}
use Rattle.lexer.specs.declared.bytes.Class.TheVariants.{Feed, Return, Gap, Upright, Hash, Quote, Slash, Other}
use Rattle.lexer.specs.declared.Kind.{Kind}
use Rattle.lexer.specs.declared.Kind.TheVariants.{Directive as Leading, Word, QuotedString, Comment, Newline}
use Rattle.lexer.specs.declared.Cursor.{Cursor}
use Rattle.lexer.specs.Cursors.{fresh}
use Rattle.lexer.specs.Runs.{run}
use Rattle.lexer.specs.Rules.{before as blanks}
use Rattle.lexer.specs.Tokens.{Token, Step, nothing, token, directive, word_kind, token_by, token_at, next, reading}
use Rattle.lexer.specs.Layout.{text_of}
use Rattle.lexer.specs.Places.{All, nil, cons}
use Rattle.lexer.specs.contracts.Kind.{the_type}
use Rattle.lexer.proofs.PlaceLaws.{texts_fit_lem}
use Rattle.lexer.proofs.TokenLaws.{by_tokens}
use denote.Enum.Declared.{tag_of}
use Rattle.variables.specs.Variables.{Targets, targets, refused}
use Rattle.variables.specs.Steps.{targets_of}
use Rattle.variables.specs.declared.singles.Exclusions.TheVariants.{AsWritten}
use Rattle.variables.proofs.BoundLaws as Listing
use Rattle.records.specs.Actions.{Action}
use Rattle.actions.specs.Normal.{normalised}
use Rattle.actions.proofs.NormalLaws.{normalised_length}
use Rattle.actions.proofs.BoundLaws as Acting
use Rattle.operators.specs.Operators.{Spec}
use Rattle.directives.specs.Groups.{Item, joined, stray, item_by, items}
use Rattle.directives.specs.Directives.{Listed, listed_by, Body, act, defaults, Directive, stopped, variables_read, operator_read, actions_read, Shape, of_rule, of_action, of_marker, of_defaults, of_other, shape_of, rule_by, act_by, told, body_by, sited, last_past, placed, directive_of, item_read, before, over, ending, end_of, directives, Fault}
use Rattle.directives.specs.Versions.{Version}
use Rattle.directives.specs.Layout.{listed_count, action_count, listed_counts, action_counts}
use Rattle.directives.specs.Promises.{Answer, Lent, answer_given, Directives}
use Rattle.directives.proofs.OrderLaws.{text_good, end_good}
use Rattle.directives.proofs.PromiseLaws.{directives_numbers}
use Rattle.directives.proofs.SitedLaws.{sited_same}
use Rattle.directives.proofs.FitLaws.{all, item_total, items_total, items_total_lem, texts_total_lem}

-- ---- one body

abbrev ListedFew : ℕ → Outcome Listed → Type 0
ListedFew n (reads x) = 2 * (length x.variables + length x.exclusions) ≤ n
ListedFew n (refuses f) = Unit {0}

listed_few : (v : List ℕ) → ListedFew (length v) (variables_read v)
listed_few v = go (targets_of AsWritten v) refl
  where
    go : (ts : Targets) → targets_of AsWritten v ≡ ts → ListedFew (length v) (listed_by ts)
    go (targets vs es) e = Listing.variables_most v vs es e
    go (refused i name x) e = tt

abbrev ActedFew : ℕ → Outcome (List (Sourced Action)) → Type 0
ActedFew n (reads xs) = 3 * length xs ≤ n
ActedFew n (refuses f) = Unit {0}

acted_few : (a : List ℕ) → ActedFew (length a + 1) (actions_read a)
acted_few a = go (actions_read a) refl
  where
    go : (o : Outcome (List (Sourced Action))) → actions_read a ≡ o → ActedFew (length a + 1) o
    go (reads xs) e = omega (arith, Acting.listed_most (normalised a) xs e, normalised_length a)
    go (refuses f) e = tt

abbrev BodyFew : ℕ → Result Body Fault → Type 0
BodyFew n (Ok x) = (2 * listed_count x ≤ n) × (3 * action_count x ≤ n)
BodyFew n (Err f) = Unit {0}

rule_few : (l n i j : ℕ) (v : Outcome Listed) (o : Outcome Spec) (a : Outcome (List (Sourced Action))) → ListedFew i v → ActedFew j a → i ≤ n → j ≤ n → BodyFew n (told l (rule_by v o a))
rule_few l n i j (refuses f) o a h k p q = tt
rule_few l n i j (reads v) (refuses f) a h k p q = tt
rule_few l n i j (reads v) (reads o) (refuses f) h k p q = tt
rule_few l n i j (reads v) (reads o) (reads xs) h k p q = (omega arith, omega arith)

acts_few : (l n j : ℕ) (make : List (Sourced Action) → Body) (a : Outcome (List (Sourced Action))) → ((xs : List (Sourced Action)) → (listed_count (make xs) ≡ 0) × (action_count (make xs) ≡ length xs)) → ActedFew j a → j ≤ n
    → BodyFew n (told l (act_by make a))
acts_few l n j make (refuses f) e k q = tt
acts_few l n j make (reads xs) e k q = (omega (arith, (e xs).0), omega (arith, (e xs).1))

module _ (l : ℕ) (name : List ℕ) (h : 1 ≤ length name) where
  body_few : (k : Shape) (args : List (List ℕ)) → BodyFew (length name + all args) (body_by k l name args)
  unfolding all
  body_few of_rule [] = tt
  body_few of_rule (v ∷ []) = tt
  body_few of_rule (v ∷ o ∷ []) = rule_few l _ (length v) 0 (variables_read v) (operator_read o) (reads []) (listed_few v) (omega arith) (omega arith) (omega arith)
  body_few of_rule (v ∷ o ∷ a ∷ []) = rule_few l _ (length v) (length a + 1) (variables_read v) (operator_read o) (actions_read a) (listed_few v) (acted_few a) (omega arith) (omega arith)
  body_few of_rule (v ∷ o ∷ a ∷ x ∷ xs) = tt
  body_few of_action [] = tt
  body_few of_action (a ∷ []) = acts_few l _ (length a + 1) act (actions_read a) (λ xs. (refl, refl)) (acted_few a) (omega arith)
  body_few of_action (a ∷ x ∷ xs) = tt
  body_few of_marker [] = tt
  body_few of_marker (m ∷ []) = (omega arith, omega arith)
  body_few of_marker (m ∷ x ∷ xs) = tt
  body_few of_defaults [] = tt
  body_few of_defaults (a ∷ []) = acts_few l _ (length a + 1) defaults (actions_read a) (λ xs. (refl, refl)) (acted_few a) (omega arith)
  body_few of_defaults (a ∷ x ∷ xs) = tt
  body_few of_other xs = (omega arith, omega arith)

-- ---- a name has three bytes

abbrev Named : Token → Type 0
Named t = t.kind ≡ Leading → 3 ≤ length t.text

abbrev NamedStep : Step → Type 0
NamedStep (nothing c) = Unit {0}
NamedStep (token t e) = Named t

either_true : (a b : Bool) → or a b ≡ true → (a ≡ true) ⊎ (b ≡ true)
either_true true b e = inl refl
either_true false b e = inr e

named_long : (w : List ℕ) → directive w ≡ true → 3 ≤ length w
unfolding directive bytes
named_long w e = ⊎_elim
    (λ h. omega (arith, ap length (same_true (take 3 (lowered w)) (bytes "sec") h), length-take 3 (lowered w), length-map w lower))
    (λ h. omega (arith, ap length (same_true (lowered w) (bytes "include") h), length-map w lower))
    (either_true (same (take 3 (lowered w)) (bytes "sec")) (same (lowered w) (bytes "include")) e)

word_named : (mark : Bool) (w : List ℕ) → word_kind mark w ≡ Leading → 3 ≤ length w
unfolding word_kind
word_named mark w = go (and mark (directive w)) refl
  where
    go : (t : Bool) → and mark (directive w) ≡ t → pick t Leading Word ≡ Leading → 3 ≤ length w
    go true e k = named_long w (and_right mark (directive w) e)
    go false e k = let z : ◌≡◌ {A = ℕ} 1 0 = ap (tag_of the_type) k in absurd (omega arith)

step_named : (xs : List ℕ) (c : Cursor) → NamedStep (next xs c)
unfolding next token_at token_by
step_named xs c = at (run blanks 0 xs c).rest (run blanks 0 xs c).here
  where
    by : (k : Class) (b : ℕ) (r : List ℕ) (d : Cursor) → NamedStep (token_by k b r d)
    by Feed b r d = λ e. let z : ◌≡◌ {A = ℕ} 4 0 = ap (tag_of the_type) e in absurd (omega arith)
    by Return b r d = tt
    by Gap b r d = tt
    by Upright b r d = tt
    by Hash b r d = λ e. let z : ◌≡◌ {A = ℕ} 3 0 = ap (tag_of the_type) e in absurd (omega arith)
    by Quote b r d = λ e. let z : ◌≡◌ {A = ℕ} 2 0 = ap (tag_of the_type) e in absurd (omega arith)
    by Slash b r d = tt
    by Other b r d = word_named d.mark _

    at : (r : List ℕ) (d : Cursor) → NamedStep (token_at r d)
    at [] d = tt
    at (b ∷ r) d = by (class b) b r d

all_named : (s : List ℕ) → All Named (reading s).tokens
unfolding reading
all_named s =
    by_tokens (λ xs c r. All Named r.tokens) (λ xs c d q. nil) (λ xs c t e q k ih. cons (subst NamedStep q (step_named xs c)) ih) s fresh

-- ---- a whole text

abbrev Long : Item → Type 0
Long (joined t args) = 3 ≤ length t.text
Long (stray t) = Unit {0}

abbrev AllLong : List Item → Type 0
AllLong [] = Unit {0}
AllLong (x ∷ xs) = Long x × AllLong xs

items_long : (taking : Bool) (ts : List Token) → All Named ts → AllLong (items taking ts)
unfolding items
items_long taking [] nil = tt
items_long taking (t ∷ ts) (cons h hs) = go t.kind refl taking (items_long true ts hs) (items_long false ts hs)
  where
    go : (k : Kind) → t.kind ≡ k → (taking : Bool) → AllLong (items true ts) → AllLong (items false ts) → AllLong (item_by k taking t ts (λ now. items now ts))
    go Leading e taking a b = (h e, a)
    go Word e true a b = a
    go Word e false a b = (tt, b)
    go QuotedString e true a b = a
    go QuotedString e false a b = (tt, b)
    go Comment e taking a b = b
    go Newline e taking a b = b

abbrev OneFew : ℕ → Result Directive Fault → Type 0
OneFew n (Ok d) = (3 ≤ n) × (2 * listed_count d.body ≤ n) × (3 * action_count d.body ≤ n)
OneFew n (Err f) = Unit {0}

abbrev Few : ℕ → Result (List Directive) Fault → Type 0
Few n (Ok ds) = (3 * length ds ≤ n) × (2 * listed_counts ds ≤ n) × (3 * action_counts ds ≤ n)
Few n (Err f) = Unit {0}

placed_few : (n l first past : ℕ) (x : Result Body Fault) → 3 ≤ n → BodyFew n x → OneFew n (placed l first past x)
placed_few n l first past (Ok x) h k = (h, k.0, k.1)
placed_few n l first past (Err f) h k = tt

-- wherever it was read from
sited_few : (n : ℕ) (s : List ℕ) (shape : Shape) (args : List Token) (x : Result Body Fault) → BodyFew n x → BodyFew n (sited s shape args x)
sited_few n s shape args (Err f) h = tt
sited_few n s shape args (Ok x) (h, k) = let e = sited_same s args x in (omega (arith, h, e.listed), omega (arith, k, e.acted))

item_few : (s : List ℕ) (x : Item) → Long x → OneFew (item_total x) (item_read s x)
unfolding item_read directive_of
item_few s (stray t) h = tt
item_few s (joined t args) h =
    let shape = shape_of t.text in
    let body = body_by shape t.line.0 t.text (map text_of args) in
    rw (sym (texts_total_lem args))
    (placed_few (length t.text + all (map text_of args)) t.line.0 t.first (last_past t.past args) (sited s shape args body) (omega arith)
    (sited_few (length t.text + all (map text_of args)) s shape args body (body_few t.line.0 t.text (omega arith) shape (map text_of args))))

before_few : (m n : ℕ) (x : Result Directive Fault) (o : Result (List Directive) Fault) → OneFew m x → Few n o → Few (m + n) (before x o)
unfolding listed_counts action_counts
before_few m n (Err f) o h k = tt
before_few m n (Ok d) (Err f) h k = tt
before_few m n (Ok d) (Ok ds) (a, b, c) (i, j, k) = (omega arith, omega arith, omega arith)

ending_few : (s : List ℕ) (o : Result (List Directive) Fault) (xs : List Item) → Few 0 o → AllLong xs → Few (items_total xs) (ending s o xs)
unfolding over items_total
ending_few s o [] h l = h
ending_few s o (x ∷ xs) h l = before_few (item_total x) (items_total xs) (item_read s x) (ending s o xs) (item_few s x l.0) (ending_few s o xs h l.1)

end_few : (n : ℕ) (c : Cursor) → Few 0 (end_of n c)
unfolding end_of listed_counts action_counts
end_few n c = go (ltb c.place n)
  where
    go : (t : Bool) → Few 0 (pick t (Err (stopped c.line.0)) (Ok []))
    go true = tt
    go false = (omega arith, omega arith, omega arith)

more_few : (m n : ℕ) (o : Result (List Directive) Fault) → m ≤ n → Few m o → Few n o
more_few m n (Ok ds) h (i, j, k) = (omega arith, omega arith, omega arith)
more_few m n (Err f) h k = tt

-- The three bounds: a text of n bytes has no more than n / 3 directives, n / 2 variables and exclusions, and n / 3 actions.
pub directives_most : (s : List ℕ) (ds : List Directive) → directives s ≡ Ok ds → (3 * length ds ≤ length s) × (2 * listed_counts ds ≤ length s) × (3 * action_counts ds ≤ length s)
unfolding directives
directives_most s ds e =
    subst (Few (length s)) e
    (more_few (items_total (items false (reading s).tokens)) (length s) (ending s (end_of (length s) (reading s).stop) (items false (reading s).tokens))
    (omega (arith, (items_total_lem (reading s).tokens).1, texts_fit_lem s))
    (ending_few s (end_of (length s) (reading s).stop) (items false (reading s).tokens) (end_few (length s) (reading s).stop) (items_long false (reading s).tokens (all_named s))))

-- With room for so many, 4 is never given.
pub directives_fit : {v : Version} {s : List ℕ} {m m' : Lent} {r : Answer} → Directives v s m m' r
    → length s / 3 * directive_words ≤ length m.directives → length s / 2 * variable_words ≤ length m.variables → length s / 3 * action_words ≤ length m.actions
    → (answer_given r).number ≡ 4 → ⊥
directives_fit {v} {s} {m} x i j k e =
    let f = ((directives_numbers x).number_4.0 e).1 in
    let ds = f.0 in
    let b = directives_most s ds ((text_good s ds).1 (f.1.0, (end_good (length s) (reading s).stop).1 f.1.1.1.0)) in
    let fits : (width words n : ℕ) → 0 < width → n * width ≤ words → room_for width words < n → ⊥ = λ width words n p q h. omega (arith, (room_is width words n p).1 q, h) in
    ⊎_elim (λ h. fits directive_words (length m.directives) (length ds) (omega arith) (omega (arith, b.0)) h)
    (λ c. ⊎_elim (λ h. fits variable_words (length m.variables) (listed_counts ds) (omega arith) (omega (arith, b.1)) h)
    (λ h. fits action_words (length m.actions) (action_counts ds) (omega arith) (omega (arith, b.2)) h) c) f.1.1.1.1

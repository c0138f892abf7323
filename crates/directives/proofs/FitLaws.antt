-- The texts of an accepted text, and the name of a refused one, are no longer than the input: so the text buffer that 3 asks for suffices.
-- Each argument pays for its own texts, each token for its argument, and the lexer's law for all tokens.
use Rattle.std.specs.Prelude.{Option, Some, None, Result, Ok, Err}
use mathlib.Core.Path.{◌≡◌, refl, sym, ap, subst}
use Prim.Native.Nat.{ℕ, suc, ◌+◌, ◌≤◌}
use native.Mathlib.Omega.{arith}
use mathlib.Core.Bool.{Bool, true, false}
use mathlib.Core.List.{List, [], ◌∷◌, ◌++◌, append-nil, map}
use lib.ListN.{length, length-append}
use lib.Dec.{eqb, ltb}
use Rattle.ascii.specs.Choice.{pick}
use Rattle.ascii.specs.Classes.{white}
use Rattle.ascii.specs.Trim.{trim_ends}
use Rattle.ascii.specs.Splits.{Split, whole, halves}
use Rattle.ascii.proofs.SplitLaws.{spread, split_spread}
use Rattle.ascii.proofs.TrimLaws.{ends_fit}
use Rattle.names.specs.Variables.{variable_code}
use Rattle.names.specs.Operators.{operator_code}
use Rattle.lent.specs.Sources.{Part, Sourced}
use Rattle.lent.specs.Buffers as Lent
use Rattle.lent.specs.Table.{too_long, not_ascii, short_buffer, no_room, named, no_action, no_argument, no_variable, unknown_operator, bad_cursor, Outcome, refuses, reads}
use Rattle.lent.specs.Layout.{texts_of}
use Rattle.lexer.specs.declared.Kind.{Kind}
use Rattle.lexer.specs.declared.Kind.TheVariants.{Directive, Word, QuotedString, Comment, Newline}
use Rattle.lexer.specs.declared.Cursor.{Cursor}
use Rattle.lexer.specs.Tokens.{Token, reading}
use Rattle.lexer.specs.Layout.{text_of}
use Rattle.lexer.specs.Layout as Lexed
use Rattle.lexer.specs.Places.{total}
use Rattle.lexer.proofs.PlaceLaws.{texts_fit_lem}
use Rattle.variables.specs.Parts.{Piece, piece_texts, pieces}
use Rattle.variables.specs.Variables as One
use Rattle.variables.specs.Variables.{Selection, Single, variable, unknown, split_single, at_colon, single, Targets, targets, refused, with_variable, with_exclusion, as_written, piece, read_all}
use Rattle.variables.specs.Layout.{selection_texts, exclusion_text}
use Rattle.variables.specs.Layout as Targets
use Rattle.variables.specs.Steps.{hanging, targets_of}
use Rattle.variables.specs.declared.singles.Exclusions.TheVariants.{AsWritten}
use Rattle.variables.proofs.FitLaws.{total as total_text, Within, targets_within, pieces_total}
use Rattle.operators.specs.Operators as Op
use Rattle.operators.specs.Operators.{Spec, operator}
use Rattle.operators.specs.Places.{after_at, is_named}
use Rattle.operators.specs.Promises.{outcome_of}
use Rattle.operators.proofs.PlaceLaws.{argument_text, argument_ends}
use Rattle.records.specs.Actions.{Action}
use Rattle.records.specs.Layout as Acts
use Rattle.actions.specs.Normal.{normalised}
use Rattle.actions.specs.Pieces as Pieces
use Rattle.actions.proofs.LengthLaws as Actions
use Rattle.actions.proofs.NormalLaws.{normalised_length}
use Rattle.actions.proofs.CountLaws.{Counted, from_counted, pieces_count}
use Rattle.directives.specs.Groups.{Item, joined, stray, argument_by, arguments_of, item_by, items}
use Rattle.directives.specs.Directives.{Listed, Body, act, defaults, Directive as Entry, stopped, listed_by, variables_read, operator_read, actions_read, Shape, of_rule, of_action, of_marker, of_defaults, of_other, shape_of, rule_by, act_by, told, body_by, sited, last_past, placed, directive_of, item_read, before, over, ending, end_of, directives, Fault}
use Rattle.directives.specs.Layout.{body_text, listed_count, action_count, directive_text, texts, listed_counts, action_counts}
use Rattle.directives.specs.Table.{name_left, fault_name}
use Rattle.directives.proofs.SitedLaws.{sited_same, fault_name_lem}

-- ---- lists of lists

unfoldable pub all : List (List ℕ) → ℕ
all [] = 0
all (p ∷ ps) = length p + all ps

-- ---- variables: what is read is within by the house's law, and the name that is none is a part of its piece

abbrev NameShort : ℕ → Single → Type 0
NameShort k (variable v) = Unit {0}
NameShort k (unknown name) = length name ≤ k

named_short : (k : ℕ) (l : Option ℕ) (name : List ℕ) (counts : Bool) (chosen : Selection) → length name ≤ k → NameShort k (One.named l name counts chosen)
named_short k (Some c) name counts chosen h = tt
named_short k None name counts chosen h = h

split_short : (k : ℕ) (x : Split) (counts : Bool) → spread x ≤ k → NameShort k (split_single x counts)
split_short k (whole name) counts h = named_short k (variable_code name) name counts One.none h
split_short k (halves name t) counts h = named_short k (variable_code name) name counts (One.selection t) (omega arith)

single_short : (p : List ℕ) → NameShort (length p) (single p)
unfolding single
single_short [] = split_short 0 (at_colon []) false (omega (arith, split_spread 58 []))
single_short (b ∷ r) = go (eqb b 38)
  where
    go : (t : Bool) → NameShort (suc (length r)) (pick t (split_single (at_colon r) true) (split_single (at_colon (b ∷ r)) false))
    go true = split_short (suc (length r)) (at_colon r) true (omega (arith, split_spread 58 r))
    go false = split_short (suc (length r)) (at_colon (b ∷ r)) false (omega (arith, split_spread 58 (b ∷ r)))

abbrev NoneShort : ℕ → Targets → Type 0
NoneShort k (targets vs es) = Unit {0}
NoneShort k (refused i name x) = length name ≤ k

variable_none : (j k : ℕ) (x : Part) (y : Single) (ts : Targets) → NameShort j y → NoneShort k ts → NoneShort (j + k) (with_variable x y ts)
variable_none j k x (variable v) (targets vs es) h w = tt
variable_none j k x (variable v) (refused i name z) h w = omega arith
variable_none j k x (unknown name) (targets vs es) h w = omega arith
variable_none j k x (unknown name) (refused i other z) h w = omega arith

exclusion_none : (k : ℕ) (x : Part) (e : List ℕ) (ts : Targets) → NoneShort k ts → NoneShort (suc (length e) + k) (with_exclusion x e ts)
exclusion_none k x e (targets vs es) w = tt
exclusion_none k x e (refused i name z) w = omega arith

piece_none : (k : ℕ) (x : Part) (p : List ℕ) (ts : Targets) → NoneShort k ts → NoneShort (length p + k) (piece as_written x p ts)
piece_none k x [] ts w = variable_none 0 k x (single []) ts (single_short []) w
piece_none k x (b ∷ r) ts w = go (eqb b 33)
  where
    go : (t : Bool) → NoneShort (suc (length r) + k) (pick t (with_exclusion x r ts) (with_variable x (single (b ∷ r)) ts))
    go true = exclusion_none k x r ts w
    go false = variable_none (suc (length r)) k x (single (b ∷ r)) ts (single_short (b ∷ r)) w

read_none : (ps : List Piece) → NoneShort (total_text ps) (read_all as_written ps)
unfolding read_all Lent.joined
read_none [] = tt
read_none (p ∷ ps) =
    subst (λ (k : ℕ). NoneShort k (piece as_written p.place p.text (read_all as_written ps))) (sym (length-append p.text (Lent.joined (piece_texts ps))))
    (piece_none (total_text ps) p.place p.text (read_all as_written ps) (read_none ps))

hanging_none : (j k : ℕ) (ts : Targets) → j ≤ k → NoneShort j ts → NoneShort k (hanging AsWritten ts)
hanging_none j k (targets [] es) h w = tt
hanging_none j k (targets (v ∷ vs) es) h w = tt
hanging_none j k (refused i name x) h w = omega arith

-- the name that is none is no longer than the list
none_short : (s : List ℕ) → NoneShort (length s) (targets_of AsWritten s)
unfolding targets_of
none_short s = hanging_none (total_text (pieces s)) (length s) (read_all as_written (pieces s)) (pieces_total s) (read_none (pieces s))

-- what an argument of variables writes and how many records, or the name that it leaves
abbrev pub ListedFits : ℕ → Outcome Listed → Type 0
ListedFits n (reads x) = (length (Targets.texts x.variables x.exclusions) ≤ n) × (length x.variables + length x.exclusions ≤ n)
ListedFits n (refuses f) = length (name_left f) ≤ n

listed_fits : (n : ℕ) (ts : Targets) → Within n n ts → NoneShort n ts → ListedFits n (listed_by ts)
listed_fits n (targets vs es) (h, k) w = (omega (arith, length-append (selection_texts vs) (texts_of exclusion_text es)), k)
listed_fits n (refused i name x) h w = w

pub variables_fit : (s : List ℕ) → ListedFits (length s) (variables_read s)
variables_fit s = listed_fits (length s) (targets_of AsWritten s) (targets_within AsWritten s) (none_short s)

-- ---- the operator: its argument ends where the trimmed text does

abbrev pub OperatorFits : ℕ → Outcome Spec → Type 0
OperatorFits n (reads x) = length x.argument ≤ n
OperatorFits n (refuses f) = name_left f ≡ []

name_fits_lem : (n : ℕ) (s : List ℕ) (negated : Bool) (l : Option ℕ) → length (argument_text s true) ≤ n → OperatorFits n (outcome_of s (Op.named negated (after_at s) l))
name_fits_lem n s negated (Some k) h = h
name_fits_lem n s negated None h = refl

pub operator_fits : (s : List ℕ) → OperatorFits (length s) (operator_read s)
unfolding operator
operator_fits s = go (is_named s) (omega (arith, argument_ends s, ends_fit white s))
  where
    go : (b : Bool) → length (argument_text s b) ≤ length s
        → OperatorFits (length s) (outcome_of s (pick b (Op.named (Op.starts 33 (trim_ends s)) (after_at s) (operator_code (Op.name_of (after_at s)))) (Op.spec (Op.starts 33 (trim_ends s)) 0 (Op.unsigned (trim_ends s)))))
    go true h = name_fits_lem (length s) s (Op.starts 33 (trim_ends s)) (operator_code (Op.name_of (after_at s))) h
    go false h = h

-- ---- actions

-- what an argument of actions writes and how many records, or the name that it leaves
abbrev pub ActionsFit : ℕ → Outcome (List (Sourced Action)) → Type 0
ActionsFit n (reads xs) = (length (Acts.texts xs) ≤ n) × (length xs ≤ n)
ActionsFit n (refuses f) = length (name_left f) ≤ n

weaker : (m n c : ℕ) (o : Outcome (List (Sourced Action))) → m ≤ n → c ≤ n → Actions.Fits m o → Counted 0 c o → ActionsFit n o
weaker m n c (reads xs) h l k r = (omega arith, omega arith)
weaker m n c (refuses (named no_action p name x)) h l k r = omega arith
weaker m n c (refuses (named (no_argument flaw) p name x)) h l k r = omega arith
weaker m n c (refuses (named no_variable p name x)) h l k r = absurd r
weaker m n c (refuses too_long) h l k r = absurd r
weaker m n c (refuses (not_ascii p)) h l k r = absurd r
weaker m n c (refuses short_buffer) h l k r = absurd r
weaker m n c (refuses (no_room p)) h l k r = absurd r
weaker m n c (refuses (unknown_operator p q x)) h l k r = absurd r
weaker m n c (refuses bad_cursor) h l k r = absurd r

pub actions_fit : (s : List ℕ) → ActionsFit (length s) (actions_read s)
actions_fit s =
    let n = length (Pieces.pieces (normalised s)) in
    weaker (length (normalised s)) (length s) n (actions_read s) (normalised_length s) (omega (arith, pieces_count (normalised s), normalised_length s)) (Actions.listed_fits (normalised s))
    (from_counted 0 (Pieces.pieces (normalised s)))

-- ---- one directive

-- what is written, or the name that is left, is at most n bytes long, and there are no more records of variables and actions
abbrev pub BodyFits : ℕ → Result Body Fault → Type 0
BodyFits n (Ok x) = (length (body_text x) ≤ n) × (listed_count x + action_count x ≤ n)
BodyFits n (Err f) = length (fault_name f) ≤ n

abbrev ReadFits : ℕ → Outcome Body → Type 0
ReadFits n (reads x) = (length (body_text x) ≤ n) × (listed_count x + action_count x ≤ n)
ReadFits n (refuses f) = length (name_left f) ≤ n

told_fits : (n l : ℕ) (o : Outcome Body) → ReadFits n o → BodyFits n (told l o)
told_fits n l (refuses f) h = h
told_fits n l (reads x) h = h

rule_fits : (a b c : ℕ) (v : Outcome Listed) (o : Outcome Spec) (x : Outcome (List (Sourced Action))) → ListedFits a v → OperatorFits b o → ActionsFit c x → ReadFits (a + (b + c)) (rule_by v o x)
unfolding body_text
rule_fits a b c (refuses f) o x h i j = omega arith
rule_fits a b c (reads v) (refuses f) x h i j = rw i (omega arith)
rule_fits a b c (reads v) (reads o) (refuses f) h i j = omega arith
rule_fits a b c (reads v) (reads o) (reads xs) (h, g) i (j, k) =
    (omega (arith, length-append (Targets.texts v.variables v.exclusions) (o.argument ++ Acts.texts xs), length-append o.argument (Acts.texts xs)), omega arith)

-- a body that has actions alone
abbrev Acting : (List (Sourced Action) → Body) → Type 0
Acting make = (xs : List (Sourced Action)) → (body_text (make xs) ≡ Acts.texts xs) × (listed_count (make xs) + action_count (make xs) ≡ length xs)

act_fits : (n : ℕ) (make : List (Sourced Action) → Body) (o : Outcome (List (Sourced Action))) → Acting make → ActionsFit n o → ReadFits n (act_by make o)
act_fits n make (refuses f) e h = h
act_fits n make (reads xs) e (h, k) = rw ((e xs).0, (e xs).1) (h, k)

body_more : (m n : ℕ) (x : Result Body Fault) → m ≤ n → BodyFits m x → BodyFits n x
body_more m n (Ok x) h (j, k) = (omega arith, omega arith)
body_more m n (Err f) h k = omega arith

module _ (l : ℕ) (name : List ℕ) where
  rule_told : (v o : List ℕ) (c : ℕ) (x : Outcome (List (Sourced Action))) → ActionsFit c x → BodyFits (length v + (length o + c)) (told l (rule_by (variables_read v) (operator_read o) x))
  rule_told v o c x h =
      told_fits (length v + (length o + c)) l (rule_by (variables_read v) (operator_read o) x)
      (rule_fits (length v) (length o) c (variables_read v) (operator_read o) x (variables_fit v) (operator_fits o) h)

  act_told : (make : List (Sourced Action) → Body) (a : List ℕ) → Acting make → BodyFits (length a) (told l (act_by make (actions_read a)))
  act_told make a e = told_fits (length a) l (act_by make (actions_read a)) (act_fits (length a) make (actions_read a) e (actions_fit a))

  -- a directive's texts are no longer than its name and its arguments together, and its records no more
  pub body_fits : (k : Shape) (args : List (List ℕ)) → BodyFits (length name + all args) (body_by k l name args)
  unfolding all body_text texts_of
  body_fits of_rule [] = omega arith
  body_fits of_rule (v ∷ []) = omega arith
  body_fits of_rule (v ∷ o ∷ []) =
      body_more (length v + (length o + 0)) (length name + (length v + (length o + 0))) (told l (rule_by (variables_read v) (operator_read o) (reads []))) (omega arith)
      (rule_told v o 0 (reads []) (omega arith, omega arith))
  body_fits of_rule (v ∷ o ∷ a ∷ []) =
      body_more (length v + (length o + length a)) (length name + (length v + (length o + (length a + 0)))) (told l (rule_by (variables_read v) (operator_read o) (actions_read a))) (omega arith)
      (rule_told v o (length a) (actions_read a) (actions_fit a))
  body_fits of_rule (v ∷ o ∷ a ∷ x ∷ xs) = omega arith
  body_fits of_action [] = omega arith
  body_fits of_action (a ∷ []) = body_more (length a) (length name + (length a + 0)) (told l (act_by act (actions_read a))) (omega arith) (act_told act a (λ xs. (refl, omega arith)))
  body_fits of_action (a ∷ x ∷ xs) = omega arith
  body_fits of_marker [] = omega arith
  body_fits of_marker (m ∷ []) = rw (append-nil m) (omega arith, omega arith)
  body_fits of_marker (m ∷ x ∷ xs) = omega arith
  body_fits of_defaults [] = omega arith
  body_fits of_defaults (a ∷ []) = body_more (length a) (length name + (length a + 0)) (told l (act_by defaults (actions_read a))) (omega arith) (act_told defaults a (λ xs. (refl, omega arith)))
  body_fits of_defaults (a ∷ x ∷ xs) = omega arith
  body_fits of_other xs = rw (append-nil name) (omega arith, omega arith)

-- ---- items

abbrev pub item_total : Item → ℕ
item_total (joined t args) = length t.text + total args
item_total (stray t) = length t.text

unfoldable pub items_total : List Item → ℕ
items_total [] = 0
items_total (x ∷ xs) = item_total x + items_total xs

pub texts_long : (ts : List Token) → all (map text_of ts) ≡ length (Lexed.texts ts)
unfolding all texts_of
texts_long [] = refl
texts_long (t ∷ ts) = rw (length-append t.text (Lexed.texts ts)) (ap (λ (n : ℕ). length t.text + n) (texts_long ts))

pub texts_total_lem : (ts : List Token) → all (map text_of ts) ≡ total ts
unfolding all total
texts_total_lem [] = refl
texts_total_lem (t ∷ ts) = ap (λ (n : ℕ). length t.text + n) (texts_total_lem ts)

-- what a token's text pays for, with and without a directive that takes arguments
pub items_total_lem : (ts : List Token) → (items_total (items true ts) + total (arguments_of ts) ≤ total ts) × (items_total (items false ts) ≤ total ts)
unfolding items arguments_of items_total total
items_total_lem [] = (omega arith, omega arith)
items_total_lem (t ∷ ts) = go t.kind (items_total_lem ts).0 (items_total_lem ts).1
  where
    go : (k : Kind) → items_total (items true ts) + total (arguments_of ts) ≤ total ts → items_total (items false ts) ≤ total ts
        → (items_total (item_by k true t ts (λ now. items now ts)) + total (argument_by k t (arguments_of ts)) ≤ length t.text + total ts)
        × (items_total (item_by k false t ts (λ now. items now ts)) ≤ length t.text + total ts)
    go Directive a b = (omega arith, omega arith)
    go Word a b = (omega arith, omega arith)
    go QuotedString a b = (omega arith, omega arith)
    go Comment a b = (omega arith, omega arith)
    go Newline a b = (omega arith, omega arith)

-- ---- a whole text

abbrev OneFits : ℕ → Result Entry Fault → Type 0
OneFits n (Ok d) = (length (directive_text d) ≤ n) × (listed_count d.body + action_count d.body ≤ n)
OneFits n (Err f) = length (fault_name f) ≤ n

abbrev pub ResultFits : ℕ → Result (List Entry) Fault → Type 0
ResultFits n (Ok ds) = (length (texts ds) ≤ n) × (listed_counts ds + action_counts ds ≤ n)
ResultFits n (Err f) = length (fault_name f) ≤ n

placed_fits : (n l first past : ℕ) (x : Result Body Fault) → BodyFits n x → OneFits n (placed l first past x)
placed_fits n l first past (Err f) h = h
placed_fits n l first past (Ok x) h = h

-- wherever it was read from
sited_fits : (n : ℕ) (s : List ℕ) (shape : Shape) (args : List Token) (x : Result Body Fault) → BodyFits n x → BodyFits n (sited s shape args x)
sited_fits n s shape args (Err f) h = rw (fault_name_lem s shape args f) h
sited_fits n s shape args (Ok x) (h, k) = let e = sited_same s args x in (omega (arith, h, ap length e.text), omega (arith, k, e.listed, e.acted))

item_fits : (s : List ℕ) (x : Item) → OneFits (item_total x) (item_read s x)
unfolding item_read directive_of
item_fits s (stray t) = omega arith
item_fits s (joined t args) =
    let shape = shape_of t.text in
    let body = body_by shape t.line.0 t.text (map text_of args) in
    rw (sym (texts_total_lem args))
    (placed_fits (length t.text + all (map text_of args)) t.line.0 t.first (last_past t.past args) (sited s shape args body)
    (sited_fits (length t.text + all (map text_of args)) s shape args body (body_fits t.line.0 t.text shape (map text_of args))))

before_fits : (m n : ℕ) (x : Result Entry Fault) (o : Result (List Entry) Fault) → OneFits m x → ResultFits n o → ResultFits (m + n) (before x o)
unfolding texts_of listed_counts action_counts
before_fits m n (Err f) o h k = omega arith
before_fits m n (Ok d) (Err f) h k = omega arith
before_fits m n (Ok d) (Ok ds) (h, i) (j, k) = (omega (arith, length-append (directive_text d) (texts ds)), omega arith)

ending_fits : (s : List ℕ) (o : Result (List Entry) Fault) (xs : List Item) → ResultFits 0 o → ResultFits (items_total xs) (ending s o xs)
unfolding over items_total
ending_fits s o [] h = h
ending_fits s o (x ∷ xs) h = before_fits (item_total x) (items_total xs) (item_read s x) (ending s o xs) (item_fits s x) (ending_fits s o xs h)

end_fits : (n : ℕ) (c : Cursor) → ResultFits 0 (end_of n c)
unfolding end_of texts_of listed_counts action_counts
end_fits n c = go (ltb c.place n)
  where
    go : (t : Bool) → ResultFits 0 (pick t (Err (stopped c.line.0)) (Ok []))
    go true = omega arith
    go false = (omega arith, omega arith)

pub result_more : (m n : ℕ) (o : Result (List Entry) Fault) → m ≤ n → ResultFits m o → ResultFits n o
result_more m n (Ok ds) h (j, k) = (omega arith, omega arith)
result_more m n (Err f) h k = omega arith

-- all texts, or the name that is left, fit into as many bytes as the input has, and so many records suffice
pub directives_fit : (s : List ℕ) → ResultFits (length s) (directives s)
unfolding directives
directives_fit s =
    result_more (items_total (items false (reading s).tokens)) (length s) (ending s (end_of (length s) (reading s).stop) (items false (reading s).tokens))
    (omega (arith, (items_total_lem (reading s).tokens).1, texts_fit_lem s))
    (ending_fits s (end_of (length s) (reading s).stop) (items false (reading s).tokens) (end_fits (length s) (reading s).stop))

-- M-100's theorem over the definitions: another line of blanks or a comment in such a line's place changes nothing but spans in the input.
-- The idea: such a line is one token that ends a directive and starts none, so the text's directives are the front's, and behind them the
-- rest's, further on; the line's length moves their spans, and nothing else depends on it.
use Rattle.std.specs.Prelude.{Result, Ok, Err}
use mathlib.Core.Path.{◌≡◌, refl, sym, ap, ap₂, ◌∙◌}
use Prim.Native.Nat.{ℕ, ◌+◌}
use mathlib.Core.Bool.{Bool, true, false}
use mathlib.Core.List.{List, [], ◌∷◌, ◌++◌, append_assoc, map}
use lib.ListN.{length, length-append}
use Rattle.ascii.specs.Choice.{pick}
use Rattle.lexer.specs.Tokens.{reading}
use Rattle.lent.specs.Sources.{Part, Sourced, sited_all}
use Rattle.lent.specs.Table.{Refusal, resited}
use Rattle.lexer.specs.Places.{Placed, feeds}
use Rattle.lexer.specs.Parts.{raised, puts, line_in, rest_in, ALine, Closed}
use Rattle.lexer.proofs.PlaceLaws.{places}
use Rattle.lexer.proofs.Demand3.{closed_at, closed_apart, demand3}
use Rattle.directives.specs.Groups.{Item, items}
use Rattle.directives.specs.Directives.{Body, rule, act, marker, defaults, unknown, Directive, wrong_count, untaken, stopped, id_missing, within, before, item_read, over, end_of, directives, Fault}
use Rattle.directives.specs.Versions.{Version, TwoSix, TwoSeven, chained_on, lacks_id, asked, lead_by, leading, directives_for}
use Rattle.directives.specs.Parts.{Idle, raised_item, raised_directive, raised_all, behind, rest_behind, mapped, resited_body, raised_part, nowhere, erased, erased_fault, erased_all, Unmoved}
use Rattle.directives.proofs.SitedLaws.{resited_same}
use Rattle.directives.proofs.VersionLaws.{lacks_same, chained_same}
use Rattle.directives.proofs.GroupLaws.{items_parted, items_raised, items_hold, over_append}
use Rattle.directives.proofs.MovedLaws.{sited_moved, resited_moved}
use Rattle.directives.proofs.RaiseLaws.{raised_one, over_front, over_raised, before_raised, lead_raised, end_raised}
use Rattle.directives.proofs.IdleLaws.{Single, idle_single, idle_feeds, idle_closed}

-- ---- a text in parts

abbrev Apart : (front line rest : List ℕ) → Type 0
Apart front line rest = reading (front ++ line ++ rest) ≡ puts (reading front).tokens (puts (line_in front line) (rest_in front line rest))

module _ (front line rest : List ℕ) (h : Single line) where
  items_apart : items false ((reading front).tokens ++ (line_in front line ++ (rest_in front line rest).tokens))
      ≡ items false (reading front).tokens ++ map (raised_item (length front + length line) (feeds front + 1)) (items false (reading rest).tokens)
  items_apart =
      rw h.only
      (items_parted (raised (length front) (feeds front) h.this) (rest_in front line rest).tokens h.closer false (reading front).tokens
      ∙ ap (λ (l : List Item). items false (reading front).tokens ++ l) (items_raised (length front + length line) (feeds front + 1) false (reading rest).tokens))

  long : length (front ++ line ++ rest) ≡ length front + length line + length rest
  long = length-append (front ++ line) rest ∙ ap (λ (n : ℕ). n + length rest) (length-append front line)

  abbrev bytes : ℕ
  bytes = length front + length line

  abbrev lines : ℕ
  lines = feeds front + 1

  -- what is read item by item, behind the front's items
  over_apart : {A : Type 0} (step : Result Directive Fault → A → A) (g : A → A) → ((x : Result Directive Fault) (o : A) → step (raised_one bytes lines x) (g o) ≡ g (step x o)) → (o : A)
      → over step (front ++ line ++ rest) (g o) (items false (reading front).tokens ++ map (raised_item bytes lines) (items false (reading rest).tokens))
      ≡ over step front (g (over step rest o (items false (reading rest).tokens))) (items false (reading front).tokens)
  over_apart {A} step g n o =
      let behind-it : A = g (over step rest o (items false (reading rest).tokens)) in
      over_append step (front ++ line ++ rest) (g o) (items false (reading front).tokens) _
      ∙ ap (λ (o : A). over step (front ++ line ++ rest) o (items false (reading front).tokens))
      (over_raised bytes lines (front ++ line) rest (sym (length-append front line)) step g n o (items false (reading rest).tokens))
      ∙ ap (λ (s : List ℕ). over step s behind-it (items false (reading front).tokens)) (append_assoc front line rest)
      ∙ over_front front (line ++ rest) step behind-it (items false (reading front).tokens) (items_hold (Placed front) false (reading front).tokens (places front))

  directives_apart : Apart front line rest → directives (front ++ line ++ rest) ≡ behind front (rest_behind front line rest)
  unfolding directives
  directives_apart e =
      rw (e, long, items_apart, end_raised bytes lines (length rest) (reading rest).stop)
      (over_apart before (raised_all bytes lines) (before_raised bytes lines) (end_of (length rest) (reading rest).stop))

  leading_apart : Apart front line rest → leading (front ++ line ++ rest) ≡ over lead_by front (map (raised_directive bytes lines) (leading rest)) (items false (reading front).tokens)
  unfolding leading
  leading_apart e = rw (e, items_apart) (over_apart lead_by (map (raised_directive bytes lines)) (lead_raised bytes lines) [])

-- ---- without spans

-- what has no place has none wherever it stood
erased_all_lem : {A : Type 0} (f : Part → Part) (xs : List (Sourced A)) → sited_all nowhere (sited_all f xs) ≡ sited_all nowhere xs
erased_all_lem f xs = sym (sited_moved nowhere f nowhere (λ x. refl) xs)

erased_refusal : (f : Part → Part) (r : Refusal) → resited nowhere (resited f r) ≡ resited nowhere r
erased_refusal f r = sym (resited_moved nowhere f nowhere (λ x. refl) r)

erased_body : (f : Part → Part) (x : Body) → resited_body nowhere (resited_body f x) ≡ resited_body nowhere x
erased_body f (rule vs o xs) = rw (erased_all_lem f vs.variables, erased_all_lem f vs.exclusions, erased_all_lem f xs)
erased_body f (act xs) = rw (erased_all_lem f xs)
erased_body f (marker m) = refl
erased_body f (defaults xs) = rw (erased_all_lem f xs)
erased_body f (unknown n) = refl

abbrev erased_one : Result Directive Fault → Result Directive Fault
erased_one = mapped erased_fault erased

all_erased : (d d' l : ℕ) (xs : List Directive) → map erased (map (raised_directive d l) xs) ≡ map erased (map (raised_directive d' l) xs)
all_erased d d' l [] = refl
all_erased d d' l (x ∷ xs) =
    ap₂ (λ (b : Body) (ys : List Directive). record { line = l + x.line; first = 0; past = 0; body = b } ∷ ys)
    (erased_body (raised_part d) x.body ∙ sym (erased_body (raised_part d') x.body)) (all_erased d d' l xs)

raised_erased : (d d' l : ℕ) (o : Result (List Directive) Fault) → erased_all (raised_all d l o) ≡ erased_all (raised_all d' l o)
raised_erased d d' l (Err (wrong_count n)) = refl
raised_erased d d' l (Err (untaken n)) = refl
raised_erased d d' l (Err (stopped n)) = refl
raised_erased d d' l (Err (id_missing n)) = refl
raised_erased d d' l (Err (within n f)) = ap (λ (r : Refusal). Err (within (l + n) r)) (erased_refusal (raised_part d) f ∙ sym (erased_refusal (raised_part d') f))
raised_erased d d' l (Ok xs) = ap (λ (ys : List Directive). Ok ys) (all_erased d d' l xs)

before_erased : (x : Result Directive Fault) (o : Result (List Directive) Fault) → erased_all (before x o) ≡ before (erased_one x) (erased_all o)
before_erased (Err f) o = refl
before_erased (Ok x) (Err f) = refl
before_erased (Ok x) (Ok xs) = refl

lead_erased : (x : Result Directive Fault) (ds : List Directive) → map erased (lead_by x ds) ≡ lead_by (erased_one x) (map erased ds)
lead_erased (Err f) ds = refl
lead_erased (Ok x) ds = refl

-- a step that loses spans as its directives do
over_erased : {A : Type 0} (step : Result Directive Fault → A → A) (g : A → A) → ((x : Result Directive Fault) (o : A) → g (step x o) ≡ step (erased_one x) (g o))
    → (s : List ℕ) (o o' : A) → g o ≡ g o' → (xs : List Item) → g (over step s o xs) ≡ g (over step s o' xs)
unfolding over
over_erased step g n s o o' e [] = e
over_erased step g n s o o' e (x ∷ xs) = n (item_read s x) (over step s o xs) ∙ ap (step (erased_one (item_read s x))) (over_erased step g n s o o' e xs) ∙ sym (n (item_read s x) (over step s o' xs))

-- ---- for a version

asked_erased : (chained : Bool) (ds : List Directive) (o : Result (List Directive) Fault) → erased_all (asked chained ds o) ≡ asked chained (map erased ds) (erased_all o)
unfolding asked
asked_erased chained [] o = refl
asked_erased chained (d ∷ ds) o = rw (lacks_same chained (resited_same nowhere d.body), chained_same chained (resited_same nowhere d.body)) (go (lacks_id chained d.body) (asked_erased (chained_on chained d.body) ds o))
  where
    go : (t : Bool) → erased_all (asked (chained_on chained d.body) ds o) ≡ asked (chained_on chained d.body) (map erased ds) (erased_all o)
        → erased_all (pick t (Err (id_missing d.line)) (asked (chained_on chained d.body) ds o)) ≡ pick t (Err (id_missing d.line)) (asked (chained_on chained d.body) (map erased ds) (erased_all o))
    go true e = refl
    go false e = e

-- the same of two texts whose directives before the first fault, and whose outcomes, differ in spans only
same_for : (v : Version) (s s' : List ℕ) → erased_all (directives s) ≡ erased_all (directives s') → map erased (leading s) ≡ map erased (leading s')
    → erased_all (directives_for v s) ≡ erased_all (directives_for v s')
unfolding directives_for
same_for TwoSix s s' d l = d
same_for TwoSeven s s' d l = asked_erased false (leading s) (directives s) ∙ ap₂ (asked false) l d ∙ sym (asked_erased false (leading s') (directives s'))

-- ---- the theorem

module _ (front line line' rest : List ℕ) (i : Idle line) (i' : Idle line') where
  unmoved : Apart front line rest → Apart front line' rest → Unmoved front line line' rest
  unmoved e e' =
      let old = directives_apart front line rest (idle_single line i) e in
      let new = directives_apart front line' rest (idle_single line' i') e' in
      record {
        old = old;
        new = new;
        same = λ v. same_for v (front ++ line ++ rest) (front ++ line' ++ rest)
            (ap erased_all old
            ∙ over_erased before erased_all before_erased front (rest_behind front line rest) (rest_behind front line' rest) (raised_erased (length front + length line) (length front + length line') (feeds front + 1) (directives rest)) (items false (reading front).tokens)
            ∙ sym (ap erased_all new))
            (ap (map erased) (leading_apart front line rest (idle_single line i) e)
            ∙ over_erased lead_by (map erased) lead_erased front _ _ (all_erased (length front + length line) (length front + length line') (feeds front + 1) (leading rest)) (items false (reading front).tokens)
            ∙ sym (ap (map erased) (leading_apart front line' rest (idle_single line' i') e')));
      }

  -- Document 02's theorem, on demand 3 as it stands: the lines are such as it asks for.
  pub replaced_idle : Closed front → ALine line → ALine line' → Unmoved front line line' rest
  replaced_idle f a a' = unmoved (demand3 front line rest f a) (demand3 front line' rest f a')

  -- Stronger: behind the `#` any byte but a line feed.
  pub replaced_remark : Closed front → Unmoved front line line' rest
  replaced_remark f = unmoved (apart line i) (apart line' i')
    where
      apart : (l : List ℕ) → Idle l → Apart front l rest
      apart l j = closed_apart front l rest (closed_at front f) (closed_at l (idle_closed l j)) (idle_feeds j)

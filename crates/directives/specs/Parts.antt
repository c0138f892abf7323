-- The words of M-100's theorem: lines of blanks or a comment, and directives further on or without their spans in the input.
use Rattle.directives.specs.declared.DirectivesError.TheVariants.{Gate, Refused, NoRoom}
use Rattle.std.specs.Prelude.{◌≡◌, ℕ, zero, suc, ◌+◌, ◌≤◌, true, false, List, [], ◌∷◌, ◌++◌, map, length, eqb, Ok, Err, Result}
use Rattle.lent.specs.Sizes.{limit}
use Rattle.lent.specs.Sources.{Part, part, sited_all}
use Rattle.lent.specs.Table.{resited}
use Rattle.lexer.specs.Tokens.{reading}
use Rattle.lexer.specs.Places.{feeds}
use Rattle.lexer.specs.Parts.{raised, among, Closed}
use Rattle.lexer.specs.Calls.{Ascii}
use Rattle.directives.specs.Groups.{Item, joined, stray, items}
use Rattle.directives.specs.Directives.{listed, Body, rule, act, marker, defaults, unknown, Directive, Fault, wrong_count, untaken, stopped, id_missing, within, ending, directives}
use Rattle.directives.specs.Versions.{Version, directives_for}
use Rattle.directives.specs.Table.{Filled, Outcome, shut, faulty, overfull, filled}
use Rattle.directives.specs.Promises.{Answer, Lent, Directives}
use Rattle.directives.specs.declared.Fault.TheVariants as Told

-- ---- idle lines

-- Any bytes but line feeds, closed by one: what stands behind the `#` of a comment.
pub data Remark : List ℕ → Type 0 where
  close : Remark (10 ∷ [])
  more : {b : ℕ} {r : List ℕ} → eqb b 10 ≡ false → Remark r → Remark (b ∷ r)

-- A line of spaces, tabs and CRs, or of these and then a comment.
pub data Idle : List ℕ → Type 0 where
  feed : Idle (10 ∷ [])
  hash : {r : List ℕ} → Remark r → Idle (35 ∷ r)
  blank : {b : ℕ} {r : List ℕ} → among b (32 ∷ 9 ∷ 13 ∷ []) ≡ true → Idle r → Idle (b ∷ r)

-- ---- further on, by d bytes and l line feeds

abbrev pub raised_item : ℕ → ℕ → Item → Item
raised_item d l (joined t args) = joined (raised d l t) (map (raised d l) args)
raised_item d l (stray t) = stray (raised d l t)

abbrev pub raised_part : ℕ → Part → Part
raised_part d x = part (d + x.first) (d + x.past)

-- Every source of a body put where a site says.
abbrev pub resited_body : (Part → Part) → Body → Body
resited_body f (rule vs o xs) = rule (listed (sited_all f vs.variables) (sited_all f vs.exclusions)) o (sited_all f xs)
resited_body f (act xs) = act (sited_all f xs)
resited_body f (marker m) = marker m
resited_body f (defaults xs) = defaults (sited_all f xs)
resited_body f (unknown n) = unknown n

abbrev pub raised_fault : ℕ → ℕ → Fault → Fault
raised_fault d l (wrong_count n) = wrong_count (l + n)
raised_fault d l (untaken n) = untaken (l + n)
raised_fault d l (stopped n) = stopped (l + n)
raised_fault d l (id_missing n) = id_missing (l + n)
raised_fault d l (within n f) = within (l + n) (resited (raised_part d) f)

abbrev pub raised_directive : ℕ → ℕ → Directive → Directive
raised_directive d l x = record { line = l + x.line; first = d + x.first; past = d + x.past; body = resited_body (raised_part d) x.body }

-- Both sides of a result, each in its way.
abbrev pub mapped : {A B : Type 0} → (Fault → Fault) → (A → B) → Result A Fault → Result B Fault
mapped f g (Err x) = Err (f x)
mapped f g (Ok y) = Ok (g y)

abbrev pub raised_all : ℕ → ℕ → Result (List Directive) Fault → Result (List Directive) Fault
raised_all d l = mapped (raised_fault d l) (map (raised_directive d l))

-- The directives of a closed front, and behind them a result: the front's first fault comes first.
abbrev pub behind : List ℕ → Result (List Directive) Fault → Result (List Directive) Fault
behind front o = ending front o (items false (reading front).tokens)

-- The rest's own result, further on by the front and the line.
abbrev pub rest_behind : List ℕ → List ℕ → List ℕ → Result (List Directive) Fault
rest_behind front line rest = raised_all (length front + length line) (feeds front + 1) (directives rest)

-- ---- without spans in the input

abbrev pub nowhere : Part → Part
nowhere x = part 0 0

abbrev pub erased : Directive → Directive
erased x = record { line = x.line; first = 0; past = 0; body = resited_body nowhere x.body }

abbrev pub erased_fault : Fault → Fault
erased_fault (wrong_count n) = wrong_count n
erased_fault (untaken n) = untaken n
erased_fault (stopped n) = stopped n
erased_fault (id_missing n) = id_missing n
erased_fault (within n f) = within n (resited nowhere f)

abbrev pub erased_all : Result (List Directive) Fault → Result (List Directive) Fault
erased_all = mapped erased_fault (map erased)

-- Words with 0 for one in each record of `suc n`: the first k are passed as they are, and n between two.
unfoldable pub blanked : ℕ → ℕ → List ℕ → List ℕ
blanked n zero [] = []
blanked n (suc k) [] = []
blanked n zero (w ∷ ws) = 0 ∷ blanked n n ws
blanked n (suc k) (w ∷ ws) = w ∷ blanked n k ws

-- Without the spans in the input: a directive's third word, a variable's sixth, an action's seventh.
abbrev pub unspanned : List ℕ → List ℕ
unspanned = blanked 10 2

abbrev pub unsourced_variables : List ℕ → List ℕ
unsourced_variables = blanked 5 5

abbrev pub unsourced_actions : List ℕ → List ℕ
unsourced_actions = blanked 6 6

abbrev pub unspanned_filled : Filled → Filled
unspanned_filled x = record {
  values = x.values;
  texts = x.texts;
  directives = unspanned x.directives;
  variables = unsourced_variables x.variables;
  actions = unsourced_actions x.actions;
}

abbrev pub unspanned_outcome : Outcome → Outcome
unspanned_outcome (shut f) = shut f
unspanned_outcome (faulty f) = faulty (erased_fault f)
unspanned_outcome (overfull d v a) = overfull d v a
unspanned_outcome (filled x) = filled (unspanned_filled x)

-- ---- the theorem

-- Another idle line in an idle line's place: each text's directives are the front's, and behind them the rest's further on, so that
-- those before the line are the same and those behind it differ in their spans only, by the difference in length; so do faults. For
-- either version nothing but spans differs.
pub record Unmoved (front line line' rest : List ℕ) : Type 0 where
  pub old : directives (front ++ line ++ rest) ≡ behind front (rest_behind front line rest)
  pub new : directives (front ++ line' ++ rest) ≡ behind front (rest_behind front line' rest)
  pub same : (v : Version) → erased_all (directives_for v (front ++ line ++ rest)) ≡ erased_all (directives_for v (front ++ line' ++ rest))

-- A text that passes 1 to 3 on what is lent.
pub record Fits (s : List ℕ) (m : Lent) : Type 0 where
  pub short : length s ≤ limit
  pub ascii : Ascii s
  pub texts_fit_lem : length s ≤ length m.text
  pub scratch_fits : length s ≤ length m.scratch

-- A call for a version on lent memory, of which only the promise is known.
pub record Called (v : Version) (s : List ℕ) (m : Lent) : Type 0 where
  pub after : Lent
  pub reply : Answer
  pub fits : Fits s m
  pub promise : Directives v s m after reply

-- Lent memory of the same lengths.
pub record Alike (m n : Lent) : Type 0 where
  pub text : length m.text ≡ length n.text
  pub scratch : length m.scratch ≡ length n.scratch
  pub directives : length m.directives ≡ length n.directives
  pub variables : length m.variables ≡ length n.variables
  pub actions : length m.actions ≡ length n.actions

-- An answer without the span of a refused piece.
abbrev pub unspanned_reply : Answer → Answer
unspanned_reply (Ok r) = Ok r
unspanned_reply (Err (Gate e)) = Err (Gate e)
unspanned_reply (Err (Refused (Told.Line why line))) = Err (Refused (Told.Line why line))
unspanned_reply (Err (Refused (Told.Argument why line at len span))) = Err (Refused (Told.Argument why line at len 0))
unspanned_reply (Err (NoRoom directives variables actions)) = Err (NoRoom directives variables actions)

-- Two calls that tell the same: number and values, and all lent memory, but for spans in the input.
pub record SameTold {v : Version} {s s' : List ℕ} {m n : Lent} (k : Called v s m) (k' : Called v s' n) : Type 0 where
  pub answer : unspanned_reply k.reply ≡ unspanned_reply k'.reply
  pub text : k.after.text ≡ k'.after.text
  pub scratch : k.after.scratch ≡ k'.after.scratch
  pub directives : unspanned k.after.directives ≡ unspanned k'.after.directives
  pub variables : unsourced_variables k.after.variables ≡ unsourced_variables k'.after.variables
  pub actions : unsourced_actions k.after.actions ≡ unsourced_actions k'.after.actions

-- M-100's theorem in one place: over the definitions, and over the promise of the public call.
pub record WholeDirectives : Type 0 where
  pub replaced : (front line line' rest : List ℕ) → Closed front → Idle line → Idle line' → Unmoved front line line' rest
  pub two_calls : (front line line' rest : List ℕ) → Closed front → Idle line → Idle line' → {v : Version} {m n : Lent} → Alike m n
      → (k : Called v (front ++ line ++ rest) m) (k' : Called v (front ++ line' ++ rest) n) → SameTold k k'

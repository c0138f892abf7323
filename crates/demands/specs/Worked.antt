-- The twelve texts of document 01 that are marked P, as one table: what is asked, and what the definitions must say.
-- With each record and refusal goes the part of the text that it was read from (M-104).
use Prim.Native.String.{String}
use Rattle.std.specs.Prelude.{ℕ, true, false, List, [], ◌∷◌, map}
use Rattle.ascii.specs.Text.{bytes}
use Rattle.lent.specs.Sources.{part, Sourced, sourced}
use Rattle.lent.specs.Table.{Outcome, refuses, reads, unknown_action, bad_argument}
use Rattle.lent.specs.declared.refusing.Flaw.TheVariants as Flaw
use Rattle.lexer.specs.declared.Cursor.{Cursor}
use Rattle.lexer.specs.declared.Kind.{Kind}
use Rattle.lexer.specs.declared.Kind.TheVariants.{Directive, Word}
use Rattle.lexer.specs.Cursors.{line, column, cursor}
use Rattle.lexer.specs.Tokens.{Token, Reading, reading}
use Rattle.single_action.specs.Actions.{Action, numbered}
use Rattle.actions.specs.Lists.{actions_of}
use Rattle.variables.specs.Parts.{pieces}
use Rattle.variables.specs.Variables.{Targets, targets, refused, as_written, read_all, none, regex}
use Rattle.operators.specs.Operators as Op

-- A text to be read by the lexer, or as a list of actions, a list of variables or an operator.
pub data Question : Type 0 where
  text : String → Question
  actions : String → Question
  variables : String → Question
  operator : String → Question

-- What the definitions say.
pub data Reply : Type 0 where
  of_text : Reading → Reply
  of_actions : Outcome (List (Sourced Action)) → Reply
  of_variables : Targets → Reply
  of_operator : Op.Reading → Reply

abbrev pub ask : Question → Reply
ask (text s) = of_text (reading (bytes s))
ask (actions s) = of_actions (actions_of (bytes s))
ask (variables s) = of_variables (read_all as_written (pieces (bytes s)))
ask (operator s) = of_operator (Op.operator (bytes s))

-- A row of the table.
pub record Row : Type 0 where
  pub asked : Question
  pub said : Reply

abbrev row : Question → Reply → Row
row q r = record { asked = q; said = r }

-- Tokens, and where reading stops.
abbrev read : List Token → Cursor → Reply
read ts c = of_text (record { tokens = ts; stop = c })

-- kind, line, column, first and past byte, text
abbrev tok : Kind → ℕ → ℕ → ℕ → ℕ → String → Token
tok k l c f p t = record { kind = k; line = line l; column = column c; first = f; past = p; text = bytes t }

unfoldable pub table : List Row
table =
    -- empty text: no token, stop 0
    row (text "") (read [] (cursor 0 1 1 true))
    -- `a\` LF `b`: Word `ab`
    ∷ row (text "a\\\nb") (read (tok Word 1 1 0 4 "ab" ∷ []) (cursor 4 2 2 false))
    -- `\Sec`: Word `Sec`, column 2
    ∷ row (text "\\Sec") (read (tok Word 1 2 1 4 "Sec" ∷ []) (cursor 4 1 5 false))
    -- `x \` LF `secy`: Word, then Directive at 2,1
    ∷ row (text "x \\\nsecy") (read (tok Word 1 1 0 1 "x" ∷ tok Directive 2 1 4 8 "secy" ∷ []) (cursor 8 2 5 false))
    -- `a` FF `b`: Word `a`, stop 1
    ∷ row (text "a\u{c}b") (read (tok Word 1 1 0 1 "a" ∷ []) (cursor 1 1 2 false))
    -- `phase:'2'`: 6, since document 02 unreadable
    ∷ row (actions "phase:'2'") (of_actions (refuses (bad_argument Flaw.Unreadable 0 (bytes "phase") (part 0 9))))
    -- `T:none`: 5 with `t`
    ∷ row (actions "T:none") (of_actions (refuses (unknown_action 0 (bytes "t") (part 0 6))))
    -- `severity:255`: accepted
    ∷ row (actions "severity:255") (of_actions (reads (sourced (numbered 13 255) (part 0 12) ∷ [])))
    -- `deny,,bogus,phase:x`: 5, piece 1
    ∷ row (actions "deny,,bogus,phase:x") (of_actions (refuses (unknown_action 1 (bytes "bogus") (part 6 11))))
    -- `!ARGS:p|args|&TX:/^a/`: two variables, exclusion `ARGS:p`
    ∷ row (variables "!ARGS:p|args|&TX:/^a/")
    (of_variables (targets
    (sourced (record { code = 0; counts = false; chosen = none }) (part 8 12) ∷ sourced (record { code = 35; counts = true; chosen = regex (bytes "^a") }) (part 13 21) ∷ [])
    (sourced (bytes "ARGS:p") (part 0 7) ∷ [])))
    -- `ARGS:/a|b/`: 7 with `b/`, piece 1
    ∷ row (variables "ARGS:/a|b/") (of_variables (refused 1 (bytes "b/") (part 8 10)))
    -- `!!@rx a`: negated Rx, argument `!@rx a`
    ∷ row (operator "!!@rx a") (of_operator (Op.spec true 0 (bytes "!@rx a")))
    ∷ []

abbrev pub replies : List Reply
replies = map (λ (r : Row). ask r.asked) table

abbrev pub wanted : List Reply
wanted = map (λ (r : Row). r.said) table

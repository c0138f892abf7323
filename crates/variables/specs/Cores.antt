-- What read_targets promises: a list read from an offset of the text and a place of the records on.
use Rattle.std.specs.Prelude.{◌≡◌, Bool, ℕ, ◌+◌, ◌*◌, List, ◌++◌, length, Result, Ok, Err}
use Rattle.ascii.specs.Choice.{pick}
use Rattle.lent.specs.Sizes.{variable_words}
use Rattle.lent.specs.Sources.{Sourced}
use Rattle.lent.specs.Buffers.{zeros, padded, stored, stored_each}
use Rattle.lent.specs.Endings.{starts}
use Rattle.lent.specs.Layout.{records_of}
use Rattle.variables.specs.Variables.{Variable, Targets, targets, refused}
use Rattle.variables.specs.Layout.{variable_whole, exclusion_whole, variable_text, exclusion_text, selection_texts, texts}
use Rattle.variables.specs.Steps.{targets_of}
use Rattle.variables.specs.declared.singles.Exclusions.{Exclusions}
use Rattle.variables.specs.declared.Reached.{Reached}
use Rattle.variables.specs.declared.TargetsError.{TargetsError}
use Rattle.variables.specs.declared.TargetsError.TheVariants.{Unknown, Unfit}

-- its records one by one, the first text at the offset o
abbrev pub records_from : ℕ → List (Sourced Variable) → List (Sourced (List ℕ)) → List (List ℕ)
records_from o vs es = records_of variable_whole variable_text o vs ++ records_of exclusion_whole exclusion_text (o + length (selection_texts vs)) es

-- what is given back, and what is left of both buffers: each record where it fits; or the name, and zeros
abbrev pub reached_by : ℕ → Targets → Result Reached TargetsError
reached_by offset (targets vs es) = Ok (record { count = length vs + length es; offset = offset + length (texts vs es) })
reached_by offset (refused i name x) = Err (Unknown i (length name) x.first x.past)

abbrev pub reached_text : ℕ → List ℕ → Targets → List ℕ
reached_text offset old (targets vs es) = stored old offset (texts vs es)
reached_text offset old (refused i name x) = padded (length old) name

abbrev pub reached_records : ℕ → ℕ → List ℕ → Targets → List ℕ
reached_records offset place old (targets vs es) = stored_each old (place * variable_words) (records_from offset vs es)
reached_records offset place old (refused i name x) = zeros (length old)

-- where the list may be read from there; else nothing is touched
abbrev pub may_read : List ℕ → ℕ → ℕ → List ℕ → Bool
may_read s offset place text = starts (length s) (length text) offset place

pub record ReadTargets (n : Exclusions) (s : List ℕ) (offset place : ℕ) (text text' records records' : List ℕ) (r : Result Reached TargetsError) : Type 0 where
  pub answer : r ≡ pick (may_read s offset place text) (reached_by offset (targets_of n s)) (Err Unfit)
  pub texts : text' ≡ pick (may_read s offset place text) (reached_text offset text (targets_of n s)) text
  pub words : records' ≡ pick (may_read s offset place text) (reached_records offset place records (targets_of n s)) records

-- The same condition over the records' texts, so that it is decided without building a spelling: proofs/TextwiseLaws.antt.
use Rattle.std.specs.Prelude.{Bool, false, List, [], ℕ, eqb}
use Rattle.ascii.specs.Choice.{pick, and}
use Rattle.ascii.specs.Classes.{white}
use Rattle.records.specs.Codes.{transformation_code}
use Rattle.records.specs.Actions.{Action, slot_text}
use Rattle.single_action.specs.declared.naming.Rule.{Rule}
use Rattle.single_action.specs.declared.naming.Rule.TheVariants.{Plain as plain, Wanted as wanted, Unmarked as unmarked, UpTo as up_to, Severity as severity, Equation as equation, Expiry as expiry, Setting as setting}
use Rattle.single_action.specs.Table.{rows, Found, found, missing}
use Rattle.actions.specs.Pieces.{outside}
use Rattle.spelled.specs.Spelling.{coded, argument}
use Rattle.spelled.specs.Condition.{isnt, last_by, fits, steady, uncut}

-- No backslash stands right before LF or CR in any text.
unfoldable pub steady_texts : Action → Bool
steady_texts x = and (steady (slot_text x.a)) (and (steady (slot_text x.b)) (steady (slot_text x.c)))

-- The rule of a row that was found.
abbrev pub rule_in : Found → Rule
rule_in (found r) = r.rule
rule_in missing = plain

-- The text that stands last and bare: of redirect and skipAfter, and the second of ctl and initcol.
abbrev pub end_text : Rule → Action → List ℕ
end_text plain x = []
end_text wanted x = slot_text x.a
end_text unmarked x = []
end_text (up_to most) x = []
end_text severity x = []
end_text equation x = slot_text x.b
end_text expiry x = []
end_text setting x = []

-- And of `t:`.
abbrev pub end_of : Action → List ℕ
end_of x = pick (eqb x.code transformation_code) (slot_text x.a) (end_text (rule_in (coded rows x.code)) x)

-- What the cutter has to walk: all that stands behind the colon.
abbrev pub walk_of : Action → List ℕ
walk_of x = pick (eqb x.code transformation_code) (slot_text x.a) (slot_text (argument (rule_in (coded rows x.code)) x))

unfoldable pub stays_by_texts : Action → Bool
stays_by_texts x = and (fits x) (and (steady_texts x) (and (isnt (last_by white false (end_of x))) (uncut outside (walk_of x))))

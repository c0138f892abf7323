-- What a record or a refusal was read from: a part of the input, from `first` and up to `past` without it.
use Rattle.std.specs.Prelude.{ℕ, ◌-◌, List, [], ◌∷◌, ◌++◌, map}
use Rattle.lent.specs.Sizes.{span_word}
pub use Rattle.ascii.specs.declared.trimming.Part.{Part}

abbrev pub part : ℕ → ℕ → Part
part first past = record { first = first; past = past }

-- its span, as a word
abbrev pub part_word : Part → ℕ
part_word x = span_word x.first (x.past - x.first)

-- a thing that was read, and the part that it was read from
pub record Sourced (A : Type 0) : Type 0 where
  pub thing : A
  pub source : Part

module _ {A : Type 0} where
  abbrev pub sourced : A → Part → Sourced A
  sourced x p = record { thing = x; source = p }

  abbrev pub sourced_text : (A → List ℕ) → Sourced A → List ℕ
  sourced_text text x = text x.thing

  -- its words, and behind them the span of its source
  abbrev pub sourced_record : (ℕ → A → List ℕ) → ℕ → Sourced A → List ℕ
  sourced_record words o x = words o x.thing ++ (part_word x.source ∷ [])

  -- its source put where a site says
  abbrev pub sited_by : (Part → Part) → Sourced A → Sourced A
  sited_by f x = sourced x.thing (f x.source)

  abbrev pub sited_all : (Part → Part) → List (Sourced A) → List (Sourced A)
  sited_all f = map (sited_by f)

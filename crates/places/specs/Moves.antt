-- What `site` and `resite` promise: one part, and the last words of records, put where they came from.
use Rattle.std.specs.Prelude.{◌≡◌, ℕ, zero, suc, ◌+◌, ◌-◌, Bool, List, [], ◌∷◌, length, drop, get_or, leb}
use Rattle.ascii.specs.Choice.{pick, and}
use Rattle.lent.specs.Sizes.{limit}
use Rattle.lent.specs.Sources.{Part, part}
use Rattle.lent.specs.Buffers.{placed}
use Rattle.places.specs.Tables.{Rule}
use Rattle.places.specs.Sites.{site_of, site_word}

-- The bytes from the place k on, read by a rule, gave a text; r is where the part of it from `first` up to `past` stands.
abbrev pub Site : List ℕ → ℕ → Rule → ℕ → ℕ → Part → Type 0
Site s k rule first past r = r ≡ site_of rule k (drop k s) (part first past)

-- The word at i changed.
abbrev pub changed : (ℕ → ℕ) → List ℕ → ℕ → List ℕ
changed f words i = placed words i (f (get_or words i 0) ∷ [])

-- The last words of n records of that width from the place i on, each changed where the record is there whole.
unfoldable pub last_changed : (ℕ → ℕ) → ℕ → ℕ → ℕ → List ℕ → List ℕ
last_changed f width zero i words = words
last_changed f width (suc n) i words =
    last_changed f width n (i + width) (pick (leb (i + width) (length words)) (changed f words (i + (width - 1))) words)

-- Only within the limit, so that every span is a word, and for records of a word at least.
abbrev pub within : List ℕ → ℕ → ℕ → Bool
within s k width = and (leb (length s) limit) (and (leb k (length s)) (leb 1 width))

pub record SiteWord (s : List ℕ) (k : ℕ) (rule : Rule) (word r : ℕ) : Type 0 where
  pub is : r ≡ pick (within s k 1) (site_word rule k (drop k s) word) word

pub record Resite (s : List ℕ) (k : ℕ) (rule : Rule) (count width at : ℕ) (records records' : List ℕ) : Type 0 where
  pub words : records' ≡ pick (within s k width) (last_changed (site_word rule k (drop k s)) width count at records) records

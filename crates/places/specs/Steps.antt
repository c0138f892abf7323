-- What the code does with a table: a step of it, and where a walk along the source stands.
use Rattle.std.specs.Prelude.{◌≡◌, ℕ, ◌+◌, ◌-◌, ◌≤◌, ◌<◌, Bool, true, List, length, drop, get_or, ltb}
use Rattle.ascii.specs.Choice.{pick}
use Rattle.lent.specs.Sources.{Part}
use Rattle.places.specs.Cells.{first_of}
use Rattle.places.specs.Scans.{Mode, Act, pass, keep, turn, plain, margin, scan}
use Rattle.places.specs.Tables.{Rule, Joined, Quoted, act}
use Rattle.places.specs.Sites.{cells_of, behind, site_word}
use Rattle.places.specs.Moves.{Site, last_changed}
pub use Rattle.places.specs.declared.acting.Step.{Step}
pub use Rattle.places.specs.declared.acting.Step.TheVariants.{Pass, Keep, Turn}
pub use Rattle.places.specs.declared.walking.Stand.{Stand}

-- What a byte does, without the byte that it gives.
abbrev pub step_of : Act → Step
step_of (pass m) = Pass m
step_of (keep x m) = Keep m
step_of (turn x m) = Turn m

-- ---- a walk along the source

-- Before the first byte.
abbrev pub begun : ℕ → Stand
begun k = record { count = 0; place = k; mode = plain; first = k; last = k }

-- Where a walk stands along the source of a text that was read from the place k on: what is still to come of the text,
-- and where the byte came from that was passed last.
pub record Stands (rule : Rule) (s : List ℕ) (k : ℕ) (w : Stand) : Type 0 where
  pub inside : w.count ≤ length (cells_of rule k (drop k s))
  pub rest : scan (act rule) w.mode w.place (drop w.place s) ≡ drop w.count (cells_of rule k (drop k s))
  pub ends : w.last ≡ behind k (cells_of rule k (drop k s)) w.count
  pub starts : (d : ℕ) → 0 < w.count → first_of d (drop (w.count - 1) (cells_of rule k (drop k s))) ≡ w.first

-- A byte of the text has one of the source at least, so that no count overflows.
abbrev pub Paid : Stand → Type 0
Paid w = w.count ≤ w.place

-- So many bytes from the place on are no backslash.
pub record Plain (s : List ℕ) (place most r : ℕ) : Type 0 where
  pub few : r ≤ most
  pub inside : place + r ≤ length s
  pub none : (i : ℕ) → i < r → get_or s (place + i) 0 ≡ 92 → ⊥

-- This byte, if it is no backslash, stands for itself in the mode, by every rule, and the mode behind it is the plain one.
abbrev pub Begins : Mode → ℕ → Bool → Type 0
Begins m b r = r ≡ true → (rule : Rule) (t : List ℕ) → (b ≡ 92 → ⊥) → act rule m b t ≡ keep b plain

-- So many bytes from the place on are spaces.
pub record Spaces (s : List ℕ) (place r : ℕ) : Type 0 where
  pub inside : place + r ≤ length s
  pub all : (i : ℕ) → i < r → get_or s (place + i) 0 ≡ 32

-- They are a backslash, a line feed and spaces.
pub record Feed (s : List ℕ) (place r : ℕ) : Type 0 where
  pub more : ℕ
  pub all : r ≡ 2 + more
  pub slash : get_or s place 0 ≡ 92
  pub feed : get_or s (place + 1) 0 ≡ 10
  pub spaces : Spaces s (place + 2) more

pub record Continued (s : List ℕ) (place r : ℕ) : Type 0 where
  pub inside : place + r ≤ length s
  pub feed : 0 < r → Feed s place r

-- They give nothing, and a walk that stood before them in this mode stands in the margin behind them.
abbrev pub skip_by : ℕ → Stand → Stand
skip_by n w = record { count = w.count; place = w.place + n; mode = margin; first = w.first; last = w.last }

pub record Blank (rule : Rule) (s : List ℕ) (m : Mode) (place r : ℕ) : Type 0 where
  pub inside : place + r ≤ length s
  pub skips : 0 < r → (k : ℕ) (w : Stand) → w.mode ≡ m → w.place ≡ place → Stands rule s k w → Stands rule s k (skip_by r w)

-- By both rules that have a margin.
abbrev pub Blanks : List ℕ → Mode → ℕ → ℕ → Type 0
Blanks s m place r = Blank Joined s m place r × Blank Quoted s m place r

-- The walk went on: it stands wherever it stood before.
pub record Onward (rule : Rule) (s : List ℕ) (w r : Stand) : Type 0 where
  pub stands : (k : ℕ) → Stands rule s k w → Stands rule s k r
  pub paid : Paid r
  pub onward : w.place < r.place
  pub few : r.count ≤ w.count + 1

-- The byte that is passed with j of them came from f on.
abbrev pub CameFrom : Rule → List ℕ → ℕ → ℕ → ℕ → Type 0
CameFrom rule s k j f = (d : ℕ) → first_of d (drop (j - 1) (cells_of rule k (drop k s))) ≡ f

-- By at least one byte of the source, and not past n of the text. Those passed stand one behind another.
pub record Moved (rule : Rule) (s : List ℕ) (w : Stand) (n : ℕ) (r : Stand) : Type 0 where
  pub stands : (k : ℕ) → Stands rule s k w → Stands rule s k r
  pub paid : Paid r
  pub onward : w.place < r.place
  pub few : r.count ≤ n
  pub low : r.count ≤ w.count + 1 + r.first
  pub each : (k : ℕ) → Stands rule s k w → (j : ℕ) → w.count < j → j ≤ r.count → CameFrom rule s k j (r.first - (r.count - j))

-- Up to n bytes of the text, or the end of the source, with a note of the byte that was passed with `stop` of them.
pub record Reached (rule : Rule) (s : List ℕ) (w : Stand) (stop n : ℕ) (r : Stand) (noted : ℕ) : Type 0 where
  pub stands : (k : ℕ) → Stands rule s k w → Stands rule s k r
  pub paid : Paid r
  pub few : r.count ≤ n
  pub ended : r.count < n → length s ≤ r.place
  pub note : (k : ℕ) → Stands rule s k w → 0 < stop → stop ≤ r.count → CameFrom rule s k stop noted

-- ---- a part

abbrev pub wanted : ℕ → ℕ → ℕ
wanted first past = pick (ltb first past) (first + 1) past

-- found by a walk that stands at r then
pub record Sites (s : List ℕ) (k : ℕ) (rule : Rule) (first past : ℕ) (r : Stand) (x : Part) : Type 0 where
  pub site : Site s k rule first past x
  pub stands : Stands rule s k r
  pub paid : Paid r

-- ---- records

-- a word in its place, found by a walk that stands at r then
pub record WordSites (s : List ℕ) (k : ℕ) (rule : Rule) (word : ℕ) (r : Stand) (word' : ℕ) : Type 0 where
  pub site : word' ≡ site_word rule k (drop k s) word
  pub stands : Stands rule s k r
  pub paid : Paid r

abbrev pub WordsSited : List ℕ → ℕ → Rule → ℕ → ℕ → ℕ → List ℕ → List ℕ → Type 0
WordsSited s k rule count width at records records' = records' ≡ last_changed (site_word rule k (drop k s)) width count at records

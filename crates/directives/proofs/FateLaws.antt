-- What a call comes to, in plain words: each outcome exactly when its row says so. An outcome tells the number, the values and all lent memory.
use Rattle.lent.specs.declared.gating.GateError.TheVariants.{TooLong, Short, NotAscii}
use Rattle.lent.specs.declared.gating.GateError.{GateError}
use Rattle.std.specs.Prelude.{Ok, Err, Result}
use mathlib.Core.Path.{◌≡◌, refl, ap, ◌∙◌, subst}
use mathlib.Core.Logic.{◌↔◌}
use Prim.Native.Nat.{ℕ, ◌≤◌, ◌<◌, min}
use mathlib.Core.Bool.{Bool, true, false}
use mathlib.Core.List.{List}
use lib.ListN.{length}
use Rattle.ascii.specs.Choice.{pick}
use Rattle.lent.specs.Sizes.{limit}
use Rattle.lent.specs.Gates.{gate_of}
use Rattle.lent.specs.Table.{too_long, not_ascii, short_buffer}
use Rattle.lent.specs.Admission.{FirstAt, Opened, Shortened}
use Rattle.lent.proofs.GateLaws.{Row, gate_row, row_gate}
use Rattle.lexer.specs.Tokens.{reading}
use Rattle.directives.specs.Directives.{Directive, Fault, end_of}
use Rattle.directives.specs.Versions.{Version, directives_for}
use Rattle.directives.specs.Layout.{listed_counts, action_counts}
use Rattle.directives.specs.Table.{Outcome, shut, faulty, overfull, filled, past_gate}
use Rattle.directives.specs.Promises.{Lent, rooms_of, outcome_on, directives_outcome, laid_out, lacks, roomed}
use Rattle.directives.specs.Calls.{AllGood, Sound, Faulty, items_of}
use Rattle.directives.proofs.RoomLaws.{Crowded, Roomy, crowded_is, roomy_is}
use Rattle.directives.proofs.OrderLaws.{end_good}
use Rattle.directives.proofs.AskedLaws.{text_faulty, text_good}

-- the shorter of the two byte buffers
abbrev pub least : Lent → ℕ
least m = min (length m.text) (length m.scratch)

-- what a text ends in
abbrev pub end_in : List ℕ → Result (List Directive) Fault
end_in s = end_of (length s) (reading s).stop

module _ (v : Version) (s : List ℕ) (m : Lent) where
  -- the text is read: each item is good, no id is missing that is asked for, and reading came to the end
  pub record Read (ds : List Directive) : Type 0 where
    pub opened : Opened s (least m) (length s)
    pub each : AllGood s (items_of s) ds
    pub sound : Sound v ds
    pub whole : length s ≤ (reading s).stop.place

  pub data Fate : Outcome → Type 0 where
    -- 1, 2, 3
    long : limit < length s → Fate (shut too_long)
    high : (p : ℕ) → length s ≤ limit → FirstAt s p → Fate (shut (not_ascii p))
    short : Shortened s (least m) (length s) → Fate (shut short_buffer)
    -- 5, 7, 8, 10 to 15 and 18: the first in text order
    fault : (f : Fault) → Opened s (least m) (length s) → Faulty v s (end_in s) (items_of s) f → Fate (faulty f)
    -- 4
    crowded : (ds : List Directive) → Read ds → Crowded m ds → Fate (overfull (length ds) (listed_counts ds) (action_counts ds))
    -- 0
    roomy : (ds : List Directive) → Read ds → Roomy m ds → Fate (filled (laid_out ds))

  open_fate : Opened s (least m) (length s) → Fate (roomed (rooms_of m) (directives_for v s))
  open_fate h = go (directives_for v s) refl
    where
      room : (ds : List Directive) → Read ds → (t : Bool) → lacks (rooms_of m) ds ≡ t → Fate (pick t (overfull (length ds) (listed_counts ds) (action_counts ds)) (filled (laid_out ds)))
      room ds r true e = crowded ds r ((crowded_is m ds).0 e)
      room ds r false e = roomy ds r ((roomy_is m ds).0 e)

      go : (r : Result (List Directive) Fault) → directives_for v s ≡ r → Fate (roomed (rooms_of m) r)
      go (Err f) q = fault f h ((text_faulty s v f).0 q)
      go (Ok ds) q =
          let w = (text_good s v ds).0 q in
          room ds (record { opened = h; each = w.0; sound = w.1.0; whole = (end_good (length s) (reading s).stop).0 w.1.1 }) (lacks (rooms_of m) ds) refl

  pub fate : Fate (outcome_on v s m)
  unfolding directives_outcome
  fate = go (gate_of s (least m) (length s)) (gate_row s (least m) (length s))
    where
      go : (g : Result Unit GateError) → Row s (least m) (length s) g → Fate (past_gate g (roomed (rooms_of m) (directives_for v s)))
      go (Ok tt) r = open_fate r
      go (Err TooLong) r = long r
      go (Err (NotAscii p)) r = high p r.0 r.1
      go (Err Short) r = short r

  -- back, by the gate's answer
  gated : (g : Result Unit GateError) → Row s (least m) (length s) g → outcome_on v s m ≡ past_gate g (roomed (rooms_of m) (directives_for v s))
  unfolding directives_outcome
  gated g r = ap (λ (x : Result Unit GateError). past_gate x (roomed (rooms_of m) (directives_for v s))) (row_gate s (least m) (length s) g r)

  read_is : (ds : List Directive) → Read ds → outcome_on v s m ≡ roomed (rooms_of m) (Ok ds)
  read_is ds r = gated (Ok tt) r.opened ∙ ap (roomed (rooms_of m)) ((text_good s v ds).1 (r.each, (r.sound, (end_good (length s) (reading s).stop).1 r.whole)))

  pub back : (o : Outcome) → Fate o → outcome_on v s m ≡ o
  back (shut _) (long h) = gated (Err TooLong) h
  back (shut _) (high p h k) = gated (Err (NotAscii p)) (h, k)
  back (shut _) (short h) = gated (Err Short) h
  back (faulty _) (fault f h k) = gated (Ok tt) h ∙ ap (roomed (rooms_of m)) ((text_faulty s v f).1 k)
  back (overfull _ _ _) (crowded ds r h) = read_is ds r ∙ rw ((crowded_is m ds).1 h)
  back (filled _) (roomy ds r h) = read_is ds r ∙ rw ((roomy_is m ds).1 h)

  -- an outcome is a call's exactly when its row says so
  pub outcome_is : (o : Outcome) → (outcome_on v s m ≡ o) ↔ Fate o
  outcome_is o = (λ e. subst Fate e fate, back o)

-- The loop over the parts of a normalised text: what it keeps, how a part that is no piece and an action keep it,
-- and what it comes to at a refusal and at the end. Each piece pays for its texts, so the text buffer never ends too soon.
use mathlib.Core.Path.{◌≡◌, refl, sym, ap, ◌∙◌}
use mathlib.Core.Bool.{Bool, true, false}
use mathlib.Core.List.{List, [], ◌∷◌, ◌++◌, append-nil}
use Prim.Native.Nat.{ℕ, suc, ◌+◌, ◌-◌, ◌*◌, ◌≤◌, ◌<◌}
use native.Mathlib.Numerals.{add-one}
use native.Mathlib.Omega.{arith}
use lib.ListN.{length, take, drop, length-drop, length-map, length-take}
use lib.Dec.{ltb, eqb}
use borrow.Author.Tests.{ltb-true, ltb-false, lt-ltb, le-ltb}
use Rattle.ascii.specs.Choice.{pick, or}
use Rattle.ascii.specs.Classes.{white}
use Rattle.ascii.specs.Fold.{lower, lowered}
use Rattle.ascii.specs.Trim.{trim_ends, trimmed_part}
use Rattle.ascii.proofs.TrimLaws.{ends_fit}
use Rattle.lent.specs.Sizes.{span_base, action_words}
use Rattle.lent.specs.Endings.{starts}
use Rattle.lent.specs.Sources.{Part, part, part_word, Sourced, sourced}
use Rattle.lent.proofs.StartLaws.{Started, starts_is}
use Rattle.lent.specs.Buffers.{zeros, padded, stored, stored_each}
use Rattle.lent.specs.Table.{Refusal, bad_argument, unknown_action, refuses, reads}
use Rattle.lent.specs.declared.refusing.Flaw.{Flaw}
use Rattle.lent.proofs.BufferLaws.{stored_none, stored_more}
use Rattle.lent.specs.Layout.{texts_of, records_of}
use Rattle.lent.proofs.LayoutLaws.{count_more}
use Rattle.single_action.specs.Table.{row_at}
use Rattle.single_action.specs.Actions.{Action, action_text, Single, done, bad, single}
use Rattle.single_action.specs.Plans.{cut, plan_action, Judged}
use Rattle.single_action.specs.declared.plans.Plan.{Plan}
use Rattle.single_action.specs.declared.plans.PlanError.TheVariants.{Bad, Unknown}
use Rattle.std.specs.Prelude.{Ok, Err}
use Rattle.single_action.proofs.SingleLaws.{Within, single_within}
use Rattle.actions.specs.Pieces.{outside, Piece, place_of, keep, pieces_from, part_length}
use Rattle.actions.specs.Lists.{single_then, actions_from, listed}
use Rattle.records.specs.Codes.{id_code, chain_code}
use Rattle.actions.specs.Having.{has}
use Rattle.actions.specs.Layout.{full_record, records_from, texts}
use Rattle.actions.specs.Steps.{Put}
use Rattle.actions.specs.Listing.{Laid, ReadAll, Stopped}
use Rattle.actions.proofs.PieceLaws.{part_fits}
use Rattle.actions.proofs.PlaceLaws.{trimmed_places}
use Rattle.actions.proofs.WritingLaws.{cut_length}
use Rattle.actions.proofs.LayoutLaws.{texts_more, texts_length, each_record, text_long, records_long}
use Rattle.actions.proofs.LoopLaws.{pieces_more, pieces_last, so_far, no_piece, one_piece, so_far_more, so_far_refused, so_far_read, has_more}

-- ---- the parts

-- the pieces behind a part that ends at a place
unfoldable pub behind : List ℕ → ℕ → List Piece
behind s end = pick (ltb end (length s)) (pieces_from (end + 1) (drop (end + 1) s)) []

module _ (s : List ℕ) (from end : ℕ) (inside : from ≤ length s) (end_is : end ≡ from + part_length outside (drop from s)) where
  pub end_inside : (from ≤ end) × (end ≤ length s)
  end_inside = (omega arith, omega (arith, end_is, part_fits outside (drop from s), length-drop from s))

  -- the part that starts at `from` is a piece or nothing, and the others stand behind it
  pub pieces_at : pieces_from from (drop from s) ≡ keep (trim_ends (cut s from end)) (place_of from (cut s from end)) (behind s end)
  unfolding behind
  pieces_at = go (ltb end (length s)) refl
    where
      k : part_length outside (drop from s) ≡ end - from
      k = omega (arith, end_is)

      go : (t : Bool) → ltb end (length s) ≡ t → pieces_from from (drop from s) ≡ keep (trim_ends (cut s from end)) (place_of from (cut s from end)) (pick t (pieces_from (end + 1) (drop (end + 1) s)) [])
      go true e =
          pieces_more s from (omega (arith, end_is, ltb-true end (length s) e))
          ∙ rw (← end_is, k)
      go false e = pieces_last s from (omega (arith, end_is, ltb-false end (length s) e)) ∙ rw k

-- ---- what the loop keeps

-- the pieces up to the place `reach` are read, and `rest` are those still to come
pub record Going (s : List ℕ) (offset place : ℕ) (text₀ records₀ text records : List ℕ) (rest : List Piece) (reach used count at : ℕ) (id chain : Bool) : Type 0 where
  pub actions : List (Sourced Action)
  pub so_far_lem : so_far actions (actions_from (length actions) rest) ≡ listed s
  pub inside : reach ≤ length s
  pub used_low : used ≤ offset + reach
  pub count_low : count ≤ reach
  pub at_is : at ≡ (place + count) * action_words
  pub id_is : id ≡ has id_code actions
  pub chain_is : chain ≡ has chain_code actions
  pub laid : Laid actions offset place text₀ text records₀ records count used

pub begun : (s text records : List ℕ) (offset place : ℕ) → Going s offset place text records text records (pieces_from 0 (drop 0 s)) 0 offset 0 (place * action_words) false false
unfolding so_far texts_of records_of stored_each has
begun s text records offset place = record {
  actions = [];
  so_far_lem = refl;
  inside = omega arith;
  used_low = omega arith;
  count_low = omega arith;
  at_is = omega arith;
  id_is = refl;
  chain_is = refl;
  laid = record { counted = omega arith; used_is = omega arith; written = sym (stored_none text offset); recorded = refl };
}

module _ {s : List ℕ} {offset place : ℕ} {text₀ records₀ text records : List ℕ} {from used count at : ℕ} {id chain : Bool} (x : Going s offset place text₀ records₀ text records (pieces_from from (drop from s)) from used count at id chain)
    (h : starts (length s) (length text₀) offset place ≡ true)
    (end : ℕ) (end_is : end ≡ from + part_length outside (drop from s)) (t : Part) (t-is : t ≡ trimmed_part (cut s from end)) where
  -- where the trimmed part stands in the text
  abbrev pub first : ℕ
  first = from + t.first

  abbrev pub past : ℕ
  past = from + t.past

  first_is : first ≡ from + (trimmed_part (cut s from end)).first
  first_is = rw t-is

  past_is : past ≡ from + (trimmed_part (cut s from end)).past
  past_is = rw t-is

  low : Started (length s) (length text₀) offset place
  low = (starts_is (length s) (length text₀) offset place).0 h

  pub part_inside : (from ≤ first) × (first ≤ past) × (past ≤ end)
  part_inside =
      let e = end_inside s from end x.inside end_is in
      let f = ends_fit white (cut s from end) in
      let l = length-take (end - from) (drop from s) in
      (omega (arith, first_is), omega (arith, first_is, past_is), omega (arith, past_is, e, f, l))

  pub part_narrow : (first ≤ past) × (past < span_base)
  part_narrow = let e = end_inside s from end x.inside end_is in (part_inside.1, omega (arith, part_inside, e, low.within))

  -- the piece by its places
  abbrev piece : List ℕ
  piece = cut s first past

  piece_is : trim_ends (cut s from end) ≡ piece
  piece_is =
      let e = end_inside s from end x.inside end_is in
      sym (rw (first_is, past_is) (trimmed_places s from end e.0 e.1))

  place_is : place_of from (cut s from end) ≡ part first past
  place_is = rw (first_is, past_is)

  piece_long : length piece ≡ past - first
  piece_long = let e = end_inside s from end x.inside end_is in cut_length s first past part_inside.1 (omega (arith, part_inside, e))

  pub piece_short : from + length (cut s first past) ≤ end
  piece_short = omega (arith, piece_long, part_inside)

  -- how many actions were read
  abbrev told : ℕ
  told = length x.actions

  here : actions_from told (pieces_from from (drop from s)) ≡ actions_from told (keep piece (part first past) (behind s end))
  here =
      ap (actions_from told)
      (pieces_at s from end x.inside end_is
      ∙ ap (λ (t : List ℕ). keep t (place_of from (cut s from end)) (behind s end)) piece_is
      ∙ ap (λ (y : Part). keep piece y (behind s end)) place_is)

  same_text : length text ≡ length text₀
  same_text = text_long x.laid

  -- a part that is no piece is passed over
  pub passed : past ≤ first → Going s offset place text₀ records₀ text records (behind s end) end used count at id chain
  passed h =
      let e = end_inside s from end x.inside end_is in
      record {
        actions = x.actions;
        so_far_lem = ap (so_far x.actions) (sym (here ∙ no_piece told piece (part first past) (behind s end) (omega (arith, piece_long, h)))) ∙ x.so_far_lem;
        inside = e.1;
        used_low = omega (arith, e, x.used_low);
        count_low = omega (arith, e, x.count_low);
        at_is = x.at_is;
        id_is = x.id_is;
        chain_is = x.chain_is;
        laid = x.laid;
      }

  module _ (some : first < past) where
    one : actions_from told (pieces_from from (drop from s)) ≡ single_then told (part first past) (single piece) (actions_from (suc told) (behind s end))
    one = here ∙ one_piece told piece (part first past) (behind s end) (omega (arith, piece_long, some))

    -- what the piece writes fits
    fits : (v : Single) → single piece ≡ v → Within (length piece) v
    fits v e = rw e at (single_within piece)

    module _ (plan : Plan) (j : Judged (cut s first past) (Ok plan) (single (cut s first past))) where
      abbrev action : Action
      action = plan_action piece plan

      pub room_for : (used + length (action_text (plan_action (cut s first past) plan)) ≤ length text) × (used + length (action_text (plan_action (cut s first past) plan)) < span_base)
      room_for =
          let w = fits (done action) (sym j.means) in
          let e = end_inside s from end x.inside end_is in
          (omega (arith, w, e, piece_short, x.used_low, same_text, low.room), omega (arith, w, e, piece_short, x.used_low, low))

      -- an action that is written
      module _ {text' records' : List ℕ} {used' : ℕ} (p : Put (plan_action (cut s first past) plan) (part_word (part first past)) used at text text' records records' used') where
        abbrev whole : Sourced Action
        whole = sourced action (part first past)

        abbrev all : List (Sourced Action)
        all = x.actions ++ (whole ∷ [])

        so_more : so_far all (actions_from (length all) (behind s end)) ≡ listed s
        so_more =
            rw (count_more x.actions whole, add-one told)
            (sym (so_far_more x.actions whole (actions_from (suc told) (behind s end)))
            ∙ ap (so_far x.actions) (ap (λ (v : Single). single_then told (part first past) v (actions_from (suc told) (behind s end))) j.means ∙ sym one)
            ∙ x.so_far_lem)

        used_at : used ≡ offset + length (texts x.actions)
        used_at = x.laid.used_is

        text_more : text' ≡ stored text₀ offset (texts all)
        text_more =
            let fit : offset + length (texts x.actions) + length (action_text action) ≤ length text₀ = omega (arith, room_for, same_text, used_at) in
            p.texts
            ∙ ap (λ (l : List ℕ). stored l used (action_text action)) x.laid.written
            ∙ ap (λ (n : ℕ). stored (stored text₀ offset (texts x.actions)) n (action_text action)) used_at
            ∙ stored_more text₀ offset (texts x.actions) (action_text action) fit
            ∙ ap (stored text₀ offset) (sym (texts_more x.actions whole))

        records_more : records' ≡ stored_each records₀ (place * action_words) (records_from offset all)
        records_more =
            let a : at ≡ place * action_words + length x.actions * action_words = omega (arith, x.at_is, x.laid.counted) in
            p.words
            ∙ ap (λ (l : List ℕ). stored l at (full_record used whole)) x.laid.recorded
            ∙ rw (a, used_at) (each_record records₀ (place * action_words) offset x.actions whole)

        seen_more : {seen : Bool} (code : ℕ) → seen ≡ has code x.actions → or seen (eqb plan.code code) ≡ has code all
        seen_more code e = rw e (sym (has_more code x.actions whole))

        pub acted : Going s offset place text₀ records₀ text' records' (behind s end) end used' (count + 1) (at + action_words) (or id (eqb plan.code id_code)) (or chain (eqb plan.code chain_code))
        acted = record {
          actions = all;
          so_far_lem = so_more;
          inside = (end_inside s from end x.inside end_is).1;
          used_low = omega (arith, fits (done action) (sym j.means), piece_short, x.used_low, p.end);
          count_low = omega (arith, part_inside, x.count_low, some);
          at_is = omega (arith, x.at_is);
          id_is = seen_more id_code x.id_is;
          chain_is = seen_more chain_code x.chain_is;
          laid = record {
            counted = omega (arith, count_more x.actions whole, x.laid.counted);
            used_is = omega (arith, p.end, used_at, texts_length x.actions whole);
            written = text_more;
            recorded = records_more;
          };
        }

    -- a refused piece: nothing was refused before it
    stopped : (f : Refusal) → single_then told (part first past) (single piece) (actions_from (suc told) (behind s end)) ≡ refuses f → listed s ≡ refuses f
    stopped f e = sym x.so_far_lem ∙ ap (so_far x.actions) (one ∙ e) ∙ so_far_refused x.actions f

    part_low : past ≤ length s
    part_low = let e = end_inside s from end x.inside end_is in omega (arith, part_inside, e)

    -- the piece as it is counted
    told_is : told ≡ count
    told_is = omega (arith, x.laid.counted)

    blank : {records' : List ℕ} → records' ≡ zeros (length records) → records' ≡ zeros (length records₀)
    blank e = e ∙ ap zeros (records_long x.laid)

    module _ (flaw : Flaw) (row : ℕ) (j : Judged (cut s first past) (Err (Bad flaw row)) (single (cut s first past))) where
      pub row_fits : length (row_at row).name ≤ length text
      row_fits =
          let e = end_inside s from end x.inside end_is in
          omega (arith, fits (bad flaw (row_at row).name) (sym j.means), e, piece_short, same_text, low.room)

      pub stopped_bad : {text' records' : List ℕ} {n : ℕ} → text' ≡ padded (length text) (row_at row).name → records' ≡ zeros (length records) → n ≡ length (row_at row).name
          → Stopped (bad_argument flaw count) s text₀ text' records₀ records' n (part_word (part first past))
      stopped_bad e z f = record {
        named = (row_at row).name;
        source = part first past;
        first = rw (← told_is) (stopped (bad_argument flaw told (row_at row).name (part first past)) (ap (λ (v : Single). single_then told (part first past) v (actions_from (suc told) (behind s end))) (sym j.means)));
        ordered = part_inside.1;
        inside = part_low;
        underlined = refl;
        counted = f;
        written = rw (← same_text) e;
        cleared = blank z;
      }

    module _ (n : ℕ) (j : Judged (cut s first past) (Err (Unknown n)) (single (cut s first past))) where
      pub name_fits_lem : length (take n (cut s first past)) ≤ length text
      name_fits_lem =
          let e = end_inside s from end x.inside end_is in
          omega (arith, length-take n piece, e, piece_short, same_text, low.room)

      pub stopped_unknown : {text' records' : List ℕ} → text' ≡ padded (length text) (lowered (take n (cut s first past))) → records' ≡ zeros (length records)
          → Stopped (unknown_action count) s text₀ text' records₀ records' (length (take n (cut s first past))) (part_word (part first past))
      stopped_unknown e z = record {
        named = lowered (take n (cut s first past));
        source = part first past;
        first = rw (← told_is) (stopped (unknown_action told (lowered (take n (cut s first past))) (part first past)) (ap (λ (v : Single). single_then told (part first past) v (actions_from (suc told) (behind s end))) (sym j.means)));
        ordered = part_inside.1;
        inside = part_low;
        underlined = refl;
        counted = sym (length-map (take n (cut s first past)) lower);
        written = rw (← same_text) e;
        cleared = blank z;
      }

-- ---- behind a part

module _ {s : List ℕ} {offset place : ℕ} {text₀ records₀ text records : List ℕ} {end used count at : ℕ} {id chain : Bool} (x : Going s offset place text₀ records₀ text records (behind s end) end used count at id chain) where
  -- the next part starts behind the comma
  pub onward : end < length s → Going s offset place text₀ records₀ text records (pieces_from (end + 1) (drop (end + 1) s)) (end + 1) used count at id chain
  unfolding behind
  onward h = record {
    actions = x.actions;
    so_far_lem = rw (lt-ltb end (length s) h) at x.so_far_lem;
    inside = omega arith;
    used_low = omega (arith, x.used_low);
    count_low = omega (arith, x.count_low);
    at_is = x.at_is;
    id_is = x.id_is;
    chain_is = x.chain_is;
    laid = x.laid;
  }

  -- or the text ends
  pub ended : length s ≤ end → ReadAll s offset place text₀ text records₀ records count used id chain
  unfolding behind actions_from
  ended h =
      let a = x.actions in
      record {
        actions = a;
        all = sym (rw (le-ltb end (length s) h) at x.so_far_lem) ∙ so_far_read a [] ∙ ap reads (append-nil a);
        laid = x.laid;
        id_is = x.id_is;
        chain_is = x.chain_is;
        fits = omega (arith, x.used_low, x.inside);
      }

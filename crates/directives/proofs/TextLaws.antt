-- The loop over a whole text: the directives read so far are in the buffers, and what is still to come follows from the cursor.
use Rattle.std.specs.Prelude.{Result, Ok, Err}
use mathlib.Core.Path.{◌≡◌, refl, sym, ap, ap₂, ◌∙◌, subst}
use mathlib.Core.Bool.{Bool, true, false}
use mathlib.Core.List.{List, [], ◌∷◌, ◌++◌, append_assoc, append-nil, map}
use Prim.Native.Nat.{ℕ, ◌+◌, ◌*◌, ◌≤◌, ◌<◌}
use native.Mathlib.Omega.{arith}
use native.Mathlib.Nat.{zero-add}
use lib.ListN.{length, take, drop, length-append}
use lib.Seq.{take_all}
use lib.Dec.{ltb}
use borrow.Author.Tests.{lt-ltb, le-ltb, ltb-true, ltb-false}
use Rattle.ascii.specs.Choice.{pick}
use Rattle.lent.specs.Sizes.{limit, variable_words, action_words, directive_words}
use Rattle.lent.specs.Buffers.{stored, stored_each, joined as joined_words}
use Rattle.lent.specs.Layout.{texts_of}
use Rattle.lent.specs.Table.{given}
use Rattle.lent.proofs.BufferLaws.{padded_none, each_more, each_append, each_length}
use Rattle.lent.proofs.LayoutLaws.{count_more}
use Rattle.lexer.specs.declared.Cursor.{Cursor}
use Rattle.lexer.specs.declared.stepping.Lexeme.{Lexeme}
use Rattle.lexer.specs.Cursors.{fresh}
use Rattle.lexer.specs.Tokens.{Token, Reading, reading}
use Rattle.lexer.specs.Layout as Lexed
use Rattle.lexer.specs.Layout.{text_of}
use Rattle.lexer.specs.Calls.{Reached as Arrived}
use Rattle.lexer.proofs.ReachLaws.{reached_start}
use Rattle.directives.specs.Groups.{Item, joined, stray, items}
use Rattle.directives.specs.Directives.{Body, Directive, Fault, untaken, stopped, id_missing, Shape, shape_of, body_by, sited, sited_body, sited_fault, last_past, placed as placed_at, directive_of, item_read, before, over, ending, end_of, directives}
use Rattle.directives.specs.Versions.{Version, chained_on, asked_for, lead_by, leading, directives_for}
use Rattle.directives.specs.Layout.{Reached, reached, body_text, directive_record, texts, listed_count, action_count, listed_counts, action_counts}
use Rattle.directives.specs.Steps.{Laid, role_of, onward, Token-is, None-is, arguments_as, ends_at, taken_from, Took, reached_by, entry_of, listed_each, acted_each, Faulted, Wrote, Bodied, held_arguments, held_list, shrunk_by, Ready, entry_record, chain_behind, lacks_by, chained_by, tally_of, counted_on, directive_each, each_from, Written, AllRead, FirstFault, Ends, at_line, ended_in}
use Rattle.directives.specs.Settling.{list_text, Heard, Stand, Settled, fault_moved}
use Rattle.directives.specs.declared.Fault.{Fault as Told}
use Rattle.directives.specs.declared.LineFault.TheVariants.{Stopped, Untaken, IdMissing}
use Rattle.directives.specs.declared.tokens.Role.TheVariants.{Opens, Argues, Closes}
use Rattle.directives.specs.declared.arguments.Arguments.{Arguments}
use Rattle.directives.specs.declared.arguments.Taken.{Taken}
use Rattle.directives.specs.declared.parts.Tally.{Tally}
use Rattle.directives.specs.declared.parts.Entry.{Entry}
use Rattle.directives.proofs.LaidLaws.{laid_none, laid_placed, laid_more, laid_first, front_of}
use Rattle.directives.proofs.VersionLaws.{lacks_id_for, asked_none, asked_passed, asked_lacks, lacks_entry, chain_entry, chained_more}
use Rattle.directives.proofs.LayoutLaws.{past_all, texts_more, listed_more, acted_more, past_is}
use Rattle.directives.proofs.EachLaws.{same_record, same_tally, same_stored, same_each, directive_each_more, each_from_more, directive_each_long, listed_each_long, acted_each_long}
use Rattle.directives.proofs.FitLaws.{BodyFits, body_fits, all, texts_long}
use Rattle.directives.proofs.ArgumentLaws.{argues, closes, opens}
use Rattle.directives.proofs.BodyLaws.{same_entry, same_told, same_fault, never}
use Rattle.directives.proofs.SitedLaws.{SameBody, sited_same}
use Rattle.directives.proofs.SettleLaws.{held_list_lem}
use Rattle.directives.proofs.SiteLaws.{stand_arguments, number_within}
use Rattle.directives.proofs.SettledLaws.{Where, body_where, fault_settled, body_settled}
use Rattle.directives.proofs.HeldLaws.{texts_grow, texts_few, held_are, same_body}

-- ---- directives read before

abbrev pub onto : List Directive → Result (List Directive) Fault → Result (List Directive) Fault
onto ds (Err f) = Err f
onto ds (Ok es) = Ok (ds ++ es)

onto_none : (o : Result (List Directive) Fault) → onto [] o ≡ o
onto_none (Err f) = refl
onto_none (Ok ds) = refl

onto_good : (ds : List Directive) (d : Directive) (o : Result (List Directive) Fault) → onto ds (before (Ok d) o) ≡ onto (ds ++ d ∷ []) o
onto_good ds d (Err f) = refl
onto_good ds d (Ok es) = ap (λ (l : List Directive). Ok l) (sym (append_assoc ds (d ∷ []) es))

-- the directives before the first fault, from a cursor on
abbrev leading_from : List ℕ → Cursor → List Directive
leading_from s here = over lead_by s [] (items false (onward s here).tokens)

-- ---- what the loop keeps

pub record Sofar (version : Version) (s text₀ records₀ variables₀ actions₀ text records variables actions : List ℕ) (here : Cursor) (t : Tally) : Type 0 where
  pub ds : List Directive
  pub whole : directives s ≡ onto ds (ending s (end_of (length s) (onward s here).stop) (items false (onward s here).tokens))
  -- those before it that are asked have their ids
  pub asked_on : directives_for version s ≡ asked_for version t.chained (leading_from s here) (directives s)
  pub tally_is : t ≡ tally_of ds
  pub written : Written ds text₀ text records₀ records variables₀ variables actions₀ actions
  pub arrived : Arrived s here
  pub text_low : t.text ≤ here.place
  pub directives_low : t.directives ≤ here.place
  pub variables_low : t.variables ≤ here.place
  pub actions_low : t.actions ≤ here.place

module _ (version : Version) (s text₀ records₀ variables₀ actions₀ : List ℕ) (within : length s ≤ limit) (text-room : length s ≤ length text₀) where
  abbrev Now : List ℕ → List ℕ → List ℕ → List ℕ → Cursor → Tally → Type 0
  Now = Sofar version s text₀ records₀ variables₀ actions₀

  pub begun : (here : Cursor) → here ≡ fresh → Now text₀ records₀ variables₀ actions₀ here (record { directives = 0; text = 0; variables = 0; actions = 0; chained = false })
  unfolding directives_for leading chained_by directives reading fresh texts_of listed_counts action_counts directive_each each_from stored_each
  begun here e = rw e (record {
    ds = [];
    whole = sym (onto_none _);
    asked_on = refl;
    tally_is = refl;
    written = record { laid = laid_none text₀ 0 (omega arith); recorded = refl; listed = refl; acted = refl };
    arrived = reached_start s;
    text_low = omega arith;
    directives_low = omega arith;
    variables_low = omega arith;
    actions_low = omega arith;
  })

  module _ {text records variables actions : List ℕ} {here : Cursor} {t : Tally} (g : Now text records variables actions here t) where
    text_is : t.text ≡ length (texts g.ds)
    text_is = ap (λ (u : Tally). u.text) g.tally_is

    long : length text ≡ length text₀
    long = g.written.laid.long

    -- the buffers are as long as they were
    pub lengths : (length text ≡ length text₀) × ((length records ≡ length records₀) × ((length variables ≡ length variables₀) × (length actions ≡ length actions₀)))
    lengths = (
      long,
      (
        ap length g.written.recorded ∙ each_length records₀ 0 (directive_each (reached 0 0 0) g.ds),
        (ap length g.written.listed ∙ each_length variables₀ 0 (each_from listed_each 0 g.ds), ap length g.written.acted ∙ each_length actions₀ 0 (each_from acted_each 0 g.ds)),
      ),
    )

    -- ---- the end of the text

    module _ {scratch scratch' : List ℕ} {stop : Cursor} (x : None-is s here scratch scratch' stop) where
      ends_in_lem : directives_for version s ≡ onto g.ds (end_of (length s) stop)
      unfolding over items
      ends_in_lem =
          g.asked_on
          ∙ ap (λ (r : Reading). asked_for version t.chained (over lead_by s [] (items false r.tokens)) (directives s)) x.none
          ∙ asked_none version t.chained (directives s)
          ∙ g.whole ∙ ap (λ (r : Reading). onto g.ds (ending s (end_of (length s) r.stop) (items false r.tokens))) x.none

      stopped_early : stop.place < length s → FirstFault version s text₀ text (Told.Line Stopped stop.line.0)
      unfolding end_of
      stopped_early h = record {
        fault = stopped stop.line.0;
        read = ends_in_lem ∙ rw (lt-ltb stop.place (length s) h);
        faulted = record { given = refl; left = sym (padded_none (length text₀)) };
      }

      all_read : length s ≤ stop.place → AllRead version s text₀ text records₀ records variables₀ variables actions₀ actions t
      unfolding end_of
      all_read h = record {
        ds = g.ds;
        read = ends_in_lem ∙ rw (le-ltb stop.place (length s) h) (ap (λ (l : List Directive). Ok l) (append-nil g.ds));
        tally_is = g.tally_is;
        written = g.written;
      }

      pub ended : Ends version s text₀ text records₀ records variables₀ variables actions₀ actions (ended_in stop (length s) t)
      ended = go (ltb stop.place (length s)) refl
        where
          go : (b : Bool) → ltb stop.place (length s) ≡ b → Ends version s text₀ text records₀ records variables₀ variables actions₀ actions (pick b (Err (at_line Stopped stop.line.0)) (Ok t))
          go true e = stopped_early (ltb-true stop.place (length s) e)
          go false e = all_read (ltb-false stop.place (length s) e)

    -- ---- a token

    module _ {scratch scratch₁ : List ℕ} {l : Lexeme} (x : Token-is s here 0 scratch scratch₁ l) where
      abbrev u : Token
      u = x.t

      abbrev ts : List Token
      ts = (onward s l.next).tokens

      kind_is : l.kind ≡ u.kind
      kind_is = ap (λ (m : Lexeme). m.kind) x.is

      line_is : l.line.0 ≡ u.line.0
      line_is = ap (λ (m : Lexeme). m.line.0) x.is

      goes_on : directives s ≡ onto g.ds (ending s (end_of (length s) (onward s l.next).stop) (items false (u ∷ ts)))
      goes_on = g.whole ∙ ap (λ (r : Reading). onto g.ds (ending s (end_of (length s) r.stop) (items false r.tokens))) x.more

      asks_on : directives_for version s ≡ asked_for version t.chained (over lead_by s [] (items false (u ∷ ts))) (directives s)
      asks_on = g.asked_on ∙ ap (λ (r : Reading). asked_for version t.chained (over lead_by s [] (items false r.tokens)) (directives s)) x.more

      -- a fault of the next item is the answer
      falls : (i : Item) (is : List Item) (f : Fault) → items false (u ∷ ts) ≡ i ∷ is → item_read s i ≡ Err f → directives_for version s ≡ Err f
      unfolding over
      falls i is f e q =
          asks_on
          ∙ ap (λ (j : List Item). asked_for version t.chained (over lead_by s [] j) (directives s)) e
          ∙ ap (λ (r : Result Directive Fault). asked_for version t.chained (lead_by r (over lead_by s [] is)) (directives s)) q
          ∙ asked_none version t.chained (directives s)
          ∙ goes_on
          ∙ ap (λ (j : List Item). onto g.ds (ending s (end_of (length s) (onward s l.next).stop) j)) e
          ∙ ap (λ (r : Result Directive Fault). onto g.ds (before r (ending s (end_of (length s) (onward s l.next).stop) is))) q

      -- a Newline or a Comment is passed
      pub passed : role_of l.kind ≡ Closes → Now text records variables actions l.next t
      passed e =
          let c = closes u ts (ap role_of (sym kind_is) ∙ e) in
          record {
            ds = g.ds;
            whole = goes_on ∙ ap (λ (i : List Item). onto g.ds (ending s (end_of (length s) (onward s l.next).stop) i)) (c.1 false);
            asked_on = asks_on ∙ ap (λ (i : List Item). asked_for version t.chained (over lead_by s [] i) (directives s)) (c.1 false);
            tally_is = g.tally_is;
            written = g.written;
            arrived = x.arrived;
            text_low = omega (arith, g.text_low, x.ahead);
            directives_low = omega (arith, g.directives_low, x.ahead);
            variables_low = omega (arith, g.variables_low, x.ahead);
            actions_low = omega (arith, g.actions_low, x.ahead);
          }

      -- no directive takes it
      pub not_taken : role_of l.kind ≡ Argues → FirstFault version s text₀ text (Told.Line Untaken l.line.0)
      unfolding over item_read
      not_taken e =
          let c = argues u ts (ap role_of (sym kind_is) ∙ e) in
          record {
            fault = untaken u.line.0;
            read = falls (stray u) _ (untaken u.line.0) c.2 refl;
            faulted = record { given = ap (λ (n : ℕ). given 14 (n ∷ [])) line_is; left = sym (padded_none (length text₀)) };
          }

      -- ---- a directive with its arguments

      module _ {scratch₂ : List ℕ} {r : Taken} (scratch-room : length s ≤ length scratch) (o : role_of l.kind ≡ Opens) (y : Took s l.next l.next.place l.len scratch₁ scratch₂ r) where
        abbrev args : List Token
        args = taken_from s l.next

        abbrev name : List ℕ
        name = u.text

        abbrev a : Arguments
        a = r.arguments

        len_is : l.len ≡ length name
        len_is = ap (λ (m : Lexeme). m.len) x.is

        first_is : l.first ≡ u.first
        first_is = ap (λ (m : Lexeme). m.first) x.is

        name_laid : Laid scratch scratch₁ 0 name
        name_laid = subst (λ (m : List ℕ). Laid scratch m 0 name) (sym x.text) (laid_placed scratch 0 name (omega (arith, x.short, x.arrived.inside)))

        both_laid : Laid scratch scratch₂ 0 (name ++ Lexed.texts args)
        both_laid = laid_more name_laid (subst (λ (i : ℕ). Laid scratch₁ scratch₂ i (Lexed.texts args)) (len_is ∙ sym (zero-add (length name))) y.laid)

        abbrev rest : List ℕ
        rest = drop (length (name ++ Lexed.texts args)) scratch₂

        scratch_is : scratch₂ ≡ name ++ (Lexed.texts args ++ rest)
        scratch_is = laid_first both_laid ∙ append_assoc name (Lexed.texts args) rest

        -- the name stands at the front of scratch
        name_is : take l.len scratch₂ ≡ name
        name_is = front_of name (Lexed.texts args ++ rest) scratch_is len_is

        arguments_are : a ≡ arguments_as (length name) u.past args
        arguments_are = y.arguments_are ∙ ap₂ (λ (i j : ℕ). arguments_as i j args) len_is (sym x.ends)

        one_is : a.one ≡ ends_at (length name) 1 args
        one_is = ap (λ (b : Arguments). b.one) arguments_are

        two_is : a.two ≡ ends_at (length name) 2 args
        two_is = ap (λ (b : Arguments). b.two) arguments_are

        three_is : a.three ≡ ends_at (length name) 3 args
        three_is = ap (λ (b : Arguments). b.three) arguments_are

        past_is' : a.past ≡ last_past u.past args
        past_is' = ap (λ (b : Arguments). b.past) arguments_are

        -- what is reached, with all that the directive has, is not past the next cursor
        low : t.text + a.three ≤ r.next.place
        low = omega (arith, three_is, texts_few 3 args, g.text_low, x.short, y.short)

        pub ready : Ready scratch₂ text l.len a t
        ready = record {
          first = omega (arith, len_is, one_is);
          second = omega (arith, one_is, two_is, texts_grow 1 args);
          third = omega (arith, two_is, three_is, texts_grow 2 args);
          pair = λ e.
              let c : length args ≡ 2 = sym (ap (λ (b : Arguments). b.count) arguments_are) ∙ e in
              three_is ∙ ap (λ (m : List Token). length name + length (Lexed.texts m)) (take_all 3 args (omega arith) ∙ sym (take_all 2 args (omega arith))) ∙ sym two_is;
          inside = omega (arith, three_is, texts_few 3 args, both_laid.long, both_laid.fits, length-append name (Lexed.texts args));
          short = omega (arith, low, y.arrived.inside);
          room = omega (arith, low, y.arrived.inside, long);
          variables_low = omega (arith, g.variables_low, g.arrived.inside);
          actions_low = omega (arith, g.actions_low, g.arrived.inside);
        }

        body_is : (shape : Shape) → shape ≡ shape_of (take l.len scratch₂)
            → body_by shape l.line.0 (take l.len scratch₂) (held_arguments scratch₂ l.len a) ≡ body_by (shape_of name) u.line.0 name (map text_of args)
        body_is shape e =
            same_body (e ∙ ap shape_of name_is) line_is name_is (ap₂ (held_arguments scratch₂) len_is arguments_are)
            ∙ held_are (shape_of name) u.line.0 name u.past args rest scratch₂ scratch_is

        abbrev behind : Result (List Directive) Fault
        behind = ending s (end_of (length s) (onward s r.next).stop) (items false (onward s r.next).tokens)

        abbrev made : Result Body Fault → Result Directive Fault
        made = placed_at u.line.0 u.first (last_past u.past args)

        abbrev read : Result Body Fault
        read = body_by (shape_of name) u.line.0 name (map text_of args)

        opened : items false (u ∷ ts) ≡ joined u args ∷ items true ts
        opened = (opens u ts (ap role_of (sym kind_is) ∙ o)).1 false

        comes_to : (b : Result Body Fault) → sited s (shape_of name) args read ≡ b → directives s ≡ onto g.ds (before (made b) behind)
        unfolding over item_read directive_of
        comes_to b e =
            goes_on
            ∙ ap (λ (i : List Item). onto g.ds (ending s (end_of (length s) (onward s l.next).stop) i)) opened
            ∙ ap₂ (λ (c : Cursor) (i : List Item). onto g.ds (before (directive_of s u args) (ending s (end_of (length s) c) i))) y.stop y.rest
            ∙ ap (λ (c : Result Body Fault). onto g.ds (before (made c) behind)) e

        -- it is asked for its id before those behind it
        asks_this : (b : Result Body Fault) → sited s (shape_of name) args read ≡ b → directives_for version s ≡ asked_for version t.chained (lead_by (made b) (leading_from s r.next)) (directives s)
        unfolding over item_read directive_of
        asks_this b e =
            asks_on
            ∙ ap (λ (i : List Item). asked_for version t.chained (over lead_by s [] i) (directives s)) opened
            ∙ ap (λ (i : List Item). asked_for version t.chained (lead_by (directive_of s u args) (over lead_by s [] i)) (directives s)) y.rest
            ∙ ap (λ (c : Result Body Fault). asked_for version t.chained (lead_by (made c) (leading_from s r.next)) (directives s)) e

        -- what was taken is where the definition has it
        taken_is : a ≡ arguments_as l.len l.next.place args
        taken_is = y.arguments_are

        pub heard : (scratch₃ : List ℕ) → length scratch₃ ≡ length scratch₂ → Heard s l.next l.len scratch₃
        heard scratch₃ e = record { short = within; arrived = x.arrived; room = omega (arith, e, both_laid.long, scratch-room); low = omega (arith, len_is, x.short) }

        pub stand : Stand s a
        stand = subst (Stand s) (sym taken_is) (stand_arguments s l.next x.arrived within l.len l.next.place)

        pub tally_low : (t.variables ≤ limit) × (t.actions ≤ limit)
        tally_low = (omega (arith, g.variables_low, g.arrived.inside), omega (arith, g.actions_low, g.arrived.inside))

        standing_there : Where (shape_of name) args read
        standing_there = body_where u.line.0 name (shape_of name) args (number_within s l.next x.arrived within)

        list_is : held_list scratch₂ l.len a ≡ list_text s l.next
        list_is = ap (held_list scratch₂ l.len) taken_is ∙ held_list_lem l.next.place args y.laid

        module _ (shape : Shape) (Shape-is : shape ≡ shape_of (take l.len scratch₂)) (text' variables' actions' : List ℕ) where
          abbrev Told_of : Result Entry Told → Type 0
          Told_of j = Bodied (body_by shape l.line.0 (take l.len scratch₂) (held_arguments scratch₂ l.len a)) (shrunk_by (held_list scratch₂ l.len a)) t text text' variables variables' actions actions' j

          abbrev Read_to : Result Body Fault → Result Entry Told → Type 0
          Read_to b j = Bodied b (shrunk_by (list_text s l.next)) t text text' variables variables' actions actions' j

          read_to : (j : Result Entry Told) → Told_of j → Read_to read j
          read_to j z = subst (λ (b : Result Body Fault). Read_to b j) (body_is shape Shape-is) (rw list_is at z)

          pub faulty : (f : Told) → Told_of (Err f) → FirstFault version s text₀ text' (fault_moved s l.next a l.len f)
          faulty f z = go read refl (read_to (Err f) z) standing_there
            where
              go : (b : Result Body Fault) → read ≡ b → Read_to b (Err f) → Where (shape_of name) args b → FirstFault version s text₀ text' (fault_moved s l.next a l.len f)
              go (Ok b) e w h = absurd (never (sym w.is))
              go (Err q) e w h = record {
                fault = sited_fault s (shape_of name) args q;
                read = asks_this (Err (sited_fault s (shape_of name) args q)) (ap (sited s (shape_of name) args) e) ∙ asked_none version t.chained (directives s)
                    ∙ comes_to (Err (sited_fault s (shape_of name) args q)) (ap (sited s (shape_of name) args) e);
                faulted = same_fault long (fault_settled s l.next x.arrived within l.len a taken_is (shape_of name) q h (subst (Faulted q text text') (same_told (sym w.is)) w.faulted));
              }

          module _ (e : Entry) (z : Told_of (Ok e)) (variables'' actions'' : List ℕ) (k : Settled s l.next a l.len t e variables' variables'' actions' actions'') where
            -- the body that was read, and then put into the input
            record Read_is : Type 0 where
              pub own : Body
              pub own_is : read ≡ Ok own
              pub whole : Body
              pub is : sited s (shape_of name) args read ≡ Ok whole
              pub same : SameBody whole own
              pub entry : e ≡ entry_of (reached_by t) (shrunk_by (list_text s l.next)) whole
              pub wrote : Wrote whole (shrunk_by (list_text s l.next)) t text text' variables variables'' actions actions'' (Ok e)

            read_is : Read_is
            read_is = go read refl (read_to (Ok e) z) standing_there
              where
                go : (b : Result Body Fault) → read ≡ b → Read_to b (Ok e) → Where (shape_of name) args b → Read_is
                go (Ok b) q w h =
                    let v = body_settled s l.next x.arrived within l.len a taken_is t e variables variables'' actions actions'' k (shape_of name) b h w (same_entry w.is) in
                    record {
                      own = b;
                      own_is = q;
                      whole = sited_body s args b;
                      is = ap (sited s (shape_of name) args) q;
                      same = sited_same s args b;
                      entry = same_entry v.is;
                      wrote = v;
                    }
                go (Err f) q w h = absurd (never w.is)

            abbrev d : Directive
            d = record { line = u.line.0; first = u.first; past = last_past u.past args; body = read_is.whole }

            fits : BodyFits (length name + all (map text_of args)) (Ok read_is.own)
            fits = subst (BodyFits (length name + all (map text_of args))) read_is.own_is (body_fits u.line.0 name (shape_of name) (map text_of args))

            -- its texts and records are no more than its own bytes
            fits_on : (length (body_text read_is.whole) + here.place ≤ r.next.place) × (listed_count read_is.whole + action_count read_is.whole + here.place ≤ r.next.place)
            fits_on =
                let m = read_is.same in
                (omega (arith, fits.0, ap length m.text, texts_long args, x.short, y.short), omega (arith, fits.1, m.listed, m.acted, texts_long args, x.short, y.short))

            entry_text : e.text ≡ t.text + length (body_text read_is.whole)
            entry_text = ap (λ (i : Entry). i.text) read_is.entry

            entry_variables : e.variables ≡ listed_count read_is.whole
            entry_variables = ap (λ (i : Entry). i.variables) read_is.entry

            entry_actions : e.actions ≡ action_count read_is.whole
            entry_actions = ap (λ (i : Entry). i.actions) read_is.entry

            -- whether it lacks its id, and whether the next rule continues one
            lacks_is : lacks_by version t e ≡ lacks_id_for version t.chained read_is.whole
            lacks_is = ap (lacks_by version t) read_is.entry ∙ lacks_entry t (shrunk_by (list_text s l.next)) read_is.whole version

            chain_is : chain_behind t e ≡ chained_on t.chained read_is.whole
            chain_is = ap (chain_behind t) read_is.entry ∙ chain_entry t (shrunk_by (list_text s l.next)) read_is.whole

            pub lacking : lacks_by version t e ≡ true → FirstFault version s text₀ text' (Told.Line IdMissing l.line.0)
            lacking h = record {
              fault = id_missing u.line.0;
              read = asks_this (Ok read_is.whole) read_is.is ∙ asked_lacks version t.chained d (leading_from s r.next) (directives s) (sym lacks_is ∙ h);
              faulted = record { given = ap (λ (n : ℕ). given 18 (n ∷ [])) line_is; left = sym (padded_none (length text₀)) };
            }

            -- what the record and the count ask
            pub put_fits : (l.first ≤ a.past) × ((a.past ≤ limit) × (t.directives ≤ limit))
            put_fits = (omega (arith, first_is, x.ordered, x.ends, y.past_low), (omega (arith, y.past_high, y.arrived.inside), omega (arith, g.directives_low, g.arrived.inside)))

            pub count_fits : (t.directives ≤ limit) × ((t.variables + e.variables ≤ limit) × (t.actions + e.actions ≤ limit))
            count_fits = (
              omega (arith, g.directives_low, g.arrived.inside),
              (omega (arith, entry_variables, fits_on.1, g.variables_low, y.arrived.inside), omega (arith, entry_actions, fits_on.1, g.actions_low, y.arrived.inside)),
            )

            reached_is : reached_by t ≡ past_all (reached 0 0 0) g.ds
            reached_is = ap reached_by g.tally_is ∙ sym (past_is 0 0 0 g.ds ∙ rw (zero-add (length (texts g.ds)), zero-add (listed_counts g.ds), zero-add (action_counts g.ds)))

            record_is : entry_record l.line.0 l.first a.past t e ≡ directive_record (past_all (reached 0 0 0) g.ds) d
            record_is =
                same_record t line_is first_is past_is' read_is.entry ∙ ap (λ (m : Reached). directive_record m d) reached_is

            text_front : t.text ≡ 0 + length (texts g.ds)
            text_front = text_is ∙ sym (zero-add (length (texts g.ds)))

            -- one directive more
            pub turned : lacks_by version t e ≡ false → (records' : List ℕ) → records' ≡ stored records (t.directives * directive_words) (entry_record l.line.0 l.first a.past t e) → (v : Tally) → v ≡ counted_on t e
                → Now text' records' variables'' actions'' r.next v
            turned had records' p v q =
                let w = read_is.wrote in
                let more = g.ds ++ d ∷ [] in
                let n-text : length (texts more) ≡ length (texts g.ds) + length (body_text read_is.whole) = ap length (texts_more g.ds d) ∙ length-append (texts g.ds) (body_text read_is.whole) in
                let c-directives : t.directives ≡ length g.ds = ap (λ (i : Tally). i.directives) g.tally_is in
                let c-variables : t.variables ≡ listed_counts g.ds = ap (λ (i : Tally). i.variables) g.tally_is in
                let c-actions : t.actions ≡ action_counts g.ds = ap (λ (i : Tally). i.actions) g.tally_is in
                let at-record : t.directives * directive_words ≡ 0 + length (joined_words (directive_each (reached 0 0 0) g.ds)) = omega (arith, c-directives, directive_each_long (reached 0 0 0) g.ds) in
                let at-variable : t.variables * variable_words ≡ 0 + length (joined_words (each_from listed_each 0 g.ds)) = omega (arith, c-variables, listed_each_long 0 g.ds) in
                let at-action : t.actions * action_words ≡ 0 + length (joined_words (each_from acted_each 0 g.ds)) = omega (arith, c-actions, acted_each_long 0 g.ds) in
                record {
                  ds = more;
                  whole = comes_to (Ok read_is.whole) read_is.is ∙ onto_good g.ds d behind;
                  asked_on = asks_this (Ok read_is.whole) read_is.is ∙ asked_passed version t.chained d (leading_from s r.next) (directives s) (sym lacks_is ∙ had)
                      ∙ ap (λ (c : Bool). asked_for version c (leading_from s r.next) (directives s)) (sym (ap (λ (i : Tally). i.chained) q ∙ chain_is));
                  tally_is = q ∙ same_tally
                      (omega (arith, c-directives, count_more g.ds d))
                      (omega (arith, entry_text, text_is, n-text))
                      (omega (arith, entry_variables, c-variables, listed_more g.ds d))
                      (omega (arith, entry_actions, c-actions, acted_more g.ds d))
                      (chain_is ∙ ap (λ (i : Tally). chained_on i.chained read_is.whole) g.tally_is ∙ sym (chained_more false g.ds d));
                  written = record {
                    laid = subst (Laid text₀ text' 0) (sym (texts_more g.ds d)) (laid_more g.written.laid (subst (λ (i : ℕ). Laid text text' i (body_text read_is.whole)) text_front w.laid));
                    recorded = p ∙ same_stored g.written.recorded at-record record_is ∙ sym (each_more records₀ 0 (directive_each (reached 0 0 0) g.ds) (directive_record (past_all (reached 0 0 0) g.ds) d))
                        ∙ ap (stored_each records₀ 0) (sym (directive_each_more (reached 0 0 0) g.ds d));
                    listed = w.listed ∙ same_each g.written.listed at-variable (ap (λ (i : ℕ). listed_each i read_is.whole) text_front)
                        ∙ sym (each_append variables₀ 0 (each_from listed_each 0 g.ds) (listed_each (0 + length (texts g.ds)) read_is.whole))
                        ∙ ap (stored_each variables₀ 0) (sym (each_from_more listed_each 0 g.ds d));
                    acted = w.acted ∙ same_each g.written.acted at-action (ap (λ (i : ℕ). acted_each i read_is.whole) text_front)
                        ∙ sym (each_append actions₀ 0 (each_from acted_each 0 g.ds) (acted_each (0 + length (texts g.ds)) read_is.whole))
                        ∙ ap (stored_each actions₀ 0) (sym (each_from_more acted_each 0 g.ds d));
                  };
                  arrived = y.arrived;
                  text_low = omega (arith, ap (λ (i : Tally). i.text) q, entry_text, fits_on.0, g.text_low);
                  directives_low = omega (arith, ap (λ (i : Tally). i.directives) q, g.directives_low, x.ahead, y.short);
                  variables_low = omega (arith, ap (λ (i : Tally). i.variables) q, entry_variables, fits_on.1, g.variables_low);
                  actions_low = omega (arith, ap (λ (i : Tally). i.actions) q, entry_actions, fits_on.1, g.actions_low);
                }

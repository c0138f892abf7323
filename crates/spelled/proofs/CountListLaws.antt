-- Bytes counted by a test: a list that is read has no more than its text, however that is normalised and cut, and its spelling no more than the list.
use mathlib.Core.Path.{◌≡◌, refl}
use mathlib.Core.Bool.{Bool, true, false}
use mathlib.Core.List.{List, [], ◌∷◌, ◌++◌, map}
use Prim.Native.Nat.{ℕ, ◌+◌, ◌≤◌}
use native.Mathlib.Omega.{arith}
use lib.Dec.{eqb}
use Rattle.ascii.specs.Choice.{pick}
use Rattle.ascii.specs.Classes.{white}
use Rattle.ascii.specs.Trim.{trim_ends}
use Rattle.lent.specs.Sources.{Sourced}
use Rattle.lent.specs.Table.{reads}
use Rattle.places.specs.Tables.{skipped}
use Rattle.records.specs.Actions.{Action, action_text}
use Rattle.actions.specs.Normal.{mode_after, text_given, text_held, normalised_from, normalised}
use Rattle.actions.specs.declared.normalising.Mode.{Mode}
use Rattle.actions.specs.declared.normalising.Mode.TheVariants.{Plain, Held as held, AfterCr as after_cr, Margin as margin}
use Rattle.actions.specs.Pieces.{Nest, outside, nest_after, cuts, cut_by, parts_from}
use Rattle.actions.specs.Lists.{actions_of}
use Rattle.listing.specs.Json.{trail, joined}
use Rattle.spelled.specs.Spelling.{spell, spell_all}
use Rattle.spelled.specs.Back.{things}
use Rattle.spelled.proofs.BareLaws.{keep_text, texts_of, piece_texts, Read, pieces_read}
use Rattle.spelled.proofs.CountLaws.{count, Tidy, nil_count, count_append, skip, ends_count, one, cons_count}
use Rattle.spelled.proofs.CountReadLaws.{read_count}
use Rattle.spelled.proofs.CountSpellLaws.{spell_count}

module _ (test : ℕ → Bool) (T : Tidy test) where
  -- ---- normalised

  slash : test 92 ≡ false
  slash = T.solid 92 (omega arith) (omega arith)

  plain_given : (t : Bool) (b : ℕ) → count test (pick t [] (b ∷ [])) ≤ one test b
  unfolding count
  plain_given true b = omega arith
  plain_given false b = omega arith

  margin_given : (t u : Bool) (b : ℕ) → count test (pick t [] (pick u [] (b ∷ []))) ≤ one test b
  unfolding count
  margin_given true u b = omega arith
  margin_given false u b = plain_given u b

  after_given : (t u v : Bool) (b : ℕ) → count test (pick t [] (pick u [] (pick v [] (b ∷ [])))) ≤ one test b
  unfolding count
  after_given true u v b = omega arith
  after_given false u v b = margin_given u v b

  held_given : (t u v : Bool) (b : ℕ) → count test (pick t [] (pick u [] (92 ∷ pick v [] (b ∷ [])))) ≤ one test b
  unfolding count
  held_given true u v b = omega arith
  held_given false true v b = omega arith
  held_given false false v b = omega (arith, skip test 92 (pick v [] (b ∷ [])) slash, plain_given v b)

  byte_given : (m : Mode) (b : ℕ) → count test (text_given m b) ≤ one test b
  unfolding text_given
  byte_given Plain b = plain_given (eqb b 92) b
  byte_given held b = held_given (eqb b 10) (eqb b 13) (eqb b 92) b
  byte_given after_cr b = after_given (eqb b 10) (skipped b) (eqb b 92) b
  byte_given margin b = margin_given (skipped b) (eqb b 92) b

  none_held : (m : Mode) → count test (text_held m) ≡ 0
  unfolding text_held count
  none_held Plain = refl
  none_held held = skip test 92 [] slash
  none_held after_cr = refl
  none_held margin = refl

  pub normal_given : (m : Mode) (b : ℕ) (r : List ℕ) → count test (normalised_from m (b ∷ r)) ≤ one test b + count test (normalised_from (mode_after m b) r)
  unfolding normalised_from
  normal_given m b r = omega (arith, byte_given m b, count_append test (text_given m b) (normalised_from (mode_after m b) r))

  pub normal_count : (m : Mode) (s : List ℕ) → count test (normalised_from m s) ≤ count test s
  unfolding normalised_from
  normal_count m [] = omega (arith, none_held m)
  normal_count m (b ∷ r) = omega (arith, normal_given m b r, cons_count test b r, normal_count (mode_after m b) r)

  -- ---- a list

  -- all that its parts have
  unfoldable pub total : List (List ℕ) → ℕ
  total [] = 0
  total (p ∷ ps) = count test p + total ps

  cut_total : (t : Bool) (b : ℕ) (ps : List (List ℕ)) → total (cut_by t b ps) ≤ one test b + total ps
  unfolding total
  cut_total true b ps = omega (arith, nil_count test)
  cut_total false b [] = omega arith
  cut_total false b (p ∷ ps) = omega (arith, cons_count test b p)

  parts_total : (n : Nest) (s : List ℕ) → total (parts_from n s) ≤ count test s
  unfolding parts_from total
  parts_total n [] = omega arith
  parts_total n (b ∷ r) = omega (arith, cut_total (cuts n b) b (parts_from (nest_after n b) r), parts_total (nest_after n b) r, cons_count test b r)

  keep_total : (p : List ℕ) (ps : List (List ℕ)) → total (keep_text p ps) ≤ count test p + total ps
  unfolding total
  keep_total [] ps = omega arith
  keep_total (b ∷ r) ps = omega arith

  pieces_total : (ps : List (List ℕ)) → total (texts_of ps) ≤ total ps
  unfolding texts_of total
  pieces_total [] = omega arith
  pieces_total (p ∷ ps) = omega (arith, keep_total (trim_ends p) (texts_of ps), ends_count test white p, pieces_total ps)

  -- all that its texts have
  unfoldable pub texts_total : List Action → ℕ
  texts_total [] = 0
  texts_total (x ∷ xs) = count test (action_text x) + texts_total xs

  read_total : (ps : List (List ℕ)) (xs : List Action) → Read ps xs → texts_total xs ≤ total ps
  unfolding total texts_total
  read_total [] [] h = omega arith
  read_total [] (x ∷ xs) h = absurd h
  read_total (p ∷ ps) [] h = absurd h
  read_total (p ∷ ps) (x ∷ xs) h = omega (arith, read_count test T p x h.0, read_total ps xs h.1)

  -- the texts of a list that is read have no more than the input
  pub list_read : (s : List ℕ) (ys : List (Sourced Action)) → actions_of s ≡ reads ys → texts_total (things ys) ≤ count test s
  unfolding normalised
  list_read s ys e =
      let n = normalised_from Plain s in
      omega (arith, read_total (piece_texts n) (things ys) (pieces_read s ys e), pieces_total (parts_from outside n), parts_total outside n, normal_count Plain s)

  -- and where commas do not count, a spelling has no more than the texts
  module _ (comma : test 44 ≡ false) where
    trail_count : (xs : List Action) → count test (trail (map spell xs)) ≤ texts_total xs
    unfolding trail texts_total
    trail_count [] = omega (arith, nil_count test)
    trail_count (x ∷ xs) =
        omega (arith, skip test 44 (spell x ++ trail (map spell xs)) comma, count_append test (spell x) (trail (map spell xs)), spell_count test T x, trail_count xs)

    pub list_spelled : (xs : List Action) → count test (spell_all xs) ≤ texts_total xs
    unfolding spell_all joined texts_total
    list_spelled [] = omega (arith, nil_count test)
    list_spelled (x ∷ xs) = omega (arith, count_append test (spell x) (trail (map spell xs)), spell_count test T x, trail_count xs)

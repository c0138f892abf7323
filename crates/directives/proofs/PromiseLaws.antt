-- What `directives` promises, in plain words: every number exactly when it is given, and what is given and left with it.
-- The idea: FateLaws tells the outcomes apart, and lent's RowLaws has one law for all numbers. What makes an item's fault: ItemLaws.
use mathlib.Core.Path.{◌≡◌, ◌∙◌, refl, ap}
use mathlib.Core.List.{List, [], ◌∷◌}
use mathlib.Core.Logic.{◌↔◌, inl, inr}
use Prim.Native.Nat.{ℕ, ◌≤◌, ◌<◌}
use lib.ListN.{length}
use Rattle.lent.specs.Sizes.{limit}
use Rattle.lent.specs.Table.{Given, flaw_number, too_long, not_ascii, short_buffer, no_room, named, no_action, no_argument, no_variable, unknown_operator, bad_cursor}
use Rattle.lent.specs.declared.refusing.Flaw.{Flaw}
use Rattle.lent.specs.Admission.{FirstAt, Opened, Shortened}
use Rattle.lent.proofs.RowLaws as Rows
use Rattle.lent.proofs.RowLaws.{row, OneOf, Numbered, Exactly, absent, differ, behind, gated, exactly}
use Rattle.lexer.specs.Tokens.{reading}
use Rattle.directives.specs.Directives.{Directive, Fault, wrong_count, untaken, stopped, id_missing, within}
use Rattle.directives.specs.Versions.{Version}
use Rattle.directives.specs.Table.{Outcome, shut, faulty, overfull, filled, given_by}
use Rattle.directives.specs.Promises.{Answer, answer_given, Lent, outcome_on, left_by, Directives}
use Rattle.directives.specs.Calls.{AllGood, Sound, FirstBad, Faulty, in_item, missing, at_end, items_of, Lined, Named, Unoperated, Missing, Early, Faultless}
use Rattle.directives.proofs.NumberLaws.{KnownFault, known_for}
use Rattle.directives.proofs.RoomLaws.{Crowded, Roomy}
use Rattle.directives.proofs.OrderLaws.{end_bad}
use Rattle.directives.proofs.AskedLaws.{text_faulty}
use Rattle.directives.proofs.ItemLaws.{of_item}
use Rattle.directives.proofs.FateLaws.{least, end_in, Read, Fate, long, high, short, fault, crowded, roomy, fate, back}

-- ---- the rows

module _ (v : Version) (s : List ℕ) (m : Lent) where
  abbrev rows : List Rows.Row
  rows =
      row 13 (Lined v s wrong_count)
      ∷ row 5 (Named v s no_action)
      ∷ row 7 (Named v s no_variable)
      ∷ row 8 (Unoperated v s)
      ∷ row 10 (Named v s (no_argument Flaw.Absent))
      ∷ row 11 (Named v s (no_argument Flaw.Unreadable))
      ∷ row 12 (Named v s (no_argument Flaw.TooLarge))
      ∷ row 14 (Lined v s untaken)
      ∷ row 15 (Early v s)
      ∷ row 4 (Faultless v s (Crowded m))
      ∷ row 0 (Faultless v s (Roomy m))
      ∷ row 18 (Missing v s)
      ∷ []

  abbrev all : List Rows.Row
  all = gated s (least m) (length s) rows

  abbrev number : Outcome → ℕ
  number o = (given_by o).number

  one : OneOf all
  unfolding OneOf behind
  one = go (outcome_on v s m) (fate v s m)
    where
      kinds : (f : Fault) → KnownFault f → Opened s (least m) (length s) → FirstBad v s (items_of s) f → OneOf all
      kinds (wrong_count l) k h x = inr (inr (inr (inl (h, (l, x)))))
      kinds (within l (named no_action p name y)) k h x = inr (inr (inr (inr (inl (h, (l, (p, (name, (y, x)))))))))
      kinds (within l (named no_variable p name y)) k h x = inr (inr (inr (inr (inr (inl (h, (l, (p, (name, (y, x))))))))))
      kinds (within l (unknown_operator p n y)) k h x = inr (inr (inr (inr (inr (inr (inl (h, (l, (p, (n, (y, x)))))))))))
      kinds (within l (named (no_argument Flaw.Absent) p name y)) k h x = inr (inr (inr (inr (inr (inr (inr (inl (h, (l, (p, (name, (y, x))))))))))))
      kinds (within l (named (no_argument Flaw.Unreadable) p name y)) k h x = inr (inr (inr (inr (inr (inr (inr (inr (inl (h, (l, (p, (name, (y, x)))))))))))))
      kinds (within l (named (no_argument Flaw.TooLarge) p name y)) k h x = inr (inr (inr (inr (inr (inr (inr (inr (inr (inl (h, (l, (p, (name, (y, x))))))))))))))
      kinds (untaken l) k h x = inr (inr (inr (inr (inr (inr (inr (inr (inr (inr (inl (h, (l, x))))))))))))
      kinds (stopped l) k h x = absurd (of_item s x.this (stopped l) x.fault)
      kinds (id_missing l) k h x = absurd (of_item s x.this (id_missing l) x.fault)
      kinds (within l too_long) k h x = absurd k
      kinds (within l (not_ascii p)) k h x = absurd k
      kinds (within l short_buffer) k h x = absurd k
      kinds (within l (no_room n)) k h x = absurd k
      kinds (within l bad_cursor) k h x = absurd k

      faults : (f : Fault) → Opened s (least m) (length s) → Faulty v s (end_in s) (items_of s) f → OneOf all
      faults f h (in_item x) = kinds f (known_for v s f ((text_faulty s v f).1 (in_item x))) h x
      faults f h (missing l a x e) = inr (inr (inr (inr (inr (inr (inr (inr (inr (inr (inr (inr (inr (inr (inl (h, (a, (l, x)))))))))))))))))
      faults f h (at_end ds a o e) = inr (inr (inr (inr (inr (inr (inr (inr (inr (inr (inr (inl (h, (ds, (a, (o, ((end_bad (length s) (reading s).stop f).0 e).0)))))))))))))))

      go : (o : Outcome) → Fate v s m o → OneOf all
      go (shut _) (long h) = inl h
      go (shut _) (high p h k) = inr (inl (h, (p, k)))
      go (shut _) (short h) = inr (inr (inl h))
      go (faulty _) (fault f h k) = faults f h k
      go (overfull _ _ _) (crowded ds r e) = inr (inr (inr (inr (inr (inr (inr (inr (inr (inr (inr (inr (inl (r.opened, (ds, (r.each, (r.sound, (r.whole, e)))))))))))))))))
      go (filled _) (roomy ds r e) = inr (inr (inr (inr (inr (inr (inr (inr (inr (inr (inr (inr (inr (inl (r.opened, (ds, (r.each, (r.sound, (r.whole, e))))))))))))))))))

  numbered : Numbered (number (outcome_on v s m)) all
  unfolding Numbered behind
  numbered = (
    λ h. is (shut too_long) (long h),
    (
      λ h. is (shut (not_ascii h.1.0)) (high h.1.0 h.0 h.1.1),
      (
        λ h. is (shut short_buffer) (short h),
        (
          λ h. at (wrong_count h.1.0) h.0 h.1.1,
          (
            λ h. at (within h.1.0 (named no_action h.1.1.0 h.1.1.1.0 h.1.1.1.1.0)) h.0 h.1.1.1.1.1,
            (
              λ h. at (within h.1.0 (named no_variable h.1.1.0 h.1.1.1.0 h.1.1.1.1.0)) h.0 h.1.1.1.1.1,
              (
                λ h. at (within h.1.0 (unknown_operator h.1.1.0 h.1.1.1.0 h.1.1.1.1.0)) h.0 h.1.1.1.1.1,
                (
                  at_flaw Flaw.Absent,
                  (
                    at_flaw Flaw.Unreadable,
                    (
                      at_flaw Flaw.TooLarge,
                      (
                        λ h. at (untaken h.1.0) h.0 h.1.1,
                        (
                          λ h. is (faulty (stopped (reading s).stop.line.0)) (fault _ h.0 (at_end h.1.0 h.1.1.0 h.1.1.1.0 ((end_bad (length s) (reading s).stop _).1 (h.1.1.1.1, refl)))),
                          (
                            λ h. is (overfull _ _ _) (crowded h.1.0 (read h.0 h.1.0 h.1.1.0 h.1.1.1.0 h.1.1.1.1.0) h.1.1.1.1.1),
                            (
                              λ h. is (filled _) (roomy h.1.0 (read h.0 h.1.0 h.1.1.0 h.1.1.1.0 h.1.1.1.1.0) h.1.1.1.1.1),
                              (λ h. is (faulty (id_missing h.1.1.0)) (fault _ h.0 (missing h.1.1.0 h.1.0 h.1.1.1 refl)), tt),
                            ),
                          ),
                        ),
                      ),
                    ),
                  ),
                ),
              ),
            ),
          ),
        ),
      ),
    ),
  )
    where
      is : (o : Outcome) → Fate v s m o → number (outcome_on v s m) ≡ number o
      is o x = ap number (back v s m o x)

      at : (f : Fault) → Opened s (least m) (length s) → FirstBad v s (items_of s) f → number (outcome_on v s m) ≡ number (faulty f)
      at f h k = is (faulty f) (fault f h (in_item k))

      at_flaw : (flaw : Flaw) → Opened s (least m) (length s) × Named v s (no_argument flaw) → number (outcome_on v s m) ≡ flaw_number flaw
      at_flaw flaw h = at (within h.1.0 (named (no_argument flaw) h.1.1.0 h.1.1.1.0 h.1.1.1.1.0)) h.0 h.1.1.1.1.1

      read : Opened s (least m) (length s) → (ds : List Directive) → AllGood s (items_of s) ds → Sound v ds → length s ≤ (reading s).stop.place → Read v s m ds
      read h ds a o w = record { opened = h; each = a; sound = o; whole = w }

  exact : Exactly (number (outcome_on v s m)) all
  unfolding differ absent behind
  exact = exactly (number (outcome_on v s m)) all refl one numbered

-- ---- the whole call

-- Every number exactly when it is given, for a call on the memory m.
pub record Numbers (v : Version) (s : List ℕ) (m : Lent) (r : Answer) : Type 0 where
  -- 1: the input is over the limit.
  pub number_1 : ((answer_given r).number ≡ 1) ↔ (limit < length s)
  -- 2: it is not, and a byte is 128 or more.
  pub number_2 : ((answer_given r).number ≡ 2) ↔ ((length s ≤ limit) × ((p : ℕ) × FirstAt s p))
  -- 3: none is, and the text or the scratch buffer is shorter than the input.
  pub number_3 : ((answer_given r).number ≡ 3) ↔ Shortened s (least m) (length s)
  -- 13: none of these, and the first bad item in text order is a directive with a wrong count of arguments.
  pub number_13 : ((answer_given r).number ≡ 13) ↔ (Opened s (least m) (length s) × Lined v s wrong_count)
  -- 5, 7: the first bad item has a name that is no action's, a name that is no variable's.
  pub number_5 : ((answer_given r).number ≡ 5) ↔ (Opened s (least m) (length s) × Named v s no_action)
  pub number_7 : ((answer_given r).number ≡ 7) ↔ (Opened s (least m) (length s) × Named v s no_variable)
  -- 8: it has a name that is no operator's.
  pub number_8 : ((answer_given r).number ≡ 8) ↔ (Opened s (least m) (length s) × Unoperated v s)
  -- 10, 11, 12: it has an action whose argument is not there, says no number, says one past its width.
  pub number_10 : ((answer_given r).number ≡ 10) ↔ (Opened s (least m) (length s) × Named v s (no_argument Flaw.Absent))
  pub number_11 : ((answer_given r).number ≡ 11) ↔ (Opened s (least m) (length s) × Named v s (no_argument Flaw.Unreadable))
  pub number_12 : ((answer_given r).number ≡ 12) ↔ (Opened s (least m) (length s) × Named v s (no_argument Flaw.TooLarge))
  -- 14: the first bad item is a Word or QuotedString that no directive takes.
  pub number_14 : ((answer_given r).number ≡ 14) ↔ (Opened s (least m) (length s) × Lined v s untaken)
  -- 18: it is a rule that continues none and has no id, for 2.7; it is not bad itself.
  pub number_18 : ((answer_given r).number ≡ 18) ↔ (Opened s (least m) (length s) × Missing v s)
  -- 15: every item is good, and reading stopped before the end.
  pub number_15 : ((answer_given r).number ≡ 15) ↔ (Opened s (least m) (length s) × Early v s)
  -- 4: every item is good, reading came to the end, and one of the record buffers lacks room.
  pub number_4 : ((answer_given r).number ≡ 4) ↔ (Opened s (least m) (length s) × Faultless v s (Crowded m))
  -- 0: none does.
  pub number_0 : ((answer_given r).number ≡ 0) ↔ (Opened s (least m) (length s) × Faultless v s (Roomy m))

module _ {v : Version} {s : List ℕ} {m m' : Lent} {r : Answer} (x : Directives v s m m' r) where
  number_is : (answer_given r).number ≡ number v s m (outcome_on v s m)
  number_is = ap (λ (g : Given). g.number) x.answer

  pub directives_numbers : Numbers v s m r
  unfolding Exactly behind
  directives_numbers = named (exact v s m)
    where
      named : Exactly (number v s m (outcome_on v s m)) (all v s m) → Numbers v s m r
      named (a, (b, (c, (d, (e, (f, (g, (h, (i, (j, (k, (l, (o, (p, (q, z))))))))))))))) =
          record {
            number_1 = rw number_is a;
            number_2 = rw number_is b;
            number_3 = rw number_is c;
            number_13 = rw number_is d;
            number_5 = rw number_is e;
            number_7 = rw number_is f;
            number_8 = rw number_is g;
            number_10 = rw number_is h;
            number_11 = rw number_is i;
            number_12 = rw number_is j;
            number_14 = rw number_is k;
            number_15 = rw number_is l;
            number_4 = rw number_is o;
            number_0 = rw number_is p;
            number_18 = rw number_is q;
          }

  -- What is given and left with each: by the row that holds, number and values and every byte of lent memory.
  pub told_by : (o : Outcome) → Fate v s m o → (answer_given r ≡ given_by o) × (m' ≡ left_by o m)
  told_by o f =
      let e = back v s m o f in
      (x.answer ∙ ap given_by e, rw (x.text, x.scratch, x.directives, x.variables, x.actions, e))

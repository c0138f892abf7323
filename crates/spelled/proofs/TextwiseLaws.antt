-- The condition over texts is the condition over spellings; and the walks, part by part.
use mathlib.Core.Path.{◌≡◌, ◌∙◌, refl, sym, ap}
use mathlib.Core.Bool.{Bool, true, false}
use mathlib.Core.List.{List, [], ◌∷◌, ◌++◌}
use Prim.Native.Nat.{ℕ}
use lib.Dec.{eqb}
use Rattle.ascii.specs.Choice.{pick, and, or}
use Rattle.ascii.specs.Text.{bytes}
use Rattle.ascii.specs.Classes.{white}
use Rattle.ascii.specs.Fold.{same}
use Rattle.ascii.proofs.SameLaws.{same_true}
use Rattle.ascii.proofs.TestLaws.{apart, both}
use Rattle.records.specs.Codes.{transformation_code}
use Rattle.records.specs.Actions.{Action, slot_text}
use Rattle.single_action.specs.Setvar.{SetValue, text, int, increment, decrement, delete, macro, Setvar}
use Rattle.single_action.specs.declared.naming.Rule.{Rule}
use Rattle.single_action.specs.declared.naming.Rule.TheVariants.{Plain as plain, Wanted as wanted, Unmarked as unmarked, UpTo as up_to, Severity as severity, Equation as equation, Expiry as expiry, Setting as setting}
use Rattle.single_action.specs.Table.{rows, Found, found, missing}
use Rattle.single_action.specs.Actions.{worded, text_of}
use Rattle.actions.specs.Pieces.{Nest, outside, nest_after, cuts}
use Rattle.listing.specs.Json.{decimal}
use Rattle.spelled.specs.Spelling.{coded, has, between, marked, signed, setvar_in, bang, tail, setvar_text, argument, spell}
use Rattle.spelled.specs.Condition.{isnt, same_action, canon, texts_fit, fits_by, fits, last_by, steady, uncut, nest_past, stays}
use Rattle.spelled.specs.Texts.{steady_texts, rule_in, end_of, walk_of, stays_by_texts}
use Rattle.spelled.proofs.SteadyLaws.{Quiet}
use Rattle.spelled.proofs.SameLaws.{action_true}
use Rattle.spelled.proofs.PassLaws.{past_spelling, steady_passes, spelling_uncut}
use Rattle.spelled.proofs.CalmLaws.{calm_smooth, decimal_smooth, signed_smooth}
use Rattle.spelled.proofs.EndLaws.{spelling_last}

-- ---- part by part

pub uncut_append : (n : Nest) (a b : List ℕ) → uncut n (a ++ b) ≡ and (uncut n a) (uncut (nest_past n a) b)
unfolding uncut nest_past
uncut_append n [] b = refl
uncut_append n (x ∷ a) b = go (isnt (cuts n x)) (uncut_append (nest_after n x) a b)
  where
    go : (t : Bool) → uncut (nest_after n x) (a ++ b) ≡ and (uncut (nest_after n x) a) (uncut (nest_past (nest_after n x) a) b)
        → and t (uncut (nest_after n x) (a ++ b)) ≡ and (and t (uncut (nest_after n x) a)) (uncut (nest_past (nest_after n x) a) b)
    go true e = e
    go false e = refl

pub nest_append : (n : Nest) (a b : List ℕ) → nest_past n (a ++ b) ≡ nest_past (nest_past n a) b
unfolding nest_past
nest_append n [] b = refl
nest_append n (x ∷ a) b = nest_append (nest_after n x) a b

pub steady_append : (a b : List ℕ) → Quiet b → steady (a ++ b) ≡ and (steady a) (steady b)
unfolding steady
steady_append [] b q = refl
steady_append (x ∷ []) b q = rw (q.0, q.1) (go (eqb x 92))
  where
    go : (t : Bool) → and (isnt (and t false)) (steady b) ≡ and (and (isnt (and t false)) true) (steady b)
    go true = refl
    go false = refl
steady_append (x ∷ y ∷ r) b q = go (isnt (and (eqb x 92) (or (eqb y 10) (eqb y 13)))) (steady_append (y ∷ r) b q)
  where
    go : (t : Bool) → steady (y ∷ (r ++ b)) ≡ and (steady (y ∷ r)) (steady b) → and t (steady (y ∷ (r ++ b))) ≡ and (and t (steady (y ∷ r))) (steady b)
    go true e = e
    go false e = refl

-- ---- backslashes

and_true : (b : Bool) → b ≡ and b true
and_true true = refl
and_true false = refl

decimal_steady : (n : ℕ) → steady (decimal n) ≡ true
decimal_steady n = (calm_smooth (decimal n) (decimal_smooth n)).steadily

signed_steady : (n : ℕ) → steady (signed n) ≡ true
signed_steady n = (calm_smooth (signed n) (signed_smooth n)).steadily

marked_steady : (t : List ℕ) → steady (marked t) ≡ steady t
unfolding marked steady
marked_steady t = go (has 39 t)
  where
    go : (h : Bool) → steady (between (pick h 34 39) t) ≡ steady t
    go true = steady_append t (34 ∷ []) (refl, refl) ∙ sym (and_true (steady t))
    go false = steady_append t (39 ∷ []) (refl, refl) ∙ sym (and_true (steady t))

bang_steady : (v : SetValue) (s : List ℕ) → steady (bang v ++ s) ≡ steady s
unfolding steady
bang_steady (text t) s = refl
bang_steady (int n) s = refl
bang_steady (increment n) s = refl
bang_steady (decrement n) s = refl
bang_steady delete s = refl
bang_steady (macro t) s = refl

tail_quiet : (v : SetValue) → Quiet (tail v)
tail_quiet (text t) = go (same t (bytes "1"))
  where
    go : (b : Bool) → Quiet (pick b [] (61 ∷ t))
    go true = (refl, refl)
    go false = (refl, refl)
tail_quiet (int n) = (refl, refl)
tail_quiet (increment n) = (refl, refl)
tail_quiet (decrement n) = (refl, refl)
tail_quiet delete = (refl, refl)
tail_quiet (macro t) = (refl, refl)

one_steady : steady (bytes "1") ≡ true
unfolding bytes steady
one_steady = refl

tail_steady : (v : SetValue) → steady (tail v) ≡ steady (slot_text (text_of v))
unfolding steady
tail_steady (text t) = go (same t (bytes "1")) refl
  where
    go : (b : Bool) → same t (bytes "1") ≡ b → steady (pick b [] (61 ∷ t)) ≡ steady t
    go true e = sym (ap steady (same_true t (bytes "1") e) ∙ one_steady)
    go false e = refl
tail_steady (int n) = decimal_steady n
tail_steady (increment n) = signed_steady n
tail_steady (decrement n) = signed_steady n
tail_steady delete = refl
tail_steady (macro t) = refl

setvar_steady : (v : Setvar) → steady (setvar_text v) ≡ and (steady v.name.collection) (and (steady v.name.key) (steady (slot_text (text_of v.value))))
unfolding setvar_text steady
setvar_steady v =
    let c = v.name.collection in
    let k = v.name.key in
    let w = tail v.value in
    bang_steady v.value (c ++ (46 ∷ (k ++ w)))
    ∙ steady_append c (46 ∷ (k ++ w)) (refl, refl)
    ∙ ap (and (steady c)) (steady_append k w (tail_quiet v.value) ∙ ap (and (steady k)) (tail_steady v.value))

argument_steady : (u : Rule) (x : Action) → steady (slot_text (argument u x)) ≡ steady_texts (canon u x)
unfolding argument canon steady_texts steady
argument_steady plain x = refl
argument_steady wanted x = and_true (steady (slot_text x.a))
argument_steady unmarked x = marked_steady (slot_text x.a) ∙ and_true (steady (slot_text x.a))
argument_steady (up_to most) x = decimal_steady x.number
argument_steady severity x = decimal_steady x.number
argument_steady equation x =
    steady_append (slot_text x.a) (61 ∷ slot_text x.b) (refl, refl) ∙ ap (and (steady (slot_text x.a))) (and_true (steady (slot_text x.b)))
argument_steady expiry x =
    steady_append (slot_text x.a) (61 ∷ decimal x.number) (refl, refl) ∙ ap (and (steady (slot_text x.a))) (decimal_steady x.number)
argument_steady setting x = marked_steady (setvar_text (setvar_in x)) ∙ setvar_steady (setvar_in x)

worded_steady : (t : List ℕ) → steady t ≡ steady_texts (worded transformation_code t)
unfolding steady steady_texts
worded_steady t = and_true (steady t)

words_steady : (x : Action) → fits x ≡ true → steady (walk_of x) ≡ steady_texts x
unfolding fits
words_steady x h = go (eqb x.code transformation_code) (coded rows x.code) h
  where
    go : (t : Bool) (f : Found) → pick t (same_action x (worded transformation_code (slot_text x.a))) (fits_by f x) ≡ true
        → steady (pick t (slot_text x.a) (slot_text (argument (rule_in f) x))) ≡ steady_texts x
    go true f h =
        worded_steady (slot_text x.a) ∙ ap steady_texts (sym (action_true x (worded transformation_code (slot_text x.a)) h))
    go false (found r) h =
        let p = both (same_action x (canon r.rule x)) (texts_fit r.rule x) h in
        argument_steady r.rule x ∙ ap steady_texts (sym (action_true x (canon r.rule x) p.0))
    go false missing h = absurd (apart h refl)

spelling_steady : (x : Action) → fits x ≡ true → steady (spell x) ≡ steady_texts x
spelling_steady x h = past_spelling steady steady_passes x ∙ words_steady x h

-- ---- one record

pub stays_by_texts_lem : (x : Action) → stays x ≡ stays_by_texts x
unfolding stays stays_by_texts
stays_by_texts_lem x = go (fits x) refl
  where
    go : (t : Bool) → fits x ≡ t
        → and t (and (steady (spell x)) (and (isnt (last_by white false (spell x))) (uncut outside (spell x))))
        ≡ and t (and (steady_texts x) (and (isnt (last_by white false (end_of x))) (uncut outside (walk_of x))))
    go true e = rw (spelling_steady x e, spelling_last x, spelling_uncut x)
    go false e = refl

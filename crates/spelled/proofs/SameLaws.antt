-- Two records that pass the test are equal.
use mathlib.Core.Path.{◌≡◌, refl, ap}
use mathlib.Core.Bool.{true}
use Prim.Native.Nat.{ℕ}
use lib.Dec.{eqb}
use borrow.Author.Tests.{eqb-true, eq-eqb}
use Rattle.ascii.specs.Choice.{and}
use Rattle.ascii.proofs.SameLaws.{same_true, same_refl}
use Rattle.ascii.proofs.TestLaws.{apart, both, joins}
use Rattle.records.specs.Actions.{Slot, absent, present, Action}
use Rattle.spelled.specs.Condition.{same_slot, same_action}

slot_true : (s t : Slot) → same_slot s t ≡ true → s ≡ t
unfolding same_slot
slot_true absent absent e = refl
slot_true absent (present t) e = absurd (apart e refl)
slot_true (present s) absent e = absurd (apart e refl)
slot_true (present s) (present t) e = ap present (same_true s t e)

slot_refl : (s : Slot) → same_slot s s ≡ true
unfolding same_slot
slot_refl absent = refl
slot_refl (present s) = same_refl s

abbrev pub six : ℕ → ℕ → Slot → Slot → ℕ → Slot → Action
six k n a b v c = record { code = k; number = n; a = a; b = b; kind = v; c = c }

pub six_equal : {k l n m : ℕ} {a d b e : Slot} {v w : ℕ} {c f : Slot} → k ≡ l → n ≡ m → a ≡ d → b ≡ e → v ≡ w → c ≡ f → six k n a b v c ≡ six l m d e w f
six_equal p q r s t u = rw (p, q, r, s, t, u)

pub action_true : (x y : Action) → same_action x y ≡ true → x ≡ y
unfolding same_action
action_true x y h =
    let p = both (eqb x.code y.code) (and (eqb x.number y.number) (and (same_slot x.a y.a) (and (same_slot x.b y.b) (and (eqb x.kind y.kind) (same_slot x.c y.c))))) h in
    let q = both (eqb x.number y.number) (and (same_slot x.a y.a) (and (same_slot x.b y.b) (and (eqb x.kind y.kind) (same_slot x.c y.c)))) p.1 in
    let r = both (same_slot x.a y.a) (and (same_slot x.b y.b) (and (eqb x.kind y.kind) (same_slot x.c y.c))) q.1 in
    let s = both (same_slot x.b y.b) (and (eqb x.kind y.kind) (same_slot x.c y.c)) r.1 in
    let t = both (eqb x.kind y.kind) (same_slot x.c y.c) s.1 in
    six_equal (eqb-true x.code y.code p.0) (eqb-true x.number y.number q.0) (slot_true x.a y.a r.0)
    (slot_true x.b y.b s.0) (eqb-true x.kind y.kind t.0) (slot_true x.c y.c t.1)

action_refl : (x : Action) → same_action x x ≡ true
unfolding same_action
action_refl x =
    joins (eq-eqb x.code x.code refl) (joins (eq-eqb x.number x.number refl) (joins (slot_refl x.a) (joins (slot_refl x.b) (joins (eq-eqb x.kind x.kind refl) (slot_refl x.c)))))

pub true_action : (x y : Action) → x ≡ y → same_action x y ≡ true
true_action x y e = rw (← e) (action_refl x)

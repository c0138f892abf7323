-- The theorem of M-106, by the laws of `index`.
use mathlib.Core.Path.{refl}
use mathlib.Core.List.{List}
use mathlib.Core.Logic.{◌↔◌}
use Prim.Native.Nat.{ℕ}
use Rattle.index.specs.Histories.{Event, standing}
use Rattle.index.specs.Runs.{Ran, done, added, took}
use Rattle.index.proofs.HistoryLaws.{index_afresh}
use Rattle.index.proofs.IndexLaws.{unsound_exactly, index_apart}
use Rattle.index.proofs.PromiseLaws.{add_broken_exactly, add_refused, remove_broken_exactly, remove_refused}
use Rattle.index.proofs.StandingLaws.{as_long, stand_fit, built_afresh, grown, all_stand, same_words, stand_apart, told_added, told_removed, full_exactly, taken_exactly, none_stand}
use Rattle.demands.specs.StandingRules.{Called, OnAny, StandingRules}
use Rattle.demands.specs.StandingRules as Spec

either_way : {A B C : Type 0} → A ↔ B → B ↔ C → A ↔ C
either_way f g = (λ a. g.0 (f.0 a), λ c. f.1 (g.1 c))

on_any : OnAny
on_any = record {
  add_broken = λ s actions new line r a. either_way (add_broken_exactly a) (unsound_exactly s);
  remove_broken = λ s new selector r a. either_way (remove_broken_exactly a) (unsound_exactly s);
  add_unchanged = λ s actions new line r a. add_refused a;
  remove_unchanged = λ s new selector r a. remove_refused a;
  apart = index_apart;
}

called_ran : {s t : List ℕ} {h : List Event} → Called s h t → Ran s h t
called_ran Spec.done = done
called_ran (Spec.added i o p q) = rw p.told.number (added (record { answer = refl; index = p.left }) (called_ran q))
called_ran (Spec.took i o p q) = rw p.told.number (took (record { answer = refl; index = p.left }) (called_ran q))

pub standing_rules : StandingRules
standing_rules = record {
  after = λ n h s some q. record {
    index = index_afresh some q;
    long = as_long some q;
    fits = stand_fit some q;
    built = built_afresh some q;
    grown = grown some q;
    stand = all_stand (standing h);
    only = λ t k w e. same_words some q w e;
    apart = stand_apart some q;
    adding = λ actions new line r a. told_added some q a;
    removing = λ selector new r a. told_removed some q a;
    full = λ actions new line id r a e m. full_exactly some q a id e m;
    taken = λ actions new line id l r a e. taken_exactly some q a id e l;
  };
  no_words = λ h s q. none_stand refl q;
  on_any = on_any;
  of_library = λ s t h. called_ran;
}

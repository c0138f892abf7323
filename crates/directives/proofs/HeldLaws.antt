-- A directive's arguments as they stand in scratch, one behind another behind the name: read from there they are what its tokens are.
use mathlib.Core.Path.{◌≡◌, refl, sym, ap, ap₂, ◌∙◌}
use mathlib.Core.List.{List, [], ◌∷◌, ◌++◌, append_assoc, map}
use Prim.Native.Nat.{ℕ, zero, suc, ◌+◌, ◌≤◌}
use native.Mathlib.Omega.{arith}
use native.Mathlib.Nat.{add-zero}
use lib.ListN.{length, take, length-append}
use Rattle.lent.specs.Layout.{texts_of}
use Rattle.lexer.specs.Tokens.{Token}
use Rattle.lexer.specs.Layout as Lexed
use Rattle.lexer.specs.Layout.{text_of}
use Rattle.lexer.specs.Steps.{part}
use Rattle.directives.specs.Directives.{Shape, of_rule, of_action, of_marker, of_defaults, of_other, body_by}
use Rattle.directives.specs.Steps.{arguments_as, ends_at, held_arguments}
use Rattle.directives.proofs.LaidLaws.{part_of}

-- ---- the arguments as they stand in scratch

-- the texts of the first few arguments
pub texts_grow : (k : ℕ) (args : List Token) → length (Lexed.texts (take k args)) ≤ length (Lexed.texts (take (suc k) args))
unfolding texts_of
texts_grow zero [] = omega arith
texts_grow zero (t ∷ args) = omega arith
texts_grow (suc k) [] = omega arith
texts_grow (suc k) (t ∷ args) = omega (arith, texts_grow k args, length-append t.text (Lexed.texts (take k args)), length-append t.text (Lexed.texts (take (suc k) args)))

pub texts_few : (k : ℕ) (args : List Token) → length (Lexed.texts (take k args)) ≤ length (Lexed.texts args)
unfolding texts_of
texts_few zero [] = omega arith
texts_few zero (t ∷ args) = omega arith
texts_few (suc k) [] = omega arith
texts_few (suc k) (t ∷ args) = omega (arith, texts_few k args, length-append t.text (Lexed.texts (take k args)), length-append t.text (Lexed.texts args))

-- four arguments and more are as good as any
many : (k : Shape) (l : ℕ) (name a b c d a' b' c' d' : List ℕ) (es es' : List (List ℕ)) → body_by k l name (a ∷ b ∷ c ∷ d ∷ es) ≡ body_by k l name (a' ∷ b' ∷ c' ∷ d' ∷ es')
many of_rule l name a b c d a' b' c' d' es es' = refl
many of_action l name a b c d a' b' c' d' es es' = refl
many of_marker l name a b c d a' b' c' d' es es' = refl
many of_defaults l name a b c d a' b' c' d' es es' = refl
many of_other l name a b c d a' b' c' d' es es' = refl

three_same : {A : Type 0} (f : List ℕ → List ℕ → List ℕ → A) {a a' b b' c c' : List ℕ} → a ≡ a' → b ≡ b' → c ≡ c' → f a b c ≡ f a' b' c'
three_same f x y z = rw (x, y, z)

module _ (k : Shape) (l : ℕ) (name : List ℕ) (past : ℕ) where
  abbrev n : ℕ
  n = length name

  -- a text behind the name and others
  nth : (pre x after : List ℕ) {scratch : List ℕ} (i j : ℕ) → scratch ≡ name ++ (pre ++ (x ++ after)) → i ≡ n + length pre → j ≡ i + length x → part scratch i j ≡ x
  nth pre x after i j e f g = part_of (name ++ pre) x after (e ∙ sym (append_assoc name pre (x ++ after))) (f ∙ sym (length-append name pre)) g

  -- a directive's arguments are read from scratch as they are
  pub held_are : (args : List Token) (rest scratch : List ℕ) → scratch ≡ name ++ (Lexed.texts args ++ rest) → body_by k l name (held_arguments scratch n (arguments_as n past args)) ≡ body_by k l name (map text_of args)
  unfolding texts_of
  held_are [] rest scratch e = refl
  held_are (t ∷ []) rest scratch e =
      ap (λ (v : List ℕ). body_by k l name (v ∷ [])) (nth [] t.text ([] ++ rest) n (ends_at n 1 (t ∷ [])) (e ∙ ap (λ (m : List ℕ). name ++ m) (append_assoc t.text [] rest)) (sym (add-zero n)) (omega (arith, length-append t.text [])))
  held_are (t ∷ u ∷ []) rest scratch e =
      let one = e ∙ ap (λ (m : List ℕ). name ++ m) (append_assoc t.text (u.text ++ []) rest) in
      let two = one ∙ ap (λ (m : List ℕ). name ++ (t.text ++ m)) (append_assoc u.text [] rest) in
      let a = length-append t.text [] in
      let b = length-append t.text (u.text ++ []) in
      let c = length-append u.text [] in
      let p : part scratch n (ends_at n 1 (t ∷ u ∷ [])) ≡ t.text = nth [] t.text ((u.text ++ []) ++ rest) n (ends_at n 1 (t ∷ u ∷ [])) one (sym (add-zero n)) (omega (arith, a)) in
      let q : part scratch (ends_at n 1 (t ∷ u ∷ [])) (ends_at n 2 (t ∷ u ∷ [])) ≡ u.text = nth t.text u.text ([] ++ rest) (ends_at n 1 (t ∷ u ∷ [])) (ends_at n 2 (t ∷ u ∷ [])) two (omega (arith, a)) (omega (arith, a, b, c)) in
      ap₂ (λ (v o : List ℕ). body_by k l name (v ∷ o ∷ [])) p q
  held_are (t ∷ u ∷ w ∷ []) rest scratch e =
      let one = e ∙ ap (λ (m : List ℕ). name ++ m) (append_assoc t.text (u.text ++ (w.text ++ [])) rest) in
      let two = one ∙ ap (λ (m : List ℕ). name ++ (t.text ++ m)) (append_assoc u.text (w.text ++ []) rest) in
      let three = two ∙ ap (λ (m : List ℕ). name ++ (t.text ++ (u.text ++ m))) (append_assoc w.text [] rest) ∙ ap (λ (m : List ℕ). name ++ m) (sym (append_assoc t.text u.text (w.text ++ ([] ++ rest)))) in
      let a = length-append t.text [] in
      let b = length-append t.text (u.text ++ []) in
      let c = length-append u.text [] in
      let d = length-append t.text (u.text ++ (w.text ++ [])) in
      let f = length-append u.text (w.text ++ []) in
      let g = length-append w.text [] in
      let h = length-append t.text u.text in
      let ends = t ∷ u ∷ w ∷ [] in
      let p : part scratch n (ends_at n 1 ends) ≡ t.text = nth [] t.text ((u.text ++ (w.text ++ [])) ++ rest) n (ends_at n 1 ends) one (sym (add-zero n)) (omega (arith, a)) in
      let q : part scratch (ends_at n 1 ends) (ends_at n 2 ends) ≡ u.text = nth t.text u.text ((w.text ++ []) ++ rest) (ends_at n 1 ends) (ends_at n 2 ends) two (omega (arith, a)) (omega (arith, a, b, c)) in
      let r : part scratch (ends_at n 2 ends) (ends_at n 3 ends) ≡ w.text = nth (t.text ++ u.text) w.text ([] ++ rest) (ends_at n 2 ends) (ends_at n 3 ends) three (omega (arith, b, c, h)) (omega (arith, b, c, d, f, g)) in
      three_same (λ (v o x : List ℕ). body_by k l name (v ∷ o ∷ x ∷ [])) p q r
  held_are (t ∷ u ∷ w ∷ x ∷ args) rest scratch e = many k l name _ _ _ _ _ _ _ _ _ _

pub same_body : {k k' : Shape} {l l' : ℕ} {name name' : List ℕ} {h h' : List (List ℕ)} → k ≡ k' → l ≡ l' → name ≡ name' → h ≡ h' → body_by k l name h ≡ body_by k' l' name' h'
same_body a b c d = rw (a, b, c, d)

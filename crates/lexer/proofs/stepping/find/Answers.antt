-- By the class of the byte that the token starts with; each arm is one law of FindLaws.
use mathlib.Core.Path.{◌≡◌, ◌∙◌, sym, refl, ap}
use mathlib.Core.List.{[], ◌∷◌}
use Prim.Native.Nat.{◌+◌}
use Rattle.lexer.specs.Bytes.{Class, Return, Gap, Upright, Slash}
use Rattle.lexer.specs.Rules.{comment, word, quoted, plain}
use Rattle.lexer.specs.Tokens.{token_by, nothing, word_kind}
use lib.ListN.{get_or, drop}
use Rattle.lexer.proofs.ClassLaws.{arm, hash_dark, quote_dark}
use Rattle.lexer.proofs.LoopLaws.{wrote_front}
use Rattle.lexer.proofs.FindLaws.{next_none, found_none, found_newline, found_comment, found_quoted, found_word, found_stop, passes, word_passes}
use Rattle.lexer.proofs.stepping.find.Goals as goal

pub returns-then-s-first : goal.returns-then-s-first
returns-then-s-first c =
    let s = c.args.s.now in
    let d = c.skip_blanks-d.result in
    let k = c.skip_blanks-d.ensures in
    let x = c.requires.within in
    found_none s c.args.c d x k _ _ (next_none s c.args.c d x k c.if-s-first.true) refl

pub cursor_past-next-requires : goal.cursor_past-next-requires
cursor_past-next-requires c =
    let s = c.args.s.now in
    let d = c.skip_blanks-d.result in
    let k = c.skip_blanks-d.ensures in
    let h = c.if-s-first.false in
    let x = c.requires.within in
    let e = c.class_of.ensures in
    record { within = k.within; passes = passes comment 0 s d _ h (hash_dark _ (sym e ∙ c.in-Hash.is)) c.skip_comment-run.ensures }

pub cursor_past-next-requires-in-Quote : goal.cursor_past-next-requires-in-Quote
cursor_past-next-requires-in-Quote c =
    let s = c.args.s.now in
    let d = c.skip_blanks-d.result in
    let k = c.skip_blanks-d.ensures in
    let h = c.if-s-first.false in
    let x = c.requires.within in
    let e = c.class_of.ensures in
    record { within = k.within; passes = passes (quoted _) plain s d _ h (quote_dark _ (sym e ∙ c.in-Quote.is)) c.read_quoted-run.ensures.ran }

pub cursor_past-next-requires-in-Other : goal.cursor_past-next-requires-in-Other
cursor_past-next-requires-in-Other c =
    let s = c.args.s.now in
    let d = c.skip_blanks-d.result in
    let k = c.skip_blanks-d.ensures in
    let h = c.if-s-first.false in
    let x = c.requires.within in
    let e = c.class_of.ensures in
    record { within = k.within; passes = word_passes s d _ h (sym e ∙ c.in-Other.is) c.read_word-run.ensures.ran }

pub returns-in-Feed : goal.returns-in-Feed
returns-in-Feed c =
    let s = c.args.s.now in
    let d = c.skip_blanks-d.result in
    let k = c.skip_blanks-d.ensures in
    let h = c.if-s-first.false in
    let x = c.requires.within in
    let e = c.class_of.ensures in
    rw c.made.ensures (found_newline s c.args.c d x k h _ e _ _ c.in-Feed.is refl)

pub returns-in-Hash : goal.returns-in-Hash
returns-in-Hash c =
    let s = c.args.s.now in
    let d = c.skip_blanks-d.result in
    let k = c.skip_blanks-d.ensures in
    let h = c.if-s-first.false in
    let x = c.requires.within in
    let e = c.class_of.ensures in
    rw c.made-in-Hash.ensures (found_comment s c.args.c d x k h _ e _ _ c.cursor_past-next.ensures _ _ c.in-Hash.is c.skip_comment-run.ensures refl)

pub returns-in-Quote : goal.returns-in-Quote
returns-in-Quote c =
    let s = c.args.s.now in
    let d = c.skip_blanks-d.result in
    let k = c.skip_blanks-d.ensures in
    let h = c.if-s-first.false in
    let x = c.requires.within in
    let e = c.class_of.ensures in
    let q = c.read_quoted-run.ensures in
    rw c.made-in-Quote.ensures (found_quoted s c.args.c d x k h _ e _ _ c.cursor_past-next-in-Quote.ensures _ _ c.in-Quote.is q.ran q.wrote)

pub returns-in-Other : goal.returns-in-Other
returns-in-Other c =
    let s = c.args.s.now in
    let d = c.skip_blanks-d.result in
    let k = c.skip_blanks-d.ensures in
    let h = c.if-s-first.false in
    let x = c.requires.within in
    let e = c.class_of.ensures in
    let q = c.read_word-run.ensures in
    rw c.made-in-Other.ensures (found_word s c.args.c d x k h _ e _ _ c.cursor_past-next-in-Other.ensures _ _ _ c.in-Other.is q.ran q.wrote
    (c.word_kind-kind.ensures ∙ ap (word_kind _) (wrote_front word 0 s d.place q.wrote)))

pub returns-in_default : goal.returns-in_default
unfolding token_by
returns-in_default c =
    let s = c.args.s.now in
    let d = c.skip_blanks-d.result in
    let k = c.skip_blanks-d.ensures in
    let h = c.if-s-first.false in
    let x = c.requires.within in
    let e = c.class_of.ensures in
    let b = get_or s d.place 0 in
    found_stop s c.args.c d x k h _ e _ _
    (arm (λ (q : Class). token_by q b (drop (d.place + 1) s) d ≡ nothing d) (Return ∷ Gap ∷ Upright ∷ Slash ∷ []) c.class_of.result c.in_default.in_default-own.keys5 (refl, (refl, (refl, (refl, tt))))) refl

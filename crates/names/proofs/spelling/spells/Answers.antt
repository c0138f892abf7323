-- Each way out is a law: a word that differs, or all words the same.
use native.Mathlib.Omega.{arith}
use Rattle.names.proofs.SpellLaws.{other_last, other_first, other_second, other_third, one_word, two_words, three_words, four_words}
use Rattle.names.proofs.spelling.spells.Goals as goal

pub returns-then-up_to_eight-name : goal.returns-then-up_to_eight-name
returns-then-up_to_eight-name c =
    let s = c.args in
    other_last s.table.now s.at s.n s.name c.up_to_eight.ensures c.if-up_to_eight-name.true

pub returns-then-n-le8 : goal.returns-then-n-le8
returns-then-n-le8 c =
    let s = c.args in
    one_word s.table.now s.at s.n s.name (omega arith) c.up_to_eight.ensures c.if-up_to_eight-name.false (omega arith) c.if-n-le8.true

pub returns-then-eight-name : goal.returns-then-eight-name
returns-then-eight-name c =
    let s = c.args in
    other_first s.table.now s.at s.n s.name (omega arith) c.eight.ensures c.if-eight-name.true

pub returns-then-n-le16 : goal.returns-then-n-le16
returns-then-n-le16 c =
    let s = c.args in
    two_words s.table.now s.at s.n s.name (omega arith) c.up_to_eight.ensures c.if-up_to_eight-name.false
    (omega arith) c.eight.ensures c.if-eight-name.false c.if-n-le16.true

pub returns-then-eight-name-2 : goal.returns-then-eight-name-2
returns-then-eight-name-2 c =
    let s = c.args in
    other_second s.table.now s.at s.n s.name (omega arith) c.eight-2.ensures c.if-eight-name-2.true

pub returns-then-n-le24 : goal.returns-then-n-le24
returns-then-n-le24 c =
    let s = c.args in
    three_words s.table.now s.at s.n s.name (omega arith) c.up_to_eight.ensures c.if-up_to_eight-name.false
    (omega arith) c.eight.ensures c.if-eight-name.false
    (omega arith) c.eight-2.ensures c.if-eight-name-2.false c.if-n-le24.true

pub returns-then-eight-name-3 : goal.returns-then-eight-name-3
returns-then-eight-name-3 c =
    let s = c.args in
    other_third s.table.now s.at s.n s.name (omega arith) c.eight-3.ensures c.if-eight-name-3.true

pub returns : goal.returns
returns c =
    let s = c.args in
    four_words s.table.now s.at s.n s.name (omega arith) c.up_to_eight.ensures c.if-up_to_eight-name.false
    (omega arith) c.eight.ensures c.if-eight-name.false
    (omega arith) c.eight-2.ensures c.if-eight-name-2.false
    (omega arith) (omega arith) c.eight-3.ensures c.if-eight-name-3.false

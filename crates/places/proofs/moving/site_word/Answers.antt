-- As the last word of a record of one word.
use lib.ListN.{drop}
use Rattle.places.specs.Sites.{site_word}
use Rattle.places.proofs.MoveLaws.{word_done, only_word}
use Rattle.places.proofs.moving.site_word.Goals as goal

pub returns : goal.returns
returns c =
    let a = c.args in
    word_done c.if-s-gt-LIMIT.false c.if-s-k.false
    (only_word (site_word a.rule a.k (drop a.k a.s.now)) a.word c.words_sited.ensures)

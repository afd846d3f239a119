-- What the parts store is the words of the whole.
use borrow.Author.Rules.{rules}
use Rattle.link_words.proofs.Stored.{words-stored}
use Rattle.link_words.proofs.store.Goals as goal

pub returns : goal.returns
returns c =
    let a = c.args in
    rw (c.store_control.ensures, c.store_acked.ensures)
    (words-stored (record { acked = a.acked; control = a.control }) (record { times = search rules; delays = search rules }) a.words.now (search rules))

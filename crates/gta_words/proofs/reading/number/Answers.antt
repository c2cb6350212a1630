-- The text that the matches hold is read as the number that it writes.
use Rattle.std.proofs.Common.{◌∙◌, rules, sym, ap}
use Rattle.std.specs.Prelude.{unwrap_or}
use Rattle.std.specs.Str.Parse.{ParsesUnsigned, ExplainsUnsignedError, HasUnsignedDigitsIfOk}
use Rattle.gta_words.proofs.Numbers.{held_read}
use Rattle.gta_words.proofs.reading.number.Goals as goal

pub unwrap-requires : goal.unwrap-requires
unwrap-requires c =
    let read = held_read (λ text r. ParsesUnsigned 32 10 text r × ExplainsUnsignedError 10 text r ×
    HasUnsignedDigitsIfOk text r)
    c.args.matches.now c.args.name.now c.get_one.result (λ text r given. given.0) c.get_one.ensures.value
    c.requires.held in
    rw read (search rules)

pub returns : goal.returns
returns c =
    let read = held_read (λ text r. ParsesUnsigned 32 10 text r × ExplainsUnsignedError 10 text r ×
    HasUnsignedDigitsIfOk text r)
    c.args.matches.now c.args.name.now c.get_one.result (λ text r given. given.0) c.get_one.ensures.value
    c.requires.held in
    ap (λ o. unwrap_or o 0) (sym c.unwrap.ensures ∙ read)

-- `line::reading::decimal_word` meets its contract.
use Rattle.line.proofs.WalkedLaws.{decimal_ended}
use Rattle.line.proofs.reading.decimal_word.Goals as goal

pub returns : goal.returns
returns c =
    decimal_ended c.args.body.now c.args.at c.args.bound c.read_decimal-found.result c.read_decimal-found.ensures c.ranged.result c.ranged.ensures c.ended.result c.ended.ensures

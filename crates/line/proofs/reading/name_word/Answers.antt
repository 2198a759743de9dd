-- `line::reading::name_word` meets its contract.
use Rattle.line.proofs.RestLaws.{name_ended}
use Rattle.line.proofs.reading.name_word.Goals as goal

pub returns : goal.returns
returns c = name_ended c.args.body.now c.args.at c.read_name-found.result c.read_name-found.ensures c.ended.result c.ended.ensures

-- `line::reading::address_word` meets its contract.
use Rattle.line.proofs.WalkedLaws.{address_ended}
use Rattle.line.proofs.reading.address_word.Goals as goal

pub returns : goal.returns
returns c = address_ended c.args.body.now c.args.at c.read_address-found.result c.read_address-found.ensures c.ok_or.result c.ok_or.ensures.value c.ended.result c.ended.ensures

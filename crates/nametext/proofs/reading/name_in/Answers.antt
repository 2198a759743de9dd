-- `nametext::reading::name_in` meets its contract: the value's parts are what `put_labels` writes and answers.
use Rattle.nametext.proofs.NamedLaws.{name_held_lem}
use Rattle.nametext.specs.Reading.{name_read}
use Rattle.octets.specs.Octets.{blank}
use mathlib.Core.Path.{refl}
use Rattle.nametext.proofs.reading.name_in.Goals as goal

pub put_labels-n-requires : goal.put_labels-n-requires
unfolding blank
put_labels-n-requires c = (c.requires, refl)

pub returns : goal.returns
returns c =
    let p = c.put_labels-n in
    name_held_lem (name_read c.args.text.now) _ p.result p.ensures

-- `nametext::inside::hex_digit` meets its contract.
use mathlib.Core.Path.{ap, ◌∙◌}
use Rattle.std.specs.Char.{to_ascii_uppercase}
use Rattle.nametext.proofs.CharacterLaws.{hex_upper}
use Rattle.nametext.proofs.inside.hex_digit.Goals as goal

pub returns : goal.returns
returns c = c.to_ascii_uppercase.ensures.value ∙ ap to_ascii_uppercase c.digit.ensures ∙ hex_upper c.args.v c.requires

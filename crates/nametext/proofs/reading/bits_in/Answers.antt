-- `nametext::reading::bits_in` meets its contract: a bit label is no other part.
use mathlib.Core.Path.{◌≡◌, ◌∙◌}
use Rattle.nametext.specs.Reading.{count_in}
use Rattle.nametext.proofs.reading.bits_in.Goals.{in_default-via-in-Ok+in_default, in_default-via-in_default}
use Rattle.nametext.proofs.reading.bits_in.Goals as goal

pub unreachable-requires : goal.unreachable-requires
unreachable-requires c =
    let p = c.read_part.ensures ∙ c.requires in
    elim c.in_default.branch [
      | in_default-via-in-Ok+in_default w ↦ let e = w.in_default.is in let f = w.in_default.ensures in cc
      | in_default-via-in_default w ↦ let e = w.in_default.is in cc
    ]

pub returns : goal.returns
returns c = let p = c.read_part.ensures ∙ c.requires in let n : c.in-Ok-Bits.n ≡ count_in c.args.p.now = cc in n

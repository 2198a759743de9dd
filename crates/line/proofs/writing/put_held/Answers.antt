-- `line::writing::put_held` meets its contract: the octets that are held are a well-formed name of at most 255 octets.
use mathlib.Core.Path.{◌≡◌, ap, ◌∙◌}
use lib.ListN.{length, length-take}
use native.Mathlib.Omega.{arith}
use borrow.Author.Rules.{rules}
use Rattle.labels.specs.Scan.{well_formed}
use Rattle.text.proofs.WrittenLaws.{put_as}
use Rattle.nametext.specs.Writing.{text_of}
use Rattle.line.specs.FieldText.{held_octets}
use Rattle.line.proofs.WritingLaws.{octets_formed_lem}
use Rattle.line.proofs.writing.put_held.Goals as goal

pub put_name-requires : goal.put_name-requires
unfolding held_octets
put_name-requires c =
    let n = c.args.name in
    let long : length n.octets ≡ 255 = search rules in
    (ap well_formed c.as_slice.ensures ∙ octets_formed_lem n c.requires.0, omega (arith, ap length c.as_slice.ensures, length-take n.length n.octets, long, c.requires.1))

pub returns : goal.returns
unfolding held_octets
returns c = put_as _ _ _ _ _ _ (ap text_of c.as_slice.ensures) c.put_name.ensures

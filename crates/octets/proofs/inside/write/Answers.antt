-- `octets::inside::write` meets its contract.
use Rattle.std.proofs.Common.{◌≡◌, ◌+◌, ◌-◌, ◌∙◌, sym, arith}
use Rattle.std.proofs.lemmas.Slice.{put_mid-paste}
use Rattle.octets.specs.Numbers.{octets_of}
use Rattle.octets.proofs.NumberLaws.{octets_high_first, octets_length}
use Rattle.octets.proofs.inside.write.Goals as goal

pub returns : goal.returns
returns c =
    let a = c.args in
    let e : c.copy_from_slice.new.self ≡ octets_of 8 a.v = c.copy_from_slice.ensures.after ∙ (c.to_be_bytes.ensures ∙ octets_high_first 8 a.v) in
    put_mid-paste a.at (a.at + 8 - a.at) a.out.now c.copy_from_slice.new.self (octets_of 8 a.v) 8 e (omega arith) (sym (octets_length 8 a.v))

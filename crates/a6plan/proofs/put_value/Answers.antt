-- `a6plan::put_value` meets its contract: the parts of the value, put into zeros.
use Rattle.std.proofs.Common.{◌≡◌, ℕ, ◌-◌, List, ◌∷◌, ◌++◌, length, take, drop, ap, ◌∙◌, arith}
use lib.ListN.{length-set}
use Rattle.octets.specs.Octets.{blank}
use Rattle.octets.proofs.OctetLaws.{length_blank}
use Rattle.a6.specs.Ending.{value_from}
use Rattle.a6plan.specs.Exports.{value_size, value_octets}
use Rattle.a6plan.proofs.ExportLaws.{addressed, named, address_blank, address_long, name_blank, value_long, value_put}
use Rattle.a6plan.proofs.put_value.Goals as goal

-- the address that is put is as long as its place
module _ (v address : List ℕ) (h : v ≡ blank value_size) (a : length address ≡ length (take 16 (drop 1 v))) where
  sixteen : length address ≡ 16
  sixteen = a ∙ ap length (address_blank v h) ∙ length_blank 16

  whole : length (addressed v address) ≡ value_size
  whole = address_long v address h sixteen

  room : take (length (addressed v address) - 18) (drop 18 (addressed v address)) ≡ blank 255
  room = name_blank v address h sixteen

  all : (octets : List ℕ) → length octets ≡ length (take (length (addressed v address) - 18) (drop 18 (addressed v address))) → length (named (addressed v address) octets) ≡ value_size
  all octets n = value_long v address h sixteen octets (n ∙ ap length room ∙ length_blank 255)

pub slice_bounds-put_address-end : goal.slice_bounds-put_address-end
slice_bounds-put_address-end c = omega (arith, ap length c.requires ∙ length_blank value_size)

pub put_address-requires : goal.put_address-requires
put_address-requires c = let f = c.args.found in (f.low, f.whole, address_blank _ c.requires)

pub slice_bounds-put_name-count : goal.slice_bounds-put_name-count
slice_bounds-put_name-count c = omega (arith, whole c.args.value.now c.put_address.new.out c.requires c.put_address.auto.out)

pub slice_bounds-put_name-start : goal.slice_bounds-put_name-start
slice_bounds-put_name-start c = omega (arith, whole c.args.value.now c.put_address.new.out c.requires c.put_address.auto.out)

pub put_name-length-requires : goal.put_name-length-requires
put_name-length-requires c = let f = c.args.found in (f.ended, f.told, room c.args.value.now c.put_address.new.out c.requires c.put_address.auto.out)

pub bounds-value-17 : goal.bounds-value-17
bounds-value-17 c = simp length-set (omega (arith, all c.args.value.now c.put_address.new.out c.requires c.put_address.auto.out c.put_name-length.new.out c.put_name-length.auto.out))

pub returns : goal.returns
unfolding value_octets value_from
returns c =
    let n = c.put_name-length in
    value_put c.args.value.now c.put_address.new.out c.requires (sixteen c.args.value.now c.put_address.new.out c.requires c.put_address.auto.out) n.new.out c.args.found.prefix n.result
    ∙ λ i. c.args.found.prefix ∷ (c.put_address.ensures i ++ (n.ensures.1 i ∷ n.ensures.0 i))

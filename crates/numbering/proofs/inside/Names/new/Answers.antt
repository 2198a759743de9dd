-- `numbering::inside::Names::new` meets its contract.
use Rattle.octets.specs.Octets.{blank}
use Rattle.numbering.proofs.ListingLaws.{listing_none}
use Rattle.numbering.proofs.inside.Names.new.Goals as goal

pub invariant_of-result : goal.invariant_of-result
unfolding blank
invariant_of-result c = record { listing = listing_none c.args.table.now }

-- `reverse::walk` meets its contract: each end by one law, and each step by the contract itself with one rewrite less.
use Rattle.reverse.proofs.+walk.Given as goal

abbrev pub decreases-walk : goal.decreases-walk
decreases-walk l = l.limit

-- The words of demand 2 about a call: what the types of its arguments give.
use contract.Lifetimes.{Lfts}
use denote.Signature.{Signature}
use denote.Triple.Entry.{Args}
use borrow.Fn.World.{World}
use borrow.Fn.Learn.{Can}

-- The arguments of a call are values of the parameters' types: in some model of the language, some memory holds them together with all that their
-- types own. It is the logic's own `CanOwn`, and each caller has it (`callers_have`, proofs/Owned.antt).
abbrev pub Ownable : (S : Signature) (κs : Lfts S.lifetimes) → Args S κs → Type 2
Ownable S κs a = (w : World) × Can w S κs a

-- `octets::inside::copy` meets its contract: one octet more is the next one of a paste.
use Prim.Native.Nat.{◌+◌}
use mathlib.Core.Path.{◌≡◌, refl, sym}
use lib.ListN.{get_or, drop, length-drop, length-set}
use lib.Seq.{get_or-drop, paste-zero, paste-suc}
use native.Mathlib.Omega.{arith}
use native.Mathlib.Numerals.{add-one}
use Rattle.octets.proofs.inside.copy.Goals as goal

pub loop-i-init : goal.loop-i-init
loop-i-init c = let a = c.args in (refl, paste-zero a.out.now a.to (drop a.at a.src.now))

pub loop-i-preserved : goal.loop-i-preserved
loop-i-preserved c =
    let l = c.loop-i in
    let a = c.args in
    let n = length-drop a.at a.src.now in
    let g : get_or a.src.now (a.at + l.i) 0 ≡ get_or (drop a.at a.src.now) l.i 0 = sym (get_or-drop a.at a.src.now l.i 0) in (
      simp length-set l.invariant.0,
      rw (l.invariant.1, g, add-one) (paste-suc a.out.now a.to (drop a.at a.src.now) l.i 0 (omega arith) (omega arith)),
    )

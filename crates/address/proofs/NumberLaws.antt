-- The numbers of all faults in a telegram lie together: 10 to 15. Assumes nothing.
use Prim.Native.Nat.{◌≤◌}
use native.Mathlib.Omega.{arith}
use lib.Dec.{lit≤}
use Rattle.frame.proofs.NumberLaws.{frame_between}
use Rattle.address.specs.Address.{fault_number}
use Rattle.address.specs.declared.Fault.{Fault}
use Rattle.address.specs.declared.Fault.TheVariants.{InFrame, InAddress}

pub fault_between : (f : Fault) → (10 ≤ fault_number f) × (fault_number f ≤ 15)
fault_between (InFrame k) = ((frame_between k).0, omega (arith, (frame_between k).1))
fault_between InAddress = (lit≤ tt, lit≤ tt)

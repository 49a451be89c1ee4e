-- `decimal::power_of_five` meets its contract. Assumes nothing.
use Prim.Native.Nat.{◌^◌, ◌≤◌}
use native.Mathlib.Nat.{pow-le-pow_right}
use native.Mathlib.Omega.{arith}
use lib.Dec.{lit<}
use Rattle.decimal.proofs.power_of_five.Goals as goal

pub pow-requires : goal.pow-requires
pow-requires c =
    let a : 5 ^ c.args.k ≤ 5 ^ 17 = pow-le-pow_right (lit< tt) c.requires in
    omega (arith, a)

-- How many words cubes take. Assumes nothing.
use mathlib.Core.Bool.{Bool, true, false}
use mathlib.Core.List.{List}
use Prim.Native.Nat.{ℕ, ◌*◌, ◌≤◌}
use native.Mathlib.Nat.{mul-le-mul}
use native.Mathlib.Omega.{arith}
use Rattle.rules.specs.Cube.{floats_of}
use Rattle.rules.specs.Program.{type_count, coloured_in}
use Rattle.workfile.specs.Work.{Good}

pub few_floats : (coloured : Bool) → floats_of coloured ≤ 12
few_floats true = omega arith
few_floats false = omega arith

module _ (file : List ℕ) (g : Good file) where
  abbrev floats : ℕ
  floats = floats_of (coloured_in file)

  pub registry_few : 24 * floats * type_count file ≤ 2304
  registry_few = mul-le-mul {n₂ = 288} {m₂ = 8} (omega (arith, few_floats (coloured_in file))) g.types

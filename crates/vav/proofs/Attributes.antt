-- The attributes, one by one: positions come first, and every other one past them. Assumes nothing.
use mathlib.Core.Path.{◌≡◌, refl, sym}
use mathlib.Core.Logic.{◌≢◌}
use mathlib.Core.Bool.{true, false, true≢false}
use denote.Enum.Bare.{sameb}
use Prim.Native.Nat.{◌≤◌}
use native.Mathlib.Omega.{arith}
use Rattle.rules.specs.Mesh.{position, normal}
use Rattle.vav.specs.declared.Attribute.{Attribute}
use Rattle.vav.specs.declared.Attribute.TheVariants.{Position, Normal, Uv, Colour}
use Rattle.vav.specs.contracts.Attribute.{the_type}
use Rattle.vav.specs.Attributes.{attribute_of}

pub is_first : (a : Attribute) → sameb the_type a Position ≡ true → attribute_of a ≡ position
is_first Position e = refl
is_first Normal e = absurd (true≢false (sym e))
is_first Uv e = absurd (true≢false (sym e))
is_first Colour e = absurd (true≢false (sym e))

pub is_normal : (a : Attribute) → sameb the_type a Normal ≡ true → attribute_of a ≡ normal
is_normal Position e = absurd (true≢false (sym e))
is_normal Normal e = refl
is_normal Uv e = absurd (true≢false (sym e))
is_normal Colour e = absurd (true≢false (sym e))

pub is_past : (a : Attribute) → sameb the_type a Position ≡ false → 3 ≤ (attribute_of a).start
is_past Position e = absurd (true≢false e)
is_past Normal e = omega arith
is_past Uv e = omega arith
is_past Colour e = omega arith

-- ---- the start alone tells the attribute
pub starts_first : (a : Attribute) → (attribute_of a).start ≡ 0 → attribute_of a ≡ position
starts_first Position e = refl
starts_first Normal e = absurd (omega arith)
starts_first Uv e = absurd (omega arith)
starts_first Colour e = absurd (omega arith)

pub starts_normal : (a : Attribute) → (attribute_of a).start ≡ 3 → attribute_of a ≡ normal
starts_normal Position e = absurd (omega arith)
starts_normal Normal e = refl
starts_normal Uv e = absurd (omega arith)
starts_normal Colour e = absurd (omega arith)

pub starts_past : (a : Attribute) → (attribute_of a).start ≢ 0 → 3 ≤ (attribute_of a).start
starts_past Position d = absurd (d refl)
starts_past Normal d = omega arith
starts_past Uv d = omega arith
starts_past Colour d = omega arith

pub few_floats : (a : Attribute) → (1 ≤ (attribute_of a).width) × ((attribute_of a).width ≤ 4) × ((attribute_of a).start ≤ 8)
few_floats Position = (omega arith, omega arith, omega arith)
few_floats Normal = (omega arith, omega arith, omega arith)
few_floats Uv = (omega arith, omega arith, omega arith)
few_floats Colour = (omega arith, omega arith, omega arith)

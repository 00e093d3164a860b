-- The attributes as the rules have them. Definitions only.
use Rattle.rules.specs.Mesh as rules
use Rattle.vav.specs.declared.Attribute.{Attribute}
use Rattle.vav.specs.declared.Attribute.TheVariants.{Position, Normal, Uv, Colour}

abbrev pub attribute_of : Attribute → rules.Attribute
attribute_of Position = rules.position
attribute_of Normal = rules.normal
attribute_of Uv = rules.uv
attribute_of Colour = rules.colour

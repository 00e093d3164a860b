-- A struct of three words, as the rules see it. Definitions only.
use Rattle.rules.specs.Cells as rules
use Rattle.floats.specs.declared.Triple.{Triple}

abbrev pub triple_of : Triple → rules.Triple
triple_of v = record { x = v.x; y = v.y; z = v.z }

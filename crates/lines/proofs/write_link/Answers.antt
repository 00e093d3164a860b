-- `lines::write_link` meets its contract. Assumes nothing.
use Rattle.lines.proofs.write_link.Goals as goal

pub write_quad-requires : goal.write_quad-requires
write_quad-requires c = rw c.key_of-key.ensures c.requires.1

pub returns : goal.returns
returns c = rw c.key_of-key.ensures at c.write_quad.ensures

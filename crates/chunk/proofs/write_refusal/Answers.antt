-- `chunk::write_refusal` meets its contract. Assumes nothing.
use Rattle.lines.proofs.Lining.{refused_room}
use Rattle.chunk.proofs.write_refusal.Goals as goal

pub write_refused-requires : goal.write_refused-requires
write_refused-requires c = refused_room _ _ c.requires

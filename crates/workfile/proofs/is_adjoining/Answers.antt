-- `workfile::is_adjoining` meets its contract. Assumes nothing.
use Rattle.workfile.proofs.Files.{adjoining_read}
use Rattle.workfile.proofs.is_adjoining.Goals as goal

pub returns : goal.returns
returns c =
    adjoining_read c.args.file.now c.requires.1 c.long_word-grid.ensures.0 c.cell_count.ensures.0
    c.long_word.ensures.0 c.long_word-2.ensures.0 c.long_word-3.ensures.0
    c.long_word-4.ensures.0

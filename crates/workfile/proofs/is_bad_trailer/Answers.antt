-- `workfile::is_bad_trailer` meets its contract. Assumes nothing.
use Rattle.workfile.proofs.Files.{trailer_read}
use Rattle.workfile.proofs.is_bad_trailer.Goals as goal

pub returns : goal.returns
returns c =
    trailer_read c.args.file.now c.requires.0 c.requires.1 c.word-types.ensures c.cell_count-cells.ensures.0
    c.word.ensures c.is_adjoining.ensures c.word-2.ensures
    c.word-3.ensures c.word-4.ensures

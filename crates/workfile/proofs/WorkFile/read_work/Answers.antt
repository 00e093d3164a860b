use Rattle.workfile.proofs.Files.{work_read}
use Rattle.workfile.proofs.WorkFile.read_work.Goals as goal

pub returns : goal.returns
returns c =
    work_read c.args.self.bytes.now c.args.self.good
    c.word-types.ensures c.cell_count-cells.ensures.0
    c.dims_of.ensures c.triple_at.ensures c.triple_at-2.ensures c.word.ensures
    c.word-2.ensures c.word-3.ensures
    c.word-4.ensures c.word-5.ensures
    c.word-6.ensures c.word-7.ensures c.word-8.ensures c.word-9.ensures

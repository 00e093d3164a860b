use Rattle.std.proofs.Common.{sym, length-take-le}
use Rattle.chunk.proofs.Answered.{answer_printed}
use Rattle.meshchunk.proofs.main.Goals as goal

-- what is printed lies in the buffer
pub slice_bounds-out-end : goal.slice_bounds-out-end
slice_bounds-out-end c = (answer_printed _ c.answer_file-end.ensures).1

pub slice_bounds-write_all-end : goal.slice_bounds-write_all-end
slice_bounds-write_all-end c = sym (length-take-le _ _ (answer_printed _ c.answer_file-end.ensures).1)

-- `workfile::is_bad_file` meets its contract. Assumes nothing.
use mathlib.Core.Path.{sym}
use Rattle.workfile.proofs.Files.{too_short, too_long}
use Rattle.workfile.proofs.is_bad_file.Goals as goal

pub returns-then-file-lt-TRAILER_BYTES : goal.returns-then-file-lt-TRAILER_BYTES
returns-then-file-lt-TRAILER_BYTES c = sym (too_short _ c.if-file-lt-TRAILER_BYTES.true)

pub returns-then-file-gt-MAX_BYTES : goal.returns-then-file-gt-MAX_BYTES
returns-then-file-gt-MAX_BYTES c = sym (too_long _ c.if-file-lt-TRAILER_BYTES.false c.if-file-gt-MAX_BYTES.true)

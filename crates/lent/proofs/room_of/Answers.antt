-- `lent::room_of` meets its contract. Assumes nothing.
use Rattle.rules.specs.Answers.{room_of}
use Rattle.lent.proofs.room_of.Goals as goal

pub returns-then-coloured : goal.returns-then-coloured
unfolding room_of
returns-then-coloured c = λ B long. cc

pub returns : goal.returns
unfolding room_of
returns c = λ B long. cc

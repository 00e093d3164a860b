-- 01's number for each refusal, and the rules' verdict for each verdict. Definitions only.
use Rattle.std.specs.Prelude.{ℕ, Result, Ok, Err}
use Rattle.rules.specs.Answers as rules
use Rattle.answers.specs.declared.Refusal.{Refusal}
use Rattle.answers.specs.declared.Refusal.TheVariants.{BadFile, BadSize, BadTypes, BadNumber, BadAtlas, NotACube, BadFace, BadCell, ShortRoom, BadCount, BadLinks, BadTriangles, BadEntry, NoRoom, WrongSet, WrongVertex}
use Rattle.answers.specs.declared.Refused.{Refused}

abbrev pub number_of : Refusal → ℕ
number_of BadFile = 1
number_of BadSize = 2
number_of BadTypes = 3
number_of BadNumber = 4
number_of BadAtlas = 5
number_of NotACube = 6
number_of BadFace = 7
number_of BadCell = 8
number_of ShortRoom = 9
number_of BadCount = 10
number_of BadLinks = 11
number_of BadTriangles = 12
number_of BadEntry = 13
number_of NoRoom = 14
number_of WrongSet = 15
number_of WrongVertex = 16

abbrev pub verdict_of : Result Unit Refused → rules.Verdict
verdict_of (Ok _) = rules.fine
verdict_of (Err e) = rules.refuse (number_of e.why) e.place

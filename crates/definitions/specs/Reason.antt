-- The number of each reason to refuse: document 01, "Refusals in checking order", and document 02.
use Rattle.std.specs.Prelude.{ℕ}
use Rattle.definitions.specs.declared.Reason.{Reason}
use Rattle.definitions.specs.declared.Reason.TheVariants.{NoHeader, HeaderRange, ByteCount, NamePair, NameByte, PropositionPair, PropositionCode, PropositionNesting, StepField, TreeCount, TreeNesting, PremissCount, AscribedJudgement, NoImplication, NoUniversal, Room, ComparedStep, ParameterCount, UnboundParameter, NoTerm, Version, Uncheckable, Given, NoStepLeft, NotAlphaEqual, NoOpenStep, ConclusionsDiffer, MergedLimit, Exercise, Ordinal, JudgedNumber}

abbrev pub number_of : Reason → ℕ
number_of NoHeader = 1
number_of HeaderRange = 2
number_of ByteCount = 3
number_of NamePair = 4
number_of NameByte = 5
number_of PropositionPair = 6
number_of PropositionCode = 7
number_of PropositionNesting = 8
number_of StepField = 9
number_of TreeCount = 10
number_of TreeNesting = 11
number_of PremissCount = 12
number_of AscribedJudgement = 13
number_of NoImplication = 14
number_of NoUniversal = 15
number_of Room = 16
number_of ComparedStep = 17
number_of ParameterCount = 18
number_of UnboundParameter = 19
number_of NoTerm = 20
number_of Version = 21
number_of Uncheckable = 22
number_of Given = 23
number_of NoStepLeft = 24
number_of NotAlphaEqual = 25
number_of NoOpenStep = 26
number_of ConclusionsDiffer = 27
number_of MergedLimit = 28
number_of Exercise = 29
number_of Ordinal = 30
number_of JudgedNumber = 31

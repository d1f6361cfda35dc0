-- 01, "Numbers given back": the number of each refusal, and the start bit that 5 carries.
use Rattle.std.specs.Prelude.{ℕ}
use Rattle.refusals.specs.declared.Refusal.{Refusal}
use Rattle.refusals.specs.declared.Refusal.TheVariants.{ChannelFree, Earlier, UnknownIdentifier, TooShort, NoLabel, UncoveredBit, NoRawNumber, ShortBuffer, NoSuchPost, NoSuchChannel, ChannelTaken, LimitOutside, NoSignal, NotSetUp, TooLong, IllNumber, LogChannel, LogStandard, LogExtended, LogLength, LogTick, BatchBytes, BatchRecord, BatchAnswers, CountFull, CompareLog, CompareRecords, CompareRoom, OtherInterface}

abbrev pub number_of : Refusal → ℕ
-- channel above 31, or held by no post
number_of ChannelFree = 1
-- time earlier than that post's latest accepted frame or tick
number_of Earlier = 2
-- identifier not in the table, in the frame's form
number_of UnknownIdentifier = 3
-- length differs from the table's; 02, Req 02: "4 when too short, 15 when too long"
number_of TooShort = 4
number_of TooLong = 15
-- a label signal holds a number without a label
number_of (NoLabel s) = 5
-- a bit that no signal covers is 1
number_of UncoveredBit = 6
-- a value to be written has no raw number, or a raw number does not fit its signal
number_of NoRawNumber = 7
-- lent buffer shorter than the message
number_of ShortBuffer = 8
-- post number above 7; 02, Req 13: "Refusal 9 now begins at 16"
number_of NoSuchPost = 9
-- channel above 31 at set-up
number_of NoSuchChannel = 10
-- channel held by another post
number_of ChannelTaken = 11
-- a post limit outside its range
number_of LimitOutside = 12
-- no signal of the message starts at that bit
number_of NoSignal = 13
-- post not set up
number_of NotSetUp = 14
-- ---- 02, Req 01, the night log: "each get a refusal above 15"
-- an ill-formed number: not in its shortest form, of more than five groups, or of more than 32 bits
number_of IllNumber = 16
-- channel above 31
number_of LogChannel = 17
-- standard identifier above 2,047
number_of LogStandard = 18
-- extended identifier above 29 bits
number_of LogExtended = 19
-- length above 9; in the writer 9 payload bytes count as above 9
number_of LogLength = 20
-- length 9 with another identifier part than 0
number_of LogTick = 21
-- ---- 02, Req 07, a batch: "each refuse the whole batch with a number of their own"
-- a slice above 4,096 bytes
number_of BatchBytes = 22
-- a malformed or cut record
number_of BatchRecord = 23
-- an answers slice shorter than the records
number_of BatchAnswers = 24
-- ---- 02, Req 08: "A frame or tick that would take its post's count past the largest is refused with a new number"
number_of CountFull = 25
-- ---- 02, Req 10, a comparison: "new numbers refuse a malformed or cut log, .. then more records, then lent lists of under 512 places"
number_of CompareLog = 26
number_of CompareRecords = 27
number_of CompareRoom = 28
-- ---- 02, Req 11: "A frame whose identifier only the other interface has gets, on that post, a refusal number of its own in 3's place"
number_of OtherInterface = 29

-- 02, Req 02: 5 "is to carry the start bit of the first offending signal"; no other refusal has one
abbrev pub start_of : Refusal → ℕ
start_of (NoLabel s) = s
start_of ChannelFree = 0
start_of Earlier = 0
start_of UnknownIdentifier = 0
start_of TooShort = 0
start_of UncoveredBit = 0
start_of NoRawNumber = 0
start_of ShortBuffer = 0
start_of NoSuchPost = 0
start_of NoSuchChannel = 0
start_of ChannelTaken = 0
start_of LimitOutside = 0
start_of NoSignal = 0
start_of NotSetUp = 0
start_of TooLong = 0
start_of IllNumber = 0
start_of LogChannel = 0
start_of LogStandard = 0
start_of LogExtended = 0
start_of LogLength = 0
start_of LogTick = 0
start_of BatchBytes = 0
start_of BatchRecord = 0
start_of BatchAnswers = 0
start_of CountFull = 0
start_of CompareLog = 0
start_of CompareRecords = 0
start_of CompareRoom = 0
start_of OtherInterface = 0

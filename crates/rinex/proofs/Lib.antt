-- What is proved of the definitions of `specs/`, with nothing assumed. The claims are the types of `specs/Theorems`:
-- `Agree.agree`, `Reasons.why`, `OneTables.one_file`, `NormalText.normal_spells`, `FitTables.fit_tables`, `FitEpoch.fit_epoch`,
-- `EpochInText.epoch_in_text`, `Replies.met`, `Settled.settled`, `ColumnSlots.column_of_slots`, `RoundTrip.round_trip`,
-- `Zeros.zero_missing`, `CodeTable.codes_tabled`, `OnlyTabled.only_tabled` and `MoreLent.more_room_of_the_rule`.
--
-- The way to `agree`. What is true of lists, fields, moments and lines is proved in the crates of these names. Laws: what holds of each system. Rows, Epochs and HeaderRecords
-- take one line each: what the tests of `specs/Tests` find in it is what the rule says of it, both ways.
-- Faults: the fault of a line is the lowest of the tests that hold of it.
-- Reach turns the judge into a run: the text is accepted where its lines lead, each without a fault, from `start` to a state where an epoch is due.
-- Places says what each place asks of a line, as a record, both ways; from there on no numbered refusal is met again.
-- The header: Entries takes the lines of one record, HeaderSteps one record after the other, HeaderRun all of them; Gather says what they leave
-- in the state, by what the rule gathers of them; Headers has both directions. The data: DataSound, DataComplete; Counting has the counts.
-- No text spells two files: OneHeader, OneData. Agree puts the halves together.
--
-- Reasons stands on Faults alone. WrittenFields: what is written in a field is plain and fills it. Columns says what stands in which columns
-- of a header line that is written. Forms says of what form a file is that some text spells, by the file alone.
-- OneTables reads a file back from tables that hold it; OneEpoch does so for an epoch that is handed in alone.
--
-- The way to `normal_spells`. WrittenHeader takes the written header lines one by one.
-- NormalHeader, NormalEpochs and NormalText: the normal lines of a header, an epoch and a file of the form spell it (`form_spells`).
-- So a file is spelled by some text exactly where it is of the form. NormalText also has `epoch_spelled`
-- and `epoch_writable`, of an epoch that is written alone.
--
-- The way to `fit_tables`. Lent says when entries lie in a lent buffer from a place on, and takes numbers, slots and rows; LentLines takes
-- times and carried lines, LentLists the code lists, LentEpochs the walk over the epochs: each test of `specs/Fit` finds a part
-- of the form that lies there, and passes where one does. FitTables puts them together; FitEpoch does so for an epoch that is lent alone.
-- HeldFile: the file that is read off from tables (`specs/Held`) is the one that they hold, and all its rows are those of the row table.
--
-- The promises. Settled: two replies that one allows coincide, by `one_file` and OneEpoch. Replies: there is one, by `agree`, `fit_tables` and
-- `fit_epoch`. ColumnSlots compares two of them, `column` and `slot`. RoundTrip goes from one to the other, reading and writing; Laid has what
-- it needs, that tables into which a file is laid hold it. Zeros and OnlyTabled stand on Forms, and for what is read on RoundTrip.
-- CodeTable has the test over the table of codes.
-- MoreRoom: only the test for 16 looks at the room, so two rooms have one verdict up to the first's 16. MoreLent: by `agree` both calls are of one file, which is laid alike into both.
-- SameFile: tables that hold one file are written alike and answer alike.
--
-- BothSides has the paper's edges that are marked [P]. Examples and ExampleSpelled have the paper's example, by computation; ExamplePair has it with a second epoch. Slips computes verdicts on small texts.
-- SummaryOne: the summary program's output is one text for each input.
-- Bites, BitesWriting, BitesAlone, BitesColumn and BitesZero: at the example and at damaged forms of it, what wrong programs reply and leave is not allowed by the promises.
-- BitesRoom: of wrong readers `MoreRoom` and `MoreLent` do not hold.
pub mod BothSides
pub mod Laws
pub mod Rows
pub mod Epochs
pub mod HeaderRecords
pub mod Faults
pub mod Reach
pub mod Places
pub mod Entries
pub mod HeaderSteps
pub mod Gather
pub mod HeaderRun
pub mod Headers
pub mod OneHeader
pub mod Counting
pub mod DataSound
pub mod DataComplete
pub mod OneData
pub mod Agree
pub mod Reasons
pub mod CodeTable
pub mod Columns
pub mod WrittenFields
pub mod Forms
pub mod OneTables
pub mod OneEpoch
pub mod Settled
pub mod WrittenHeader
pub mod NormalHeader
pub mod NormalEpochs
pub mod NormalText
pub mod Lent
pub mod LentLines
pub mod LentLists
pub mod LentEpochs
pub mod FitTables
pub mod FitEpoch
pub mod HeldFile
pub mod EpochInText
pub mod Replies
pub mod ColumnSlots
pub mod Laid
pub mod RoundTrip
pub mod Zeros
pub mod OnlyTabled
pub mod MoreRoom
pub mod MoreLent
pub mod SameFile
pub mod SummaryOne
pub mod Examples
pub mod ExampleSpelled
pub mod ExamplePair
pub mod Bites
pub mod BitesWriting
pub mod BitesAlone
pub mod BitesColumn
pub mod BitesZero
pub mod BitesRoom
pub mod Slips

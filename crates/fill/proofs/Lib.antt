-- Laws of the second pass, with nothing assumed.
--
-- The way to `Filled.filled`, that the second pass leaves the file laid out.
-- Puts: epochs, rows and lines put into the tables behind those before them. FilledData: the lines of epochs put these.
-- Walks turns the lines of the header into steps from state to state; FilledLists takes the lines of one list, FilledHeader those of one record
-- after the other, beside the rule's state, and HeaderEnd all up to END OF HEADER. FilledHead: the head's values and the carried bytes.
--
-- For the code. SecondPass: the parts of the pass are the whole. HeadTurns and DataTurns: a line of the header and one of the data, what it leaves
-- and what of `Runs` goes on. Loops: what the loops over lines keep.
mod Puts
mod Walks
mod FilledData
mod FilledLists
mod FilledHeader
mod HeaderEnd
mod FilledHead
pub mod Filled
pub mod SecondPass
pub mod HeadTurns
mod DataTurns
mod Loops

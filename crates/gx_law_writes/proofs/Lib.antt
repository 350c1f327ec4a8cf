pub mod Plans
pub mod Pieces
pub mod Next
pub mod Turns
pub mod Live
pub mod Alive
pub mod Placed
pub mod Homes
pub mod Told
pub mod Legal
pub mod Versions
pub mod Rows
pub mod Changing
pub mod Moves
pub mod NeedsRows
pub mod Steps
pub mod AtSegments
pub mod World
pub mod Waiting
pub mod Walk
pub mod Counts
pub mod Progress
pub mod Answers
pub mod Always
pub mod Counted
pub mod Inserting
pub mod Left
pub mod Join
pub mod Begun
pub mod UnderWay
pub mod RowHomes
pub mod Works
pub mod Halves
pub mod SegHalves
pub mod ChangeWorks
pub mod Going
pub mod Counting
pub mod Changes
pub mod Ended
pub mod Newest
pub mod Frames
pub mod Sound
pub mod Current
pub mod Views
pub mod Shown
pub mod Parts
pub mod VersionsTold
pub mod Chosen
pub mod Bases
pub mod Sighted
pub mod LegalChange
pub mod Never
pub mod Path
pub mod RowWalk
pub mod Points
pub mod Turn
pub mod Selected
pub mod SelectedRows
pub mod Comes
pub mod Late
pub mod Half
pub mod Undone
pub mod Worked
pub mod Staying
pub mod Outcome
pub mod Locks
pub mod OnBase
pub mod Writes
pub mod Joined
pub mod LegalLocks
pub mod Commands
pub mod Unsent
pub mod Answering
pub mod AnswersHold
pub mod Shapes
pub mod Reading
mod RowsHere
mod TurnsHere
pub mod Stands
pub mod Statements
pub mod Outgoing
pub mod Silent
mod AskedMarks
mod AskedHere
mod AskedSlices
mod AskedThere
mod AskedEvents
mod AskedRuns

pub mod Crossing
-- InputLemmas: the lines that a read hands on. ReadingLemmas: what a run has read. BookLemmas: a
-- book that grows. ChangeLemmas: the changes that a seat made.
-- TurnLemmas: the book of a script's world. AnswerLemmas: the replies of a seat's run are those of
-- a script. ProgressLemmas: what lines of a run have done.
pub mod InputLemmas
pub mod ReadingLemmas
pub mod BookLemmas
pub mod ChangeLemmas
pub mod TurnLemmas
pub mod AnswerLemmas
pub mod ProgressLemmas
-- WrittenLemmas: a line that was tried. OutcomeLemmas: what each command does is what the program
-- does with its arguments.
mod WrittenLemmas
mod OutcomeLemmas

pub mod NotDone

mod Saying
mod Unanswered
mod Endings

pub mod Answers
pub mod Exact
pub mod Passed
pub mod Records
pub mod Run
pub mod Unread

pub mod Rows
pub mod Replies
pub mod ReplyForms
pub mod WrittenReplies

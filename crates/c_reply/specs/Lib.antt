-- What a reply has of each answer:
pub mod Replies

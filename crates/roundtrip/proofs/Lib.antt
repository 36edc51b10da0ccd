-- Laws that belong to no one function, lowest first.
pub mod Checksums
pub mod Counts
pub mod Front
pub mod NumbersBack
pub mod MetadataBack
pub mod PostingsBack
pub mod DirectoryBack
pub mod OpeningBack
pub mod ReadsBack

-- Lists lent together with records, what more records than the most vertices do, and that the promise is met by one result.
pub mod Owning
pub mod Room
pub mod Unique

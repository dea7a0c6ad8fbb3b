-- What the inner functions of this crate promise each other. No public promise cites a definition of these files.
pub mod Writing

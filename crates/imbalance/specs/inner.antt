-- What the inner functions of this crate and of those above it promise each other. No public promise cites a definition of these files.
pub mod Moved

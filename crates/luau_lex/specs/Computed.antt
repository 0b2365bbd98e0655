-- The functions that compute what a text is cut into, and what the code keeps on its way. No law
-- and no clause that a reader has to believe speaks of these: `laws` proves that they give what the
-- laws determine.
pub mod Brackets
pub mod Numerals
pub mod Pieces
pub mod Reads
pub mod Signs
pub mod Steps
pub mod Strings
pub mod Tokens
pub mod Values

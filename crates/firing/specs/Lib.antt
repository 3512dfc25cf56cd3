-- Whether a sequent fires at a choice, and at which choice first: what answers say, and a law for each way out.
pub mod Answers
pub mod Mentions
pub mod Origins
pub mod Means
pub mod Loops
pub mod Search

-- Steps of the reading that the check takes by themselves.
pub mod Steps

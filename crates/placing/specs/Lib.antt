-- Children placed one at a time, and how many slots are free: what code that stores them one after another needs.
pub mod OneByOne
